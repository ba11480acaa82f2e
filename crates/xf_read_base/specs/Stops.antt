-- The place and the code of a fault of the syntax.
use Rattle.std.specs.Prelude.{ℕ, ◌+◌, List, [], ◌∷◌, Option, Some, None, slice_get}
use Rattle.xf_span.specs.declared.place.Place.{Place}
use Rattle.xf_span.specs.declared.code.Code.TheVariants.{A1, A5, A6, A7, N1}
use Rattle.xf_span.specs.declared.fault.Fault.{Fault}
use Rattle.xf_span.specs.Fault.{fault_at, numbered_fault}
use Rattle.xf_lex.specs.declared.token.Token.{Token}
use Rattle.xf_span.specs.Place.{first_place, place_after}
use Rattle.xf_grammar.specs.Tokens.{terminal_at}
use Rattle.xf_format.specs.declared.expected.Expected.{Expected}
use Rattle.xf_read_base.specs.declared.verdict.Verdict.{Verdict}
use Rattle.xf_read_base.specs.declared.verdict.Verdict.TheVariants.{Syntax, OutOfProfile, NotBuilt, TooMany, TooDeep}
use Rattle.xf_read_base.specs.Verdicts.{verdict}

-- the place behind the last token
abbrev pub end_place : Place → List Token → Place
end_place p [] = p
end_place p (t ∷ ts) = end_place (place_after t.place t.bytes) ts

abbrev pub place_or_end : List Token → Option Token → Place
place_or_end all None = end_place first_place all
place_or_end all (Some t) = t.place

-- the place of a token, of which the end of the text is one
abbrev pub stop_place : List Token → ℕ → Place
stop_place all at = place_or_end all (slice_get all at)

abbrev pub judged : Verdict → Place → Fault
judged Syntax p = fault_at A1 p
judged (OutOfProfile n) p = numbered_fault A6 p n
judged NotBuilt p = fault_at N1 p
judged TooMany p = fault_at A7 p
judged TooDeep p = fault_at A5 p

-- the fault of a reading that stops at a token, by what was due there
abbrev pub due_fault : List Token → ℕ → Expected → Fault
due_fault all at d = judged (verdict d (terminal_at all at) (terminal_at all (at + 1))) (stop_place all at)
