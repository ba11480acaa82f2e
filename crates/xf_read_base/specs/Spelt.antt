-- The head that is spelt at a token.
use Rattle.std.specs.Prelude.{◌≡◌, ℕ, ◌<◌, ◌≤◌, List, [], length, map, ◌++◌, Option, Some, None, Result, Ok, Err}
use Rattle.std.specs.Prelude.{◌∷◌, ◌+◌, Bool, true, false, ◌&&◌, ◌||◌, codes, drop, if◌then◌else◌}
use Rattle.xf_type.specs.declared.payload_type.PayloadType.{PayloadType}
use Rattle.xf_span.specs.declared.fault.Fault.{Fault}
use Rattle.xf_span.specs.declared.fault.TextFault.{TextFault}
use Rattle.xf_span.specs.declared.fault.TextFault.TheVariants as text_fault
use Rattle.xf_lex.specs.declared.token.Token.{Token}
use Rattle.xf_lex.specs.declared.token.TokenKind.TheVariants as kind
use Rattle.xf_shape.specs.TypeWords.{begins}
use Rattle.xf_grammar.specs.Tokens.{terminal_of, terminal_at, word_at, is_kind, is_word, colon}
use Rattle.xf_grammar.specs.Tokens.{open_brace, close_brace}
use Rattle.xf_grammar.specs.Reading.{Out}
use Rattle.xf_format.specs.declared.expected.Expected.{Expected}
use Rattle.xf_format.specs.declared.expected.Expected.TheVariants as due
use Rattle.xf_format.specs.declared.parts.Literal.{Literal}
use Rattle.xf_format.specs.declared.parts.Literal.TheVariants as literal
use Rattle.xf_format.specs.declared.parts.Parts.{Parts}
use Rattle.xf_format.specs.declared.parts.Ref.{Ref}
use Rattle.xf_format.specs.declared.parts.Use.{Use}
use Rattle.xf_format.specs.declared.row.Level.TheVariants as level
use Rattle.xf_format.specs.declared.row.Row.{Row}
use Rattle.xf_format.specs.declared.row.Row.TheVariants as row
use Rattle.xf_format.specs.Actions.{Reading}
use Rattle.xf_format.specs.Format.{payload_head_at}
use Rattle.xf_format.specs.Parts.{ref, entry_said, said}
use Rattle.xf_format.specs.Words.{row_begun}
use Rattle.xf_read_base.specs.declared.heads.Head.{Head}
use Rattle.xf_read_base.specs.Stops.{due_fault}
use Rattle.xf_read_base.specs.Structured.{Aliases, no_aliases}
use Rattle.xf_read_base.specs.Values.{attrs_said, kind_said}
use Rattle.xf_read_base.specs.Verdicts.{is_row}

-- the types that are stated, in order: of a loop those of its results go before its width, and true and false state
-- none
abbrev pub unless_truth : Option Literal → List PayloadType → List PayloadType
unless_truth (Some (literal.Truth b)) ts = []
unless_truth (Some (literal.Integer negative at)) ts = ts
unless_truth (Some literal.Elements) ts = ts
unless_truth None ts = ts

abbrev pub stated_by : Row → Parts → List PayloadType
stated_by row.Constant p = unless_truth p.literal p.types
stated_by row.For p = p.results ++ p.types
stated_by r p = p.types ++ p.results

-- the number of a use %n#i, and 0 of any other
abbrev pub count_used : Option ℕ → ℕ
count_used None = 0
count_used (Some i) = i

abbrev pub ref_used : Use → Ref
ref_used u = ref u.token (count_used u.number)

-- the head with these parts, up to a token, by what the aliases of maps stand for
abbrev pub head_of : Aliases → List Token → Parts → ℕ → Head
head_of aliases all p next = record {
  kind = kind_said aliases p.row (said all p);
  attrs = attrs_said (map (entry_said all) p.entries);
  defines = p.defines;
  args = p.args;
  uses = map ref_used p.uses;
  types = stated_by p.row p;
  next = next;
}

-- where the word of the operation at a token stands: there, or behind the name of its results
abbrev pub word_place : List Token → ℕ → ℕ
word_place all at =
    if is_kind kind.Value (terminal_at all at)
    then (if is_kind colon (terminal_at all (at + 1)) then at + 4 else at + 2)
    else at

-- ---- the operations of tensor and linalg, and constants that are tensors, which another reader reads

abbrev pub is_shaped : List ℕ → Bool
is_shaped w = is_row w && (begins (codes "tensor.") w || begins (codes "linalg.") w)

-- behind the first closing brace of these tokens, the first of which has this number
abbrev pub behind_brace : List Token → ℕ → ℕ
behind_brace [] at = at
behind_brace (t ∷ ts) at = if is_kind close_brace (terminal_of (Some t)) then at + 1 else behind_brace ts (at + 1)

-- where the value of a constant stands, by where that stands which follows its word: there, or behind attributes
abbrev pub value_place : List Token → ℕ → ℕ
value_place all at =
    if is_kind open_brace (terminal_at all at) then behind_brace (drop (at + 1) all) (at + 1) else at

abbrev pub is_constant : Option Row → Bool
is_constant (Some row.Constant) = true
is_constant r = false

-- whether the word of a constant with the body of a tensor stands there
abbrev pub is_dense : List Token → ℕ → Bool
is_dense all at =
    is_constant (row_begun (terminal_at all at)) && is_word (codes "dense") (terminal_at all (value_place all (at + 1)))

-- whether an operation of the other reader stands at a token
abbrev pub is_other : List Token → ℕ → Bool
is_other all at = is_shaped (word_at all (word_place all at)) || is_dense all (word_place all at)

-- ---- the head

-- the fault at the first token that fits no head; none where no operation begins
abbrev pub stopped : List Token → ℕ → Expected → Option Fault
stopped all at due.Operation =
    if is_row (word_at all at) then Some (due_fault all at due.Operation) else None
stopped all at d = Some (due_fault all at d)

abbrev pub none_or : Option Fault → Result (Option Head) Fault
none_or None = Ok None
none_or (Some f) = Err f

-- what reading says of a head
abbrev pub head_told : List Token → Out (Row × Reading) Expected → Result (Option Head) Fault
head_told all (Ok x) = Ok (Some (head_of no_aliases all x.0.1.parts x.1))
head_told all (Err e) = none_or (stopped all e.0 e.1)

-- the head of the operation at a token, wherever it may stand
abbrev pub head_spelt : List Token → ℕ → Result (Option Head) Fault
head_spelt all at =
    if is_other all at then Ok None else head_told all (payload_head_at all level.Any at)

-- where a head ends: behind its first token, and not behind the last
abbrev pub EndsWithin : List Token → ℕ → Option Head → Type 0
EndsWithin all at None = Unit {0}
EndsWithin all at (Some h) = (at < h.next) × (h.next ≤ length all)

-- an answer is that, unless memory was refused
abbrev pub Answers : Result (Option Head) TextFault → Result (Option Head) Fault → Type 0
Answers (Ok h) told = told ≡ Ok h
Answers (Err (text_fault.At f)) told = told ≡ Err f
Answers (Err text_fault.NoMemory) told = Unit {0}
