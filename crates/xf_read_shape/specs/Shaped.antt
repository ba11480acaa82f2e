-- The head of an operation of tensor or linalg, or of a constant that is a tensor, that is spelt at a token.
use Rattle.std.specs.Prelude.{ℕ, List, Option, Some, None, Result, Ok, Err, if◌then◌else◌}
use Rattle.xf_span.specs.declared.fault.Fault.{Fault}
use Rattle.xf_lex.specs.declared.token.Token.{Token}
use Rattle.xf_grammar.specs.Reading.{Out}
use Rattle.xf_format.specs.declared.expected.Expected.{Expected}
use Rattle.xf_format.specs.declared.row.Level.TheVariants as level
use Rattle.xf_format.specs.declared.row.Row.{Row}
use Rattle.xf_format.specs.Actions.{Reading}
use Rattle.xf_format.specs.Format.{payload_head_at}
use Rattle.xf_read_base.specs.declared.heads.Head.{Head}
use Rattle.xf_read_base.specs.Spelt.{head_of, is_other}
use Rattle.xf_read_base.specs.Stops.{due_fault}
use Rattle.xf_read_base.specs.Structured.{Aliases}

-- what reading says of a head, by what the aliases of maps stand for
abbrev pub head_told : Aliases → List Token → Out (Row × Reading) Expected → Result (Option Head) Fault
head_told aliases all (Ok x) = Ok (Some (head_of aliases all x.0.1.parts x.1))
head_told aliases all (Err e) = Err (due_fault all e.0 e.1)

-- the head of the operation at a token, which the first reader does not read
abbrev pub head_spelt : Aliases → List Token → ℕ → Result (Option Head) Fault
head_spelt aliases all at =
    if is_other all at then head_told aliases all (payload_head_at all level.Any at) else Ok None
