-- The format of payloads: trees of operations by the table.
use Rattle.std.specs.Prelude.{ℕ, List, length, Bool, true, false, ◌==◌, codes}
use Rattle.xf_lex.specs.declared.token.Token.{Token}
use Rattle.xf_lex.specs.declared.token.TokenKind.TheVariants as kind
use Rattle.xf_type.specs.declared.payload_type.PayloadType.{PayloadType}
pub use Rattle.xf_type.specs.Limits.{most_open, most_operations}
use Rattle.xf_grammar.specs.Tokens.{terminal}
use Rattle.xf_grammar.specs.Reading.{Out}
use Rattle.xf_grammar.specs.Tree.{Shape, bare, regions, Format, head_at}
use Rattle.xf_format.specs.declared.expected.Expected.{Expected}
use Rattle.xf_format.specs.declared.expected.Expected.TheVariants as due
use Rattle.xf_format.specs.declared.parts.Parts.{Parts}
use Rattle.xf_format.specs.declared.row.Body.{Body}
use Rattle.xf_format.specs.declared.row.Body.TheVariants as body
use Rattle.xf_format.specs.declared.row.Level.{Level}
use Rattle.xf_format.specs.declared.row.Row.{Row}
use Rattle.xf_format.specs.declared.row.Row.TheVariants as row
use Rattle.xf_format.specs.Actions.{Action, Reading, free, Saying, free_said}
use Rattle.xf_format.specs.Parts.{no_parts, Said, nothing_said}
use Rattle.xf_format.specs.Rows.{slots, bodies, header, tail, inside, behind, is_yield}
use Rattle.xf_format.specs.Rules.{language, slots_rule, head_rule}
use Rattle.xf_format.specs.Tests.{Test, of_word, State}

-- a second body stands behind else
abbrev pub regions_of : Body → Shape Test
regions_of body.None = bare
regions_of body.One = regions true (of_word (codes "else")) (terminal kind.Word (codes "else")) 0
regions_of body.WithElse = regions true (of_word (codes "else")) (terminal kind.Word (codes "else")) 1

-- the yield of a loop or an if without results may be left out
abbrev pub ends_open : Row → List PayloadType → Bool
ends_open row.For results = length results == 0
ends_open row.If results = length results == 0
ends_open r results = false

-- what is due where a body begins
abbrev pub due_before : Row → Expected
due_before row.Function = due.FunctionBody
due_before r = due.Other

abbrev pub format : Format Reading Saying Action Expected Test State Row Level Parts Said
format = record {
  language = language;
  empty = free (no_parts row.Module);
  nothing = free_said nothing_said;
  parts = λ h. h.parts;
  says = λ t. t.said;
  head = head_rule;
  row = λ p. p.row;
  row_said = λ t. t.row;
  slots = λ r. slots_rule (slots r);
  shape = λ r. regions_of (bodies r);
  header = λ r. slots_rule (header r);
  tail = λ r. slots_rule (tail r);
  inside = inside;
  behind = behind;
  ends_open = λ p. ends_open p.row p.results;
  ends_open_said = λ t. ends_open t.row t.results;
  is_terminator = is_yield;
  most_open = most_open;
  most_nodes = most_operations;
  due_open = due_before;
  due_close = due.Other;
  due_nest = due.NestLimit;
  due_many = due.ListEnd;
}

-- the head of the operation at a number, which stands at a level: its row, and what is read of it
abbrev pub payload_head_at : List Token → Level → ℕ → Out (Row × Reading) Expected
payload_head_at all l at = head_at format (length all) all l at
