-- Texts of whose operations something holds; and the numbers of tokens in a tree are those of tokens.
use Rattle.std.specs.Prelude.{ℕ, Bool, true, false, Result, Ok, Err}
use Rattle.xf_grammar.specs.Holding.{NodesHave}
use Rattle.xf_grammar.specs.Tree.{no_nodes, node, Bodies, no_bodies, body}
use Rattle.xf_format.specs.declared.expected.Stopped.{Stopped}
use Rattle.xf_format.specs.declared.parts.Parts.{Parts}
use Rattle.xf_format.specs.Within.{PartsWithin}
use Rattle.xf_syntax.specs.declared.tree.File.{File}

-- the functions of a module that is left out, which the end closes
abbrev pub FunctionsHave : ℕ → (Parts → Type 0) → Bodies Parts → Type 0
FunctionsHave n Q no_bodies = Unit {0}
FunctionsHave n Q (body ns close rest) = NodesHave n Q ns

abbrev pub RootHas : ℕ → (Parts → Type 0) → Bool → ℕ → Parts → Bodies Parts → Type 0
RootHas n Q true first p bs = NodesHave n Q (node first p bs no_nodes)
RootHas n Q false first p bs = FunctionsHave n Q bs

-- each operation that is written has a property of its parts, and its first token and its braces are below a number
abbrev pub FileHas : ℕ → (Parts → Type 0) → File → Type 0
FileHas n Q file = RootHas n Q file.written file.root.first file.root.parts file.root.bodies

-- each number in a tree is below n
abbrev pub FileWithin : ℕ → File → Type 0
FileWithin n file = FileHas n (PartsWithin n) file

abbrev pub ReadWithin : ℕ → Result File Stopped → Type 0
ReadWithin n (Ok file) = FileWithin n file
ReadWithin n (Err e) = Unit {0}
