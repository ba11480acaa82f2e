-- What is read of a payload, and what its text says, by short names.
use Rattle.std.specs.Prelude.{ℕ, Bool, List}
use Rattle.xf_lex.specs.declared.token.Token.{Token}
use Rattle.xf_format.specs.declared.parts.Parts.{Parts}
use Rattle.xf_format.specs.Format.{format}
use Rattle.xf_format.specs.Parts.{Said, said}
use Rattle.xf_format.specs.Rows.{is_yield}
use Rattle.xf_grammar.specs.Tree as tree
pub use Rattle.xf_grammar.specs.Tree.{no_nodes, node, no_bodies, body, no_nodes_said, node_said, no_bodies_said}
pub use Rattle.xf_grammar.specs.Tree.{body_said}

abbrev pub Nodes : Type 0
Nodes = tree.Nodes Parts

abbrev pub Bodies : Type 0
Bodies = tree.Bodies Parts

abbrev pub SaidNodes : Type 0
SaidNodes = tree.SaidNodes Said

abbrev pub SaidBodies : Type 0
SaidBodies = tree.SaidBodies Said

abbrev pub nodes_said : List Token → Nodes → SaidNodes
nodes_said all = tree.nodes_said (said all)

abbrev pub bodies_said : List Token → Bodies → SaidBodies
bodies_said all = tree.bodies_said (said all)

-- whether a block ends in a yield, and whether one that is to is left out
abbrev pub ends_in_yield : Nodes → Bool
ends_in_yield = tree.ends_in (λ (p : Parts). p.row) is_yield

abbrev pub lacks_yield : Parts → Nodes → Bool
lacks_yield = tree.lacks format

abbrev pub says_yield_last : SaidNodes → Bool
says_yield_last = tree.said_ends_in (λ (t : Said). t.row) is_yield

abbrev pub left_out : Said → SaidNodes → ℕ
left_out = tree.left_out format

-- how many operations there are, with the yields that are left out
abbrev pub operations : SaidNodes → ℕ
operations = tree.operations format

abbrev pub operations_inside : Said → SaidBodies → ℕ
operations_inside = tree.operations_inside format
