-- How the code's own trees are seen, and how deep they are.
use Rattle.std.specs.Prelude.{ℕ, ◌+◌, ◌≤◌, List, [], ◌∷◌}
use Rattle.std.proofs.Common.{arith}
use denote.Param.Weighed.{most}
use Rattle.xf_grammar.specs.Tree.{Nodes, no_nodes, node, Bodies, no_bodies, body, Tree, Block, tree, block, cons}
use Rattle.xf_format.specs.declared.parts.Parts.{Parts}
use Rattle.xf_syntax.specs.declared.tree.SyntaxNode.TheInside.{Inside}
use Rattle.xf_syntax.specs.declared.tree.Body.TheInside.{Inside as BodyInside}

abbrev pub bodies_of : {P : Type 0} → List (Block P) → Bodies P
bodies_of [] = no_bodies
bodies_of (b ∷ bs) = body b.nodes b.close (bodies_of bs)

abbrev pub nodes_of : {P : Type 0} → List (Tree P) → Nodes P
nodes_of [] = no_nodes
nodes_of (t ∷ ts) = cons t (nodes_of ts)

abbrev pub tree_of : Inside → Tree Parts
tree_of a = tree a.first a.parts.value (bodies_of a.bodies.items)

abbrev pub block_of : BodyInside → Block Parts
block_of b = block (nodes_of b.nodes.items) b.close

abbrev mutual
  pub nodes_size : {P : Type 0} → Nodes P → ℕ
  nodes_size no_nodes = 0
  nodes_size (node first p bs rest) = bodies_size bs + nodes_size rest + 1

  pub bodies_size : {P : Type 0} → Bodies P → ℕ
  bodies_size no_bodies = 0
  bodies_size (body ns close rest) = nodes_size ns + bodies_size rest + 1

abbrev pub tree_size : Tree Parts → ℕ
tree_size t = bodies_size t.bodies

abbrev pub block_size : Block Parts → ℕ
block_size b = nodes_size b.nodes

pub bodies_fall : (bs : List (Block Parts)) → most (λ b. block_size b + 1) bs ≤ bodies_size (bodies_of bs)
bodies_fall [] = omega arith
bodies_fall (b ∷ bs) = omega (arith, bodies_fall bs)

pub trees_fall : (ts : List (Tree Parts)) → most (λ t. tree_size t + 1) ts ≤ nodes_size (nodes_of ts)
trees_fall [] = omega arith
trees_fall (t ∷ ts) = omega (arith, trees_fall ts)
