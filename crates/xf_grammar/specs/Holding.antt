-- Trees of whose operations something holds.
use Rattle.std.specs.Prelude.{ℕ, ◌<◌}
use Rattle.xf_grammar.specs.Tree.{Nodes, no_nodes, node, Bodies, no_bodies, body}

-- each operation has a property of what is kept of it, and its first token and the braces that close its blocks are
-- below a number
abbrev mutual
  pub NodesHave : {P : Type 0} → ℕ → (P → Type 0) → Nodes P → Type 0
  NodesHave n Q no_nodes = Unit {0}
  NodesHave n Q (node first p bs rest) = (first < n) × (Q p × (BodiesHave n Q bs × NodesHave n Q rest))

  pub BodiesHave : {P : Type 0} → ℕ → (P → Type 0) → Bodies P → Type 0
  BodiesHave n Q no_bodies = Unit {0}
  BodiesHave n Q (body ns close rest) = NodesHave n Q ns × ((close < n) × BodiesHave n Q rest)
