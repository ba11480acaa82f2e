-- The tree that nodes and links make.
use Rattle.std.specs.Prelude.{ℕ, zero, suc, ◌/◌, List, [], ◌∷◌, map, Option}
use Rattle.std.specs.Prelude.{Some, None, Bool, false, ◌==◌}
use Rattle.std.specs.List.{filter}
use Rattle.xf_ir.specs.declared.kind.Kind.TheVariants.{Return}
use Rattle.xf_type.specs.declared.payload_type.PayloadType.{PayloadType}
use Rattle.xf_ir.specs.Tree.{Regions, no_regions, region, Tree}
use Rattle.xf_ir.specs.View.{ops_of}
use Rattle.xf_arena_bed.specs.declared.node.Node.{Node}
use Rattle.xf_arena_bed.specs.Home.{Home}
use Rattle.xf_rings.specs.Ring.{chain}
use Rattle.xf_arena_bed.specs.Sits.{Nodes, node_at, head}

abbrev pub stands_in : ℕ → Option Home → Bool
stands_in r None = false
stands_in r (Some h) = h.1 == r

abbrev pub node_in : ℕ → Option Node → Bool
node_in r None = false
node_in r (Some x) = stands_in r x.parent

abbrev pub in_region : Nodes → ℕ → ℕ → Bool
in_region nodes r i = node_in r (node_at nodes (i / 2))

-- the regions from one on, their operations taken from among these children
abbrev pub regions_from : Nodes → (ℕ → Tree) → ℕ → List (List PayloadType) → List ℕ → Regions
regions_from nodes f r [] is = no_regions
regions_from nodes f r (args ∷ more) is =
    region args (ops_of (map f (filter (in_region nodes r) is))) (regions_from nodes f (suc r) more is)

abbrev pub blank : Tree
blank = record { name = record { 0 = 0 }; kind = Return; attrs = []; operands = []; results = []; regions = no_regions }

abbrev pub tree_from : Nodes → (ℕ → Tree) → List ℕ → Option Node → Tree
tree_from nodes f is None = blank
tree_from nodes f is (Some x) =
    record {
      name = x.name;
      kind = x.kind;
      attrs = x.attrs;
      operands = x.operands;
      results = x.results;
      regions =
          regions_from nodes f 0 x.regions is;
    }

-- the tree at a child's number
abbrev pub tree_at : Nodes → List ℕ → ℕ → ℕ → ℕ → Tree
tree_at nodes next width zero i = blank
tree_at nodes next width (suc depth) i =
    tree_from nodes (tree_at nodes next width depth) (chain next width (head (i / 2)) (head (i / 2)))
    (node_at nodes (i / 2))
