-- How a tree lies in slots and links.
use Rattle.xf_ir.specs.declared.kind.Attr.{Attr}
use Rattle.xf_type.specs.declared.payload_type.PayloadType.{PayloadType}
use Rattle.xf_ir.specs.RuleBlocks.{block_args}
use Rattle.std.specs.Prelude.{◌≡◌, ℕ, suc, ◌+◌, ◌*◌, ◌<◌, List, [], ◌∷◌, map, length, slice_index_or}
use Rattle.std.specs.Prelude.{slice_index, Option, Some, None, Bool, true, false, ◌==◌, if◌then◌else◌}
use Rattle.xf_ir.specs.declared.name.OpName.{OpName}
use Rattle.xf_ir.specs.declared.name.ValueName.{ValueName}
use Rattle.xf_ir.specs.declared.kind.Kind.{Kind}
use Rattle.xf_ir.specs.Tree.{Ops, no_ops, op, Regions, no_regions, region, Tree, cons}
use Rattle.xf_rings.specs.Ring.{Path}
use Rattle.xf_rings.specs.Groups.{AllOnce}
use Rattle.xf_arena_bed.specs.declared.node.Node.{Node}
use Rattle.xf_arena_bed.specs.Home.{Home}
use Rattle.xf_arena_bed.specs.declared.node.OpId.{OpId}
use Rattle.xf_arena_tree.specs.Names.{kids, ops_has, OpsDistinct}

abbrev pub Nodes : Type 0
Nodes = List (Option Node)

abbrev pub node_at : Nodes → ℕ → Option Node
node_at nodes s = slice_index_or nodes s None

abbrev pub holds : OpName → Option Node → Bool
holds n None = false
holds n (Some x) = x.name.0 == n.0

-- the slot of a name
abbrev pub place : OpName → Nodes → ℕ
place n [] = 0
place n (x ∷ xs) = if holds n x then 0 else suc (place n xs)

-- a slot's numbers among the links: before its first child, and as a child
abbrev pub head : ℕ → ℕ
head s = 2 * s

abbrev pub item : ℕ → ℕ
item s = 2 * s + 1

abbrev pub item_of : Nodes → OpName → ℕ
item_of nodes n = item (place n nodes)

-- the operation `n` stands in its slot, and its children are linked
pub record Sits (nodes : Nodes) (next : List ℕ) (home : Option Home) (n : OpName) (k : Kind) (ds : List Attr)
    (os : List ValueName) (ts : List PayloadType) (args : List (List PayloadType)) (names : List OpName) : Type 0 where
  pub node : node_at nodes (place n nodes)
      ≡ Some (record { name = n; kind = k; attrs = ds; operands = os; results = ts; regions = args; parent = home })
  pub row : Path next (head (place n nodes)) (map (item_of nodes) names) (head (place n nodes))

abbrev pub id_at : Nodes → OpName → OpId
id_at nodes n = record { slot = place n nodes; serial = n.0 }

abbrev pub home_of : Nodes → OpName → ℕ → Option Home
home_of nodes n r = Some (id_at nodes n, r)

abbrev mutual
  pub OpsSit : Nodes → List ℕ → Option Home → Ops → Type 0
  OpsSit nodes next home no_ops = Unit {0}
  OpsSit nodes next home (op n k ds os ts rs rest) = Sits nodes next home n k ds os ts (block_args rs) (kids rs)
      × (RegionsSit nodes next n 0 rs × OpsSit nodes next home rest)

  pub RegionsSit : Nodes → List ℕ → OpName → ℕ → Regions → Type 0
  RegionsSit nodes next n r no_regions = Unit {0}
  RegionsSit nodes next n r (region args ops rest) = OpsSit nodes next (home_of nodes n r) ops
      × RegionsSit nodes next n (suc r) rest

-- each name has one slot
pub record AreApart (nodes : Nodes) : Type 0 where
  pub same : (s t : ℕ) (x y : Node) → node_at nodes s ≡ Some x → node_at nodes t ≡ Some y → x.name.0 ≡ y.name.0 → s ≡ t

-- the nodes and links are those of the tree, and no others
pub record Holds (nodes : Nodes) (next : List ℕ) (root : ℕ) (t : Tree) : Type 0 where
  pub sits : OpsSit nodes next None (cons t no_ops)
  pub known : (s : ℕ) (x : Node) → node_at nodes s ≡ Some x → ops_has x.name (cons t no_ops) ≡ true
  pub apart : AreApart nodes
  pub distinct : OpsDistinct (cons t no_ops)
  pub size : length next ≡ 2 * length nodes
  pub top : root ≡ place t.name nodes

-- slots that hold nothing and are linked to nothing
abbrev pub AllFree : Nodes → List ℕ → List ℕ → Type 0
AllFree nodes next [] = Unit {0}
AllFree nodes next (f ∷ fs) = ((f < length nodes)
    × ((node_at nodes f ≡ None) × ((slice_index next (item f) ≡ item f) × (slice_index next (head f) ≡ head f))))
    × AllFree nodes next fs

pub record FreeOk (nodes : Nodes) (next : List ℕ) (free : List ℕ) (live : ℕ) : Type 0 where
  pub each : AllFree nodes next free
  pub once : AllOnce free
  pub total : live + length free ≡ length nodes
