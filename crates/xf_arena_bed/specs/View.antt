-- What the fields are seen as, and what they keep.
use Rattle.std.specs.Prelude.{◌≡◌, ℕ, ◌≤◌, ◌^◌, List, length, map, Option, Some, None, vec_capacity}
use Rattle.xf_ir.specs.Count.{tree_count}
use Rattle.xf_index.specs.Index.{name_at}
use Rattle.xf_arena_bed.specs.declared.bed.Bed.TheInside.{Inside}
use Rattle.xf_arena_bed.specs.declared.node.Node.{Node}
use Rattle.xf_arena_bed.specs.Value.{Layout}
use Rattle.xf_arena_bed.specs.Sits.{Nodes, node_at, Holds, FreeOk, item}
use Rattle.xf_arena_bed.specs.Seat.{seat_of}
use Rattle.xf_arena_bed.specs.Rebuilt.{tree_at}

abbrev pub layout_of : Inside → Layout
layout_of a = record {
  root = tree_at a.nodes.items a.links a.live a.live (item a.root);
  seats = map seat_of a.nodes.items;
}

abbrev pub number_in : Option Node → Option ℕ
number_in None = None
number_in (Some x) = Some x.name.0

-- the index has the name of each slot's operation
pub record IsIndexed (nodes : Nodes) (index : List (Option ℕ)) : Type 0 where
  pub within : length nodes ≤ length index
  pub same : (s : ℕ) → name_at index s ≡ number_in (node_at nodes s)

pub record IsBed (a : Inside) : Type 0 where
  pub holds : Holds a.nodes.items a.links a.root (layout_of a).root
  pub count : a.live ≡ tree_count (layout_of a).root
  pub free : FreeOk a.nodes.items a.links a.free.items a.live
  pub room : length a.nodes.items ≤ vec_capacity a.free
  pub few : length a.nodes.items ≤ 2 ^ 31
  pub indexed : IsIndexed a.nodes.items a.index
