-- Live operations.
use Rattle.std.specs.Prelude.{◌≡◌, ℕ, Option, Some, None}
use Rattle.xf_ir.specs.Tree.{Tree, Regions}
use Rattle.xf_arena_tree.specs.Fills.{hollow}
use Rattle.xf_arena_tree.specs.Puts.{bare}
use Rattle.xf_arena_bed.specs.declared.node.Node.{Node}
use Rattle.xf_ir.specs.declared.name.OpName.{OpName}
use Rattle.xf_arena_bed.specs.declared.node.OpId.{OpId}
use Rattle.xf_arena_bed.specs.Sits.{head, item}
use Rattle.xf_arena_bed.specs.Value.{Layout, seat_at}

abbrev pub name_of : OpId → OpName
name_of id = record { 0 = id.serial }

-- the operation of that name is in that slot
abbrev pub IsLive : Layout → OpId → Type 0
IsLive m id = seat_at m.seats id.slot ≡ Some (name_of id)

abbrev pub AreLive : Layout → Option OpId → Type 0
AreLive m None = Unit {0}
AreLive m (Some id) = IsLive m id

abbrev pub names_of : Option OpId → Option OpName
names_of None = None
names_of (Some id) = Some (name_of id)

-- what a node is without what it holds
abbrev pub leaf_of : Node → Tree
leaf_of x =
    record {
      name = x.name;
      kind = x.kind;
      attrs = x.attrs;
      operands = x.operands;
      results = x.results;
      regions = bare x.regions;
    }

-- the tree of a node and blocks, the first of which are still empty
abbrev pub partly : Node → ℕ → Regions → Tree
partly x k rs =
    record {
      name = x.name;
      kind = x.kind;
      attrs = x.attrs;
      operands = x.operands;
      results = x.results;
      regions = hollow k rs;
    }

-- the number behind which a child is linked
abbrev pub number_before : OpId → Option OpId → ℕ
number_before p None = head p.slot
number_before p (Some k) = item k.slot
