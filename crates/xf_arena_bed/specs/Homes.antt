-- Where operations stand in the tree.
use Rattle.std.specs.Prelude.{ℕ, suc, ◌+◌, List, [], ◌∷◌, Option, Some, None, ◌==◌, if◌then◌else◌, slice_get}
use Rattle.xf_ir.specs.declared.name.OpName.{OpName}
use Rattle.xf_ir.specs.declared.spot.Spot.{Spot}
use Rattle.xf_ir.specs.Spots.{tree_locate, spot_at}
use Rattle.xf_ir.specs.Tree.{Tree}
use Rattle.xf_ir.specs.Walk.{tree_find}
use Rattle.xf_arena_tree.specs.Kids.{Inner, heads_at}
use Rattle.xf_arena_bed.specs.Home.{Home}
use Rattle.xf_arena_bed.specs.Live.{name_of}

-- the operation and the region of a spot
abbrev pub block_of : Option Spot → Option Inner
block_of None = None
block_of (Some s) = Some (record { name = s.parent; region = s.region })

-- the operation that holds the one of a name, with the number of the region
abbrev pub tree_holder : OpName → Tree → Option Inner
tree_holder name t = block_of (spot_at (tree_locate name t))

-- the same of an operation in a slot
abbrev pub holder_named : Option Home → Option Inner
holder_named None = None
holder_named (Some h) = Some (record { name = name_of h.0; region = h.1 })

-- how many operations stand before a spot in its block
abbrev pub index_of_spot : Option Spot → ℕ
index_of_spot None = 0
index_of_spot (Some s) = s.at

-- how many operations of a block stand before the one of a name
abbrev pub tree_index : OpName → Tree → ℕ
tree_index name t = index_of_spot (spot_at (tree_locate name t))

-- how many of these children stand in a region and before the one of a name
abbrev pub count_before : OpName → ℕ → List Inner → ℕ
count_before name r [] = 0
count_before name r (k ∷ ks) =
    if k.name.0 == name.0 then 0 else (if k.region == r then suc (count_before name r ks) else count_before name r ks)

-- the name of operation i of region r
abbrev pub kid_name : ℕ → ℕ → Option Tree → Option OpName
kid_name r i None = None
kid_name r i (Some t) = slice_get (heads_at r t.regions) i

-- the name of the operation at a spot
abbrev pub name_at_spot : Spot → Tree → Option OpName
name_at_spot s t = kid_name s.region s.at (tree_find s.parent t)

abbrev pub name_behind : Option Spot → Tree → Option OpName
name_behind None t = None
name_behind (Some s) t = name_at_spot (record s { at = s.at + 1 }) t

-- the name of the operation behind the one of a name in its block
abbrev pub tree_behind : OpName → Tree → Option OpName
tree_behind name t = name_behind (spot_at (tree_locate name t)) t
