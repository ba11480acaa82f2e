-- What stands at a number of the links.
use Rattle.std.specs.Prelude.{◌≡◌, ℕ, ◌%◌, ◌/◌, List, [], ◌∷◌, Option, Some, None, ◌==◌, if◌then◌else◌}
use Rattle.xf_ir.specs.declared.name.OpName.{OpName}
use Rattle.xf_arena_tree.specs.Kids.{Inner}
use Rattle.xf_arena_bed.specs.declared.node.Node.{Node}
use Rattle.xf_arena_bed.specs.declared.kid.Kid.{Kid}
use Rattle.xf_arena_bed.specs.Home.{Home}
use Rattle.xf_arena_bed.specs.Sits.{Nodes, node_at}
use Rattle.xf_arena_bed.specs.Live.{name_of}

abbrev pub kid_at_home : ℕ → OpName → Option Home → Option Kid
kid_at_home s n None = None
kid_at_home s n (Some h) = Some (record { id = record { slot = s; serial = n.0 }; region = h.1 })

abbrev pub kid_of_node : ℕ → Option Node → Option Kid
kid_of_node s None = None
kid_of_node s (Some x) = kid_at_home s x.name x.parent

-- the child of that number; the others are before first children
abbrev pub kid_seen : Nodes → ℕ → Option Kid
kid_seen nodes v = if v % 2 == 0 then None else kid_of_node (v / 2) (node_at nodes (v / 2))

-- a child by its name
abbrev pub inner_kid : Option Kid → Option Inner
inner_kid None = None
inner_kid (Some k) = Some (record { name = name_of k.id; region = k.region })

-- the children of these numbers
abbrev pub kid_before : Option Kid → List Kid → List Kid
kid_before None more = more
kid_before (Some k) more = k ∷ more

abbrev pub kids_left : Nodes → List ℕ → List Kid
kids_left nodes [] = []
kids_left nodes (v ∷ vs) = kid_before (kid_seen nodes v) (kids_left nodes vs)

-- each number is that of a child
abbrev pub AreKids : Nodes → List ℕ → Type 0
AreKids nodes [] = Unit {0}
AreKids nodes (v ∷ vs) = ((k : Kid) × (kid_seen nodes v ≡ Some k)) × AreKids nodes vs

abbrev pub inner_kids : List Kid → List Inner
inner_kids [] = []
inner_kids (k ∷ ks) = record { name = name_of k.id; region = k.region } ∷ inner_kids ks
