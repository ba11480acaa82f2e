-- The operations of all blocks of an operation, in order, each with the number of its region.
use Rattle.std.specs.Prelude.{ℕ, zero, suc, ◌-◌, List, [], ◌∷◌, Option, Some, None, ◌==◌, nat_lt, if◌then◌else◌}
use Rattle.xf_arena_tree.specs.Names.{heads}
use Rattle.xf_ir.specs.declared.name.OpName.{OpName}
use Rattle.xf_ir.specs.Tree.{Ops, no_ops, op, Regions, no_regions, region}

pub record Inner : Type 0 where
  pub name : OpName
  pub region : ℕ

-- those of a block, before others
abbrev pub block_inner : ℕ → Ops → List Inner → List Inner
block_inner r no_ops more = more
block_inner r (op n k ds os ts rs rest) more = record { name = n; region = r } ∷ block_inner r rest more

abbrev pub inner_of : ℕ → Regions → List Inner
inner_of r no_regions = []
inner_of r (region args ops rest) = block_inner r ops (inner_of (suc r) rest)

abbrev pub first_item : {A : Type 0} → List A → Option A
first_item [] = None
first_item (x ∷ xs) = Some x

-- those before place i of region r
abbrev pub before_place : ℕ → ℕ → List Inner → List OpName
before_place r i [] = []
before_place r i (k ∷ ks) =
    if nat_lt r k.region then []
    else if k.region == r then (if i == 0 then [] else k.name ∷ before_place r (i - 1) ks)
    else k.name ∷ before_place r i ks

-- those of a region
abbrev pub names_in : ℕ → List Inner → List OpName
names_in r [] = []
names_in r (k ∷ ks) = if k.region == r then k.name ∷ names_in r ks else names_in r ks

-- the last name, or another where there is none
abbrev pub last_or : Option OpName → List OpName → Option OpName
last_or o [] = o
last_or o (n ∷ ns) = last_or (Some n) ns

-- the names of a block's own operations, of region r
abbrev pub heads_at : ℕ → Regions → List OpName
heads_at r no_regions = []
heads_at zero (region args ops rest) = heads ops
heads_at (suc r) (region args ops rest) = heads_at r rest
