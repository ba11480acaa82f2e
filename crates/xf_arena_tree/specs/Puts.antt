use Rattle.xf_type.specs.declared.payload_type.PayloadType.{PayloadType}
-- A tree put at a spot.
use Rattle.std.specs.Prelude.{◌≡◌, ℕ, zero, suc, ◌≤◌, List, [], ◌∷◌, ◌++◌, length, take, drop, Option, Some, None}
use Rattle.std.specs.Prelude.{◌==◌, if◌then◌else◌}
use Rattle.xf_ir.specs.declared.name.OpName.{OpName}
use Rattle.xf_ir.specs.Tree.{Ops, no_ops, op, Regions, no_regions, region, Tree}
use Rattle.xf_ir.specs.Spots.{regions_insert}
use Rattle.xf_arena_tree.specs.Names.{heads, kids}

abbrev mutual
  pub ops_put : OpName → ℕ → ℕ → Tree → Ops → Ops
  ops_put p r i t no_ops = no_ops
  ops_put p r i t (op n k ds os ts rs rest) =
      if n.0 == p.0 then op n k ds os ts (regions_insert r i t rs) rest else op n k ds os ts (regions_put p r i t rs)
      (ops_put p r i t rest)

  pub regions_put : OpName → ℕ → ℕ → Tree → Regions → Regions
  regions_put p r i t no_regions = no_regions
  regions_put p r i t (region args ops rest) = region args (ops_put p r i t ops) (regions_put p r i t rest)

abbrev pub tree_put : OpName → ℕ → ℕ → Tree → Tree → Tree
tree_put p r i t u = if u.name.0 == p.0 then record u { regions = regions_insert r i t u.regions } else record u
    { regions = regions_put p r i t u.regions }

-- the place is one of the regions
abbrev pub InRange : ℕ → ℕ → Regions → Type 0
InRange r i no_regions = ⊥
InRange zero i (region args ops rest) = i ≤ length (heads ops)
InRange (suc r) i (region args ops rest) = InRange r i rest

-- the last name
abbrev pub last_name : List OpName → Option OpName
last_name [] = None
last_name (n ∷ []) = Some n
last_name (n ∷ (m ∷ ns)) = last_name (m ∷ ns)

-- the children before the place, and from it on
abbrev pub kids_before : ℕ → ℕ → Regions → List OpName
kids_before r i no_regions = []
kids_before zero i (region args ops rest) = take i (heads ops)
kids_before (suc r) i (region args ops rest) = heads ops ++ kids_before r i rest

abbrev pub kids_after : ℕ → ℕ → Regions → List OpName
kids_after r i no_regions = []
kids_after zero i (region args ops rest) = drop i (heads ops) ++ kids rest
kids_after (suc r) i (region args ops rest) = kids_after r i rest

-- regions with no operations
abbrev pub bare : List (List PayloadType) → Regions
bare [] = no_regions
bare (args ∷ more) = region args no_ops (bare more)

-- the place is one of the regions, and this child stands before it, or none does
pub record StandsAt (r i : ℕ) (sibling : Option OpName) (rs : Regions) : Type 0 where
  pub in_range : InRange r i rs
  pub before : last_name (kids_before r i rs) ≡ sibling
