-- What stays where one operation is taken out: the rules that speak of each operation for itself.
use Rattle.std.proofs.Common.{◌≡◌, List, ◌∷◌, ◌++◌, true, false, eqb, ◌||◌, inl, inr, refl, ap}
use Rattle.std.specs.Prelude.{if◌then◌else◌}
use Rattle.std.proofs.lemmas.Bool.{cases_Bool, and_from, and_parts, or_cases, or_parts}
use Rattle.xf_type.specs.declared.payload_type.PayloadType.{PayloadType}
use Rattle.xf_ir.specs.declared.name.OpName.{OpName}
use Rattle.xf_ir.specs.declared.kind.Kind.{Kind}
use Rattle.xf_ir.specs.declared.kind.Kind.TheVariants as kind
use Rattle.xf_ir.specs.Tree.{Ops, no_ops, op, Regions, no_regions, region, Tree}
use Rattle.xf_ir.specs.Walk.{ops_names, regions_names}
use Rattle.xf_ir.specs.Lists.{same_name, is_among}
use Rattle.xf_ir.specs.Kinds.{symbol_of, is_terminator, ends_for, is_endless, is_return, is_yield, is_linalg_yield}
use Rattle.xf_ir.specs.Edits.{ops_at, regions_at, tail}
use Rattle.xf_ir.specs.Calls.{first_args}
use Rattle.xf_ir.specs.RuleBlocks.{block_args, is_end, block_ends, blocks_end, stands_at_end}
use Rattle.xf_ir.specs.Valid.{OpsInner, RegionsInner, FunctionsAlone, BlocksAlone, symbols_of, symbols_in, block_of}
use Rattle.xf_ir.proofs.Lists.{at_cases, not_left, not_right, Part, none, skip, keep, item_skip, item_keep, part_all}
use Rattle.xf_ir.proofs.Lists.{part_append, part_behind}
use Rattle.xf_ir.proofs.Found.{OpsWhere, RegionsWhere}

-- ---- names

mutual
  pub names_part : (name : OpName) (ops : Ops) → Part (ops_names (ops_at name tail ops)) (ops_names ops)
  names_part name no_ops = none
  names_part name (op n k ds os ts rs rest) =
      at_cases (eqb n.0 name.0) rest (op n k ds os ts (regions_at name tail rs) (ops_at name tail rest))
      (λ o. Part (ops_names o) (ops_names (op n k ds os ts rs rest)))
      (λ _. skip (part_behind (regions_names rs) (ops_names rest)))
      (λ _. keep (part_append (names_part_regions name rs) (names_part name rest)))

  pub names_part_regions : (name : OpName) (rs : Regions)
      → Part (regions_names (regions_at name tail rs)) (regions_names rs)
  names_part_regions name no_regions = none
  names_part_regions name (region args ops rest) = part_append (names_part name ops) (names_part_regions name rest)

-- ---- functions alone, and neither functions nor modules inside

mutual
  inner_kept : (name : OpName) (ops : Ops) → OpsInner ops → OpsInner (ops_at name tail ops)
  inner_kept name no_ops h = tt
  inner_kept name (op n k ds os ts rs rest) h =
      at_cases (eqb n.0 name.0) rest (op n k ds os ts (regions_at name tail rs) (ops_at name tail rest)) OpsInner
      (λ _. h.1.1) (λ _. (h.0, (inner_kept_regions name rs h.1.0, inner_kept name rest h.1.1)))

  inner_kept_regions : (name : OpName) (rs : Regions) → RegionsInner rs → RegionsInner (regions_at name tail rs)
  inner_kept_regions name no_regions h = tt
  inner_kept_regions name (region args ops rest) h = (inner_kept name ops h.0, inner_kept_regions name rest h.1)

functions_kept : (name : OpName) (fs : Ops) → FunctionsAlone fs → FunctionsAlone (ops_at name tail fs)
functions_kept name no_ops h = tt
functions_kept name (op n k ds os ts rs rest) h =
    at_cases (eqb n.0 name.0) rest (op n k ds os ts (regions_at name tail rs) (ops_at name tail rest)) FunctionsAlone
    (λ _. h.1.1) (λ _. (h.0, (inner_kept_regions name rs h.1.0, functions_kept name rest h.1.1)))

pub blocks_kept : (name : OpName) (rs : Regions) → BlocksAlone rs → BlocksAlone (regions_at name tail rs)
blocks_kept name no_regions h = tt
blocks_kept name (region args ops rest) h = (functions_kept name ops h.0, blocks_kept name rest h.1)

symbols_part : (name : OpName) (fs : Ops) → Part (symbols_of (ops_at name tail fs)) (symbols_of fs)
symbols_part name no_ops = none
symbols_part name (op n k ds os ts rs rest) =
    at_cases (eqb n.0 name.0) rest (op n k ds os ts (regions_at name tail rs) (ops_at name tail rest))
    (λ o. Part (symbols_of o) (symbols_of (op n k ds os ts rs rest)))
    (λ _. item_skip (symbol_of k) (part_all (symbols_of rest)))
    (λ _. item_keep (symbol_of k) (symbols_part name rest))

pub symbols_part_in : (name : OpName) (rs : Regions) → Part (symbols_in (regions_at name tail rs)) (symbols_in rs)
symbols_part_in name no_regions = none
symbols_part_in name (region args ops rest) = part_append (symbols_part name ops) (symbols_part_in name rest)

pub block_at : (name : OpName) (f : Ops → Ops) (rs : Regions)
    → block_of (regions_at name f rs) ≡ ops_at name f (block_of rs)
block_at name f no_regions = refl
block_at name f (region args ops rest) = refl

-- ---- what is not there is not taken out

mutual
  pub at_absent : (name : OpName) (ops : Ops) → is_among name (ops_names ops) ≡ false → ops_at name tail ops ≡ ops
  at_absent name no_ops h = refl
  at_absent name (op n k ds os ts rs rest) h =
      let p = or_parts (same_name n name) (is_among name (regions_names rs ++ ops_names rest)) h in
      let a = at_absent_regions name rs (not_left name (regions_names rs) (ops_names rest) p.1) in
      let b = at_absent name rest (not_right name (regions_names rs) (ops_names rest) p.1) in
      rw (p.0, a, b) refl

  pub at_absent_regions : (name : OpName) (rs : Regions) → is_among name (regions_names rs) ≡ false
      → regions_at name tail rs ≡ rs
  at_absent_regions name no_regions h = refl
  at_absent_regions name (region args ops rest) h =
      let a = at_absent name ops (not_left name (ops_names ops) (regions_names rest) h) in
      let b = at_absent_regions name rest (not_right name (ops_names ops) (regions_names rest) h) in
      rw (a, b) refl

-- ---- the arguments of blocks stay

pub args_at : (name : OpName) (rs : Regions) → block_args (regions_at name tail rs) ≡ block_args rs
args_at name no_regions = refl
args_at name (region args ops rest) = ap (λ (bs : List (List PayloadType)). args ∷ bs) (args_at name rest)

pub first_args_at : (name : OpName) (rs : Regions) → first_args (regions_at name tail rs) ≡ first_args rs
first_args_at name no_regions = refl
first_args_at name (region args ops rest) = refl

-- ---- blocks still end

abbrev pub Goes : Tree → Type 0
Goes t = is_terminator t.kind ≡ false

no_return : (k : Kind) → is_terminator k ≡ false → is_return k ≡ false
no_return kind.Return h = absurd (cc)
no_return _ h = refl

no_yield : (k : Kind) → is_terminator k ≡ false → is_yield k ≡ false
no_yield kind.Yield h = absurd (cc)
no_yield _ h = refl

no_linalg_yield : (k : Kind) → is_terminator k ≡ false → is_linalg_yield k ≡ false
no_linalg_yield kind.LinalgYield h = absurd (cc)
no_linalg_yield _ h = refl

-- what ends no block ends no block of the holder
ends_none : (holder k : Kind) → is_terminator k ≡ false → ends_for holder k ≡ false
ends_none (kind.Func symbol private results) k h = no_return k h
ends_none (kind.For width) k h = no_yield k h
ends_none kind.If k h = no_yield k h
ends_none (kind.Generic maps iterators) k h = no_linalg_yield k h
ends_none _ k h = refl

-- before what is left of a block that ends
ended : (holder k : Kind) (ops : Ops) → block_ends holder ops ≡ true
    → (if is_end ops then (is_endless holder || ends_for holder k) else block_ends holder ops) ≡ true
ended holder k no_ops h = rw h refl
ended holder k (op n k' ds os ts rs rest) h = h

-- without an operation that ends no block
end_left : (holder k : Kind) (rest : Ops) → is_terminator k ≡ false
    → (if is_end rest then (is_endless holder || ends_for holder k) else block_ends holder rest) ≡ true
    → block_ends holder rest ≡ true
end_left holder k no_ops e h = elim (or_cases (is_endless holder) (ends_for holder k) h) [
  | inl t ↦ t
  | inr t ↦ absurd (let z = ends_none holder k e in cc)
]
end_left holder k (op n k' ds os ts rs rest) e h = h

-- what is left behind an operation
left_behind : (holder k : Kind) (rest rest' : Ops)
    → (rest ≡ no_ops → rest' ≡ no_ops) → (block_ends holder rest ≡ true → block_ends holder rest' ≡ true)
    → (if is_end rest then (is_endless holder || ends_for holder k) else block_ends holder rest) ≡ true
    → (if is_end rest' then (is_endless holder || ends_for holder k) else block_ends holder rest') ≡ true
left_behind holder k no_ops rest' e f h = (let z = e refl in rw z h)
left_behind holder k (op n k' ds os ts rs rest) rest' e f h = ended holder k rest' (f h)

block_kept : (name : OpName) (holder : Kind) (ops : Ops) → OpsWhere name Goes ops → block_ends holder ops ≡ true
    → block_ends holder (ops_at name tail ops) ≡ true
block_kept name holder no_ops w h = h
block_kept name holder (op n k ds os ts rs rest) w h =
    at_cases (eqb n.0 name.0) rest (op n k ds os ts (regions_at name tail rs) (ops_at name tail rest))
    (λ o. block_ends holder o ≡ true)
    (λ t. end_left holder k rest (w.0 t) h)
    (λ _. left_behind holder k rest (ops_at name tail rest) (λ e. ap (ops_at name tail) e)
    (block_kept name holder rest w.1.1) h)

pub ends_kept : (name : OpName) (holder : Kind) (rs : Regions) → RegionsWhere name Goes rs → blocks_end holder rs ≡ true
    → blocks_end holder (regions_at name tail rs) ≡ true
ends_kept name holder no_regions w h = refl
ends_kept name holder (region args ops rest) w h =
    let p = and_parts (block_ends holder ops) (blocks_end holder rest) h in
    and_from _ _ (block_kept name holder ops w.0 p.0) (ends_kept name holder rest w.1 p.1)

pub end_kept : (name : OpName) (holder k : Kind) (rest : Ops) → stands_at_end holder k rest ≡ true
    → stands_at_end holder k (ops_at name tail rest) ≡ true
end_kept name holder k no_ops h = h
end_kept name holder k (op n k' ds os ts rs rest) h =
    elim (cases_Bool (is_terminator k)) [ inl t ↦ absurd (let z = rw t at h in cc) | inr f ↦ rw f refl ]
