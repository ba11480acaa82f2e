-- Each rule stays where an operation is taken out that may be erased.
use Rattle.std.proofs.Common.{◌≡◌, ℕ, zero, suc, List, [], ◌∷◌, Option, None, Some, Bool, true, false, eqb, refl, sym}
use Rattle.std.proofs.Common.{ap, subst, ◌∙◌, is_none, inl, inr}
use Rattle.std.proofs.lemmas.Bool.{cases_Bool, and_from, and_parts, or_parts}
use Rattle.xf_type.specs.declared.payload_type.PayloadType.{PayloadType}
use Rattle.xf_ir.specs.declared.name.OpName.{OpName}
use Rattle.xf_ir.specs.declared.kind.Kind.{Kind}
use Rattle.xf_ir.specs.declared.kind.Kind.TheVariants as kind
use Rattle.xf_ir.specs.Tree.{Ops, no_ops, op, Regions, no_regions, region, Tree}
use Rattle.xf_ir.specs.Kinds.{callee_of, is_container, is_module, is_function, is_generic, returned_types}
use Rattle.xf_ir.specs.Lists.{every, option_passes}
use Rattle.xf_ir.specs.Edits.{ops_at, regions_at, tail, tree_erased}
use Rattle.xf_ir.specs.Calls.{Signatures, Signature, signature, function_of, has_symbol, ops_callees, regions_callees}
use Rattle.xf_ir.specs.Calls.{callees_of, chains_end, has_its_callee, callee_agrees, has_short_chains}
use Rattle.xf_ir.specs.RuleBlocks.{blocks_fit, has_its_regions, blocks_end, stands_at_end, ends_its_blocks}
use Rattle.xf_ir.specs.RuleTypes.{row_of, has_its_types}
use Rattle.xf_ir.specs.RuleAttributes.{has_its_attributes, has_types_in_range}
use Rattle.xf_ir.specs.RuleLinalg.{reduces, has_its_maps, has_its_iterators, has_its_reduction, has_its_extents}
use Rattle.xf_ir.specs.RuleLinalg.{fits_its_body}
use Rattle.xf_ir.specs.RuleSlices.{has_its_slices}
use Rattle.xf_ir.specs.Valid.{FunctionsAlone, BlocksAlone}
use Rattle.xf_ir.proofs.Lists.{at_cases, Part, none, skip, keep, item_skip, item_keep, part_append, part_behind}
use Rattle.xf_ir.proofs.Found.{OpsWhere, RegionsWhere}
use Rattle.xf_ir_laws.proofs.Erased.{args_at, first_args_at, at_absent_regions, ends_kept, end_kept}
use Rattle.xf_ir_laws.proofs.Kept.{OpsStay, BlocksStay, KeptStep}
use Rattle.xf_ir_laws.proofs.Obeys.{Passes}

-- ---- functions stay

abbrev pub Inner : Tree → Type 0
Inner t = is_container t.kind ≡ false

pub functions_stay : (name : OpName) (fs : Ops) → FunctionsAlone fs → OpsWhere name Inner fs → OpsStay name fs
functions_stay name no_ops a w = tt
functions_stay name (op n k ds os ts rs rest) a w = (
  elim (cases_Bool (eqb n.0 name.0)) [
    | inl e ↦
        absurd (let y = (or_parts (is_module k) (is_function k) (w.0 e)).1 in let z = a.0 in cc)
    | inr e ↦ e
  ],
  functions_stay name rest a.1.1 w.1.1,
)

pub blocks_stay : (name : OpName) (rs : Regions) → BlocksAlone rs → RegionsWhere name Inner rs → BlocksStay name rs
blocks_stay name no_regions a w = tt
blocks_stay name (region args ops rest) a w = (functions_stay name ops a.0 w.0, blocks_stay name rest a.1 w.1)

-- ---- what symbols name stays

abbrev erased_or : OpName → Option Tree → Option Tree
erased_or name None = None
erased_or name (Some t) = Some (tree_erased name t)

function_kept : (name : OpName) (s : List ℕ) (fs : Ops) → OpsStay name fs
    → function_of s (ops_at name tail fs) ≡ erased_or name (function_of s fs)
function_kept name s no_ops t = refl
function_kept name s (op n k ds os ts rs rest) t =
    let e = t.0 in
    elim (cases_Bool (has_symbol s k)) [
      | inl f ↦ rw (e, f) refl
      | inr f ↦ (let r = function_kept name s rest t.1 in rw (e, f, r) refl)
    ]

signature_erased : (name : OpName) (o : Option Tree) → signature (erased_or name o) ≡ signature o
signature_erased name None = refl
signature_erased name (Some t) =
    ap (λ args. Some (let x : Signature = record { inputs = args; results = returned_types t.kind } in x))
    (first_args_at name t.regions)

pub signature_kept : (name : OpName) (s : List ℕ) (fs : Ops) → OpsStay name fs
    → signature (function_of s (ops_at name tail fs)) ≡ signature (function_of s fs)
signature_kept name s fs t = ap signature (function_kept name s fs t) ∙ signature_erased name (function_of s fs)

-- ---- chains of calls are no longer

every_part : {A : Type 0} (p : A → Bool) {ys xs : List A} → Part ys xs → every p xs ≡ true → every p ys ≡ true
every_part p none h = refl
every_part p (skip {x = x} {xs = xs} q) h = every_part p q (and_parts (p x) (every p xs) h).1
every_part p (keep {x = x} {xs = xs} q) h =
    (let r = and_parts (p x) (every p xs) h in and_from _ _ r.0 (every_part p q r.1))

every_map : {A : Type 0} (p q : A → Bool) (xs : List A) → ((x : A) → p x ≡ true → q x ≡ true) → every p xs ≡ true
    → every q xs ≡ true
every_map p q [] f h = refl
every_map p q (x ∷ xs) f h = (let r = and_parts (p x) (every p xs) h in and_from _ _ (f x r.0) (every_map p q xs f r.1))

mutual
  callees_part : (name : OpName) (ops : Ops) → Part (ops_callees (ops_at name tail ops)) (ops_callees ops)
  callees_part name no_ops = none
  callees_part name (op n k ds os ts rs rest) =
      at_cases (eqb n.0 name.0) rest (op n k ds os ts (regions_at name tail rs) (ops_at name tail rest))
      (λ o. Part (ops_callees o) (ops_callees (op n k ds os ts rs rest)))
      (λ _. item_skip (callee_of k) (part_behind (regions_callees rs) (ops_callees rest)))
      (λ _. item_keep (callee_of k) (part_append (callees_part_regions name rs) (callees_part name rest)))

  callees_part_regions : (name : OpName) (rs : Regions)
      → Part (regions_callees (regions_at name tail rs)) (regions_callees rs)
  callees_part_regions name no_regions = none
  callees_part_regions name (region args ops rest) =
      part_append (callees_part name ops) (callees_part_regions name rest)

callees_kept : (name : OpName) (o : Option Tree) → Part (callees_of (erased_or name o)) (callees_of o)
callees_kept name None = none
callees_kept name (Some t) = callees_part_regions name t.regions

none_kept : (name : OpName) (o : Option Tree) → is_none o ≡ true → is_none (erased_or name o) ≡ true
none_kept name None h = refl
none_kept name (Some t) h = h

chains_kept : (name : OpName) (fs : Ops) → OpsStay name fs → (k : ℕ) (s : List ℕ) → chains_end fs k s ≡ true
    → chains_end (ops_at name tail fs) k s ≡ true
chains_kept name fs t zero s h =
    subst (λ o. is_none o ≡ true) (sym (function_kept name s fs t)) (none_kept name (function_of s fs) h)
chains_kept name fs t (suc k) s h =
    let p = callees_kept name (function_of s fs) in
    let e = every_map (chains_end fs k) (chains_end (ops_at name tail fs) k) (callees_of (function_of s fs))
    (λ c. chains_kept name fs t k c) h in
    subst (λ o. every (chains_end (ops_at name tail fs) k) (callees_of o)
    ≡ true) (sym (function_kept name s fs t)) (every_part (chains_end (ops_at name tail fs) k) p e)

chain_kept : (name : OpName) (fs : Ops) → OpsStay name fs → (o : Option (List ℕ))
    → option_passes (chains_end fs 31) o ≡ true → option_passes (chains_end (ops_at name tail fs) 31) o ≡ true
chain_kept name fs t None h = h
chain_kept name fs t (Some callee) h = chains_kept name fs t 31 callee h

-- ---- the rules

module _ (name : OpName) where
  pub regions_step : KeptStep name (Passes has_its_regions) (Passes has_its_regions)
  regions_step = record {
    turn = λ h types t after a g e. subst (λ blocks. blocks_fit t.kind types t.results blocks
        ≡ true) (sym (args_at name t.regions)) e;
  }

  pub blocks_step : KeptStep name (Passes ends_its_blocks) (Passes ends_its_blocks)
  blocks_step = record {
    turn = λ h types t after a g e. (
        let p = and_parts (blocks_end t.kind t.regions) (stands_at_end h.kind t.kind after) e in
        and_from _ _ (ends_kept name t.kind t.regions g p.0) (end_kept name h.kind t.kind after p.1));
  }

  row_kept : (sigs sigs' : Signatures) (gives : List PayloadType) → ((s : List ℕ) → sigs' s ≡ sigs s)
      → (k : Kind) (os : List (Option PayloadType)) (ts : List PayloadType) → row_of sigs gives k os ts ≡ true
      → row_of sigs' gives k os ts ≡ true
  row_kept sigs sigs' gives q (kind.Call callee) os ts e = (let z = q callee in rw z e)
  row_kept sigs sigs' gives q _ os ts e = e

  pub types_step : (sigs sigs' : Signatures) → ((s : List ℕ) → sigs' s ≡ sigs s)
      → KeptStep name (Passes (has_its_types sigs)) (Passes (has_its_types sigs'))
  types_step sigs sigs' q =
      record { turn = λ h types t after a g e. row_kept sigs sigs' h.gives q t.kind types t.results e }

  pub attributes_step : KeptStep name (Passes has_its_attributes) (Passes has_its_attributes)
  attributes_step = record { turn = λ h types t after a g e. e }

  agrees_kept : (sigs sigs' : Signatures) → ((s : List ℕ) → sigs' s ≡ sigs s) → (k : Kind) (ts : List PayloadType)
      → callee_agrees sigs k ts ≡ true → callee_agrees sigs' k ts ≡ true
  agrees_kept sigs sigs' q (kind.Call callee) ts e = (let z = q callee in rw z e)
  agrees_kept sigs sigs' q _ ts e = e

  pub callees_step : (sigs sigs' : Signatures) → ((s : List ℕ) → sigs' s ≡ sigs s)
      → KeptStep name (Passes (has_its_callee sigs)) (Passes (has_its_callee sigs'))
  callees_step sigs sigs' q = record { turn = λ h types t after a g e. agrees_kept sigs sigs' q t.kind t.results e }

  pub chains_step : (fs : Ops) → OpsStay name fs
      → KeptStep name (Passes (has_short_chains fs)) (Passes (has_short_chains (ops_at name tail fs)))
  chains_step fs s = record { turn = λ h types t after a g e. chain_kept name fs s (callee_of t.kind) e }

  pub maps_step : KeptStep name (Passes has_its_maps) (Passes has_its_maps)
  maps_step = record { turn = λ h types t after a g e. e }

  pub iterators_step : KeptStep name (Passes has_its_iterators) (Passes has_its_iterators)
  iterators_step = record { turn = λ h types t after a g e. e }

  -- a body stays whole
  reduction_kept : (k : Kind) (t : Tree) → (is_generic k ≡ true → regions_at name tail t.regions ≡ t.regions)
      → reduces k t ≡ true → reduces k (tree_erased name t) ≡ true
  reduction_kept (kind.Generic maps iterators) t a e = (let q = a refl in rw q e)
  reduction_kept _ t a e = e

  pub reductions_step : KeptStep name (Passes has_its_reduction) (Passes has_its_reduction)
  reductions_step =
      record { turn = λ h types t after a g e. reduction_kept t.kind t (λ y. at_absent_regions name t.regions (a y)) e }

  pub extents_step : KeptStep name (Passes has_its_extents) (Passes has_its_extents)
  extents_step = record { turn = λ h types t after a g e. e }

  pub bodies_step : KeptStep name (Passes fits_its_body) (Passes fits_its_body)
  bodies_step = record { turn = λ h types t after a g e. e }

  pub ranges_step : KeptStep name (Passes has_types_in_range) (Passes has_types_in_range)
  ranges_step = record { turn = λ h types t after a g e. rw (args_at name t.regions) e }

  pub slices_step : KeptStep name (Passes has_its_slices) (Passes has_its_slices)
  slices_step = record { turn = λ h types t after a g e. e }
