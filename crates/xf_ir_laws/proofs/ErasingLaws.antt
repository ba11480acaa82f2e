-- Erasing an operation that may be erased fits a valid module, leaves it valid, and lowers its weight and its count.
use Rattle.std.proofs.Common.{◌≡◌, ◌+◌, ◌<◌, ◌≤◌, ℕ, List, [], length, Bool, true, false, eqb, Option, None, Some, inl}
use Rattle.std.proofs.Common.{inr, refl, sym, ap, subst, ◌∙◌, arith}
use Rattle.std.specs.Prelude.{map}
use Rattle.std.proofs.lemmas.Bool.{cases_Bool}
use Rattle.xf_ir.specs.declared.name.OpName.{OpName}
use Rattle.xf_ir.specs.declared.name.ValueName.{ValueName}
use Rattle.xf_ir.specs.declared.kind.Kind.{Kind}
use Rattle.xf_ir.specs.declared.kind.Kind.TheVariants as kind
use Rattle.xf_ir.specs.declared.edit.Edit.TheVariants.{Erase}
use Rattle.xf_ir.specs.declared.op.Module.{Module}
use Rattle.xf_ir.specs.Tree.{Ops, no_ops, op, Regions, no_regions, region, Tree}
use Rattle.xf_ir.specs.Count.{ops_count, regions_count, tree_count}
use Rattle.xf_ir.specs.Walk.{ops_names, regions_names, ops_find, regions_find, tree_find}
use Rattle.xf_ir.specs.Kinds.{is_generic}
use Rattle.xf_ir.specs.Lists.{Each, Once, is_among}
use Rattle.xf_ir.specs.Places.{results_of}
use Rattle.xf_ir.specs.Uses.{ops_operands, regions_operands, tree_operands}
use Rattle.xf_ir.specs.Edits.{ops_at, regions_at, tail, tree_erased, edited, FitsErase}
use Rattle.xf_ir.specs.Choices.{bare, scope_of, scope_at, is_in_scope, MayErase, weight_of, ops_weight, regions_weight}
use Rattle.xf_ir.specs.Choices.{weight_at}
use Rattle.xf_ir.specs.Placed.{Placed, type_at, top, root_holder, Everywhere}
use Rattle.xf_ir.specs.Calls.{signature, function_of, signatures, has_its_callee, has_short_chains}
use Rattle.xf_ir.specs.RuleBlocks.{has_its_regions, ends_its_blocks}
use Rattle.xf_ir.specs.RuleTypes.{has_its_types}
use Rattle.xf_ir.specs.RuleAttributes.{has_its_attributes, has_types_in_range}
use Rattle.xf_ir.specs.RuleLinalg.{has_its_maps, has_its_iterators, has_its_reduction, has_its_extents, fits_its_body}
use Rattle.xf_ir.specs.RuleSlices.{has_its_slices}
use Rattle.xf_ir.specs.Valid.{IsValid, IsNamedOnce, IsModule, block_of, functions_of, FunctionsSee}
use Rattle.xf_ir.proofs.Lists.{at_cases, each_left, each_right, each_part, once_part, texts_part, not_part, not_left}
use Rattle.xf_ir.proofs.Lists.{not_right, once_left, once_right, absent_before, apart_names, keep}
use Rattle.xf_ir.proofs.Found.{first_cases, found_in, found_name, found_name_regions, found_named_regions, lost_name}
use Rattle.xf_ir.proofs.Found.{lost_name_regions, find_inside, find_inside_regions, tree, RegionsWhere}
use Rattle.xf_ir.proofs.Found.{where_found_regions, block_where, HasResults, Outside}
use Rattle.xf_ir_laws.proofs.Erased.{names_part, names_part_regions, blocks_kept as alone_kept, symbols_part_in}
use Rattle.xf_ir_laws.proofs.Erased.{block_at, Goes}
use Rattle.xf_ir_laws.proofs.ErasedUses.{functions_see_kept}
use Rattle.xf_ir_laws.proofs.Obeys.{Passes, blocks_obey, each_blocks}
use Rattle.xf_ir_laws.proofs.Kept.{RegionsApart, OpsStay, BlocksStay, KeptStep, blocks_kept}
use Rattle.xf_ir_laws.proofs.BareErased.{found_apart, bare_erased}
use Rattle.xf_ir_laws.proofs.KeptRules.{Inner, blocks_stay, signature_kept, regions_step, blocks_step, types_step}
use Rattle.xf_ir_laws.proofs.KeptRules.{attributes_step, callees_step, chains_step, maps_step, iterators_step}
use Rattle.xf_ir_laws.proofs.KeptRules.{reductions_step, extents_step, bodies_step, ranges_step, slices_step}
use Rattle.xf_ir.proofs.Bare.{below_bare, once_bare, in_scope}

-- an operation of a scope stands in no body of linalg.generic
stands_apart : (m : Module) (target name : OpName) → IsNamedOnce m → is_in_scope m target name ≡ true
    → RegionsApart name m.root.regions
stands_apart m target name o i =
    let f = found_in name (scope_at m target) i in
    found_apart m.root.regions name f.0 o.once.1
    (below_bare m.root f.0 name (in_scope (bare m.root) target name f.0 (once_bare m.root o.once.1) f.1))

-- ---- the module stays valid

block_operands : (P : ValueName → Type 0) (rs : Regions) → Each P (regions_operands rs)
    → Each P (ops_operands (block_of rs))
block_operands P no_regions h = tt
block_operands P (region args ops rest) h = each_left P (ops_operands ops) (regions_operands rest) h

no_generic : (k : Kind) → IsModule k → is_generic k ≡ true → ⊥
no_generic (kind.Module symbol) i g = (cc)
no_generic _ i g = (cc)

names_kept : (m : Module) (name : OpName) → IsNamedOnce m → IsNamedOnce (edited m (Erase name))
names_kept m name n = (let p = keep {x = m.root.name} (names_part_regions name m.root.regions) in
    record { once = once_part p n.once; below = each_part (λ x. x.0 < m.next) p n.below })

first_stay : (name : OpName) (rs : Regions) → BlocksStay name rs → OpsStay name (block_of rs)
first_stay name no_regions t = tt
first_stay name (region args ops rest) t = t.0

-- the rules along the tree stay, one by one
module _ (m : Module) (target name : OpName) (v : IsValid m) (e : MayErase m target name) where
  abbrev after : Module
  after = edited m (Erase name)

  -- each operation of the name has what the operation has
  of_name : (Q : Tree → Type 0) → Q e.tree → RegionsWhere name Q m.root.regions
  of_name Q q = where_found_regions name Q e.tree m.root.regions v.names.once.1 e.inside q

  goes : RegionsWhere name Goes m.root.regions
  goes = of_name Goes e.suits.goes

  gives : RegionsWhere name (HasResults (length e.tree.results)) m.root.regions
  gives = of_name (HasResults (length e.tree.results)) refl

  stay : BlocksStay name m.root.regions
  stay = blocks_stay name m.root.regions v.functions.alone (of_name Inner e.suits.inner)

  outside : Each (Outside (results_of name (length e.tree.results))) (tree_operands m.root)
  outside =
      let n : e.tree.name ≡ name = found_named_regions name e.tree m.root.regions e.inside in
      subst (λ x. Each (Outside (results_of x (length e.tree.results))) (tree_operands m.root)) n e.suits.unused

  inner : Each (Outside (results_of name (length e.tree.results))) (regions_operands m.root.regions)
  inner = each_right (Outside (results_of name (length e.tree.results))) m.root.operands
      (regions_operands m.root.regions) outside

  sees_kept : FunctionsSee (functions_of after)
  sees_kept =
      let count = length e.tree.results in
      subst FunctionsSee (sym (block_at name tail m.root.regions))
      (functions_see_kept name count (functions_of m) (block_where name (HasResults count) m.root.regions gives)
      (block_operands (Outside (results_of name count)) m.root.regions inner) v.uses.functions)

  -- a rule stays that the step keeps
  kept : (passes passes' : Placed → Bool) → KeptStep name (Passes passes) (Passes passes') → Everywhere passes m
      → Everywhere passes' after
  kept passes passes' step h =
      let P = Passes passes in
      let P' = Passes passes' in
      let root = root_holder m.root in (
        step.turn top (map (type_at []) m.root.operands) m.root no_ops root_apart goes h.0,
        each_blocks P' root (regions_at name tail m.root.regions)
            (blocks_kept name (length e.tree.results) P P' step root m.root.regions stay v.names.once.1 gives goes
            (stands_apart m target name v.names e.within) inner (blocks_obey P root m.root.regions h.1)),
      )
    where
      root_apart : is_generic m.root.kind ≡ true → is_among name (regions_names m.root.regions) ≡ false
      root_apart g = absurd (no_generic m.root.kind v.functions.root g)

  same_signatures : (s : List ℕ) → signatures after s ≡ signatures m s
  same_signatures s =
      ap (λ fs. signature (function_of s fs)) (block_at name tail m.root.regions)
      ∙ signature_kept name s (functions_of m) (first_stay name m.root.regions stay)

  pub valid_after : IsValid (edited m (Erase name))
  valid_after = record {
    names = names_kept m name v.names;
    functions = record {
      root = v.functions.root;
      alone = alone_kept name m.root.regions v.functions.alone;
      names = texts_part (symbols_part_in name m.root.regions) v.functions.names;
    };
    regions = kept has_its_regions has_its_regions (regions_step name) v.regions;
    blocks = kept ends_its_blocks ends_its_blocks (blocks_step name) v.blocks;
    uses = record { root = v.uses.root; functions = sees_kept };
    types = kept (has_its_types (signatures m)) (has_its_types (signatures after))
        (types_step name (signatures m) (signatures after) same_signatures) v.types;
    attributes = kept has_its_attributes has_its_attributes (attributes_step name) v.attributes;
    callees = kept (has_its_callee (signatures m)) (has_its_callee (signatures after))
        (callees_step name (signatures m) (signatures after) same_signatures) v.callees;
    chains = subst (λ fs. Everywhere (has_short_chains fs) after) (sym (block_at name tail m.root.regions))
        (kept (has_short_chains (functions_of m)) (has_short_chains (ops_at name tail (functions_of m)))
        (chains_step name (functions_of m) (first_stay name m.root.regions stay)) v.chains);
    maps = kept has_its_maps has_its_maps (maps_step name) v.maps;
    iterators = kept has_its_iterators has_its_iterators (iterators_step name) v.iterators;
    reductions = kept has_its_reduction has_its_reduction (reductions_step name) v.reductions;
    extents = kept has_its_extents has_its_extents (extents_step name) v.extents;
    bodies = kept fits_its_body fits_its_body (bodies_step name) v.bodies;
    ranges = kept has_types_in_range has_types_in_range (ranges_step name) v.ranges;
    slices = kept has_its_slices has_its_slices (slices_step name) v.slices;
  }

pub valid_kept : (m : Module) (target name : OpName) → IsValid m → MayErase m target name
    → IsValid (edited m (Erase name))
valid_kept m target name v e = valid_after m target name v e

pub fits : (m : Module) (target name : OpName) → IsValid m → MayErase m target name → FitsErase m name
fits m target name v e = (let k = valid_kept m target name v e in
    record { tree = e.tree; inside = e.inside; names = k.names; uses = k.uses })

-- ---- the count falls

mutual
  count_stays : (name : OpName) (ops : Ops) → ops_count (ops_at name tail ops) ≤ ops_count ops
  count_stays name no_ops = omega arith
  count_stays name (op n k ds os ts rs rest) =
      at_cases (eqb n.0 name.0) rest (op n k ds os ts (regions_at name tail rs) (ops_at name tail rest))
      (λ o. ops_count o ≤ ops_count (op n k ds os ts rs rest))
      (λ _. omega arith) (λ _. omega (arith, count_stays_regions name rs, count_stays name rest))

  pub count_stays_regions : (name : OpName) (rs : Regions) → regions_count (regions_at name tail rs) ≤ regions_count rs
  count_stays_regions name no_regions = omega arith
  count_stays_regions name (region args ops rest) = omega (arith, count_stays name ops, count_stays_regions name rest)

mutual
  count_falls : (name : OpName) (t : Tree) (ops : Ops) → ops_find name ops ≡ Some t
      → ops_count (ops_at name tail ops) < ops_count ops
  count_falls name t no_ops h = absurd (cc)
  count_falls name t (op n k ds os ts rs rest) h =
      at_cases (eqb n.0 name.0) rest (op n k ds os ts (regions_at name tail rs) (ops_at name tail rest))
      (λ o. ops_count o < ops_count (op n k ds os ts rs rest))
      (λ _. omega arith)
      (λ e. elim (first_cases (regions_find name rs) (ops_find name rest) t (rw e at h)) [
        | inl g ↦ omega (arith, count_falls_regions name t rs g, count_stays name rest)
        | inr g ↦ omega (arith, count_stays_regions name rs, count_falls name t rest g.1)
      ])

  count_falls_regions : (name : OpName) (t : Tree) (rs : Regions) → regions_find name rs ≡ Some t
      → regions_count (regions_at name tail rs) < regions_count rs
  count_falls_regions name t no_regions h = absurd (cc)
  count_falls_regions name t (region args ops rest) h =
      elim (first_cases (ops_find name ops) (regions_find name rest) t h) [
        | inl g ↦ omega (arith, count_falls name t ops g, count_stays_regions name rest)
        | inr g ↦ omega (arith, count_stays name ops, count_falls_regions name t rest g.1)
      ]

pub lowers_count : (m : Module) (target name : OpName) → IsValid m → MayErase m target name
    → tree_count (edited m (Erase name)).root < tree_count m.root
lowers_count m target name v e = omega (arith, count_falls_regions name e.tree m.root.regions e.inside)

-- ---- the weight of a scope falls

some_weight : (k : Kind) → 1 ≤ weight_of k
some_weight (kind.Constant width bits) = omega arith
some_weight (kind.Dense shape numbers) = omega arith
some_weight _ = omega arith

mutual
  weight_stays : (name : OpName) (ops : Ops) → ops_weight (ops_at name tail ops) ≤ ops_weight ops
  weight_stays name no_ops = omega arith
  weight_stays name (op n k ds os ts rs rest) =
      at_cases (eqb n.0 name.0) rest (op n k ds os ts (regions_at name tail rs) (ops_at name tail rest))
      (λ o. ops_weight o ≤ ops_weight (op n k ds os ts rs rest))
      (λ _. omega arith) (λ _. omega (arith, weight_stays_regions name rs, weight_stays name rest))

  weight_stays_regions : (name : OpName) (rs : Regions) → regions_weight (regions_at name tail rs) ≤ regions_weight rs
  weight_stays_regions name no_regions = omega arith
  weight_stays_regions name (region args ops rest) =
      omega (arith, weight_stays name ops, weight_stays_regions name rest)

mutual
  weight_falls : (name : OpName) (t : Tree) (ops : Ops) → ops_find name ops ≡ Some t
      → ops_weight (ops_at name tail ops) < ops_weight ops
  weight_falls name t no_ops h = absurd (cc)
  weight_falls name t (op n k ds os ts rs rest) h =
      at_cases (eqb n.0 name.0) rest (op n k ds os ts (regions_at name tail rs) (ops_at name tail rest))
      (λ o. ops_weight o < ops_weight (op n k ds os ts rs rest))
      (λ _. omega (arith, some_weight k))
      (λ e. elim (first_cases (regions_find name rs) (ops_find name rest) t (rw e at h)) [
        | inl g ↦ omega (arith, weight_falls_regions name t rs g, weight_stays name rest)
        | inr g ↦ omega (arith, weight_stays_regions name rs, weight_falls name t rest g.1)
      ])

  weight_falls_regions : (name : OpName) (t : Tree) (rs : Regions) → regions_find name rs ≡ Some t
      → regions_weight (regions_at name tail rs) < regions_weight rs
  weight_falls_regions name t no_regions h = absurd (cc)
  weight_falls_regions name t (region args ops rest) h =
      elim (first_cases (ops_find name ops) (regions_find name rest) t h) [
        | inl g ↦ omega (arith, weight_falls name t ops g, weight_stays_regions name rest)
        | inr g ↦ omega (arith, weight_stays name ops, weight_falls_regions name t rest g.1)
      ]

-- ---- what holds an operation is found again without it

mutual
  find_erased : (ops : Ops) (target name : OpName) (s t : Tree) → Once (ops_names ops) → ops_find target ops ≡ Some s
      → regions_find name s.regions ≡ Some t → ops_find target (ops_at name tail ops) ≡ Some (tree_erased name s)
  find_erased no_ops target name s t o h g = absurd (cc)
  find_erased (op n k ds os ts rs rest) target name s t o h g =
      let ms = regions_names rs in
      let ns = ops_names rest in
      elim (cases_Bool (eqb n.0 target.0)) [
        | inl e ↦ (
            let h' = rw e at h in
            let q : tree n k ds os ts rs ≡ s = cc in
            let g' : regions_find name rs ≡ Some t = ap (λ (x : Tree). regions_find name x.regions) q ∙ g in
            let d = apart_names name n ms (found_name_regions name t rs g') (not_left n ms ns o.0) in
            rw (d, e) (ap (λ x. Some (tree_erased name x)) q))
        | inr e ↦ elim (first_cases (regions_find target rs) (ops_find target rest) s (rw e at h)) [
          | inl f ↦ (
              let i = found_name_regions name t rs (find_inside_regions rs target name s t (once_left ms ns o.1) f g) in
              let d = apart_names name n ms i (not_left n ms ns o.0) in
              let l = find_erased_regions rs target name s t (once_left ms ns o.1) f g in
              rw (d, e, l) refl)
          | inr f ↦ (
              let i = found_name name t rest (find_inside rest target name s t (once_right ms ns o.1) f.1 g) in
              let d = apart_names name n ns i (not_right n ms ns o.0) in
              let a = absent_before target ms ns o.1 (found_name target s rest f.1) in
              let b =
              lost_name_regions target (regions_at name tail rs) (not_part target (names_part_regions name rs) a) in
              let l = find_erased rest target name s t (once_right ms ns o.1) f.1 g in
              rw (d, e, b, l) refl)
        ]
      ]

  find_erased_regions : (rs : Regions) (target name : OpName) (s t : Tree)
      → Once (regions_names rs) → regions_find target rs ≡ Some s → regions_find name s.regions ≡ Some t
      → regions_find target (regions_at name tail rs) ≡ Some (tree_erased name s)
  find_erased_regions no_regions target name s t o h g = absurd (cc)
  find_erased_regions (region args ops rest) target name s t o h g =
      let ms = ops_names ops in
      let ns = regions_names rest in
      elim (first_cases (ops_find target ops) (regions_find target rest) s h) [
        | inl f ↦ (let l = find_erased ops target name s t (once_left ms ns o) f g in rw l refl)
        | inr f ↦ (
            let a = absent_before target ms ns o (found_name_regions target s rest f.1) in
            let b = lost_name target (ops_at name tail ops) (not_part target (names_part name ops) a) in
            let l = find_erased_regions rest target name s t (once_right ms ns o) f.1 g in
            rw (b, l) refl)
      ]

scope_falls : (t : Tree) (target name : OpName) (s : Tree)
    → Once (regions_names t.regions) → regions_find name (scope_of (tree_find target t)) ≡ Some s
    → regions_weight (scope_of (tree_find target (tree_erased name t))) < regions_weight (scope_of (tree_find target t))
scope_falls t target name s o h =
    elim (cases_Bool (eqb t.name.0 target.0)) [
      | inl e ↦ (let h' = rw e at h in rw e (weight_falls_regions name s t.regions h'))
      | inr e ↦ (let h' = rw e at h in rw e (deeper (regions_find target t.regions) refl h'))
    ]
  where
    deeper : (u : Option Tree) → regions_find target t.regions ≡ u → regions_find name (scope_of u) ≡ Some s
        → regions_weight (scope_of (regions_find target (regions_at name tail t.regions))) < regions_weight (scope_of u)
    deeper None e g = absurd (cc)
    deeper (Some x) e g =
        (let l = find_erased_regions t.regions target name x s o e g in rw l (weight_falls_regions name s x.regions g))

pub lowers_weight : (m : Module) (target name : OpName) → IsValid m → MayErase m target name
    → weight_at (edited m (Erase name)) target + 1 ≤ weight_at m target
lowers_weight m target name v e =
    let q = ap (λ t. regions_weight (scope_of (tree_find target t))) (bare_erased name m.root) in
    let f = found_in name (scope_at m target) e.within in
    omega (arith, q, scope_falls (bare m.root) target name f.0 (once_bare m.root v.names.once.1) f.1)
