-- Values stay visible where an operation is replaced.
use Rattle.std.proofs.Common.{◌≡◌, ◌⊎◌, inl, inr, ℕ, suc, List, [], ◌∷◌, ◌++◌, Option, Some, None, Bool, true, false}
use Rattle.std.proofs.Common.{eqb, refl, ap, sym, ◌∙◌, subst}
use Rattle.std.proofs.lemmas.Bool.{or_right, or_parts, eqb-true, eq-eqb, or_from, cases_Bool}
use Rattle.std.specs.Prelude.{◌<◌, length, map, ◌||◌, ◌==◌, is_some, if◌then◌else◌}
use Rattle.xf_ir.specs.declared.name.OpName.{OpName}
use Rattle.xf_ir.specs.declared.name.ValueName.{ValueName}
use Rattle.xf_ir.specs.declared.name.ValueName.TheVariants.{Result, Arg, Free}
use Rattle.xf_ir.specs.Tree.{Ops, no_ops, op, Regions, no_regions, region}
use Rattle.xf_ir.specs.Walk.{ops_names, regions_names}
use Rattle.xf_ir.specs.Lists.{same_name, is_among, Each}
use Rattle.xf_ir.specs.Places.{Numbering, below, results_of, args_of, Seen, done, inside, numbering_of, sees, AllSeen}
use Rattle.xf_ir.specs.Places.{IsFresh, OpsScoped, RegionsScoped, FunctionsScoped}
use Rattle.xf_ir.specs.Valid.{functions_of}
use Rattle.xf_ir.specs.Edits.{ops_at, regions_at}
use Rattle.xf_ir.specs.Replaced.{ops_moved, regions_moved, append, item_of, in_place_of, replaced_by}
use Rattle.xf_ir.proofs.Lists.{at_cases, not_left, not_right}
use Rattle.xf_sem.specs.Surroundings.{Context, visible, outside, behind, within, OpsWhere, RegionsWhere}
use Rattle.xf_sem.specs.Surroundings.{FunctionsWhere}
use Rattle.xf_sem.specs.Surroundings.{NoFunction}
use Rattle.xf_sem.specs.Replacing.{visible_after}
use Rattle.xf_sem.specs.Placing.{outer_names, FitsHere, ReplacementMay}
use Rattle.xf_sem.proofs.Copying.{some_or, new_or_old, not_seen}
use Rattle.xf_sem.proofs.Surroundings.{made, functions_at}
use Rattle.xf_sem.proofs.Replacing.{visible_more_after}
use Rattle.xf_sem.proofs.Same.{result_below, seen_at}

name_is : (a b : OpName) → a.0 ≡ b.0 → a ≡ b
name_is a b h = λ i. record { 0 = h i }

stays_itself : (o : Option ℕ) (b : Bool) (by : List ValueName) (v : ValueName) → (is_some o || b) ≡ false
    → item_of o by v ≡ v
stays_itself None b by v h = refl
stays_itself (Some j) b by v h = cc

-- ---- values of operations with other names

abbrev pub IsFar : List OpName → ValueName → Type 0
IsFar ns (Result o num) = is_among o ns ≡ false
IsFar ns (Arg o r num) = is_among o ns ≡ false
IsFar ns (Free num) = Unit {0}

far_part : (ms ns : List OpName) (v : ValueName) → ((o : OpName) → is_among o ms ≡ false → is_among o ns ≡ false)
    → IsFar ms v → IsFar ns v
far_part ms ns (Result o num) f h = f o h
far_part ms ns (Arg o r num) f h = f o h
far_part ms ns (Free num) f h = tt

turned_false : (a b : OpName) → same_name a b ≡ false → (b.0 == a.0) ≡ false
turned_false a b h = elim (cases_Bool (eqb b.0 a.0)) [
  | inl e ↦ absurd
      (let q = eqb-true b.0 a.0 e in let r = eq-eqb a.0 b.0 (sym q) in let z : eqb a.0 b.0 ≡ false = h in cc)
  | inr e ↦ e
]

far_results : (n : OpName) (ns : List OpName) (count : ℕ) (v : ValueName) → IsFar (n ∷ ns) v → results_of n count v
    ≡ None
far_results n ns count (Result o num) h =
    let e = turned_false n o (or_parts (same_name n o) (is_among o ns) h).0 in rw e refl
far_results n ns count (Arg o r num) h = refl
far_results n ns count (Free num) h = refl

far_args : (n : OpName) (ns : List OpName) (i count : ℕ) (v : ValueName) → IsFar (n ∷ ns) v → args_of n i count v
    ≡ None
far_args n ns i count (Result o num) h = refl
far_args n ns i count (Arg o r num) h =
    let e = turned_false n o (or_parts (same_name n o) (is_among o ns) h).0 in rw e refl
far_args n ns i count (Free num) h = refl

-- ---- operations moved into another scope

-- what is visible there besides is far from the names that stand here
record Wider (ns : List OpName) (ss ss' : List Seen) (to : ValueName → ValueName) : Type 0 where
  pub shown : (v : ValueName) → sees ss v ≡ true → sees ss' (to v) ≡ true
  pub stays : (v : ValueName) → sees ss v ≡ false → to v ≡ v
  pub far : (v : ValueName) → sees ss' v ≡ true → (sees ss v ≡ true) ⊎ IsFar ns v

wider_part : (ms ns : List OpName) (ss ss' : List Seen) (to : ValueName → ValueName)
    → ((o : OpName) → is_among o ms ≡ false → is_among o ns ≡ false) → Wider ms ss ss' to → Wider ns ss ss' to
wider_part ms ns ss ss' to f w = record {
  shown = w.shown;
  stays = w.stays;
  far = λ v t. elim (w.far v t) [ inl x ↦ inl x | inr x ↦ inr (far_part ms ns v f x) ];
}

wider_more : (ns : List OpName) (ss ss' : List Seen) (to : ValueName → ValueName) (d : Seen)
    → IsFresh ss (numbering_of d) → Wider ns ss ss' to → Wider ns (d ∷ ss) (d ∷ ss') to
wider_more ns ss ss' to d f w = record {
  shown = λ v t. elim (new_or_old (numbering_of d v) (sees ss v) t) [
    | inl x ↦ some_or (numbering_of d (to v)) (sees ss' (to v)) x.0
        (ap (numbering_of d) (w.stays v (not_seen ss (numbering_of d) v x.0 f x.1)) ∙ x.1)
    | inr o ↦ or_right (is_some (numbering_of d (to v))) (sees ss' (to v)) (w.shown v o)
  ];
  stays = λ v t. w.stays v (or_parts (is_some (numbering_of d v)) (sees ss v) t).1;
  far = λ v t. elim (new_or_old (numbering_of d v) (sees ss' v) t) [
    | inl x ↦ inl (some_or (numbering_of d v) (sees ss v) x.0 x.1)
    | inr o ↦ elim (w.far v o) [ inl y ↦ inl (or_right (is_some (numbering_of d v)) (sees ss v) y) | inr y ↦ inr y ]
  ];
}

fresh_wider : (ns : List OpName) (ss ss' : List Seen) (to : ValueName → ValueName) (p : Numbering)
    → ((v : ValueName) → IsFar ns v → p v ≡ None) → IsFresh ss p → Wider ns ss ss' to → IsFresh ss' p
fresh_wider ns ss ss' to p g f w = record { apart = λ v t. elim (w.far v t) [ inl x ↦ f.apart v x | inr x ↦ g v x ] }

seen_wider : (ns : List OpName) (ss ss' : List Seen) (to : ValueName → ValueName) (vs : List ValueName)
    → AllSeen ss vs → Wider ns ss ss' to → AllSeen ss' (map to vs)
seen_wider ns ss ss' to [] a w = tt
seen_wider ns ss ss' to (v ∷ vs) a w = (w.shown v a.0, seen_wider ns ss ss' to vs a.1 w)

left_names : (n o : OpName) (ms ns : List OpName) → is_among o (n ∷ (ms ++ ns)) ≡ false → is_among o (n ∷ ms) ≡ false
left_names n o ms ns q =
    let p = or_parts (same_name n o) (is_among o (ms ++ ns)) q in
    or_from (same_name n o) (is_among o ms) p.0 (not_left o ms ns p.1)

right_names : (n o : OpName) (ms ns : List OpName) → is_among o (n ∷ (ms ++ ns)) ≡ false → is_among o (n ∷ ns) ≡ false
right_names n o ms ns q =
    let p = or_parts (same_name n o) (is_among o (ms ++ ns)) q in
    or_from (same_name n o) (is_among o ns) p.0 (not_right o ms ns p.1)

mutual
  moved_scoped : (ops : Ops) (ss ss' : List Seen) (to : ValueName → ValueName) → OpsScoped ss ops
      → Wider (ops_names ops) ss ss' to → OpsScoped ss' (ops_moved to ops)
  moved_scoped no_ops ss ss' to h w = tt
  moved_scoped (op n k ds os ts rs rest) ss ss' to h w =
      let ms = regions_names rs in
      let ns = ops_names rest in (
        seen_wider (n ∷ (ms ++ ns)) ss ss' to os h.0 w,
        (
          fresh_wider (n ∷ (ms ++ ns)) ss ss' to (results_of n (length ts))
              (far_results n (ms ++ ns) (length ts)) h.1.0 w,
          (
            moved_scoped_regions rs ss ss' to n 0 h.1.1.0
                (wider_part (n ∷ (ms ++ ns)) (n ∷ ms) ss ss' to (λ o q. left_names n o ms ns q) w),
            moved_scoped rest (done n (length ts) ∷ ss) (done n (length ts) ∷ ss') to h.1.1.1
                (wider_more ns ss ss' to (done n (length ts)) h.1.0
                (wider_part (n ∷ (ms ++ ns)) ns ss ss' to
                (λ o q. not_right o ms ns (or_parts (same_name n o) (is_among o (ms ++ ns)) q).1) w)),
          ),
        ),
      )

  moved_scoped_regions : (rs : Regions) (ss ss' : List Seen) (to : ValueName → ValueName) (n : OpName) (i : ℕ)
      → RegionsScoped ss n i rs → Wider (n ∷ regions_names rs) ss ss' to → RegionsScoped ss' n i (regions_moved to rs)
  moved_scoped_regions no_regions ss ss' to n i h w = tt
  moved_scoped_regions (region args ops rest) ss ss' to n i h w =
      let ms = ops_names ops in
      let ns = regions_names rest in (
        fresh_wider (n ∷ (ms ++ ns)) ss ss' to (args_of n i (length args))
            (far_args n (ms ++ ns) i (length args)) h.0 w,
        (
          moved_scoped ops (inside n i (length args) ∷ ss) (inside n i (length args) ∷ ss') to h.1.0
              (wider_more ms ss ss' to (inside n i (length args)) h.0
              (wider_part (n ∷ (ms ++ ns)) ms ss ss' to
              (λ o q. not_left o ms ns (or_parts (same_name n o) (is_among o (ms ++ ns)) q).1) w)),
          moved_scoped_regions rest ss ss' to n (suc i) h.1.1
              (wider_part (n ∷ (ms ++ ns)) (n ∷ ns) ss ss' to (λ o q. right_names n o ms ns q) w),
        ),
      )

-- ---- at the place

appended : (new more : Ops) (ss : List Seen) → OpsScoped ss new → OpsScoped (visible_after new ss) more
    → OpsScoped ss (append new more)
appended no_ops more ss h k = k
appended (op n k ds os ts rs rest) more ss h q =
    (h.0, (h.1.0, (h.1.1.0, appended rest more (done n (length ts) ∷ ss) h.1.1.1 q)))

result_far : (n : OpName) (count : ℕ) (v : ValueName) (i : ℕ) (ns : List OpName) → results_of n count v ≡ Some i
    → is_among n ns ≡ false → IsFar ns v
result_far n count (Result o num) i ns p h = named (eqb o.0 n.0) refl p
  where
    named : (b : Bool) → b ≡ eqb o.0 n.0 → (if b then below num count else None) ≡ Some i → is_among o ns ≡ false
    named true q x = subst (λ m. is_among m ns ≡ false) (sym (name_is o n (eqb-true o.0 n.0 (sym q)))) h
    named false q x = absurd (cc)
result_far n count (Arg o r num) i ns p h = absurd (cc)
result_far n count (Free num) i ns p h = absurd (cc)

-- what is visible behind new operations was visible before, or is far from what stands behind
after_far : (new : Ops) (ss : List Seen) (ns : List OpName) (v : ValueName)
    → Each (λ n. is_among n ns ≡ false) (outer_names new) → sees (visible_after new ss) v ≡ true → (sees ss v ≡ true)
    ⊎ IsFar ns v
after_far no_ops ss ns v a t = inl t
after_far (op n k ds os ts rs rest) ss ns v a t =
    elim (after_far rest (done n (length ts) ∷ ss) ns v a.1 t) [
      | inl x ↦ elim (new_or_old (results_of n (length ts) v) (sees ss v) x) [
        | inl y ↦ inr (result_far n (length ts) v y.0 ns y.1 a.0)
        | inr y ↦ inl y
      ]
      | inr x ↦ inr x
    ]

placed_scoped : (new : Ops) (by : List ValueName) (s : Context) (ops : Ops) → OpsScoped (visible s) ops
    → FitsHere new by s ops → OpsScoped (visible s) (replaced_by new by ops)
placed_scoped new by s no_ops h f = tt
placed_scoped new by s (op n k ds os ts rs rest) h f =
    let ss = visible s in
    let p = results_of n (length ts) in
    appended new (ops_moved (in_place_of p by) rest) ss f.scoped
    (moved_scoped rest (done n (length ts) ∷ ss) (visible_after new ss) (in_place_of p by) h.1.1.1 (record {
      shown = λ v t. shown_here (p v) v t (λ i q. rw f.many (result_below n (length ts) v i q));
      stays = λ v t. stays_itself (p v) (sees ss v) by v t;
      far =
          λ v t. elim (after_far new ss (ops_names rest) v f.apart t)
          [ inl x ↦ inl (or_right (is_some (p v)) (sees ss v) x) | inr x ↦ inr x ];
    }))
  where
    shown_here : (o : Option ℕ) (v : ValueName) → (is_some o || sees (visible s) v) ≡ true
        → ((i : ℕ) → o ≡ Some i → i < length by) → sees (visible_after new (visible s)) (item_of o by v) ≡ true
    shown_here None v t g = visible_more_after new (visible s) v t
    shown_here (Some i) v t g = seen_at (visible_after new (visible s)) by i v f.seen (g i refl)

-- ---- in the module

module _ (name : OpName) (new : Ops) (by : List ValueName) where
  mutual
    replaced_scoped : (ops : Ops) (s : Context) → OpsScoped (visible s) ops → OpsWhere name (FitsHere new by) s ops
        → OpsScoped (visible s) (ops_at name (replaced_by new by) ops)
    replaced_scoped no_ops s h w = tt
    replaced_scoped (op n k ds os ts rs rest) s h w =
        at_cases (eqb n.0 name.0) (replaced_by new by (op n k ds os ts rs rest))
        (op n k ds os ts (regions_at name (replaced_by new by) rs) (ops_at name (replaced_by new by) rest))
        (λ o. OpsScoped (visible s) o)
        (λ e. placed_scoped new by s (op n k ds os ts rs rest) h (w.0 e))
        (λ _. (
          h.0,
          (
            h.1.0,
            (
              replaced_scoped_regions rs s n 0 h.1.1.0 w.1.0,
              replaced_scoped rest
                  (behind s (made n k ds os ts rs)) h.1.1.1 w.1.1,
            ),
          ),
        ))

    replaced_scoped_regions : (rs : Regions) (s : Context) (n : OpName) (i : ℕ) → RegionsScoped (visible s) n i rs
        → RegionsWhere name (FitsHere new by) s n i rs
        → RegionsScoped (visible s) n i (regions_at name (replaced_by new by) rs)
    replaced_scoped_regions no_regions s n i h w = tt
    replaced_scoped_regions (region args ops rest) s n i h w =
        (h.0, (replaced_scoped ops (within s n i args) h.1.0 w.0, replaced_scoped_regions rest s n (suc i) h.1.1 w.1))

functions_scoped : (name : OpName) (new : Ops) (by : List ValueName) (fs : Ops) → NoFunction name fs
    → FunctionsScoped fs → FunctionsWhere name (FitsHere new by) fs
    → FunctionsScoped (ops_at name (replaced_by new by) fs)
functions_scoped name new by no_ops none h w = tt
functions_scoped name new by (op n k ds os ts rs rest) none h w =
    at_cases (eqb n.0 name.0) (replaced_by new by (op n k ds os ts rs rest))
    (op n k ds os ts (regions_at name (replaced_by new by) rs) (ops_at name (replaced_by new by) rest))
    (λ o. FunctionsScoped o)
    (λ e. absurd (let z = none.0 in cc))
    (λ _. (
      replaced_scoped_regions name new by rs outside n 0 h.0 w.0,
      functions_scoped name new by rest none.1 h.1 w.1,
    ))

pub replacement_may : ReplacementMay
replacement_may m name new by none scoped w = record {
  inner = none;
  before = scoped;
  after = subst FunctionsScoped (sym (functions_at m name (replaced_by new by)))
      (functions_scoped name new by (functions_of m) none scoped w);
}
