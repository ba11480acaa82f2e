-- What the walk for unused operations finds.
use Rattle.std.proofs.Common.{◌≡◌, ℕ, suc, List, [], ◌∷◌, ◌++◌, length, Bool, true, false, eqb, ◌||◌, ◌&&◌, not, Option}
use Rattle.std.proofs.Common.{None, Some, is_some, inl, inr, refl, sym, ap, subst, ◌∙◌}
use Rattle.std.specs.Cmp.{nat_cmp_total, unsigned_tied}
use Rattle.std.specs.Ordering.{nat_cmp}
use Rattle.std.specs.FinSet as set
use Rattle.std.proofs.lemmas.Bool.{cases_Bool, eqb-true, eq-eqb, or_cases, or_from, or_parts}
use Rattle.xf_ir.specs.declared.name.OpName.{OpName}
use Rattle.xf_ir.specs.declared.name.ValueName.{ValueName}
use Rattle.xf_ir.specs.declared.name.ValueName.TheVariants.{Result, Arg, Free}
use Rattle.xf_ir.specs.declared.op.Module.{Module}
use Rattle.xf_ir.specs.Tree.{Ops, no_ops, op, Regions, no_regions, region, Tree}
use Rattle.xf_ir.specs.Walk.{ops_names, regions_names, ops_find, regions_find, tree_find}
use Rattle.xf_ir.specs.Lists.{Each, Once, same_name, is_among}
use Rattle.xf_ir.specs.Places.{Seen, done, inside, results_of, args_of, sees, AllSeen}
use Rattle.xf_ir.specs.Kinds.{is_container, is_terminator}
use Rattle.xf_ir.specs.Uses.{ops_operands, regions_operands, tree_operands}
use Rattle.xf_ir.specs.Choices.{bare, scope_of, scope_at, stands_before, MayErase, IsDead, IsNormal, dead_code}
use Rattle.xf_ir.specs.Choices.{IsFirstDead}
use Rattle.xf_ir.specs.Used.{with_uses, goes_unused, ops_first, regions_first}
use Rattle.xf_ir.specs.Valid.{IsValid, block_of, OpsSee, RegionsSee, FunctionsSee}
use Rattle.xf_ir.proofs.Lists.{name_is, own_name, not_left, not_right, once_left, once_right, absent_before}
use Rattle.xf_ir.proofs.Lists.{apart_names, each_both}
use Rattle.xf_ir.proofs.Found.{tree, none_of, first_cases, found_in, found_name, found_name_regions}
use Rattle.xf_ir.proofs.Found.{found_named_regions, lost_name, lost_name_regions, OpsWhere, RegionsWhere}
use Rattle.xf_ir.proofs.Found.{where_found_regions, block_where, HasResults, Outside}
use Rattle.xf_ir.proofs.Root.{one_block}
use Rattle.xf_ir.proofs.Bare.{once_bare, found_inside}

-- ---- the operations that are used

-- whether a value is a result of the operation
abbrev pub is_result : OpName → ValueName → Bool
is_result n (Result o num) = eqb o.0 n.0
is_result n (Arg o r num) = false
is_result n (Free num) = false

inserted : (s : set.FinSet nat_cmp) (k q : ℕ) → set.contains (set.insert s k) q ≡ (eqb q k || set.contains s q)
inserted s k q = set.contains-insert nat_cmp_total s k q ∙ ap (λ b. b || set.contains s q) (unsigned_tied q k)

flipped : (a b : ℕ) → eqb a b ≡ false → eqb b a ≡ false
flipped a b h =
    elim (cases_Bool (eqb b a)) [ inl t ↦ (let e = eqb-true b a t in let o = eq-eqb a b (sym e) in cc) | inr f ↦ f ]

-- a name that is not used is used by none of the values
pub none_used : (n : OpName) (vs : List ValueName) (s : set.FinSet nat_cmp) → set.contains (with_uses s vs) n.0 ≡ false
    → (set.contains s n.0 ≡ false) × Each (λ v. is_result n v ≡ false) vs
none_used n [] s h = (h, tt)
none_used n (Result o num ∷ vs) s h =
    let r = none_used n vs (set.insert s o.0) h in
    let p = or_parts (eqb n.0 o.0) (set.contains s n.0) (sym (inserted s o.0 n.0) ∙ r.0) in
    (p.1, (flipped n.0 o.0 p.0, r.1))
none_used n (Arg o r num ∷ vs) s h = (let r = none_used n vs s h in (r.0, (refl, r.1)))
none_used n (Free num ∷ vs) s h = (let r = none_used n vs s h in (r.0, (refl, r.1)))

pub not_used : (n : OpName) (vs : List ValueName) (s : set.FinSet nat_cmp) → set.contains s n.0 ≡ false
    → Each (λ v. is_result n v ≡ false) vs → set.contains (with_uses s vs) n.0 ≡ false
not_used n [] s h e = h
not_used n (Result o num ∷ vs) s h e = not_used n vs (set.insert s o.0) (inserted s o.0 n.0
    ∙ or_from (eqb n.0 o.0) (set.contains s n.0) (flipped o.0 n.0 e.0) h) e.1
not_used n (Arg o r num ∷ vs) s h e = not_used n vs s h e.1
not_used n (Free num ∷ vs) s h e = not_used n vs s h e.1

outside_here : (n : OpName) (count : ℕ) (v : ValueName) → is_result n v ≡ false → Outside (results_of n count) v
outside_here n count (Result o num) h = rw h refl
outside_here n count (Arg o r num) h = refl
outside_here n count (Free num) h = refl

pub outside_all : (n : OpName) (count : ℕ) (vs : List ValueName) → Each (λ v. is_result n v ≡ false) vs
    → Each (Outside (results_of n count)) vs
outside_all n count [] h = tt
outside_all n count (v ∷ vs) h = (outside_here n count v h.0, outside_all n count vs h.1)

-- ---- in a valid module a result that an operand names is there

-- a result of the operation is one of so many
abbrev pub Fits : OpName → ℕ → ValueName → Type 0
Fits n count v = is_result n v ≡ true → is_some (results_of n count v) ≡ true

abbrev pub SeenFit : OpName → ℕ → List Seen → Type 0
SeenFit n count ss = (v : ValueName) → sees ss v ≡ true → Fits n count v

fit_result : (name n : OpName) (count count' : ℕ) (v : ValueName) → (eqb n.0 name.0 ≡ true → count' ≡ count)
    → is_some (results_of n count' v) ≡ true → Fits name count v
fit_result name n count count' (Result o num) w h t =
    elim (cases_Bool (eqb o.0 n.0)) [
      | inl e ↦ (
          let a = name_is o name t in
          let b = name_is o n e in
          let c : n ≡ name = sym b ∙ a in
          let d : count' ≡ count = w (subst (λ x. eqb n.0 x.0 ≡ true) c (own_name n)) in
          subst (λ k. is_some (results_of name k (Result o num))
          ≡ true) d (subst (λ x. is_some (results_of x count' (Result o num)) ≡ true) c h))
      | inr f ↦ absurd (let z = rw f at h in cc)
    ]
fit_result name n count count' (Arg o r num) w h t = absurd (cc)
fit_result name n count count' (Free num) w h t = absurd (cc)

fit_arg : (name n : OpName) (i count count' : ℕ) (v : ValueName) → is_some (args_of n i count' v) ≡ true
    → Fits name count v
fit_arg name n i count count' (Result o num) h t = absurd (cc)
fit_arg name n i count count' (Arg o r num) h t = absurd (cc)
fit_arg name n i count count' (Free num) h t = absurd (cc)

all_fit : (name : OpName) (count : ℕ) (ss : List Seen) (vs : List ValueName) → SeenFit name count ss → AllSeen ss vs
    → Each (Fits name count) vs
all_fit name count ss [] f h = tt
all_fit name count ss (v ∷ vs) f h = (f v h.0, all_fit name count ss vs f h.1)

module _ (name : OpName) (count : ℕ) where
  mutual
    ops_fit : (ss : List Seen) (ops : Ops) → SeenFit name count ss → OpsWhere name (HasResults count) ops
        → OpsSee ss ops → Each (Fits name count) (ops_operands ops)
    ops_fit ss no_ops f w h = tt
    ops_fit ss (op n k ds os ts rs rest) f w h =
        let more : SeenFit name count (done n (length ts) ∷ ss) =
        λ v s. elim (or_cases (is_some (results_of n (length ts) v)) (sees ss v) s) [
          | inl a ↦
              fit_result name n count (length ts) v w.0 a
          | inr a ↦ f v a
        ] in
        each_both (Fits name count) os (regions_operands rs ++ ops_operands rest) (all_fit name count ss os f h.0)
        (each_both (Fits name count) (regions_operands rs) (ops_operands rest) (regions_fit ss n 0 rs f w.1.0 h.1.0)
        (ops_fit (done n (length ts) ∷ ss) rest more w.1.1 h.1.1))

    regions_fit : (ss : List Seen) (n : OpName) (i : ℕ) (rs : Regions) → SeenFit name count ss
        → RegionsWhere name (HasResults count) rs → RegionsSee ss n i rs → Each (Fits name count) (regions_operands rs)
    regions_fit ss n i no_regions f w h = tt
    regions_fit ss n i (region args ops rest) f w h =
        let more : SeenFit name count (inside n i (length args) ∷ ss) =
        λ v s. elim (or_cases (is_some (args_of n i (length args) v)) (sees ss v) s) [
          | inl a ↦
              fit_arg name n i count (length args) v a
          | inr a ↦ f v a
        ] in
        each_both (Fits name count) (ops_operands ops) (regions_operands rest)
        (ops_fit (inside n i (length args) ∷ ss) ops more w.0 h.0) (regions_fit ss n (suc i) rest f w.1 h.1)

  none_seen : SeenFit name count []
  none_seen v s = absurd (cc)

  functions_fit : (fs : Ops) → OpsWhere name (HasResults count) fs → FunctionsSee fs
      → Each (Fits name count) (ops_operands fs)
  functions_fit no_ops w h = tt
  functions_fit (op n k ds os ts rs rest) w h =
      each_both (Fits name count) os (regions_operands rs ++ ops_operands rest) (all_fit name count [] os none_seen h.0)
      (each_both (Fits name count) (regions_operands rs) (ops_operands rest)
      (regions_fit [] n 0 rs none_seen w.1.0 h.1.0) (functions_fit rest w.1.1 h.1.1))

  -- the one block of a module has all that its regions have
  module_fit : (rs : Regions) → rs ≡ region [] (block_of rs) no_regions → RegionsWhere name (HasResults count) rs
      → FunctionsSee (block_of rs) → Each (Fits name count) (regions_operands rs)
  module_fit rs e w h =
      subst (λ x. Each (Fits name count) (regions_operands x)) (sym e) (each_both (Fits name count) (ops_operands
      (block_of rs)) [] (functions_fit (block_of rs) (block_where name (HasResults count) rs w) h) tt)

no_results : (n : OpName) (count : ℕ) (vs : List ValueName) → Each (Fits n count) vs
    → Each (Outside (results_of n count)) vs → Each (λ v. is_result n v ≡ false) vs
no_results n count [] f o = tt
no_results n count (v ∷ vs) f o = (
  elim (cases_Bool (is_result n v)) [ inl t ↦ absurd (let a = f.0 t in let b = ap is_some o.0 in cc) | inr e ↦ e ],
  no_results n count vs f.1 o.1,
)

-- what is dead is not used
pub dead_not_used : (m : Module) (t : Tree) → IsValid m → regions_find t.name m.root.regions ≡ Some t → IsDead m t
    → set.contains (with_uses set.empty (tree_operands m.root)) t.name.0 ≡ false
dead_not_used m t v found d =
    let count = length t.results in
    let rs = m.root.regions in
    let w = where_found_regions t.name (HasResults count) t rs v.names.once.1 found refl in
    let f : Each (Fits t.name count) (tree_operands m.root) =
    each_both (Fits t.name count) m.root.operands (regions_operands rs)
    (all_fit t.name count [] m.root.operands (none_seen t.name count) v.uses.root)
    (module_fit t.name count rs (one_block m.root.kind v.functions.root _ _ rs v.regions.0) w v.uses.functions) in
    not_used t.name (tree_operands m.root) set.empty (set.contains-empty nat_cmp t.name.0)
    (no_results t.name count (tree_operands m.root) f d.unused)

-- ---- the first that passes a test

before_left : (a b : OpName) (xs ys : List OpName) → is_among b xs ≡ true → stands_before a b (xs ++ ys) ≡ true
    → stands_before a b xs ≡ true
before_left a b [] ys i h = absurd (cc)
before_left a b (x ∷ xs) ys i h =
    elim (cases_Bool (same_name x b)) [
      | inl t ↦ absurd (let z = rw t at h in cc)
      | inr f ↦ elim (cases_Bool (same_name x a)) [
        | inl t ↦ rw (f, t) refl
        | inr g ↦ (let r = before_left a b xs ys (rw f at i) (rw (f, g) at h) in rw (f, g, r) refl)
      ]
    ]

before_right : (a b : OpName) (xs ys : List OpName) → is_among a xs ≡ false → is_among b xs ≡ false
    → stands_before a b (xs ++ ys) ≡ true → stands_before a b ys ≡ true
before_right a b [] ys i j h = h
before_right a b (x ∷ xs) ys i j h =
    let p = or_parts (same_name x a) (is_among a xs) i in
    let q = or_parts (same_name x b) (is_among b xs) j in
    before_right a b xs ys p.1 q.1 (rw (q.0, p.0) at h)

not_before : (a b : OpName) (xs : List OpName) → is_among a xs ≡ false → stands_before a b xs ≡ false
not_before a b [] i = refl
not_before a b (x ∷ xs) i =
    let p = or_parts (same_name x a) (is_among a xs) i in
    let r = not_before a b xs p.1 in
    elim (cases_Bool (same_name x b)) [ inl t ↦ rw t refl | inr f ↦ rw (f, p.0, r) refl ]

module _ (p : Tree → Bool) where
  mutual
    pub first_found : (ops : Ops) (n : OpName) → Once (ops_names ops) → ops_first p ops ≡ Some n
        → (t : Tree) × (ops_find n ops ≡ Some t) × (p t ≡ true)
    first_found no_ops n o h = absurd (cc)
    first_found (op m k ds os ts rs rest) n o h =
        let ms = regions_names rs in
        let ns = ops_names rest in
        elim (cases_Bool (p (tree m k ds os ts rs))) [
          | inl e ↦ (
              let h' = rw e at h in
              let q : m ≡ n = cc in
              let d : eqb m.0 n.0 ≡ true = subst (λ x. eqb m.0 x.0 ≡ true) q (own_name m) in
              (tree m k ds os ts rs, rw d refl, e))
          | inr e ↦ elim (first_cases (regions_first p rs) (ops_first p rest) n (rw e at h)) [
            | inl g ↦ (
                let r = first_found_regions rs n (once_left ms ns o.1) g in
                let d = apart_names n m ms (found_name_regions n r.0 rs r.1) (not_left m ms ns o.0) in
                let f = r.1 in
                (r.0, rw (d, f) refl, r.2))
            | inr g ↦ (
                let r = first_found rest n (once_right ms ns o.1) g.1 in
                let i = found_name n r.0 rest r.1 in
                let d = apart_names n m ns i (not_right m ms ns o.0) in
                let l = lost_name_regions n rs (absent_before n ms ns o.1 i) in
                let f = r.1 in
                (r.0, rw (d, l, f) refl, r.2))
          ]
        ]

    pub first_found_regions : (rs : Regions) (n : OpName) → Once (regions_names rs) → regions_first p rs ≡ Some n
        → (t : Tree) × (regions_find n rs ≡ Some t) × (p t ≡ true)
    first_found_regions no_regions n o h = absurd (cc)
    first_found_regions (region args ops rest) n o h =
        let ms = ops_names ops in
        let ns = regions_names rest in
        elim (first_cases (ops_first p ops) (regions_first p rest) n h) [
          | inl g ↦ (let r = first_found ops n (once_left ms ns o) g in let f = r.1 in (r.0, rw f refl, r.2))
          | inr g ↦ (
              let r = first_found_regions rest n (once_right ms ns o) g.1 in
              let l = lost_name n ops (absent_before n ms ns o (found_name_regions n r.0 rest r.1)) in
              let f = r.1 in
              (r.0, rw (l, f) refl, r.2))
        ]

  mutual
    pub first_none : (ops : Ops) (x : OpName) (t : Tree) → ops_first p ops ≡ None
        → ops_find x ops ≡ Some t → p t ≡ false
    first_none no_ops x t h g = absurd (cc)
    first_none (op m k ds os ts rs rest) x t h g =
        elim (cases_Bool (p (tree m k ds os ts rs))) [
          | inl e ↦ absurd (let h' = rw e at h in cc)
          | inr e ↦ (
              let n = none_of (regions_first p rs) (ops_first p rest) (rw e at h) in
              elim (cases_Bool (eqb m.0 x.0)) [
                | inl d ↦ (let g' = rw d at g in let q : tree m k ds os ts rs ≡ t = cc in subst (λ u. p u ≡ false) q e)
                | inr d ↦ elim (first_cases (regions_find x rs) (ops_find x rest) t (rw d at g)) [
                  | inl f ↦ first_none_regions rs x t n.0 f
                  | inr f ↦ first_none rest x t n.1 f.1
                ]
              ])
        ]

    pub first_none_regions : (rs : Regions) (x : OpName) (t : Tree) → regions_first p rs ≡ None
        → regions_find x rs ≡ Some t → p t ≡ false
    first_none_regions no_regions x t h g = absurd (cc)
    first_none_regions (region args ops rest) x t h g =
        let n = none_of (ops_first p ops) (regions_first p rest) h in
        elim (first_cases (ops_find x ops) (regions_find x rest) t g) [
          | inl f ↦ first_none ops x t n.0 f
          | inr f ↦ first_none_regions rest x t n.1 f.1
        ]

  mutual
    pub first_before : (ops : Ops) (n x : OpName) (t : Tree) → Once (ops_names ops) → ops_first p ops ≡ Some n
        → stands_before x n (ops_names ops) ≡ true → ops_find x ops ≡ Some t → p t ≡ false
    first_before no_ops n x t o h b g = absurd (cc)
    first_before (op m k ds os ts rs rest) n x t o h b g =
        let ms = regions_names rs in
        let ns = ops_names rest in
        elim (cases_Bool (p (tree m k ds os ts rs))) [
          | inl e ↦ absurd (
              let h' = rw e at h in
              let q : m ≡ n = cc in
              let d : eqb m.0 n.0 ≡ true = subst (λ y. eqb m.0 y.0 ≡ true) q (own_name m) in
              let z = rw d at b in cc)
          | inr e ↦ elim (cases_Bool (eqb m.0 x.0)) [
            | inl d ↦ (let g' = rw d at g in let q : tree m k ds os ts rs ≡ t = cc in subst (λ u. p u ≡ false) q e)
            | inr d ↦ elim (first_cases (regions_first p rs) (ops_first p rest) n (rw e at h)) [
              | inl f ↦ (
                  let r = first_found_regions rs n (once_left ms ns o.1) f in
                  let i = found_name_regions n r.0 rs r.1 in
                  let a = apart_names n m ms i (not_left m ms ns o.0) in
                  let b' = before_left x n ms ns i (rw (a, d) at b) in
                  elim (first_cases (regions_find x rs) (ops_find x rest) t (rw d at g)) [
                    | inl u ↦ first_before_regions rs n x t (once_left ms ns o.1) f b' u
                    | inr u ↦
                        absurd (let z = not_before x n ms (absent_before x ms ns o.1 (found_name x t rest u.1)) in cc)
                  ])
              | inr f ↦ (
                  let r = first_found rest n (once_right ms ns o.1) f.1 in
                  let i = found_name n r.0 rest r.1 in
                  let a = apart_names n m ns i (not_right m ms ns o.0) in
                  elim (first_cases (regions_find x rs) (ops_find x rest) t (rw d at g)) [
                    | inl u ↦ first_none_regions rs x t f.0 u
                    | inr u ↦ (
                        let c = absent_before x ms ns o.1 (found_name x t rest u.1) in
                        let b' = before_right x n ms ns c (absent_before n ms ns o.1 i) (rw (a, d) at b) in
                        first_before rest n x t (once_right ms ns o.1) f.1 b' u.1)
                  ])
            ]
          ]
        ]

    pub first_before_regions : (rs : Regions) (n x : OpName) (t : Tree)
        → Once (regions_names rs) → regions_first p rs ≡ Some n → stands_before x n (regions_names rs) ≡ true
        → regions_find x rs ≡ Some t → p t ≡ false
    first_before_regions no_regions n x t o h b g = absurd (cc)
    first_before_regions (region args ops rest) n x t o h b g =
        let ms = ops_names ops in
        let ns = regions_names rest in
        elim (first_cases (ops_first p ops) (regions_first p rest) n h) [
          | inl f ↦ (
              let r = first_found ops n (once_left ms ns o) f in
              let b' = before_left x n ms ns (found_name n r.0 ops r.1) b in
              elim (first_cases (ops_find x ops) (regions_find x rest) t g) [
                | inl u ↦ first_before ops n x t (once_left ms ns o) f b' u
                | inr u ↦
                    absurd (let z = not_before x n ms (absent_before x ms ns o (found_name_regions x t rest u.1)) in cc)
              ])
          | inr f ↦ (
              let r = first_found_regions rest n (once_right ms ns o) f.1 in
              let i = found_name_regions n r.0 rest r.1 in
              elim (first_cases (ops_find x ops) (regions_find x rest) t g) [
                | inl u ↦ first_none ops x t f.0 u
                | inr u ↦ (
                    let c = absent_before x ms ns o (found_name_regions x t rest u.1) in
                    let b' = before_right x n ms ns c (absent_before n ms ns o i) b in
                    first_before_regions rest n x t (once_right ms ns o) f.1 b' u.1)
              ])
        ]

-- ---- the first operation that may be erased

mutual
  once_inside : (ops : Ops) (target : OpName) (s : Tree) → Once (ops_names ops) → ops_find target ops ≡ Some s
      → Once (regions_names s.regions)
  once_inside no_ops target s o h = absurd (cc)
  once_inside (op n k ds os ts rs rest) target s o h =
      let ms = regions_names rs in
      let ns = ops_names rest in
      elim (cases_Bool (eqb n.0 target.0)) [
        | inl e ↦ (let h' = rw e at h in let q : tree n k ds os ts rs ≡ s =
            cc in subst (λ (x : Tree). Once (regions_names x.regions)) q (once_left ms ns o.1))
        | inr e ↦ elim (first_cases (regions_find target rs) (ops_find target rest) s (rw e at h)) [
          | inl f ↦ once_inside_regions rs target s (once_left ms ns o.1) f
          | inr f ↦ once_inside rest target s (once_right ms ns o.1) f.1
        ]
      ]

  once_inside_regions : (rs : Regions) (target : OpName) (s : Tree) → Once (regions_names rs)
      → regions_find target rs ≡ Some s → Once (regions_names s.regions)
  once_inside_regions no_regions target s o h = absurd (cc)
  once_inside_regions (region args ops rest) target s o h =
      elim (first_cases (ops_find target ops) (regions_find target rest) s h) [
        | inl f ↦ once_inside ops target s (once_left (ops_names ops) (regions_names rest) o) f
        | inr f ↦ once_inside_regions rest target s (once_right (ops_names ops) (regions_names rest) o) f.1
      ]

once_scope : (t : Tree) (target : OpName) → Once (regions_names t.regions)
    → Once (regions_names (scope_of (tree_find target t)))
once_scope t target o =
    elim (cases_Bool (eqb t.name.0 target.0)) [
      | inl e ↦ rw e o
      | inr e ↦ rw e (deeper (regions_find target t.regions) refl)
    ]
  where
    deeper : (u : Option Tree) → regions_find target t.regions ≡ u → Once (regions_names (scope_of u))
    deeper None e = tt
    deeper (Some x) e = once_inside_regions t.regions target x o e

abbrev pub used_of : Module → set.FinSet nat_cmp
used_of m = with_uses set.empty (tree_operands m.root)

passes : (a b c : Bool) → (not (a || b) && not c) ≡ true → (a ≡ false) × ((b ≡ false) × (c ≡ false))
passes true b c h = absurd (cc)
passes false true c h = absurd (cc)
passes false false true h = absurd (cc)
passes false false false h = (refl, (refl, refl))

fails : (a b c : Bool) → (not (a || b) && not c) ≡ false → a ≡ false → b ≡ false → c ≡ false → ⊥
fails a b c h p q r = (let z = rw (p, q, r) at h in cc)

module _ (m : Module) (target : OpName) (v : IsValid m) where
  pub first_may : (name : OpName) → regions_first (goes_unused (used_of m)) (scope_at m target) ≡ Some name
      → MayErase m target name
  first_may name h =
      let r = first_found_regions (goes_unused (used_of m)) (scope_at m target) name
      (once_scope (bare m.root) target (once_bare m.root v.names.once.1)) h in
      let w = found_inside m target name r.0 v.names r.1 in
      let t = w.0 in
      let p : goes_unused (used_of m) t ≡ true = subst (λ x. goes_unused (used_of m) x ≡ true) w.2 r.2 in
      let q = passes (is_container t.kind) (is_terminator t.kind) (set.contains (used_of m) t.name.0) p in
      record {
        within = found_name_regions name r.0 (scope_at m target) r.1;
        tree = t;
        inside = w.1;
        suits = record {
          inner = q.0;
          goes = q.1.0;
          unused = outside_all t.name (length t.results) (tree_operands m.root)
              (none_used t.name (tree_operands m.root) set.empty q.1.1).1;
        };
      }

  -- what may be erased passes, as it stands in the scope
  may_pass : (name : OpName) (t : Tree) (e : MayErase m target name) → regions_find name (scope_at m target) ≡ Some t
      → goes_unused (used_of m) t ≡ false → ⊥
  may_pass name t e f h =
      let w = found_inside m target name t v.names f in
      let same : Some w.0 ≡ Some e.tree = sym w.1 ∙ e.inside in
      let s : w.0 ≡ e.tree = cc in
      let n = found_named_regions name e.tree m.root.regions e.inside in
      let g = subst (λ x. regions_find x m.root.regions ≡ Some e.tree) (sym n) e.inside in
      let a : goes_unused (used_of m) w.0 ≡ false = subst (λ x. goes_unused (used_of m) x ≡ false) w.2 h in
      let k : goes_unused (used_of m) e.tree ≡ false = subst (λ x. goes_unused (used_of m) x ≡ false) s a in
      fails (is_container e.tree.kind) (is_terminator e.tree.kind)
      (set.contains (used_of m) e.tree.name.0) k e.suits.inner e.suits.goes (dead_not_used m e.tree v g e.suits)

  none_applies : regions_first (goes_unused (used_of m)) (scope_at m target) ≡ None → (name : OpName)
      → MayErase m target name → ⊥
  none_applies h name e =
      let f = found_in name (scope_at m target) e.within in
      may_pass name f.0 e f.1 (first_none_regions (goes_unused (used_of m)) (scope_at m target) name f.0 h f.1)

  pub none_may : regions_first (goes_unused (used_of m)) (scope_at m target) ≡ None → IsNormal dead_code m target
  none_may h = (none_applies h, tt)

  pub first_is : (name : OpName) → regions_first (goes_unused (used_of m)) (scope_at m target) ≡ Some name
      → IsFirstDead m target name
  first_is name h other b e =
      let f = found_in other (scope_at m target) e.within in
      let once = once_scope (bare m.root) target (once_bare m.root v.names.once.1) in
      may_pass other f.0 e f.1
      (first_before_regions (goes_unused (used_of m)) (scope_at m target) name other f.0 once h b f.1)
