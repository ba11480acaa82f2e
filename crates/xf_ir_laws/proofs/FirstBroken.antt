-- There is no violation exactly where each operation keeps each rule.
use Rattle.std.proofs.Common.{◌≡◌, ℕ, suc, ◌<◌, List, [], ◌∷◌, ◌++◌, length, Option, None, Some, Bool, true, false, not}
use Rattle.std.proofs.Common.{◌&&◌, inl, inr, refl, sym, ap, subst, ◌∙◌}
use Rattle.std.specs.Prelude.{map, nat_lt, if◌then◌else◌}
use Rattle.std.proofs.lemmas.Bool.{cases_Bool, and_from, and_parts, or_from, or_right, ltb-true, lt-ltb}
use Rattle.xf_ir.specs.declared.name.OpName.{OpName}
use Rattle.xf_ir.specs.declared.op.Module.{Module}
use Rattle.xf_ir.specs.declared.rule.Rule.{Rule}
use Rattle.xf_ir.specs.Tree.{Ops, no_ops, op, Regions, no_regions, region}
use Rattle.xf_ir.specs.Walk.{ops_names, regions_names, tree_names}
use Rattle.xf_ir.specs.Kinds.{is_container, is_module, is_function}
use Rattle.xf_ir.specs.Lists.{Each, Once, same_name, is_among, is_empty, is_text_among, TextsOnce, texts_once}
use Rattle.xf_ir.specs.Places.{done, inside}
use Rattle.xf_ir.specs.Placed.{Typed, type_at, Holder, holder_of, Placed, ops_placed, regions_placed, functions_placed}
use Rattle.xf_ir.specs.Placed.{blocks_placed, placed, root_holder}
use Rattle.xf_ir.specs.Valid.{OpsInner, RegionsInner, FunctionsAlone, BlocksAlone, HoldsFunctions, IsNamedOnce}
use Rattle.xf_ir.specs.Valid.{symbols_in}
use Rattle.xf_ir.specs.Violations.{Violation, Kept, is_new_name, ops_inner, regions_inner, functions_alone}
use Rattle.xf_ir.specs.Violations.{blocks_alone, holds_functions, root_holds_functions, local_rules, rules_kept}
use Rattle.xf_ir.specs.Violations.{first_false, broken_or, first_broken}
use Rattle.xf_ir.proofs.Lists.{name_is, own_name, apart_names}

-- ---- the rules of one operation

abbrev AllTrue : List Kept → Type 0
AllTrue bs = Each (λ x. x.1 ≡ true) bs

none_one : (b : Bool) (r : Rule) (rest : Option Rule) → (if b then rest else Some r) ≡ None → (b ≡ true) × (rest ≡ None)
none_one true r rest h = (refl, h)
none_one false r rest h = absurd (cc)

none_false : (bs : List Kept) → first_false bs ≡ None → AllTrue bs
none_false [] h = tt
none_false (x ∷ bs) h = let q = none_one x.1 x.0 (first_false bs) h in (q.0, none_false bs q.1)

all_true : (bs : List Kept) → AllTrue bs → first_false bs ≡ None
all_true [] h = refl
all_true (x ∷ bs) h = ap (λ (b : Bool). if b then first_false bs else Some x.0) h.0 ∙ all_true bs h.1

-- ---- the rules of all operations

abbrev pub Local : Module → Placed → Type 0
Local m p = Each (λ x. x.1 ≡ true) (local_rules m p)

abbrev Unbroken : Module → List OpName → List Placed → Type 0
Unbroken m before [] = Unit {0}
Unbroken m before (p ∷ ps) = AllTrue (rules_kept m before p) × Unbroken m (p.tree.name ∷ before) ps

broken_none : (o : Option Rule) (n : OpName) (later : Option Violation) → broken_or o n later ≡ None
    → (o ≡ None) × (later ≡ None)
broken_none None n later h = (refl, h)
broken_none (Some r) n later h = absurd (cc)

none_broken : (m : Module) (before : List OpName) (ps : List Placed) → first_broken m before ps ≡ None
    → Unbroken m before ps
none_broken m before [] h = tt
none_broken m before (p ∷ ps) h =
    let q =
    broken_none (first_false (rules_kept m before p)) p.tree.name (first_broken m (p.tree.name ∷ before) ps) h in
    (none_false (rules_kept m before p) q.0, none_broken m (p.tree.name ∷ before) ps q.1)

unbroken_none : (m : Module) (before : List OpName) (ps : List Placed) → Unbroken m before ps
    → first_broken m before ps ≡ None
unbroken_none m before [] u = refl
unbroken_none m before (p ∷ ps) u =
    ap (λ o. broken_or o p.tree.name (first_broken m (p.tree.name ∷ before) ps)) (all_true (rules_kept m before p) u.0)
    ∙ unbroken_none m (p.tree.name ∷ before) ps u.1

-- ---- names

abbrev names_of : List Placed → List OpName
names_of [] = []
names_of (p ∷ ps) = p.tree.name ∷ names_of ps

names_both : (ps qs : List Placed) → names_of (ps ++ qs) ≡ names_of ps ++ names_of qs
names_both [] qs = refl
names_both (p ∷ ps) qs = ap (λ (ns : List OpName). p.tree.name ∷ ns) (names_both ps qs)

join_names : (ps qs : List Placed) (ms ns : List OpName) → names_of ps ≡ ms → names_of qs ≡ ns
    → names_of (ps ++ qs) ≡ ms ++ ns
join_names ps qs ms ns a b = names_both ps qs ∙ ap (λ xs. xs ++ names_of qs) a ∙ ap (λ xs. ms ++ xs) b

mutual
  ops_named : (h : Holder) (env : Typed) (ops : Ops) → names_of (ops_placed h env ops) ≡ ops_names ops
  ops_named h env no_ops = refl
  ops_named h env (op n k ds os ts rs rest) =
      ap (λ (ns : List OpName). n ∷ ns)
      (join_names _ _ (regions_names rs) (ops_names rest) (regions_named
      (holder_of k (map (type_at env) os) ts) env n 0 rs) (ops_named h ((done n (length ts), ts) ∷ env) rest))

  regions_named : (h : Holder) (env : Typed) (n : OpName) (i : ℕ) (rs : Regions)
      → names_of (regions_placed h env n i rs) ≡ regions_names rs
  regions_named h env n i no_regions = refl
  regions_named h env n i (region args ops rest) =
      join_names _ _ (ops_names ops) (regions_names rest) (ops_named h ((inside n i (length args), args) ∷ env) ops)
      (regions_named h env n (suc i) rest)

functions_named : (h : Holder) (fs : Ops) → names_of (functions_placed h fs) ≡ ops_names fs
functions_named h no_ops = refl
functions_named h (op n k ds os ts rs rest) =
    ap (λ (ns : List OpName). n ∷ ns) (join_names _ _ (regions_names rs) (ops_names rest)
    (regions_named (holder_of k (map (type_at []) os) ts) [] n 0 rs) (functions_named h rest))

blocks_named : (h : Holder) (rs : Regions) → names_of (blocks_placed h rs) ≡ regions_names rs
blocks_named h no_regions = refl
blocks_named h (region args ops rest) =
    join_names _ _ (ops_names ops) (regions_names rest) (functions_named h ops) (blocks_named h rest)

placed_named : (m : Module) → names_of (placed m) ≡ tree_names m.root
placed_named m = ap (λ (ns : List OpName). m.root.name ∷ ns) (blocks_named (root_holder m.root) m.root.regions)

-- each name is new behind those before it
abbrev NewNames : ℕ → List OpName → List OpName → Type 0
NewNames next before [] = Unit {0}
NewNames next before (n ∷ ns) = (is_new_name next before n ≡ true) × NewNames next (n ∷ before) ns

not_true : (b : Bool) → not b ≡ true → b ≡ false
not_true true h = absurd (cc)
not_true false h = refl

not_false : (b : Bool) → b ≡ false → not b ≡ true
not_false b h = ap not h

new_parts : (next : ℕ) (before : List OpName) (n : OpName) → is_new_name next before n ≡ true
    → (is_among n before ≡ false) × (n.0 < next)
new_parts next before n h = (let p = and_parts (not (is_among n before)) (nat_lt n.0 next) h in
    (not_true (is_among n before) p.0, ltb-true n.0 next p.1))

names_apart : (next : ℕ) (before ns : List OpName) (x : OpName) → NewNames next before ns → is_among x before ≡ true
    → is_among x ns ≡ false
names_apart next before [] x h i = refl
names_apart next before (n ∷ ns) x h i =
    let p = new_parts next before n h.0 in
    or_from (same_name n x) (is_among x ns)
    (elim (cases_Bool (same_name n x)) [
      | inl e ↦
          absurd (let z = subst (λ y. is_among y before ≡ false) (name_is n x e) p.0 in cc)
      | inr e ↦ e
    ])
    (names_apart next (n ∷ before) ns x h.1 (or_right (same_name n x) (is_among x before) i))

own_among : (n : OpName) (ns : List OpName) → is_among n (n ∷ ns) ≡ true
own_among n ns = (let z = own_name n in rw z refl)

new_once : (next : ℕ) (before ns : List OpName) → NewNames next before ns → Once ns
new_once next before [] h = tt
new_once next before (n ∷ ns) h =
    (names_apart next (n ∷ before) ns n h.1 (own_among n before), new_once next (n ∷ before) ns h.1)

new_below : (next : ℕ) (before ns : List OpName) → NewNames next before ns → Each (λ n. n.0 < next) ns
new_below next before [] h = tt
new_below next before (n ∷ ns) h = ((new_parts next before n h.0).1, new_below next (n ∷ before) ns h.1)

once_new : (next : ℕ) (before ns : List OpName) → Once ns → Each (λ n. n.0 < next) ns
    → ((x : OpName) → is_among x ns ≡ true → is_among x before ≡ false) → NewNames next before ns
once_new next before [] o b f = tt
once_new next before (n ∷ ns) o b f = (
  and_from _ _ (not_false (is_among n before) (f n (own_among n ns))) (lt-ltb n.0 next b.0),
  once_new next (n ∷ before) ns o.1 b.1 (λ x i. or_from (same_name n x) (is_among x before) (apart_names x n ns i o.0)
      (f x (or_right (same_name n x) (is_among x ns) i))),
)

-- ---- functions alone

mutual
  inner_is : (ops : Ops) → ops_inner ops ≡ true → OpsInner ops
  inner_is no_ops h = tt
  inner_is (op n k ds os ts rs rest) h =
      let p = and_parts (not (is_container k)) (regions_inner rs && ops_inner rest) h in
      let q = and_parts (regions_inner rs) (ops_inner rest) p.1 in
      (not_true (is_container k) p.0, (regions_inner_is rs q.0, inner_is rest q.1))

  regions_inner_is : (rs : Regions) → regions_inner rs ≡ true → RegionsInner rs
  regions_inner_is no_regions h = tt
  regions_inner_is (region args ops rest) h =
      (let p = and_parts (ops_inner ops) (regions_inner rest) h in (inner_is ops p.0, regions_inner_is rest p.1))

mutual
  is_inner : (ops : Ops) → OpsInner ops → ops_inner ops ≡ true
  is_inner no_ops h = refl
  is_inner (op n k ds os ts rs rest) h =
      and_from _ _ (not_false (is_container k) h.0) (and_from _ _ (is_regions_inner rs h.1.0) (is_inner rest h.1.1))

  is_regions_inner : (rs : Regions) → RegionsInner rs → regions_inner rs ≡ true
  is_regions_inner no_regions h = refl
  is_regions_inner (region args ops rest) h = and_from _ _ (is_inner ops h.0) (is_regions_inner rest h.1)

alone_is : (fs : Ops) → functions_alone fs ≡ true → FunctionsAlone fs
alone_is no_ops h = tt
alone_is (op n k ds os ts rs rest) h =
    let p = and_parts (is_function k) (regions_inner rs && functions_alone rest) h in
    let q = and_parts (regions_inner rs) (functions_alone rest) p.1 in
    (p.0, (regions_inner_is rs q.0, alone_is rest q.1))

is_alone : (fs : Ops) → FunctionsAlone fs → functions_alone fs ≡ true
is_alone no_ops h = refl
is_alone (op n k ds os ts rs rest) h = and_from _ _ h.0 (and_from _ _ (is_regions_inner rs h.1.0) (is_alone rest h.1.1))

blocks_alone_is : (rs : Regions) → blocks_alone rs ≡ true → BlocksAlone rs
blocks_alone_is no_regions h = tt
blocks_alone_is (region args ops rest) h =
    (let p = and_parts (functions_alone ops) (blocks_alone rest) h in (alone_is ops p.0, blocks_alone_is rest p.1))

is_blocks_alone : (rs : Regions) → BlocksAlone rs → blocks_alone rs ≡ true
is_blocks_alone no_regions h = refl
is_blocks_alone (region args ops rest) h = and_from _ _ (is_alone ops h.0) (is_blocks_alone rest h.1)

texts_is : (ss : List (List ℕ)) → texts_once ss ≡ true → TextsOnce ss
texts_is [] h = tt
texts_is (s ∷ ss) h = (let p = and_parts (not (is_text_among s ss)) (texts_once ss) h in
    (not_true (is_text_among s ss) p.0, texts_is ss p.1))

is_texts : (ss : List (List ℕ)) → TextsOnce ss → texts_once ss ≡ true
is_texts [] h = refl
is_texts (s ∷ ss) h = and_from _ _ (not_false (is_text_among s ss) h.0) (is_texts ss h.1)

pub holds_is : (m : Module) → holds_functions m ≡ true → HoldsFunctions m
holds_is m h =
    let p = and_parts (is_module m.root.kind) (blocks_alone m.root.regions
    && texts_once (symbols_in m.root.regions)) h in
    let q = and_parts (blocks_alone m.root.regions) (texts_once (symbols_in m.root.regions)) p.1 in
    record { root = p.0; alone = blocks_alone_is m.root.regions q.0; names = texts_is (symbols_in m.root.regions) q.1 }

is_holds : (m : Module) → HoldsFunctions m → holds_functions m ≡ true
is_holds m h = and_from _ _ h.root
    (and_from _ _ (is_blocks_alone m.root.regions h.alone) (is_texts (symbols_in m.root.regions) h.names))

-- ---- no violation

unbroken : (m : Module) (before : List OpName) (ps : List Placed) → (is_empty before ≡ true → holds_functions m ≡ true)
    → NewNames m.next before (names_of ps) → Each (Local m) ps → Unbroken m before ps
unbroken m before [] f n l = tt
unbroken m before (p ∷ ps) f n l =
    ((n.0, (holds_first m before f, l.0)), unbroken m (p.tree.name ∷ before) ps (λ e. absurd (cc)) n.1 l.1)
  where
    holds_first : (m : Module) (before : List OpName) → (is_empty before ≡ true → holds_functions m ≡ true)
        → root_holds_functions m before ≡ true
    holds_first m [] f = f refl
    holds_first m (x ∷ xs) f = refl

unbroken_names : (m : Module) (before : List OpName) (ps : List Placed) → Unbroken m before ps
    → NewNames m.next before (names_of ps)
unbroken_names m before [] u = tt
unbroken_names m before (p ∷ ps) u = (u.0.0, unbroken_names m (p.tree.name ∷ before) ps u.1)

unbroken_local : (m : Module) (before : List OpName) (ps : List Placed) → Unbroken m before ps → Each (Local m) ps
unbroken_local m before [] u = tt
unbroken_local m before (p ∷ ps) u = (u.0.1.1, unbroken_local m (p.tree.name ∷ before) ps u.1)

-- where names and functions are right and each operation keeps the local rules, there is no violation
pub no_violation : (m : Module) → IsNamedOnce m → HoldsFunctions m → Each (Local m) (placed m)
    → first_broken m [] (placed m) ≡ None
no_violation m n f l =
    let e = sym (placed_named m) in
    let o = subst Once e n.once in
    let b = subst (Each (λ (x : OpName). x.0 < m.next)) e n.below in
    unbroken_none m [] (placed m)
    (unbroken m [] (placed m) (λ _. is_holds m f) (once_new m.next [] (names_of (placed m)) o b (λ x i. refl)) l)

-- what there is where there is no violation
pub record Clean (m : Module) : Type 0 where
  pub names : IsNamedOnce m
  pub functions : HoldsFunctions m
  pub local : Each (Local m) (placed m)

pub clean : (m : Module) → first_broken m [] (placed m) ≡ None → Clean m
clean m h =
    let u = none_broken m [] (placed m) h in
    let n = unbroken_names m [] (placed m) u in
    let e = placed_named m in
    record {
      names = record {
        once = subst Once e (new_once m.next [] (names_of (placed m)) n);
        below = subst (Each (λ (x : OpName). x.0 < m.next)) e (new_below m.next [] (names_of (placed m)) n);
      };
      functions = holds_is m u.0.1.0;
      local = unbroken_local m [] (placed m) u;
    }
