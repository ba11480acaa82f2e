-- Numbers of dimensions, gathered in sets.
use Rattle.std.proofs.Common.{◌≡◌, ℕ, suc, ◌+◌, ◌-◌, ◌<◌, ◌&&◌, ◌||◌, List, [], ◌∷◌, Bool, true, false, not, inl, inr}
use Rattle.std.proofs.Common.{refl, sym, ap, ◌∙◌, arith}
use Rattle.std.specs.Prelude.{◌==◌}
use Rattle.std.specs.Cmp.{nat_cmp_total, unsigned_tied}
use Rattle.std.specs.Ordering.{nat_cmp}
use Rattle.std.specs.FinSet as set
use Rattle.std.proofs.lemmas.Bool.{cases_Bool, eqb-true, eq-eqb}
use Rattle.xf_type.specs.declared.attribute.AffineMap.{AffineMap}
use Rattle.xf_ir.specs.declared.kind.IteratorKind.{IteratorKind}
use Rattle.xf_ir.specs.Lists.{every, some}
use Rattle.xf_ir.specs.RuleLinalg.{counted, is_number_among, numbers_once, are_covered, is_parallel, same_truth}
use Rattle.xf_ir.specs.RuleLinalg.{last_results, iterators_fit}
use Rattle.xf_rules_shape.specs.Dims.{Dims, with_dims, with_results, are_new, iterators_fit_set}

pub inserted : (s : Dims) (k q : ℕ) → set.contains (set.insert s k) q ≡ ((q == k) || set.contains s q)
inserted s k q = set.contains-insert nat_cmp_total s k q ∙ ap (λ b. b || set.contains s q) (unsigned_tied q k)

pub flipped : (a b : ℕ) → (a == b) ≡ (b == a)
flipped a b = elim (cases_Bool (a == b)) [
  | inl h ↦ (let e = eqb-true a b h in h ∙ sym (eq-eqb b a (sym e)))
  | inr h ↦ elim (cases_Bool (b == a)) [
    | inl k ↦ (let e = eqb-true b a k in let z = eq-eqb a b (sym e) in absurd (cc))
    | inr k ↦ h ∙ sym k
  ]
]

or_again : (a b c : Bool) → ((a || b) || c) ≡ (b || (a || c))
or_again true true c = refl
or_again true false c = refl
or_again false b c = refl

-- a set with numbers has them and what it had
with_has : (s : Dims) (ds : List ℕ) (q : ℕ)
    → set.contains (with_dims s ds) q ≡ (is_number_among q ds || set.contains s q)
with_has s [] q = refl
with_has s (d ∷ ds) q =
    with_has (set.insert s d) ds q
    ∙ ap (λ b. is_number_among q ds || b) (inserted s d q ∙ ap (λ b. b || set.contains s q) (flipped q d))
    ∙ sym (or_again (d == q) (is_number_among q ds) (set.contains s q))

results_have : (s : Dims) (maps : List AffineMap) (q : ℕ) → set.contains (with_results s maps) q
    ≡ (some (λ (map : AffineMap). is_number_among q map.results) maps || set.contains s q)
results_have s [] q = refl
results_have s (map ∷ maps) q =
    results_have (with_dims s map.results) maps q
    ∙ ap (λ b. some (λ (m : AffineMap). is_number_among q m.results) maps || b) (with_has s map.results q)
    ∙ sym (or_again (is_number_among q map.results) (some (λ (m : AffineMap). is_number_among q m.results) maps)
    (set.contains s q))

or_none : (b : Bool) → (b || false) ≡ b
or_none true = refl
or_none false = refl

empty_has : (q : ℕ) → set.contains {R = nat_cmp} set.empty q ≡ false
empty_has q = set.contains-empty nat_cmp q

same_every : {A : Type 0} (p q : A → Bool) (xs : List A) → ((x : A) → p x ≡ q x) → every p xs ≡ every q xs
same_every p q [] h = refl
same_every p q (x ∷ xs) h = ap (λ b. b && every p xs) (h x) ∙ ap (λ b. q x && b) (same_every p q xs h)

counted_next : (n m : ℕ) → n < m → counted n (m - n) ≡ n ∷ counted (n + 1) (m - (n + 1))
counted_next n m h = (let e : m - n ≡ suc (m - (n + 1)) = omega arith in ap (counted n) e)

-- what is left of the numbers below a count
pub has_next : (s : Dims) (n m : ℕ) (whole : Bool)
    → n < m → set.contains s n ≡ true → every (set.contains s) (counted n (m - n)) ≡ whole
    → every (set.contains s) (counted (n + 1) (m - (n + 1))) ≡ whole
has_next s n m whole h t e = (let f = rw (counted_next n m h) at e in rw t at f)

pub lacks_next : (s : Dims) (n m : ℕ) (whole : Bool) → n < m → set.contains s n ≡ false
    → every (set.contains s) (counted n (m - n)) ≡ whole → false ≡ whole
lacks_next s n m whole h t e = (let f = rw (counted_next n m h) at e in rw t at f)

pub covered_by_set : (maps : List AffineMap) (count : ℕ)
    → every (set.contains (with_results set.empty maps)) (counted 0 count) ≡ are_covered maps count
covered_by_set maps count = same_every _ _ (counted 0 count) (λ q. results_have set.empty maps q
    ∙ ap (λ b. some (λ (map : AffineMap). is_number_among q map.results) maps || b) (empty_has q)
    ∙ or_none (some (λ (map : AffineMap). is_number_among q map.results) maps))

iterators_by_set : (out : List ℕ) (d : ℕ) (is : List IteratorKind)
    → iterators_fit_set (with_dims set.empty out) d is ≡ iterators_fit out d is
iterators_by_set out d [] = refl
iterators_by_set out d (i ∷ is) =
    ap (λ b. same_truth (is_parallel i) b
    && iterators_fit_set (with_dims set.empty out) (d + 1) is) (with_has set.empty out d
    ∙ ap (λ b. is_number_among d out || b) (empty_has d) ∙ or_none (is_number_among d out))
    ∙ ap (λ b. same_truth (is_parallel i) (is_number_among d out) && b) (iterators_by_set out (d + 1) is)

pub fit_by_set : (maps : List AffineMap) (is : List IteratorKind)
    → iterators_fit_set (with_dims set.empty (last_results maps)) 0 is ≡ iterators_fit (last_results maps) 0 is
fit_by_set maps is = iterators_by_set (last_results maps) 0 is

-- ---- numbers that stand once

-- whether none of the numbers is in the set
abbrev are_outside : Dims → List ℕ → Bool
are_outside s ds = every (λ d. not (set.contains s d)) ds

apart : (p q r t : Bool) → (not (p || q) && (not r && t)) ≡ (not (p || r) && (not q && t))
apart true q r t = refl
apart false true true t = refl
apart false true false t = refl
apart false false true t = refl
apart false false false t = refl

together : (a b c d : Bool) → (a && ((b && c) && d)) ≡ ((a && c) && (b && d))
together true true c d = refl
together true false true d = refl
together true false false d = refl
together false b c d = refl

outside_more : (s : Dims) (d : ℕ) (ds : List ℕ)
    → are_outside (set.insert s d) ds ≡ (not (is_number_among d ds) && are_outside s ds)
outside_more s d [] = refl
outside_more s d (x ∷ xs) =
    ap (λ b. not b && are_outside (set.insert s d) xs) (inserted s d x)
    ∙ ap (λ b. not ((x == d) || set.contains s x) && b) (outside_more s d xs)
    ∙ apart (x == d) (set.contains s x) (is_number_among d xs) (are_outside s xs)

new_by_parts : (s : Dims) (ds : List ℕ) → are_new s ds ≡ (are_outside s ds && numbers_once ds)
new_by_parts s [] = refl
new_by_parts s (d ∷ ds) =
    ap (λ b. not (set.contains s d) && b) (new_by_parts (set.insert s d) ds
    ∙ ap (λ b. b && numbers_once ds) (outside_more s d ds))
    ∙ together (not (set.contains s d)) (not (is_number_among d ds)) (are_outside s ds) (numbers_once ds)

all_outside : (ds : List ℕ) → are_outside set.empty ds ≡ true
all_outside [] = refl
all_outside (d ∷ ds) = rw (empty_has d) (all_outside ds)

pub once_by_set : (ds : List ℕ) → are_new set.empty ds ≡ numbers_once ds
once_by_set ds = new_by_parts set.empty ds ∙ ap (λ b. b && numbers_once ds) (all_outside ds)
