-- The maps and iterators of operations with a name.
use Rattle.std.proofs.Common.{◌≡◌, ◌≢◌, ℕ, zero, suc, ◌+◌, ◌-◌, ◌<◌, ◌≤◌, ◌&&◌, List, [], ◌∷◌, length, get_or, Bool}
use Rattle.std.proofs.Common.{true, false, inl, inr, refl, sym, ap, ◌∙◌, arith, eq-eqb}
use Rattle.std.specs.Prelude.{◌==◌, Option, nat_lt}
use Rattle.std.proofs.lemmas.Bool.{cases_Bool}
use Rattle.std.proofs.lemmas.Bool.Decides.{nat_tests}
use denote.Ref.{Bor}
use Rattle.xf_type.specs.declared.payload_type.PayloadType.{PayloadType}
use Rattle.xf_type.specs.declared.attribute.AffineMap.{AffineMap}
use Rattle.xf_ir.specs.declared.kind.NamedKind.{NamedKind}
use Rattle.xf_ir.specs.declared.kind.NamedKind.TheVariants.{Matmul, BatchMatmul, Matvec, Dot, Fill}
use Rattle.xf_ir.specs.Lists.{every, some}
use Rattle.xf_ir.specs.RuleLinalg.{counted, named_maps, named_iterators, parallels, is_number_among, numbers_once}
use Rattle.xf_ir.specs.RuleLinalg.{is_projection, has_rank, have_ranks, are_covered, maps_fit, last_results}
use Rattle.xf_ir.specs.RuleLinalg.{iterators_fit}
use Rattle.xf_rules_shape.specs.Dims.{named_ranks, are_ranks}
use Rattle.xf_rules.specs.OperandTypes.{operand_types}
use Rattle.xf_type.proofs.EqualTypes.{unequal_behind}
use Rattle.xf_rules.proofs.Operands.{operands_length}

-- ---- lists of other lengths

unequal_maps : (maps : List AffineMap) (os : List (Option PayloadType)) → length maps ≢ length os
    → have_ranks maps os ≡ false
unequal_maps [] [] n = absurd (n refl)
unequal_maps [] (o ∷ os) n = refl
unequal_maps (map ∷ maps) [] n = refl
unequal_maps (map ∷ maps) (o ∷ os) n = unequal_behind (has_rank (length map.results) o) (have_ranks maps os)
    (unequal_maps maps os (λ e. n (ap (λ k. suc k) e)))

unequal_ranks : (ns : List ℕ) (os : List (Option PayloadType)) → length ns ≢ length os → are_ranks ns os ≡ false
unequal_ranks [] [] n = absurd (n refl)
unequal_ranks [] (o ∷ os) n = refl
unequal_ranks (r ∷ ns) [] n = refl
unequal_ranks (r ∷ ns) (o ∷ os) n =
    unequal_behind (has_rank r o) (are_ranks ns os) (unequal_ranks ns os (λ e. n (ap (λ k. suc k) e)))

pub other_maps : (maps : List AffineMap) (os : List (Option (Bor PayloadType))) → length maps ≢ length os
    → have_ranks maps (operand_types os) ≡ false
other_maps maps os n = unequal_maps maps (operand_types os) (λ e. n (e ∙ operands_length os))

pub other_ranks : (ns : List ℕ) (os : List (Option (Bor PayloadType))) → length ns ≢ length os
    → are_ranks ns (operand_types os) ≡ false
other_ranks ns os n = unequal_ranks ns (operand_types os) (λ e. n (e ∙ operands_length os))

-- ---- the last map

last_at : (maps : List AffineMap) (m : AffineMap) (k : ℕ) → length maps ≡ suc k → m ≡ get_or maps k m
    → m.results ≡ last_results maps
last_at [] m k e g = absurd (cc)
last_at (x ∷ []) m zero e g = ap (λ (z : AffineMap). z.results) g
last_at (x ∷ []) m (suc k) e g = absurd (omega arith)
last_at (x ∷ (y ∷ maps)) m zero e g = absurd (omega arith)
last_at (x ∷ (y ∷ maps)) m (suc k) e g = last_at (y ∷ maps) m k (omega arith) g

pub last_map : (maps : List AffineMap) (m : AffineMap) → 1 ≤ length maps → m ≡ get_or maps (length maps - 1) m
    → m.results ≡ last_results maps
last_map maps m h g = last_at maps m (length maps - 1) (omega arith) g

-- ---- numbers from one on

every_counted : (p : ℕ → Bool) (from k : ℕ) → ((d : ℕ) → from ≤ d → d < from + k → p d ≡ true)
    → every p (counted from k) ≡ true
every_counted p from zero h = refl
every_counted p from (suc k) h =
    rw (h from (omega arith) (omega arith)) (every_counted p (from + 1) k (λ d a b. h d (omega arith) (omega arith)))

not_among : (d from k : ℕ) → d < from → is_number_among d (counted from k) ≡ false
not_among d from zero h = refl
not_among d from (suc k) h =
    (let e : (from == d) ≡ false = grind (arith, nat_tests) in rw e (not_among d (from + 1) k (omega arith)))

among : (d from k : ℕ) → from ≤ d → d < from + k → is_number_among d (counted from k) ≡ true
among d from zero h l = absurd (omega arith)
among d from (suc k) h l =
    elim (cases_Bool (from == d)) [
      | inl e ↦ rw e refl
      | inr e ↦ (let m : from < d = grind (arith, nat_tests) in rw e (among d (from + 1) k (omega arith) (omega arith)))
    ]

counted_once : (from k : ℕ) → numbers_once (counted from k) ≡ true
counted_once from zero = refl
counted_once from (suc k) = rw (not_among from (from + 1) k (omega arith)) (counted_once (from + 1) k)

length_counted : (from k : ℕ) → length (counted from k) ≡ k
length_counted from zero = refl
length_counted from (suc k) = ap (λ n. suc n) (length_counted (from + 1) k)

length_parallels : (k : ℕ) → length (parallels k) ≡ k
length_parallels zero = refl
length_parallels (suc k) = ap (λ n. suc n) (length_parallels k)

-- ---- ranks

abbrev lengths : List AffineMap → List ℕ
lengths [] = []
lengths (map ∷ maps) = length map.results ∷ lengths maps

by_lengths : (maps : List AffineMap) (os : List (Option PayloadType)) → are_ranks (lengths maps) os ≡ have_ranks maps os
by_lengths [] [] = refl
by_lengths [] (o ∷ os) = refl
by_lengths (map ∷ maps) [] = refl
by_lengths (map ∷ maps) (o ∷ os) = ap (λ b. has_rank (length map.results) o && b) (by_lengths maps os)

and_true : (a : Bool) → a ≡ (a && true)
and_true true = refl
and_true false = refl

-- ---- a fill

fill_projections : (r : ℕ) → every (is_projection r) (named_maps Fill r) ≡ true
fill_projections r =
    let e : (r == r) ≡ true = eq-eqb r r refl in
    let b = every_counted (λ d. nat_lt d r) 0 r (λ d h l. grind (arith, nat_tests)) in
    rw (e, b, counted_once 0 r) refl

fill_covers : (r : ℕ) → are_covered (named_maps Fill r) r ≡ true
fill_covers r = every_counted (λ d. some (λ (map : AffineMap). is_number_among d map.results) (named_maps Fill r)) 0 r
    (λ d h l. rw (among d 0 r h l) refl)

fill_fits : (r : ℕ) (os : List (Option PayloadType))
    → are_ranks (0 ∷ (r ∷ [])) os ≡ maps_fit (named_maps Fill r) (length (parallels r)) os
fill_fits r os =
    ap (λ n. are_ranks (0 ∷ (n ∷ [])) os) (sym (length_counted 0 r)) ∙ by_lengths (named_maps Fill r) os
    ∙ and_true (have_ranks (named_maps Fill r) os)
    ∙ ap (λ b. have_ranks (named_maps Fill r) os && b) (sym (fill_covers r))
    ∙ ap (λ b. b && (have_ranks (named_maps Fill r) os && are_covered (named_maps Fill r) r)) (sym (fill_projections r))
    ∙ ap (λ n. maps_fit (named_maps Fill r) n os) (sym (length_parallels r))

-- ---- each kind

pub named_fit : (k : NamedKind) (r : ℕ) (os : List (Option PayloadType))
    → are_ranks (named_ranks k r) os ≡ maps_fit (named_maps k r) (length (named_iterators k r)) os
named_fit Matmul r os = by_lengths (named_maps Matmul r) os ∙ and_true (have_ranks (named_maps Matmul r) os)
named_fit BatchMatmul r os =
    by_lengths (named_maps BatchMatmul r) os ∙ and_true (have_ranks (named_maps BatchMatmul r) os)
named_fit Matvec r os = by_lengths (named_maps Matvec r) os ∙ and_true (have_ranks (named_maps Matvec r) os)
named_fit Dot r os = by_lengths (named_maps Dot r) os ∙ and_true (have_ranks (named_maps Dot r) os)
named_fit Fill r os = fill_fits r os

parallel_all : (out : List ℕ) (d k : ℕ) → ((x : ℕ) → d ≤ x → x < d + k → is_number_among x out ≡ true)
    → iterators_fit out d (parallels k) ≡ true
parallel_all out d zero h = refl
parallel_all out d (suc k) h =
    rw (h d (omega arith) (omega arith)) (parallel_all out (d + 1) k (λ x a b. h x (omega arith) (omega arith)))

pub named_iterators_fit : (k : NamedKind) (r : ℕ)
    → true ≡ iterators_fit (last_results (named_maps k r)) 0 (named_iterators k r)
named_iterators_fit Matmul r = refl
named_iterators_fit BatchMatmul r = refl
named_iterators_fit Matvec r = refl
named_iterators_fit Dot r = refl
named_iterators_fit Fill r = sym (parallel_all (counted 0 r) 0 r (λ x a b. among x 0 r a b))
