-- The number of an index, one size after another, cut off at a limit.
use Rattle.std.proofs.Common.{◌≡◌, ℕ, zero, suc, ◌+◌, ◌*◌, ◌<◌, ◌≤◌, List, [], ◌∷◌, length, get_or, drop, refl, sym, ap}
use Rattle.std.proofs.Common.{◌∙◌, arith, ◌⊎◌, inl, inr}
use Rattle.std.specs.Prelude.{min}
use Rattle.std.proofs.lemmas.List.{drop_more, drop_all, drop-drop, get_or-drop}
use Rattle.std.proofs.lemmas.Bool.{cases_lt}
use Rattle.xf_points.specs.Points.{Point, place, product}
use Rattle.xf_eval_points.specs.Places.{place_from}

place_none : (es : List ℕ) → place es [] ≡ 0
place_none [] = refl
place_none (e ∷ es) = refl

regroup : (k e n : ℕ) → (k * e) * n ≡ k * (e * n)
regroup k e n = grind arith

spread_out : (k e i n m : ℕ) → (k * e + i) * n + m ≡ k * (e * n) + (i * n + m)
spread_out k e i n m = grind arith

-- a factor that begins, and the number of the index
pub place_from_is : (k : ℕ) (es : List ℕ) (p : Point) → place_from k es p ≡ k * product es + place es p
place_from_is k [] p = omega arith
place_from_is k (e ∷ es) [] =
    place_from_is (k * e) es [] ∙ ap (λ n. (k * e) * product es + n) (place_none es)
    ∙ ap (λ n. n + 0) (regroup k e (product es))
place_from_is k (e ∷ es) (i ∷ p) = place_from_is (k * e + i) es p ∙ spread_out k e i (product es) (place es p)

zero_times : (n m : ℕ) → 0 * n + m ≡ m
zero_times n m = grind arith

pub place_from_start : (es : List ℕ) (p : Point) → place_from 0 es p ≡ place es p
place_from_start es p = place_from_is 0 es p ∙ zero_times (product es) (place es p)

-- ---- cut off

factor_up : (m a x : ℕ) → m ≤ a → 0 < x → m ≤ a * x
factor_up m a zero h k = absurd (omega arith)
factor_up m a (suc x) h k = let z : a ≤ a * suc x = grind arith in omega arith

times_none : (a y : ℕ) → a * 0 + y ≡ y
times_none a y = grind arith

cut_first : (a x y m : ℕ) → min (min a m * x + y) m ≡ min (a * x + y) m
cut_first a x y m = by x (cases_lt a m)
  where
    by : (x : ℕ) → (a < m) ⊎ (m ≤ a) → min (min a m * x + y) m ≡ min (a * x + y) m
    by x (inl h) = let e : min a m ≡ a = omega arith in ap (λ k. min (k * x + y) m) e
    by zero (inr h) = ap (λ k. min k m) (times_none (min a m) y ∙ sym (times_none a y))
    by (suc x) (inr h) =
        let e : min a m ≡ m = omega arith in
        let l = factor_up m m (suc x) (omega arith) (omega arith) in
        let r = factor_up m a (suc x) h (omega arith) in
        ap (λ k. min (k * suc x + y) m) e ∙ omega (arith, l, r)

cut_sum : (a i m : ℕ) → min (min a m + i) m ≡ min (a + i) m
cut_sum a i m = omega arith

cut_place : (a : ℕ) (es : List ℕ) (p : Point) (m : ℕ)
    → min (place_from (min a m) es p) m ≡ min (place_from a es p) m
cut_place a es p m =
    ap (λ n. min n m) (place_from_is (min a m) es p) ∙ cut_first a (product es) (place es p) m
    ∙ ap (λ n. min n m) (sym (place_from_is a es p))

place_at_one : (k e : ℕ) (es : List ℕ) (p : Point)
    → place_from k (e ∷ es) p ≡ place_from (k * e + get_or p 0 0) es (drop 1 p)
place_at_one k e es [] = ap (λ n. place_from n es []) (let z : k * e ≡ k * e + 0 = omega arith in z)
place_at_one k e es (i ∷ p) = refl

get_of_drop : (n : ℕ) (p : Point) → get_or (drop n p) 0 0 ≡ get_or p n 0
get_of_drop n p = get_or-drop n p 0 0 ∙ ap (λ m. get_or p m 0) (let z : n + 0 ≡ n = omega arith in z)

drop_again : (n : ℕ) (p : Point) → drop 1 (drop n p) ≡ drop (n + 1) p
drop_again n p = drop-drop 1 n p

-- one size more
pub place_more : (k : ℕ) (es : List ℕ) (p : Point) (n m : ℕ) → n < length es
    → min (place_from (min (min (k * get_or es n 0) m + get_or p n 0) m) (drop (n + 1) es) (drop (n + 1) p)) m
    ≡ min (place_from k (drop n es) (drop n p)) m
place_more k es p n m h =
    cut_place (min (k * get_or es n 0) m + get_or p n 0) (drop (n + 1) es) (drop (n + 1) p) m
    ∙ sym (cut_place (min (k * get_or es n 0) m + get_or p n 0) (drop (n + 1) es) (drop (n + 1) p) m)
    ∙ ap (λ a. min (place_from a (drop (n + 1) es) (drop (n + 1) p)) m) (cut_sum (k * get_or es n 0) (get_or p n 0) m)
    ∙ cut_place (k * get_or es n 0 + get_or p n 0) (drop (n + 1) es) (drop (n + 1) p) m
    ∙ ap (λ q. min (place_from (k * get_or es n 0 + get_or p n 0) (drop (n + 1) es) q) m) (sym (drop_again n p))
    ∙ ap (λ i. min (place_from (k * get_or es n 0 + i) (drop (n + 1) es) (drop 1 (drop n p))) m) (sym (get_of_drop n p))
    ∙ ap (λ i. min i m) (sym (place_at_one k (get_or es n 0) (drop (n + 1) es) (drop n p)))
    ∙ ap (λ us. min (place_from k us (drop n p)) m) (sym (drop_more es n 0 h))

pub place_end : (k : ℕ) (es : List ℕ) (p : Point) (n : ℕ) → length es ≤ n → place_from k (drop n es) (drop n p) ≡ k
place_end k es p n h = ap (λ us. place_from k us (drop n p)) (drop_all n es h)
