-- Counters go through the points of a box.
use Rattle.std.proofs.Common.{◌≡◌, ℕ, zero, suc, ◌+◌, ◌-◌, ◌<◌, ◌≤◌, List, [], ◌∷◌, ◌++◌, Bool, true, false, length, get_or}
use Rattle.std.proofs.Common.{take, drop, refl, sym, ap, ◌∙◌, arith, subst, ◌⊎◌, inl, inr}
use Rattle.std.specs.Prelude.{map, flat_map, nat_lt, ◌&&◌, set}
use Rattle.std.proofs.lemmas.List.{drop_more, get_or-take, take-take, set_split}
use Rattle.std.proofs.lemmas.Bool.{and_parts, and_cases, ltb-true, ltb-false}
use Rattle.xf_ir.specs.Lists.{Each, every}
use Rattle.xf_points.specs.Points.{Point, points, counted}
use Rattle.xf_points.specs.Windows.{Window, sizes, placed}
use Rattle.xf_eval_points.specs.declared.span.Span.{Span}
use Rattle.xf_eval_points.specs.Spans.{IsOpen, window_of, first_of, spread, later, rest_from}

-- ---- the first point

one_more : (a b : ℕ) → a < b → b - a ≡ suc (b - (a + 1))
one_more a b h = omega arith

counted_first : (a b : ℕ) → a < b → counted a (b - a) ≡ a ∷ counted (a + 1) (b - (a + 1))
counted_first a b h = ap (counted a) (one_more a b h)

pub spread_first : (ss : List Span) → Each IsOpen ss → spread ss ≡ first_of ss ∷ later ss (first_of ss)
spread_first [] h = refl
spread_first (s ∷ ss) h =
    let row = λ (i : ℕ). map (λ p. i ∷ p) (spread ss) in
    ap (flat_map row) (counted_first s.from s.to h.0)
    ∙ ap (λ ps. map (λ p. s.from ∷ p) ps ++ flat_map row (counted (s.from + 1) (s.to - (s.from + 1))))
    (spread_first ss h.1)

empty_rows : (ss : List Span) (n k : ℕ) → spread ss ≡ []
    → flat_map (λ i. map (λ p. i ∷ p) (spread ss)) (counted k n) ≡ []
empty_rows ss zero k h = refl
empty_rows ss (suc n) k h =
    ap (λ ps. map (λ p. k ∷ p) ps ++ flat_map (λ i. map (λ p. i ∷ p) (spread ss)) (counted (k + 1) n)) h
    ∙ empty_rows ss n (k + 1) h

-- where a dimension has no number there is no point
pub spread_none : (ss : List Span) → every (λ (s : Span). nat_lt s.from s.to) ss ≡ false → spread ss ≡ []
spread_none [] h = cc
spread_none (s ∷ ss) h = by (and_cases (nat_lt s.from s.to) (every (λ (s : Span). nat_lt s.from s.to) ss) h)
    (spread_none ss)
  where
    by : (nat_lt s.from s.to ≡ false) ⊎ (every (λ (s : Span). nat_lt s.from s.to) ss ≡ false)
        → (every (λ (s : Span). nat_lt s.from s.to) ss ≡ false → spread ss ≡ []) → spread (s ∷ ss) ≡ []
    by (inl e) ih =
        let z : s.to - s.from ≡ 0 = (let l = ltb-false s.from s.to e in omega arith) in
        ap (λ n. flat_map (λ i. map (λ p. i ∷ p) (spread ss)) (counted s.from n)) z
    by (inr e) ih = empty_rows ss (s.to - s.from) s.from (ih e)

pub all_open : (ss : List Span) → every (λ (s : Span). nat_lt s.from s.to) ss ≡ true → Each IsOpen ss
all_open [] h = tt
all_open (s ∷ ss) h =
    let p = and_parts (nat_lt s.from s.to) (every (λ (s : Span). nat_lt s.from s.to) ss) h in
    (ltb-true s.from s.to p.0, all_open ss p.1)

pub starts : (ss : List Span) (b : Bool) → every (λ (s : Span). nat_lt s.from s.to) ss ≡ b
    → rest_from b ss (first_of ss) ≡ spread ss
starts ss true h = sym (spread_first ss (all_open ss h))
starts ss false h = sym (spread_none ss h)

-- ---- the next point

-- behind the last number of the first dimensions nothing is left
pub later_up : (ss : List Span) (p : Point) (d : ℕ) (q : Point) → d ≤ length ss → d ≤ length p
    → later (drop d ss) (drop d p) ≡ q ∷ later (drop d ss) q
    → later ss p ≡ (take d p ++ q) ∷ later ss (take d p ++ q)
later_up ss p zero q h k e = e
later_up [] p (suc d) q h k e = absurd (omega arith)
later_up (s ∷ ss) [] (suc d) q h k e = absurd (omega arith)
later_up (s ∷ ss) (i ∷ p) (suc d) q h k e =
    ap (λ ps. map (λ r. i ∷ r) ps
    ++ flat_map (λ n. map (λ r. n ∷ r) (spread ss)) (counted (i + 1) (s.to - (i + 1))))
    (later_up ss p d q (omega arith) (omega arith) e)

-- the dimension itself goes on, and those behind it begin again
pub later_here : (s : Span) (ss : List Span) (i : ℕ) (p : Point) → Each IsOpen ss → later ss p ≡ [] → i + 1 < s.to
    → later (s ∷ ss) (i ∷ p) ≡ ((i + 1) ∷ first_of ss) ∷ later (s ∷ ss) ((i + 1) ∷ first_of ss)
later_here s ss i p o e h =
    let row = λ (n : ℕ). map (λ r. n ∷ r) (spread ss) in
    ap (λ ps. map (λ r. i ∷ r) ps ++ flat_map row (counted (i + 1) (s.to - (i + 1)))) e
    ∙ ap (flat_map row) (counted_first (i + 1) s.to h)
    ∙ ap (λ ps. map (λ r. (i + 1) ∷ r) ps ++ flat_map row (counted ((i + 1) + 1) (s.to - ((i + 1) + 1))))
    (spread_first ss o)

pub later_end : (s : Span) (ss : List Span) (i : ℕ) (p : Point) → later ss p ≡ [] → s.to ≤ i + 1
    → later (s ∷ ss) (i ∷ p) ≡ []
later_end s ss i p e h =
    let row = λ (n : ℕ). map (λ r. n ∷ r) (spread ss) in
    let z : s.to - (i + 1) ≡ 0 = omega arith in
    ap (λ ps. map (λ r. i ∷ r) ps ++ flat_map row (counted (i + 1) (s.to - (i + 1)))) e
    ∙ ap (λ n. flat_map row (counted (i + 1) n)) z

each_drop : (n : ℕ) (ss : List Span) → Each IsOpen ss → Each IsOpen (drop n ss)
each_drop zero ss h = h
each_drop (suc n) [] h = tt
each_drop (suc n) (s ∷ ss) h = each_drop n ss h.1

same_front : (n i : ℕ) (p q : Point) → i < n → take n p ≡ take n q → get_or p i 0 ≡ get_or q i 0
same_front n i p q h e =
    sym (get_or-take n p i 0 h) ∙ ap (λ r. get_or r i 0) e ∙ get_or-take n q i 0 h

less_front : (n m : ℕ) (p q : Point) → m ≤ n → take n p ≡ take n q → take m p ≡ take m q
less_front n m p q h e = sym (take-take m n p h) ∙ ap (take m) e ∙ take-take m n q h

-- the dimensions from `d` + 1 on begin again, and the one before goes on
pub advanced : (ss : List Span) (old p : Point) (n d : ℕ) (s : Span) → n ≡ d + 1 → n ≤ length ss
    → length old ≡ length ss → length p ≡ length old → Each IsOpen ss
    → later (drop n ss) (drop n old) ≡ [] → take n p ≡ take n old → drop n p ≡ first_of (drop n ss)
    → get_or p d 0 + 1 < (get_or ss d s).to
    → set p d (get_or p d 0 + 1) ∷ later ss (set p d (get_or p d 0 + 1)) ≡ later ss old
advanced ss old p n d s e h l k o done front again lt =
    let i = get_or old d 0 in
    let own = get_or ss d s in
    let same : get_or p d 0 ≡ i = same_front n d p old (omega arith) front in
    let done' : later (drop (d + 1) ss) (drop (d + 1) old) ≡ [] =
    subst (λ m. later (drop m ss) (drop m old) ≡ []) e done in
    let again' : drop (d + 1) p ≡ first_of (drop (d + 1) ss) = subst (λ m. drop m p ≡ first_of (drop m ss)) e again in
    let here : later (drop d ss) (drop d old)
    ≡ ((i + 1) ∷ first_of (drop (d + 1) ss)) ∷ later (drop d ss) ((i + 1) ∷ first_of (drop (d + 1) ss)) =
    subst (λ us. later us (drop d old) ≡ ((i + 1) ∷ first_of (drop (d + 1) ss)) ∷ later us ((i + 1) ∷ first_of (drop (d + 1) ss)))
    (sym (drop_more ss d s (omega arith)))
    (subst (λ q. later (own ∷ drop (d + 1) ss) q ≡ ((i + 1) ∷ first_of (drop (d + 1) ss)) ∷ later (own ∷ drop (d + 1) ss) ((i + 1) ∷ first_of (drop (d + 1) ss)))
    (sym (drop_more old d 0 (omega arith)))
    (later_here own (drop (d + 1) ss) i (drop (d + 1) old) (each_drop (d + 1) ss o) done'
    (subst (λ j. j + 1 < own.to) same lt))) in
    let up = later_up ss old d ((i + 1) ∷ first_of (drop (d + 1) ss)) (omega arith) (omega arith) here in
    let made : set p d (get_or p d 0 + 1) ≡ take d old ++ (i + 1) ∷ first_of (drop (d + 1) ss) =
    set_split p d (get_or p d 0 + 1) (omega arith)
    ∙ ap (λ j. take d p ++ (j + 1) ∷ drop (suc d) p) same
    ∙ ap (λ q. q ++ (i + 1) ∷ drop (suc d) p) (less_front n d p old (omega arith) front)
    ∙ ap (λ q. take d old ++ (i + 1) ∷ q) (ap (λ m. drop m p) (let z : suc d ≡ d + 1 = omega arith in z) ∙ again') in
    ap (λ q. q ∷ later ss q) made ∙ sym up
