-- Rings and groups with one number more.
use Rattle.std.proofs.Common.{◌≡◌, ℕ, zero, suc, ◌+◌, ◌<◌, ◌≤◌, List, [], ◌∷◌, ◌++◌, length, slice_index, sym, ◌∙◌}
use Rattle.std.proofs.Common.{ap, arith, refl, inl, inr, length-append}
use Rattle.std.proofs.lemmas.List.{get_or_append_left}
use Rattle.std.proofs.Math.Seq.{get_or-append_seam}
use Rattle.std.proofs.lemmas.Bool.{cases_lt}
use Rattle.xf_rings.specs.Mirror.{Mirror}
use Rattle.xf_rings.specs.Ring.{Path}
use Rattle.xf_rings.specs.Groups.{AllOf, IsRow, AreGroups, upto}

-- one number more at the end
pub record More (xs ys : List ℕ) (k : ℕ) : Type 0 where
  pub size : length ys ≡ length xs + 1
  pub here : (i : ℕ) → i ≡ length xs → slice_index ys i ≡ k
  pub else_ : (i : ℕ) → i < length xs → slice_index ys i ≡ slice_index xs i

pub more : (xs : List ℕ) (k : ℕ) → More xs (xs ++ k ∷ []) k
more xs k = record {
  size = length-append xs (k ∷ []);
  here = λ i e. ap (slice_index (xs ++ k ∷ [])) e ∙ get_or-append_seam xs k [] 0;
  else_ = λ i h. get_or_append_left xs (k ∷ []) 0 i h;
}

path_more : (next owner : List ℕ) (k a d : ℕ) (xs : List ℕ) (b : ℕ) → length next ≡ length owner → a < length owner
    → AllOf owner (length owner) d xs → Path next a xs b → Path (next ++ k ∷ []) a xs b
path_more next owner k a d [] b e h o q = (more next k).else_ a (omega (arith, e)) ∙ q
path_more next owner k a d (x ∷ xs) b e h o q =
    ((more next k).else_ a (omega (arith, e)) ∙ q.0, path_more next owner k x d xs b e o.0.0 o.1 q.1)

own_more : (owner : List ℕ) (k d m : ℕ) (xs : List ℕ) → length owner ≤ m → AllOf owner (length owner) d xs
    → AllOf (owner ++ k ∷ []) m d xs
own_more owner k d m [] h o = tt
own_more owner k d m (x ∷ xs) h o =
    ((omega (arith, o.0.0), ((more owner k).else_ x o.0.0 ∙ o.0.1.0, o.0.1.1)), own_more owner k d m xs h o.1)

row_more : (next owner : List ℕ) (k d : ℕ) (xs : List ℕ) → AreGroups next owner → k ≡ length owner
    → d < length owner → IsRow next owner d xs → IsRow (next ++ k ∷ []) (owner ++ k ∷ []) d xs
row_more next owner k d xs g e h r =
    let b = more owner k in
    record {
      path = path_more next owner k d d xs d g.size h r.own r.path;
      own = own_more owner k d (length (owner ++ k ∷ [])) xs (omega (arith, b.size)) r.own;
      all = λ c hc q nc. elim (cases_lt c (length owner)) [
        | inl l ↦ r.all c l (sym (b.else_ c l) ∙ q) nc
        | inr l ↦ let w = b.here c (omega (arith, b.size)) in absurd (omega (arith, w, q, e))
      ];
      once = r.once;
    }

row_new : (next owner : List ℕ) (k d : ℕ) → AreGroups next owner → k ≡ length owner → d ≡ k
    → IsRow (next ++ k ∷ []) (owner ++ k ∷ []) d []
row_new next owner k d g e i =
    let b = more owner k in
    record {
      path = (more next k).here d (i ∙ e ∙ sym g.size) ∙ sym i;
      own = tt;
      all = λ c hc q nc. elim (cases_lt c (length owner)) [
        | inl l ↦ absurd (let f = (g.flat c l).0 in let w = b.else_ c l in omega (arith, f, w, q, i, e))
        | inr l ↦ absurd (nc (omega (arith, b.size, i, e)))
      ];
      once = tt;
    }

pub grow_groups : (next owner : List ℕ) (k : ℕ) → AreGroups next owner → k ≡ length owner
    → AreGroups (next ++ k ∷ []) (owner ++ k ∷ [])
grow_groups next owner k g e =
    let a = more next k in
    let b = more owner k in
    record {
      size = omega (arith, a.size, b.size, g.size);
      flat = λ c hc. elim (cases_lt c (length owner)) [
        | inl l ↦
            let f = g.flat c l in
            let w = b.else_ c l in
            rw w (omega (arith, b.size, f.0), b.else_ (slice_index owner c) f.0 ∙ f.1)
        | inr l ↦
            let w = b.here c (omega (arith, b.size)) in
            rw w (omega (arith, b.size, e), b.here k e)
      ];
      rows = λ d hd q. elim (cases_lt d (length owner)) [
        | inl l ↦ let r = g.rows d l (sym (b.else_ d l) ∙ q) in (r.0, row_more next owner k d r.0 g e l r.1)
        | inr l ↦ ([], row_new next owner k d g e (omega (arith, b.size, e)))
      ];
    }

pub length_upto : (n : ℕ) → length (upto n) ≡ n
length_upto zero = refl
length_upto (suc n) = omega (arith, length-append (upto n) (n ∷ []), length_upto n)

pub upto_at : (n i : ℕ) → i < n → slice_index (upto n) i ≡ i
upto_at zero i h = absurd (omega arith)
upto_at (suc n) i h = elim (cases_lt i n) [
  | inl l ↦ (more (upto n) n).else_ i (omega (arith, length_upto n)) ∙ upto_at n i l
  | inr l ↦ (more (upto n) n).here i (omega (arith, length_upto n)) ∙ omega arith
]

pub upto_next : (n m : ℕ) (xs ys : List ℕ) → m ≡ n + 1 → xs ≡ upto n → ys ≡ xs ++ length xs ∷ [] → ys ≡ upto m
upto_next n zero xs ys w e q = absurd (omega arith)
upto_next n (suc m) xs ys w e q = let v : m ≡ n = omega arith in q ∙ rw (e, length_upto n, v) refl

pub grow_done : (next owner n2 o o2 : List ℕ) (k : ℕ) → AreGroups next owner → n2 ≡ next ++ length next ∷ []
    → o ≡ owner → o2 ≡ o ++ k ∷ [] → k ≡ length owner → AreGroups n2 o2
grow_done next owner n2 o o2 k g en eo e2 ek =
    let q : length next ≡ k = g.size ∙ sym ek in
    rw (en, e2, eo, q) (grow_groups next owner k g ek)

mirror_more : (n p : List ℕ) (k : ℕ) → Mirror n p → k ≡ length n → Mirror (n ++ k ∷ []) (p ++ k ∷ [])
mirror_more n p k m e =
    let a = more n k in
    let b = more p k in
    let sz = m.size in
    record {
      size = omega (arith, a.size, b.size, sz);
      next_in = λ i hi. elim (cases_lt i (length n)) [
        | inl l ↦ let w = a.else_ i l in let f = m.next_in i l in omega (arith, w, f, a.size)
        | inr l ↦ let w = a.here i (omega (arith, a.size)) in omega (arith, w, a.size, e)
      ];
      prev_in = λ i hi. elim (cases_lt i (length n)) [
        | inl l ↦ let w = b.else_ i (omega (arith, sz)) in let f = m.prev_in i l in omega (arith, w, f, a.size)
        | inr l ↦ let w = b.here i (omega (arith, a.size, sz)) in omega (arith, w, a.size, e)
      ];
      back = λ i hi. elim (cases_lt i (length n)) [
        | inl l ↦ rw (a.else_ i l) (b.else_ (slice_index n i) (omega (arith, m.next_in i l, sz)) ∙ m.back i l)
        | inr l ↦
            let q : i ≡ k = omega (arith, a.size, e) in
            rw (a.here i (omega (arith, a.size))) (b.here k (omega (arith, sz, e)) ∙ sym q)
      ];
      forth = λ i hi. elim (cases_lt i (length n)) [
        | inl l ↦ rw (b.else_ i (omega (arith, sz))) (a.else_ (slice_index p i) (m.prev_in i l) ∙ m.forth i l)
        | inr l ↦
            let q : i ≡ k = omega (arith, a.size, e) in
            rw (b.here i (omega (arith, a.size, sz))) (a.here k e ∙ sym q)
      ];
    }

pub mirror_twice : (n p n1 p1 n2 p2 n3 p3 : List ℕ) (k : ℕ) → Mirror n p → n1 ≡ n → p1 ≡ p → k ≡ length n1
    → n2 ≡ n1 ++ k ∷ [] → p2 ≡ p1 ++ k ∷ [] → n3 ≡ n2 ++ (k + 1) ∷ [] → p3 ≡ p2 ++ (k + 1) ∷ [] → Mirror n3 p3
mirror_twice n p n1 p1 n2 p2 n3 p3 k m a b e c d f g =
    let l : k ≡ length n = e ∙ ap length a in
    let l2 : k + 1 ≡ length (n ++ k ∷ []) = omega (arith, l, length-append n (k ∷ [])) in
    rw (f, g, c, d, a, b) (mirror_more (n ++ k ∷ []) (p ++ k ∷ []) (k + 1) (mirror_more n p k m l) l2)
