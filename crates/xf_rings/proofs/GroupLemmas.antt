-- Groups after a change.
use Rattle.std.proofs.Common.{◌≡◌, ◌≢◌, ℕ, zero, suc, ◌+◌, ◌<◌, ◌≤◌, List, [], ◌∷◌, length, slice_index, slice_set}
use Rattle.std.proofs.Common.{sym, ◌∙◌, ap, arith, refl, not, eqb, inl, inr}
use Rattle.std.specs.List.{filter}
use Rattle.std.proofs.lemmas.List.{get_or-set_same, get_or-set_other, length-set}
use Rattle.std.proofs.lemmas.Bool.{cases_eq, cases_lt, cases_Bool, eq-eqb, ne_eqb}
use Rattle.xf_rings.specs.Ring.{Path, linked, unlinked, After, chain}
use Rattle.xf_rings.specs.Groups.{In, Lacks, AllOnce, AllOf, IsRow, AreGroups, AreMembers, IsLeft}
use Rattle.xf_rings.proofs.PathLemmas.{unlinked_other, path_other, path_joined, path_beside, path_put}

abbrev AllBelow : ℕ → List ℕ → Type 0
AllBelow n [] = Unit {0}
AllBelow n (x ∷ xs) = (x < n) × AllBelow n xs

nobody : (owner : List ℕ) (size at : ℕ) (xs : List ℕ) → AllOf owner size at xs
    → ((c : ℕ) → c < size → slice_index owner c ≡ at → c ≡ at) → xs ≡ []
nobody owner size at [] a h = refl
nobody owner size at (x ∷ xs) a h = absurd (a.0.1.1 (h x a.0.0 a.0.1.0))

pub alone_next : (next owner v : List ℕ) (at : ℕ) → AreGroups next owner → owner ≡ v → at < length v
    → slice_index v at ≡ at → ((c : ℕ) → c < length v → slice_index v c ≡ at → c ≡ at) → slice_index next at ≡ at
alone_next next owner v at g e h l al =
    let lo : slice_index owner at ≡ at = ap (λ o. slice_index o at) e ∙ l in
    let r = g.rows at (omega (arith, ap length e)) lo in
    let z : r.0 ≡ [] = nobody owner (length owner) at r.0 r.1.own
    (λ c hc q. al c (omega (arith, ap length e)) (sym (ap (λ o. slice_index o c) e) ∙ q)) in
    rw z at r.1.path

-- none of a row is the number, if the number's head is another
lacks : (owner : List ℕ) (size d e : ℕ) (xs : List ℕ) → AllOf owner size d xs → (slice_index owner e ≡ d → ⊥)
    → Lacks e xs
lacks owner size d e [] a n = tt
lacks owner size d e (x ∷ xs) a n = (
  (λ q. n (sym (ap (slice_index owner) q) ∙ a.0.1.0)),
  lacks owner size d e xs a.1 n,
)

lacks_head : (owner : List ℕ) (size d : ℕ) (xs : List ℕ) → AllOf owner size d xs → Lacks d xs
lacks_head owner size d [] a = tt
lacks_head owner size d (x ∷ xs) a = (a.0.1.1, lacks_head owner size d xs a.1)

own_set : (owner : List ℕ) (at h size d : ℕ) (xs : List ℕ) → AllOf owner size d xs → Lacks at xs
    → AllOf (slice_set owner at h) size d xs
own_set owner at h size d [] a l = tt
own_set owner at h size d (x ∷ xs) a l =
    ((a.0.0, (get_or-set_other owner at x h 0 l.0 ∙ a.0.1.0, a.0.1.1)), own_set owner at h size d xs a.1 l.1)

same_at : (xs : List ℕ) (i y j : ℕ) → i < length xs → j ≡ i → slice_index (slice_set xs i y) j ≡ y
same_at xs i y j h e = ap (slice_index (slice_set xs i y)) e ∙ get_or-set_same xs i y 0 h

own_len : (owner : List ℕ) (m n d : ℕ) (xs : List ℕ) → m ≡ n → AllOf owner m d xs → AllOf owner n d xs
own_len owner m n d xs e a = rw (← e) a

-- what a row is built from when `at` joins `head`
record Joining (next owner : List ℕ) (at head : ℕ) : Type 0 where
  at_in : at < length owner
  head_in : head < length owner
  size : length next ≡ length owner
  loose : slice_index owner at ≡ at
  is_head : slice_index owner head ≡ head
  ne : at ≡ head → ⊥

set_at : (owner : List ℕ) (at h : ℕ) → at < length owner → slice_index (slice_set owner at h) at ≡ h
set_at owner at h l = get_or-set_same owner at h 0 l

set_other : (owner : List ℕ) (at h c : ℕ) → (c ≡ at → ⊥)
    → slice_index (slice_set owner at h) c ≡ slice_index owner c
set_other owner at h c n = get_or-set_other owner at c h 0 n

row_here : (next owner : List ℕ) (at head : ℕ) (xs : List ℕ) → Joining next owner at head
    → IsRow next owner head xs → IsRow (linked head at next) (slice_set owner at head) head (at ∷ xs)
row_here next owner at head xs j r =
    let len : length (slice_set owner at head) ≡ length owner = length-set owner at head in
    let la : Lacks at xs = lacks owner (length owner) head at xs r.own (λ i. j.ne (sym j.loose ∙ i)) in
    let at2 = set_at owner at head j.at_in in
    record {
      path = path_put next head at xs head (omega (arith, j.size, j.head_in)) (omega (arith, j.size, j.at_in)) j.ne
          r.path (lacks_head owner (length owner) head xs r.own) la;
      own = (
        (omega (arith, j.at_in), (at2, j.ne)),
        own_len _ _ _ _ xs (sym len) (own_set owner at head (length owner) head xs r.own la),
      );
      all = λ c hc w nc. elim (cases_eq c at) [
        | inl q ↦ inl q
        | inr q ↦ inr (r.all c (omega arith) (sym (set_other owner at head c q) ∙ w) nc)
      ];
      once = (la, r.once);
    }

row_beside : (next owner : List ℕ) (at head d : ℕ) (xs : List ℕ) → Joining next owner at head → (d ≡ head → ⊥)
    → (d ≡ at → ⊥) → IsRow next owner d xs → IsRow (linked head at next) (slice_set owner at head) d xs
row_beside next owner at head d xs j nh na r =
    let len : length (slice_set owner at head) ≡ length owner = length-set owner at head in
    let la : Lacks at xs = lacks owner (length owner) d at xs r.own (λ i. na (sym i ∙ j.loose)) in
    let at2 = set_at owner at head j.at_in in
    record {
      path = path_beside next head at d xs d r.path nh na
          (lacks owner (length owner) d head xs r.own (λ k. nh (sym k ∙ j.is_head))) la;
      own = own_len _ _ _ _ xs (sym len) (own_set owner at head (length owner) d xs r.own la);
      all = λ c hc w nc. r.all c (omega arith)
          (sym (set_other owner at head c (λ q. nh (sym w ∙ ap (slice_index (slice_set owner at head)) q ∙ at2)))
          ∙ w) nc;
      once = r.once;
    }

row_same : (next owner : List ℕ) (d e : ℕ) (xs : List ℕ) → d ≡ e → IsRow next owner d xs → IsRow next owner e xs
row_same next owner d e xs q r = rw (← q) r

pub joined : (next owner v : List ℕ) (at head : ℕ) → AreGroups next owner → owner ≡ v → at < length v
    → head < length v → ((c : ℕ) → c < length v → slice_index v c ≡ at → c ≡ at) → slice_index v at ≡ at
    → slice_index v head ≡ head → at ≢ head → AreGroups (linked head at next) (slice_set owner at head)
joined next owner v at head g e h1 h2 al lo hh ne =
    let j : Joining next owner at head = record {
      at_in = omega (arith, ap length e);
      head_in = omega (arith, ap length e);
      size = g.size;
      loose = ap (λ o. slice_index o at) e ∙ lo;
      is_head = ap (λ o. slice_index o head) e ∙ hh;
      ne = ne;
    } in
    let alo : (c : ℕ) → c < length owner → slice_index owner c ≡ at → c ≡ at =
    λ c hc i. al c (omega (arith, ap length e)) (sym (ap (λ o. slice_index o c) e) ∙ i) in
    let owner2 = slice_set owner at head in
    let len : length owner2 ≡ length owner = length-set owner at head in
    let at2 = set_at owner at head j.at_in in
    let head2 : slice_index owner2 head ≡ head = set_other owner at head head (λ q. ne (sym q)) ∙ j.is_head in
    record {
      size = length-set (slice_set next at (slice_index next head)) head at
          ∙ length-set next at (slice_index next head) ∙ g.size ∙ sym len;
      flat = λ c hc. elim (cases_eq c at) [
        | inl q ↦ let w : slice_index owner2 c ≡ head = ap (slice_index owner2) q ∙ at2 in
            rw w (omega (arith, j.head_in), head2)
        | inr q ↦ let w = set_other owner at head c q in rw w (
            let f = g.flat c (omega arith) in
            let no : slice_index owner c ≡ at → ⊥ = λ i. q (alo c (omega arith) i) in
            (omega arith, set_other owner at head (slice_index owner c) no ∙ f.1))
      ];
      rows = λ d hd q.
          let n1 : d ≡ at → ⊥ = λ i. ne (sym i ∙ sym q ∙ ap (slice_index owner2) i ∙ at2) in
          let r = g.rows d (omega arith) (sym (set_other owner at head d n1) ∙ q) in
          elim (cases_eq d head) [
            | inl i ↦ (
              at ∷ r.0,
              row_same _ _ head d (at ∷ r.0) (sym i)
                  (row_here next owner at head r.0 j (row_same next owner d head r.0 i r.1)),
            )
            | inr i ↦ (r.0, row_beside next owner at head d r.0 j i n1 r.1)
          ];
    }

abbrev drop_one : ℕ → List ℕ → List ℕ
drop_one at xs = filter (λ x. not (eqb x at)) xs

-- without a number that occurs once
drop_lacks : (at : ℕ) (xs : List ℕ) → Lacks at xs → drop_one at xs ≡ xs
drop_lacks at [] l = refl
drop_lacks at (x ∷ xs) l = rw (ne_eqb x at l.0) (ap (λ t. x ∷ t) (drop_lacks at xs l.1))

lacks_at : (a b : ℕ) (xs : List ℕ) → a ≡ b → Lacks a xs → Lacks b xs
lacks_at a b xs e l = rw (← e) l

path_drop : (next : List ℕ) (p at a : ℕ) (xs : List ℕ) (b : ℕ) → After next p at → Path next a xs b → AllOnce xs
    → AllBelow (length next) xs → a < length next → (a ≡ at → ⊥) → (b ≡ at → ⊥)
    → Path (unlinked p at next) a (drop_one at xs) b
path_drop next p at a [] b w q o l h na nb = path_other next p at a [] b w q na tt nb
path_drop next p at a (x ∷ xs) b w q o l h na nb =
    elim (cases_eq x at) [
      | inl e ↦
          let a_is : a ≡ p = w.only a h (q.0 ∙ e) in
          let la = lacks_at x at xs e o.0 in
          rw (eq-eqb x at e, drop_lacks at xs la, a_is)
          (path_joined next p at xs b w (rw e at q.1) (λ i. na (a_is ∙ i)) la nb)
      | inr n ↦ rw (ne_eqb x at n) (
        unlinked_other next p at a (λ i. n (sym q.0 ∙ ap (slice_index next) i ∙ w.is)) na ∙ q.0,
        path_drop next p at x xs b w q.1 o.1 l.1 l.0 n nb,
      )
    ]

own_drop : (owner : List ℕ) (at h size d : ℕ) (xs : List ℕ) → AllOf owner size d xs
    → AllOf (slice_set owner at h) size d (drop_one at xs)
own_drop owner at h size d [] a = tt
own_drop owner at h size d (x ∷ xs) a =
    elim (cases_eq x at) [
      | inl e ↦ rw (eq-eqb x at e) (own_drop owner at h size d xs a.1)
      | inr n ↦ rw (ne_eqb x at n) (
        (a.0.0, (get_or-set_other owner at x h 0 n ∙ a.0.1.0, a.0.1.1)),
        own_drop owner at h size d xs a.1,
      )
    ]

lacks_drop : (y at : ℕ) (xs : List ℕ) → Lacks y xs → Lacks y (drop_one at xs)
lacks_drop y at [] l = tt
lacks_drop y at (x ∷ xs) l = elim (cases_Bool (eqb x at)) [
  | inl e ↦ rw e (lacks_drop y at xs l.1)
  | inr e ↦
      rw e (l.0, lacks_drop y at xs l.1)
]

once_drop : (at : ℕ) (xs : List ℕ) → AllOnce xs → AllOnce (drop_one at xs)
once_drop at [] o = tt
once_drop at (x ∷ xs) o = elim (cases_Bool (eqb x at)) [
  | inl e ↦ rw e (once_drop at xs o.1)
  | inr e ↦
      rw e (lacks_drop x at xs o.0, once_drop at xs o.1)
]

in_drop : (c at : ℕ) (xs : List ℕ) → (c ≡ at → ⊥) → In c xs → In c (drop_one at xs)
in_drop c at [] n i = i
in_drop c at (x ∷ xs) n i =
    elim (cases_eq x at) [
      | inl e ↦ rw (eq-eqb x at e) (elim i [ inl j ↦ absurd (n (j ∙ e)) | inr j ↦ in_drop c at xs n j ])
      | inr m ↦ rw (ne_eqb x at m) (elim i [ inl j ↦ inl j | inr j ↦ inr (in_drop c at xs n j) ])
    ]

below_of : (owner : List ℕ) (size d : ℕ) (xs : List ℕ) (n : ℕ) → n ≡ size → AllOf owner size d xs → AllBelow n xs
below_of owner size d [] n e a = tt
below_of owner size d (x ∷ xs) n e a = (omega (arith, a.0.0), below_of owner size d xs n e a.1)

row_left : (next owner : List ℕ) (p at d : ℕ) (xs : List ℕ) → After next p at → length next ≡ length owner
    → at < length owner → d < length owner → (d ≡ at → ⊥) → IsRow next owner d xs
    → IsRow (unlinked p at next) (slice_set owner at at) d (drop_one at xs)
row_left next owner p at d xs w size at_in d_in na r =
    let len : length (slice_set owner at at) ≡ length owner = length-set owner at at in
    let at2 = set_at owner at at at_in in
    record {
      path = path_drop next p at d xs d w r.path r.once
          (below_of owner (length owner) d xs (length next) size r.own) (omega arith) na na;
      own = own_len _ _ _ _ (drop_one at xs) (sym len) (own_drop owner at at (length owner) d xs r.own);
      all = λ c hc k nc.
          let nat : c ≡ at → ⊥ = λ j. na (sym k ∙ ap (slice_index (slice_set owner at at)) j ∙ at2) in
          in_drop c at xs nat (r.all c (omega arith) (sym (set_other owner at at c nat) ∙ k) nc);
      once = once_drop at xs r.once;
    }

row_alone : (next owner : List ℕ) (p at d : ℕ) → at < length next → length next ≡ length owner → d ≡ at
    → ((c : ℕ) → c < length owner → slice_index owner c ≡ at → ⊥)
    → IsRow (unlinked p at next) (slice_set owner at at) d []
row_alone next owner p at d at_in size e none =
    let len : length (slice_set owner at at) ≡ length owner = length-set owner at at in
    rw e record {
      path = get_or-set_same (slice_set next p (slice_index next at)) at at 0
          (omega (arith, length-set next p (slice_index next at)));
      own = tt;
      all = λ c hc k nc. absurd (none c (omega arith) (sym (set_other owner at at c nc) ∙ k));
      once = tt;
    }

pub left : (next owner v : List ℕ) (p at : ℕ) → AreGroups next owner → owner ≡ v → at < length v
    → slice_index v at ≢ at → After next p at → AreGroups (unlinked p at next) (slice_set owner at at)
left next owner v p at g e h1 ne0 w =
    let at_in : at < length owner = omega (arith, ap length e) in
    let ne : slice_index owner at ≡ at → ⊥ = λ i. ne0 (sym (ap (λ o. slice_index o at) e) ∙ i) in
    let owner2 = slice_set owner at at in
    let len : length owner2 ≡ length owner = length-set owner at at in
    let at2 = set_at owner at at at_in in
    let no_head : (c : ℕ) → c < length owner → slice_index owner c ≡ at → ⊥ =
    λ c hc i. ne (sym (ap (slice_index owner) i) ∙ (g.flat c hc).1 ∙ i) in
    record {
      size = length-set (slice_set next p (slice_index next at)) at at ∙ length-set next p (slice_index next at)
          ∙ g.size ∙ sym len;
      flat = λ c hc. elim (cases_eq c at) [
        | inl q ↦ let k : slice_index owner2 c ≡ at = ap (slice_index owner2) q ∙ at2 in rw k (omega arith, at2)
        | inr q ↦ let k = set_other owner at at c q in rw k (
            let f = g.flat c (omega arith) in
            (omega arith, set_other owner at at (slice_index owner c) (no_head c (omega arith)) ∙ f.1))
      ];
      rows = λ d hd q. elim (cases_eq d at) [
        | inl i ↦ ([], row_alone next owner p at d (omega (arith, g.size)) g.size i no_head)
        | inr i ↦
            let r = g.rows d (omega arith) (sym (set_other owner at at d i) ∙ q) in
            (drop_one at r.0, row_left next owner p at d r.0 w g.size at_in (omega arith) i r.1)
      ];
    }

lt_of : (x n : ℕ) → x < suc n → (x ≡ n → ⊥) → x < n
lt_of x n h m = elim (cases_lt x n) [ inl a ↦ a | inr a ↦ absurd (m (omega arith)) ]

length_drop : (at : ℕ) (xs : List ℕ) → AllOnce xs → length xs ≤ length (drop_one at xs) + 1
length_drop at [] o = omega arith
length_drop at (x ∷ xs) o =
    elim (cases_eq x at) [
      | inl e ↦ rw (eq-eqb x at e, drop_lacks at xs (lacks_at x at xs e o.0)) (omega arith)
      | inr n ↦ rw (ne_eqb x at n) (omega (arith, length_drop at xs o.1))
    ]

below_drop : (n : ℕ) (xs : List ℕ) → AllBelow (suc n) xs → AllBelow n (drop_one n xs)
below_drop n [] b = tt
below_drop n (x ∷ xs) b =
    elim (cases_eq x n) [
      | inl e ↦ rw (eq-eqb x n e) (below_drop n xs b.1)
      | inr m ↦ rw (ne_eqb x n m) (lt_of x n b.0 m, below_drop n xs b.1)
    ]

pub pigeons : (n : ℕ) (xs : List ℕ) → AllOnce xs → AllBelow n xs → length xs ≤ n
pigeons zero [] o b = omega arith
pigeons zero (x ∷ xs) o b = absurd (omega (arith, b.0))
pigeons (suc n) xs o b = omega (
  arith,
  length_drop n xs o,
  pigeons n (drop_one n xs) (once_drop n xs o) (below_drop n xs b),
)

pub chain_is : (next : List ℕ) (fuel a : ℕ) (xs : List ℕ) (b : ℕ) → Path next a xs b → Lacks b xs
    → length xs < fuel → chain next fuel a b ≡ xs
chain_is next zero a xs b p d h = absurd (omega arith)
chain_is next (suc fuel) a [] b p d h = rw (p, eq-eqb b b refl) refl
chain_is next (suc fuel) a (x ∷ xs) b p d h =
    rw (p.0, ne_eqb x b d.0) (ap (λ l. x ∷ l) (chain_is next fuel x xs b p.1 d.1 (omega arith)))

left_of : (next owner : List ℕ) (d : ℕ) (xs : List ℕ) → IsRow next owner d xs → length next ≡ length owner
    → d < length owner → IsLeft next d d (chain next (length next) d d)
    × AreMembers owner d (chain next (length next) d d)
left_of next owner d xs r e h =
    let l : Lacks d xs = lacks_head owner (length owner) d xs r.own in
    let b : AllBelow (length next) (d ∷ xs) =
    (omega arith, below_of owner (length owner) d xs (length next) e r.own) in
    let short : length xs < length next = omega (arith, pigeons (length next) (d ∷ xs) (l, r.once) b) in
    let c = chain_is next (length next) d xs d r.path l short in
    rw c (
      record { path = r.path; lacks = l; short = short; from_in = omega arith },
      record { own = r.own; all = r.all; once = r.once },
    )

-- the walk of a whole row
pub row_left_is : (next owner : List ℕ) (d : ℕ) → AreGroups next owner → d < length owner → slice_index owner d ≡ d
    → IsLeft next d d (chain next (length next) d d) × AreMembers owner d (chain next (length next) d d)
row_left_is next owner d g h q =
    let r = g.rows d h q in
    left_of next owner d r.0 r.1 g.size h

step_of : (next : List ℕ) (from to y : ℕ) (xs : List ℕ) → IsLeft next from to xs → y ≡ slice_index next from
    → (y ≡ to → ⊥) → y < length next → (ys : List ℕ) × ((xs ≡ y ∷ ys) × IsLeft next y to ys)
step_of next from to y [] l e n h = absurd (n (e ∙ l.path))
step_of next from to y (x ∷ ys) l e n h =
    let q : y ≡ x = e ∙ l.path.0 in (
      ys,
      (
        ap (λ z. z ∷ ys) (sym q),
        record {
          path = rw q l.path.1;
          lacks = l.lacks.1;
          short =
              omega (arith, l.short);
          from_in = h;
        },
      ),
    )

joined_left : (next : List ℕ) (to x : ℕ) (xs ys : List ℕ) → xs ≡ x ∷ ys → IsLeft next x to ys
    → (xs ≡ x ∷ chain next (length next) x to) × IsLeft next x to (chain next (length next) x to)
joined_left next to x xs ys e left =
    let c : chain next (length next) x to ≡ ys =
    chain_is next (length next) x ys to left.path left.lacks left.short in
    rw c (e, left)

-- one step of a walk
pub stepped : (next : List ℕ) (from to x : ℕ) → IsLeft next from to (chain next (length next) from to)
    → x ≡ slice_index next from → (x ≡ to → ⊥) → x < length next
    → (chain next (length next) from to ≡ x ∷ chain next (length next) x to)
    × IsLeft next x to (chain next (length next) x to)
stepped next from to x l e n h =
    let s = step_of next from to x (chain next (length next) from to) l e n h in
    joined_left next to x (chain next (length next) from to) s.0 s.1.0 s.1.1
