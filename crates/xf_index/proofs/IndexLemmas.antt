use Rattle.std.proofs.Common.{◌≡◌, ℕ, zero, suc, ◌+◌, ◌*◌, ◌/◌, ◌<◌, ◌^◌, List, [], ◌∷◌, length, slice_index}
use Rattle.std.proofs.Common.{slice_set, sym, ◌∙◌, ap, arith, refl, ◌⊎◌, inl, inr}
use Rattle.std.specs.Prelude.{Option, Some, None}
use Rattle.std.proofs.lemmas.Bool.{cases_eq, cases_lt}
use Rattle.std.proofs.lemmas.List.{get_or_past, length-replicate, get_or-set_same, get_or-set_other, length-set}
use Rattle.std.proofs.Common.{replicate}
use Rattle.xf_rings.specs.Groups.{In, AllOf, AreMembers, upto}
use Rattle.xf_rings.proofs.GrowLemmas.{length_upto, upto_at}
use Rattle.xf_index.specs.Index.{name_at, bucket, IsIndex, halves, AllBelow}

parity : (c : ℕ) → (c ≡ 2 * (c / 2)) ⊎ (c ≡ 2 * (c / 2) + 1)
parity c = elim (cases_lt (2 * (c / 2)) c) [ inl a ↦ inr (omega arith) | inr a ↦ inl (omega arith) ]

even_alone : (names : List (Option ℕ)) (owner : List ℕ) (slot h : ℕ) → IsIndex names owner → h < length names
    → slice_index owner (2 * h) ≡ 2 * slot → (x : Option ℕ) → name_at names h ≡ x → 2 * h ≡ 2 * slot
even_alone names owner slot h i l q None e = sym (i.loose h l e) ∙ q
even_alone names owner slot h i l q (Some x) e = let k = i.kept h x l e in absurd (omega arith)

pub alone_of : (names : List (Option ℕ)) (owner : List ℕ) (slot : ℕ) → IsIndex names owner → (c : ℕ)
    → c < length owner → slice_index owner c ≡ 2 * slot → c ≡ 2 * slot
alone_of names owner slot i c l q =
    elim (parity c) [
      | inl e ↦
          let q2 : slice_index owner (2 * (c / 2)) ≡ 2 * slot = sym (ap (slice_index owner) e) ∙ q in
          e ∙ even_alone names owner slot (c / 2) i (omega (arith, i.size)) q2 (name_at names (c / 2)) refl
      | inr e ↦
          let k = i.heads (c / 2) (omega (arith, i.size)) in
          let q2 : slice_index owner (2 * (c / 2) + 1) ≡ 2 * slot = sym (ap (slice_index owner) e) ∙ q in
          absurd (omega arith)
    ]

-- a slot of the name is a member of its bucket
pub wanted : (names : List (Option ℕ)) (owner xs : List ℕ) (name s : ℕ) → IsIndex names owner
    → AreMembers owner (bucket (length names) name) xs → s < length names → name_at names s ≡ Some name
    → In (2 * s) xs
wanted names owner xs name s i m l e = m.all (2 * s) (omega (arith, i.size)) (i.kept s name l e) (λ q. omega arith)

in_halves : (c : ℕ) (xs : List ℕ) → In (2 * c) xs → In c (halves xs)
in_halves c [] i = i
in_halves c (x ∷ xs) i = elim i [ inl e ↦ inl (omega (arith, e)) | inr j ↦ inr (in_halves c xs j) ]

below_halves : (owner : List ℕ) (m d n : ℕ) (xs : List ℕ) → m ≡ 2 * n → AllOf owner m d xs → AllBelow n (halves xs)
below_halves owner m d n [] e a = tt
below_halves owner m d n (x ∷ xs) e a = (omega (arith, a.0.0), below_halves owner m d n xs e a.1)

pub near_below : (names v : List (Option ℕ)) (owner xs : List ℕ) (h : ℕ) → IsIndex names owner → names ≡ v
    → AreMembers owner h xs → AllBelow (length v) (halves xs)
near_below names v owner xs h i q m = below_halves owner (length owner) h (length v) xs
    (omega (arith, i.size, ap length q)) m.own

-- each slot of the name is among those of its bucket
pub near_all : (names v : List (Option ℕ)) (owner xs : List ℕ) (name h : ℕ) → IsIndex names owner → names ≡ v
    → AreMembers owner h xs → h ≡ bucket (length names) name → (s : ℕ) → name_at v s ≡ Some name → In s (halves xs)
near_all names v owner xs name h i q m t s e =
    elim (cases_lt s (length names)) [
      | inl l ↦ in_halves s xs (wanted names owner xs name s i (rw t at m) l (ap (λ n. name_at n s) q ∙ e))
      | inr l ↦ absurd (let z : Some name ≡ None = sym e ∙ sym (ap (λ n. name_at n s) q)
          ∙ get_or_past names s None l in cc)
    ]

held_in : (names : List (Option ℕ)) (owner : List ℕ) (slot : ℕ) → IsIndex names owner → slot < length names
    → (name_at names slot ≡ None → ⊥) → slice_index owner (2 * slot) ≡ 2 * slot → (x : Option ℕ)
    → name_at names slot ≡ x → ⊥
held_in names owner slot i l n q None e = n e
held_in names owner slot i l n q (Some x) e = let k = i.kept slot x l e in omega arith

-- a slot that holds a name is no head
pub held_other : (names : List (Option ℕ)) (owner : List ℕ) (slot : ℕ) → IsIndex names owner → slot < length names
    → (name_at names slot ≡ None → ⊥) → slice_index owner (2 * slot) ≡ 2 * slot → ⊥
held_other names owner slot i l n q = held_in names owner slot i l n q (name_at names slot) refl

pub none_at : (n s : ℕ) → name_at (replicate n None) s ≡ None
none_at zero s = refl
none_at (suc n) zero = refl
none_at (suc n) (suc s) = none_at n s

-- free slots
pub fresh : (names : List (Option ℕ)) (owner : List ℕ) (n : ℕ) → names ≡ replicate n None → owner ≡ upto (2 * n)
    → n < 2 ^ 31 → IsIndex names owner
fresh names owner n e q h =
    let sz : length names ≡ n = ap length e ∙ length-replicate n None in
    let so : length owner ≡ 2 * n = ap length q ∙ length_upto (2 * n) in
    record {
      size = omega arith;
      few = omega arith;
      heads = λ b hb. rw q (upto_at (2 * n) (2 * b + 1) (omega arith));
      kept = λ s x hs w. absurd (let z : None ≡ Some x = sym (none_at n s) ∙ sym (ap (λ l. name_at l s) e) ∙ w in
          cc);
      loose = λ s hs w. rw q (upto_at (2 * n) (2 * s) (omega arith));
    }

removed_at : (names : List (Option ℕ)) (owner : List ℕ) (slot : ℕ) → IsIndex names owner → slot < length names
    → IsIndex (slice_set names slot None) (slice_set owner (2 * slot) (2 * slot))
removed_at names owner slot i l =
    let ln = length-set names slot None in
    let lo = length-set owner (2 * slot) (2 * slot) in
    let at2 = get_or-set_same owner (2 * slot) (2 * slot) 0 (omega (arith, i.size)) in
    let at1 = get_or-set_same names slot None None l in
    record {
      size = omega (arith, ln, lo, i.size);
      few = omega (arith, ln, i.few);
      heads = λ b hb. get_or-set_other owner (2 * slot) (2 * b + 1) (2 * slot) 0 (λ q. omega arith)
          ∙ i.heads b (omega arith);
      kept = λ s x hs w. elim (cases_eq s slot) [
        | inl q ↦ absurd (let z : None ≡ Some x = sym at1 ∙ sym (ap (name_at (slice_set names slot None)) q) ∙ w in
            cc)
        | inr q ↦ get_or-set_other owner (2 * slot) (2 * s) (2 * slot) 0 (λ q2. q (omega arith))
            ∙ i.kept s x (omega arith) (sym (get_or-set_other names slot s None None q) ∙ w)
            ∙ ap (λ n. bucket n x) (sym ln)
      ];
      loose = λ s hs w. elim (cases_eq s slot) [
        | inl q ↦ let q2 : 2 * s ≡ 2 * slot = omega arith in rw q2 at2
        | inr q ↦ get_or-set_other owner (2 * slot) (2 * s) (2 * slot) 0 (λ q2. q (omega arith))
            ∙ i.loose s (omega arith) (sym (get_or-set_other names slot s None None q) ∙ w)
      ];
    }

pub removed : (names : List (Option ℕ)) (owner owner2 : List ℕ) (slot : ℕ) → IsIndex names owner
    → slot < length names → owner2 ≡ slice_set owner (2 * slot) (2 * slot)
    → IsIndex (slice_set names slot None) owner2
removed names owner owner2 slot i l eo = rw eo (removed_at names owner slot i l)
