use Rattle.std.proofs.Common.{◌≡◌, ◌≢◌, ℕ, ◌<◌, List, length, slice_index, slice_set, get_or, sym, ◌∙◌, ap, arith}
use Rattle.std.proofs.Common.{refl}
use Rattle.std.proofs.lemmas.List.{get_or_read, get_or-set_same, get_or-set_other, length-set}
use Rattle.std.proofs.lemmas.Bool.{cases_eq}
use Rattle.xf_rings.specs.Ring.{linked, unlinked, After}
use Rattle.xf_rings.specs.Mirror.{Mirror}

same_at : (xs : List ℕ) (i y j : ℕ) → i < length xs → j ≡ i → slice_index (slice_set xs i y) j ≡ y
same_at xs i y j h e = ap (slice_index (slice_set xs i y)) e ∙ get_or-set_same xs i y 0 h

-- two writes
pub record Twice (xs ys : List ℕ) (i y j z : ℕ) : Type 0 where
  pub size : length ys ≡ length xs
  pub last : (k : ℕ) → k ≡ j → slice_index ys k ≡ z
  pub first : (k : ℕ) → (k ≡ j → ⊥) → k ≡ i → slice_index ys k ≡ y
  pub else_ : (k : ℕ) → (k ≡ j → ⊥) → (k ≡ i → ⊥) → slice_index ys k ≡ slice_index xs k

pub twice : (xs : List ℕ) (i y j z : ℕ) → i < length xs → j < length xs
    → Twice xs (slice_set (slice_set xs i y) j z) i y j z
twice xs i y j z hi hj =
    let hj2 : j < length (slice_set xs i y) = omega (arith, length-set xs i y) in
    record {
      size = length-set (slice_set xs i y) j z ∙ length-set xs i y;
      last = λ k e. same_at (slice_set xs i y) j z k hj2 e;
      first = λ k n e. get_or-set_other (slice_set xs i y) j k z 0 n ∙ same_at xs i y k hi e;
      else_ = λ k n m. get_or-set_other (slice_set xs i y) j k z 0 n ∙ get_or-set_other xs i k y 0 m;
    }

pub unlink_mirror : (n p : List ℕ) (a : ℕ) → Mirror n p → a < length n
    → Mirror (slice_set (slice_set n (slice_index p a) (slice_index n a)) a a)
    (slice_set (slice_set p (slice_index n a) (slice_index p a)) a a)
unlink_mirror n p a m h =
    let b = slice_index p a in
    let c = slice_index n a in
    let hb : b < length n = m.prev_in a h in
    let hc : c < length n = m.next_in a h in
    let sz = m.size in
    let tn = twice n b c a a hb h in
    let tp = twice p c b a a (omega arith) (omega arith) in
    let e1 = m.back a h in
    let e2 = m.forth a h in
    record {
      size = tp.size ∙ sz ∙ sym tn.size;
      next_in = λ i hi. grind (
        arith,
        tn.size,
        tn.last i,
        tn.first i,
        tn.else_ i,
        cases_eq i a,
        cases_eq i b,
        m.next_in i,
      );
      prev_in = λ i hi. grind (
        arith,
        tn.size,
        tp.last i,
        tp.first i,
        tp.else_ i,
        cases_eq i a,
        cases_eq i c,
        m.prev_in i,
      );
      back = λ i hi. let ni = slice_index n i in
          grind (
            arith,
            tn.size,
            tn.last i,
            tn.first i,
            tn.else_ i,
            cases_eq i a,
            cases_eq i b,
            m.back i,
            tp.last a,
            tp.last c,
            tp.first c,
            cases_eq c a,
            tp.last ni,
            tp.first ni,
            tp.else_ ni,
            cases_eq ni a,
            cases_eq ni c,
          );
      forth = λ i hi. let pi = slice_index p i in
          grind (
            arith,
            tn.size,
            tp.last i,
            tp.first i,
            tp.else_ i,
            cases_eq i a,
            cases_eq i c,
            m.forth i,
            tn.last a,
            tn.last b,
            tn.first b,
            cases_eq b a,
            tn.last pi,
            tn.first pi,
            tn.else_ pi,
            cases_eq pi a,
            cases_eq pi b,
          );
    }

pub link_mirror : (n p : List ℕ) (b a : ℕ) → Mirror n p → b < length n → a < length n → slice_index n a ≡ a → b ≢ a
    → Mirror (slice_set (slice_set n a (slice_index n b)) b a) (slice_set (slice_set p (slice_index n b) a) a b)
link_mirror n p b a m hb ha e ne =
    let c = slice_index n b in
    let hc : c < length n = m.next_in b hb in
    let sz = m.size in
    let tn = twice n a c b a ha hb in
    let tp = twice p c a a b (omega arith) (omega arith) in
    let e1 = m.back a ha in
    let e2 = m.back b hb in
    let e3 : slice_index p a ≡ a = sym (ap (slice_index p) e) ∙ e1 in
    record {
      size = tp.size ∙ sz ∙ sym tn.size;
      next_in = λ i hi. grind (
        arith,
        tn.size,
        tn.last i,
        tn.first i,
        tn.else_ i,
        cases_eq i a,
        cases_eq i b,
        m.next_in i,
      );
      prev_in = λ i hi. grind (
        arith,
        tn.size,
        tp.last i,
        tp.first i,
        tp.else_ i,
        cases_eq i a,
        cases_eq i c,
        m.prev_in i,
      );
      back = λ i hi. let ni = slice_index n i in
          grind (
            arith,
            ne,
            tn.size,
            tn.last i,
            tn.first i,
            tn.else_ i,
            cases_eq i a,
            cases_eq i b,
            m.back i,
            tp.last a,
            tp.last c,
            tp.first c,
            cases_eq c a,
            tp.last ni,
            tp.first ni,
            tp.else_ ni,
            cases_eq ni a,
            cases_eq ni c,
          );
      forth = λ i hi. let pi = slice_index p i in
          grind (
            arith,
            ne,
            tn.size,
            tp.last i,
            tp.first i,
            tp.else_ i,
            cases_eq i a,
            cases_eq i c,
            m.forth i,
            tn.last a,
            tn.last b,
            tn.first a,
            tn.first b,
            cases_eq b a,
            tn.last pi,
            tn.first pi,
            tn.else_ pi,
            cases_eq pi a,
            cases_eq pi b,
          );
    }

-- what the code read is what the definitions name
pub unlink_done : (n p v : List ℕ) (a b c : ℕ) → Mirror n p → n ≡ v → a < length v → b ≡ get_or p a b
    → c ≡ get_or n a c → Mirror (slice_set (slice_set n b c) a a) (slice_set (slice_set p c b) a a)
unlink_done n p v a b c m e h eb ec =
    let h1 : a < length n = omega (arith, ap length e) in
    let q1 : b ≡ slice_index p a = get_or_read p a b (omega (arith, m.size)) eb 0 in
    let q2 : c ≡ slice_index n a = get_or_read n a c h1 ec 0 in
    rw (q1, q2) (unlink_mirror n p a m h1)

pub prev_is : (n p v : List ℕ) (a b : ℕ) → Mirror n p → n ≡ v → a < length v → b ≡ get_or p a b → After v b a
prev_is n p v a b m e h eb =
    let h1 : a < length n = omega (arith, ap length e) in
    let q1 : b ≡ slice_index p a = get_or_read p a b (omega (arith, m.size)) eb 0 in
    rw (← e) record {
      in_p = rw q1 (m.prev_in a h1);
      in_e = h1;
      is = rw q1 (m.forth a h1);
      only = λ x hx q. sym (m.back x hx) ∙ ap (slice_index p) q ∙ sym q1;
    }

pub unlink_is : (n p v : List ℕ) (a b c : ℕ) → Mirror n p → n ≡ v → a < length v → b ≡ get_or p a b
    → c ≡ get_or n a c → slice_set (slice_set n b c) a a ≡ unlinked b a v
unlink_is n p v a b c m e h eb ec =
    let q2 : c ≡ slice_index n a = get_or_read n a c (omega (arith, ap length e)) ec 0 in
    rw (q2, e) refl

pub link_done : (n p v : List ℕ) (b a c : ℕ) → Mirror n p → n ≡ v → b < length v → a < length v
    → slice_index v a ≡ a → b ≢ a → c ≡ get_or n b c
    → Mirror (slice_set (slice_set n a c) b a) (slice_set (slice_set p c a) a b)
link_done n p v b a c m e hb ha q ne ec =
    let h1 : b < length n = omega (arith, ap length e) in
    let q2 : c ≡ slice_index n b = get_or_read n b c h1 ec 0 in
    rw q2 (link_mirror n p b a m h1 (omega (arith, ap length e)) (ap (λ l. slice_index l a) e ∙ q) ne)

pub link_is : (n v : List ℕ) (b a c : ℕ) → n ≡ v → b < length v → c ≡ get_or n b c
    → slice_set (slice_set n a c) b a ≡ linked b a v
link_is n v b a c e hb ec =
    let h1 : b < length n = omega (arith, ap length e) in
    let q2 : c ≡ slice_index n b = get_or_read n b c h1 ec 0 in
    rw (q2, e) refl
