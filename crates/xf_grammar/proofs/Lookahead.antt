-- Readings that look no further than they say: how they are put together, and each grammar, by its forms.
use Rattle.std.proofs.Common.{◌≡◌, ℕ, zero, suc, ◌+◌, ◌≤◌, ◌==◌, Bool, true, false, cond, List, Option, Some, None, Ok}
use Rattle.std.proofs.Common.{Err, refl, sym, ap, subst, ◌∙◌, arith, inl, inr}
use Rattle.std.proofs.lemmas.Bool.{eqb-true}
use Rattle.xf_lex.specs.declared.token.Token.{Token}
use Rattle.xf_grammar.specs.Tokens.{Terminal, the_end, terminal, terminal_at, is_kind, comma}
use Rattle.xf_grammar.specs.Reading.{Out, ◌>>=◌, one_too_many}
use Rattle.xf_grammar.specs.Lookahead.{Agree, reach, BoundedLookahead}
use Rattle.xf_grammar.specs.Grammar.{Grammar, skip, refuse, take, peek, need, act, both, listed, scan, Step, ends}
use Rattle.xf_grammar.specs.Grammar.{fails, goes, Language, pushed, acted, acted_if, closed, stepped, looked, scan_at}
use Rattle.xf_grammar.specs.Grammar.{more, read}
use Rattle.xf_grammar.proofs.Basics.{true_or_false}

-- ---- one answer, a test, one reading after another

pub done : {A D : Type 0} (all : List Token) (at : ℕ) (h : A) (n : ℕ) → at ≤ n
    → BoundedLookahead {A = A} {D = D} all at (λ ts. Ok (h, n))
done all at h n le = record { forward = le; same = λ us a. refl }

pub stops : {A D : Type 0} (all : List Token) (at n : ℕ) (due : D) → at ≤ n
    → BoundedLookahead {A = A} {D = D} all at (λ ts. Err (n, due))
stops all at n due le = record { forward = le; same = λ us a. refl }

pub later : {A D : Type 0} (all : List Token) (at n : ℕ) (r : List Token → Out A D) → at ≤ n → BoundedLookahead all n r
    → BoundedLookahead all at r
later all at n r le s = record { forward = omega (arith, s.forward); same = s.same }

-- a reading that goes by what it sees at its first token
pub by_seen : {A D : Type 0} (all : List Token) (at : ℕ) (r : Terminal → List Token → Out A D)
    → ((x : Terminal) → BoundedLookahead all at (r x)) → BoundedLookahead all at (λ ts. r (terminal_at ts at) ts)
by_seen all at r p =
    let s = p (terminal_at all at) in
    record { forward = s.forward; same = λ us a. ap (λ x. r x us) (a at (omega (arith, s.forward))) ∙ s.same us a }

-- one of two ways, by a test that no text changes
pub ways : {A D : Type 0} (b : Bool) (all : List Token) (at : ℕ) (r s : List Token → Out A D)
    → BoundedLookahead all at r → BoundedLookahead all at s → BoundedLookahead all at (λ ts. cond b (r ts) (s ts))
ways true all at r s p q = p
ways false all at r s p q = q

-- a test of what stands at the first token, and both ways on
pub ask : {A D : Type 0} (q : Terminal → Bool) (all : List Token) (at : ℕ) (y n : List Token → Out A D)
    → BoundedLookahead all at y → BoundedLookahead all at n
    → BoundedLookahead all at (λ ts. cond (q (terminal_at ts at)) (y ts) (n ts))
ask q all at y n on off = by_seen all at _ (λ x. ways (q x) all at y n on off)

bound : {A B D : Type 0} (o : Out A D) (all : List Token) (at : ℕ) (r : List Token → Out A D)
    (f : List Token → A × ℕ → Out B D) → BoundedLookahead all at r
    → ((x : A × ℕ) → BoundedLookahead all x.1 (λ ts. f ts x)) → r all ≡ o
    → BoundedLookahead all at (λ ts. r ts >>= f ts)
bound (Ok x) all at r f p q e =
    let p1 : at ≤ x.1 = subst (λ o. at ≤ reach o) e p.forward in
    let s = q x in
    record {
      forward = rw e (omega (arith, s.forward));
      same = λ us a.
          let a' : Agree (suc (reach (f all x))) all us = rw e at a in
          let a'' : Agree (suc (reach (r all))) all us = rw e (λ i lt. a' i (omega (arith, s.forward))) in
          rw (p.same us a'', e) (s.same us a');
    }
bound (Err i) all at r f p q e = record {
  forward = rw e (subst (λ o. at ≤ reach o) e p.forward);
  same = λ us a.
      let a' : Agree (suc i.0) all us = rw e at a in
      let a'' : Agree (suc (reach (r all))) all us = rw e a' in
      rw (p.same us a'', e) refl;
}

pub chain : {A B D : Type 0} (all : List Token) (at : ℕ) (r : List Token → Out A D) (f : List Token → A × ℕ → Out B D)
    → BoundedLookahead all at r → ((x : A × ℕ) → BoundedLookahead all x.1 (λ ts. f ts x))
    → BoundedLookahead all at (λ ts. r ts >>= f ts)
chain all at r f p q = bound (r all) all at r f p q refl

-- ---- one item too many

abbrev first_fault : {A D : Type 0} → ℕ → Out A D → Bool
first_fault at (Ok x) = false
first_fault at (Err e) = e.0 == at

first_kept : {A D : Type 0} (at : ℕ) (full : D) (o : Out A D) → first_fault at o ≡ true → one_too_many at full o ≡ o
first_kept at full (Ok x) e = absurd cc
first_kept at full (Err i) e = rw e refl

first_lost : {A D : Type 0} (at : ℕ) (full : D) (o : Out A D) → first_fault at o ≡ false
    → one_too_many at full o ≡ Err (at, full)
first_lost at full (Ok x) e = refl
first_lost at full (Err i) e = rw e refl

first_reach : {A D : Type 0} (at : ℕ) (o : Out A D) → first_fault at o ≡ true → reach o ≡ at
first_reach at (Ok x) e = absurd cc
first_reach at (Err i) e = eqb-true i.0 at e

-- a fault at the first token is one in each text that agrees through it
lost_both : {A D : Type 0} (all us : List Token) (at : ℕ) (r : List Token → Out A D)
    → ((ts : List Token) → BoundedLookahead ts at r) → Agree (suc at) all us → first_fault at (r all) ≡ false
    → first_fault at (r us) ≡ false
lost_both all us at r s a e = elim (true_or_false _) [
  | inl p ↦ absurd (
      let n = first_reach at (r us) p in
      let back : Agree (suc (reach (r us))) us all = λ i lt. sym (a i (omega (arith, n))) in
      let q = ap (first_fault at) ((s us).same all back) in
      cc)
  | inr p ↦ p
]

pub too_many_steady : {A D : Type 0} (all : List Token) (at : ℕ) (full : D) (r : List Token → Out A D)
    → ((ts : List Token) → BoundedLookahead ts at r) → BoundedLookahead all at (λ ts. one_too_many at full (r ts))
too_many_steady all at full r s = elim (true_or_false _) [
  | inl e ↦ let k = first_kept at full (r all) e in record {
    forward = rw k (s all).forward;
    same = λ us a. let a' : Agree (suc (reach (r all))) all us = subst (λ o. Agree (suc (reach o)) all us) k a in
        ap (one_too_many at full) ((s all).same us a');
  }
  | inr e ↦ let k = first_lost at full (r all) e in record {
    forward = rw k (omega arith);
    same = λ us a. let a' : Agree (suc at) all us = subst (λ o. Agree (suc (reach o)) all us) k a in
        first_lost at full (r us) (lost_both all us at r s a' e) ∙ sym k;
  }
]

module _ {A T K D X M : Type 0} (L : Language A T K D X M) where
  -- ---- the forms

  acted_steady : (k : K) (all : List Token) (h : A) (at next : ℕ) → at ≤ next
      → BoundedLookahead all at (λ ts. acted L k h at next)
  acted_steady k all h at next le = ways _ all at _ _ (done all at _ next le) (stops all at at _ (omega arith))

  acted_if_steady : (k : Option K) (all : List Token) (h : A) (at next : ℕ) → at ≤ next
      → BoundedLookahead all at (λ ts. acted_if L k h at next)
  acted_if_steady None all h at next le = done all at h next le
  acted_if_steady (Some k) all h at next le = acted_steady k all h at next le

  closed_steady : {A D : Type 0} (o : Option D) (all : List Token) (h : A) (at : ℕ)
      → BoundedLookahead all at (λ ts. closed o h at)
  closed_steady None all h at = done all at h at (omega arith)
  closed_steady (Some d) all h at = stops all at at d (omega arith)

  stepped_steady : (go : List Token → M → A → ℕ → Out A D) (all : List Token)
      → ((m : M) (h : A) (at : ℕ) → BoundedLookahead all at (λ ts. go ts m h at))
      → (s : Step K D M) (x : Terminal) (h : A) (at : ℕ) → BoundedLookahead all at (λ ts. stepped L (go ts) s x h at)
  stepped_steady go all p ends x h at = done all at h at (omega arith)
  stepped_steady go all p (fails d) x h at = stops all at at d (omega arith)
  stepped_steady go all p (goes gap keep m k) x h at =
      chain all at _ _ (acted_if_steady k all _ at _ (omega arith))
      (λ y. p m y.0 y.1)

  looked_steady : (go : List Token → M → A → ℕ → Out A D) (all : List Token)
      → ((m : M) (h : A) (at : ℕ) → BoundedLookahead all at (λ ts. go ts m h at))
      → (m : M) (x : Terminal) (h : A) (at : ℕ) → BoundedLookahead all at (λ ts. looked L (go ts) m x h at)
  looked_steady go all p m the_end h at = closed_steady _ all h at
  looked_steady go all p m (terminal k bs) h at = stepped_steady go all p _ _ h at

  scan_steady : (f : ℕ) (all : List Token) (m : M) (h : A) (at : ℕ)
      → BoundedLookahead all at (λ ts. scan_at L f ts m h at)
  scan_steady zero all m h at = closed_steady _ all h at
  scan_steady (suc f) all m h at =
      by_seen all at _
      (λ x. looked_steady _ all (λ n k i. scan_steady f all n k i) m x h at)

  pub more_steady : {A D : Type 0} (f : ℕ) (all : List Token) (item : List Token → A → ℕ → Out A D)
      → ((h : A) (at : ℕ) → BoundedLookahead all at (λ ts. item ts h at)) → (h : A) (at : ℕ)
      → BoundedLookahead all at (λ ts. more f ts (item ts) h at)
  more_steady zero all item p h at = done all at h at (omega arith)
  more_steady (suc f) all item p h at =
      ask (is_kind comma) all at _ _ (later all at (at + 1) _ (omega arith) (chain all (at + 1) _ _ (p h (at + 1))
      (λ x. more_steady f all item p x.0 x.1))) (done all at h at (omega arith))

  pub steady : (f : ℕ) (g : Grammar K D X M) (all : List Token) (h : A) (at : ℕ)
      → BoundedLookahead all at (λ ts. read L f g ts h at)
  steady f skip all h at = done all at h at (omega arith)
  steady f (refuse d) all h at = stops all at at d (omega arith)
  steady f (take gap keep x on off) all h at =
      by_seen all at (λ c ts. cond (L.passes x c h) (read L f on ts (pushed L keep at c h) (at + 1))
      (read L f off ts h at))
      (λ c. ways (L.passes x c h) all at _ _
      (later all at (at + 1) _ (omega arith) (steady f on all (pushed L keep at c h) (at + 1))) (steady f off all h at))
  steady f (peek x on off) all h at =
      ask (λ c. L.passes x c h) all at _ _ (steady f on all h at) (steady f off all h at)
  steady f (need k on) all h at = ways _ all at _ _ (steady f on all h at) (stops all at at _ (omega arith))
  steady f (act k) all h at = acted_steady k all h at at (omega arith)
  steady f (both g k) all h at = chain all at _ _ (steady f g all h at) (λ x. steady f k all x.0 x.1)
  steady f (listed g) all h at =
      chain all at _ _ (steady f g all h at)
      (λ x. more_steady f all (λ ts. read L f g ts) (λ k i. steady f g all k i) x.0 x.1)
  steady f (scan m) all h at = scan_steady f all m h at

  -- a reading that succeeds goes on, or stays
  pub goes_on : (f : ℕ) (g : Grammar K D X M) (all : List Token) (h : A) (at next : ℕ) (h' : A)
      → read L f g all h at ≡ Ok (h', next) → at ≤ next
  goes_on f g all h at next h' q = subst (λ o. at ≤ reach o) q (steady f g all h at).forward
