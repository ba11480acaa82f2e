-- Reading is the same with each number of turns that is enough.
use Rattle.std.proofs.Common.{◌≡◌, ℕ, zero, suc, ◌+◌, ◌≤◌, Bool, true, false, cond, List, length, Option, Some, None}
use Rattle.std.proofs.Common.{Ok, Err, refl, sym, ap, ◌∙◌, arith}
use Rattle.xf_lex.specs.declared.token.Token.{Token}
use Rattle.xf_grammar.specs.Tokens.{Terminal, the_end, terminal, terminal_at, is_kind, comma}
use Rattle.xf_grammar.specs.Reading.{Out, ◌>>=◌}
use Rattle.xf_grammar.specs.Lookahead.{Agree, reach, BoundedLookahead}
use Rattle.xf_grammar.specs.Grammar.{Grammar, skip, refuse, take, peek, need, act, both, listed, scan, Step, ends}
use Rattle.xf_grammar.specs.Grammar.{fails, goes, Language, pushed, acted_if, closed, stepped, looked, scan_at, more}
use Rattle.xf_grammar.specs.Grammar.{read}
use Rattle.xf_grammar.proofs.Basics.{past}
use Rattle.xf_grammar.proofs.Lookahead.{steady, goes_on}

pub same_chain : {A B D : Type 0} (r s : Out A D) (f k : A × ℕ → Out B D) → r ≡ s → ((x : A × ℕ) → s ≡ Ok x → f x ≡ k x)
    → (r >>= f) ≡ (s >>= k)
same_chain r (Ok x) f k e p = rw e (p x refl)
same_chain r (Err d) f k e p = rw e refl

pub same_ways : {A D : Type 0} (b : Bool) (r s y n : Out A D) → r ≡ y → s ≡ n → cond b r s ≡ cond b y n
same_ways true r s y n e f = e
same_ways false r s y n e f = f

module _ {A T K D X M : Type 0} (L : Language A T K D X M) where
  acted_at : (k : Option K) (h : A) (place n : ℕ) (x : A × ℕ) → acted_if L k h place n ≡ Ok x → x.1 ≡ n
  acted_at None h place n x e = let p : (h, n) ≡ x = cc in ap (λ x. x.1) (sym p)
  acted_at (Some k) h place n x e = told (L.room k h) (L.add k h) place n (L.full k) x e
    where
      told : {A D : Type 0} (b : Bool) (h : A) (place n : ℕ) (d : D) (x : A × ℕ)
          → let o : Out A D = cond b (Ok (h, n)) (Err (place, d)) in o ≡ Ok x → x.1 ≡ n
      told true h place n d x e = let p : (h, n) ≡ x = cc in ap (λ x. x.1) (sym p)
      told false h place n d x e = absurd cc

  -- a machine goes on at the next token
  stepped_same : (go on : M → A → ℕ → Out A D) (s : Step K D M) (x : Terminal) (h : A) (at : ℕ)
      → ((m : M) (h : A) (n : ℕ) → n ≡ at + 1 → go m h n ≡ on m h n) → stepped L go s x h at ≡ stepped L on s x h at
  stepped_same go on ends x h at p = refl
  stepped_same go on (fails d) x h at p = refl
  stepped_same go on (goes g keep m k) x h at p =
      same_chain _ _ _ _ refl
      (λ y e. p m y.0 y.1 (acted_at k _ at _ y e))

  looked_same : (go on : M → A → ℕ → Out A D) (m : M) (x : Terminal) (h : A) (at : ℕ)
      → ((m : M) (h : A) (n : ℕ) → n ≡ at + 1 → go m h n ≡ on m h n) → looked L go m x h at ≡ looked L on m x h at
  looked_same go on m the_end h at p = refl
  looked_same go on m (terminal k bs) h at p = stepped_same go on _ _ h at p

  over : (f : ℕ) (all : List Token) (m : M) (h : A) (at : ℕ) → length all ≤ at
      → scan_at L f all m h at ≡ closed (L.close m) h at
  over zero all m h at le = refl
  over (suc f) all m h at le = rw (past all at le) refl

  scan_same : (f g : ℕ) (all : List Token) (m : M) (h : A) (at : ℕ) → length all ≤ f + at → length all ≤ g + at
      → scan_at L f all m h at ≡ scan_at L g all m h at
  scan_same zero g all m h at lf lg = sym (over g all m h at (omega (arith, lf)))
  scan_same (suc f) zero all m h at lf lg = over (suc f) all m h at (omega (arith, lg))
  scan_same (suc f) (suc g) all m h at lf lg =
      looked_same _ _ m _ h at
      (λ n k i e. scan_same f g all n k i (omega (arith, lf, e)) (omega (arith, lg, e)))

  no_more : {A D : Type 0} (f : ℕ) (all : List Token) (item : A → ℕ → Out A D) (h : A) (at : ℕ) → length all ≤ at
      → more f all item h at ≡ Ok (h, at)
  no_more zero all item h at le = refl
  no_more (suc f) all item h at le = rw (past all at le) refl

  more_same : {A D : Type 0} (f g : ℕ) (all : List Token) (item it : A → ℕ → Out A D)
      → ((h : A) (at : ℕ) → item h at ≡ it h at) → ((h : A) (at : ℕ) (x : A × ℕ) → it h at ≡ Ok x → at ≤ x.1)
      → (h : A) (at : ℕ) → length all ≤ f + at → length all ≤ g + at → more f all item h at ≡ more g all it h at
  more_same zero g all item it e p h at lf lg = sym (no_more g all it h at (omega (arith, lf)))
  more_same (suc f) zero all item it e p h at lf lg = no_more (suc f) all item h at (omega (arith, lg))
  more_same (suc f) (suc g) all item it e p h at lf lg =
      same_ways (is_kind comma (terminal_at all at)) _ _ _ _ (same_chain (item h (at + 1)) (it h (at + 1)) _ _
      (e h (at + 1))
      (λ x q. let le = p h (at + 1) x q in
      more_same f g all item it e p x.0 x.1 (omega (arith, lf, le)) (omega (arith, lg, le)))) refl

  pub fuel : (f g : ℕ) (all : List Token) → length all ≤ f → length all ≤ g → (r : Grammar K D X M) (h : A) (at : ℕ)
      → read L f r all h at ≡ read L g r all h at
  fuel f g all lf lg skip h at = refl
  fuel f g all lf lg (refuse d) h at = refl
  fuel f g all lf lg (take gap keep x on off) h at =
      same_ways (L.passes x (terminal_at all at) h) _ _ _ _
      (fuel f g all lf lg on (pushed L keep at (terminal_at all at) h) (at + 1)) (fuel f g all lf lg off h at)
  fuel f g all lf lg (peek x on off) h at =
      same_ways (L.passes x (terminal_at all at) h) _ _ _ _ (fuel f g all lf lg on h at) (fuel f g all lf lg off h at)
  fuel f g all lf lg (need k on) h at = same_ways (L.room k h) _ _ _ _ (fuel f g all lf lg on h at) refl
  fuel f g all lf lg (act k) h at = refl
  fuel f g all lf lg (both r s) h at =
      same_chain _ _ _ _ (fuel f g all lf lg r h at)
      (λ x e. fuel f g all lf lg s x.0 x.1)
  fuel f g all lf lg (listed r) h at =
      same_chain _ _ _ _ (fuel f g all lf lg r h at)
      (λ x e. more_same f g all (read L f r all) (read L g r all) (λ k i. fuel f g all lf lg r k i)
      (λ k i y q. goes_on L g r all k i y.1 y.0 q) x.0 x.1 (omega (arith, lf)) (omega (arith, lg)))
  fuel f g all lf lg (scan m) h at = scan_same f g all m h at (omega (arith, lf)) (omega (arith, lg))

  -- with as many turns as there are tokens, reading looks no further than it says
  pub steady_at_length : (r : Grammar K D X M) (all : List Token) (h : A) (at : ℕ)
      → BoundedLookahead all at (λ ts. read L (length ts) r ts h at)
  steady_at_length r all h at = record {
    forward = (steady L _ r all h at).forward;
    same = λ us a.
        let m = length all + length us in
        let e = fuel m _ all (omega arith) (omega arith) r h at in
        let s = steady L m r all h at in
        let a' : Agree (suc (reach (read L m r all h at))) all us = rw e a in
        fuel _ m us (omega arith) (omega arith) r h at ∙ (s.same us a' ∙ e);
  }
