-- What is written is read again, as what it says: once, by the forms of a grammar.
use Rattle.std.proofs.Common.{◌≡◌, ℕ, zero, suc, ◌+◌, ◌≤◌, Bool, true, false, List, [], ◌∷◌, length, Option, Some, None}
use Rattle.std.proofs.Common.{Ok, refl, sym, ap, subst, ◌∙◌, arith}
use Rattle.xf_lex.specs.declared.token.Token.{Token}
use Rattle.xf_grammar.specs.Tokens.{Terminal, the_end, terminal, terminal_at, is_kind, comma}
use Rattle.xf_grammar.specs.Reading.{Out, ◌>>=◌}
use Rattle.xf_grammar.specs.Grammar.{Grammar, skip, take, peek, need, act, both, listed, scan, Step, ends, fails, goes}
use Rattle.xf_grammar.specs.Grammar.{Language, Lawful, pushed, acted, acted_if, closed, stepped, looked, scan_at, more}
use Rattle.xf_grammar.specs.Grammar.{read, blank, Spaced, tokens_of, Fill, nothing, yes, here, other, two, list, run}
use Rattle.xf_grammar.specs.Grammar.{step_next, run_written, more_written, tokens, held, tell_if, step_tells, run_tells}
use Rattle.xf_grammar.specs.Grammar.{more_tells, tells, first_seen, space_if, may_close, is_end, stops, step_fits}
use Rattle.xf_grammar.specs.Grammar.{is_token, run_fits, more_fits, fits, AllStand}
use Rattle.xf_grammar.proofs.Basics.{both_true, not_true, on_true, on_false, past, within, split, first_is, ends_at}
use Rattle.xf_grammar.proofs.Basics.{same_tokens}

-- what is read up to a number, and what it says
abbrev pub Again : {A D T : Type 0} → (A → T → Type 0) → Out A D → ℕ → T → Type 0
Again {A} Says r next u = (h : A) × ((r ≡ Ok (h, next)) × Says h u)

pub again_chain : {A D T B U : Type 0} (Says : A → T → Type 0) (Tells : B → U → Type 0) (r : Out A D)
    (k : A × ℕ → Out B D) (m next : ℕ) (t : T) (u : U) → Again Says r m t
    → ((h : A) → Says h t → Again Tells (k (h, m)) next u) → Again Tells (r >>= k) next u
again_chain Says Tells r k m next t u x f = let y = f x.0 x.1.1 in (y.0, (rw x.1.0 y.1.0, y.1.1))

-- the same answer, at the number that is meant
here_again : {A D T : Type 0} (Says : A → T → Type 0) (r : Out A D) (h : A) (at next : ℕ) (t : T) → r ≡ Ok (h, at)
    → Says h t → at ≡ next → Again Says r next t
here_again Says r h at next t e q s = (h, (e ∙ ap (λ n. Ok (h, n)) s, q))

-- ---- machines

closed_is : {A D : Type 0} (o : Option D) (h : A) (at : ℕ) → may_close o ≡ true → closed o h at ≡ Ok (h, at)
closed_is None h at e = refl
closed_is (Some d) h at e = absurd cc

module _ {A T K D X M : Type 0} (L : Language A T K D X M) where
  ended_is : (go : M → A → ℕ → Out A D) (s : Step K D M) (x : Terminal) (h : A) (at : ℕ) → is_end s ≡ true
      → stepped L go s x h at ≡ Ok (h, at)
  ended_is go ends x h at e = refl
  ended_is go s x h at e = absurd cc

  stop_is : (go : M → A → ℕ → Out A D) (m : M) (y : Terminal) (h : A) (at : ℕ) → stops L m y ≡ true
      → looked L go m y h at ≡ Ok (h, at)
  stop_is go m the_end h at e = closed_is _ h at e
  stop_is go m (terminal k bs) h at e = ended_is go _ _ h at e

  pub look_is : (go : M → A → ℕ → Out A D) (m : M) (x : Terminal) (h : A) (at : ℕ) → is_token x ≡ true
      → looked L go m x h at ≡ stepped L go (L.step m x) x h at
  look_is go m the_end h at e = absurd cc
  look_is go m (terminal k bs) h at e = refl

module _ {A T K D X M : Type 0} (L : Language A T K D X M) (all : List Token) (Says : A → T → Type 0)
    (w : Lawful L all Says) where
  -- a token that is held
  pub pushed_says : (keep : Bool) (h : A) (t : T) (at : ℕ) (x : Terminal) → Says h t → terminal_at all at ≡ x
      → Says (pushed L keep at (terminal_at all at) h) (held L keep x t)
  pushed_says true h t at x q e =
      subst (λ y. Says (L.push at (terminal_at all at) h) (L.hold y t)) e (w.pushed h t at q)
  pushed_says false h t at x q e = q

  -- a test of a token that stands
  pub tested_is : (x : X) (h : A) (t : T) (at : ℕ) (c : Terminal) → Says h t → terminal_at all at ≡ c
      → L.passes x (terminal_at all at) h ≡ L.allows x c t
  tested_is x h t at c q e = w.tested x (terminal_at all at) h t q ∙ ap (λ c. L.allows x c t) e

  -- an action where there is space
  acts : (k : K) (h : A) (t : T) (place next : ℕ) → Says h t → L.space k t ≡ true
      → Again Says (acted L k h place next) next (L.tell k t)
  acts k h t place next q s = (L.add k h, (on_true _ _ _ (w.roomy k h t q ∙ s), w.added k h t q))

  acts_if : (k : Option K) (h : A) (t : T) (place next : ℕ) → Says h t → space_if L k t ≡ true
      → Again Says (acted_if L k h place next) next (tell_if L k t)
  acts_if None h t place next q s = (h, (refl, q))
  acts_if (Some k) h t place next q s = acts k h t place next q s

  step_again : (go : M → A → ℕ → Out A D) (m : M) (s : Step K D M) (x : Terminal) (h : A) (at next : ℕ) (t u : T)
      → terminal_at all at ≡ x → Says h t → step_fits L s x t ≡ true
      → ((h : A) → Says h (step_tells L s x t) → Again Says (go (step_next m s) h (at + 1)) next u)
      → Again Says (stepped L go s (terminal_at all at) h at) next u
  step_again go m ends x h at next t u e q fit rest = absurd cc
  step_again go m (fails d) x h at next t u e q fit rest = absurd cc
  step_again go m (goes g keep n k) x h at next t u e q fit rest =
      again_chain Says Says _ _ _ next _ u (acts_if k _ _ at _ (pushed_says keep h t at x q e) fit) rest

  run_again : (f : ℕ) (m : M) (xs : List Terminal) (h : A) (at next : ℕ) (y : Terminal) (t : T) → length all ≤ f + at
      → Says h t → terminal_at all next ≡ y → AllStand all at (tokens_of (run_written L m xs)) next
      → run_fits L m xs y t ≡ true → Again Says (scan_at L f all m h at) next (run_tells L m xs t)
  run_again zero m [] h at next y t room q e s fit =
      let o : y ≡ the_end = sym e ∙ (ap (terminal_at all) (sym s) ∙ past all at (omega (arith, room))) in
      here_again Says _ h at next t (closed_is _ h at (subst (λ y. stops L m y ≡ true) o fit)) q s
  run_again (suc f) m [] h at next y t room q e s fit =
      let o : terminal_at all at ≡ y = ap (terminal_at all) s ∙ e in
      here_again Says _ h at next t (stop_is L _ m _ h at (subst (λ y. stops L m y ≡ true) (sym o) fit)) q s
  run_again zero m (x ∷ xs) h at next y t room q e s fit =
      absurd (within all at x s.0 (both_true _ _ fit).0 (omega (arith, room)))
  run_again (suc f) m (x ∷ xs) h at next y t room q e s fit =
      let a = both_true _ _ fit in
      let b = both_true _ _ a.1 in
      let l = look_is L _ m _ h at (ap is_token s.0 ∙ a.0) in
      let r = step_again _ m _ x h at next t _ s.0 q b.0
      (λ h' q'. run_again f _ xs h' _ next y _ (omega (arith, room)) q' e s.1 b.1) in
      let i = ap (λ s. stepped L (scan_at L f all) s (terminal_at all at) h at) (ap (L.step m) s.0) in
      (r.0, (l ∙ (i ∙ r.1.0), r.1.1))

  -- ---- lists

  more_again : (item : A → ℕ → Out A D) (W : Fill → List Spaced) (S : Fill → T → T) (F : Fill → Terminal → T → Bool)
      → ((p : Fill) (h : A) (at next : ℕ) (y : Terminal) (t : T) → Says h t → terminal_at all next ≡ y
      → AllStand all at (tokens_of (W p)) next → F p y t ≡ true → Again Says (item h at) next (S p t))
      → (f : ℕ) (r : Fill) (h : A) (at next : ℕ) (y : Terminal) (t : T) → length all ≤ f + at → Says h t
      → terminal_at all next ≡ y → AllStand all at (tokens_of (more_written W r)) next → more_fits W S F r y t ≡ true
      → Again Says (more f all item h at) next (more_tells S r t)
  more_again item W S F one zero nothing h at next y t room q e s fit = here_again Says _ h at next t refl q s
  more_again item W S F one (suc f) nothing h at next y t room q e s fit =
      let o : terminal_at all at ≡ y = ap (terminal_at all) s ∙ e in
      here_again Says _ h at next t (on_false _ _ _ (ap (is_kind comma) o ∙ not_true _ fit)) q s
  more_again item W S F one zero (list p r) h at next y t room q e s fit =
      absurd (within all at _ s.0 refl (omega (arith, room)))
  more_again item W S F one (suc f) (list p r) h at next y t room q e s fit =
      let b = both_true _ _ fit in
      let m = split _ _ all _ next s.1 in
      let stand : AllStand all (at + 1) (tokens_of (W p)) m.0 =
      subst (λ ts. AllStand all (at + 1) ts m.0) (same_tokens blank (W p)) m.1.0 in
      let x = one p h (at + 1) m.0 (first_seen (tokens_of (more_written W r)) y) t q
      (first_is _ all m.0 next y m.1.1 e) stand b.0 in
      let le = ends_at _ all _ m.0 stand in
      let z = more_again item W S F one f r x.0 m.0 next y _ (omega (arith, room, le)) x.1.1 e m.1.1 b.1 in
      (z.0, (on_true _ _ _ (ap (is_kind comma) s.0) ∙ (rw x.1.0 z.1.0), z.1.1))
  more_again item W S F one f p h at next y t room q e s fit = absurd cc

  -- ---- grammars

  pub again : (f : ℕ) → length all ≤ f → (g : Grammar K D X M) (p : Fill) (h : A) (at next : ℕ) (y : Terminal) (t : T)
      → Says h t → terminal_at all next ≡ y → AllStand all at (tokens L g p) next → fits L g p y t ≡ true
      → Again Says (read L f g all h at) next (tells L g p t)
  again f room skip nothing h at next y t q e s fit = here_again Says _ h at next t refl q s
  again f room (take gap keep x on off) (yes c p) h at next y t q e s fit =
      let b = both_true _ _ fit in
      let r = again f room on p _ _ next y _ (pushed_says keep h t at c q s.0) e s.1 b.1 in
      (r.0, (on_true _ _ _ (tested_is x h t at c q s.0 ∙ b.0) ∙ r.1.0, r.1.1))
  again f room (take gap keep x on off) (other p) h at next y t q e s fit =
      let b = both_true _ _ fit in
      let o = first_is _ all at next y s e in
      let r = again f room off p h at next y t q e s b.1 in
      (r.0, (on_false _ _ _ (tested_is x h t at _ q o ∙ not_true _ b.0) ∙ r.1.0, r.1.1))
  again f room (peek x on off) (here p) h at next y t q e s fit =
      let b = both_true _ _ fit in
      let o = first_is _ all at next y s e in
      let r = again f room on p h at next y t q e s b.1 in
      (r.0, (on_true _ _ _ (tested_is x h t at _ q o ∙ b.0) ∙ r.1.0, r.1.1))
  again f room (peek x on off) (other p) h at next y t q e s fit =
      let b = both_true _ _ fit in
      let o = first_is _ all at next y s e in
      let r = again f room off p h at next y t q e s b.1 in
      (r.0, (on_false _ _ _ (tested_is x h t at _ q o ∙ not_true _ b.0) ∙ r.1.0, r.1.1))
  again f room (need k on) p h at next y t q e s fit =
      let b = both_true _ _ fit in
      let r = again f room on p h at next y t q e s b.1 in
      (r.0, (on_true _ _ _ (w.roomy k h t q ∙ b.0) ∙ r.1.0, r.1.1))
  again f room (act k) nothing h at next y t q e s fit =
      let r = acts k h t at at q fit in
      here_again Says _ r.0 at next _ r.1.0 r.1.1 s
  again f room (both g k) (two p r) h at next y t q e s fit =
      let b = both_true _ _ fit in
      let m = split _ _ all at next s in
      again_chain Says Says _ _ m.0 next _ _ (again f room g p h at m.0 _ t q (first_is _ all m.0 next y m.1.1 e)
      m.1.0 b.0)
      (λ h' q'. again f room k r h' m.0 next y _ q' e m.1.1 b.1)
  again f room (listed g) (list p r) h at next y t q e s fit =
      let b = both_true _ _ fit in
      let m = split _ _ all at next s in
      again_chain Says Says _ _ m.0 next _ _ (again f room g p h at m.0 _ t q
      (first_is _ all m.0 next y m.1.1 e) m.1.0 b.0)
      (λ h' q'. more_again _ _ _ _
      (λ p' h2 at2 next2 y2 t2 q2 e2 s2 fit2. again f room g p' h2 at2 next2 y2 t2 q2 e2 s2 fit2)
      f r h' m.0 next y _ (omega (arith, room)) q' e m.1.1 b.1)
  again f room (scan m) (run xs) h at next y t q e s fit =
      run_again f m xs h at next y t (omega (arith, room)) q e s fit
  again f room g p h at next y t q e s fit = absurd cc
