-- What is read is written: once, by the forms of a grammar.
use Rattle.std.proofs.Common.{◌≡◌, inl, inr, ℕ, zero, suc, ◌+◌, ◌≤◌, Bool, true, false, List, [], ◌∷◌, length, Option}
use Rattle.std.proofs.Common.{Some, None, Ok, refl, sym, ap, subst, ◌∙◌, arith}
use Rattle.std.specs.Prelude.{not}
use Rattle.xf_lex.specs.declared.token.Token.{Token}
use Rattle.xf_grammar.specs.Tokens.{Terminal, the_end, terminal, terminal_at, is_kind, comma}
use Rattle.xf_grammar.specs.Reading.{Out}
use Rattle.xf_grammar.specs.Grammar.{Grammar, skip, refuse, take, peek, need, act, both, listed, scan, Step, ends}
use Rattle.xf_grammar.specs.Grammar.{fails, goes, Language, Lawful, pushed, acted, acted_if, closed, stepped, looked}
use Rattle.xf_grammar.specs.Grammar.{scan_at, more, read, blank, Spaced, tokens_of, Fill, nothing, yes, here, other}
use Rattle.xf_grammar.specs.Grammar.{two, list, run, run_written, more_written, written, tokens, held, tell_if}
use Rattle.xf_grammar.specs.Grammar.{run_tells, more_tells, tells, space_if, may_close, is_end, stops, is_token}
use Rattle.xf_grammar.specs.Grammar.{run_fits, more_fits, fits, AllStand, first_seen}
use Rattle.xf_grammar.proofs.Lookahead.{goes_on}
use Rattle.xf_grammar.proofs.Basics.{and_is, not_false, past, join, first_is, comma_is, bind_ok, either, answer_is}
use Rattle.xf_grammar.proofs.Basics.{same_tokens, token_or_end}
use Rattle.xf_grammar.proofs.Again.{pushed_says, tested_is, look_is}

-- tokens that are written stand up to a number, they fit, and say what was read
abbrev pub Written : List Token → ℕ → ℕ → List Spaced → Bool → Type 0 → Type 0
Written all at next ps fit says = AllStand all at (tokens_of ps) next × ((fit ≡ true) × says)

-- ---- grammars

-- a grammar is filled by what stands there
abbrev pub Found : {A T K D X M : Type 0} → Language A T K D X M → List Token → (A → T → Type 0) → Grammar K D X M → T
    → A → ℕ → ℕ → Type 0
Found L all Says g t h' at next =
    (p : Fill) × Written all at next (written L g p) (fits L g p (terminal_at all next) t) (Says h' (tells L g p t))

module _ {A T K D X M : Type 0} (L : Language A T K D X M) (all : List Token) (Says : A → T → Type 0)
    (w : Lawful L all Says) where
  -- ---- actions and machines

  acted_found : (k : K) (h h' : A) (place n next : ℕ) (t : T) → Says h t → acted L k h place n ≡ Ok (h', next)
      → (n ≡ next) × ((L.space k t ≡ true) × Says h' (L.tell k t))
  acted_found k h h' place n next t q e = elim (either (L.room k h) _ _ _ e) [
    | inl v ↦ let a = answer_is _ h' n next v.1 in
        (a.1, (sym (w.roomy k h t q) ∙ v.0, subst (λ h. Says h (L.tell k t)) a.0 (w.added k h t q)))
    | inr v ↦ absurd (let z = v.1 in cc)
  ]

  acted_if_found : (k : Option K) (h h' : A) (place n next : ℕ) (t : T) → Says h t
      → acted_if L k h place n ≡ Ok (h', next) → (n ≡ next) × ((space_if L k t ≡ true) × Says h' (tell_if L k t))
  acted_if_found None h h' place n next t q e = let a = answer_is h h' n next e in
      (a.1, (refl, subst (λ h. Says h t) a.0 q))
  acted_if_found (Some k) h h' place n next t q e = acted_found k h h' place n next t q e

  closed_found : {A D : Type 0} (o : Option D) (h h' : A) (at next : ℕ) → closed o h at ≡ Ok (h', next)
      → (may_close o ≡ true) × ((h ≡ h') × (at ≡ next))
  closed_found None h h' at next e = (refl, answer_is h h' at next e)
  closed_found (Some d) h h' at next e = absurd cc

  abbrev RunFound : (A → T → Type 0) → M → T → A → ℕ → ℕ → Type 0
  RunFound Says m t h' at next =
      (xs : List Terminal) × Written all at next (run_written L m xs) (run_fits L m xs (terminal_at all next) t)
      (Says h' (run_tells L m xs t))

  end_found : (m : M) (h h' : A) (at next : ℕ) (t : T) → Says h t → stops L m (terminal_at all at) ≡ true → h ≡ h'
      → at ≡ next → RunFound Says m t h' at next
  end_found m h h' at next t q s e n =
      ([], (n, (subst (λ i. stops L m (terminal_at all i) ≡ true) n s, subst (λ h. Says h t) e q)))

  stops_there : (m : M) (x : Terminal) → is_token x ≡ true → is_end (L.step m x) ≡ true → stops L m x ≡ true
  stops_there m the_end o e = absurd cc
  stops_there m (terminal k bs) o e = e

  goes_found : (m : M) (gap keep : Bool) (n : M) (k : Option K) (h' : A) (at next : ℕ) (t : T)
      → is_token (terminal_at all at) ≡ true → L.step m (terminal_at all at) ≡ goes gap keep n k
      → space_if L k (held L keep (terminal_at all at) t) ≡ true
      → RunFound Says n (tell_if L k (held L keep (terminal_at all at) t)) h' (at + 1) next
      → RunFound Says m t h' at next
  goes_found m gap keep n k h' at next t o c room r =
      (terminal_at all at ∷ r.0, (rw c (refl, r.1.0), (rw c (and_is _ _ o (and_is _ _ room r.1.1.0)), rw c r.1.1.1)))

  step_found : (go : M → A → ℕ → Out A D) (at next : ℕ)
      → ((m : M) (h h' : A) (t : T) → Says h t → go m h (at + 1) ≡ Ok (h', next) → RunFound Says m t h' (at + 1) next)
      → (m : M) (s : Step K D M) (h h' : A) (t : T) → Says h t → is_token (terminal_at all at) ≡ true
      → L.step m (terminal_at all at) ≡ s → stepped L go s (terminal_at all at) h at ≡ Ok (h', next)
      → RunFound Says m t h' at next
  step_found go at next rest m ends h h' t q o c e =
      let a = answer_is h h' at next e in
      end_found m h h' at next t q (stops_there m _ o (ap is_end c)) a.0 a.1
  step_found go at next rest m (fails d) h h' t q o c e = absurd cc
  step_found go at next rest m (goes g keep n k) h h' t q o c e =
      let b = bind_ok _ _ _ e in
      let q1 = pushed_says L all Says w keep h t at _ q refl in
      let a = acted_if_found k _ b.0.0 at _ b.0.1 _ q1 b.1.0 in
      goes_found m g keep n k h' at next t o c a.1.0
      (rest n b.0.0 h' (tell_if L k (held L keep (terminal_at all at) t)) a.1.1
      (subst (λ i. go n b.0.0 i ≡ Ok (h', next)) (sym a.0) b.1.1))

  look_found : (go : M → A → ℕ → Out A D) (at next : ℕ)
      → ((m : M) (h h' : A) (t : T) → Says h t → go m h (at + 1) ≡ Ok (h', next) → RunFound Says m t h' (at + 1) next)
      → (m : M) (h h' : A) (t : T) → Says h t → looked L go m (terminal_at all at) h at ≡ Ok (h', next)
      → RunFound Says m t h' at next
  look_found go at next rest m h h' t q e = elim (token_or_end _) [
    | inl o ↦
        let a = closed_found _ h h' at next (ap (λ x. looked L go m x h at) (sym o) ∙ e) in
        end_found m h h' at next t q (ap (stops L m) o ∙ a.0) a.1.0 a.1.1
    | inr o ↦ step_found go at next rest m _ h h' t q o refl (sym (look_is L go m _ h at o) ∙ e)
  ]

  run_found : (f : ℕ) (m : M) (h h' : A) (at next : ℕ) (t : T) → length all ≤ f + at → Says h t
      → scan_at L f all m h at ≡ Ok (h', next) → RunFound Says m t h' at next
  run_found zero m h h' at next t room q e =
      let a = closed_found _ h h' at next e in
      end_found m h h' at next t q (ap (stops L m) (past all at (omega (arith, room))) ∙ a.0) a.1.0 a.1.1
  run_found (suc f) m h h' at next t room q e =
      look_found _ at next
      (λ n k k' u p v. run_found f n k k' _ next u (omega (arith, room)) p v) m h h' t q e

  -- ---- lists

  abbrev MoreFound : (A → T → Type 0) → (Fill → List Spaced) → (Fill → T → T) → (Fill → Terminal → T → Bool) → T → A → ℕ
      → ℕ → Type 0
  MoreFound Says W S F t h' at next =
      (r : Fill) × Written all at next (more_written W r) (more_fits W S F r (terminal_at all next) t)
      (Says h' (more_tells S r t))

  no_more_found : (W : Fill → List Spaced) (S : Fill → T → T) (F : Fill → Terminal → T → Bool) (h h' : A) (at next : ℕ)
      (t : T) → Says h t → is_kind comma (terminal_at all at) ≡ false → h ≡ h' → at ≡ next
      → MoreFound Says W S F t h' at next
  no_more_found W S F h h' at next t q c e n =
      let none = subst (λ i. not (is_kind comma (terminal_at all i)) ≡ true) n (not_false _ c) in
      (nothing, (n, (none, subst (λ h. Says h t) e q)))

  more_found : (item : A → ℕ → Out A D) (W : Fill → List Spaced) (S : Fill → T → T) (F : Fill → Terminal → T → Bool)
      → ((h h' : A) (at next : ℕ) (t : T) → Says h t → item h at ≡ Ok (h', next) → (at ≤ next)
      × ((p : Fill) × Written all at next (W p) (F p (terminal_at all next) t) (Says h' (S p t))))
      → (f : ℕ) (h h' : A) (at next : ℕ) (t : T) → length all ≤ f + at → Says h t → more f all item h at ≡ Ok (h', next)
      → MoreFound Says W S F t h' at next
  more_found item W S F one zero h h' at next t room q e =
      let a = answer_is h h' at next e in
      no_more_found W S F h h' at next t q (ap (is_kind comma) (past all at (omega (arith, room)))) a.0 a.1
  more_found item W S F one (suc f) h h' at next t room q e =
      elim (either (is_kind comma (terminal_at all at)) _ _ _ e) [
        | inl v ↦
            let b = bind_ok _ _ _ v.1 in
            let x = one h b.0.0 (at + 1) b.0.1 t q b.1.0 in
            let r = more_found item W S F one f b.0.0 h' b.0.1 next (S x.1.0 t) (omega (arith, room, x.0)) x.1.1.1.1
            b.1.1 in
            let first = first_is _ all b.0.1 next _ r.1.0 refl in
            let fit = subst (λ y. F x.1.0 y t ≡ true) first x.1.1.1.0 in
            let item = subst (λ ts. AllStand all (at + 1) ts b.0.1) (sym (same_tokens blank (W x.1.0))) x.1.1.0 in
            let stand = join _ _ all _ b.0.1 next item r.1.0 in
            (list x.1.0 r.0, ((comma_is all at v.0, stand), (and_is _ _ fit r.1.1.0, r.1.1.1)))
        | inr v ↦
            let a = answer_is h h' at next v.1 in
            no_more_found W S F h h' at next t q v.0 a.0 a.1
      ]

  both_found : (g k : Grammar K D X M) (h h' : A) (at m next : ℕ) (t : T) (p : Found L all Says g t h at m)
      → Found L all Says k (tells L g p.0 t) h' m next → Found L all Says (both g k) t h' at next
  both_found g k h h' at m next t p r =
      let first = subst (λ y. fits L g p.0 y t ≡ true) (first_is _ all m next _ r.1.0 refl) p.1.1.0 in
      (two p.0 r.0, (join _ _ all at m next p.1.0 r.1.0, (and_is _ _ first r.1.1.0, r.1.1.1)))

  listed_found : (g : Grammar K D X M) (h h' : A) (at m next : ℕ) (t : T) (p : Found L all Says g t h at m)
      → MoreFound Says (written L g) (tells L g) (fits L g) (tells L g p.0 t) h' m next
      → Found L all Says (listed g) t h' at next
  listed_found g h h' at m next t p r =
      let first = subst (λ y. fits L g p.0 y t ≡ true) (first_is _ all m next _ r.1.0 refl) p.1.1.0 in
      (list p.0 r.0, (join _ _ all at m next p.1.0 r.1.0, (and_is _ _ first r.1.1.0, r.1.1.1)))

  -- a test of the first of some tokens that stand, or of what is behind them
  first_tested : (x : X) (h : A) (t : T) (at next : ℕ) (ps : List Terminal) → Says h t → AllStand all at ps next
      → L.passes x (terminal_at all at) h ≡ L.allows x (first_seen ps (terminal_at all next)) t
  first_tested x h t at next ps q s = tested_is L all Says w x h t at _ q (first_is ps all at next _ s refl)

  pub found : (f : ℕ) → length all ≤ f → (g : Grammar K D X M) (h h' : A) (at next : ℕ) (t : T) → Says h t
      → read L f g all h at ≡ Ok (h', next) → Found L all Says g t h' at next
  found f room skip h h' at next t q e = let a = answer_is h h' at next e in
      (nothing, (a.1, (refl, subst (λ h. Says h t) a.0 q)))
  found f room (refuse d) h h' at next t q e = absurd cc
  found f room (take gap keep x on off) h h' at next t q e =
      elim (either (L.passes x (terminal_at all at) h) _ _ _ e) [
        | inl v ↦
            let c = terminal_at all at in
            let says = pushed_says L all Says w keep h t at c q refl in
            let r = found f room on (pushed L keep at c h) h' (at + 1) next (held L keep c t) says v.1 in
            let a = sym (w.tested x c h t q) ∙ v.0 in
            (yes c r.0, ((refl, r.1.0), (and_is _ _ a r.1.1.0, r.1.1.1)))
        | inr v ↦
            let r = found f room off h h' at next t q v.1 in
            let a = sym (first_tested x h t at next (tokens L off r.0) q r.1.0) ∙ v.0 in
            (other r.0, (r.1.0, (and_is _ _ (not_false _ a) r.1.1.0, r.1.1.1)))
      ]
  found f room (peek x on off) h h' at next t q e = elim (either (L.passes x (terminal_at all at) h) _ _ _ e) [
    | inl v ↦
        let r = found f room on h h' at next t q v.1 in
        let a = sym (first_tested x h t at next (tokens L on r.0) q r.1.0) ∙ v.0 in
        (here r.0, (r.1.0, (and_is _ _ a r.1.1.0, r.1.1.1)))
    | inr v ↦
        let r = found f room off h h' at next t q v.1 in
        let a = sym (first_tested x h t at next (tokens L off r.0) q r.1.0) ∙ v.0 in
        (other r.0, (r.1.0, (and_is _ _ (not_false _ a) r.1.1.0, r.1.1.1)))
  ]
  found f room (need k on) h h' at next t q e = elim (either (L.room k h) _ _ _ e) [
    | inl v ↦ let r = found f room on h h' at next t q v.1 in
        (r.0, (r.1.0, (and_is _ _ (sym (w.roomy k h t q) ∙ v.0) r.1.1.0, r.1.1.1)))
    | inr v ↦ absurd (let z = v.1 in cc)
  ]
  found f room (act k) h h' at next t q e = let a = acted_found k h h' at at next t q e in
      (nothing, (a.0, (a.1.0, a.1.1)))
  found f room (both g k) h h' at next t q e =
      let b = bind_ok _ _ _ e in
      let p = found f room g h b.0.0 at b.0.1 t q b.1.0 in
      both_found g k b.0.0 h' at b.0.1 next t p (found f room k b.0.0 h' b.0.1 next (tells L g p.0 t) p.1.1.1 b.1.1)
  found f room (listed g) h h' at next t q e =
      let b = bind_ok _ _ _ e in
      let p = found f room g h b.0.0 at b.0.1 t q b.1.0 in
      listed_found g b.0.0 h' at b.0.1 next t p (
      more_found (read L f g all) (written L g) (tells L g) (fits L g)
      (λ k k' i n u c v. (goes_on L f g all k i n k' v, found f room g k k' i n u c v)) f b.0.0 h' b.0.1 next
      (tells L g p.0 t) (omega (arith, room)) p.1.1.1 b.1.1
      )
  found f room (scan m) h h' at next t q e = let r = run_found f m h h' at next t (omega (arith, room)) q e in
      (run r.0, r.1)
