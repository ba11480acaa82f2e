-- The head of an operation with its slots: what is written is read again, what is read is written, and reading looks no
-- further than it says.
use Rattle.std.proofs.Common.{◌≡◌, ℕ, ◌≤◌, true, List, length, Ok, refl, sym, ap, subst, ◌∙◌, arith}
use Rattle.xf_lex.specs.declared.token.Token.{Token}
use Rattle.xf_grammar.specs.Reading.{Out, ◌>>=◌}
use Rattle.xf_grammar.specs.Lookahead.{BoundedLookahead}
use Rattle.xf_grammar.specs.Grammar.{read, Fill, written, fits}
use Rattle.xf_grammar.specs.Tree.{Format, head_at, head_says, row_of, slots_say, Fitting}
use Rattle.xf_grammar.specs.Heads.{HeadStands}
use Rattle.xf_grammar.proofs.Basics.{both_true, and_is, split, join, first_is, bind_ok, answer_is}
use Rattle.xf_grammar.proofs.Again.{again}
use Rattle.xf_grammar.proofs.Found.{found}
use Rattle.xf_grammar.proofs.Fuel.{steady_at_length}
use Rattle.xf_grammar.proofs.Kept.{Keeps, Has, kept_all}
use Rattle.xf_grammar.proofs.Lookahead.{chain, done}

module _ {A T K D X M R V P S : Type 0} (F : Format A T K D X M R V P S) (n : ℕ) (all : List Token) where
  -- the slots of a row behind a head
  abbrev behind : A → ℕ → R → Out (R × A) D
  behind h m r = read F.language n (F.slots r) all h m >>= λ s. Ok ((r, s.0), s.1)

  slots_again : (h h' : A) (m next : ℕ) (r : R) → F.row (F.parts h) ≡ r
      → read F.language n (F.slots r) all h m ≡ Ok (h', next) → behind h m (F.row (F.parts h)) ≡ Ok ((r, h'), next)
  slots_again h h' m next r e q = rw (e, q) refl

  -- a head that was read: what its own grammar read, its row, and what the slots of that row read
  pub head_apart : (l : V) (r : R) (h : A) (at next : ℕ) → head_at F n all l at ≡ Ok ((r, h), next)
      → (x : A × ℕ) × ((read F.language n (F.head l) all F.empty at ≡ Ok x)
      × ((F.row (F.parts x.0) ≡ r) × (read F.language n (F.slots r) all x.0 x.1 ≡ Ok (h, next))))
  head_apart l r h at next e =
      let x = bind_ok _ _ _ e in
      let y = bind_ok _ _ _ x.1.1 in
      let same = answer_is _ (r, h) y.0.1 next y.1.1 in
      let row = ap (λ z. z.0) same.0 in
      let read_so = y.1.0 ∙ (ap (λ i. Ok (y.0.0, i)) same.1 ∙ ap (λ z. Ok (z.1, next)) same.0) in
      let slots = subst (λ q. read F.language n (F.slots q) all x.0.0 x.0.1 ≡ Ok (h, next)) row read_so in
      (x.0, (x.1.0, (row, slots)))

module _ {A T K D X M R V P S : Type 0} (F : Format A T K D X M R V P S) (all : List Token) (Says : A → T → Type 0)
    (said : P → S) (w : Fitting F all Says said) where
  row_is : (h : A) (t : T) → Says h t → F.row (F.parts h) ≡ F.row_said (F.says t)
  row_is h t q = sym (w.row_kept (F.parts h)) ∙ ap F.row_said (w.kept h t q)

  module _ (n : ℕ) (room : length all ≤ n) where
    pub head_again : (l : V) (p s : Fill) (at next : ℕ) → HeadStands F all l p s at next
        → (h : A) × ((head_at F n all l at ≡ Ok ((row_of F l p, h), next)) × Says h (slots_say F l p s))
    head_again l p s at next stand =
        let b = both_true _ _ stand.1 in
        let ss = written F.language (F.slots (row_of F l p)) s in
        let m = split _ ss all at next stand.0 in
        let first = first_is _ all m.0 next _ m.1.1 refl in
        let x = again F.language all Says w.lawful n room (F.head l) p F.empty at m.0 _ F.nothing w.said_empty first
        m.1.0 b.0 in
        let y = again F.language all Says w.lawful n room (F.slots (row_of F l p)) s x.0 m.0 next _
        (head_says F l p) x.1.1 refl m.1.1 b.1 in
        let row = row_is x.0 (head_says F l p) x.1.1 in
        (y.0, (rw x.1.0 (slots_again F n all x.0 y.0 m.0 next (row_of F l p) row y.1.0), y.1.1))

    pub head_found : (l : V) (r : R) (h : A) (at next : ℕ) → head_at F n all l at ≡ Ok ((r, h), next)
        → (p s : Fill) × (HeadStands F all l p s at next × ((row_of F l p ≡ r) × Says h (slots_say F l p s)))
    head_found l r h at next e =
        let x = head_apart F n all l r h at next e in
        let p = found F.language all Says w.lawful n room (F.head l) F.empty x.0.0 at x.0.1 F.nothing w.said_empty
        x.1.0 in
        let row : r ≡ row_of F l p.0 = sym x.1.1.0 ∙ row_is x.0.0 (head_says F l p.0) p.1.1.1 in
        let read_so : read F.language n (F.slots (row_of F l p.0)) all x.0.0 x.0.1 ≡ Ok (h, next) =
        subst (λ q. read F.language n (F.slots q) all x.0.0 x.0.1 ≡ Ok (h, next)) row x.1.1.1 in
        let s = found F.language all Says w.lawful n room (F.slots (row_of F l p.0)) x.0.0 h x.0.1 next
        (head_says F l p.0) p.1.1.1 read_so in
        let ss = written F.language (F.slots (row_of F l p.0)) s.0 in
        let first = first_is _ all x.0.1 next _ s.1.0 refl in
        let stand = join _ ss all at x.0.1 next p.1.0 s.1.0 in
        let fit = subst (λ y. fits F.language (F.head l) p.0 y F.nothing ≡ true) first p.1.1.0 in
        (p.0, s.0, ((stand, and_is _ _ fit s.1.1.0), (sym row, s.1.1.1)))

-- a property that reading keeps
pub head_kept : {A T K D X M R V P S : Type 0} (F : Format A T K D X M R V P S) (all : List Token) (W : ℕ → A → Type 0)
    → Keeps F.language all (λ k. true) (λ m. true) W → (n : ℕ) (l : V) (r : R) (h : A) (at next : ℕ) → W at F.empty
    → head_at F n all l at ≡ Ok ((r, h), next) → W next h
head_kept F all W c n l r h at next w e =
    let x = head_apart F n all l r h at next e in
    let first = subst (Has W) x.1.0 (kept_all F.language all W c n (F.head l) F.empty at w) in
    subst (Has W) x.1.1.1 (kept_all F.language all W c n (F.slots r) x.0.0 x.0.1 first)

-- with as many turns as there are tokens
pub head_steady : {A T K D X M R V P S : Type 0} (F : Format A T K D X M R V P S) (all : List Token) (l : V) (at : ℕ)
    → BoundedLookahead all at (λ ts. head_at F (length ts) ts l at)
head_steady F all l at =
    chain all at _ _ (steady_at_length F.language (F.head l) all F.empty at)
    (λ h. chain all h.1 _ _ (steady_at_length F.language (F.slots (F.row (F.parts h.0))) all h.0 h.1)
    (λ s. done all s.1 _ s.1 (omega arith)))
