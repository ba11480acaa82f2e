-- Reading a tree is the same with each number of turns that is enough.
use Rattle.std.proofs.Common.{◌≡◌, ℕ, zero, suc, ◌+◌, ◌<◌, ◌≤◌, Bool, true, false, cond, nat_lt, List, [], ◌∷◌, length}
use Rattle.std.proofs.Common.{Ok, refl, ap, subst, arith}
use Rattle.xf_lex.specs.declared.token.Token.{Token}
use Rattle.xf_grammar.specs.Tokens.{Terminal, the_end, terminal_at, is_kind, open_brace}
use Rattle.xf_grammar.specs.Reading.{Out}
use Rattle.xf_grammar.specs.Grammar.{read, Spaced, tokens_of, written, AllStand}
use Rattle.xf_grammar.specs.Tree.{Shape, bare, regions, Format, Nodes, Tree, Block, closes, From, limited, ended}
use Rattle.xf_grammar.specs.Tree.{block_at, others_at, bodies_at, head_at, node_at, nodes_at, begins, Fitting}
use Rattle.xf_grammar.proofs.Basics.{ends_at, bind_ok, ok_is}
use Rattle.xf_grammar.proofs.Kept.{confined_all}
use Rattle.xf_grammar.proofs.Fuel.{same_chain, fuel}
use Rattle.xf_grammar.proofs.Found.{found}
use Rattle.xf_grammar.proofs.TreesFound.{limited_few}
use Rattle.xf_grammar.proofs.TreesKept.{On, Inner, One, TreeKeeps, tree_keeps, read_has, block_has, bodies_have}
use Rattle.xf_grammar.proofs.TreesKept.{nodes_have, not_end}

same_if : {A D : Type 0} (b : Bool) (r s y n : Out A D) → (b ≡ true → r ≡ y) → (b ≡ false → s ≡ n)
    → cond b r s ≡ cond b y n
same_if true r s y n e g = e refl
same_if false r s y n e g = g refl

-- where reading ends
abbrev Ends : {B D : Type 0} → List Token → ℕ → Out B D → Type 0
Ends all at r = On all at (λ next x. Unit {0}) r

abbrev Keeping : {A T K D X M R V P S : Type 0} → Format A T K D X M R V P S → List Token → Type 0
Keeping F all = TreeKeeps F all (λ at h. Unit {0}) (λ p. Unit {0})

ending : {B D : Type 0} (all : List Token) (at : ℕ) (Q : ℕ → B → Type 0) (r : Out B D) (x : B × ℕ) → On all at Q r
    → r ≡ Ok x → (at ≤ x.1) × (x.1 ≤ length all)
ending all at Q r x o e = let z = subst (On all at Q) e o in (z.0, z.1.0)

keeping : {A T K D X M R V P S : Type 0} (F : Format A T K D X M R V P S) (all : List Token)
    → ((x : X) (h : A) → F.language.passes x the_end h ≡ false) → Keeping F all
keeping F all ended =
    tree_keeps F all _ _ (record {
      ended = ended;
      confined = confined_all F.language;
      on = λ at h lt p. tt;
      held = λ at h lt p. tt;
      added = λ at k h o e p. tt;
    }) (λ at. tt) (λ at h le p. tt)

-- ---- blocks

-- two readings of operations are the same from behind a number on
abbrev SameInner : {V P D : Type 0} → List Token → ℕ → (V → ℕ → From (Nodes P) D) → (V → ℕ → From (Nodes P) D) → Type 0
SameInner {V} all from inner inside =
    (l : V) (depth count at : ℕ) → from < at → at ≤ length all → inner l depth count at ≡ inside l depth count at

abbrev SameOne : {A P D : Type 0} → ℕ → (A → From (A × Block P) D) → (A → From (A × Block P) D) → Type 0
SameOne {A} from one other = (h : A) (count at : ℕ) → from ≤ at → one h count at ≡ other h count at

others_same : {A P D : Type 0} (all : List Token) (one other : A → From (A × Block P) D) (from : ℕ)
    → SameOne from one other → One all (λ at h. Unit {0}) (λ p. Unit {0}) other
    → (o : ℕ) (test : Terminal → A → Bool) (h : A) (count at : ℕ) → from ≤ at
    → others_at o test all one h count at ≡ others_at o test all other h count at
others_same all one other from same s zero test h count at le = refl
others_same all one other from same s (suc o) test h count at le =
    same_if (test (terminal_at all at) h) _ _ _ _
    (λ e. same_chain (one h count (at + 1)) (other h count (at + 1)) _ _ (same h count (at + 1) (omega (arith, le)))
    (λ x ex.
    let z = (ending all (at + 1) _ _ x (s h count (at + 1) tt) ex).0 in
    same_chain (others_at o test all one x.0.0.0 x.0.1 x.1) (others_at o test all other x.0.0.0 x.0.1 x.1) _ _
    (others_same all one other from same s o test x.0.0.0 x.0.1 x.1 (omega (arith, le, z))) (λ r er. refl)))
    (λ e. refl)

bodies_same : {A P D X : Type 0} (all : List Token) (one other : A → From (A × Block P) D) (from : ℕ)
    → SameOne from one other → One all (λ at h. Unit {0}) (λ p. Unit {0}) other
    → (passes : X → Terminal → A → Bool) (s : Shape X) (h : A) (count at : ℕ) → from ≤ at
    → bodies_at passes s all one h count at ≡ bodies_at passes s all other h count at
bodies_same all one other from same s passes bare h count at le = refl
bodies_same all one other from same s passes (regions gap x b o) h count at le =
    same_chain _ _ _ _ (same h count at le) (λ y ey.
    let z = (ending all at _ _ y (s h count at tt) ey).0 in
    same_chain _ _ _
    _ (others_same all one other from same s o _ y.0.0.0 y.0.1 y.1 (omega (arith, le, z))) (λ r er. refl))

begun_goes : (ps : List Spaced) (all : List Token) (at next : ℕ) → AllStand all at (tokens_of ps) next
    → begins ps ≡ true → at < next
begun_goes [] all at next s e = absurd cc
begun_goes (p ∷ ps) all at next s e = let r = ends_at _ all _ next s.1 in omega (arith, r)

module _ {A T K D X M R V P S : Type 0} (F : Format A T K D X M R V P S) (all : List Token) (Says : A → T → Type 0)
    (said : P → S) (w : Fitting F all Says said) where
  module _ (c : Keeping F all) where
    -- a head has a token
    head_goes : (n : ℕ) → length all ≤ n → (l : V) (at : ℕ) → at ≤ length all → (h : (R × A) × ℕ)
        → head_at F n all l at ≡ Ok h → (at < h.1) × (h.1 ≤ length all)
    head_goes n ln l at le h e =
        let a = bind_ok _ _ _ e in
        let s = bind_ok _ _ _ a.1.1 in
        let p = found F.language all Says w.lawful n ln (F.head l) F.empty a.0.0 at a.0.1 F.nothing w.said_empty
        a.1.0 in
        let g = begun_goes (written F.language (F.head l) p.0) all at a.0.1 p.1.0
        (w.head_opens l p.0 (terminal_at all a.0.1) p.1.1.0) in
        let z = ending all at _ _ a.0 (read_has F.language all _ c.ended (F.head l) (c.head l) n F.empty at le tt)
        a.1.0 in
        let y = ending all a.0.1 _ _ s.0
        (read_has F.language all _ c.ended (F.slots (F.row (F.parts a.0.0))) (c.slots (F.row (F.parts a.0.0))) n
        a.0.0 a.0.1 z.1 tt) s.1.0 in
        let same : s.0.1 ≡ h.1 = ap (λ h. h.1) (ok_is s.1.1) in
        let y0 = y.0 in
        let y1 = y.1 in
        (omega (arith, g, y0, same), omega (arith, y1, same))

    -- an operation has a token
    one_goes : (n : ℕ) → length all ≤ n → (inner : V → ℕ → From (Nodes P) D) → Inner all (λ p. Unit {0}) inner
        → (l : V) (depth count at : ℕ) → at ≤ length all → (x : (Tree P × ℕ) × ℕ)
        → node_at F n all inner l depth count at ≡ Ok x → (at < x.1) × (x.1 ≤ length all)
    one_goes n ln inner s l depth count at le x e =
        let h = bind_ok _ _ _ e in
        let g = head_goes n ln l at le h.0
        (limited_few F.most_nodes F.due_many count at (head_at F n all l at) h.0 h.1.0).1 in
        let r = h.0.0.0 in
        let b = bind_ok _ _ _ h.1.1 in
        let t = bind_ok _ _ _ b.1.1 in
        let y = ending all h.0.1 _ _ b.0
        (bodies_have all _ _ c.on F.language.passes c.ended (F.shape r) (block_at F n all inner r depth)
        (λ a d i p. block_has F all _ _ c n inner s r depth a d i p) h.0.0.1 (count + 1) h.0.1 g.1 tt) b.1.0 in
        let z = ending all b.0.1 _ _ t.0
        (read_has F.language all _ c.ended (F.tail r) (c.tail r) n b.0.0.0.0 b.0.1 y.1 tt) t.1.0 in
        let same : t.0.1 ≡ x.1 = ap (λ x. x.1) (ok_is t.1.1) in
        let g0 = g.0 in
        let y0 = y.0 in
        let z0 = z.0 in
        let z1 = z.1 in
        (omega (arith, g0, y0, z0, same), omega (arith, z1, same))

  module _ (n m : ℕ) (ln : length all ≤ n) (lm : length all ≤ m) where
    module _ (c : Keeping F all) where
      block_same : (inner inside : V → ℕ → From (Nodes P) D) (from : ℕ) → SameInner all from inner inside
          → (r : R) (depth : ℕ) (h : A) (count at : ℕ) → from ≤ at
          → block_at F n all inner r depth h count at ≡ block_at F m all inside r depth h count at
      block_same inner inside from same r depth h count at le =
          same_if (is_kind open_brace (terminal_at all at)) _ _ _ _
          (λ e. same_if (nat_lt depth F.most_open) _ _ _ _
          (λ d. same_chain (read F.language n (F.header r) all h (at + 1))
          (read F.language m (F.header r) all h (at + 1)) _ _
          (fuel F.language n m all ln lm (F.header r) h (at + 1)) (λ k ek.
          let z = ending all (at + 1) _ _ k (read_has F.language all _ c.ended (F.header r) (c.header r) m h (at + 1)
          (let lt = not_end (is_kind open_brace) all at refl e in omega (arith, lt)) tt) ek in
          let z0 = z.0 in
          same_chain (inner (F.inside r) (depth + 1) count k.1) (inside (F.inside r) (depth + 1) count k.1) _ _
          (same (F.inside r) (depth + 1) count k.1 (omega (arith, le, z0)) z.1) (λ x ex. refl)))
          (λ d. refl))
          (λ e. refl)

      -- ---- operations

      head_same : (l : V) (at : ℕ) → head_at F n all l at ≡ head_at F m all l at
      head_same l at =
          same_chain (read F.language n (F.head l) all F.empty at) (read F.language m (F.head l) all F.empty at) _ _
          (fuel F.language n m all ln lm (F.head l) F.empty at) (λ h eh.
          same_chain (read F.language n (F.slots (F.row (F.parts h.0))) all h.0 h.1)
          (read F.language m (F.slots (F.row (F.parts h.0))) all h.0 h.1) _ _
          (fuel F.language n m all ln lm (F.slots (F.row (F.parts h.0))) h.0 h.1) (λ s es. refl))

      one_same : (inner inside : V → ℕ → From (Nodes P) D) → Inner all (λ p. Unit {0}) inside
          → (l : V) (depth count at : ℕ) → at ≤ length all → SameInner all at inner inside
          → node_at F n all inner l depth count at ≡ node_at F m all inside l depth count at
      one_same inner inside s l depth count at le same =
          same_chain (limited F.most_nodes F.due_many count at (head_at F n all l at))
          (limited F.most_nodes F.due_many count at (head_at F m all l at)) _ _
          (ap (limited F.most_nodes F.due_many count at) (head_same l at)) (λ h eh.
          let g = head_goes c m lm l at le h
          (limited_few F.most_nodes F.due_many count at (head_at F m all l at) h eh).1 in
          let g0 = g.0 in
          same_chain (bodies_at F.language.passes (F.shape h.0.0) all (block_at F n all inner h.0.0 depth) h.0.1
          (count + 1) h.1) (bodies_at F.language.passes (F.shape h.0.0) all (block_at F m all inside h.0.0 depth)
          h.0.1 (count + 1) h.1) _ _
          (bodies_same all (block_at F n all inner h.0.0 depth) (block_at F m all inside h.0.0 depth) at
          (λ a d i. block_same inner inside at same h.0.0 depth a d i)
          (λ a d i p. block_has F all _ _ c m inside s h.0.0 depth a d i p) F.language.passes (F.shape h.0.0) h.0.1
          (count + 1) h.1 (omega (arith, g0))) (λ bs ebs.
          same_chain (read F.language n (F.tail h.0.0) all bs.0.0.0 bs.1)
          (read F.language m (F.tail h.0.0) all bs.0.0.0 bs.1) _ _
          (fuel F.language n m all ln lm (F.tail h.0.0) bs.0.0.0 bs.1) (λ t et. refl)))

      all_same : (f g : ℕ) (l : V) (depth count at : ℕ) → at ≤ length all → length all < f + at → length all < g + at
          → nodes_at F n f all l depth count at ≡ nodes_at F m g all l depth count at
      all_same zero g l depth count at le lf lg = absurd (omega (arith, le, lf))
      all_same (suc f) zero l depth count at le lf lg = absurd (omega (arith, le, lg))
      all_same (suc f) (suc g) l depth count at le lf lg =
          same_if (closes (terminal_at all at)) _ _ _ _ (λ e. refl)
          (λ e. same_chain (node_at F n all (nodes_at F n f all) l depth count at)
          (node_at F m all (nodes_at F m g all) l depth count at) _ _
          (one_same (nodes_at F n f all) _ (nodes_have F all _ _ c m g) l depth count at le
          (λ k d j i lt end. all_same f g k d j i end (omega (arith, lf, lt)) (omega (arith, lg, lt)))) (λ x ex.
          let z = one_goes c m lm (nodes_at F m g all) (nodes_have F all _ _ c m g) l depth count at le x ex in
          let z0 = z.0 in
          same_chain (nodes_at F n f all (F.behind l) depth x.0.1 x.1) (nodes_at F m g all (F.behind l) depth x.0.1 x.1)
          _ _ (all_same f g (F.behind l) depth x.0.1 x.1 z.1 (omega (arith, lf, z0)) (omega (arith, lg, z0)))
          (λ r er. refl)))

    pub nodes_same : (f g : ℕ) (l : V) (depth count at : ℕ) → at ≤ length all → length all < f + at
        → length all < g + at → nodes_at F n f all l depth count at ≡ nodes_at F m g all l depth count at
    nodes_same f g l depth count at le lf lg = all_same (keeping F all w.lawful.ended) f g l depth count at le lf lg

    pub node_same : (f g : ℕ) (l : V) (depth count at : ℕ) → at ≤ length all → length all ≤ f + at → length all ≤ g + at
        → node_at F n all (nodes_at F n f all) l depth count at ≡ node_at F m all (nodes_at F m g all) l depth count at
    node_same f g l depth count at le lf lg =
        let c = keeping F all w.lawful.ended in
        one_same c _ _ (nodes_have F all _ _ c m g) l depth count at le
        (λ k d j i lt end. all_same c f g k d j i end (omega (arith, lf, lt)) (omega (arith, lg, lt)))
