-- What reading keeps of the operations of a tree: once.
use Rattle.std.proofs.Common.{◌≡◌, ℕ, zero, suc, ◌+◌, ◌-◌, ◌<◌, ◌≤◌, Bool, true, false, nat_lt, List, length, Ok, Err}
use Rattle.std.proofs.Common.{refl, ap, subst, arith}
use Rattle.std.specs.Prelude.{not}
use Rattle.xf_lex.specs.declared.token.Token.{Token}
use Rattle.xf_grammar.specs.Tokens.{Terminal, the_end, terminal, terminal_at, is_kind, open_brace, close_brace}
use Rattle.xf_grammar.specs.Reading.{Out}
use Rattle.xf_grammar.specs.Lookahead.{reach}
use Rattle.xf_grammar.specs.Grammar.{Grammar, Language, read, is_token}
use Rattle.xf_grammar.specs.Tree.{Shape, bare, regions, Format, Nodes, Bodies, Tree, Block, closes, lacks, From}
use Rattle.xf_grammar.specs.Tree.{limited, ended, shut, block_at, others_at, bodies_at, head_at, node_at, nodes_at}
pub use Rattle.xf_grammar.specs.Holding.{NodesHave, BodiesHave}
use Rattle.xf_grammar.proofs.Basics.{before_end}
use Rattle.xf_grammar.proofs.Lookahead.{steady}
use Rattle.xf_grammar.proofs.Kept.{Keeps, Has, has_either, has_behind, too_many_has, confined_all, kept_all}

abbrev pub TreeHas : {P : Type 0} → ℕ → (P → Type 0) → Tree P → Type 0
TreeHas n Q t = (t.first < n) × (Q t.parts × BodiesHave n Q t.bodies)

abbrev pub BlockHas : {P : Type 0} → ℕ → (P → Type 0) → Block P → Type 0
BlockHas n Q b = NodesHave n Q b.nodes × (b.close < n)

-- a grammar keeps a property of what is read
abbrev pub Holds : {A T K D X M : Type 0} → Language A T K D X M → List Token → (ℕ → A → Type 0) → Grammar K D X M
    → Type 0
Holds {A = A} L all W g = (n : ℕ) (h : A) (at : ℕ) → W at h → Has W (read L n g all h at)

-- a property that each grammar of a format keeps, by which what is kept of an operation has one
pub record TreeKeeps {A T K D X M R V P S : Type 0} (F : Format A T K D X M R V P S) (all : List Token)
    (W : ℕ → A → Type 0) (Q : P → Type 0) : Type 0 where
  pub ended : (x : X) (h : A) → F.language.passes x the_end h ≡ false
  pub on : (at : ℕ) (h : A) → at < length all → W at h → W (at + 1) h
  pub head : (l : V) → Holds F.language all W (F.head l)
  pub slots : (r : R) → Holds F.language all W (F.slots r)
  pub header : (r : R) → Holds F.language all W (F.header r)
  pub tail : (r : R) → Holds F.language all W (F.tail r)
  pub start : (at : ℕ) → W at F.empty
  pub parts : (at : ℕ) (h : A) → at ≤ length all → W at h → Q (F.parts h)

-- one that every grammar keeps
pub tree_keeps : {A T K D X M R V P S : Type 0} (F : Format A T K D X M R V P S) (all : List Token) (W : ℕ → A → Type 0)
    (Q : P → Type 0) → Keeps F.language all (λ k. true) (λ m. true) W → ((at : ℕ) → W at F.empty)
    → ((at : ℕ) (h : A) → at ≤ length all → W at h → Q (F.parts h)) → TreeKeeps F all W Q
tree_keeps F all W Q c start parts = record {
  ended = c.ended;
  on = c.on;
  head = λ l n h at p. kept_all F.language all W c n (F.head l) h at p;
  slots = λ r n h at p. kept_all F.language all W c n (F.slots r) h at p;
  header = λ r n h at p. kept_all F.language all W c n (F.header r) h at p;
  tail = λ r n h at p. kept_all F.language all W c n (F.tail r) h at p;
  start = start;
  parts = parts;
}

-- two such properties
both_have : {A D : Type 0} (W U : ℕ → A → Type 0) (o : Out A D) → Has W o → Has U o → Has (λ n h. W n h × U n h) o
both_have W U (Ok x) p q = (p, q)
both_have W U (Err e) p q = tt

both_hold : {A T K D X M : Type 0} (L : Language A T K D X M) (all : List Token) (W U : ℕ → A → Type 0)
    (g : Grammar K D X M) → Holds L all W g → Holds L all U g → Holds L all (λ n h. W n h × U n h) g
both_hold L all W U g a b n h at p = both_have W U _ (a n h at p.0) (b n h at p.1)

pub both_keep : {A T K D X M R V P S : Type 0} (F : Format A T K D X M R V P S) (all : List Token)
    (W U : ℕ → A → Type 0) (Q O : P → Type 0) → TreeKeeps F all W Q → TreeKeeps F all U O
    → TreeKeeps F all (λ n h. W n h × U n h) (λ p. Q p × O p)
both_keep F all W U Q O a b = record {
  ended = a.ended;
  on = λ at h lt p. (a.on at h lt p.0, b.on at h lt p.1);
  head = λ l. both_hold F.language all W U (F.head l) (a.head l) (b.head l);
  slots = λ r. both_hold F.language all W U (F.slots r) (a.slots r) (b.slots r);
  header = λ r. both_hold F.language all W U (F.header r) (a.header r) (b.header r);
  tail = λ r. both_hold F.language all W U (F.tail r) (a.tail r) (b.tail r);
  start = λ at. (a.start at, b.start at);
  parts = λ at h le p. (a.parts at h le p.0, b.parts at h le p.1);
}

-- the number that a reading comes to is one of the text
inside_keeps : {A T K D X M : Type 0} (L : Language A T K D X M) (all : List Token)
    → ((x : X) (h : A) → L.passes x the_end h ≡ false) → Keeps L all (λ k. true) (λ m. true) (λ at h. at ≤ length all)
inside_keeps L all ended = record {
  ended = ended;
  confined = confined_all L;
  on = λ at h lt p. omega (arith, lt);
  held = λ at h lt p. omega (arith, lt);
  added = λ at k h o e p. p;
}

-- the number goes on alone
goes : {A : Type 0} (all : List Token) (W : ℕ → A → Type 0)
    → ((at : ℕ) (h : A) → at < length all → W at h → W (at + 1) h) → (d at : ℕ) (h : A) → d + at ≤ length all → W at h
    → W (d + at) h
goes all W on zero at h le p = subst (λ i. W i h) (omega arith) p
goes all W on (suc d) at h le p =
    subst (λ i. W i h) (omega arith) (on _ h (omega (arith, le)) (goes all W on d at h (omega (arith, le)) p))

reaches : {A : Type 0} (all : List Token) (W : ℕ → A → Type 0)
    → ((at : ℕ) (h : A) → at < length all → W at h → W (at + 1) h) → (at next : ℕ) (h : A) → at ≤ next
    → next ≤ length all → W at h → W next h
reaches all W on at next h le end p =
    let e : next - at + at ≡ next = omega (arith, le) in
    subst (λ i. W i h) e (goes all W on _ at h (omega (arith, e, end)) p)

-- an answer has a property, and its number is one of the text, from another on
abbrev pub On : {B D : Type 0} → List Token → ℕ → (ℕ → B → Type 0) → Out B D → Type 0
On all at Q r = Has (λ next x. (at ≤ next) × ((next ≤ length all) × Q next x)) r

forward : {A D : Type 0} (all : List Token) (at : ℕ) (W : ℕ → A → Type 0) (o : Out A D) → at ≤ reach o
    → Has (λ n h. n ≤ length all) o → Has W o → On all at W o
forward all at W (Ok x) le n p = (le, (n, p))
forward all at W (Err e) le n p = tt

pub read_has : {A T K D X M : Type 0} (L : Language A T K D X M) (all : List Token) (W : ℕ → A → Type 0)
    → ((x : X) (h : A) → L.passes x the_end h ≡ false) → (g : Grammar K D X M) → Holds L all W g
    → (n : ℕ) (h : A) (at : ℕ) → at ≤ length all → W at h → On all at W (read L n g all h at)
read_has L all W ended g c n h at le p =
    forward all at W (read L n g all h at) (steady L n g all h at).forward
    (kept_all L all (λ i k. i ≤ length all) (inside_keeps L all ended) n g h at le) (c n h at p)

-- a test that the end does not pass
pub not_end : (q : Terminal → Bool) (all : List Token) (at : ℕ) → q the_end ≡ false → q (terminal_at all at) ≡ true
    → at < length all
not_end q all at n e = before_end all at (told q (terminal_at all at) n e)
  where
    told : (q : Terminal → Bool) (x : Terminal) → q the_end ≡ false → q x ≡ true → is_token x ≡ true
    told q the_end n e = absurd cc
    told q (terminal k bs) n e = refl

-- ---- blocks

ended_has : {P D : Type 0} (all : List Token) (Q : P → Type 0) (most : ℕ) (full : D) (lacking : Bool) (ns : Nodes P)
    (count at : ℕ) → at < length all → NodesHave (length all) Q ns
    → On all at (λ next x. BlockHas (length all) Q x.0) (ended most full lacking ns count at)
ended_has all Q most full true ns count at lt p =
    has_either _ (nat_lt count most) _ _ (λ e. (omega arith, (omega (arith, lt), (p, lt)))) (λ e. tt)
ended_has all Q most full false ns count at lt p = (omega arith, (omega (arith, lt), (p, lt)))

abbrev pub Inner : {V P D : Type 0} → List Token → (P → Type 0) → (V → ℕ → From (Nodes P) D) → Type 0
Inner {V} all Q inner = (l : V) (depth count at : ℕ) → at
    ≤ length all → On all at (λ next x. NodesHave (length all) Q x.0) (inner l depth count at)

-- a block, and blocks, with what was read of their operation
abbrev pub WithBlock : {A P : Type 0} → List Token → (ℕ → A → Type 0) → (P → Type 0) → ℕ → (A × Block P) × ℕ → Type 0
WithBlock all W Q next x = W next x.0.0 × BlockHas (length all) Q x.0.1

abbrev pub WithBodies : {A P : Type 0} → List Token → (ℕ → A → Type 0) → (P → Type 0) → ℕ → (A × Bodies P) × ℕ → Type 0
WithBodies all W Q next x = W next x.0.0 × BodiesHave (length all) Q x.0.1

-- ---- regions

abbrev pub One : {A P D : Type 0} → List Token → (ℕ → A → Type 0) → (P → Type 0) → (A → From (A × Block P) D) → Type 0
One {A} all W Q one = (h : A) (count at : ℕ) → W at h → On all at (WithBlock all W Q) (one h count at)

others_have : {A P D : Type 0} (all : List Token) (W : ℕ → A → Type 0) (Q : P → Type 0)
    → ((at : ℕ) (h : A) → at < length all → W at h → W (at + 1) h) → (o : ℕ) (test : Terminal → A → Bool)
    → ((h : A) → test the_end h ≡ false) → (one : A → From (A × Block P) D) → One all W Q one → (h : A) (count at : ℕ)
    → at ≤ length all → W at h → On all at (WithBodies all W Q) (others_at o test all one h count at)
others_have all W Q on zero test n one s h count at le p = (omega arith, (le, (p, tt)))
others_have all W Q on (suc o) test n one s h count at le p =
    has_either _ (test (terminal_at all at) h) _ _
    (λ e. let lt = not_end (λ y. test y h) all at (n h) e in
    has_behind _ _ (one h count (at + 1)) _ (s h count (at + 1) (on at h lt p)) (λ x u.
    has_behind _ _ (others_at o test all one x.0.0.0 x.0.1 x.1) _
    (others_have all W Q on o test n one s x.0.0.0 x.0.1 x.1 u.1.0 u.1.1.0) (λ r v.
    let u0 = u.0 in let v0 = v.0 in (omega (arith, u0, v0), (v.1.0, (v.1.1.0, (u.1.1.1.0, (u.1.1.1.1, v.1.1.1))))))))
    (λ e. (omega arith, (le, (p, tt))))

pub bodies_have : {A P D X : Type 0} (all : List Token) (W : ℕ → A → Type 0) (Q : P → Type 0)
    → ((at : ℕ) (h : A) → at < length all → W at h → W (at + 1) h) → (passes : X → Terminal → A → Bool)
    → ((x : X) (h : A) → passes x the_end h ≡ false) → (s : Shape X) → (one : A → From (A × Block P) D)
    → One all W Q one → (h : A) (count at : ℕ) → at ≤ length all → W at h
    → On all at (WithBodies all W Q) (bodies_at passes s all one h count at)
bodies_have all W Q on passes n bare one s h count at le p = (omega arith, (le, (p, tt)))
bodies_have all W Q on passes n (regions gap x b o) one s h count at le p =
    has_behind _ _ (one h count at) _ (s h count at p) (λ b u.
    has_behind _ _ (others_at o (passes x) all one b.0.0.0 b.0.1 b.1) _
    (others_have all W Q on o (passes x) (n x) one s b.0.0.0 b.0.1 b.1 u.1.0 u.1.1.0) (λ r v.
    let u0 = u.0 in let v0 = v.0 in (omega (arith, u0, v0), (v.1.0, (v.1.1.0, (u.1.1.1.0, (u.1.1.1.1, v.1.1.1)))))))

pub before_close : (all : List Token) (at : ℕ) → closes (terminal_at all at) ≡ false → at < length all
before_close all at e = not_end (λ y. not (closes y)) all at refl (ap not e)

module _ {A T K D X M R V P S : Type 0} (F : Format A T K D X M R V P S) (all : List Token) (W : ℕ → A → Type 0)
    (Q : P → Type 0) (c : TreeKeeps F all W Q) where
  shut_has : (p : P) (ns : Nodes P) (count at : ℕ) → NodesHave (length all) Q ns
      → On all at (λ next x. BlockHas (length all) Q x.0) (shut F all p ns count at)
  shut_has p ns count at q =
      has_either _ (is_kind close_brace (terminal_at all at)) _ _
      (λ e. ended_has all Q F.most_nodes F.due_many (lacks F p ns) ns count at
      (not_end (is_kind close_brace) all at refl e) q) (λ e. tt)

  pub block_has : (n : ℕ) (inner : V → ℕ → From (Nodes P) D) → Inner all Q inner
      → (r : R) (depth : ℕ) (h : A) (count at : ℕ) → W at h
      → On all at (WithBlock all W Q) (block_at F n all inner r depth h count at)
  block_has n inner s r depth h count at p =
      has_either _ (is_kind open_brace (terminal_at all at)) _ _
      (λ e. let lt = not_end (is_kind open_brace) all at refl e in
      has_either _ (nat_lt depth F.most_open) _ _
      (λ d. has_behind _ _ (read F.language n (F.header r) all h (at + 1)) _
      (read_has F.language all W c.ended (F.header r) (c.header r) n h (at + 1) (omega (arith, lt))
      (c.on at h lt p)) (λ k u.
      has_behind _ _ (inner (F.inside r) (depth + 1) count k.1) _ (s (F.inside r) (depth + 1) count k.1 u.1.0) (λ x v.
      has_behind _ _ (shut F all (F.parts k.0) x.0.0 x.0.1 x.1) _ (shut_has (F.parts k.0) x.0.0 x.0.1 x.1 v.1.1) (λ b z.
      let u0 = u.0 in let v0 = v.0 in let z0 = z.0 in
      let on = reaches all W c.on k.1 b.1 k.0 (omega (arith, v0, z0)) z.1.0 u.1.1 in
      (omega (arith, u0, v0, z0), (z.1.0, (on, z.1.1)))))))
      (λ d. tt))
      (λ e. tt)

  -- ---- operations

  pub head_has : (n : ℕ) (l : V) (count at : ℕ) → at ≤ length all
      → On all at (λ next x. W next x.1) (limited F.most_nodes F.due_many count at (head_at F n all l at))
  head_has n l count at le =
      has_either _ (nat_lt count F.most_nodes) _ _
      (λ e. has_behind _ _ (read F.language n (F.head l) all F.empty at) _
      (read_has F.language all W c.ended (F.head l) (c.head l) n F.empty at le (c.start at)) (λ h u.
      has_behind _ _ (read F.language n (F.slots (F.row (F.parts h.0))) all h.0 h.1) _
      (read_has F.language all W c.ended (F.slots (F.row (F.parts h.0))) (c.slots (F.row (F.parts h.0))) n h.0 h.1
      u.1.0 u.1.1) (λ s v.
      let u0 = u.0 in let v0 = v.0 in (omega (arith, u0, v0), v.1))))
      (λ e. too_many_has _ at F.due_many (head_at F n all l at))

  pub one_has : (n : ℕ) (inner : V → ℕ → From (Nodes P) D) → Inner all Q inner → (l : V) (depth count at : ℕ)
      → at < length all → On all at (λ next x. TreeHas (length all) Q x.0) (node_at F n all inner l depth count at)
  one_has n inner s l depth count at lt =
      has_behind _ _ (limited F.most_nodes F.due_many count at (head_at F n all l at)) _
      (head_has n l count at (omega (arith, lt))) (λ h u.
      has_behind _ _ (bodies_at F.language.passes (F.shape h.0.0) all (block_at F n all inner h.0.0 depth) h.0.1
      (count + 1) h.1) _
      (bodies_have all W Q c.on F.language.passes c.ended (F.shape h.0.0) (block_at F n all inner h.0.0 depth)
      (λ a d i p. block_has n inner s h.0.0 depth a d i p) h.0.1 (count + 1) h.1 u.1.0 u.1.1) (λ bs v.
      has_behind _ _ (read F.language n (F.tail h.0.0) all bs.0.0.0 bs.1) _
      (read_has F.language all W c.ended (F.tail h.0.0) (c.tail h.0.0) n bs.0.0.0 bs.1 v.1.0 v.1.1.0) (λ t z.
      let u0 = u.0 in let v0 = v.0 in let z0 = z.0 in
      (omega (arith, u0, v0, z0), (z.1.0, (lt, (c.parts t.1 t.0 z.1.0 z.1.1, v.1.1.1)))))))

  pub nodes_have : (n f : ℕ) → Inner all Q (nodes_at F n f all)
  nodes_have n zero l depth count at le = tt
  nodes_have n (suc f) l depth count at le =
      has_either _ (closes (terminal_at all at)) _ _ (λ e. (omega arith, (le, tt)))
      (λ e. has_behind _ _ (node_at F n all (nodes_at F n f all) l depth count at) _
      (one_has n _ (nodes_have n f) l depth count at (before_close all at e)) (λ x u.
      has_behind _ _ (nodes_at F n f all (F.behind l) depth x.0.1 x.1) _
      (nodes_have n f (F.behind l) depth x.0.1 x.1 u.1.0) (λ rest v.
      let u0 = u.0 in let v0 = v.0 in (omega (arith, u0, v0), (v.1.0, (u.1.1.0, (u.1.1.1.0, (u.1.1.1.1, v.1.1))))))))

  -- what reading keeps, where it succeeds, and that it ends in the text
  pub nodes_kept : (n f : ℕ) (l : V) (depth count at : ℕ) → at ≤ length all → (ns : Nodes P) (d next : ℕ)
      → nodes_at F n f all l depth count at ≡ Ok ((ns, d), next)
      → (at ≤ next) × ((next ≤ length all) × NodesHave (length all) Q ns)
  nodes_kept n f l depth count at le ns d next e =
      subst (On all at (λ next x. NodesHave (length all) Q x.0)) e (nodes_have n f l depth count at le)

  pub node_kept : (n f : ℕ) (l : V) (depth count at : ℕ) → at < length all → (t : Tree P) (d next : ℕ)
      → node_at F n all (nodes_at F n f all) l depth count at ≡ Ok ((t, d), next)
      → (at ≤ next) × ((next ≤ length all) × TreeHas (length all) Q t)
  node_kept n f l depth count at lt t d next e =
      subst (On all at (λ next x. TreeHas (length all) Q x.0)) e (one_has n _ (nodes_have n f) l depth count at lt)
