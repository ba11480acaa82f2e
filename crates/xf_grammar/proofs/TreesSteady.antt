-- Reading a tree looks no further than it says: once.
use Rattle.std.proofs.Common.{ℕ, zero, suc, ◌+◌, Bool, List, length, arith}
use Rattle.xf_lex.specs.declared.token.Token.{Token}
use Rattle.xf_grammar.specs.Tokens.{Terminal, is_kind, open_brace, close_brace}
use Rattle.xf_grammar.specs.Lookahead.{BoundedLookahead}
use Rattle.xf_grammar.specs.Grammar.{Grammar, Language, read}
use Rattle.xf_grammar.specs.Tree.{Shape, bare, regions, Format, Nodes, Block, closes, lacks, From, limited, ended, shut}
use Rattle.xf_grammar.specs.Tree.{block_at, others_at, bodies_at, head_at, node_at, nodes_at}
use Rattle.xf_grammar.proofs.Lookahead.{done, stops, later, ways, ask, chain, too_many_steady, steady}
use Rattle.xf_grammar.proofs.Fuel.{steady_at_length}

-- a number of turns for each text with which grammars look no further than they say
abbrev Steady : {A T K D X M : Type 0} → Language A T K D X M → (List Token → ℕ) → Type 0
Steady {A} {T} {K} {D} {X} {M} L n =
    (g : Grammar K D X M) (all : List Token) (h : A) (at : ℕ) → BoundedLookahead all at (λ ts. read L (n ts) g ts h at)

-- a reading that looks no further than it says, wherever it begins
abbrev Goes : {B D : Type 0} → List Token → (List Token → From B D) → Type 0
Goes all r = (count at : ℕ) → BoundedLookahead all at (λ ts. r ts count at)

abbrev Inner : {V P D : Type 0} → List Token → (List Token → V → ℕ → From (Nodes P) D) → Type 0
Inner {V} all inner = (l : V) (depth : ℕ) → Goes all (λ ts. inner ts l depth)

ended_steady : {P D : Type 0} (most : ℕ) (full : D) (lacking : Bool) (ns : Nodes P) (count : ℕ) (all : List Token)
    (at : ℕ) → BoundedLookahead all at (λ ts. ended most full lacking ns count at)
ended_steady most full lacking ns count all at =
    ways lacking all at _ _ (ways _ all at _ _ (done all at _ _ (omega arith))
    (stops all at at full (omega arith))) (done all at _ _ (omega arith))

others_steady : {A P D : Type 0} (o : ℕ) (test : Terminal → A → Bool) (all : List Token)
    (one : List Token → A → From (A × Block P) D) → ((h : A) → Goes all (λ ts. one ts h)) → (h : A)
    → Goes all (λ ts. others_at o test ts (one ts) h)
others_steady zero test all one p h count at = done all at _ at (omega arith)
others_steady (suc o) test all one p h count at =
    ask (λ x. test x h) all at _ _ (later all at (at + 1) _ (omega arith)
    (chain all (at + 1) _ _ (p h count (at + 1)) (λ x.
    chain all x.1 _ _ (others_steady o test all one p x.0.0.0 x.0.1 x.1) (λ r. done all r.1 _ r.1 (omega arith)))))
    (done all at _ at (omega arith))

bodies_steady : {A P D X : Type 0} (passes : X → Terminal → A → Bool) (s : Shape X) (all : List Token)
    (one : List Token → A → From (A × Block P) D) → ((h : A) → Goes all (λ ts. one ts h)) → (h : A)
    → Goes all (λ ts. bodies_at passes s ts (one ts) h)
bodies_steady passes bare all one p h count at = done all at _ at (omega arith)
bodies_steady passes (regions gap x t o) all one p h count at =
    chain all at _ _ (p h count at) (λ b.
    chain all b.1 _ _ (others_steady o _ all one p b.0.0.0 b.0.1 b.1) (λ r. done all r.1 _ r.1 (omega arith)))

module _ {A T K D X M R V P S : Type 0} (F : Format A T K D X M R V P S) (n : List Token → ℕ) (s : Steady F.language n)
  where
    shut_steady : (p : P) (ns : Nodes P) (count : ℕ) (all : List Token) (at : ℕ)
        → BoundedLookahead all at (λ ts. shut F ts p ns count at)
    shut_steady p ns count all at =
        ask (is_kind close_brace) all at _ _ (ended_steady F.most_nodes F.due_many (lacks F p ns) ns count all at)
        (stops all at at F.due_close (omega arith))

    block_steady : (all : List Token) (inner : List Token → V → ℕ → From (Nodes P) D) → Inner all inner
        → (r : R) (depth : ℕ) (h : A) → Goes all (λ ts. block_at F (n ts) ts (inner ts) r depth h)
    block_steady all inner p r depth h count at =
        ask (is_kind open_brace) all at _ _ (ways _ all at _ _
        (later all at (at + 1) _ (omega arith) (chain all (at + 1) _ _ (s (F.header r) all h (at + 1)) (λ k.
        chain all k.1 _ _ (p (F.inside r) (depth + 1) count k.1) (λ x.
        chain all x.1 _ _ (shut_steady (F.parts k.0) x.0.0 x.0.1 all x.1) (λ b. done all b.1 _ b.1 (omega arith))))))
        (stops all at at F.due_nest (omega arith))) (stops all at at _ (omega arith))

    head_steady : (all : List Token) (l : V) (at : ℕ) → BoundedLookahead all at (λ ts. head_at F (n ts) ts l at)
    head_steady all l at =
        chain all at _ _ (s (F.head l) all F.empty at) (λ h.
        chain all h.1 _ _ (s (F.slots (F.row (F.parts h.0))) all h.0 h.1) (λ v. done all v.1 _ v.1 (omega arith)))

    limited_steady : (all : List Token) (l : V) (count at : ℕ)
        → BoundedLookahead all at (λ ts. limited F.most_nodes F.due_many count at (head_at F (n ts) ts l at))
    limited_steady all l count at =
        ways _ all at _ _ (head_steady all l at) (too_many_steady all at F.due_many _ (λ ts. head_steady ts l at))

    one_steady : (all : List Token) (inner : List Token → V → ℕ → From (Nodes P) D) → Inner all inner
        → (l : V) (depth : ℕ) → Goes all (λ ts. node_at F (n ts) ts (inner ts) l depth)
    one_steady all inner p l depth count at =
        chain all at _ _ (limited_steady all l count at) (λ h.
        chain all h.1 _ _ (bodies_steady F.language.passes _ all _ (λ a. block_steady all inner p h.0.0 depth a) h.0.1
        (count + 1) h.1) (λ bs.
        chain all bs.1 _ _ (s (F.tail h.0.0) all bs.0.0.0 bs.1) (λ t. done all t.1 _ t.1 (omega arith))))

    all_steady : (f : ℕ) (all : List Token) (l : V) (depth : ℕ) → Goes all (λ ts. nodes_at F (n ts) f ts l depth)
    all_steady zero all l depth count at = stops all at at F.due_close (omega arith)
    all_steady (suc f) all l depth count at =
        ask closes all at _ _ (done all at _ at (omega arith))
        (chain all at _ _ (one_steady all _ (λ k d. all_steady f all k d) l depth count at)
        (λ x.
        chain all x.1 _ _ (all_steady f all _ depth x.0.1 x.1)
        (λ rest. done all rest.1 _ rest.1 (omega arith))))

-- ---- with a number of turns, and with as many as there are tokens

pub nodes_steady : {A T K D X M R V P S : Type 0} (F : Format A T K D X M R V P S) (n f : ℕ) (all : List Token) (l : V)
    (depth count at : ℕ) → BoundedLookahead all at (λ ts. nodes_at F n f ts l depth count at)
nodes_steady F n f all l depth count at =
    all_steady F (λ ts. n) (λ g all h at. steady F.language n g all h at) f all l depth count at

pub node_steady : {A T K D X M R V P S : Type 0} (F : Format A T K D X M R V P S) (n f : ℕ) (all : List Token) (l : V)
    (depth count at : ℕ) → BoundedLookahead all at (λ ts. node_at F n ts (nodes_at F n f ts) l depth count at)
node_steady F n f all l depth count at =
    one_steady F _ (λ g all h at. steady F.language n g all h at) all (λ ts. nodes_at F n f ts)
    (λ k d c i. nodes_steady F n f all k d c i) l depth count at

pub nodes_steady_at_length : {A T K D X M R V P S : Type 0} (F : Format A T K D X M R V P S) (f : ℕ) (all : List Token)
    (l : V) (depth count at : ℕ) → BoundedLookahead all at (λ ts. nodes_at F (length ts) f ts l depth count at)
nodes_steady_at_length F f all l depth count at =
    all_steady F length (λ g all h at. steady_at_length F.language g all h at) f all l depth count at

pub node_steady_at_length : {A T K D X M R V P S : Type 0} (F : Format A T K D X M R V P S) (f : ℕ) (all : List Token)
    (l : V) (depth count at : ℕ)
    → BoundedLookahead all at (λ ts. node_at F (length ts) ts (nodes_at F (length ts) f ts) l depth count at)
node_steady_at_length F f all l depth count at =
    one_steady F length (λ g all h at. steady_at_length F.language g all h at) all (λ ts. nodes_at F (length ts) f ts)
    (λ k d c i. nodes_steady_at_length F f all k d c i) l depth count at
