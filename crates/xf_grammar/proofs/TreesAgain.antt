-- A tree that is written is read again, as what it says: once, by the shapes of bodies.
use Rattle.std.proofs.Common.{◌≡◌, ℕ, zero, suc, ◌+◌, ◌<◌, ◌≤◌, Bool, true, false, cond, nat_lt, List, [], ◌∷◌, ◌++◌}
use Rattle.std.proofs.Common.{length, Ok, refl, sym, ap, subst, ◌∙◌, arith}
use Rattle.std.specs.Prelude.{not}
use Rattle.std.proofs.lemmas.Bool.{lt-ltb}
use Rattle.xf_lex.specs.declared.token.Token.{Token}
use Rattle.xf_grammar.specs.Tokens.{Terminal, terminal, terminal_at, is_kind, open_brace, close_brace}
use Rattle.xf_grammar.specs.Reading.{◌>>=◌}
use Rattle.xf_grammar.specs.Grammar.{Gap, blank, line, Spaced, spaced, tokens_of, begun, Fill, written, tells, fits}
use Rattle.xf_grammar.specs.Grammar.{AllStand}
use Rattle.xf_grammar.specs.Tree.{Shape, bare, regions, Format, Nodes, no_nodes, Bodies, no_bodies, body, Tree, Block}
use Rattle.xf_grammar.specs.Tree.{tree, block, cons, closes, Counted, From, ended, block_at, others_at, bodies_at}
use Rattle.xf_grammar.specs.Tree.{node_at, nodes_at, Docs, no_docs, doc, Blocks, no_blocks, a_block, head_says, row_of}
use Rattle.xf_grammar.specs.Tree.{slots_say, headers_say, tail_says, between, docs_written, blocks_written, begins}
use Rattle.xf_grammar.specs.Tree.{follow, may_go, may_end, others_of, fewer, docs_fit, blocks_fit, SaidNodes}
use Rattle.xf_grammar.specs.Tree.{nodes_said, bodies_said, docs_say, blocks_say, left_out, operations}
use Rattle.xf_grammar.specs.Tree.{operations_inside, Fitting}
use Rattle.xf_grammar.proofs.Basics.{five_true, six_true, not_true, on_true, on_false, split, first_is, ends_at}
use Rattle.xf_grammar.proofs.Basics.{same_tokens}
use Rattle.xf_grammar.proofs.Again.{again}
use Rattle.xf_grammar.proofs.TreesMargin.{docs_stand}
use Rattle.xf_grammar.proofs.TreesSaid.{same_row, lacks_said, lacks_is, tail_leaves}

-- what is read up to a number, how many operations there are then, and what it says
abbrev pub CountedAgain : {B D U : Type 0} → (B → U) → Counted B D → ℕ → ℕ → U → Type 0
CountedAgain {B} said r count next u = (b : B) × ((r ≡ Ok ((b, count), next)) × (said b ≡ u))

stands_on : (ps : List Spaced) (all : List Token) (at next : ℕ) → AllStand all at (tokens_of ps) next → at ≤ next
stands_on ps all at next s = let e = ends_at _ all at next s in omega (arith, e)

-- the first token of an operation: there is one, and it does not close
opens : (g : Gap) (ps : List Spaced) (all : List Token) (at next : ℕ) → AllStand all at (tokens_of (begun g ps)) next
    → begins ps ≡ true → (at < next) × (closes (terminal_at all at) ≡ false)
opens g [] all at next s e = absurd cc
opens g (p ∷ ps) all at next s e = let r = stands_on ps all _ next s.1 in
    (omega (arith, r), ap closes s.0 ∙ not_true _ e)

-- ---- blocks

ended_again : {P D : Type 0} (most : ℕ) (full : D) (lacking : Bool) (ns : Nodes P) (count at : ℕ)
    → count + cond lacking 1 0 ≤ most
    → ended most full lacking ns count at ≡ Ok ((block ns at, count + cond lacking 1 0), at + 1)
ended_again most full true ns count at le = let b = lt-ltb count most (omega (arith, le)) in rw b refl
ended_again most full false ns count at le = let z : count ≡ count + 0 = omega arith in
    ap (λ c. Ok ((block ns at, c), at + 1)) z

-- ---- regions

-- from the first region on, or behind one, so many others at most
abbrev pub regions_at : {A P D X : Type 0} → (X → Terminal → A → Bool) → Shape X → ℕ → Bool → List Token
    → (A → From (A × Block P) D) → A → From (A × Bodies P) D
regions_at passes bare k first all one h count at = Ok (((h, no_bodies), count), at)
regions_at passes (regions gap x t o) k true all one h count at =
    one h count at >>= λ b. others_at k (passes x) all one b.0.0.0 b.0.1 b.1
    >>= λ r. Ok (((r.0.0.0, body b.0.0.1.nodes b.0.0.1.close r.0.0.1), r.0.1), r.1)
regions_at passes (regions gap x t o) k false all one h count at = others_at k (passes x) all one h count at

pub all_regions : {A P D X : Type 0} (passes : X → Terminal → A → Bool) (s : Shape X) (all : List Token)
    (one : A → From (A × Block P) D) (h : A) (count at : ℕ)
    → bodies_at passes s all one h count at ≡ regions_at passes s (others_of s) true all one h count at
all_regions passes bare all one h count at = refl
all_regions passes (regions gap x t o) all one h count at = refl

-- a test says the same of what was read and of what that says
pub same_go : {A T X : Type 0} (passes : X → Terminal → A → Bool) (allows : X → Terminal → T → Bool) (h : A) (t : T)
    → ((x : X) (y : Terminal) → passes x y h ≡ allows x y t) → (s : Shape X) (k : ℕ) (first : Bool)
    → may_go passes s k first h ≡ may_go allows s k first t
same_go passes allows h t e bare k first = refl
same_go passes allows h t e (regions gap x b o) k true = refl
same_go passes allows h t e (regions gap x b o) zero false = refl
same_go passes allows h t e (regions gap x b o) (suc k) false = e x b

pub same_stop : {A T X : Type 0} (passes : X → Terminal → A → Bool) (allows : X → Terminal → T → Bool) (h : A) (t : T)
    → ((x : X) (y : Terminal) → passes x y h ≡ allows x y t) → (s : Shape X) (k : ℕ) (first : Bool) (y : Terminal)
    → may_end passes s k first y h ≡ may_end allows s k first y t
same_stop passes allows h t e bare k first y = refl
same_stop passes allows h t e (regions gap x b o) k true y = refl
same_stop passes allows h t e (regions gap x b o) zero false y = refl
same_stop passes allows h t e (regions gap x b o) (suc k) false y = ap not (e x y)

regions_end : {A P D X : Type 0} (passes : X → Terminal → A → Bool) (s : Shape X) (k : ℕ) (first : Bool)
    (all : List Token) (one : A → From (A × Block P) D) (h : A) (count at : ℕ)
    → may_end passes s k first (terminal_at all at) h ≡ true
    → regions_at passes s k first all one h count at ≡ Ok (((h, no_bodies), count), at)
regions_end passes bare k first all one h count at g = refl
regions_end passes (regions gap x t o) k true all one h count at g = absurd cc
regions_end passes (regions gap x t o) zero false all one h count at g = refl
regions_end passes (regions gap x t o) (suc k) false all one h count at g = on_false _ _ _ (not_true _ g)

regions_go : {A P D X : Type 0} (passes : X → Terminal → A → Bool) (s : Shape X) (k : ℕ) (first : Bool)
    (all : List Token) (one : A → From (A × Block P) D) (h a z : A) (count at m c j d next : ℕ) (b : Block P)
    (bs : Bodies P) → may_go passes s k first h ≡ true → AllStand all at (tokens_of (between s first)) m
    → one h count m ≡ Ok (((a, b), c), j)
    → regions_at passes s (fewer first k) false all one a c j ≡ Ok (((z, bs), d), next)
    → regions_at passes s k first all one h count at ≡ Ok (((z, body b.nodes b.close bs), d), next)
regions_go passes bare k first all one h a z count at m c j d next b bs g s e r = absurd cc
regions_go passes (regions gap x t o) k true all one h a z count at m c j d next b bs g s e r = rw (s, e, r) refl
regions_go passes (regions gap x t o) zero false all one h a z count at m c j d next b bs g s e r = absurd cc
regions_go passes (regions gap x t o) (suc k) false all one h a z count at m c j d next b bs g s e r =
    let i : passes x (terminal_at all at) h ≡ true = ap (λ y. passes x y h) s.0 ∙ g in
    let e' : one h count (at + 1) ≡ Ok (((a, b), c), j) =
    subst (λ i. one h count i ≡ Ok (((a, b), c), j)) (sym s.1) e in
    rw (i, e', r) refl

-- ---- operations

-- how many operations an operation and those behind it are
count_node : (count inside rest most : ℕ) → count + (1 + (inside + rest)) ≤ most
    → (count < most) × ((count + 1 + inside ≤ most)
    × ((count + 1 + inside + rest ≤ most) × (count + 1 + inside + rest ≡ count + (1 + (inside + rest)))))
count_node count inside rest most le = (omega (arith, le), (omega (arith, le), (omega (arith, le), omega arith)))

-- and those of a block, with the terminator that is left out
count_block : (count inside out rest most : ℕ) → count + (inside + (out + rest)) ≤ most
    → (count + inside ≤ most) × ((count + (inside + out) ≤ most)
    × ((count + (inside + out) + rest ≤ most) × (count + (inside + out) + rest ≡ count + (inside + (out + rest)))))
count_block count inside out rest most le = (omega (arith, le), (omega (arith, le), (omega (arith, le), omega arith)))

module _ {A T K D X M R V P S : Type 0} (F : Format A T K D X M R V P S) (all : List Token) (Says : A → T → Type 0)
    (said : P → S) (w : Fitting F all Says said) (n : ℕ) (room : length all ≤ n) where
  -- a block that is written is read again
  record BlockAgain (r : R) (h : Fill) (ds : Docs) (t : T) (rest : List Spaced) (next : ℕ)
      (got : Counted (A × Block P) D) (count at : ℕ) : Type 0 where
    read : A
    nodes : Block P
    behind : ℕ
    is : got ≡ Ok (((read, nodes), count), behind)
    later : at + 1 ≤ behind
    stand : AllStand all behind (tokens_of rest) next
    header : Says read (tells F.language (F.header r) h t)
    inside : nodes_said said nodes.nodes ≡ docs_say F (F.inside r) ds

  block_again : (inner : V → ℕ → From (Nodes P) D) (r : R) (depth count at next : ℕ) (a : A) (t : T) (u : S) (h : Fill)
      (ds : Docs) → Says a t → F.row_said (F.says t) ≡ r → F.ends_open_said u ≡ F.ends_open_said (F.says t)
      → ((i m : ℕ) → at + 1 ≤ i → m + 1 ≤ next → AllStand all i (tokens_of (docs_written F (F.inside r) 0 ds)) m
      → terminal_at all m ≡ terminal close_brace []
      → CountedAgain (nodes_said said) (inner (F.inside r) (depth + 1) count i)
      (count + operations F (docs_say F (F.inside r) ds)) m (docs_say F (F.inside r) ds)) → (rest : List Spaced)
      → AllStand all at (tokens_of (spaced blank (terminal open_brace [])
      ∷ (begun (line 0) (written F.language (F.header r) h)
      ++ (docs_written F (F.inside r) (0 + 1) ds ++ (spaced (line 0) (terminal close_brace []) ∷ rest))))) next
      → nat_lt depth F.most_open ≡ true
      → fits F.language (F.header r) h (follow (docs_written F (F.inside r) 0 ds) (terminal close_brace [])) t ≡ true
      → count + (operations F (docs_say F (F.inside r) ds) + left_out F u (docs_say F (F.inside r) ds)) ≤ F.most_nodes
      → BlockAgain r h ds t rest next (block_at F n all inner r depth a count at)
      (count + (operations F (docs_say F (F.inside r) ds) + left_out F u (docs_say F (F.inside r) ds))) at
  block_again inner r depth count at next a t u h ds q er eo inside rest s d e le =
      let hs = written F.language (F.header r) h in
      let ss = docs_say F (F.inside r) ds in
      let m1 = split _ _ all _ next s.1 in
      let m2 = split _ _ all m1.0 next m1.1.1 in
      let s1 : AllStand all (at + 1) (tokens_of hs) m1.0 =
      subst (λ ts. AllStand all (at + 1) ts m1.0) (same_tokens _ hs) m1.1.0 in
      let s2 : AllStand all m1.0 (tokens_of (docs_written F (F.inside r) 0 ds)) m2.0 =
      docs_stand F _ (0 + 1) 0 ds all m1.0 m2.0 m2.1.0 in
      let z : terminal_at all m2.0 ≡ terminal close_brace [] = m2.1.1.0 in
      let y = first_is _ all m1.0 m2.0 _ s2 z in
      let p = again F.language all Says w.lawful n room _ h a _ m1.0 _ t q y s1 e in
      let l1 = stands_on hs all _ m1.0 s1 in
      let l2 = stands_on _ all m1.0 m2.0 s2 in
      let l3 = stands_on rest all _ next m2.1.1.1 in
      let b = inside m1.0 m2.0 l1 l3 s2 z in
      let o : is_kind open_brace (terminal_at all at) ≡ true = ap (is_kind open_brace) s.0 in
      let c : is_kind close_brace (terminal_at all m2.0) ≡ true = ap (is_kind close_brace) z in
      let k = lacks_is F all Says said w p.0 _ u b.0 ss p.1.1 (eo ∙ sym (w.header_open r h t er)) b.1.1 in
      let g : ended F.most_nodes F.due_many (lacks_said F u ss) b.0 (count + operations F ss) m2.0 ≡ Ok
      ((block b.0 m2.0, count + operations F ss + left_out F u ss), m2.0 + 1) =
      ended_again F.most_nodes F.due_many _ b.0 _ m2.0 (omega (arith, le)) in
      let sum : count + operations F ss + left_out F u ss ≡ count + (operations F ss + left_out F u ss) = omega arith in
      record {
        read = p.0;
        nodes = block b.0 m2.0;
        behind = m2.0 + 1;
        is = rw (o, d, p.1.0, b.1.0, c, k, g, sum) refl;
        later = omega (arith, l1, l2);
        stand = m2.1.1.1;
        header = p.1.1;
        inside = b.1.1;
      }

  -- blocks that are written are read again
  record BlocksAgain (r : R) (bs : Blocks) (t : T) (got : Counted (A × Bodies P) D) (count next : ℕ) : Type 0 where
    read : A
    bodies : Bodies P
    is : got ≡ Ok (((read, bodies), count), next)
    headers : Says read (headers_say F r bs t)
    inside : bodies_said said bodies ≡ blocks_say F r bs

  -- what an operation says, with all its headers and its tail
  abbrev doc_says : V → Fill → Fill → Blocks → Fill → S
  doc_says l p s bs q = F.says (tail_says F (row_of F l p) bs q (slots_say F l p s))

  -- how many operations there are up to the end of an operation
  abbrev doc_count : V → ℕ → Fill → Fill → Blocks → Fill → ℕ
  doc_count l count p s bs q = count + 1 + operations_inside F (doc_says l p s bs q) (blocks_say F (row_of F l p) bs)

  -- an operation that is written is read again, and those behind it stand and fit
  record NodeAgain (l : V) (depth : ℕ) (p s : Fill) (bs : Blocks) (q : Fill) (rest : Docs) (next : ℕ) (y : Terminal)
      (got : Counted (Tree P) D) (count at : ℕ) : Type 0 where
    tree : Tree P
    behind : ℕ
    is : got ≡ Ok ((tree, doc_count l count p s bs q), behind)
    later : at < behind
    begins : closes (terminal_at all at) ≡ false
    itself : said tree.parts ≡ doc_says l p s bs q
    inside : bodies_said said tree.bodies ≡ blocks_say F (row_of F l p) bs
    stand : AllStand all behind (tokens_of (docs_written F (F.behind l) 0 rest)) next
    fit : docs_fit F (F.behind l) depth rest y ≡ true
    few : doc_count l count p s bs q + operations F (docs_say F (F.behind l) rest) ≤ F.most_nodes
    sum : doc_count l count p s bs q + operations F (docs_say F (F.behind l) rest) ≡ count
        + operations F (docs_say F l (doc p s bs q rest))

  node_again : (inner : V → ℕ → From (Nodes P) D) (l : V) (depth count at next : ℕ) (p s : Fill) (bs : Blocks)
      (q : Fill) (rest : Docs) (y : Terminal) → terminal_at all next ≡ y
      → AllStand all at (tokens_of (docs_written F l 0 (doc p s bs q rest))) next
      → docs_fit F l depth (doc p s bs q rest) y ≡ true
      → count + operations F (docs_say F l (doc p s bs q rest)) ≤ F.most_nodes
      → ((h : A) (i m : ℕ) (z : Terminal) → Says h (slots_say F l p s) → F.row_said (F.says (slots_say F l p s))
      ≡ row_of F l p → F.ends_open_said (doc_says l p s bs q) ≡ F.ends_open_said (F.says (slots_say F l p s))
      → at + 1 ≤ i → m ≤ next → terminal_at all m ≡ z
      → AllStand all i (tokens_of (blocks_written F (row_of F l p) 0 true bs)) m
      → blocks_fit F (row_of F l p) depth (others_of (F.shape (row_of F l p))) true bs z (slots_say F l p s) ≡ true
      → doc_count l count p s bs q ≤ F.most_nodes
      → BlocksAgain (row_of F l p) bs (slots_say F l p s)
      (regions_at F.language.passes (F.shape (row_of F l p))
      (others_of (F.shape (row_of F l p))) true all (block_at F n all inner (row_of F l p) depth) h (count + 1) i)
      (doc_count l count p s bs q) m)
      → NodeAgain l depth p s bs q rest next y (node_at F n all inner l depth count at) count at
  node_again inner l depth count at next p s bs q rest y e st fit few blocks =
      let r = row_of F l p in
      let hs = written F.language (F.head l) p in
      let ss = written F.language (F.slots r) s in
      let xs = blocks_written F r 0 true bs in
      let ts = written F.language (F.tail r) q in
      let ds = docs_written F (F.behind l) 0 rest in
      let b = six_true _ _ _ _ _ _ fit in
      let c = count_node count (operations_inside F (doc_says l p s bs q) (blocks_say F r bs))
      (operations F (docs_say F (F.behind l) rest)) F.most_nodes few in
      let m1 = split _ _ all at next st in
      let m2 = split ss _ all m1.0 next m1.1.1 in
      let m3 = split xs _ all m2.0 next m2.1.1 in
      let m4 = split ts ds all m3.0 next m3.1.1 in
      let y1 = first_is _ all m1.0 next y m1.1.1 e in
      let y2 = first_is _ all m2.0 next y m2.1.1 e in
      let y3 = first_is _ all m3.0 next y m3.1.1 e in
      let y4 = first_is _ all m4.0 next y m4.1.1 e in
      let s1 : AllStand all at (tokens_of hs) m1.0 = subst (λ ts. AllStand all at ts m1.0) (same_tokens _ hs) m1.1.0 in
      let g = opens (line 0) hs all at m1.0 m1.1.0 b.0 in
      let l2 = stands_on ss all m1.0 m2.0 m2.1.0 in
      let l3 = stands_on xs all m2.0 m3.0 m3.1.0 in
      let l4 = stands_on ts all m3.0 m4.0 m4.1.0 in
      let l5 = stands_on ds all m4.0 next m4.1.1 in
      let h = again F.language all Says w.lawful n room (F.head l) p F.empty at m1.0 _ F.nothing w.said_empty y1 s1
      b.1 in
      let er : F.row (F.parts h.0) ≡ r = same_row F all Says said w h.0 (head_says F l p) h.1.1 in
      let v = again F.language all Says w.lawful n room (F.slots r) s h.0 m1.0 m2.0 _ (head_says F l p) h.1.1 y2 m2.1.0
      b.2 in
      let sr = w.slots_row r s (head_says F l p) refl in
      let z = blocks v.0 m2.0 m3.0 _ v.1.1 sr (tail_leaves F all Says said w r bs q (slots_say F l p s) sr)
      (omega (arith, g.0, l2)) (omega (arith, l4, l5)) y3 m3.1.0 b.3 c.1.0 in
      let t = again F.language all Says w.lawful n room (F.tail r) q z.read m3.0 m4.0 _
      (headers_say F r bs (slots_say F l p s)) z.headers y4 m4.1.0 b.4 in
      let o : nat_lt count F.most_nodes ≡ true = lt-ltb count F.most_nodes c.0 in
      let a = all_regions F.language.passes (F.shape r) all (block_at F n all inner r depth) v.0 (count + 1) m2.0
      ∙ z.is in
      record {
        tree = tree at (F.parts t.0) z.bodies;
        behind = m4.0;
        is = rw (o, h.1.0, er, v.1.0, a, t.1.0) refl;
        later = omega (arith, g.0, l2, l3, l4);
        begins = g.1;
        itself = w.kept t.0 (tail_says F r bs q (slots_say F l p s)) t.1.1;
        inside = z.inside;
        stand = m4.1.1;
        fit = b.5;
        few = c.1.1.0;
        sum = c.1.1.1;
      }

  -- ---- trees

  mutual
    docs_are_again : (ds : Docs) (f : ℕ) (l : V) (depth count at next : ℕ) (y : Terminal) → length all < f + at
        → next ≤ length all → terminal_at all next ≡ y → AllStand all at (tokens_of (docs_written F l 0 ds)) next
        → docs_fit F l depth ds y ≡ true → count + operations F (docs_say F l ds) ≤ F.most_nodes
        → CountedAgain (nodes_said said) (nodes_at F n f all l depth count at)
        (count + operations F (docs_say F l ds)) next (docs_say F l ds)
    docs_are_again no_docs zero l depth count at next y lt end e st fit few = absurd (omega (arith, lt, end, st))
    docs_are_again no_docs (suc f) l depth count at next y lt end e st fit few =
        let c : count ≡ count + 0 = omega arith in
        let o = on_true _ _ _ (ap closes (ap (terminal_at all) st ∙ e) ∙ fit) in
        (no_nodes, (o ∙ (ap (λ i. Ok ((no_nodes, count), i)) st ∙ ap (λ c. Ok ((no_nodes, c), next)) c), refl))
    docs_are_again (doc p s bs q rest) zero l depth count at next y lt end e st fit few =
        absurd (let o = stands_on _ all at next st in omega (arith, lt, end, o))
    docs_are_again (doc p s bs q rest) (suc f) l depth count at next y lt end e st fit few =
        let o = node_again (nodes_at F n f all) l depth count at next p s bs q rest y e st fit few
        (λ h i j z says er eo li lj ez sj fj le. blocks_are_again bs f (row_of F l p) depth
        (others_of (F.shape (row_of F l p))) true h (count + 1) i j z (slots_say F l p s) (doc_says l p s bs q) says
        er eo (omega (arith, lt, li)) (omega (arith, end, lj)) ez sj fj le) in
        let v = docs_are_again rest f (F.behind l) depth (doc_count l count p s bs q) o.behind next y
        (let b = o.later in omega (arith, lt, b)) end e o.stand o.fit o.few in
        (cons o.tree v.0, (rw (o.begins, o.is, v.1.0, o.sum) refl, rw (o.itself, o.inside, v.1.1) refl))

    blocks_are_again : (bs : Blocks) (f : ℕ) (r : R) (depth k : ℕ) (first : Bool) (h : A) (count at next : ℕ)
        (y : Terminal) (t : T) (u : S) → Says h t → F.row_said (F.says t) ≡ r
        → F.ends_open_said u ≡ F.ends_open_said (F.says t) → length all < f + at → next ≤ length all
        → terminal_at all next ≡ y → AllStand all at (tokens_of (blocks_written F r 0 first bs)) next
        → blocks_fit F r depth k first bs y t ≡ true → count + operations_inside F u (blocks_say F r bs) ≤ F.most_nodes
        → BlocksAgain r bs t (regions_at F.language.passes (F.shape r) k first all
        (block_at F n all (nodes_at F n f all) r depth) h count at)
        (count + operations_inside F u (blocks_say F r bs)) next
    blocks_are_again no_blocks f r depth k first h count at next y t u q er eo lt end e st fit few =
        let c : count ≡ count + 0 = omega arith in
        let o : terminal_at all at ≡ y = ap (terminal_at all) st ∙ e in
        let z : may_end F.language.passes (F.shape r) k first (terminal_at all at) h ≡ true =
        ap (λ y. may_end F.language.passes (F.shape r) k first y h) o
        ∙ (same_stop F.language.passes F.language.allows h t (λ x y. w.lawful.tested x y h t q) _ k first y ∙ fit) in
        let g = regions_end F.language.passes (F.shape r) k first all (block_at F n all (nodes_at F n f all) r depth) h
        count at z in
        record {
          read = h;
          bodies = no_bodies;
          is = g ∙ (ap (λ i. Ok (((h, no_bodies), count), i)) st ∙ ap (λ c. Ok (((h, no_bodies), c), next)) c);
          headers = q;
          inside = refl;
        }
    blocks_are_again (a_block p ds rest) f r depth k first h count at next y t u q er eo lt end e st fit few =
        let b = five_true _ _ _ _ _ fit in
        let t' = tells F.language (F.header r) p t in
        let xs = blocks_written F r 0 false rest in
        let here = operations F (docs_say F (F.inside r) ds) + left_out F u (docs_say F (F.inside r) ds) in
        let more = operations_inside F u (blocks_say F r rest) in
        let ms = count_block count (operations F (docs_say F (F.inside r) ds))
        (left_out F u (docs_say F (F.inside r) ds)) more F.most_nodes few in
        let m = split _ _ all at next st in
        let l1 = stands_on _ all at m.0 m.1.0 in
        let one = block_again (nodes_at F n f all) r depth count m.0 next h t u p ds q er eo
        (λ i j li lj sj z. docs_are_again ds f (F.inside r) (depth + 1) count i j _ (omega (arith, lt, l1, li))
        (omega (arith, end, lj)) z sj b.3 ms.0) xs m.1.1 b.1 b.2 ms.1.0 in
        let z = blocks_are_again rest f r depth (fewer first k) false one.read (count + here) one.behind next y t' u
        one.header (w.header_row r p t er) (eo ∙ sym (w.header_open r p t er))
        (let o = one.later in omega (arith, lt, l1, o)) end e one.stand b.4 ms.1.1.0 in
        let g : may_go F.language.passes (F.shape r) k first h ≡ true =
        same_go F.language.passes F.language.allows h t (λ x y. w.lawful.tested x y h t q) (F.shape r) k first ∙ b.0 in
        let v = regions_go F.language.passes (F.shape r) k first all (block_at F n all (nodes_at F n f all) r depth) h
        one.read z.read count at m.0 (count + here) one.behind (count + here + more) next one.nodes z.bodies g m.1.0
        one.is z.is in
        record {
          read = z.read;
          bodies = body one.nodes.nodes one.nodes.close z.bodies;
          is = v ∙ ap (λ c. Ok (((z.read, body one.nodes.nodes one.nodes.close z.bodies), c), next)) ms.1.1.1;
          headers = z.headers;
          inside = rw (one.inside, z.inside) refl;
        }

  pub docs_again : (f : ℕ) (l : V) (depth count at next margin : ℕ) (ds : Docs) → length all < f + at
      → next ≤ length all → AllStand all at (tokens_of (docs_written F l margin ds)) next
      → docs_fit F l depth ds (terminal_at all next) ≡ true → count + operations F (docs_say F l ds) ≤ F.most_nodes
      → CountedAgain (nodes_said said) (nodes_at F n f all l depth count at)
      (count + operations F (docs_say F l ds)) next (docs_say F l ds)
  docs_again f l depth count at next margin ds lt end st fit few =
      docs_are_again ds f l depth count at next _ lt end refl (docs_stand F l margin 0 ds all at next st) fit few

  -- an operation alone
  abbrev pub tree_said : Tree P → SaidNodes S
  tree_said t = nodes_said said (cons t no_nodes)

  pub doc_again : (f : ℕ) (l : V) (depth count at next margin : ℕ) (p s : Fill) (bs : Blocks) (q : Fill)
      → length all ≤ f + at → next ≤ length all
      → AllStand all at (tokens_of (docs_written F l margin (doc p s bs q no_docs))) next
      → docs_fit F l depth (doc p s bs q no_docs) (terminal_at all next) ≡ true
      → count + operations F (docs_say F l (doc p s bs q no_docs)) ≤ F.most_nodes
      → CountedAgain tree_said (node_at F n all (nodes_at F n f all) l depth count at)
      (count + operations F (docs_say F l (doc p s bs q no_docs))) next (docs_say F l (doc p s bs q no_docs))
  doc_again f l depth count at next margin p s bs q le end st fit few =
      let o = node_again (nodes_at F n f all) l depth count at next p s bs q no_docs (terminal_at all next) refl
      (docs_stand F l margin 0 (doc p s bs q no_docs) all at next st) fit few
      (λ h i j z says er eo li lj ez sj fj few. blocks_are_again bs f (row_of F l p) depth
      (others_of (F.shape (row_of F l p))) true h (count + 1) i j z (slots_say F l p s) (doc_says l p s bs q) says er eo
      (omega (arith, le, li)) (omega (arith, end, lj)) ez sj fj few) in
      let z : doc_count l count p s bs q ≡ doc_count l count p s bs q + 0 = omega arith in
      let c : doc_count l count p s bs q ≡ count + operations F (docs_say F l (doc p s bs q no_docs)) = z ∙ o.sum in
      let i = ap (λ i. Ok ((o.tree, doc_count l count p s bs q), i)) o.stand in
      (o.tree, (o.is ∙ (i ∙ ap (λ c. Ok ((o.tree, c), next)) c), rw (o.itself, o.inside) refl))
