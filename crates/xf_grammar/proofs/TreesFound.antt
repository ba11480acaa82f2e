-- What is read of a tree is written: once, by the shapes of bodies.
use Rattle.std.proofs.Common.{◌≡◌, ◌⊎◌, inl, inr, ℕ, zero, suc, ◌+◌, ◌<◌, ◌≤◌, Bool, true, false, cond, nat_lt, List}
use Rattle.std.proofs.Common.{[], ◌∷◌, ◌++◌, length, Ok, refl, sym, ap, subst, ◌∙◌, arith}
use Rattle.std.proofs.lemmas.Bool.{ltb-true}
use Rattle.xf_lex.specs.declared.token.Token.{Token}
use Rattle.xf_grammar.specs.Tokens.{Terminal, terminal, terminal_at, is_kind, open_brace, close_brace}
use Rattle.xf_grammar.specs.Reading.{Out, ◌>>=◌}
use Rattle.xf_grammar.specs.Grammar.{Language, read, blank, line, Spaced, spaced, tokens_of, begun, Fill, written}
use Rattle.xf_grammar.specs.Grammar.{tells, fits, AllStand}
use Rattle.xf_grammar.specs.Tree.{Shape, bare, regions, Format, Nodes, no_nodes, Bodies, no_bodies, body, Tree, Block}
use Rattle.xf_grammar.specs.Tree.{tree, block, cons, closes, lacks, From, limited, ended, shut, block_at, bodies_at}
use Rattle.xf_grammar.specs.Tree.{head_at, node_at, nodes_at, Docs, no_docs, doc, Blocks, no_blocks, a_block, head_says}
use Rattle.xf_grammar.specs.Tree.{row_of, slots_say, headers_say, tail_says, between, docs_written, blocks_written}
use Rattle.xf_grammar.specs.Tree.{follow, may_go, may_end, others_of, fewer, docs_fit, blocks_fit, nodes_said}
use Rattle.xf_grammar.specs.Tree.{bodies_said, docs_say, blocks_say, left_out, operations, operations_inside, Parted}
use Rattle.xf_grammar.specs.Tree.{Fitting}
use Rattle.xf_grammar.proofs.Basics.{and_is, not_false, join, first_is, mark_is, same_tokens, bind_ok, either, ok_is}
use Rattle.xf_grammar.proofs.Basics.{not_too_many}
use Rattle.xf_grammar.proofs.Found.{Found, found}
use Rattle.xf_grammar.proofs.TreesMargin.{docs_stand}
use Rattle.xf_grammar.proofs.TreesSaid.{same_row, lacks_is, tail_leaves}
use Rattle.xf_grammar.proofs.TreesAgain.{regions_at, all_regions, same_go, same_stop}

-- operations that were read are those of a text, which stands, fits and says so much
pub record AreWritten {A T K D X M R V P S : Type 0} (F : Format A T K D X M R V P S) (all : List Token) (said : P → S)
    (l : V) (depth count at : ℕ) (ns : Nodes P) (c next : ℕ) (ds : Docs) : Type 0 where
  pub stand : AllStand all at (tokens_of (docs_written F l 0 ds)) next
  pub fit : docs_fit F l depth ds (terminal_at all next) ≡ true
  pub itself : nodes_said said ns ≡ docs_say F l ds
  pub sum : c ≡ count + operations F (docs_say F l ds)
  pub limit : count ≤ F.most_nodes → c ≤ F.most_nodes

abbrev pub DocsFound : {A T K D X M R V P S : Type 0} → Format A T K D X M R V P S → List Token → (P → S) → V → ℕ → ℕ
    → ℕ → Nodes P → ℕ → ℕ → Type 0
DocsFound F all said l depth count at ns c next = (ds : Docs) × AreWritten F all said l depth count at ns c next ds

-- ---- blocks

-- how a block ends
abbrev Shuts : {P : Type 0} → ℕ → Bool → Nodes P → ℕ → ℕ → (Block P × ℕ) × ℕ → Type 0
Shuts most lacking ns count at x = (((block ns at, count + cond lacking 1 0), at + 1) ≡ x)
    × (count ≤ most → count + cond lacking 1 0 ≤ most)

ended_found : {P D : Type 0} (most : ℕ) (full : D) (lacking : Bool) (ns : Nodes P) (count at : ℕ)
    (x : (Block P × ℕ) × ℕ) → ended most full lacking ns count at ≡ Ok x → Shuts most lacking ns count at x
ended_found most full true ns count at x e = elim (either (nat_lt count most) _ _ _ e) [
  | inl w ↦ let lt = ltb-true count most w.0 in (ok_is w.1, λ le. omega (arith, lt))
  | inr w ↦ absurd (let v = w.1 in cc)
]
ended_found most full false ns count at x e =
    let z : count + 0 ≡ count = omega arith in
    (ap (λ c. ((block ns at, c), at + 1)) z ∙ ok_is e, λ le. omega (arith, le))

-- ---- operations

pub limited_few : {B D : Type 0} (most : ℕ) (full : D) (count at : ℕ) (r : Out B D) (x : B × ℕ)
    → limited most full count at r ≡ Ok x → (count < most) × (r ≡ Ok x)
limited_few most full count at r x e = elim (either (nat_lt count most) _ _ _ e) [
  | inl w ↦ (ltb-true count most w.0, w.1)
  | inr w ↦ absurd (not_too_many at full r x w.1)
]

-- ---- regions

-- a token that passes the test between regions, by what was read
abbrev Passing : {A X : Type 0} → (X → Terminal → A → Bool) → List Token → A → Shape X → Type 0
Passing passes all h bare = Unit {0}
Passing passes all h (regions gap x b o) = (at : ℕ) → passes x (terminal_at all at) h ≡ true → terminal_at all at ≡ b

passing : {A T K D X M : Type 0} (L : Language A T K D X M) (all : List Token) (h : A) (t : T)
    → ((x : X) (y : Terminal) → L.passes x y h ≡ L.allows x y t) → (s : Shape X) → Parted L all s
    → Passing L.passes all h s
passing L all h t e bare p = tt
passing L all h t e (regions gap x b o) p = λ at g. p at t (sym (e x (terminal_at all at)) ∙ g)

module _ {A P D X : Type 0} (passes : X → Terminal → A → Bool) (all : List Token) (one : A → From (A × Block P) D) where
  -- no block stands there, or another one
  abbrev Stopped : Shape X → ℕ → Bool → A → ℕ → ℕ → ((A × Bodies P) × ℕ) × ℕ → Type 0
  Stopped s k first h count at y = (may_end passes s k first (terminal_at all at) h ≡ true)
      × ((((h, no_bodies), count), at) ≡ y)

  record Gone (s : Shape X) (k : ℕ) (first : Bool) (h : A) (count at : ℕ) (y : ((A × Bodies P) × ℕ) × ℕ) : Type 0 where
    begin : ℕ
    stand : AllStand all at (tokens_of (between s first)) begin
    go : may_go passes s k first h ≡ true
    one_read : ((A × Block P) × ℕ) × ℕ
    one_is : one h count begin ≡ Ok one_read
    rest : ((A × Bodies P) × ℕ) × ℕ
    rest_is : regions_at passes s (fewer first k) false all one one_read.0.0.0 one_read.0.1 one_read.1 ≡ Ok rest
    same : (((rest.0.0.0, body one_read.0.0.1.nodes one_read.0.0.1.close rest.0.0.1), rest.0.1), rest.1) ≡ y

  -- a block and those behind it
  gone : (s : Shape X) (k : ℕ) (first : Bool) (h : A) (count at begin : ℕ) (y : ((A × Bodies P) × ℕ) × ℕ)
      → AllStand all at (tokens_of (between s first)) begin → may_go passes s k first h ≡ true
      → (one h count begin >>= λ b. regions_at passes s (fewer first k) false all one b.0.0.0 b.0.1 b.1 >>= λ r. Ok
      (((r.0.0.0, body b.0.0.1.nodes b.0.0.1.close r.0.0.1), r.0.1), r.1)) ≡ Ok y → Gone s k first h count at y
  gone s k first h count at begin y st g e =
      let b = bind_ok _ _ _ e in
      let r = bind_ok _ _ _ b.1.1 in
      record {
        begin = begin;
        stand = st;
        go = g;
        one_read = b.0;
        one_is = b.1.0;
        rest = r.0;
        rest_is = r.1.0;
        same = ok_is r.1.1;
      }

  regions_found : (s : Shape X) (k : ℕ) (first : Bool) (h : A) (count at : ℕ) (y : ((A × Bodies P) × ℕ) × ℕ)
      → Passing passes all h s → regions_at passes s k first all one h count at ≡ Ok y
      → Stopped s k first h count at y ⊎ Gone s k first h count at y
  regions_found bare k first h count at y p e = inl (refl, ok_is e)
  regions_found (regions gap x b o) k true h count at y p e =
      inr (gone (regions gap x b o) k true h count at at y refl refl e)
  regions_found (regions gap x b o) zero false h count at y p e = inl (refl, ok_is e)
  regions_found (regions gap x b o) (suc k) false h count at y p e =
      elim (either (passes x (terminal_at all at) h) _ _ _ e) [
        | inl w ↦
            let z = p at w.0 in
            inr (gone (regions gap x b o) (suc k) false h count at (at + 1) y (z, refl)
            (ap (λ c. passes x c h) (sym z) ∙ w.0) w.1)
        | inr w ↦ inl (not_false _ w.0, ok_is w.1)
      ]

no_other : {A X : Type 0} (passes : X → Terminal → A → Bool) (s : Shape X) (h : A) → may_go passes s zero false h ≡ true
    → ⊥
no_other passes bare h e = absurd cc
no_other passes (regions gap x b o) h e = absurd cc

module _ {A T K D X M R V P S : Type 0} (F : Format A T K D X M R V P S) (all : List Token) (Says : A → T → Type 0)
    (said : P → S) (w : Fitting F all Says said) where
  -- a reading of operations of which each finds its text
  abbrev Finds : (V → ℕ → From (Nodes P) D) → Type 0
  Finds inner = (l : V) (depth count at : ℕ) (ns : Nodes P) (c next : ℕ) → inner l depth count at ≡ Ok ((ns, c), next)
      → DocsFound F all said l depth count at ns c next

  -- a block that was read is that of a text
  record BlockFound (r : R) (depth : ℕ) (t : T) (count at : ℕ) (x : ((A × Block P) × ℕ) × ℕ) : Type 0 where
    header : Fill
    docs : Docs
    room : nat_lt depth F.most_open ≡ true
    stand : (rest : List Spaced) (next : ℕ) → AllStand all x.1 (tokens_of rest) next
        → AllStand all at (tokens_of (spaced blank (terminal open_brace [])
        ∷ (begun (line 0) (written F.language (F.header r) header)
        ++ (docs_written F (F.inside r) (0 + 1) docs ++ (spaced (line 0) (terminal close_brace []) ∷ rest))))) next
    header_fits : fits F.language (F.header r) header
        (follow (docs_written F (F.inside r) 0 docs) (terminal close_brace [])) t ≡ true
    docs_are_fit : docs_fit F (F.inside r) (depth + 1) docs (terminal close_brace []) ≡ true
    says : Says x.0.0.0 (tells F.language (F.header r) header t)
    inside : nodes_said said x.0.0.1.nodes ≡ docs_say F (F.inside r) docs
    sum : (u : S) → F.ends_open_said u ≡ F.ends_open_said (F.says t)
        → x.0.1 ≡ count + (operations F (docs_say F (F.inside r) docs) + left_out F u (docs_say F (F.inside r) docs))
    limit : count ≤ F.most_nodes → x.0.1 ≤ F.most_nodes

  -- by its parts
  block_of : (r : R) (depth : ℕ) (t : T) (count at : ℕ) (k : A) (m c j : ℕ) (ns : Nodes P) → F.row_said (F.says t) ≡ r
      → terminal_at all at ≡ terminal open_brace [] → nat_lt depth F.most_open ≡ true
      → Found F.language all Says (F.header r) t k (at + 1) m
      → DocsFound F all said (F.inside r) (depth + 1) count m ns c j → terminal_at all j ≡ terminal close_brace []
      → (c ≤ F.most_nodes → c + cond (lacks F (F.parts k) ns) 1 0 ≤ F.most_nodes)
      → BlockFound r depth t count at (((k, block ns j), c + cond (lacks F (F.parts k) ns) 1 0), j + 1)
  block_of r depth t count at k m c j ns er o d h i z le =
      let hs = written F.language (F.header r) h.0 in
      let ds = docs_written F (F.inside r) 0 i.0 in
      let ss = docs_say F (F.inside r) i.0 in
      let y : terminal_at all m ≡ follow ds (terminal close_brace []) = first_is _ all m j _ i.1.stand z in
      let s1 : AllStand all (at + 1) (tokens_of (begun (line 0) hs)) m =
      subst (λ ts. AllStand all (at + 1) ts m) (sym (same_tokens _ hs)) h.1.0 in
      let s2 : AllStand all m (tokens_of (docs_written F (F.inside r) (0 + 1) i.0)) j =
      docs_stand F _ 0 (0 + 1) i.0 all m j i.1.stand in
      let before = i.1.sum in
      record {
        header = h.0;
        docs = i.0;
        room = d;
        stand = λ rest next s. (o, join _ _ all _ m next s1 (join _ _ all m j next s2 (z, s)));
        header_fits = subst (λ y. fits F.language (F.header r) h.0 y t ≡ true) y h.1.1.0;
        docs_are_fit = subst (λ y. docs_fit F (F.inside r) (depth + 1) i.0 y ≡ true) z i.1.fit;
        says = h.1.1.1;
        inside = i.1.itself;
        sum = λ u e.
            let l : cond (lacks F (F.parts k) ns) 1 0 ≡ left_out F u ss =
            ap (λ b. cond b 1 0) (lacks_is F all Says said w k _ u ns ss h.1.1.1
            (e ∙ sym (w.header_open r h.0 t er)) i.1.itself) in
            omega (arith, l, before);
        limit = λ few. le (i.1.limit few);
      }

  -- blocks that were read are those of a text
  record BlocksFound (r : R) (depth k : ℕ) (first : Bool) (t : T) (count at : ℕ) (y : ((A × Bodies P) × ℕ) × ℕ) : Type 0
    where
      blocks : Blocks
      stand : AllStand all at (tokens_of (blocks_written F r 0 first blocks)) y.1
      fit : blocks_fit F r depth k first blocks (terminal_at all y.1) t ≡ true
      headers : Says y.0.0.0 (headers_say F r blocks t)
      inside : bodies_said said y.0.0.1 ≡ blocks_say F r blocks
      sum : (u : S) → F.ends_open_said u ≡ F.ends_open_said (F.says t)
          → y.0.1 ≡ count + operations_inside F u (blocks_say F r blocks)
      limit : count ≤ F.most_nodes → y.0.1 ≤ F.most_nodes

  none_found : (r : R) (depth k : ℕ) (first : Bool) (h : A) (t : T) (count at : ℕ) → Says h t
      → may_end F.language.passes (F.shape r) k first (terminal_at all at) h ≡ true
      → BlocksFound r depth k first t count at (((h, no_bodies), count), at)
  none_found r depth k first h t count at q g = record {
    blocks = no_blocks;
    stand = refl;
    fit = sym (same_stop F.language.passes F.language.allows h t (λ x y. w.lawful.tested x y h t q) _ k first _) ∙ g;
    headers = q;
    inside = refl;
    sum = λ u e. omega arith;
    limit = λ le. le;
  }

  -- a block before others
  block_before : (r : R) (depth k : ℕ) (first : Bool) (h : A) (t : T) (count at begin : ℕ) (x : ((A × Block P) × ℕ) × ℕ)
      (y : ((A × Bodies P) × ℕ) × ℕ) → Says h t → F.row_said (F.says t) ≡ r
      → AllStand all at (tokens_of (between (F.shape r) first)) begin
      → may_go F.language.passes (F.shape r) k first h ≡ true → (b : BlockFound r depth t count begin x)
      → BlocksFound r depth (fewer first k) false (tells F.language (F.header r) b.header t) x.0.1 x.1 y
      → BlocksFound r depth k first t count at (((y.0.0.0, body x.0.0.1.nodes x.0.0.1.close y.0.0.1), y.0.1), y.1)
  block_before r depth k first h t count at begin x y q er st g b z =
      let rest = blocks_written F r 0 false z.blocks in record {
        blocks = a_block b.header b.docs z.blocks;
        stand = join _ _ all at begin y.1 st (b.stand rest y.1 z.stand);
        fit = and_is _ _ (sym (same_go F.language.passes F.language.allows h t (λ x y. w.lawful.tested x y h t q)
            (F.shape r) k first) ∙ g) (and_is _ _ b.room (and_is _ _ b.header_fits (and_is _ _ b.docs_are_fit z.fit)));
        headers = z.headers;
        inside = rw (b.inside, z.inside) refl;
        sum = λ u e.
            let one = b.sum u e in
            let more = z.sum u (e ∙ sym (w.header_open r b.header t er)) in
            omega (arith, one, more);
        limit = λ le. z.limit (b.limit le);
      }

  -- the parts of an operation that was read
  record NodeFound (l : V) (depth count at : ℕ) (x : (Tree P × ℕ) × ℕ) : Type 0 where
    slots_at : ℕ
    blocks_at : ℕ
    tail_at : ℕ
    few : count < F.most_nodes
    was : A
    head : Found F.language all Says (F.head l) F.nothing was at slots_at
    slots : (a : A) × Found F.language all Says (F.slots (row_of F l head.0))
        (head_says F l head.0) a slots_at blocks_at
    bodies : (a : A) × BlocksFound (row_of F l head.0) depth (others_of (F.shape (row_of F l head.0))) true
        (slots_say F l head.0 slots.1.0) (count + 1) blocks_at (((a, x.0.0.bodies), x.0.1), tail_at)
    tail : (a : A) × (Found F.language all Says (F.tail (row_of F l head.0))
        (headers_say F (row_of F l head.0) bodies.1.blocks (slots_say F l head.0 slots.1.0)) a tail_at x.1
        × (x.0.0.parts ≡ F.parts a))

  -- an operation, and what is behind it
  node_before : (l : V) (depth count at : ℕ) (x : (Tree P × ℕ) × ℕ) (ns : Nodes P) (c next : ℕ)
      (o : NodeFound l depth count at x) (rest : Docs)
      → AreWritten F all said (F.behind l) depth x.0.1 x.1 ns c next rest
      → AreWritten F all said l depth count at (cons x.0.0 ns) c next
      (doc o.head.0 o.slots.1.0 o.bodies.1.blocks o.tail.1.0.0 rest)
  node_before l depth count at x ns c next o rest v =
      let p = o.head.0 in
      let r = row_of F l p in
      let bs = o.bodies.1 in
      let hs = written F.language (F.head l) p in
      let ss = written F.language (F.slots r) o.slots.1.0 in
      let xs = blocks_written F r 0 true bs.blocks in
      let ts = written F.language (F.tail r) o.tail.1.0.0 in
      let ds = docs_written F (F.behind l) 0 rest in
      let t = slots_say F l p o.slots.1.0 in
      let u = F.says (tail_says F r bs.blocks o.tail.1.0.0 t) in
      let y = terminal_at all next in
      let s1 : AllStand all at (tokens_of (begun (line 0) hs)) o.slots_at =
      subst (λ ts. AllStand all at ts o.slots_at) (sym (same_tokens _ hs)) o.head.1.0 in
      let s4 = join ts ds all o.tail_at x.1 next o.tail.1.0.1.0 v.stand in
      let s3 = join xs _ all o.blocks_at o.tail_at next bs.stand s4 in
      let s2 = join ss _ all o.slots_at o.blocks_at next o.slots.1.1.0 s3 in
      let y1 : terminal_at all o.slots_at ≡ follow (ss ++ (xs ++ (ts ++ ds))) y =
      first_is _ all o.slots_at next y s2 refl in
      let y2 : terminal_at all o.blocks_at ≡ follow (xs ++ (ts ++ ds)) y = first_is _ all o.blocks_at next y s3 refl in
      let y3 : terminal_at all o.tail_at ≡ follow (ts ++ ds) y = first_is _ all o.tail_at next y s4 refl in
      let y4 : terminal_at all x.1 ≡ follow ds y = first_is _ all x.1 next y v.stand refl in
      let few = o.few in
      let n1 = bs.sum u (tail_leaves F all Says said w r bs.blocks o.tail.1.0.0 t
      (w.slots_row r o.slots.1.0 (head_says F l p) refl)) in
      let n2 = v.sum in
      record {
        stand = join _ _ all at o.slots_at next s1 s2;
        fit = and_is _ _ (w.head_opens l p (terminal_at all o.slots_at) o.head.1.1.0)
            (and_is _ _ (subst (λ y. fits F.language (F.head l) p y F.nothing ≡ true) y1 o.head.1.1.0)
            (and_is _ _ (subst (λ y. fits F.language (F.slots r) o.slots.1.0 y (head_says F l p) ≡ true) y2
            o.slots.1.1.1.0)
            (and_is _ _ (subst (λ y. blocks_fit F r depth (others_of (F.shape r)) true bs.blocks y t ≡ true) y3 bs.fit)
            (and_is _ _ (subst (λ y. fits F.language (F.tail r) o.tail.1.0.0 y (headers_say F r bs.blocks t) ≡ true) y4
            o.tail.1.0.1.1.0) v.fit))));
        itself =
            let kept = w.kept o.tail.0 (tail_says F r bs.blocks o.tail.1.0.0 t) o.tail.1.0.1.1.1 in
            rw (o.tail.1.1, kept, bs.inside, v.itself) refl;
        sum =
            let z : operations F (docs_say F l (doc p o.slots.1.0 bs.blocks o.tail.1.0.0 rest)) ≡ 1
            + (operations_inside F u (blocks_say F r bs.blocks) + operations F (docs_say F (F.behind l) rest)) =
            refl in
            omega (arith, z, n1, n2);
        limit = λ le. v.limit (bs.limit (omega (arith, few)));
      }

  -- no operation stands before a brace or the end
  no_docs_found : (l : V) (depth count at : ℕ) → closes (terminal_at all at) ≡ true
      → AreWritten F all said l depth count at no_nodes count at no_docs
  no_docs_found l depth count at e =
      record { stand = refl; fit = e; itself = refl; sum = omega arith; limit = λ le. le }

  module _ (n : ℕ) (room : length all ≤ n) where
    module _ (inner : V → ℕ → From (Nodes P) D) (find : Finds inner) where
      block_found : (r : R) (depth count at : ℕ) (a : A) (t : T) (x : ((A × Block P) × ℕ) × ℕ) → Says a t
          → F.row_said (F.says t) ≡ r → block_at F n all inner r depth a count at ≡ Ok x
          → BlockFound r depth t count at x
      block_found r depth count at a t x q er e = elim (either (is_kind open_brace (terminal_at all at)) _ _ _ e) [
        | inl o ↦ elim (either (nat_lt depth F.most_open) _ _ _ o.1) [
          | inl d ↦
              let k = bind_ok (read F.language n (F.header r) all a (at + 1)) _ x d.1 in
              let i = bind_ok (inner (F.inside r) (depth + 1) count k.0.1) _ x k.1.1 in
              let b = bind_ok (shut F all (F.parts k.0.0) i.0.0.0 i.0.0.1 i.0.1)
              (λ b. Ok (((k.0.0, b.0.0), b.0.1), b.1)) x i.1.1 in
              elim (either (is_kind close_brace (terminal_at all i.0.1)) _ _ b.0 b.1.0) [
                | inl c ↦
                    let ns = i.0.0.0 in
                    let lacking = lacks F (F.parts k.0.0) ns in
                    let z = ended_found F.most_nodes F.due_many lacking ns i.0.0.1 i.0.1 b.0 c.1 in
                    let same : (((k.0.0, block ns i.0.1), i.0.0.1 + cond lacking 1 0), i.0.1 + 1) ≡ x =
                    ap (λ b. (((k.0.0, b.0.0), b.0.1), b.1)) z.0 ∙ ok_is b.1.1 in
                    subst (BlockFound r depth t count at) same
                    (block_of r depth t count at k.0.0 k.0.1 i.0.0.1 i.0.1 i.0.0.0 er (mark_is 123 all at o.0) d.0
                    (found F.language all Says w.lawful n room (F.header r) a k.0.0 (at + 1) k.0.1 t q k.1.0)
                    (find (F.inside r) (depth + 1) count k.0.1 i.0.0.0 i.0.0.1 i.0.1 i.1.0) (mark_is 125 all i.0.1 c.0)
                    z.1)
                | inr c ↦ absurd (let v = c.1 in cc)
              ]
          | inr d ↦ absurd (let v = d.1 in cc)
        ]
        | inr o ↦ absurd (let v = o.1 in cc)
      ]

      -- blocks behind one another, from what is read inside them
      abbrev BlocksRead : R → ℕ → ℕ → Bool → Type 0
      BlocksRead r depth k first =
          (h : A) (t : T) (count at : ℕ) (y : ((A × Bodies P) × ℕ) × ℕ) → Says h t → F.row_said (F.says t) ≡ r
          → regions_at F.language.passes (F.shape r) k first all (block_at F n all inner r depth) h count at ≡ Ok y
          → BlocksFound r depth k first t count at y

      blocks_step : (r : R) (depth k : ℕ) (first : Bool)
          → ((h : A) → may_go F.language.passes (F.shape r) k first h ≡ true → BlocksRead r depth (fewer first k) false)
          → BlocksRead r depth k first
      blocks_step r depth k first rest h t count at y q er e =
          let one = block_at F n all inner r depth in
          let p = passing F.language all h t (λ x y. w.lawful.tested x y h t q) _ (w.parted r) in
          elim (regions_found F.language.passes all one _ k first h count at y p e) [
            | inl v ↦ subst (BlocksFound r depth k first t count at) v.1 (none_found r depth k first h t count at q v.0)
            | inr v ↦
                let b = block_found r depth count v.begin h t v.one_read q er v.one_is in
                let z = rest h v.go v.one_read.0.0.0 (tells F.language (F.header r) b.header t) v.one_read.0.1
                v.one_read.1 v.rest b.says (w.header_row r b.header t er) v.rest_is in
                subst (BlocksFound r depth k first t count at) v.same
                (block_before r depth k first h t count at v.begin v.one_read v.rest q er v.stand v.go b z)
          ]

      others_found : (r : R) (depth k : ℕ) → BlocksRead r depth k false
      others_found r depth zero = blocks_step r depth zero false (λ h g. absurd (no_other F.language.passes _ h g))
      others_found r depth (suc k) = blocks_step r depth (suc k) false (λ h g. others_found r depth k)

      blocks_found : (r : R) (depth k : ℕ) → BlocksRead r depth k true
      blocks_found r depth k = blocks_step r depth k true (λ h g. others_found r depth k)

      node_found : (l : V) (depth count at : ℕ) (x : (Tree P × ℕ) × ℕ) → node_at F n all inner l depth count at ≡ Ok x
          → NodeFound l depth count at x
      node_found l depth count at x e =
          let h = bind_ok _ _ _ e in
          let few = limited_few F.most_nodes F.due_many count at (head_at F n all l at) h.0 h.1.0 in
          let a = bind_ok _ _ _ few.1 in
          let s = bind_ok _ _ _ a.1.1 in
          let same : ((F.row (F.parts a.0.0), s.0.0), s.0.1) ≡ h.0 = ok_is s.1.1 in
          let p = found F.language all Says w.lawful n room (F.head l) F.empty a.0.0 at a.0.1 F.nothing w.said_empty
          a.1.0 in
          let er : F.row (F.parts a.0.0) ≡ row_of F l p.0 =
          same_row F all Says said w a.0.0 (head_says F l p.0) p.1.1.1 in
          let sr : read F.language n (F.slots (row_of F l p.0)) all a.0.0 a.0.1 ≡ Ok (s.0.0, s.0.1) =
          subst (λ r. read F.language n (F.slots r) all a.0.0 a.0.1 ≡ Ok (s.0.0, s.0.1)) er s.1.0 in
          let q = found F.language all Says w.lawful n room (F.slots (row_of F l p.0)) a.0.0 s.0.0 a.0.1 s.0.1
          (head_says F l p.0) p.1.1.1 sr in
          let goes = rest_of F all n inner depth count at x h.0 (row_of F l p.0) s.0.0 s.0.1
          (ap (λ r. ((r, s.0.0), s.0.1)) (sym er) ∙ same) h.1.1 in
          let b = bind_ok _ _ _ goes in
          let t = bind_ok _ _ _ b.1.1 in
          let v = blocks_found (row_of F l p.0) depth (others_of (F.shape (row_of F l p.0))) s.0.0
          (slots_say F l p.0 q.0) (count + 1) s.0.1 b.0 q.1.1.1
          (w.slots_row (row_of F l p.0) q.0 (head_says F l p.0) refl)
          (sym (all_regions F.language.passes (F.shape (row_of F l p.0)) all
          (block_at F n all inner (row_of F l p.0) depth) s.0.0 (count + 1) s.0.1) ∙ b.1.0) in
          let u = found F.language all Says w.lawful n room (F.tail (row_of F l p.0)) b.0.0.0.0 t.0.0 b.0.1 t.0.1
          (headers_say F (row_of F l p.0) v.blocks (slots_say F l p.0 q.0)) v.headers t.1.0 in
          subst (NodeFound l depth count at) (ok_is t.1.1) (record {
            slots_at = a.0.1;
            blocks_at = s.0.1;
            tail_at = b.0.1;
            few = few.0;
            was = a.0.0;
            head = p;
            slots = (s.0.0, q);
            bodies = (b.0.0.0.0, v);
            tail = (t.0.0, (u, refl));
          })
        where
          rest_of : {A T K D X M R V P S : Type 0} (F : Format A T K D X M R V P S) (all : List Token) (n : ℕ)
              (inner : V → ℕ → From (Nodes P) D) (depth count at : ℕ) (x : (Tree P × ℕ) × ℕ) (h : (R × A) × ℕ) (r : R)
              (a : A) (i : ℕ) → ((r, a), i) ≡ h
              → (bodies_at F.language.passes (F.shape h.0.0) all (block_at F n all inner h.0.0 depth) h.0.1 (count + 1)
              h.1 >>= λ bs. read F.language n (F.tail h.0.0) all bs.0.0.0 bs.1 >>= λ t. Ok
              ((tree at (F.parts t.0) bs.0.0.1, bs.0.1), t.1)) ≡ Ok x
              → (bodies_at F.language.passes (F.shape r) all (block_at F n all inner r depth) a (count + 1) i >>= λ bs.
              read F.language n (F.tail r) all bs.0.0.0 bs.1 >>= λ t. Ok
              ((tree at (F.parts t.0) bs.0.0.1, bs.0.1), t.1)) ≡ Ok x
          rest_of F all n inner depth count at x h r a i e q =
              subst (λ h. (bodies_at F.language.passes (F.shape h.0.0) all (block_at F n all inner h.0.0 depth) h.0.1
              (count + 1) h.1 >>= λ bs. read F.language n (F.tail h.0.0) all bs.0.0.0 bs.1
              >>= λ t. Ok ((tree at (F.parts t.0) bs.0.0.1, bs.0.1), t.1)) ≡ Ok x) (sym e) q

    pub docs_found : (f : ℕ) (l : V) (depth count at : ℕ) (ns : Nodes P) (c next : ℕ)
        → nodes_at F n f all l depth count at ≡ Ok ((ns, c), next) → DocsFound F all said l depth count at ns c next
    docs_found zero l depth count at ns c next e = absurd cc
    docs_found (suc f) l depth count at ns c next e =
        let G : (Nodes P × ℕ) × ℕ → Type 0 = λ x. DocsFound F all said l depth count at x.0.0 x.0.1 x.1 in
        elim (either (closes (terminal_at all at)) _ _ _ e) [
          | inl v ↦ subst G (ok_is v.1) (no_docs, no_docs_found l depth count at v.0)
          | inr v ↦
              let t = bind_ok _ _ _ v.1 in
              let r = bind_ok _ _ _ t.1.1 in
              let o = node_found (nodes_at F n f all) (docs_found f) l depth count at t.0 t.1.0 in
              let z = docs_found f (F.behind l) depth t.0.0.1 t.0.1 r.0.0.0 r.0.0.1 r.0.1 r.1.0 in
              subst G (ok_is r.1.1) (
                doc o.head.0 o.slots.1.0 o.bodies.1.blocks o.tail.1.0.0 z.0,
                node_before l depth count at t.0 r.0.0.0 r.0.0.1 r.0.1 o z.0 z.1,
              )
        ]

    -- an operation alone, before a brace or the end
    pub doc_found : (f : ℕ) (l : V) (depth count at : ℕ) (t : Tree P) (c next : ℕ)
        → node_at F n all (nodes_at F n f all) l depth count at ≡ Ok ((t, c), next)
        → closes (terminal_at all next) ≡ true
        → (p : Fill) × ((s : Fill) × ((bs : Blocks)
        × ((q : Fill) × AreWritten F all said l depth count at (cons t no_nodes) c next (doc p s bs q no_docs))))
    doc_found f l depth count at t c next e z =
        let o = node_found (nodes_at F n f all) (docs_found f) l depth count at ((t, c), next) e in
        let is_so = node_before l depth count at ((t, c), next) no_nodes c next o no_docs
        (no_docs_found (F.behind l) depth c next z) in
        (o.head.0, (o.slots.1.0, (o.bodies.1.blocks, (o.tail.1.0.0, is_so))))
