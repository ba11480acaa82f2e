-- Operations as they are written stand apart where the test of each row says so, and are laid out.
use Rattle.std.proofs.Common.{◌≡◌, inl, ℕ, ◌+◌, Bool, true, false, List, [], ◌∷◌, ◌++◌, Option, Some, None, refl, sym}
use Rattle.std.proofs.Common.{subst}
use Rattle.std.specs.Prelude.{◌&&◌, is_some}
use Rattle.xf_lex.specs.declared.token.TokenKind.{TokenKind}
use Rattle.xf_grammar.specs.Tokens.{Terminal, terminal, open_brace, close_brace}
use Rattle.xf_grammar.specs.Grammar.{blank, line, Spaced, spaced, begun, written, tells, fits}
use Rattle.xf_grammar.specs.Tree.{Shape, bare, regions, Format, Docs, no_docs, doc, Blocks, no_blocks, a_block, row_of}
use Rattle.xf_grammar.specs.Tree.{head_says, slots_say, headers_say, between, docs_written, blocks_written, begins}
use Rattle.xf_grammar.specs.Tree.{may_go, may_end, others_of, fewer, docs_fit, blocks_fit}
use Rattle.xf_grammar.specs.Apart.{in_mode, Before, a_gap, a_token, before, stands, is_gap, apart, last, Classes, way}
use Rattle.xf_grammar.specs.Apart.{Among, StandApart, Classed, tail_from, between_apart, RowsApart}
use Rattle.xf_grammar.proofs.Basics.{both_true, and_is}
use Rattle.xf_grammar.proofs.Apart.{apart_both, then_apart, begun_apart, chained, stand_apart}

-- ---- braces and lines

-- a brace stands anywhere behind a blank or a line
brace_stands : (b : Before) → stands b true (a_token open_brace false) ≡ true
brace_stands a_gap = refl
brace_stands (a_token k t) = refl

close_stands : (b : Before) → stands b true (a_token close_brace false) ≡ true
close_stands a_gap = refl
close_stands (a_token k t) = refl

mode_there : (b : Bool) (k : TokenKind) → (in_mode true k && in_mode false k) ≡ true → in_mode b k ≡ true
mode_there true k h = (both_true _ _ h).0
mode_there false k h = (both_true _ _ h).1

-- what may stand behind a gap begins a line anywhere
line_stands : (b c : Before) (g : Bool) → stands a_gap g c ≡ true → stands b true c ≡ true
line_stands b a_gap g h = absurd cc
line_stands a_gap (a_token k t) g h = h
line_stands (a_token j s) (a_token k t) g h = and_is _ _ (mode_there s k h) refl

line_apart : (b : Before) (n : ℕ) (ps : List Spaced) (es : List Before) → begins ps ≡ true → StandApart a_gap ps es
    → StandApart b (begun (line n) ps) es
line_apart b n [] es o h = absurd cc
line_apart b n (p ∷ ps) es o h =
    let x = both_true _ _ h.apart in
    record { apart = and_is _ _ (line_stands b (before p.token) (is_gap p.gap) x.0) x.1; behind = h.behind }

exactly : (b : Before) (ps : List Spaced) → apart b ps ≡ true → StandApart b ps (last b ps ∷ [])
exactly b ps h = record { apart = h; behind = inl refl }

apart_then : (b : Before) (ps qs : List Spaced) (es : List Before) → StandApart b ps es
    → ((c : Before) → Among c es → apart c qs ≡ true) → apart b (ps ++ qs) ≡ true
apart_then b ps qs es h f = apart_both b ps qs h.apart (f (last b ps) h.behind)

some_is : (x : Option (List Before)) → is_some x ≡ true → (es : List Before) × (x ≡ Some es)
some_is None h = absurd cc
some_is (Some es) h = (es, refl)

-- ---- blocks

-- before the first block one of these stands, and before each other one the brace of the block before
abbrev Opens : Bool → Before → List Before → Type 0
Opens true b es = Among b es
Opens false b es = b ≡ a_token close_brace false

abbrev behind_blocks : {X : Type 0} → Bool → Shape X → List Before → List Before
behind_blocks true s es = tail_from s es
behind_blocks false s es = a_token close_brace false ∷ []

ended : {T X : Type 0} (allows : X → Terminal → T → Bool) (s : Shape X) (k : ℕ) (first : Bool) (y : Terminal) (t : T)
    (b : Before) (es : List Before) → may_end allows s k first y t ≡ true → Opens first b es
    → Among b (behind_blocks first s es)
ended allows bare k true y t b es h o = o
ended allows (regions gap x a n) k true y t b es h o = absurd cc
ended allows s k false y t b es h o = inl o

gone : {T X : Type 0} (allows : X → Terminal → T → Bool) (s : Shape X) (k : ℕ) (first : Bool) (t : T) (es : List Before)
    → may_go allows s k first t ≡ true → behind_blocks first s es ≡ a_token close_brace false ∷ []
gone allows bare k first t es h = absurd cc
gone allows (regions gap x a n) k true t es h = refl
gone allows (regions gap x a n) k false t es h = refl

between_is : {X : Type 0} (s : Shape X) (first : Bool) (b : Before) (es : List Before) → between_apart s ≡ true
    → Opens first b es → apart b (between s first) ≡ true
between_is bare first b es h o = refl
between_is (regions gap x t n) true b es h o = refl
between_is (regions true x t n) false b es h o =
    and_is _ _ (subst (λ b. stands b true (before t) ≡ true) (sym o) h) refl
between_is (regions false x t n) false b es h o =
    and_is _ _ (subst (λ b. stands b false (before t) ≡ true) (sym o) h) refl

module _ {A T K D X M R V P S : Type 0} (F : Format A T K D X M R V P S) (C : Classes K X M) (w : Classed F.language C)
    (rows : RowsApart F C) where
  mutual
    pub docs_apart : (l : V) (margin depth : ℕ) (ds : Docs) (y : Terminal) (b : Before) → docs_fit F l depth ds y ≡ true
        → apart b (docs_written F l margin ds) ≡ true
    docs_apart l margin depth no_docs y b fit = refl
    docs_apart l margin depth (doc p s bs q rest) y b fit =
        let L = F.language in
        let r = row_of F l p in
        let hs = written L (F.head l) p in
        let ss = written L (F.slots r) s in
        let ts = written L (F.tail r) q in
        let ok = both_true _ _ (rows l r) in
        let out = some_is _ ok.0 in
        let c2 = chained _ _ out.0 out.1 in
        let c1 = chained _ _ c2.middle c2.first_is in
        let f0 = both_true (begins hs) _ fit in
        let f1 = both_true (fits L (F.head l) p _ F.nothing) _ f0.1 in
        let f2 = both_true (fits L (F.slots r) s _ (head_says F l p)) _ f1.1 in
        let f3 = both_true (blocks_fit F r depth (others_of (F.shape r)) true bs _ (slots_say F l p s)) _ f2.1 in
        let f4 = both_true (fits L (F.tail r) q _ (headers_say F r bs (slots_say F l p s))) _ f3.1 in
        apart_then b (begun (line margin) hs) _ c1.middle (line_apart b margin hs c1.middle f0.0
        (stand_apart L C w (F.head l) p _ F.nothing a_gap (a_gap ∷ []) c1.middle f1.0 c1.first_is (inl refl)))
        (λ c m. apart_then c ss _ c2.middle
        (stand_apart L C w (F.slots r) s _ (head_says F l p) c c1.middle c2.middle f2.0 c1.second_is m)
        (λ d n. apart_then d (blocks_written F r margin true bs) _ (tail_from (F.shape r) c2.middle)
        (blocks_apart r margin depth (others_of (F.shape r)) true bs _ (slots_say F l p s) d c2.middle ok.1 f3.0 n)
        (λ e o. apart_then e ts _ out.0
        (stand_apart L C w (F.tail r) q _ (headers_say F r bs (slots_say F l p s)) e (tail_from (F.shape r) c2.middle)
        out.0 f4.0 c2.second_is o)
        (λ f v. docs_apart (F.behind l) margin depth rest y f f4.1))))

    pub blocks_apart : (r : R) (margin depth k : ℕ) (first : Bool) (bs : Blocks) (y : Terminal) (t : T) (b : Before)
        (es : List Before) → (is_some (way C (F.header r) (a_token open_brace false ∷ [])) && between_apart (F.shape r))
        ≡ true → blocks_fit F r depth k first bs y t ≡ true → Opens first b es
        → StandApart b (blocks_written F r margin first bs) (behind_blocks first (F.shape r) es)
    blocks_apart r margin depth k first no_blocks y t b es ok fit o =
        record { apart = refl; behind = ended F.language.allows (F.shape r) k first y t b es fit o }
    blocks_apart r margin depth k first (a_block h ds rest) y t b es ok fit o =
        let L = F.language in
        let close : List Before = a_token close_brace false ∷ [] in
        let hs = written L (F.header r) h in
        let dds = docs_written F (F.inside r) (margin + 1) ds in
        let rs = spaced (line margin) (terminal close_brace []) ∷ blocks_written F r margin false rest in
        let g = both_true _ (between_apart (F.shape r)) ok in
        let header = some_is (way C (F.header r) (a_token open_brace false ∷ [])) g.0 in
        let f0 = both_true (may_go L.allows (F.shape r) k first t) _ fit in
        let f1 = both_true _ _ f0.1 in
        let f2 = both_true (fits L (F.header r) h _ t) _ f1.1 in
        let f3 = both_true (docs_fit F (F.inside r) (depth + 1) ds (terminal close_brace [])) _ f2.1 in
        let others = blocks_apart r margin depth (fewer first k) false rest y (tells L (F.header r) h t)
        (a_token close_brace false) es ok f3.1 refl in
        let shut : (c : Before) → StandApart c rs close =
        λ c. record { apart = and_is _ _ (close_stands c) others.apart; behind = others.behind } in
        let inner : (c : Before) → StandApart c (dds ++ rs) close = λ c.
        then_apart c dds rs (last c dds ∷ []) close
        (exactly c dds (docs_apart (F.inside r) (margin + 1) (depth + 1) ds (terminal close_brace []) c
        f3.0)) (λ d m. shut d) in
        let body = then_apart (a_token open_brace false) (begun (line margin) hs) (dds ++ rs) header.0 close
        (begun_apart (a_token open_brace false) (line margin) hs header.0 refl
        (stand_apart L C w (F.header r) h _ t (a_token open_brace false) (a_token open_brace false ∷ []) header.0 f2.0
        header.1 (inl refl)))
        (λ c m. inner c) in
        let opened : (c : Before) → StandApart c
        (spaced blank (terminal open_brace []) ∷ (begun (line margin) hs ++ (dds ++ rs))) close =
        λ c. record { apart = and_is _ _ (brace_stands c) body.apart; behind = body.behind } in
        let bt = between (F.shape r) first in
        subst (λ fs. StandApart b (bt ++
        (spaced blank (terminal open_brace []) ∷ (begun (line margin) hs ++ (dds ++ rs)))) fs)
        (sym (gone L.allows (F.shape r) k first t es f0.0))
        (then_apart b bt _ (last b bt ∷ []) close (exactly b bt (between_is (F.shape r) first b es g.1 o))
        (λ c m. opened c))
