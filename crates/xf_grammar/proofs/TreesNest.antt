-- How deep the operations of a text nest, and how many blocks each has, where its fillings fit.
use Rattle.std.proofs.Common.{◌≡◌, ℕ, zero, suc, ◌+◌, ◌<◌, ◌≤◌, Bool, true, false, [], ◌++◌, arith}
use Rattle.std.proofs.lemmas.Bool.{ltb-true}
use Rattle.xf_grammar.specs.Tokens.{Terminal, terminal, close_brace}
use Rattle.xf_grammar.specs.Grammar.{written, tells}
use Rattle.xf_grammar.specs.Tree.{Shape, bare, regions, Format, Docs, no_docs, doc, Blocks, no_blocks, a_block, row_of}
use Rattle.xf_grammar.specs.Tree.{slots_say, docs_written, begins, follow, may_go, others_of, fewer, docs_fit}
use Rattle.xf_grammar.specs.Tree.{blocks_fit, SaidNodes, no_nodes_said, node_said, SaidBodies, no_bodies_said}
use Rattle.xf_grammar.specs.Tree.{body_said, docs_say, blocks_say}
use Rattle.xf_grammar.proofs.Basics.{both_true}

abbrev pub bodies_number : {S : Type 0} → SaidBodies S → ℕ
bodies_number no_bodies_said = 0
bodies_number (body_said ns rest) = bodies_number rest + 1

-- inside so many open regions, no more than `most` are open anywhere, and no operation has more than `wide`
abbrev mutual
  pub NodesNest : {S : Type 0} → ℕ → ℕ → ℕ → SaidNodes S → Type 0
  NodesNest most wide depth no_nodes_said = Unit {0}
  NodesNest most wide depth (node_said t bs rest) =
      (bodies_number bs ≤ wide) × (BodiesNest most wide depth bs × NodesNest most wide depth rest)

  pub BodiesNest : {S : Type 0} → ℕ → ℕ → ℕ → SaidBodies S → Type 0
  BodiesNest most wide depth no_bodies_said = Unit {0}
  BodiesNest most wide depth (body_said ns rest) =
      (depth < most) × (NodesNest most wide (depth + 1) ns × BodiesNest most wide depth rest)

-- how many blocks may stand there
abbrev left : Bool → ℕ → ℕ
left true k = suc k
left false k = k

one_less : {T X : Type 0} (allows : X → Terminal → T → Bool) (s : Shape X) (k : ℕ) (first : Bool) (t : T)
    → may_go allows s k first t ≡ true → left false (fewer first k) + 1 ≤ left first k
one_less allows bare k first t e = absurd cc
one_less allows (regions gap x b o) k true t e = omega arith
one_less allows (regions gap x b o) zero false t e = absurd cc
one_less allows (regions gap x b o) (suc k) false t e = omega arith

module _ {A T K D X M R V P S : Type 0} (F : Format A T K D X M R V P S) (wide : ℕ)
    (w : (r : R) → others_of (F.shape r) < wide) where
  mutual
    pub docs_nest : (l : V) (depth : ℕ) (ds : Docs) (y : Terminal) → docs_fit F l depth ds y ≡ true
        → NodesNest F.most_open wide depth (docs_say F l ds)
    docs_nest l depth no_docs y e = tt
    docs_nest l depth (doc p s bs q rest) y e =
        let r = row_of F l p in
        let ts = written F.language (F.tail r) q ++ docs_written F (F.behind l) 0 rest in
        let m = both_true (begins (written F.language (F.head l) p)) _ e in
        let n = both_true _ _ m.1 in
        let a = both_true _ _ n.1 in
        let b = both_true _ _ a.1 in
        let c = both_true _ _ b.1 in
        let z = blocks_nest r depth (others_of (F.shape r)) true bs (follow ts y) (slots_say F l p s) b.0 in
        let z0 = z.0 in
        let few = w r in
        (omega (arith, z0, few), (z.1, docs_nest (F.behind l) depth rest y c.1))

    blocks_nest : (r : R) (depth k : ℕ) (first : Bool) (bs : Blocks) (y : Terminal) (t : T)
        → blocks_fit F r depth k first bs y t ≡ true
        → (bodies_number (blocks_say F r bs) ≤ left first k) × BodiesNest F.most_open wide depth (blocks_say F r bs)
    blocks_nest r depth k first no_blocks y t e = (omega arith, tt)
    blocks_nest r depth k first (a_block h ds rest) y t e =
        let a = both_true _ _ e in
        let b = both_true _ _ a.1 in
        let n = both_true _ _ b.1 in
        let c = both_true _ _ n.1 in
        let z = blocks_nest r depth (fewer first k) false rest y (tells F.language (F.header r) h t) c.1 in
        let z0 = z.0 in
        let one = one_less F.language.allows (F.shape r) k first t a.0 in
        let inside = docs_nest (F.inside r) (depth + 1) ds (terminal close_brace []) c.0 in
        (omega (arith, z0, one), (ltb-true depth F.most_open b.0, (inside, z.1)))
