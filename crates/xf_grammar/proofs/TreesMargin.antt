-- The margin of a tree is no token.
use Rattle.std.proofs.Common.{◌≡◌, ℕ, ◌+◌, Bool, true, false, List, [], ◌∷◌, ◌++◌, refl, sym, ap, subst, ◌∙◌}
use Rattle.std.proofs.lemmas.List.{map-append}
use Rattle.xf_lex.specs.declared.token.Token.{Token}
use Rattle.xf_grammar.specs.Tokens.{terminal, open_brace, close_brace}
use Rattle.xf_grammar.specs.Grammar.{Gap, Spaced, tokens_of, begun, written, AllStand}
use Rattle.xf_grammar.specs.Tree.{Format, between, Docs, no_docs, doc, Blocks, no_blocks, a_block, row_of, docs_written}
use Rattle.xf_grammar.specs.Tree.{blocks_written}
use Rattle.xf_grammar.proofs.Basics.{same_tokens}

-- one text behind another
behind : (a b c d : List Spaced) → tokens_of a ≡ tokens_of b → tokens_of c ≡ tokens_of d
    → tokens_of (a ++ c) ≡ tokens_of (b ++ d)
behind a b c d e g = map-append (λ (p : Spaced). p.token) a c ∙ (ap (λ ts. ts ++ tokens_of c) e
    ∙ (ap (λ ts. tokens_of b ++ ts) g ∙ sym (map-append (λ (p : Spaced). p.token) b d)))

begun_same : (g h : Gap) (ps : List Spaced) → tokens_of (begun g ps) ≡ tokens_of (begun h ps)
begun_same g h ps = same_tokens g ps ∙ sym (same_tokens h ps)

module _ {A T K D X M R V P S : Type 0} (F : Format A T K D X M R V P S) where
  mutual
    pub docs_margin : (l : V) (m n : ℕ) (ds : Docs)
        → tokens_of (docs_written F l m ds) ≡ tokens_of (docs_written F l n ds)
    docs_margin l m n no_docs = refl
    docs_margin l m n (doc p s bs q rest) =
        let r = row_of F l p in
        let hs = written F.language (F.head l) p in
        let ss = written F.language (F.slots r) s in
        let ts = written F.language (F.tail r) q in
        behind _ _ _ _ (begun_same _ _ hs) (behind ss ss _ _ refl (behind _ _ _ _ (blocks_margin r m n true bs)
        (behind ts ts _ _ refl (docs_margin _ m n rest))))

    pub blocks_margin : (r : R) (m n : ℕ) (first : Bool) (bs : Blocks)
        → tokens_of (blocks_written F r m first bs) ≡ tokens_of (blocks_written F r n first bs)
    blocks_margin r m n first no_blocks = refl
    blocks_margin r m n first (a_block h ds rest) =
        let hs = written F.language (F.header r) h in
        let b = between (F.shape r) first in
        behind b b _ _ refl (ap (λ ts. terminal open_brace [] ∷ ts) (behind _ _ _ _ (begun_same _ _ hs) (behind _ _ _ _
        (docs_margin _ (m + 1) (n + 1) ds) (ap (λ ts. terminal close_brace [] ∷ ts) (blocks_margin r m n false rest)))))

  pub docs_stand : (l : V) (m n : ℕ) (ds : Docs) (all : List Token) (at next : ℕ)
      → AllStand all at (tokens_of (docs_written F l m ds)) next
      → AllStand all at (tokens_of (docs_written F l n ds)) next
  docs_stand l m n ds all at next s = subst (λ ts. AllStand all at ts next) (docs_margin l m n ds) s
