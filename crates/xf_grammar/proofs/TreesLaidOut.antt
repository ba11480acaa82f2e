-- Operations as they are written are laid out, where their fillings fit and each token of these is one that the lexer
-- reads.
use Rattle.std.proofs.Common.{◌≡◌, ℕ, ◌+◌, Bool, true, false, List, [], ◌∷◌, ◌++◌, refl, sym, subst}
use Rattle.xf_lex.specs.Layout.{AllBlank}
use Rattle.xf_grammar.specs.Tokens.{Terminal, comma, open_brace, close_brace}
use Rattle.xf_grammar.specs.Grammar.{Grammar, take, peek, need, both, listed, scan, Language, Gap, none, blank, line}
use Rattle.xf_grammar.specs.Grammar.{Spaced, tokens_of, Fill, yes, here, other, two, list, run, run_written}
use Rattle.xf_grammar.specs.Grammar.{more_written, begun, written}
use Rattle.xf_grammar.specs.Layout.{text}
use Rattle.xf_grammar.specs.Tree.{Shape, bare, regions, Format, Docs, no_docs, doc, Blocks, no_blocks, a_block, row_of}
use Rattle.xf_grammar.specs.Tree.{between, docs_written, blocks_written, docs_fit}
use Rattle.xf_grammar.specs.Apart.{Lexemes, Before, a_gap, a_token, before, stands, is_gap, apart, IsLaidOut, Classes}
use Rattle.xf_grammar.specs.Apart.{Classed, RowsApart, FillLexes, DocsLex, BlocksLex, ShapeLexes}
use Rattle.xf_grammar.proofs.Basics.{both_true, and_is, same_tokens}
use Rattle.xf_grammar.proofs.LaidOut.{low_utf8, known_token, laid_out}
use Rattle.xf_grammar.proofs.TreesApart.{docs_apart}

-- ---- grammars

lexes_both : (ps qs : List Spaced) → Lexemes (tokens_of ps) → Lexemes (tokens_of qs) → Lexemes (tokens_of (ps ++ qs))
lexes_both [] qs a b = b
lexes_both (p ∷ ps) qs a b = (a.0, lexes_both ps qs a.1 b)

begun_lexes : (g : Gap) (ps : List Spaced) → Lexemes (tokens_of ps) → Lexemes (tokens_of (begun g ps))
begun_lexes g ps h = subst Lexemes (sym (same_tokens g ps)) h

run_lexes : {A T K D X M : Type 0} (L : Language A T K D X M) (m : M) (xs : List Terminal) → Lexemes xs
    → Lexemes (tokens_of (run_written L m xs))
run_lexes L m [] h = tt
run_lexes L m (x ∷ xs) h = (h.0, run_lexes L _ xs h.1)

more_lexes : (W : Fill → List Spaced) → ((p : Fill) → FillLexes p → Lexemes (tokens_of (W p))) → (p : Fill)
    → FillLexes p → Lexemes (tokens_of (more_written W p))
more_lexes W f (list p r) h = (
  known_token comma [] refl refl refl,
  lexes_both _ _ (begun_lexes blank (W p) (f p h.0)) (more_lexes W f r h.1),
)
more_lexes W f p h = tt

written_lexes : {A T K D X M : Type 0} (L : Language A T K D X M) (g : Grammar K D X M) (p : Fill) → FillLexes p
    → Lexemes (tokens_of (written L g p))
written_lexes L (take gap keep x on off) (yes s p) h = (h.0, written_lexes L on p h.1)
written_lexes L (take gap keep x on off) (other p) h = written_lexes L off p h
written_lexes L (peek x on off) (here p) h = written_lexes L on p h
written_lexes L (peek x on off) (other p) h = written_lexes L off p h
written_lexes L (need k on) p h = written_lexes L on p h
written_lexes L (both g k) (two p q) h = lexes_both _ _ (written_lexes L g p h.0) (written_lexes L k q h.1)
written_lexes L (listed g) (list p r) h =
    lexes_both _ _ (written_lexes L g p h.0) (more_lexes _ (λ q z. written_lexes L g q z) r h.1)
written_lexes L (scan m) (run xs) h = run_lexes L m xs h
written_lexes L g p h = tt

-- ---- trees

between_lexes : {X : Type 0} (s : Shape X) (first : Bool) → ShapeLexes s → Lexemes (tokens_of (between s first))
between_lexes bare first h = tt
between_lexes (regions gap x t o) true h = tt
between_lexes (regions gap x t o) false h = (h, tt)

end_of_text : AllBlank (10 ∷ [])
end_of_text = (refl, tt)

-- the first token may also stand at the very beginning
first_apart : (ps : List Spaced) → apart a_gap ps ≡ true → apart a_gap (begun none ps) ≡ true
first_apart [] h = refl
first_apart (p ∷ ps) h = let e = both_true _ _ h in
    and_is _ _ (no_gap (before p.token) (is_gap p.gap) e.0) e.1
  where
    no_gap : (c : Before) (g : Bool) → stands a_gap g c ≡ true → stands a_gap false c ≡ true
    no_gap a_gap g h = h
    no_gap (a_token k t) g h = h

module _ {A T K D X M R V P S : Type 0} (F : Format A T K D X M R V P S) (shapes : (r : R) → ShapeLexes (F.shape r))
  where
    mutual
      docs_lexes : (l : V) (margin : ℕ) (ds : Docs) → DocsLex ds → Lexemes (tokens_of (docs_written F l margin ds))
      docs_lexes l margin no_docs h = tt
      docs_lexes l margin (doc p s bs q rest) h =
          let L = F.language in
          let r = row_of F l p in
          let hs = written L (F.head l) p in
          lexes_both _ _ (begun_lexes (line margin) hs (written_lexes L (F.head l) p h.0))
          (lexes_both _ _ (written_lexes L (F.slots r) s h.1.0) (lexes_both _ _ (blocks_lexes r margin true bs h.1.1.0)
          (lexes_both _ _ (written_lexes L (F.tail r) q h.1.1.1.0) (docs_lexes (F.behind l) margin rest h.1.1.1.1))))

      blocks_lexes : (r : R) (margin : ℕ) (first : Bool) (bs : Blocks) → BlocksLex bs
          → Lexemes (tokens_of (blocks_written F r margin first bs))
      blocks_lexes r margin first no_blocks h = tt
      blocks_lexes r margin first (a_block p ds rest) h =
          let hs = written F.language (F.header r) p in
          lexes_both _ _ (between_lexes (F.shape r) first (shapes r)) (
            known_token open_brace [] refl refl refl,
            lexes_both _ _ (begun_lexes (line margin) hs (written_lexes F.language (F.header r) p h.0)) (lexes_both _ _
                (docs_lexes (F.inside r) (margin + 1) ds h.1.0)
                (known_token close_brace [] refl refl refl, blocks_lexes r margin false rest h.1.1)),
          )

-- a text that ends in a line feed
pub docs_laid_out : {A T K D X M R V P S : Type 0} (F : Format A T K D X M R V P S) (C : Classes K X M)
    → Classed F.language C → RowsApart F C → ((r : R) → ShapeLexes (F.shape r))
    → (l : V) (depth : ℕ) (ds : Docs) (y : Terminal) → docs_fit F l depth ds y ≡ true → DocsLex ds
    → IsLaidOut (text (begun none (docs_written F l 0 ds)) ++ 10 ∷ []) (tokens_of (docs_written F l 0 ds))
docs_laid_out F C w rows shapes l depth ds y fit lex =
    let ps = docs_written F l 0 ds in
    let lexes = begun_lexes none ps (docs_lexes F shapes l 0 ds lex) in
    subst (IsLaidOut (text (begun none ps) ++ 10 ∷ [])) (same_tokens none ps)
    (laid_out _ _ (first_apart ps (docs_apart F C w rows l 0 depth ds y a_gap fit)) lexes end_of_text (low_utf8 _ refl))
