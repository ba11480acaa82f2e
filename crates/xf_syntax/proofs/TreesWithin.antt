-- What reading keeps of each operation of a text; each number in a tree is that of a token, and each token is of its
-- kind.
use Rattle.std.proofs.Common.{◌≡◌, inl, inr, ℕ, suc, ◌<◌, List, length, Result, Ok, Err, refl, subst, arith}
use Rattle.std.specs.Prelude.{codes}
use Rattle.xf_lex.specs.declared.token.Token.{Token}
use Rattle.xf_grammar.specs.Tokens.{is_word}
use Rattle.xf_grammar.proofs.TreesKept.{TreeKeeps, tree_keeps, not_end, nodes_kept, node_kept}
use Rattle.xf_format.specs.declared.expected.Stopped.{Stopped}
use Rattle.xf_format.specs.declared.parts.Parts.{Parts}
use Rattle.xf_format.specs.declared.row.Level.TheVariants as level
use Rattle.xf_format.specs.declared.row.Row.TheVariants as row
use Rattle.xf_format.specs.Actions.{Reading}
use Rattle.xf_format.specs.Format.{format}
use Rattle.xf_format.specs.Reading.{Gives}
use Rattle.xf_format.specs.Within.{PartsWithin}
use Rattle.xf_format.proofs.OfKind.{HasKinds, Inside, trees_of_kinds}
use Rattle.xf_format.proofs.Within.{Within, keeps_within, none_within, parts_on}
use Rattle.xf_syntax.specs.declared.tree.File.{File}
use Rattle.xf_syntax.specs.File.{payload_node_at, file_at}
use Rattle.xf_syntax.specs.Laws.{IsText}
use Rattle.xf_syntax.specs.Within.{FileHas, FileWithin, ReadWithin}
use Rattle.xf_syntax.proofs.Files.{file_read}

module _ (all : List Token) where
  -- what reading keeps of what is read, each operation of a text has, and the module, which may be left out
  abbrev Kept : (Parts → Type 0) → File → Type 0
  Kept Q file = FileHas (length all) Q file × Q file.root.parts

  file_kept : (W : ℕ → Reading → Type 0) (Q : Parts → Type 0) → TreeKeeps format all W Q → (f : ℕ) (x : File × ℕ)
      → file_at f all ≡ Ok x → Kept Q x.0
  unfolding payload_node_at
  file_kept W Q c f x e = elim (file_read f all x e) [
    | inl m ↦
        let k = node_kept format all W Q c (length all) f level.File 0 0 0
        (not_end (is_word (codes "module")) all 0 refl m.begins) m.root m.count x.1 m.read in
        subst (Kept Q) m.same ((k.1.1.0, (k.1.1.1.0, (k.1.1.1.1, tt))), k.1.1.1.0)
    | inr m ↦
        let k = nodes_kept format all W Q c (length all) f level.File 1 1 0 (omega arith) m.nodes m.count x.1 m.read in
        subst (Kept Q) m.same (k.1.1, c.parts 0 format.empty (omega arith) (c.start 0))
  ]

  pub text_kept : (W : ℕ → Reading → Type 0) (Q : Parts → Type 0) → TreeKeeps format all W Q → (file : File)
      → IsText all file → FileHas (length all) Q file × Q file.root.parts
  text_kept W Q c file text =
      file_kept W Q c (suc (length all)) (file, length all) (text (suc (length all)) (omega arith))

  -- ---- the numbers of tokens

  tree_within : TreeKeeps format all Within (PartsWithin (length all))
  tree_within = tree_keeps format all Within (PartsWithin (length all)) (keeps_within all)
      (λ at. none_within at row.Module) (λ at h le w. parts_on at (length all) h.parts le w.parts)

  pub text_within : (file : File) → IsText all file → FileWithin (length all) file
  text_within file text = (text_kept Within (PartsWithin (length all)) tree_within file text).0

  pub read_within : (o : Result File Stopped)
      → ((f : ℕ) → length all < f → Gives (λ file. (file, length all)) o (file_at f all)) → ReadWithin (length all) o
  read_within (Ok file) g = text_within file g
  read_within (Err e) g = tt

  -- ---- the kinds of tokens

  -- each part of an operation is a token of its kind
  pub text_of_kinds : (file : File) → IsText all file
      → FileHas (length all) (Inside all) file × Inside all file.root.parts
  text_of_kinds file text = text_kept (HasKinds all) (Inside all) (trees_of_kinds all) file text
