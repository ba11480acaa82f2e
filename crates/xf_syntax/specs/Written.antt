-- Texts as the format writes them, and what they say.
use Rattle.std.specs.Prelude.{◌≡◌, ◌⊎◌, ℕ, ◌≤◌, List, length, true, false, codes}
use Rattle.xf_lex.specs.declared.token.Token.{Token}
use Rattle.xf_grammar.specs.Tokens.{Terminal, the_end, is_word}
use Rattle.xf_grammar.specs.Grammar.{tokens_of, Fill, first_seen, AllStand}
use Rattle.xf_grammar.specs.Tree.{Docs, no_docs, doc, Blocks, docs_written, docs_fit, docs_say, operations}
use Rattle.xf_grammar.specs.Tree.{SaidNodes, no_nodes_said, node_said, no_bodies_said, body_said, bodies_said}
use Rattle.xf_format.specs.declared.row.Level.TheVariants as level
use Rattle.xf_format.specs.Format.{most_operations, format}
use Rattle.xf_format.specs.Parts.{Said, said, nothing_said}
use Rattle.xf_syntax.specs.declared.tree.File.{File}
use Rattle.xf_syntax.specs.Laws.{IsText}

-- what a text says
abbrev pub file_said : List Token → File → SaidNodes Said
file_said all file = node_said (said all file.root.parts) (bodies_said (said all) file.root.bodies) no_nodes_said

-- operations so filled, inside so many open regions, are these tokens up to the end of a text, fit there and say this
pub record AreFilled (depth : ℕ) (ds : Docs) (ps : List Terminal) (ns : SaidNodes Said) : Type 0 where
  pub tokens : tokens_of (docs_written format level.File 0 ds) ≡ ps
  pub fit : docs_fit format level.File depth ds the_end ≡ true
  pub says : docs_say format level.File ds ≡ ns

-- a module
abbrev pub ModuleWritten : List Terminal → SaidNodes Said → Type 0
ModuleWritten ps ns =
    (is_word (codes "module") (first_seen ps the_end) ≡ true)
    × ((p : Fill) × ((s : Fill) × ((bs : Blocks) × ((q : Fill) × AreFilled 0 (doc p s bs q no_docs) ps ns))))

-- what functions alone say, of a module that is left out
abbrev pub functions_say : SaidNodes Said → SaidNodes Said
functions_say fs = node_said nothing_said (body_said fs no_bodies_said) no_nodes_said

-- functions alone
abbrev pub FunctionsWritten : List Terminal → SaidNodes Said → Type 0
FunctionsWritten ps ns =
    (is_word (codes "module") (first_seen ps the_end) ≡ false)
    × ((ds : Docs) × ((fs : SaidNodes Said) × ((ns ≡ functions_say fs) × AreFilled 1 ds ps fs)))

-- these tokens are a whole text that says so much: one module, within the limits
pub record IsWritten (ps : List Terminal) (ns : SaidNodes Said) : Type 0 where
  pub tokens : ModuleWritten ps ns ⊎ FunctionsWritten ps ns
  pub number : operations format ns ≤ most_operations

-- ---- laws

-- a text that is read is written, and says what was read
abbrev pub TextsAreWritten : Type 0
TextsAreWritten = (all : List Token) (file : File) → IsText all file
    → (ps : List Terminal) × (AllStand all 0 ps (length all) × IsWritten ps (file_said all file))

-- a text that is written is read, as what it says
abbrev pub TextsReadAgain : Type 0
TextsReadAgain = (all : List Token) (ps : List Terminal) (ns : SaidNodes Said)
    → AllStand all 0 ps (length all) → IsWritten ps ns → (file : File) × (IsText all file × (file_said all file ≡ ns))
