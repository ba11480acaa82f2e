-- A text that is read has no more operations than a text may have; and a yield is left out by what is said where it is
-- by what is read.
use Rattle.std.proofs.Common.{◌≡◌, ◌≤◌, List, refl, ap, arith}
use Rattle.std.specs.Prelude.{not, ◌&&◌}
use Rattle.xf_lex.specs.declared.token.Token.{Token}
use Rattle.xf_grammar.proofs.TreesSaid.{same_end}
use Rattle.xf_format.specs.declared.parts.Parts.{Parts}
use Rattle.xf_format.specs.Format.{ends_open, most_operations}
use Rattle.xf_format.specs.Parts.{said}
use Rattle.xf_format.specs.Rows.{is_yield}
use Rattle.xf_syntax.specs.declared.tree.File.{File}
use Rattle.xf_syntax.specs.Laws.{IsText}
use Rattle.xf_syntax.specs.Telling.{Nodes, nodes_said}
use Rattle.xf_syntax.specs.Telling.{lacks_yield as lacks_read}
use Rattle.xf_syntax.proofs.Texts.{texts_are_written}
use Rattle.xf_read.specs.Meant.{lacks_yield, file_count}

pub lacks_is : (all : List Token) (p : Parts) (ns : Nodes) → lacks_yield (said all p) (nodes_said all ns) ≡ lacks_read
    p ns
lacks_is all p ns =
    ap (λ b. ends_open p.row p.results && not b) (same_end (λ q. q.row) (λ t. t.row) (said all) (λ q. refl) is_yield ns)

pub few_operations : (all : List Token) (file : File) → IsText all file → file_count all file ≤ most_operations
few_operations all file text =
    let few = (texts_are_written all file text).1.1.number in
    omega (arith, few)
