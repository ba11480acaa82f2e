-- The body of a dense constant, as bytes.
use Rattle.std.specs.Prelude.{ℕ, List, ◌++◌, codes, true, false}
use Rattle.xf_type.specs.declared.payload_type.Shape.{Shape}
use Rattle.xf_grammar.specs.Grammar.{run, scan}
use Rattle.xf_dense.specs.Machine.{start}
use Rattle.xf_dense.specs.Nests.{LiteralToken, truth, integer, truth_word, Nest, Nests, leaf, list, last, next}
use Rattle.xf_printed.specs.Fills.{rule_text}
use Rattle.xf_printed.specs.Structured.{body_printed}

-- as its rule writes it
unfoldable pub body_text : Shape → List ℕ → List ℕ
body_text shape ns = rule_text (scan start) (run (body_printed shape ns))

abbrev pub literal_text : LiteralToken → List ℕ
literal_text (truth b) = truth_word b
literal_text (integer false digits) = digits
literal_text (integer true digits) = codes "-" ++ digits

-- a comma and a blank stand between items
abbrev mutual
  pub nest_text : Nest → List ℕ
  nest_text (leaf x) = literal_text x
  nest_text (list items) = codes "[" ++ (nests_text items ++ codes "]")

  pub nests_text : Nests → List ℕ
  nests_text (last t) = nest_text t
  nests_text (next t ts) = nest_text t ++ (codes ", " ++ nests_text ts)
