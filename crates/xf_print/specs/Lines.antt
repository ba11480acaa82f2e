-- The text of one operation, part by part.
use Rattle.std.specs.Prelude.{ℕ, ◌+◌, ◌*◌, List, [], ◌∷◌, ◌++◌, length, codes, decimal, replicate, Bool, true, false}
use Rattle.std.specs.Prelude.{if◌then◌else◌}
use Rattle.xf_type.specs.declared.payload_type.PayloadType.{PayloadType}
use Rattle.xf_grammar.specs.Grammar.{Gap, line, begun, written}
use Rattle.xf_grammar.specs.Layout.{gap_text, text}
use Rattle.xf_grammar.specs.Tree.{between, blocks_written, docs_written}
use Rattle.xf_format.specs.declared.row.FormatElement.{FormatElement}
use Rattle.xf_format.specs.declared.row.Level.TheVariants as level
use Rattle.xf_format.specs.declared.row.Row.{Row}
use Rattle.xf_format.specs.Format.{format, regions_of}
use Rattle.xf_format.specs.Rows.{bodies, header, slots, tail}
use Rattle.xf_format.specs.Rules.{language, slots_rule}
use Rattle.xf_ir.specs.declared.kind.Kind.{Kind}
use Rattle.xf_ir.specs.declared.op.Module.{Module}
use Rattle.xf_ir.specs.Placed.{functions_of}
use Rattle.xf_ir.specs.Tree.{Ops, no_ops, Regions, Tree, cons}
use Rattle.xf_printed.specs.Fills.{rule_text, slots_fill}
use Rattle.xf_printed.specs.Names.{Names, no_names, first_of, number_of, with_ops}
use Rattle.xf_printed.specs.PrintedForm.{functions_docs, header_of, is_empty_yield, ops_docs, regions_blocks, row_of}
use Rattle.xf_printed.specs.PrintedForm.{word_of}

-- the row of an operation
unfoldable pub op_row : Kind → Row
op_row k = row_of k

-- slots of an operation, behind a gap of their own or another
abbrev pub slots_text : Names → Tree → List FormatElement → List ℕ
slots_text names t ss = rule_text (slots_rule ss) (slots_fill names (first_of (names.entry t.name.0)) t ss)

abbrev pub begun_text : Gap → Names → Tree → List FormatElement → List ℕ
begun_text g names t ss =
    text (begun g (written language (slots_rule ss) (slots_fill names (first_of (names.entry t.name.0)) t ss)))

-- ---- heads

-- `:2`; one result has no count
abbrev pub count_text : List PayloadType → List ℕ
count_text (t ∷ []) = []
count_text ts = codes ":" ++ decimal (length ts)

-- `%4 = `, `%4:2 = `, or nothing for no results
abbrev pub results_text : ℕ → List PayloadType → List ℕ
results_text k [] = []
results_text k ts = codes "%" ++ (decimal k ++ (count_text ts ++ codes " = "))

abbrev pub head_text : Names → Tree → List ℕ
head_text names t = results_text (number_of (names.entry t.name.0)) t.results ++ word_of t.kind

-- up to the blocks
unfoldable pub opening : Names → Tree → List ℕ
opening names t = head_text names t ++ slots_text names t (slots (op_row t.kind))

-- behind them
unfoldable pub tail_text : Names → Tree → List ℕ
tail_text names t = slots_text names t (tail (op_row t.kind))

-- ---- blocks

-- what begins a block, the first one or another
abbrev pub brace_text : Row → Bool → List ℕ
brace_text r true = codes " {"
brace_text r false = text (between (regions_of (bodies r)) false) ++ codes " {"

unfoldable pub header_text : Names → ℕ → Tree → List ℕ
header_text names margin t = begun_text (line margin) names t (header (op_row t.kind))

unfoldable pub opened_text : Names → ℕ → Tree → Bool → List ℕ
opened_text names margin t first = brace_text (op_row t.kind) first ++ header_text names margin t

-- the operations of a block
unfoldable pub ops_text : Names → ℕ → Ops → List ℕ
ops_text names margin ops = text (docs_written format level.Body margin (ops_docs names ops))

unfoldable pub block_text : Names → ℕ → Tree → Bool → Ops → List ℕ
block_text names margin t first ops = opened_text names margin t first ++ ops_text names (margin + 1) ops

-- what begins the line that ends a block, behind its line feed
abbrev pub closed : ℕ → List ℕ
closed margin = replicate (2 * margin) 32 ++ codes "}"

-- and with it
unfoldable pub closing : ℕ → List ℕ
closing margin = 10 ∷ closed margin

unfoldable pub blocks_text : Names → ℕ → Tree → Bool → Regions → List ℕ
blocks_text names margin t first rs =
    text (blocks_written format (op_row t.kind) margin first (regions_blocks names (header_of names t) rs))

-- ---- operations

-- the blocks, and what stands behind them
unfoldable pub rest_text : Names → ℕ → Tree → Bool → Regions → List ℕ
rest_text names margin t first rs = blocks_text names margin t first rs ++ tail_text names t

unfoldable pub tree_text : Names → ℕ → Tree → List ℕ
tree_text names margin t = gap_text (line margin) ++ (opening names t ++ rest_text names margin t true t.regions)

abbrev pub op_text : Names → ℕ → Tree → List ℕ
op_text names margin t = if is_empty_yield t.kind t.attrs t.operands then [] else tree_text names margin t

-- ---- functions and the module

unfoldable pub function_text : Tree → List ℕ
function_text t = tree_text (with_ops no_names (cons t no_ops)) 1 t

unfoldable pub functions_text : Ops → List ℕ
functions_text fs = text (docs_written format level.Functions 1 (functions_docs fs))

-- the end of a module, and the last line
unfoldable pub end_text : Names → Tree → List ℕ
end_text names t = (closing 0 ++ tail_text names t) ++ codes "\n"

unfoldable pub end_line : Names → Tree → List ℕ
end_line names t = (closed 0 ++ tail_text names t) ++ 10 ∷ []

-- a module behind its opening
unfoldable pub body_text : Names → Module → List ℕ
body_text names m = opened_text names 0 m.root true ++ (functions_text (functions_of m) ++ end_text names m.root)

-- ---- lines

-- lines with their line feeds, of a text that begins each of them with one
abbrev pub fed : List ℕ → List ℕ
fed [] = []
fed (b ∷ bs) = bs ++ 10 ∷ []

-- the text of a line that is there or not
abbrev pub some_text : Bool → List ℕ → List ℕ
some_text true bytes = bytes
some_text false bytes = []
