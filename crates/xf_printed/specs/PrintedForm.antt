-- The printed form of a module: what its operations write for the slots of their rows.
use Rattle.std.specs.Prelude.{ℕ, List, [], ◌∷◌, ◌++◌, codes, Bool, true, false, if◌then◌else◌}
use Rattle.xf_grammar.specs.Grammar.{none, begun, Fill}
use Rattle.xf_grammar.specs.Layout.{text}
use Rattle.xf_grammar.specs.Tree.{Docs, no_docs, doc, Blocks, no_blocks, a_block, docs_written}
use Rattle.xf_format.specs.declared.row.Level.TheVariants as level
use Rattle.xf_format.specs.declared.row.Row.{Row}
use Rattle.xf_format.specs.Format.{format}
use Rattle.xf_format.specs.Rows.{words, slots, header, tail}
use Rattle.xf_format.specs.Words.{lookup, the_row}
use Rattle.xf_ir.specs.declared.kind.Attr.{Attr}
use Rattle.xf_ir.specs.declared.kind.Kind.{Kind}
use Rattle.xf_ir.specs.declared.kind.Kind.TheVariants as kind
use Rattle.xf_ir.specs.declared.name.ValueName.{ValueName}
use Rattle.xf_ir.specs.declared.op.Module.{Module}
use Rattle.xf_ir.specs.Placed.{functions_of}
use Rattle.xf_ir.specs.Spelling.{spelling}
use Rattle.xf_ir.specs.Tree.{Ops, no_ops, op, Regions, no_regions, region, Tree}
use Rattle.xf_printed.specs.Fills.{slots_fill, head_fill}
use Rattle.xf_printed.specs.Names.{Names, no_names, with_ops, first_of, number_of}

-- a yield that is left out: without operands and attributes
abbrev pub is_empty_yield : Kind → List Attr → List ValueName → Bool
is_empty_yield kind.Yield [] [] = true
is_empty_yield k ds os = false

-- the word of an operation: that of its kind, but a module has the short one
abbrev pub word_of : Kind → List ℕ
word_of (kind.Module symbol) = codes "module"
word_of k = spelling k

-- the row that its word begins
abbrev pub row_of : Kind → Row
row_of k = the_row (lookup words (word_of k))

-- ---- how an operation fills its row

abbrev pub head_of : Names → Tree → Fill
head_of names t = head_fill (number_of (names.entry t.name.0)) t.results (word_of t.kind)

abbrev pub slots_of : Names → Tree → Fill
slots_of names t = slots_fill names (first_of (names.entry t.name.0)) t (slots (row_of t.kind))

abbrev pub header_of : Names → Tree → Fill
header_of names t = slots_fill names (first_of (names.entry t.name.0)) t (header (row_of t.kind))

abbrev pub tail_of : Names → Tree → Fill
tail_of names t = slots_fill names (first_of (names.entry t.name.0)) t (tail (row_of t.kind))

-- ---- operations

abbrev mutual
  -- an empty yield is left out
  pub ops_docs : Names → Ops → Docs
  ops_docs names no_ops = no_docs
  ops_docs names (op n k ds os ts rs rest) =
      let t : Tree = record { name = n; kind = k; attrs = ds; operands = os; results = ts; regions = rs } in
      if is_empty_yield k ds os then ops_docs names rest
      else doc (head_of names t) (slots_of names t) (regions_blocks names (header_of names t) rs) (tail_of names t)
      (ops_docs names rest)

  -- each block begins with this header
  pub regions_blocks : Names → Fill → Regions → Blocks
  regions_blocks names h no_regions = no_blocks
  regions_blocks names h (region args ops rest) = a_block h (ops_docs names ops) (regions_blocks names h rest)

-- functions, each of which names its own values
abbrev pub functions_docs : Ops → Docs
functions_docs no_ops = no_docs
functions_docs (op n k ds os ts rs rest) =
    let names = with_ops no_names (op n k ds os ts rs no_ops) in
    let t : Tree = record { name = n; kind = k; attrs = ds; operands = os; results = ts; regions = rs } in
    doc (head_of names t) (slots_of names t) (regions_blocks names (header_of names t) rs) (tail_of names t)
    (functions_docs rest)

abbrev pub module_docs : Module → Docs
module_docs m =
    doc (head_of no_names m.root) (slots_of no_names m.root)
    (a_block (header_of no_names m.root) (functions_docs (functions_of m)) no_blocks)
    (tail_of no_names m.root) no_docs

-- the first line begins the text, and a line feed ends the last one
abbrev pub printed_form : Module → List ℕ
printed_form m = text (begun none (docs_written format level.File 0 (module_docs m))) ++ 10 ∷ []
