-- The table of slots: what each of them says, what an operation must have for it, and which tokens may not stand
-- behind it; and rows of slots by tests over it.
use Rattle.std.proofs.Common.{ℕ, suc, Bool, true, false, List, [], ◌∷◌, length, drop, Option}
use Rattle.std.proofs.Common.{Some, None, slice_get}
use Rattle.std.specs.Prelude.{not, ◌&&◌, ◌||◌, codes, is_some}
use Rattle.xf_type.specs.declared.kind.CmpKind.{CmpKind}
use Rattle.xf_lex.specs.declared.token.TokenKind.{TokenKind}
use Rattle.xf_lex.specs.declared.token.TokenKind.TheVariants as token
use Rattle.xf_grammar.specs.Tokens.{Terminal, terminal, is_kind, is_word, comma, minus, colon}
use Rattle.xf_grammar.specs.Tokens.{open_brace}
use Rattle.xf_grammar.specs.Grammar.{Fill}
use Rattle.xf_format.specs.declared.row.FormatElement.{FormatElement}
use Rattle.xf_format.specs.declared.row.FormatElement.TheVariants as slot
use Rattle.xf_format.specs.Parts.{Said, says_predicate, says_literal, says_type}
use Rattle.xf_format.specs.Words.{spelling}
use Rattle.xf_ir.specs.declared.kind.Kind.{Kind}
use Rattle.xf_ir.specs.declared.kind.Kind.TheVariants as kind
use Rattle.xf_ir.specs.Kinds.{returned_types}
use Rattle.xf_ir.specs.Lists.{every, is_empty}
use Rattle.xf_ir.specs.Tree.{Tree}
use Rattle.xf_printed.specs.Fills.{widths_of, symbol_printed}
use Rattle.xf_printed.specs.Fills.{is_private, slots_fill}
use Rattle.xf_printed.specs.Names.{Names, first_args, first_of, argument_text}
use Rattle.xf_print_laws.specs.SaidPrinted.{predicate_printed, constant_printed, literal_printed}
use Rattle.xf_print_laws.proofs.Goes.{add_args}
use Rattle.xf_print_laws.proofs.LayoutTokens.{is_mark}
use Rattle.xf_print_laws.proofs.Lists.{with_attrs, with_values, with_types_of}
use Rattle.xf_print_laws.proofs.Lists.{with_operands, with_results, with_arguments, with_carried}
use Rattle.xf_print_laws.proofs.Single.{with_use, with_width, with_symbol, with_privacy}
use Rattle.xf_type.specs.declared.payload_type.PayloadType.TheVariants.{Scalar}
use Rattle.std.proofs.Common.{◌==◌}
use Rattle.xf_ir.specs.Types.{is_scalar}
use Rattle.xf_printed.specs.Fills.{operand_type}
use Rattle.xf_print_laws.specs.SaidPrinted.{known_types}
use Rattle.xf_print_laws.proofs.Goes.{add_types}
use Rattle.xf_print_laws.proofs.Needs.{is_tensor}
use Rattle.std.specs.Prelude.{◌-◌, take}
use Rattle.xf_print_laws.proofs.Lists.{with_out}
use Rattle.xf_type.specs.declared.payload_type.PayloadType.TheVariants.{Tensor}
use Rattle.xf_format.specs.declared.row.Side.TheVariants.{Offsets, Sizes}
use Rattle.xf_format.specs.Parts.{says_body, elements}
use Rattle.xf_printed.specs.Structured.{maps_of, iterators_of}
use Rattle.xf_printed.specs.Structured.{offsets_printed, sizes_printed}
use Rattle.xf_print_laws.specs.SaidPrinted.{body_printed}
use Rattle.xf_print_laws.proofs.Maps.{with_maps}
use Rattle.xf_print_laws.proofs.Structured.{with_places, with_iterators}

-- ---- what slots say

abbrev pub literal_says : Kind → Said → Said
literal_says (kind.Constant w bits) d = says_type (Scalar w) (says_literal (literal_printed w bits) d)
literal_says (kind.Dense shape numbers) d =
    says_type (Tensor shape) (says_body (body_printed shape numbers) (says_literal elements d))
literal_says _ d = d

abbrev pub predicate_says : Option CmpKind → Said → Said
predicate_says None d = d
predicate_says (Some which) d = says_predicate which d

abbrev pub first_in : Names → Tree → ℕ
first_in names t = first_of (names.entry t.name.0)

module _ (names : Names) (t : Tree) where
  abbrev pub slot_says : FormatElement → Said → Said
  slot_says slot.ModuleName d = with_symbol (symbol_printed t.kind) d
  slot_says slot.FunctionName d = with_symbol (symbol_printed t.kind) (with_privacy (is_private t.kind) d)
  slot_says slot.Symbol d = with_symbol (symbol_printed t.kind) d
  slot_says slot.Attributes d = with_attrs t.attrs d
  slot_says slot.Dictionary d = with_attrs t.attrs d
  slot_says slot.Literal d = literal_says t.kind d
  slot_says slot.Predicate d = predicate_says (predicate_printed t.kind) d
  slot_says slot.Argument d = add_args d (argument_text (first_in names t) ∷ [])
  slot_says (slot.Use i) d = with_use names (slice_get t.operands i) d
  slot_says (slot.Width i) d = with_width (slice_get (widths_of t.kind) i) d
  slot_says (slot.Uses k b) d = with_values names (drop k t.operands) d
  slot_says (slot.TypeOf i) d = add_types d (known_types (operand_type names t i ∷ []))
  slot_says (slot.TensorOf i) d = add_types d (known_types (operand_type names t i ∷ []))
  slot_says (slot.WidthOf i) d = add_types d (known_types (operand_type names t i ∷ []))
  slot_says slot.Ins d = with_operands names (take (length t.operands - 1) t.operands) d
  slot_says slot.Outs d = with_out names (slice_get t.operands (length t.operands - 1)) d
  slot_says slot.ResultType d = with_results (known_types (slice_get t.results 0 ∷ [])) d
  slot_says slot.ResultTensor d = with_results (known_types (slice_get t.results 0 ∷ [])) d
  slot_says slot.Types d = with_types_of names t.operands d
  slot_says slot.Params d = with_arguments (first_in names t) (first_args t.regions) d
  slot_says slot.Operands d = with_operands names t.operands d
  slot_says slot.CallResults d = with_results t.results d
  slot_says slot.FunctionResults d = with_results (returned_types t.kind) d
  slot_says slot.IfResults d = with_results t.results d
  slot_says slot.IterArgs d = with_carried names (suc (first_in names t)) (drop 3 t.operands) t.results d
  slot_says slot.LoopWidth d = with_width (slice_get (widths_of t.kind) 0) d
  slot_says (slot.Places Offsets) d = with_places names Offsets (offsets_printed t.kind t.operands) d
  slot_says (slot.Places Sizes) d = with_places names Sizes (sizes_printed t.kind t.operands) d
  slot_says slot.Maps d = with_maps (maps_of t.kind) d
  slot_says slot.Iterators d = with_iterators (iterators_of t.kind) d
  slot_says slot.SomeIns d = with_operands names (take (length t.operands - 1) t.operands) d
  slot_says slot.MarkedAttributes d = with_attrs t.attrs d
  slot_says slot.BlockParams d = with_arguments (first_in names t) (first_args t.regions) d
  slot_says s d = d

  abbrev pub slots_say : List FormatElement → Said → Said
  slots_say [] d = d
  slots_say (s ∷ ss) d = slots_say ss (slot_says s d)

  -- what they are filled with
  abbrev pub filled : List FormatElement → Fill
  filled ss = slots_fill names (first_in names t) t ss

-- ---- which operations have them

abbrev pub is_loop : Kind → Bool
is_loop (kind.For width) = true
is_loop _ = false

module _ (names : Names) (t : Tree) where
  abbrev pub offers : FormatElement → Bool
  offers (slot.Mark gap b) = is_mark b
  offers slot.FunctionName = is_some (symbol_printed t.kind)
  offers slot.Symbol = is_some (symbol_printed t.kind)
  offers slot.Literal = is_some (constant_printed t.kind)
  offers slot.Predicate = is_some (predicate_printed t.kind)
  offers (slot.Use i) = is_some (slice_get t.operands i)
  offers (slot.Width i) = is_some (slice_get (widths_of t.kind) i)
  offers slot.IterArgs = is_loop t.kind
  offers slot.LoopWidth = is_some (slice_get (widths_of t.kind) 0)
  offers (slot.Uses k b) = (b == 41) || (b == 93)
  offers (slot.TypeOf i) = is_some (slice_get t.operands i)
  offers (slot.TensorOf i) = is_tensor (operand_type names t i)
  offers slot.ResultType = is_some (slice_get t.results 0)
  offers slot.ResultTensor = is_tensor (slice_get t.results 0)
  offers (slot.WidthOf i) = is_scalar (operand_type names t i)
  offers slot.Ins = not (is_empty (take (length t.operands - 1) t.operands))
  offers slot.Outs = is_some (slice_get t.operands (length t.operands - 1))
  offers s = true

-- ---- what stands behind them

-- tokens that may not stand behind a slot
pub data Stop : Type 0 where
  a_kind : (k : TokenKind) → Stop
  a_word : (w : List ℕ) → Stop

abbrev pub avoids : Terminal → Stop → Bool
avoids y (a_kind k) = not (is_kind k y)
avoids y (a_word w) = not (is_word w y)

abbrev pub stops : FormatElement → List Stop
stops slot.ModuleName = a_kind token.Symbol ∷ []
stops slot.Attributes = a_word (codes "attributes") ∷ []
stops slot.Dictionary = a_kind open_brace ∷ []
stops (slot.Use i) = a_kind token.Hash ∷ []
stops slot.Operands = a_kind token.Value ∷ (a_kind comma ∷ [])
stops slot.FunctionResults = a_kind token.Arrow ∷ []
stops slot.IfResults = a_kind token.Arrow ∷ []
stops slot.IterArgs = a_word (codes "iter_args") ∷ []
stops slot.LoopWidth = a_kind colon ∷ []
stops slot.SomeIns = a_word (codes "ins") ∷ []
stops slot.MarkedAttributes = a_word (codes "attrs") ∷ []
stops s = []

-- the tokens that a slot may begin with, with bytes or without; none where nothing is said of them
abbrev pub firsts : FormatElement → List Terminal
firsts (slot.Mark gap b) = terminal (token.Mark b) [] ∷ []
firsts (slot.Word gap k) = terminal token.Word (spelling k) ∷ []
firsts slot.Attributes = terminal token.Word (codes "attributes") ∷ []
firsts slot.Dictionary = terminal open_brace [] ∷ []
firsts slot.Literal =
    terminal token.Word (codes "true") ∷
    (terminal token.Word (codes "false") ∷
    (terminal minus [] ∷ (terminal token.Integer [] ∷ (terminal token.Word (codes "dense") ∷ []))))
firsts (slot.Use i) = terminal token.Value [] ∷ []
firsts slot.Ins = terminal token.Word (codes "ins") ∷ []
firsts slot.Arrow = terminal token.Arrow [] ∷ []
firsts slot.Outs = terminal token.Word (codes "outs") ∷ []
firsts slot.Operands = terminal token.Value [] ∷ []
firsts slot.IfResults = terminal token.Arrow [] ∷ []
firsts slot.IterArgs = terminal token.Word (codes "iter_args") ∷ []
firsts slot.LoopWidth = terminal colon [] ∷ []
firsts s = []

-- those that may be empty, of which that is said
abbrev pub may_skip : FormatElement → Bool
may_skip slot.Attributes = true
may_skip slot.Dictionary = true
may_skip slot.Operands = true
may_skip slot.IfResults = true
may_skip slot.IterArgs = true
may_skip slot.LoopWidth = true
may_skip s = false

abbrev pub none_of : List Stop → Terminal → Bool
none_of xs y = every (avoids y) xs

abbrev pub meets_none : List Stop → List Terminal → Bool
meets_none xs [] = is_empty xs
meets_none xs (y ∷ []) = none_of xs y
meets_none xs ys = every (none_of xs) ys

-- whether slots before a token begin with none of these
abbrev pub clear : List Stop → List FormatElement → Terminal → Bool
clear xs [] y = none_of xs y
clear xs (s ∷ ss) y = meets_none xs (firsts s) && (not (may_skip s) || clear xs ss y)

-- whether what stands behind each slot may stand there
abbrev pub apart : List FormatElement → Terminal → Bool
apart [] y = true
apart (s ∷ ss) y = clear (stops s) ss y && apart ss y
