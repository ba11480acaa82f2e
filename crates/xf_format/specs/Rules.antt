-- The rules of the slots, as grammars.
use Rattle.std.specs.Prelude.{ℕ, List, [], ◌∷◌, ◌++◌, map, length, Bool, true, false, codes}
use Rattle.xf_lex.specs.declared.token.Token.{Token}
use Rattle.xf_lex.specs.declared.token.TokenKind.{TokenKind}
use Rattle.xf_lex.specs.declared.token.TokenKind.TheVariants as kind
use Rattle.xf_type.specs.declared.payload_type.Width.TheVariants as width
use Rattle.xf_grammar.specs.Tokens.{terminal_at, open_paren, close_paren, minus, colon, equals, less, open_brace}
use Rattle.xf_grammar.specs.Tokens.{close_brace}
use Rattle.xf_grammar.specs.Reading.{Out}
use Rattle.xf_grammar.specs.Grammar.{Grammar, skip, refuse, take, peek, need, act, both, listed, scan, Language, read}
use Rattle.xf_dense.specs.Machine.{start}
use Rattle.xf_dense.specs.Nests.{close_bracket, close_angle}
use Rattle.xf_ir.specs.declared.kind.IteratorKind.TheVariants.{Parallel, Reduction}
use Rattle.xf_format.specs.declared.expected.Expected.{Expected}
use Rattle.xf_format.specs.declared.expected.Expected.TheVariants as due
use Rattle.xf_format.specs.declared.list.Item.{Item}
use Rattle.xf_format.specs.declared.list.Item.TheVariants as item
use Rattle.xf_format.specs.declared.parts.Parts.{Parts}
use Rattle.xf_format.specs.declared.row.FormatElement.{FormatElement}
use Rattle.xf_format.specs.declared.row.FormatElement.TheVariants as slot
use Rattle.xf_format.specs.declared.row.Level.{Level}
use Rattle.xf_format.specs.declared.row.Level.TheVariants as level
use Rattle.xf_format.specs.declared.row.Side.{Side}
use Rattle.xf_format.specs.Actions.{Action, begins, defines, argument_is, operand, symbol_is, private_is, predicate_is}
use Rattle.xf_format.specs.Actions.{literal_is, truth_is, type_is, width_left_out, result_is, unit_entry, truth_entry}
use Rattle.xf_format.specs.Actions.{text_entry, integer_entry, typed_entry, elements_follow, place_is, place_given}
use Rattle.xf_format.specs.Actions.{dimension_is, gives_dimension, map_is, alias_is, iterator_is, Reading, free}
use Rattle.xf_format.specs.Actions.{Saying, add, tell, room, space, full}
use Rattle.xf_format.specs.Tests.{Test, of_kind, of_word, short_symbol, short_word, short_text, an_index, a_width}
use Rattle.xf_format.specs.Tests.{a_shape, a_predicate, integer_for, width_for, an_operation, a_result, a_one, of_text}
use Rattle.xf_format.specs.Tests.{next_dimension, a_dimension, a_selected, a_dense_shape, passes, allows, State, step}
use Rattle.xf_format.specs.Tests.{close}
use Rattle.xf_format.specs.Words.{spelling}

abbrev pub Rule : Type 0
Rule = Grammar Action Expected Test State

abbrev pub language : Language Reading Saying Action Expected Test State
language = record {
  push = λ at x h. record h { held = h.held ++ (at, x) ∷ [] };
  hold = λ x t. record t { held = t.held ++ x ∷ [] };
  add = add;
  tell = tell;
  room = room;
  space = space;
  full = full;
  passes = passes;
  allows = allows;
  step = step;
  close = close;
}

-- what a rule reads behind some parts
abbrev pub by : Rule → List Token → Parts → ℕ → Out Reading Expected
by g all p at = read language (length all) g all (free p) at

-- the same where the tokens with these numbers are held
abbrev pub by_held : Rule → List Token → List ℕ → Parts → ℕ → Out Reading Expected
by_held g all is p at =
    read language (length all) g all
    (record { held = map (λ i. (i, terminal_at all i)) is; parts = p }) at

-- ---- single tokens; a blank stands before the first one of a rule where `gap` is true

-- a token that passes a test, of which nothing is said, where this is due
abbrev pub silent : Bool → Test → Expected → Rule
silent gap x d = take gap false x skip (refuse d)

unfoldable pub kind_rule : Bool → Expected → TokenKind → Rule
kind_rule gap d k = silent gap (of_kind k) d

unfoldable pub word_rule : Bool → List ℕ → Rule
word_rule gap w = silent gap (of_word w) due.Other

-- where one of this kind is due, one that is too long is refused; another token goes on so
abbrev pub unless_long : TokenKind → Rule → Rule
unless_long k off = peek (of_kind k) (refuse due.ListEnd) off

-- a symbol; another token goes on so
abbrev pub symbol_or : Rule → Rule
symbol_or off = take true true short_symbol (act symbol_is) (unless_long kind.Symbol off)

unfoldable pub symbol_rule : Rule
symbol_rule = symbol_or (refuse due.Other)

unfoldable pub module_name_rule : Rule
module_name_rule = symbol_or skip

-- optional private, and a symbol
unfoldable pub function_name_rule : Rule
function_name_rule =
    take true false (of_word (codes "private")) (both (act private_is) symbol_rule)
    (symbol_or (refuse due.FunctionName))

-- %n
unfoldable pub argument_rule : Bool → Rule
argument_rule gap =
    peek (of_kind kind.Value)
    (need argument_is (take gap true (of_kind kind.Value) (act argument_is) skip)) (refuse due.Other)

-- %n or %n#i
unfoldable pub use_rule : Bool → Rule
use_rule gap =
    peek (of_kind kind.Value)
    (need operand (take gap true (of_kind kind.Value) (both (take false true an_index skip skip) (act operand)) skip))
    (refuse due.Other)

-- a word of a width, for which there has to be room
unfoldable pub width_rule : Bool → Expected → Rule
width_rule gap d = peek a_width (need type_is (take gap true a_width (act type_is) skip)) (refuse d)

-- tensor and its shape, of which an action makes a part
abbrev pub tensor_for : Action → Bool → Rule
tensor_for k gap =
    peek (of_word (codes "tensor"))
    (need k (take gap false (of_word (codes "tensor"))
    (take false true a_shape (act k) (peek (of_kind kind.Shape) (refuse due.Shape) (refuse due.Other))) skip))
    (refuse due.Type)

-- the word of a width, or a tensor type
abbrev pub type_for : Action → Bool → Rule
type_for k gap = peek a_width (need k (take gap true a_width (act k) skip)) (tensor_for k gap)

unfoldable pub tensor_rule : Bool → Rule
tensor_rule gap = tensor_for type_is gap

unfoldable pub type_rule : Bool → Rule
type_rule gap = type_for type_is gap

-- the same of a result
unfoldable pub result_tensor_rule : Bool → Rule
result_tensor_rule gap = tensor_for result_is gap

unfoldable pub result_rule : Bool → Rule
result_rule gap = type_for result_is gap

unfoldable pub predicate_rule : Rule
predicate_rule = take true true a_predicate (act predicate_is) (refuse due.Other)

unfoldable pub block_name_rule : Rule
block_name_rule = silent true (of_kind kind.BlockName) due.Other

-- ---- literals

-- an integer and its width; else this is due
unfoldable pub number_rule : Bool → Bool → Expected → Rule
number_rule gap negative d =
    take gap true (of_kind kind.Integer)
    (both (act (literal_is negative)) (both (kind_rule true due.Other colon) (width_rule true due.Width)))
    (refuse d)

-- true or false; another token goes on so
abbrev pub truth_or : Bool → List ℕ → Rule → Rule
truth_or b w off = peek (of_word w) (need (truth_is b) (take true false (of_word w) (act (truth_is b)) skip)) off

-- the type for whose elements a body stands
unfoldable pub dense_type_rule : Rule
dense_type_rule =
    peek (of_word (codes "tensor"))
    (need type_is (take true false (of_word (codes "tensor"))
    (take false true a_dense_shape (act type_is)
    (peek a_shape (refuse due.Other) (peek (of_kind kind.Shape) (refuse due.Shape) (refuse due.Other)))) skip))
    (refuse due.Type)

-- < body > : type
unfoldable pub dense_rule : Rule
dense_rule =
    both (act elements_follow)
    (both (kind_rule false due.Other less)
    (both (scan start)
    (both (kind_rule false due.Other close_angle) (both (kind_rule true due.Other colon) dense_type_rule))))

-- the value of a constant
unfoldable pub literal_rule : Rule
literal_rule =
    truth_or true (codes "true")
    (truth_or false (codes "false")
    (take true false (of_word (codes "dense")) dense_rule
    (take true false (of_kind minus) (number_rule false true due.Other) (number_rule true false due.ConstantValue))))

-- ---- discardable attributes

-- behind the name of an attribute and an integer: the width of it, which has room for it
unfoldable pub entry_width_rule : Bool → Rule
entry_width_rule negative =
    peek a_width
    (take true true (width_for negative) (act (typed_entry negative)) (refuse due.Other)) (refuse due.Width)

-- an integer, optionally with : and a width, else of the width of 64; else this is due
unfoldable pub entry_number_rule : Bool → Bool → Expected → Rule
entry_number_rule gap negative d =
    peek (of_kind kind.Integer)
    (take gap true (integer_for negative width.I64)
    (take true false (of_kind colon) (entry_width_rule negative) (act (integer_entry negative width.I64)))
    (refuse due.Other))
    (refuse d)

-- true, false, unit, a string or an integer
unfoldable pub entry_value_rule : Rule
entry_value_rule =
    take true false (of_word (codes "true")) (act (truth_entry true))
    (take true false (of_word (codes "false")) (act (truth_entry false))
    (take true false (of_word (codes "unit")) (act unit_entry)
    (take true true short_text (act text_entry)
    (unless_long kind.Text
    (take true false (of_kind minus) (entry_number_rule false true due.Other)
    (entry_number_rule true false due.AttributeValue))))))

-- a word, and optionally = and a value
unfoldable pub entry_rule : Rule
entry_rule =
    peek short_word
    (need unit_entry (take false true short_word (take true false (of_kind equals) entry_value_rule (act unit_entry))
    skip))
    (unless_long kind.Word (refuse due.Other))

-- ---- lists

-- %n: type
unfoldable pub param_rule : Rule
param_rule = both (argument_rule false) (both (kind_rule false due.Other colon) (type_rule true))

-- %n = %m, where there is room for both
unfoldable pub pair_rule : Rule
pair_rule =
    peek (of_kind kind.Value)
    (need operand (both (argument_rule false) (both (kind_rule true due.Other equals) (use_rule true))))
    (refuse due.Other)

-- an integer, behind a sign or not, or %n
unfoldable pub place_rule : Side → Rule
place_rule s =
    peek (of_kind kind.Value) (need (place_given s) (both (act (place_given s)) (use_rule false)))
    (peek (of_kind minus)
    (need (place_is s true)
    (take false false (of_kind minus)
    (take false true (of_kind kind.Integer) (act (place_is s true)) (refuse due.Other)) skip))
    (peek (of_kind kind.Integer)
    (need (place_is s false) (take false true (of_kind kind.Integer) (act (place_is s false)) skip))
    (refuse due.Other)))

-- 1
unfoldable pub stride_rule : Rule
stride_rule = silent false a_one due.Stride

-- "parallel" or "reduction"
unfoldable pub iterator_rule : Rule
iterator_rule =
    peek (of_text (codes "parallel"))
    (need (iterator_is Parallel) (take false false (of_text (codes "parallel")) (act (iterator_is Parallel)) skip))
    (peek (of_text (codes "reduction"))
    (need (iterator_is Reduction) (take false false (of_text (codes "reduction")) (act (iterator_is Reduction)) skip))
    (refuse due.Other))

-- d0 in a map without dimensions, d1 in one with one, and so on
unfoldable pub dimension_rule : Rule
dimension_rule =
    peek next_dimension (need dimension_is (take false false next_dimension (act dimension_is) skip)) (refuse due.Other)

-- a dimension of the map that it does not give yet
unfoldable pub given_rule : Rule
given_rule =
    peek a_selected (need gives_dimension (take false true a_selected (act gives_dimension) skip))
    (peek a_dimension (refuse due.DimensionTwice) (refuse due.MapResult))

-- the items of a list; behind the first one a blank stands before each
abbrev pub item_rule : Item → Rule
item_rule (item.Use gap) = use_rule gap
item_rule (item.Type gap) = type_rule gap
item_rule item.Result = result_rule false
item_rule item.Param = param_rule
item_rule item.Pair = pair_rule
item_rule item.Entry = entry_rule
item_rule (item.Place s) = place_rule s
item_rule item.Stride = stride_rule
item_rule item.Iterator = iterator_rule
item_rule item.Dimension = dimension_rule
item_rule item.Given = given_rule

-- items, possibly none, and the token that ends them, where this is due behind an item
unfoldable pub until_rule : TokenKind → Expected → Item → Rule
until_rule close d i = take false false (of_kind close) skip (both (listed (item_rule i)) (kind_rule false d close))

-- the same up to a parenthesis
abbrev pub enclosed_rule : Item → Expected → Rule
enclosed_rule i d = until_rule close_paren d i

-- < ( dimensions ) -> ( results ) >
unfoldable pub map_form_rule : Rule
map_form_rule =
    both (kind_rule false due.Other less)
    (both (kind_rule false due.Other open_paren)
    (both (until_rule close_paren due.Other item.Dimension)
    (both (kind_rule true due.AfterDimensions kind.Arrow)
    (both (kind_rule true due.Other open_paren)
    (both (until_rule close_paren due.AfterMapResult item.Given) (kind_rule false due.Other close_angle))))))

-- affine_map with its form, or an alias
unfoldable pub map_rule : Rule
map_rule =
    peek (of_word (codes "affine_map"))
    (need map_is (take false false (of_word (codes "affine_map")) (both map_form_rule (act map_is)) skip))
    (peek (of_kind kind.Hash) (need alias_is (take false true (of_kind kind.Hash) (act alias_is) skip))
    (refuse due.Other))

-- maps, possibly none, and the bracket behind them
unfoldable pub maps_rule : Rule
maps_rule =
    take false false (of_kind close_bracket) skip (both (listed map_rule) (kind_rule false due.Other close_bracket))

-- optional { entries }
unfoldable pub dictionary_rule : Rule
dictionary_rule = take true false (of_kind open_brace) (until_rule close_brace due.Other item.Entry) skip

-- optional attributes { entries }
unfoldable pub attributes_rule : Rule
attributes_rule =
    take true false (of_word (codes "attributes"))
    (both (kind_rule true due.Other open_brace) (until_rule close_brace due.Other item.Entry)) skip

-- optional attrs = { entries }
unfoldable pub marked_rule : Rule
marked_rule =
    take true false (of_word (codes "attrs"))
    (both (kind_rule true due.Other equals)
    (both (kind_rule true due.Other open_brace) (until_rule close_brace due.Other item.Entry))) skip

-- ---- types and operands

-- one result type, or result types in parentheses, behind one of which this is due
unfoldable pub result_types_rule : Expected → Rule
result_types_rule d = take true false (of_kind open_paren) (enclosed_rule item.Result d) (result_rule true)

-- -> types
unfoldable pub call_results_rule : Rule
call_results_rule = both (kind_rule true due.Other kind.Arrow) (result_types_rule due.Other)

-- optional -> types
unfoldable pub function_results_rule : Rule
function_results_rule = take true false (of_kind kind.Arrow) (result_types_rule due.AfterResult) skip

-- ( types )
unfoldable pub listed_results_rule : Rule
listed_results_rule = both (kind_rule true due.Other open_paren) (enclosed_rule item.Result due.Other)

-- optional -> ( types )
unfoldable pub if_results_rule : Rule
if_results_rule = take true false (of_kind kind.Arrow) listed_results_rule skip

-- optional operands : types
unfoldable pub operands_rule : Rule
operands_rule =
    peek (of_kind kind.Value)
    (both (listed (item_rule (item.Use true)))
    (both (kind_rule true due.Other colon) (listed (item_rule (item.Type true)))))
    skip

-- operands : types )
unfoldable pub typed_rule : Rule
typed_rule =
    both (listed (item_rule (item.Use false)))
    (both (kind_rule true due.Other colon)
    (both (listed (item_rule (item.Type true))) (kind_rule false due.Other close_paren)))

-- ins ( operands : types )
unfoldable pub ins_rule : Rule
ins_rule = both (word_rule true (codes "ins")) (both (kind_rule false due.Other open_paren) typed_rule)

-- optional ins ( operands : types )
unfoldable pub some_ins_rule : Rule
some_ins_rule = take true false (of_word (codes "ins")) (both (kind_rule false due.Other open_paren) typed_rule) skip

-- outs ( operand : type )
unfoldable pub outs_rule : Rule
outs_rule =
    both (silent true (of_word (codes "outs")) due.Outs)
    (both (kind_rule false due.Other open_paren)
    (both (peek (of_kind kind.Value) (use_rule false) (refuse due.OutsOperand))
    (both (kind_rule true due.AfterOut colon)
    (both (type_rule true) (kind_rule false due.Other close_paren)))))

-- optional iter_args ( pairs ) -> ( types )
unfoldable pub iter_args_rule : Rule
iter_args_rule =
    take true false (of_word (codes "iter_args"))
    (both (kind_rule false due.Other open_paren)
    (both (enclosed_rule item.Pair due.Other) (both (kind_rule true due.Other kind.Arrow) listed_results_rule)))
    skip

-- optional : width, else index
unfoldable pub loop_width_rule : Rule
loop_width_rule =
    take true false (of_kind colon) (width_rule true due.Width)
    (need (width_left_out width.Index) (act (width_left_out width.Index)))

-- ---- slots

abbrev pub slot_rule : FormatElement → Rule
slot_rule (slot.Mark gap b) = kind_rule gap due.Other (kind.Mark b)
slot_rule (slot.Word gap k) = word_rule gap (spelling k)
slot_rule slot.ModuleName = module_name_rule
slot_rule slot.FunctionName = function_name_rule
slot_rule slot.Symbol = symbol_rule
slot_rule slot.Attributes = attributes_rule
slot_rule slot.Dictionary = dictionary_rule
slot_rule slot.Literal = literal_rule
slot_rule slot.Predicate = predicate_rule
slot_rule slot.Argument = argument_rule true
slot_rule (slot.Use i) = use_rule true
slot_rule (slot.Width i) = width_rule true due.ArithWidth
slot_rule (slot.Uses k b) = until_rule (kind.Mark b) due.Other (item.Use false)
slot_rule (slot.TypeOf i) = type_rule true
slot_rule (slot.TensorOf i) = tensor_rule true
slot_rule (slot.WidthOf i) = width_rule true due.Width
slot_rule slot.ResultType = result_rule true
slot_rule slot.ResultTensor = result_tensor_rule true
slot_rule slot.Arrow = kind_rule true due.Other kind.Arrow
slot_rule slot.Ins = ins_rule
slot_rule slot.SomeIns = some_ins_rule
slot_rule slot.Outs = outs_rule
slot_rule slot.Types = enclosed_rule (item.Type false) due.Other
slot_rule slot.Params = enclosed_rule item.Param due.AfterArgument
slot_rule slot.BlockParams = enclosed_rule item.Param due.Other
slot_rule slot.Operands = operands_rule
slot_rule slot.CallResults = call_results_rule
slot_rule slot.FunctionResults = function_results_rule
slot_rule slot.IfResults = if_results_rule
slot_rule slot.IterArgs = iter_args_rule
slot_rule slot.LoopWidth = loop_width_rule
slot_rule slot.BlockName = block_name_rule
slot_rule (slot.Places s) = until_rule close_bracket due.Other (item.Place s)
slot_rule slot.Strides = until_rule close_bracket due.Other item.Stride
slot_rule slot.Maps = maps_rule
slot_rule slot.Iterators = until_rule close_bracket due.Other item.Iterator
slot_rule slot.MarkedAttributes = marked_rule

abbrev pub slots_rule : List FormatElement → Rule
slots_rule [] = skip
slots_rule (s ∷ ss) = both (slot_rule s) (slots_rule ss)

-- ---- heads, up to the slots

-- what is due where an operation begins
abbrev pub due_at : Level → Expected
due_at level.File = due.File
due_at level.Functions = due.Function
due_at level.Body = due.Operation
due_at level.Any = due.Operation

-- the word of an operation
unfoldable pub row_rule : Level → Rule
row_rule l =
    take true true (an_operation l) (act begins) (refuse (due_at l))

-- behind the name of results: = , or :k = for k results
unfoldable pub defines_rule : Rule
defines_rule =
    both (take false false (of_kind colon) (take false true (of_kind kind.Integer) skip (refuse due.Other)) skip)
    (both (act defines) (kind_rule true due.Other equals))

-- an operation that names results is no module and no function
unfoldable pub head_rule : Level → Rule
head_rule l = take true true (a_result l) (both defines_rule (row_rule level.Body)) (row_rule l)
