-- How single tokens, names, types, lists and attributes fill their rules.
use Rattle.std.specs.Prelude.{ℕ, suc, ◌+◌, List, [], ◌∷◌, ◌++◌, drop, codes, Option, Some, None, option_and_then}
use Rattle.std.specs.Prelude.{Bool, true, false}
use Rattle.std.specs.Fmt.{decimal}
use Rattle.xf_type.specs.declared.attribute.AttrValue.{AttrValue}
use Rattle.xf_type.specs.declared.attribute.AttrValue.TheVariants as attr
use Rattle.xf_type.specs.declared.payload_type.PayloadType.{PayloadType}
use Rattle.xf_type.specs.declared.payload_type.PayloadType.TheVariants.{Scalar, Tensor}
use Rattle.xf_type.specs.declared.payload_type.Shape.{Shape}
use Rattle.xf_type.specs.declared.payload_type.Width.{Width}
use Rattle.xf_type.specs.declared.payload_type.Width.TheVariants.{I1}
use Rattle.xf_type.specs.Integers.{signed_value}
use Rattle.xf_type.specs.Spelling.{width_spelling}
use Rattle.xf_lex.specs.declared.token.TokenKind.{TokenKind}
use Rattle.xf_lex.specs.declared.token.TokenKind.TheVariants as token
pub use Rattle.xf_shape.specs.Written.{shape_text}
use Rattle.xf_grammar.specs.Tokens.{terminal, open_paren, close_paren, minus, colon, equals, open_brace, close_brace}
use Rattle.xf_grammar.specs.Grammar.{Fill, nothing, yes, here, other, two, list, written}
use Rattle.xf_grammar.specs.Layout.{text}
use Rattle.xf_format.specs.Rules.{Rule, language}
use Rattle.xf_ir.specs.declared.kind.Attr.{Attr}
use Rattle.xf_ir.specs.declared.name.ValueName.{ValueName}
use Rattle.xf_ir.specs.declared.name.ValueName.TheVariants.{Result, Arg, Free}
use Rattle.xf_printed.specs.Attributes.{string_text}
use Rattle.xf_printed.specs.Names.{DefinedValues, Names, argument_text, type_of}
use Rattle.xf_printed.specs.Numbers.{has_minus, digits_of, is_set, truth_word}

-- the bytes that a rule writes, filled so
abbrev pub rule_text : Rule → Fill → List ℕ
rule_text g f = text (written language g f)

-- ---- single tokens

abbrev pub token_fill : TokenKind → List ℕ → Fill
token_fill k bytes = yes (terminal k bytes) nothing

abbrev pub mark_fill : TokenKind → Fill
mark_fill k = token_fill k []

abbrev pub word_fill : List ℕ → Fill
word_fill w = token_fill token.Word w

-- ---- names

-- `%4`
abbrev pub number_name : ℕ → List ℕ
number_name k = codes "%" ++ decimal k

-- a name with its %, and the digits of its number behind a # or none
pub record Use : Type 0 where
  pub name : List ℕ
  pub digits : Option (List ℕ)

-- which of several results
abbrev pub part_digits : List PayloadType → ℕ → Option (List ℕ)
part_digits (t ∷ (u ∷ ts)) num = Some (decimal num)
part_digits ts num = None

abbrev pub result_use : DefinedValues → ℕ → Use
result_use e num = record { name = number_name e.number; digits = part_digits e.results num }

abbrev pub argument_use : DefinedValues → ℕ → Use
argument_use e num = record { name = argument_text (e.first + num); digits = None }

abbrev pub no_use : Use
no_use = record { name = []; digits = None }

abbrev pub use_or_none : (DefinedValues → Use) → Option DefinedValues → Use
use_or_none use_by None = no_use
use_or_none use_by (Some e) = use_by e

-- `%4`, `%4#1`, `%arg2`
abbrev pub use_of : Names → ValueName → Use
use_of names (Result o num) = use_or_none (λ e. result_use e num) (names.entry o.0)
use_of names (Arg o r num) = use_or_none (λ e. argument_use e num) (names.entry o.0)
use_of names (Free num) = no_use

abbrev pub index_fill : Option (List ℕ) → Fill
index_fill None = other nothing
index_fill (Some digits) = token_fill token.Hash (codes "#" ++ digits)

abbrev pub use_fill : Use → Fill
use_fill u = here (yes (terminal token.Value u.name) (two (index_fill u.digits) nothing))

abbrev pub value_fill : Names → ValueName → Fill
value_fill names v = use_fill (use_of names v)

abbrev pub operand_fill : Names → Option ValueName → Fill
operand_fill names None = use_fill no_use
operand_fill names (Some v) = value_fill names v

abbrev pub argument_fill : ℕ → Fill
argument_fill k = here (token_fill token.Value (argument_text k))

-- ---- types

abbrev pub width_fill : Width → Fill
width_fill w = here (word_fill (width_spelling w))

abbrev pub tensor_fill : Shape → Fill
tensor_fill s = here (yes (terminal token.Word (codes "tensor")) (token_fill token.Shape (shape_text s)))

abbrev pub type_fill : PayloadType → Fill
type_fill (Scalar w) = width_fill w
type_fill (Tensor s) = other (tensor_fill s)

-- of a value that nothing defines, no type is known, and a word without bytes stands for it
abbrev pub type_or_none : Option PayloadType → Fill
type_or_none None = here (word_fill [])
type_or_none (Some t) = type_fill t

-- where another type stands than is due, too
abbrev pub tensor_or_none : Option PayloadType → Fill
tensor_or_none (Some (Tensor s)) = tensor_fill s
tensor_or_none t = here (word_fill [])

abbrev pub scalar_or_none : Option PayloadType → Fill
scalar_or_none (Some (Scalar w)) = width_fill w
scalar_or_none t = here (word_fill [])

abbrev pub value_type_fill : Names → ValueName → Fill
value_type_fill names v = type_or_none (type_of names v)

-- ---- lists

abbrev pub more_fill : {A : Type 0} → (A → Fill) → List A → Fill
more_fill fill [] = nothing
more_fill fill (x ∷ xs) = list (fill x) (more_fill fill xs)

abbrev pub list_fill : {A : Type 0} → (A → Fill) → A → List A → Fill
list_fill fill x xs = list (fill x) (more_fill fill xs)

-- possibly none
abbrev pub some_fill : {A : Type 0} → (A → Fill) → List A → Fill
some_fill fill [] = nothing
some_fill fill (x ∷ xs) = list_fill fill x xs

-- up to the token that ends it
abbrev pub until_fill : {A : Type 0} → TokenKind → (A → Fill) → List A → Fill
until_fill close fill [] = mark_fill close
until_fill close fill (x ∷ xs) = other (two (list_fill fill x xs) (mark_fill close))

-- an argument and its type, or the value that it begins with
pub record Param : Type 0 where
  pub number : ℕ
  pub of : PayloadType

pub record Pair : Type 0 where
  pub number : ℕ
  pub first_value : ValueName

-- from number k on
abbrev pub params : ℕ → List PayloadType → List Param
params k [] = []
params k (t ∷ ts) = record { number = k; of = t } ∷ params (suc k) ts

abbrev pub pairs : ℕ → List ValueName → List Pair
pairs k [] = []
pairs k (v ∷ vs) = record { number = k; first_value = v } ∷ pairs (suc k) vs

abbrev pub param_fill : Param → Fill
param_fill p = two (argument_fill p.number) (two (mark_fill colon) (type_fill p.of))

abbrev pub pair_fill : Names → Pair → Fill
pair_fill names p = here (two (argument_fill p.number) (two (mark_fill equals) (value_fill names p.first_value)))

-- ---- attributes

-- a number is written with its width
abbrev pub typed_fill : List ℕ → Width → Fill
typed_fill digits w =
    here (yes (terminal token.Integer digits) (yes (terminal colon []) (here (word_fill (width_spelling w)))))

abbrev pub truth_entry_fill : Bool → Fill
truth_entry_fill true = word_fill (truth_word true)
truth_entry_fill false = other (word_fill (truth_word false))

-- behind true, false, unit, a string and one that is too long
abbrev pub number_entry_fill : Bool → List ℕ → Width → Fill
number_entry_fill true digits w = other (other (other (other (other (yes (terminal minus []) (typed_fill digits w))))))
number_entry_fill false digits w = other (other (other (other (other (other (typed_fill digits w))))))

abbrev pub int_entry_fill : Width → ℕ → Fill
int_entry_fill I1 bits = truth_entry_fill (is_set bits)
int_entry_fill w bits = number_entry_fill (has_minus (signed_value w bits)) (digits_of (signed_value w bits)) w

abbrev pub entry_value_fill : AttrValue → Fill
entry_value_fill attr.Unit = other nothing
entry_value_fill (attr.Int w bits) = yes (terminal equals []) (int_entry_fill w bits)
entry_value_fill (attr.Text bytes) =
    yes (terminal equals []) (other (other (other (token_fill token.Text (string_text bytes)))))

abbrev pub entry_fill : Attr → Fill
entry_fill d = here (yes (terminal token.Word d.name) (entry_value_fill d.value))

abbrev pub dictionary_fill : List Attr → Fill
dictionary_fill [] = other nothing
dictionary_fill ds = yes (terminal open_brace []) (until_fill close_brace entry_fill ds)

abbrev pub attributes_fill : List Attr → Fill
attributes_fill [] = other nothing
attributes_fill ds =
    yes (terminal token.Word (codes "attributes")) (two (mark_fill open_brace) (until_fill close_brace entry_fill ds))

-- ---- types and operands

abbrev pub listed_results_fill : List PayloadType → Fill
listed_results_fill ts = two (mark_fill open_paren) (until_fill close_paren type_fill ts)

-- one result without parentheses, several with
abbrev pub result_types_fill : List PayloadType → Fill
result_types_fill (t ∷ []) = other (type_fill t)
result_types_fill ts = yes (terminal open_paren []) (until_fill close_paren type_fill ts)

abbrev pub call_results_fill : List PayloadType → Fill
call_results_fill ts = two (mark_fill token.Arrow) (result_types_fill ts)

abbrev pub function_results_fill : List PayloadType → Fill
function_results_fill [] = other nothing
function_results_fill ts = yes (terminal token.Arrow []) (result_types_fill ts)

abbrev pub if_results_fill : List PayloadType → Fill
if_results_fill [] = other nothing
if_results_fill ts = yes (terminal token.Arrow []) (listed_results_fill ts)

abbrev pub operands_fill : Names → List ValueName → Fill
operands_fill names [] = other nothing
operands_fill names (v ∷ vs) =
    here (two (list_fill (value_fill names) v vs) (two (mark_fill colon) (list_fill (value_type_fill names) v vs)))

-- operands and their types, and the parenthesis behind them
abbrev pub typed_uses_fill : Names → List ValueName → Fill
typed_uses_fill names os =
    two (some_fill (value_fill names) os)
    (two (mark_fill colon) (two (some_fill (value_type_fill names) os) (mark_fill close_paren)))

abbrev pub ins_fill : Names → List ValueName → Fill
ins_fill names os = two (word_fill (codes "ins")) (two (mark_fill open_paren) (typed_uses_fill names os))

-- the operand, and its type
abbrev pub outs_fill : Names → Option ValueName → Fill
outs_fill names o =
    two (word_fill (codes "outs"))
    (two (mark_fill open_paren)
    (two (here (operand_fill names o))
    (two (mark_fill colon)
    (two (type_or_none (option_and_then (type_of names) o)) (mark_fill close_paren)))))

-- what a loop with results carries: its arguments behind the first, and their first values
abbrev pub iter_args_fill : Names → ℕ → List ValueName → List PayloadType → Fill
iter_args_fill names first os [] = other nothing
iter_args_fill names first os ts =
    yes (terminal token.Word (codes "iter_args"))
    (two (mark_fill open_paren)
    (two (until_fill close_paren (pair_fill names) (pairs (suc first) (drop 3 os)))
    (two (mark_fill token.Arrow) (listed_results_fill ts))))
