-- The code of the fault at the token that fits no text: whether it is a form of MLIR that is listed as not supported,
-- by what was due there, the token and the one behind it.
use Rattle.std.specs.Prelude.{ℕ, List, [], ◌∷◌, Option, Some, None, Bool, true, false, not, ◌&&◌, ◌||◌}
use Rattle.std.specs.Prelude.{◌==◌, if◌then◌else◌, is_some, codes}
use Rattle.std.specs.List.{list_any}
use Rattle.std.specs.Option.{option_or}
use Rattle.std.specs.Str.{bytes_eq}
use Rattle.xf_lex.specs.declared.token.TokenKind.TheVariants as kind
use Rattle.xf_shape.specs.Shapes.{inside_marks, shape_number}
use Rattle.xf_shape.specs.TypeWords.{one_of, begins, type_number}
use Rattle.xf_grammar.specs.Tokens.{Terminal, is_kind, is_word, word_of, less, open_paren, open_bracket}
use Rattle.xf_grammar.specs.Tokens.{open_brace, close_brace, close_paren, comma, minus}
use Rattle.xf_format.specs.declared.expected.Expected.{Expected}
use Rattle.xf_format.specs.declared.expected.Expected.TheVariants as due
use Rattle.xf_format.specs.declared.row.Row.{Row}
use Rattle.xf_format.specs.declared.row.Row.TheVariants as row
use Rattle.xf_format.specs.Rows.{words}
use Rattle.xf_format.specs.Parts.{text_of}
use Rattle.xf_format.specs.Words.{lookup, widths}
use Rattle.xf_read_base.specs.declared.verdict.Verdict.{Verdict}
use Rattle.xf_read_base.specs.declared.verdict.Verdict.TheVariants.{Syntax, OutOfProfile, NotBuilt, TooMany, TooDeep}

abbrev pub has_dot : List ℕ → Bool
has_dot w = list_any (λ b. b == 46) w

-- ---- words in the place of an operation or a function

-- division and remainder
abbrev pub divisions : List (List ℕ)
divisions =
    codes "arith.divsi" ∷ codes "arith.divui" ∷ codes "arith.ceildivsi" ∷ codes "arith.ceildivui"
    ∷ codes "arith.floordivsi" ∷ codes "arith.remsi" ∷ codes "arith.remui" ∷ codes "arith.divf" ∷ codes "arith.remf"
    ∷ []

-- the word of an operation of payloads
abbrev pub is_row : List ℕ → Bool
is_row w = is_some (lookup words w)

-- a word with a dot
abbrev pub dotted_number : List ℕ → Option ℕ
dotted_number w =
    if one_of divisions w then Some 2
    else (if begins (codes "memref.") w || begins (codes "vector.") w then Some 5
    else (if begins (codes "affine.") w then Some 6
    else (if begins (codes "cf.") w then Some 7
    else (if begins (codes "scf.") w && not (is_row w) then Some 8
    else (if bytes_eq w (codes "linalg.index") then Some 10
    else (if begins (codes "linalg.") w && not (is_row w) then Some 9
    else (if has_dot w then Some 21 else None)))))))

abbrev pub begins_module : Option Row → Bool
begins_module (Some row.Module) = true
begins_module r = false

abbrev pub is_module : List ℕ → Bool
is_module w = begins_module (lookup words w) || bytes_eq w (codes "builtin.module")

abbrev pub begins_function : Option Row → Bool
begins_function (Some row.Function) = true
begins_function r = false

abbrev pub is_function : List ℕ → Bool
is_function w = begins_function (lookup words w)

-- a module is listed in every place but at the begin of a file
abbrev pub word_number : List ℕ → Option ℕ
word_number w = if is_module w then Some 15 else dotted_number w

-- ---- the value of an attribute

-- words that begin another attribute, or a type
abbrev pub attribute_words : List (List ℕ)
attribute_words =
    codes "dense" ∷ codes "dense_resource" ∷ codes "sparse" ∷ codes "array" ∷ codes "affine_map"
    ∷ codes "affine_set" ∷ codes "strided" ∷ codes "distinct" ∷ codes "opaque" ∷ codes "tensor" ∷ codes "complex"
    ∷ codes "tuple" ∷ codes "none" ∷ []

abbrev pub begins_attribute : Terminal → Bool
begins_attribute x =
    (is_kind open_bracket x || (is_kind open_brace x || is_kind open_paren x))
    || ((is_kind kind.Symbol x || (is_kind kind.Hash x || is_kind kind.DialectType x))
    || (one_of attribute_words (word_of x) || is_some (lookup widths (word_of x))))

-- what begins another constant
abbrev pub begins_constant : Terminal → Bool
begins_constant x = (is_kind kind.Text x || is_word (codes "unit") x) || begins_attribute x

-- ---- all places

-- what is listed wherever it stands: overflow<, <{, loc(
abbrev pub anywhere : Terminal → Terminal → Option ℕ
anywhere x y =
    if is_word (codes "overflow") x && is_kind less y then Some 3
    else (if is_kind less x && is_kind open_brace y then Some 11
    else (if is_word (codes "loc") x && is_kind open_paren y then Some 12 else None))

abbrev pub number_if : Bool → ℕ → Option ℕ
number_if true n = Some n
number_if false n = None

-- ---- windows and maps

-- a stride
abbrev pub begins_stride : Terminal → Bool
begins_stride x = is_kind kind.Integer x || (is_kind minus x || is_kind kind.Value x)

-- a result of an affine map that is no dimension (MLIR: affine expressions)
abbrev pub begins_result : Terminal → Bool
begins_result x = is_kind kind.Integer x || (is_kind minus x || is_kind open_paren x)

abbrev pub affine_words : List (List ℕ)
affine_words = codes "floordiv" ∷ codes "ceildiv" ∷ codes "mod" ∷ []

-- what may follow a dimension in an affine expression
abbrev pub goes_on_affine : Terminal → Bool
goes_on_affine x = is_kind minus x || one_of affine_words (word_of x)

-- ---- places of operations

-- a string, or the name of a block
abbrev pub unnamed_number : Terminal → Option ℕ
unnamed_number x = if is_kind kind.Text x then Some 11 else (if is_kind kind.BlockName x then Some 7 else None)

-- where an operation or a function is due
abbrev pub operation_number : Terminal → Option ℕ
operation_number x = option_or (unnamed_number x) (word_number (word_of x))

abbrev pub file_number : Terminal → Option ℕ
file_number x = option_or (unnamed_number x) (dotted_number (word_of x))

-- where the value of an attribute or a constant is due: a type by its own number, and whatever else begins a value
abbrev pub value_number : Bool → Terminal → Option ℕ
value_number is_value x = option_or (type_number (word_of x)) (number_if is_value 14)

abbrev pub listed_number : Expected → Terminal → Option ℕ
listed_number due.File x = file_number x
listed_number due.Function x = operation_number x
listed_number due.Operation x = operation_number x
listed_number due.Type x = type_number (word_of x)
listed_number due.Shape x = shape_number (inside_marks (text_of x))
listed_number due.Width x = type_number (word_of x)
listed_number due.ArithWidth x = if is_word (codes "tensor") x then Some 18 else type_number (word_of x)
listed_number due.AttributeValue x = value_number (begins_attribute x) x
listed_number due.ConstantValue x = value_number (begins_constant x) x
listed_number due.FunctionName x = number_if (one_of (codes "public" ∷ codes "nested" ∷ []) (word_of x)) 19
listed_number due.AfterArgument x = number_if (is_kind open_brace x) 13
listed_number due.AfterResult x = number_if (is_kind open_brace x) 13
listed_number due.DenseItem x = number_if (is_kind kind.Text x) 14
listed_number due.Stride x = number_if (begins_stride x) 16
listed_number due.AfterDimensions x = number_if (is_kind open_bracket x) 6
listed_number due.MapResult x = number_if (begins_result x) 6
listed_number due.DimensionTwice x = Some 6
listed_number due.AfterMapResult x = number_if (goes_on_affine x) 6
listed_number due.Outs x = number_if (is_kind kind.Arrow x || (is_kind open_brace x || is_word (codes "attrs") x)) 20
listed_number due.OutsOperand x = number_if (is_kind close_paren x) 20
listed_number due.AfterOut x = number_if (is_kind comma x) 20
listed_number due.FunctionBody x = number_if (is_kind close_brace x || is_function (word_of x)) 19
listed_number due.ListEnd x = None
listed_number due.NestLimit x = None
listed_number due.Other x = None

-- what is a text, and not built yet: an alias
abbrev pub is_not_built : Expected → Terminal → Bool
is_not_built due.File x = is_kind kind.Hash x
is_not_built d x = false

abbrev pub numbered : Option ℕ → Verdict
numbered (Some n) = OutOfProfile n
numbered None = Syntax

abbrev pub listed : Expected → Terminal → Verdict
listed d x = if is_not_built d x then NotBuilt else numbered (listed_number d x)

abbrev pub numbered_or : Option ℕ → Verdict → Verdict
numbered_or (Some n) v = OutOfProfile n
numbered_or None v = v

-- by what was due, the token that fits no text, and the one behind it; one that is too many or too deep fits in itself
abbrev pub verdict : Expected → Terminal → Terminal → Verdict
verdict due.ListEnd x y = TooMany
verdict due.NestLimit x y = TooDeep
verdict d x y = numbered_or (anywhere x y) (listed d x)
