-- The arguments of a call, as a text lists them: constants in the spelling of `arith.constant`, separated by commas.
use Rattle.std.specs.Prelude.{◌≡◌, ℕ, zero, suc, ◌+◌, ◌≤◌, List, [], ◌∷◌, ◌++◌, length, Bool, true, false, ◌&&◌, ◌==◌, Option, Some}
use Rattle.std.specs.Prelude.{None, Ok, Err, codes, if◌then◌else◌}
use Rattle.std.specs.Option.{option_map}
use Rattle.xf_type.specs.declared.payload_type.PayloadType.TheVariants as type_of
use Rattle.xf_type.specs.declared.payload_type.Shape.{Shape}
use Rattle.xf_type.specs.declared.payload_type.Width.{Width}
use Rattle.xf_type.specs.declared.payload_type.Elem.TheVariants.{Num}
use Rattle.xf_ir.specs.declared.kind.Kind.{Kind}
use Rattle.xf_ir.specs.declared.kind.Kind.TheVariants as kind
use Rattle.xf_ir.specs.RuleAttributes.{fits_bits, dense_fits, type_fits}
use Rattle.xf_lex.specs.declared.token.Token.{Token}
use Rattle.xf_lex.specs.Lexes.{Lexes}
use Rattle.xf_grammar.specs.Tokens.{looks, says, comma, colon}
use Rattle.xf_grammar.specs.Reading.{Out}
use Rattle.xf_format.specs.declared.expected.Expected.{Expected}
use Rattle.xf_format.specs.declared.parts.Literal.{Literal}
use Rattle.xf_format.specs.declared.parts.Literal.TheVariants as literal
use Rattle.xf_format.specs.declared.parts.Parts.{Parts}
use Rattle.xf_format.specs.declared.row.FormatElement.TheVariants as slot
use Rattle.xf_format.specs.declared.row.Row.TheVariants as row
use Rattle.xf_format.specs.Actions.{Reading}
use Rattle.xf_format.specs.Parts.{no_parts, said}
use Rattle.xf_format.specs.Rules.{by, slots_rule}
use Rattle.xf_read_base.specs.Structured.{no_aliases}
use Rattle.xf_read_base.specs.Values.{kind_said}
use Rattle.xf_sem.specs.declared.value.Value.{Value}
use Rattle.xf_sem.specs.declared.value.Value.TheVariants.{Scalar}
use Rattle.xf_sem.specs.Tensors.{only_if, on_some, before_all, dense_given}

-- ---- one argument

abbrev pub scalar_argument : Width → ℕ → Option Value
scalar_argument width bits = only_if (fits_bits width bits) (Scalar width (Num bits))

abbrev pub tensor_argument : Shape → List ℕ → Option Value
tensor_argument shape numbers =
    if dense_fits shape numbers && type_fits (type_of.Tensor shape) then dense_given shape numbers else None

-- the value of a constant whose literals, shape, size and type are as the rules ask of a constant
abbrev pub argument_of : Kind → Option Value
argument_of (kind.Constant width bits) = scalar_argument width bits
argument_of (kind.Dense shape numbers) = tensor_argument shape numbers
argument_of k = None

-- the value of a constant at a token, by the rule of a payload's constants
abbrev pub literal_at : List Token → ℕ → Out Reading Expected
literal_at all at = by (slots_rule (slot.Literal ∷ [])) all (no_parts row.Constant) at

abbrev pub is_truth : Option Literal → Bool
is_truth (Some (literal.Truth b)) = true
is_truth l = false

-- where an argument ends: behind `true` and `false` their width may stand
abbrev pub behind : List Token → Option Literal → ℕ → ℕ
behind all l at = if is_truth l && (looks all at colon && says all (at + 1) (codes "i1")) then at + 2 else at

abbrev pub value_of : List Token → Parts → Option Value
value_of all p = argument_of (kind_said no_aliases p.row (said all p))

abbrev pub told : List Token → Out Reading Expected → Option (Value × ℕ)
told all (Ok x) = option_map (λ v. (v, behind all x.0.parts.literal x.1)) (value_of all x.0.parts)
told all (Err e) = None

-- the argument at a token, and where it ends
abbrev pub argument_at : List Token → ℕ → Option (Value × ℕ)
argument_at all at = told all (literal_at all at)

-- an argument ends within the text
abbrev pub EndsIn : List Token → Option (Value × ℕ) → Type 0
EndsIn all None = Unit {0}
EndsIn all (Some x) = x.1 ≤ length all

-- ---- all arguments

-- an argument, and those behind it: none at the end of the text, and else behind a comma
abbrev pub with_rest : List Token → (ℕ → Option (List Value)) → Value × ℕ → Option (List Value)
with_rest all rest x =
    if x.1 == length all then Some (x.0 ∷ [])
    else if looks all x.1 comma then before_all x.0 (rest (x.1 + 1))
    else None

-- the arguments from a token on, so many at most
abbrev pub arguments_from : ℕ → List Token → ℕ → Option (List Value)
arguments_from zero all at = None
arguments_from (suc most) all at =
    on_some (argument_at all at) (with_rest all (λ next. arguments_from most all next))

-- the arguments that tokens list, which are no more than the tokens; no tokens list none
abbrev pub arguments_of : List Token → Option (List Value)
arguments_of [] = Some []
arguments_of (t ∷ ts) = arguments_from (length (t ∷ ts)) (t ∷ ts) 0

-- values before those that are there
abbrev pub behind_all : List Value → Option (List Value) → Option (List Value)
behind_all vs None = None
behind_all vs (Some ws) = Some (vs ++ ws)

-- a text lists these arguments, or none where its tokens list none or it has no tokens
abbrev pub Lists : List ℕ → Option (List Value) → Type 0
Lists bs (Some vs) = (ts : List Token) × (Lexes bs ts × (arguments_of ts ≡ Some vs))
Lists bs None = (ts : List Token) → Lexes bs ts → arguments_of ts ≡ None
