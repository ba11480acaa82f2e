-- The lines of results: each value as a constant is printed, with its type.
use Rattle.std.specs.Prelude.{ℕ, List, [], ◌++◌, map, take, drop, Bool, true, false, codes}
use Rattle.std.specs.Prelude.{if◌then◌else◌, flat_map}
use Rattle.xf_type.specs.declared.payload_type.Dim.TheVariants.{Fixed}
use Rattle.xf_type.specs.declared.payload_type.Elem.{Elem}
use Rattle.xf_type.specs.declared.payload_type.Elem.TheVariants.{Num, NoNumber}
use Rattle.xf_type.specs.declared.payload_type.Width.TheVariants.{I1}
use Rattle.xf_ir.specs.declared.kind.Kind.{Kind}
use Rattle.xf_ir.specs.declared.kind.Kind.TheVariants as kind
use Rattle.xf_ir.specs.Lists.{every}
use Rattle.xf_ir.specs.RuleAttributes.{all_equal}
use Rattle.xf_format.specs.Rules.{literal_rule}
use Rattle.xf_printed.specs.Fills.{literal_fill, rule_text}
use Rattle.xf_sem.specs.declared.value.Value.{Value}
use Rattle.xf_sem.specs.declared.value.Value.TheVariants.{Scalar, Tensor}

-- ---- numbers

abbrev pub is_number : Elem → Bool
is_number (Num n) = true
is_number NoNumber = false

-- whether each element of a value is a number
abbrev pub is_of_numbers : Value → Bool
is_of_numbers (Scalar width elem) = is_number elem
is_of_numbers (Tensor width shape elems) = every is_number elems

abbrev pub are_numbers : List Value → Bool
are_numbers vs = every is_of_numbers vs

abbrev pub number_or_zero : Elem → ℕ
number_or_zero (Num n) = n
number_or_zero NoNumber = 0

-- ---- constants

-- one number where all are equal, and all of them else
abbrev pub shortest : List ℕ → List ℕ
shortest ns = if all_equal ns then take 1 ns else ns

-- the constant that gives a value of numbers; a tensor's type has the sizes of the value
abbrev pub constant_of : Value → Kind
constant_of (Scalar width elem) = kind.Constant width (number_or_zero elem)
constant_of (Tensor width shape elems) =
    kind.Dense (record { dims = map Fixed shape; elem = width }) (shortest (map number_or_zero elems))

-- ---- lines

-- a constant that is `true` or `false` is printed without its width
abbrev pub width_text : Value → List ℕ
width_text (Scalar I1 elem) = codes " : i1"
width_text _ = []

-- a value as its constant is printed, behind a blank, with its type
abbrev pub result_text : Value → List ℕ
result_text v = rule_text literal_rule (literal_fill (constant_of v)) ++ width_text v

-- on a line, without the blank
abbrev pub result_line : Value → List ℕ
result_line v = drop 1 (result_text v ++ codes "\n")

abbrev pub results_text : List Value → List ℕ
results_text vs = flat_map result_line vs
