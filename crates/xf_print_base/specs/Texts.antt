-- Literals and numbers behind names, as bytes.
use Rattle.std.specs.Prelude.{ℕ, List, [], ◌++◌, codes, Option, Some, None}
use Rattle.xf_type.specs.declared.attribute.AttrValue.{AttrValue}
use Rattle.xf_type.specs.declared.attribute.AttrValue.TheVariants.{Unit as unit_attr, Int, Text}
use Rattle.xf_type.specs.declared.payload_type.Width.{Width}
use Rattle.xf_type.specs.declared.payload_type.Width.TheVariants.{I1}
use Rattle.xf_type.specs.Spelling.{width_spelling}
use Rattle.xf_printed.specs.Attributes.{string_text}
use Rattle.xf_printed.specs.Numbers.{number_text}

-- `#1`
abbrev pub digits_text : Option (List ℕ) → List ℕ
digits_text None = []
digits_text (Some digits) = codes "#" ++ digits

-- `: i32`; an i1 does not say so
abbrev pub width_behind : Width → List ℕ
width_behind I1 = []
width_behind width = codes " : " ++ width_spelling width

-- a number of a width, behind a blank
abbrev pub literal_text : Width → ℕ → List ℕ
literal_text width bits = codes " " ++ (number_text width bits ++ width_behind width)

-- the value of an attribute
abbrev pub value_text : AttrValue → List ℕ
value_text unit_attr = []
value_text (Int width bits) = codes " =" ++ literal_text width bits
value_text (Text bytes) = codes " = " ++ string_text bytes
