-- The sets of bytes that tokens are made of.
use Rattle.std.specs.Prelude.{ℕ, Bool}
use Rattle.xf_lex.specs.declared.byte_class.Class.{Class}
use Rattle.xf_lex.specs.declared.byte_class.Class.TheVariants as class
use Rattle.xf_type.specs.Bytes.{is_digit, is_word_byte}
use Rattle.xf_lex.specs.Bytes.{is_name_byte, is_shape_byte}

abbrev pub has : Class → ℕ → Bool
has class.Digit = is_digit
has class.WordByte = is_word_byte
has class.NameByte = is_name_byte
has class.ShapeByte = is_shape_byte
