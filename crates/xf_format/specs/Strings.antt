-- What a string stands for.
use Rattle.std.specs.Prelude.{ℕ, ◌+◌, ◌*◌, ◌%◌, List, [], ◌∷◌, drop, ◌==◌, if◌then◌else◌}
use Rattle.std.specs.Char.{digit_value}
use Rattle.xf_type.specs.Bytes.{is_hex}
use Rattle.xf_format.specs.declared.quoted.Escape.{Escape}
use Rattle.xf_format.specs.declared.quoted.Escape.TheVariants as escape
use Rattle.xf_format.specs.declared.quoted.StringStep.{StringStep}
use Rattle.xf_format.specs.declared.quoted.StringStep.TheVariants as step

-- the byte behind a \ that begins no pair of hexadecimal digits
abbrev pub escaped_byte : ℕ → ℕ
escaped_byte b = if b == 110 then 10 else (if b == 116 then 9 else b)

-- what a byte of a string is, behind this
abbrev pub step_of : Escape → ℕ → StringStep
step_of escape.Nothing b = if b == 34 then step.End else (if b == 92 then step.Wait escape.Backslash else step.Byte b)
step_of escape.Backslash b = if is_hex b then step.Wait (escape.Digit b) else step.Byte (escaped_byte b)
step_of (escape.Digit a) b = step.Byte ((digit_value a * 16 + digit_value b) % 256)

-- what a byte gives, and what those behind it give
abbrev pub given : StringStep → (Escape → List ℕ) → List ℕ
given step.End rest = []
given (step.Wait e) rest = rest e
given (step.Byte b) rest = b ∷ rest escape.Nothing

-- the bytes that a string stands for, up to the quote that ends it
abbrev pub decoded_from : Escape → List ℕ → List ℕ
decoded_from e [] = []
decoded_from e (b ∷ bs) = given (step_of e b) (λ f. decoded_from f bs)

-- the bytes that a string with its quotes stands for
abbrev pub decoded : List ℕ → List ℕ
decoded quoted = decoded_from escape.Nothing (drop 1 quoted)
