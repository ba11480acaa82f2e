-- Strings (MLIR: string attributes).
use Rattle.std.specs.Prelude.{ℕ, ◌+◌, ◌/◌, ◌%◌, List, [], ◌∷◌, ◌++◌, codes, Bool}
use Rattle.std.specs.Prelude.{◌==◌, ◌&&◌, ◌||◌, not, nat_lt, if◌then◌else◌}
use Rattle.std.specs.List.{flat_map}
use Rattle.xf_type.specs.Bytes.{between}

-- a digit from 0 to 9 or A to F
abbrev pub hex_digit : ℕ → ℕ
hex_digit d = if nat_lt d 10 then 48 + d else 55 + d

-- from the blank to ~, without the quote and \
abbrev pub is_plain : ℕ → Bool
is_plain b = between 32 126 b && not ((b == 34) || (b == 92))

-- a byte of a string: itself, or \ and two digits
abbrev pub byte_text : ℕ → List ℕ
byte_text b = if is_plain b then b ∷ [] else 92 ∷ hex_digit (b / 16) ∷ hex_digit (b % 16) ∷ []

abbrev pub string_text : List ℕ → List ℕ
string_text bytes = codes "\"" ++ (flat_map byte_text bytes ++ codes "\"")
