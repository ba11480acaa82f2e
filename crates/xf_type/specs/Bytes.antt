-- Bytes by class, as words and numbers are made of them (MLIR language reference: bare-id, integer-literal).
use Rattle.std.specs.Prelude.{ℕ, Bool, ◌==◌, ◌&&◌, ◌||◌, nat_le}

abbrev pub between : ℕ → ℕ → ℕ → Bool
between least most b = nat_le least b && nat_le b most

abbrev pub is_digit : ℕ → Bool
is_digit b = between 48 57 b

-- a letter or _
abbrev pub is_letter : ℕ → Bool
is_letter b = (between 97 122 b || between 65 90 b) || (b == 95)

-- a byte of a word behind its first: a letter, a digit, _, $ or .
abbrev pub is_word_byte : ℕ → Bool
is_word_byte b = (is_letter b || is_digit b) || ((b == 36) || (b == 46))

-- a hexadecimal digit
abbrev pub is_hex : ℕ → Bool
is_hex b = (is_digit b || between 97 102 b) || between 65 70 b
