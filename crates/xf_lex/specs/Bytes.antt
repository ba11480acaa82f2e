-- Bytes of blanks, names, shapes and marks, and how many at the front of a text are of one.
use Rattle.std.specs.Prelude.{ℕ, suc, List, [], ◌∷◌, Bool, true, false, not, ◌==◌, ◌&&◌, ◌||◌, if◌then◌else◌}
use Rattle.xf_type.specs.Bytes.{is_digit, is_letter}

-- a letter or one of $ . _ -, as a value's name may begin with
abbrev pub is_name_start : ℕ → Bool
is_name_start b = is_letter b || (((b == 36) || (b == 46)) || (b == 45))

-- a byte of a value's name that began with no digit
abbrev pub is_name_byte : ℕ → Bool
is_name_byte b = is_name_start b || is_digit b

-- what a shape goes on with: any byte of the line but >
abbrev pub is_shape_byte : ℕ → Bool
is_shape_byte b = not ((b == 62) || (b == 10))

-- space, tab, carriage return and line feed
abbrev pub is_blank : ℕ → Bool
is_blank b = ((b == 32) || (b == 9)) || ((b == 13) || (b == 10))

-- ( ) { } [ ] < > , : = - ?
abbrev pub is_mark : ℕ → Bool
is_mark b = ((((b == 40) || (b == 41)) || ((b == 123) || (b == 125)))
    || (((b == 91) || (b == 93)) || ((b == 60) || (b == 62))))
    || ((((b == 44) || (b == 58)) || ((b == 61) || (b == 45))) || (b == 63))

-- how many bytes at the front pass a test
abbrev pub run : (ℕ → Bool) → List ℕ → ℕ
run p [] = 0
run p (b ∷ bs) = if p b then suc (run p bs) else 0

-- whether a text begins with a byte
abbrev pub starts : ℕ → List ℕ → Bool
starts x [] = false
starts x (b ∷ bs) = b == x

-- how many bytes of blanks and comments are at the front, from within a comment or not; a comment ends before its line
-- feed
abbrev pub gap_in : Bool → List ℕ → ℕ
gap_in inside [] = 0
gap_in true (b ∷ bs) = suc (gap_in (not (b == 10)) bs)
gap_in false (b ∷ bs) =
    if is_blank b
    then suc (gap_in false bs)
    else (if (b == 47) && starts 47 bs then suc (gap_in true bs) else 0)

-- how many bytes of blanks and comments are at the front
abbrev pub gap : List ℕ → ℕ
gap bs = gap_in false bs
