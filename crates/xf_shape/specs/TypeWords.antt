-- The words of types of MLIR that are not supported, by the number of their form.
use Rattle.std.specs.Prelude.{ℕ, List, [], ◌∷◌, length, drop, Option, Some, None, Bool, true, false, not, ◌&&◌, ◌||◌}
use Rattle.std.specs.Prelude.{◌==◌, if◌then◌else◌, is_some, codes}
use Rattle.std.specs.List.{starts_with}
use Rattle.std.specs.Str.{bytes_eq}
use Rattle.xf_type.specs.Bytes.{is_digit}
use Rattle.xf_shape.specs.Widths.{lookup, widths}

abbrev pub one_of : List (List ℕ) → List ℕ → Bool
one_of [] w = false
one_of (k ∷ ks) w = bytes_eq w k || one_of ks w

abbrev pub begins : List ℕ → List ℕ → Bool
begins p w = starts_with ◌==◌ w p

abbrev pub floats : List (List ℕ)
floats =
    codes "f16" ∷ codes "f32" ∷ codes "f64" ∷ codes "f80" ∷ codes "f128" ∷ codes "bf16" ∷ codes "tf32" ∷ []

abbrev pub all_digits : List ℕ → Bool
all_digits [] = true
all_digits (b ∷ bs) = is_digit b && all_digits bs

-- letters, and then one digit or more
abbrev pub digits_behind : List ℕ → List ℕ → Bool
digits_behind p w = begins p w && (not (bytes_eq w p) && all_digits (drop (length p) w))

-- an integer type that is no width
abbrev pub is_other_integer : List ℕ → Bool
is_other_integer w =
    not (is_some (lookup widths w))
    && (digits_behind (codes "i") w || (digits_behind (codes "si") w || digits_behind (codes "ui") w))

abbrev pub type_number : List ℕ → Option ℕ
type_number w =
    if one_of floats w || begins (codes "f8E") w then Some 1
    else (if is_other_integer w then Some 4
    else (if one_of (codes "memref" ∷ codes "vector" ∷ []) w then Some 5 else None))
