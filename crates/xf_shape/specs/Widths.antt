-- Tables of words, and the words of widths.
use Rattle.std.specs.Prelude.{ℕ, List, [], ◌∷◌, map, Option, Some, None, if◌then◌else◌}
use Rattle.std.specs.Str.{bytes_eq}
use Rattle.xf_type.specs.declared.payload_type.Width.{Width}
use Rattle.xf_type.specs.Spelling.{all_widths, width_spelling}

-- a table of words, and what each of them means
abbrev pub Table : Type 0 → Type 0
Table A = List (List ℕ × A)

abbrev pub lookup : {A : Type 0} → Table A → List ℕ → Option A
lookup [] w = None
lookup (e ∷ es) w = if bytes_eq w e.0 then Some e.1 else lookup es w

abbrev pub spelt : {A : Type 0} → (A → List ℕ) → List A → Table A
spelt spelling all = map (λ a. (spelling a, a)) all

abbrev pub widths : Table Width
widths = spelt width_spelling all_widths
