-- Places in a text.
use Rattle.std.specs.Prelude.{ℕ, ◌+◌, ◌-◌, ◌^◌, min, List, [], ◌∷◌, ◌==◌, if◌then◌else◌}
use Rattle.xf_span.specs.declared.place.Place.{Place}

-- a line or a column behind a line or a column, as far as a place can tell
abbrev pub counted : ℕ → ℕ
counted n = min (n + 1) (2 ^ 32 - 1)

-- the place behind a byte, which a line feed ends the line with
abbrev pub next_place : Place → ℕ → Place
next_place p b =
    if b == 10 then record { line = counted p.line; col = 1 } else record { line = p.line; col = counted p.col }

-- the place behind some bytes
abbrev pub place_after : Place → List ℕ → Place
place_after p [] = p
place_after p (b ∷ bs) = place_after (next_place p b) bs

-- the place of the first byte of a text
abbrev pub first_place : Place
first_place = record { line = 1; col = 1 }
