-- What is left of a walk over the uses of a value.
use Rattle.std.specs.Prelude.{◌≡◌, ℕ, ◌<◌, List, [], ◌∷◌, length, Option, Some, None}
use Rattle.xf_uses.specs.declared.cell.CellName.{CellName}
use Rattle.xf_uses.specs.declared.cell.CellName.TheVariants.{Operand, Value}
use Rattle.xf_uses.specs.declared.cell.Use.{Use}
use Rattle.xf_uses.specs.Cells.{cell_at}

abbrev pub members_left : Option (List ℕ) → List ℕ
members_left None = []
members_left (Some xs) = xs

-- the use that a cell stands for, before others
abbrev pub use_before : Option CellName → List Use → List Use
use_before None more = more
use_before (Some (Value v)) more = more
use_before (Some (Operand n k)) more = record { op = n; operand = k } ∷ more

-- the uses that these cells stand for
abbrev pub uses_left : List (Option CellName) → List ℕ → List Use
uses_left names [] = []
uses_left names (c ∷ cs) = use_before (cell_at names c) (uses_left names cs)

-- each of these cells stands for an operand
abbrev pub AreOperands : List (Option CellName) → List ℕ → Type 0
AreOperands names [] = Unit {0}
AreOperands names (c ∷ cs) = ((c < length names) × ((n : ℕ) × ((k : ℕ) × (cell_at names c ≡ Some (Operand n k)))))
    × AreOperands names cs
