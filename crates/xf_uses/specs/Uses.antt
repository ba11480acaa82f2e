-- Which operand uses which value, as cells tell it.
use Rattle.std.specs.Prelude.{◌≡◌, ℕ, List, [], ◌∷◌, slice_index, Option, Some, Bool, true, false, ◌==◌, ◌&&◌}
use Rattle.std.specs.Prelude.{if◌then◌else◌}
use Rattle.std.specs.Prelude.{◌⊎◌}
use Rattle.xf_uses.specs.declared.cell.Definition.{Definition}
use Rattle.xf_uses.specs.declared.cell.Definition.TheVariants.{Result, Argument}
use Rattle.xf_uses.specs.declared.cell.CellName.{CellName}
use Rattle.xf_uses.specs.declared.cell.CellName.TheVariants.{Operand, Value}
use Rattle.xf_uses.specs.declared.cell.Use.{Use}
use Rattle.xf_uses.specs.Cells.{Cells, cell_at}

-- a cell stands for it
abbrev pub Has : Cells → CellName → Type 0
Has a x = (c : ℕ) × (cell_at a.names c ≡ Some x)

-- operand k of n has the cell c, which the cell h of the value owns
pub record Links (a : Cells) (n : ℕ) (k : ℕ) (v : Definition) : Type 0 where
  pub c : ℕ
  pub h : ℕ
  pub operand : cell_at a.names c ≡ Some (Operand n k)
  pub value : cell_at a.names h ≡ Some (Value v)
  pub owner : slice_index a.owner c ≡ h

-- the value at each operand of a payload
abbrev pub Operands : Type 0
Operands = ℕ → ℕ → Option Definition

-- which values are defined
abbrev pub Values : Type 0
Values = Definition → Bool

-- the cells stand for exactly these operands, with their values, and for exactly these values
pub record AreUses (a : Cells) (u : Operands) (d : Values) : Type 0 where
  pub linked : (n : ℕ) (k : ℕ) (v : Definition) → u n k ≡ Some v → Links a n k v
  pub operands : (n : ℕ) (k : ℕ) → Has a (Operand n k) → (v : Definition) × (u n k ≡ Some v)
  pub defined : (v : Definition) → d v ≡ true → Has a (Value v)
  pub values : (v : Definition) → Has a (Value v) → d v ≡ true

abbrev pub same_value : Definition → Definition → Bool
same_value (Result o num) (Result o' num') = (o == o') && (num == num')
same_value (Argument o r num) (Argument o' r' num') = (o == o') && ((r == r') && (num == num'))
same_value _ _ = false

-- with another value, or none, at one operand
abbrev pub with_operand : ℕ → ℕ → Option Definition → Operands → Operands
with_operand n k x u m j = if (n == m) && (k == j) then x else u m j

-- with a value that is defined or not
abbrev pub with_value : Definition → Bool → Values → Values
with_value v b d w = if same_value v w then b else d w

-- whatever the cells stand for before, after they stand for it with another value, or none, at one operand
abbrev pub ChangesOperand : Cells → Cells → ℕ → ℕ → Option Definition → Type 0
ChangesOperand a b n k x = (u : Operands) (d : Values) → AreUses a u d → AreUses b (with_operand n k x u) d

-- whatever the cells stand for before, after they stand for it with a value that is defined or not
abbrev pub ChangesValue : Cells → Cells → Definition → Bool → Type 0
ChangesValue a b v x = (u : Operands) (d : Values) → AreUses a u d → AreUses b u (with_value v x d)

-- a use is among uses
abbrev pub InUses : ℕ → ℕ → List Use → Type 0
InUses n k [] = ⊥
InUses n k (x ∷ xs) = ((x.op ≡ n) × (x.operand ≡ k)) ⊎ InUses n k xs

-- each is a use of the value
abbrev pub EachUses : Operands → Definition → List Use → Type 0
EachUses u v [] = Unit {0}
EachUses u v (x ∷ xs) = (u x.op x.operand ≡ Some v) × EachUses u v xs

abbrev pub UsesOnce : List Use → Type 0
UsesOnce [] = Unit {0}
UsesOnce (x ∷ xs) = (InUses x.op x.operand xs → ⊥) × UsesOnce xs

-- exactly the uses of a value, each once
pub record AreUsesOf (u : Operands) (v : Definition) (xs : List Use) : Type 0 where
  pub each : EachUses u v xs
  pub all : (n : ℕ) (k : ℕ) → u n k ≡ Some v → InUses n k xs
  pub once : UsesOnce xs
