-- Cells that stand for operands and for values; the owner of an operand's cell is the cell of the value that it uses.
use Rattle.std.specs.Prelude.{◌≡◌, ℕ, ◌+◌, ◌-◌, ◌*◌, ◌%◌, ◌<◌, ◌≤◌, ◌^◌, List, [], ◌∷◌, length, slice_index}
use Rattle.std.specs.Prelude.{slice_index_or}
use Rattle.std.specs.Prelude.{Option, Some, None}
use Rattle.xf_uses.specs.declared.cell.Definition.{Definition}
use Rattle.xf_uses.specs.declared.cell.Definition.TheVariants.{Result, Argument}
use Rattle.xf_uses.specs.declared.cell.CellName.{CellName}
use Rattle.xf_uses.specs.declared.cell.CellName.TheVariants.{Operand, Value}
use Rattle.xf_index.specs.Index.{name_at}

-- what each cell stands for, if anything, and the owner of each
pub record Cells : Type 0 where
  pub names : List (Option CellName)
  pub owner : List ℕ

abbrev pub cell_at : List (Option CellName) → ℕ → Option CellName
cell_at names c = slice_index_or names c None

-- how many cells stand for nothing
abbrev pub empties : List (Option CellName) → ℕ
empties [] = 0
empties (None ∷ xs) = empties xs + 1
empties (Some x ∷ xs) = empties xs

-- how many more operands and values there is room for: the first cell stands for nothing ever
abbrev pub room : Cells → ℕ
room a = empties a.names - 1

-- how many operands and values there is room for in all
abbrev pub cell_count : Cells → ℕ
cell_count a = length a.names - 1

-- a number of an operation and more; it starts again behind 64 bits
abbrev pub mixed : ℕ → ℕ → ℕ
mixed o more = (o * 3 % 2 ^ 64 + more) % 2 ^ 64

-- the number by which a value's cell is found
abbrev pub value_number : Definition → ℕ
value_number (Result o num) = mixed o (1 + num)
value_number (Argument o r num) = mixed o (2 + r + num)

-- the number by which a cell is found
abbrev pub cell_number : CellName → ℕ
cell_number (Operand o num) = mixed o num
cell_number (Value v) = value_number v

abbrev pub number_of : Option CellName → Option ℕ
number_of None = None
number_of (Some x) = Some (cell_number x)

-- the first cell owns those that stand for nothing, each value's cell itself; an operand's cell is owned by a value's
pub record AreCells (names : List (Option CellName)) (owner : List ℕ) (index : List (Option ℕ)) : Type 0 where
  pub size : length owner ≡ length names
  pub some : 0 < length names
  pub within : length names ≤ length index
  pub first : cell_at names 0 ≡ None
  pub indexed : (c : ℕ) → name_at index c ≡ number_of (cell_at names c)
  pub apart : (c e : ℕ) (x : CellName) → cell_at names c ≡ Some x → cell_at names e ≡ Some x → c ≡ e
  pub free : (c : ℕ) → c < length names → cell_at names c ≡ None → slice_index owner c ≡ 0
  pub heads : (h : ℕ) (v : Definition) → cell_at names h ≡ Some (Value v) → slice_index owner h ≡ h
  pub used : (c : ℕ) (n : ℕ) (k : ℕ) → cell_at names c ≡ Some (Operand n k) → (v : Definition)
      × (cell_at names (slice_index owner c) ≡ Some (Value v))
