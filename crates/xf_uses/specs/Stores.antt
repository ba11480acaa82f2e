-- Cells that change one at a time, and room.
use Rattle.std.specs.Prelude.{◌≡◌, ℕ, ◌+◌, ◌<◌, List, length, slice_index, None, false}
use Rattle.xf_uses.specs.Cells.{Cells, cell_count, room}
use Rattle.xf_uses.specs.Uses.{Operands, Values, AreUses}

-- no operand, and no value
abbrev pub no_operands : Operands
no_operands n k = None

abbrev pub no_values : Values
no_values v = false

-- a number that another one owns, the first
pub record IsLoose (owner : List ℕ) (c : ℕ) : Type 0 where
  pub within : c < length owner
  pub owned : slice_index owner c ≡ 0
  pub other : c ≡ 0 → ⊥

-- a number that another one, its head, owns
pub record HasOwner (owner : List ℕ) (c h : ℕ) : Type 0 where
  pub within : c < length owner
  pub owned : slice_index owner c ≡ h
  pub other : c ≡ h → ⊥

-- one cell more, with room for one more; the cells stand for what they stood for
pub record IsRoomier (a b : Cells) : Type 0 where
  pub cells : cell_count b ≡ cell_count a + 1
  pub more : room b ≡ room a + 1
  pub same : (u : Operands) (d : Values) → AreUses a u d → AreUses b u d

-- as many cells, and room for one less
pub record Takes (a b : Cells) : Type 0 where
  pub cells : cell_count b ≡ cell_count a
  pub less : room b + 1 ≡ room a

-- as many cells, and as much room
pub record Stays (a b : Cells) : Type 0 where
  pub cells : cell_count b ≡ cell_count a
  pub same : room b ≡ room a
