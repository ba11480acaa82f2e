-- How much a text may have.
use Rattle.std.specs.Prelude.{ℕ, ◌-◌, ◌^◌}

-- how many regions may be open at a place
abbrev pub most_open : ℕ
most_open = 32

-- how many operations there may be, with the module and the terminators that a text leaves out
abbrev pub most_operations : ℕ
most_operations = 1000000

-- how many entries a list may have, and bytes a name or a string
abbrev pub most_entries : ℕ
most_entries = 2 ^ 32 - 1
