-- How long a file may be.
use Rattle.std.specs.Prelude.{ℕ}

-- the greatest length of a file that is read, a payload's or a script's
abbrev pub file_limit : ℕ
file_limit = 8388608
