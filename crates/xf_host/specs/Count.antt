use Rattle.std.specs.Prelude.{◌≡◌, ℕ, ◌+◌, ◌-◌, ◌^◌, ◌<◌, ◌⊎◌, min, List, unwrap_or, String}
use Rattle.std.specs.BTreeMap.{BTreeMap, get_by_text}
use Rattle.std.specs.declared.alloc.Global.{Global}

-- a count after one more: it stays at its greatest value
abbrev pub one_more : ℕ → ℕ
one_more n = min (n + 1) (2 ^ 64 - 1)

-- a count rose, or stands at its greatest value
abbrev pub HasRisen : ℕ → ℕ → Type 0
HasRisen old new = (old < new) ⊎ (new ≡ 2 ^ 64 - 1)

-- the count of a path, which is given by its bytes; a path without an entry has 0
abbrev pub count_at : BTreeMap (String Global) ℕ → List ℕ → ℕ
count_at counts path = unwrap_or (get_by_text counts path) 0
