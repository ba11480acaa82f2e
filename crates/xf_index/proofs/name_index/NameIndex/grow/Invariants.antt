use Rattle.std.proofs.Common.{◌≡◌, ℕ, ◌+◌, ◌*◌, ◌<◌, ◌≤◌, length}
use Rattle.std.specs.Prelude.{None}
use Rattle.xf_index.specs.Index.{name_at}
use Rattle.xf_index.proofs.name_index.NameIndex.grow.Given as goal

abbrev pub invariant-loop-slot : goal.invariant-loop-slot
invariant-loop-slot l = record {
  size : length l.bigger ≡ 2 * length l.self + 1;
  done : (s : ℕ) → s < l.slot → name_at l.bigger s ≡ name_at l.self s;
  free : (s : ℕ) → l.slot ≤ s → name_at l.bigger s ≡ None;
}
