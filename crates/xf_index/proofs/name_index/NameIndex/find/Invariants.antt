use Rattle.std.proofs.Common.{◌≡◌, ℕ, length}
use Rattle.std.specs.Prelude.{Some}
use Rattle.xf_rings.specs.Groups.{In}
use Rattle.xf_index.specs.Index.{name_at, AllBelow}
use Rattle.xf_index.proofs.name_index.NameIndex.find.Given as goal

abbrev pub invariant-loop-slot : goal.invariant-loop-slot
invariant-loop-slot l = record {
  own : AllBelow (length l.self) l.slot-iterator;
  hope : (s : ℕ) → name_at l.self s ≡ Some l.name → In s l.slot-iterator;
}
