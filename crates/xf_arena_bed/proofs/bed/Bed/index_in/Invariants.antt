use Rattle.std.proofs.Common.{◌≡◌, ◌+◌, ◌≤◌, length}
use Rattle.xf_arena_bed.specs.Homes.{count_before}
use Rattle.xf_arena_bed.specs.Kids.{inner_kids}
use Rattle.xf_arena_bed.specs.Live.{name_of}
use Rattle.xf_arena_bed.proofs.bed.Bed.index_in.Given as goal

abbrev pub invariant-loop-kid : goal.invariant-loop-kid
invariant-loop-kid l = record {
  told : l.before + count_before (name_of l.id) l.region (inner_kids l.kid-iterator)
      ≡ count_before (name_of l.id) l.region (inner_kids l.initial.kid-iterator);
  short : l.before + length l.kid-iterator ≤ length l.initial.kid-iterator;
}
