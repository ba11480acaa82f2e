-- Where an operation stands: the operation around it, and the number of the region.
use Rattle.std.specs.Prelude.{ℕ}
use Rattle.xf_arena_bed.specs.declared.node.OpId.{OpId}

abbrev pub Home : Type 0
Home = OpId × ℕ
