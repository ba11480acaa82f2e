use Rattle.std.proofs.Common.{◌≡◌, take}
use Rattle.xf_ir.specs.View.{regions_of}
use Rattle.xf_arena_tree.specs.Puts.{bare}
use Rattle.xf_arena_bed.proofs.tree.blank_blocks.Given as goal

abbrev pub invariant-loop-region : goal.invariant-loop-region
invariant-loop-region l = regions_of l.blocks.items ≡ bare (take l.region l.args)
