use Rattle.std.proofs.Common.{◌≡◌}
use Rattle.std.specs.Prelude.{None}
use Rattle.xf_ir.specs.Lists.{Each}
use Rattle.xf_arena_tree.specs.Kids.{before_place, last_or}
use Rattle.xf_arena_bed.specs.Kids.{inner_kids}
use Rattle.xf_arena_bed.specs.Live.{name_of, names_of, IsLive, AreLive}
use Rattle.xf_arena_bed.specs.Moves.{inner_without}
use Rattle.xf_arena_bed.proofs.bed.Bed.sibling_beside.Given as goal

abbrev pub invariant-loop-kid : goal.invariant-loop-kid
invariant-loop-kid l = record {
  told : last_or (names_of l.before)
      (before_place l.at.region l.left (inner_without (name_of l.other) (inner_kids l.kid-iterator)))
      ≡ last_or None
      (before_place l.at.region l.at.at (inner_without (name_of l.other) (inner_kids l.initial.kid-iterator)));
  before_live : AreLive l.self l.before;
  all_live : Each (λ k. IsLive l.self k.id) l.kid-iterator;
}
