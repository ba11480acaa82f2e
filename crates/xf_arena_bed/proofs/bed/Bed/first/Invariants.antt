use Rattle.std.proofs.Common.{◌≡◌}
use Rattle.xf_ir.specs.Lists.{Each}
use Rattle.xf_arena_tree.specs.Kids.{first_item, names_in}
use Rattle.xf_arena_bed.specs.Kids.{inner_kids}
use Rattle.xf_arena_bed.specs.Live.{IsLive}
use Rattle.xf_arena_bed.proofs.bed.Bed.first.Given as goal

abbrev pub invariant-loop-kid : goal.invariant-loop-kid
invariant-loop-kid l = record {
  told : first_item (names_in l.region (inner_kids l.kid-iterator))
      ≡ first_item (names_in l.region (inner_kids l.initial.kid-iterator));
  all_live : Each (λ k. IsLive l.self k.id) l.kid-iterator;
}
