use Rattle.std.proofs.Common.{◌≡◌, ◌==◌, drop}
use Rattle.std.specs.List.{list_all}
use Rattle.xf_read_base.proofs.elements.all_are.Given as goal

abbrev pub invariant-loop-other : goal.invariant-loop-other
invariant-loop-other l =
    list_all (λ k. k == l.number) (drop l.other-index l.numbers) ≡ list_all (λ k. k == l.number) l.numbers
