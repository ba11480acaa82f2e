use Rattle.std.proofs.Common.{◌≡◌, drop}
use Rattle.std.specs.Prelude.{nat_lt}
use Rattle.xf_ir.specs.Lists.{every}
use Rattle.xf_eval_points.specs.declared.span.Span.{Span}
use Rattle.xf_eval_points.proofs.span.are_open.Given as goal

abbrev pub invariant-loop-span : goal.invariant-loop-span
invariant-loop-span l =
    every (λ (s : Span). nat_lt s.from s.to) (drop l.span-index l.spans)
    ≡ every (λ (s : Span). nat_lt s.from s.to) l.spans
