use Rattle.std.proofs.Common.{◌≡◌, drop}
use Rattle.xf_ir.specs.Lists.{every}
use Rattle.xf_tests.specs.Short.{is_short_attr}
use Rattle.xf_tests.proofs.bounds.are_short_attrs.Given as goal

-- what is left passes where the whole does
abbrev pub invariant-loop-attr : goal.invariant-loop-attr
invariant-loop-attr l = every is_short_attr (drop l.attr-index l.attrs) ≡ every is_short_attr l.attrs
