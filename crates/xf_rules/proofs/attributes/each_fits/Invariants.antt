use Rattle.std.proofs.Common.{◌≡◌, drop}
use Rattle.xf_ir.specs.Lists.{every}
use Rattle.xf_rules.specs.Attributes.{attribute_fits}
use Rattle.xf_rules.proofs.attributes.each_fits.Given as goal

-- what is left passes where the whole does
abbrev pub invariant-loop-attr : goal.invariant-loop-attr
invariant-loop-attr l = every attribute_fits (drop l.attr-index l.attrs) ≡ every attribute_fits l.attrs
