use Rattle.std.proofs.Common.{◌≡◌, drop}
use Rattle.xf_ir.specs.Attributes.{attr_of}
use Rattle.xf_ir.proofs.attributes.value_of.Given as goal

-- the value in what is left is the value in the whole
abbrev pub invariant-loop-attr : goal.invariant-loop-attr
invariant-loop-attr l = attr_of l.key (drop l.attr-index l.attrs) ≡ attr_of l.key l.attrs
