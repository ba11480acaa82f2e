use Rattle.std.proofs.Common.{◌≡◌, ◌++◌, drop}
use Rattle.xf_ir.specs.Attributes.{without_attr}
use Rattle.xf_ir.proofs.attributes.without.Given as goal

-- what stays so far and what stays of the rest are the whole
abbrev pub invariant-loop-attr : goal.invariant-loop-attr
invariant-loop-attr l = l.left ++ without_attr l.key (drop l.attr-index l.attrs) ≡ without_attr l.key l.attrs
