use Rattle.std.proofs.Common.{◌≡◌, drop}
use Rattle.std.specs.Prelude.{None}
use Rattle.std.specs.Option.{option_copied}
use Rattle.xf_rules.specs.Attributes.{names_ascend}
use Rattle.xf_rules.proofs.attributes.names_ascend.Given as goal

-- what is left ascends behind the one before it where the whole does
abbrev pub invariant-loop-attr : goal.invariant-loop-attr
invariant-loop-attr l = names_ascend (option_copied l.previous) (drop l.attr-index l.attrs) ≡ names_ascend None l.attrs
