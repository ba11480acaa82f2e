use Rattle.std.proofs.Common.{◌≡◌}
use Rattle.xf_read_base.specs.Attributes.{attrs_in}
use Rattle.xf_read_base.proofs.entries.attributes_of.Given as goal

abbrev pub invariant-loop-name : goal.invariant-loop-name
invariant-loop-name l = l.attrs ≡ attrs_in l.yielded
