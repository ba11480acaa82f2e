use Rattle.std.proofs.Common.{◌≡◌, map, take}
use Rattle.xf_dense.specs.Actions.{literal_said}
use Rattle.xf_read_base.specs.Elements.{element_bits}
use Rattle.xf_read_base.proofs.elements.all_bits.Given as goal

abbrev pub invariant-loop-literal : goal.invariant-loop-literal
invariant-loop-literal l =
    l.numbers ≡ map (element_bits l.width) (map (literal_said l.tokens) (take l.literal-index l.literals))
