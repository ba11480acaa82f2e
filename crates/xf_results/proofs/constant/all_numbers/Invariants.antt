use Rattle.std.proofs.Common.{◌≡◌, drop}
use Rattle.xf_ir.specs.Lists.{every}
use Rattle.xf_results.specs.Results.{is_number}
use Rattle.xf_results.proofs.constant.all_numbers.Given as goal

abbrev pub invariant-loop-elem : goal.invariant-loop-elem
invariant-loop-elem l = every is_number (drop l.elem-index l.elems) ≡ every is_number l.elems
