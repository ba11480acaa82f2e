use Rattle.std.proofs.Common.{◌≡◌, drop}
use Rattle.xf_ir.specs.Lists.{every}
use Rattle.xf_sem.specs.Values.{fits_width}
use Rattle.xf_eval_values.proofs.admission.all_fit.Given as goal

abbrev pub invariant-loop-elem : goal.invariant-loop-elem
invariant-loop-elem l =
    every (fits_width l.width) (drop l.elem-index l.elems) ≡ every (fits_width l.width) l.elems
