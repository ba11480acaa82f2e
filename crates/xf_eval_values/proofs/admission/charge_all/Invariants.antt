use Rattle.std.proofs.Common.{◌≡◌, ◌+◌, drop}
use Rattle.xf_sem.specs.Meaning.{elements}
use Rattle.xf_eval_values.proofs.admission.charge_all.Given as goal

-- what is taken so far
abbrev pub invariant-loop-value : goal.invariant-loop-value
invariant-loop-value l =
    l.fn.budget + elements (drop l.value-index l.values) ≡ elements l.values + l.budget
