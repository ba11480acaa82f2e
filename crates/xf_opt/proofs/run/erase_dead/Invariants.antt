use Rattle.xf_ir.specs.Count.{tree_count}
use Rattle.xf_opt.proofs.Runs.{Going}
use Rattle.xf_opt.proofs.run.erase_dead.Given as goal

abbrev pub invariant-loop-name : goal.invariant-loop-name
invariant-loop-name l = Going l.initial.m l.m l.journal

abbrev pub decreases-loop-name : goal.decreases-loop-name
decreases-loop-name l = tree_count l.m.root
