use Rattle.std.proofs.Common.{◌≡◌, ◌+◌, ◌++◌, drop}
use Rattle.xf_ir.specs.Calls.{ops_callees, regions_callees}
use Rattle.xf_ir.specs.View.{ops_of, regions_of}
use Rattle.xf_verify.specs.Chains.{numbers_in, numbers_called}
use Rattle.xf_verify.proofs.calls.+add_calls.Given as goal

-- what is there with what is left is the whole
abbrev pub invariant-loop-inner : goal.invariant-loop-inner
invariant-loop-inner l =
    l.callees ++ numbers_called (numbers_in l.numbers) (ops_callees (ops_of (drop l.inner-index l.inner-items))
    ++ regions_callees (regions_of (drop (l.block-index + 1) l.block-items)))
    ≡ l.fn.callees ++ numbers_called (numbers_in l.numbers) (regions_callees l.op.regions)

abbrev pub invariant-loop-block : goal.invariant-loop-block
invariant-loop-block l =
    l.callees ++ numbers_called (numbers_in l.numbers) (regions_callees (regions_of (drop l.block-index l.block-items)))
    ≡ l.fn.callees ++ numbers_called (numbers_in l.numbers) (regions_callees l.op.regions)
