use Rattle.std.proofs.Common.{◌∙◌}
use Rattle.xf_verify.proofs.ChainLemmas.{none_end}
use Rattle.xf_verify.proofs.calls.ends_of.Goals as goal

pub loop-passed-init : goal.loop-passed-init
loop-passed-init c = c.in_ok-ends.ensures.items_if_clones_equal (λ y e. e) ∙ none_end c.args.calls.now
