use Rattle.std.proofs.Common.{sym, ap, ◌∙◌}
use Rattle.xf_ir.specs.Tree.{Tree}
use Rattle.xf_rules.proofs.BlockLemmas.{by_last}
use Rattle.xf_rules.proofs.blocks.block_ends.Goals as goal

pub returns-in-len1-up : goal.returns-in-len1-up
returns-in-len1-up c =
    c.ends_in.ensures ∙ sym (by_last c.args.holder.now c.args.ops.now c.last-item.result c.last.inside.kind
    c.in-len1-up.len_at_least c.last-item.is (ap (λ (t : Tree). t.kind) (sym c.last.view_is)))
