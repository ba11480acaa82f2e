use Rattle.std.proofs.Common.{◌∙◌, sym, ap}
use Rattle.std.specs.Prelude.{Some}
use Rattle.xf_ir.specs.Tree.{Body}
use Rattle.xf_ir.specs.View.{ops_of}
use Rattle.xf_arena_bed.proofs.RestoreLemmas.{get_block, hollow_emptied}
use Rattle.xf_arena_bed.proofs.restore.take_ops.Goals as goal

pub returns-clause-taken : goal.returns-clause-taken
returns-clause-taken c =
    get_block c.args.regions.now.items c.args.region c.index_mut-block.result.now c.requires
    ∙ ap (λ (b : Body). Some b.ops) (sym c.index_mut-block.ensures.value ∙ sym c.block.view_is)
    ∙ ap (λ v. Some (ops_of v.items)) (sym c.replace.ensures.value)

pub returns-clause-left : goal.returns-clause-left
returns-clause-left c =
    hollow_emptied c.args.regions.now.items c.args.region c.index_mut-block.result.now _ c.requires
    c.index_mut-block.ensures.value (ap (λ (b : Body). b.args) c.block.view_is)
