use Rattle.std.proofs.Common.{◌∙◌, sym, ap, length}
use Rattle.xf_arena_bed.proofs.ArgsLemmas.{length_args}
use Rattle.xf_arena_bed.proofs.args.ArgsList.len.Goals as goal

pub returns : goal.returns
returns c =
    ap length c.as_slice.ensures.value ∙ sym (length_args c.self.inside.blocks.items)
    ∙ ap length c.self.view_is
