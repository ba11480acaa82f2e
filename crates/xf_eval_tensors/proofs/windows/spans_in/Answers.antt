use Rattle.xf_eval_tensors.proofs.WindowLemmas.{offsets_differ, sizes_differ}
use Rattle.xf_eval_tensors.proofs.windows.spans_in.Goals as goal

pub returns-then-offsets-extents : goal.returns-then-offsets-extents
returns-then-offsets-extents c =
    offsets_differ c.args.offsets.now c.args.sizes.now c.args.extents.now c.if-offsets-extents.true

pub returns-then-sizes-extents : goal.returns-then-sizes-extents
returns-then-sizes-extents c =
    sizes_differ c.args.offsets.now c.args.sizes.now c.args.extents.now c.if-sizes-extents.true
