use Rattle.std.proofs.Common.{◌∙◌, sym, ap, arith, length}
use Rattle.std.specs.Prelude.{Some, slice_get}
use Rattle.xf_ir.specs.Tree.{Body}
use Rattle.xf_arena_bed.specs.Blocks.{args_in}
use Rattle.xf_arena_bed.proofs.ArgsLemmas.{length_args, get_args}
use Rattle.xf_arena_bed.proofs.args.ArgsList.get.Goals as goal

pub bounds-blocks-region : goal.bounds-blocks-region
bounds-blocks-region c =
    omega (
      arith,
      c.requires,
      ap length c.self.view_is,
      length_args c.self.inside.blocks.items,
      ap length c.as_slice-blocks.ensures.value,
    )

pub offset_bounds-blocks-region : goal.offset_bounds-blocks-region
offset_bounds-blocks-region c =
    omega (
      arith,
      c.requires,
      ap length c.self.view_is,
      length_args c.self.inside.blocks.items,
      ap length c.as_slice-blocks.ensures.value,
    )

pub returns : goal.returns
returns c =
    let s = c.as_slice-blocks.ensures.value in
    let l = ap length c.self.view_is in
    let m = length_args c.self.inside.blocks.items in
    let n = ap length s in
    let g = get_args c.as_slice-blocks.result.now c.args.region c.index-blocks-region.result
    (omega (arith, c.requires)) in
    ap (λ xs. slice_get xs c.args.region) (sym c.self.view_is ∙ ap args_in (sym s)) ∙ g
    ∙ ap (λ (b : Body). Some b.args) (sym c.index-blocks-region.is)
    ∙ ap (λ (b : Body). Some b.args) (sym c.block.view_is)
