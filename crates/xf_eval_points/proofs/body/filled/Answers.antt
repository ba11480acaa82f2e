use Rattle.std.proofs.Common.{◌≡◌, ◌∙◌, sym, ap}
use Rattle.xf_points.specs.Points.{at}
use Rattle.xf_sem.specs.Tensors.{items_of}
use Rattle.xf_sem.specs.Structured.{fill_body}
use Rattle.xf_eval_points.proofs.ReadLemmas.{not_filled, one_read}
use Rattle.xf_eval_points.proofs.body.filled.Goals as goal

pub returns-then-ins-ne1 : goal.returns-then-ins-ne1
returns-then-ins-ne1 c =
    not_filled c.args.maps.now c.args.ins.now c.args.point.now c.args.elem c.requires c.if-ins-ne1.true

pub returns : goal.returns
returns c =
    let p = c.args.point.now in
    c.read.ensures.value ∙ ap (λ m. items_of c.index-ins-0.result (at m p)) c.as_slice.ensures
    ∙ ap (λ xs. fill_body p xs c.args.elem)
    (sym (one_read c.args.maps.now c.args.ins.now p c.index-maps-0.result c.index-ins-0.result c.requires
    c.if-ins-ne1.false c.index-maps-0.is c.index-ins-0.is))
