use Rattle.std.proofs.Common.{◌≡◌, ◌∙◌, ◌∷◌, [], sym, ap}
use Rattle.xf_points.specs.Points.{at}
use Rattle.xf_sem.specs.Tensors.{items_of}
use Rattle.xf_sem.specs.Structured.{product_body}
use Rattle.xf_eval_points.proofs.ReadLemmas.{not_multiplied, two_read}
use Rattle.xf_eval_points.proofs.body.multiplied.Goals as goal

pub returns-then-ins-ne2-clause-value : goal.returns-then-ins-ne2-clause-value
returns-then-ins-ne2-clause-value c =
    not_multiplied c.args.width c.args.maps.now c.args.ins.now c.args.point.now c.args.elem c.requires
    c.if-ins-ne2.true

pub returns-clause-value : goal.returns-clause-value
returns-clause-value c =
    let p = c.args.point.now in
    let x = items_of c.index-ins-0.result (at c.index-maps-0.result p) in
    let left = c.read-left.ensures.value ∙ ap (λ m. items_of c.index-ins-0.result (at m p)) c.as_slice.ensures in
    let right = c.read-right.ensures.value ∙ ap (λ m. items_of c.index-ins-1.result (at m p)) c.as_slice-2.ensures in
    c.add_product.ensures.value
    ∙ ap (λ xs. product_body c.args.width p xs c.args.elem)
    (ap (λ a. a ∷ (c.read-right.result ∷ [])) left ∙ ap (λ b. x ∷ (b ∷ [])) right
    ∙ sym (two_read c.args.maps.now c.args.ins.now p c.index-maps-0.result c.index-maps-1.result c.index-ins-0.result
    c.index-ins-1.result c.requires c.if-ins-ne2.false c.index-maps-0.is c.index-ins-0.is c.index-maps-1.is
    c.index-ins-1.is))
