use Rattle.std.proofs.Common.{◌≡◌, ◌∷◌, ◌∙◌, true, sym, ap, subst, Ok, Err}
use Rattle.xf_type.specs.Equal.{same_width}
use Rattle.xf_points.specs.Points.{Below}
use Rattle.xf_sem.specs.Tensors.{inserted, width_of}
use Rattle.xf_eval_values.specs.Given.{IsAdmitted}
use Rattle.xf_eval_values.proofs.GivenLemmas.{undefined_meets}
use Rattle.xf_eval_tensors.specs.Indices.{point_in, with_elem}
use Rattle.xf_eval_tensors.proofs.SetLemmas.{inserted_out, inside_below, own_fits, given_with, set_refused, set_gives}
use Rattle.xf_eval_tensors.proofs.element_set.insert_at.Goals as goal

pub returns-in-None : goal.returns-in-None
returns-in-None c =
    let t = c.in-Some-as_tensor.tensor.now in
    undefined_meets c.args.op c.args.types.now 0 (inserted (c.args.part.now ∷ (c.args.target.now ∷ c.args.index.now)))
    c.args.budget.now
    (inserted_out c.args.part.now c.args.target.now t c.args.index.now c.in-Some-as_tensor.ensures.parts
    (sym c.in-None.is ∙ c.in_ok-index_in.ensures ∙ ap (λ s. point_in s c.args.index.now) c.as_slice.ensures))

pub with_element-requires-clause-inside : goal.with_element-requires-clause-inside
with_element-requires-clause-inside c =
    let t = c.in-Some-as_tensor.tensor.now in
    subst (λ q. Below q t.shape) (sym c.as_slice-in-Ok.ensures)
    (inside_below t.shape c.args.index.now c.in-Some-2.index
    (sym c.in-Some-2.is ∙ c.in_ok-index_in.ensures ∙ ap (λ s. point_in s c.args.index.now) c.as_slice.ensures))

pub returns-in-Err : goal.returns-in-Err
returns-in-Err c =
    let u = c.args.part.now in
    let t = c.in-Some-as_tensor.tensor.now in
    let p = c.in-Some-2.index in
    let h = sym c.in-Some-2.is ∙ c.in_ok-index_in.ensures ∙ ap (λ s. point_in s c.args.index.now) c.as_slice.ensures in
    let same : same_width (width_of u) t.width ≡ true =
    sym (ap (λ w. same_width w t.width) c.width.ensures) ∙ sym c.same_width.ensures ∙ c.if-not-same_width.false in
    set_refused c.args.op c.args.types.now t p c.in-Some.elem (inserted (u ∷ (c.args.target.now ∷ c.args.index.now)))
    c.args.budget.now c.admit.new.budget c.in-Err.stop c.in-Some-as_tensor.ensures.is_value
    (inside_below t.shape c.args.index.now p h)
    (own_fits (width_of u) t.width c.in-Some.elem c.in-Some.ensures.fits same)
    (given_with u c.args.target.now c.in-Some.elem t c.args.index.now p c.in-Some.ensures.elem
    c.in-Some-as_tensor.ensures.parts h same)
    (subst (λ s. IsAdmitted c.args.op c.args.types.now t.width s 0 c.args.budget.now c.admit.new.budget (Err c.in-Err.stop))
    c.as_slice-2.ensures c.in-Err.ensures)

pub returns : goal.returns
returns c =
    let u = c.args.part.now in
    let t = c.in-Some-as_tensor.tensor.now in
    let p = c.in-Some-2.index in
    let h = sym c.in-Some-2.is ∙ c.in_ok-index_in.ensures ∙ ap (λ s. point_in s c.args.index.now) c.as_slice.ensures in
    let same : same_width (width_of u) t.width ≡ true =
    sym (ap (λ w. same_width w t.width) c.width.ensures) ∙ sym c.same_width.ensures ∙ c.if-not-same_width.false in
    set_gives c.args.op c.args.types.now t p c.in-Some.elem (inserted (u ∷ (c.args.target.now ∷ c.args.index.now)))
    c.args.budget.now c.admit.new.budget c.in-Ok.field-0 c.in_ok-with_element-in-Ok.field-0
    c.in-Some-as_tensor.ensures.is_value
    (inside_below t.shape c.args.index.now p h)
    (own_fits (width_of u) t.width c.in-Some.elem c.in-Some.ensures.fits same)
    (given_with u c.args.target.now c.in-Some.elem t c.args.index.now p c.in-Some.ensures.elem
    c.in-Some-as_tensor.ensures.parts h same)
    (subst (λ s. IsAdmitted c.args.op c.args.types.now t.width s 0 c.args.budget.now c.admit.new.budget (Ok c.in-Ok.field-0))
    c.as_slice-2.ensures c.in-Ok.ensures)
    (c.in_ok-with_element-in-Ok.ensures ∙ ap (λ q. with_elem t q c.in-Some.elem) c.as_slice-in-Ok.ensures)
