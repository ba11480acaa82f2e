use Rattle.std.proofs.Common.{◌≡◌, ◌<◌, ◌∙◌, sym, ap, subst, length, set, IfOk}
use Rattle.xf_points.specs.Points.{place}
use Rattle.xf_sem.specs.declared.value.Value.TheVariants.{Tensor}
use Rattle.xf_eval_tensors.proofs.SetLemmas.{set_is, place_inside}
use Rattle.xf_eval_tensors.proofs.element_set.with_element.Goals as goal

pub changed-requires : goal.changed-requires
changed-requires c =
    let t = c.args.tensor.now in
    subst (λ s. place s c.args.index.now < length c.as_slice-3.result.now) (sym c.as_slice-2.ensures)
    (subst (λ xs. place t.shape c.args.index.now < length xs) (sym c.as_slice-3.ensures)
    (place_inside t c.args.index.now c.requires.is_value c.requires.inside))

pub returns : goal.returns
returns c =
    let t = c.args.tensor.now in
    let p = c.args.index.now in
    subst (λ v. IfOk c.tensor.result (λ value. value ≡ v))
    (ap (λ s. Tensor t.width s c.in_ok-elems.elems) (c.in_ok-shape.ensures ∙ c.as_slice.ensures)
    ∙ ap (Tensor t.width t.shape) (c.in_ok-elems.ensures
    ∙ ap (λ s. set c.as_slice-3.result.now (place s p) c.args.elem) c.as_slice-2.ensures
    ∙ ap (λ xs. set xs (place t.shape p) c.args.elem) c.as_slice-3.ensures)
    ∙ set_is t p c.args.elem c.requires.is_value c.requires.inside)
    c.tensor.ensures
