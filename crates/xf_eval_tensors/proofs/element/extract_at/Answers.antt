use Rattle.std.proofs.Common.{◌∙◌, sym, ap, Some}
use Rattle.xf_type.specs.declared.payload_type.Elem.TheVariants.{NoNumber}
use Rattle.xf_points.specs.Points.{element}
use Rattle.xf_sem.specs.declared.value.Value.TheVariants.{Scalar}
use Rattle.xf_eval_tensors.specs.Indices.{point_in}
use Rattle.xf_eval_tensors.proofs.ElementLemmas.{extracted_out, extracted_in}
use Rattle.xf_eval_tensors.proofs.element.extract_at.Goals as goal

pub returns-in-None : goal.returns-in-None
returns-in-None c =
    extracted_out c.args.source.now c.in-Some.source.now c.args.index.now c.in-Some.ensures.parts
    (sym c.in-None.is ∙ c.in_ok-index_in.ensures ∙ ap (λ s. point_in s c.args.index.now) c.as_slice.ensures)

pub returns-in-Some-2 : goal.returns-in-Some-2
returns-in-Some-2 c =
    let p = c.in-Some.source.now in
    ap Some (c.scalar.ensures ∙ ap (Scalar p.width) (c.element_of-elem.ensures
    ∙ ap (λ s. element NoNumber s c.as_slice-in-Some-2-2.result.now c.as_slice-in-Some-2-3.result.now) c.as_slice-in-Some-2.ensures
    ∙ ap (λ xs. element NoNumber p.shape xs c.as_slice-in-Some-2-3.result.now) c.as_slice-in-Some-2-2.ensures
    ∙ ap (element NoNumber p.shape p.elems) c.as_slice-in-Some-2-3.ensures))
    ∙ extracted_in c.args.source.now p c.args.index.now c.in-Some-2.index c.in-Some.ensures.parts
    (sym c.in-Some-2.is ∙ c.in_ok-index_in.ensures ∙ ap (λ s. point_in s c.args.index.now) c.as_slice.ensures)
