use Rattle.std.proofs.Common.{◌∷◌, ◌∙◌, Some, sym, ap, subst}
use Rattle.xf_sem.specs.Tensors.{on_some, slice_given}
use Rattle.xf_eval_values.specs.Given.{given_run, listed_one}
use Rattle.xf_eval_values.specs.Meets.{Meets}
use Rattle.xf_eval_values.proofs.GivenLemmas.{undefined_meets}
use Rattle.xf_eval_tensors.specs.Slices.{slice_spans, cut_out}
use Rattle.xf_eval_tensors.proofs.SliceLemmas.{cut_is}
use Rattle.xf_eval_tensors.proofs.slice.extract_from.Goals as goal

pub returns-in-None : goal.returns-in-None
returns-in-None c =
    let t = c.in-Some.tensor.now in
    let h = sym c.in-None.is ∙ c.in_ok-slice_spans.ensures
    ∙ ap (slice_spans c.args.offsets.now c.args.lengths.now c.args.args.now) c.as_slice.ensures in
    undefined_meets c.args.op c.args.types.now 0
    (slice_given c.args.offsets.now c.args.lengths.now (c.args.source.now ∷ c.args.args.now)) c.args.budget.now
    (cut_is c.args.offsets.now c.args.lengths.now c.args.source.now t c.args.args.now c.in-Some.ensures.parts
    ∙ ap (λ o. on_some o (λ ss. Some (cut_out t ss))) (sym h))

pub returns-in-Some-2 : goal.returns-in-Some-2
returns-in-Some-2 c =
    let t = c.in-Some.tensor.now in
    let h = sym c.in-Some-2.is ∙ c.in_ok-slice_spans.ensures
    ∙ ap (slice_spans c.args.offsets.now c.args.lengths.now c.args.args.now) c.as_slice.ensures in
    subst (λ o. Meets (given_run c.args.op c.args.types.now 0 o) c.args.budget.now c.cut_out.new.budget
    (listed_one c.cut_out.result))
    (ap (λ ss. Some (cut_out t ss)) c.as_slice-in-Some-2.ensures
    ∙ ap (λ o. on_some o (λ ss. Some (cut_out t ss))) h
    ∙ sym (cut_is c.args.offsets.now c.args.lengths.now c.args.source.now t c.args.args.now c.in-Some.ensures.parts))
    c.cut_out.ensures
