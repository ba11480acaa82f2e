use Rattle.std.proofs.Common.{◌≡◌, ◌∷◌, ◌∙◌, Some, true, false, sym, ap, subst}
use Rattle.xf_points.specs.Points.{same_point}
use Rattle.xf_sem.specs.Tensors.{slice_put}
use Rattle.xf_eval_values.specs.Given.{given_run, listed_one}
use Rattle.xf_eval_values.specs.Meets.{Meets}
use Rattle.xf_eval_values.proofs.GivenLemmas.{undefined_meets}
use Rattle.xf_eval_tensors.specs.Slices.{slice_spans, span_sizes, put_over}
use Rattle.xf_eval_tensors.proofs.PutLemmas.{outside, widths_differ, box_differs, put_given}
use Rattle.xf_eval_tensors.proofs.slice_put.insert_into.Goals as goal

pub returns-in-None : goal.returns-in-None
returns-in-None c =
    undefined_meets c.args.op c.args.types.now 0
    (slice_put c.args.offsets.now c.args.lengths.now (c.args.source.now ∷ (c.args.target.now ∷ c.args.args.now)))
    c.args.budget.now
    (outside c.args.offsets.now c.args.lengths.now c.args.source.now c.args.target.now c.in-Some.part.now
    c.in-Some-as_tensor.whole.now c.args.args.now c.in-Some.ensures.parts c.in-Some-as_tensor.ensures.parts
    (sym c.in-None.is ∙ c.in_ok-slice_spans.ensures
    ∙ ap (slice_spans c.args.offsets.now c.args.lengths.now c.args.args.now) c.as_slice.ensures))

pub returns-then-not-same_width : goal.returns-then-not-same_width
returns-then-not-same_width c =
    undefined_meets c.args.op c.args.types.now 0
    (slice_put c.args.offsets.now c.args.lengths.now (c.args.source.now ∷ (c.args.target.now ∷ c.args.args.now)))
    c.args.budget.now
    (widths_differ c.args.offsets.now c.args.lengths.now c.args.source.now c.args.target.now c.in-Some.part.now
    c.in-Some-as_tensor.whole.now c.args.args.now c.in-Some-2.spans c.in-Some.ensures.parts
    c.in-Some-as_tensor.ensures.parts
    (sym c.in-Some-2.is ∙ c.in_ok-slice_spans.ensures
    ∙ ap (slice_spans c.args.offsets.now c.args.lengths.now c.args.args.now) c.as_slice.ensures)
    (sym c.same_width.ensures ∙ c.if-not-same_width.true))

pub returns-then-not-has_sizes : goal.returns-then-not-has_sizes
returns-then-not-has_sizes c =
    let s = c.in-Some.part.now in
    let ss = c.in-Some-2.spans in
    let sized : same_point s.shape (span_sizes ss) ≡ false =
    (λ i. same_point (sym c.as_slice-2.ensures i) (span_sizes (sym c.as_slice-3.ensures i)))
    ∙ sym c.has_sizes.ensures ∙ c.if-not-has_sizes.true in
    undefined_meets c.args.op c.args.types.now 0
    (slice_put c.args.offsets.now c.args.lengths.now (c.args.source.now ∷ (c.args.target.now ∷ c.args.args.now)))
    c.args.budget.now
    (box_differs c.args.offsets.now c.args.lengths.now c.args.source.now c.args.target.now s
    c.in-Some-as_tensor.whole.now c.args.args.now ss c.in-Some.ensures.parts c.in-Some-as_tensor.ensures.parts
    (sym c.in-Some-2.is ∙ c.in_ok-slice_spans.ensures
    ∙ ap (slice_spans c.args.offsets.now c.args.lengths.now c.args.args.now) c.as_slice.ensures)
    (sym c.same_width.ensures ∙ c.if-not-same_width.false) sized)

pub returns : goal.returns
returns c =
    let s = c.in-Some.part.now in
    let t = c.in-Some-as_tensor.whole.now in
    let ss = c.in-Some-2.spans in
    let sized : same_point s.shape (span_sizes ss) ≡ true =
    (λ i. same_point (sym c.as_slice-2.ensures i) (span_sizes (sym c.as_slice-3.ensures i)))
    ∙ sym c.has_sizes.ensures ∙ c.if-not-has_sizes.false in
    subst (λ o. Meets (given_run c.args.op c.args.types.now 0 o) c.args.budget.now c.put_over.new.budget
    (listed_one c.put_over.result))
    (ap (λ us. Some (put_over s t us)) c.as_slice-4.ensures
    ∙ sym (put_given c.args.offsets.now c.args.lengths.now c.args.source.now c.args.target.now s t c.args.args.now ss
    c.in-Some.ensures.parts c.in-Some-as_tensor.ensures.parts
    (sym c.in-Some-2.is ∙ c.in_ok-slice_spans.ensures
    ∙ ap (slice_spans c.args.offsets.now c.args.lengths.now c.args.args.now) c.as_slice.ensures)
    (sym c.same_width.ensures ∙ c.if-not-same_width.false) sized))
    c.put_over.ensures
