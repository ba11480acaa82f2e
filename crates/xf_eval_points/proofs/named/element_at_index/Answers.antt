use Rattle.std.proofs.Common.{◌≡◌, ◌∙◌, sym, ap, length}
use Rattle.xf_type.specs.declared.payload_type.Elem.TheVariants.{NoNumber}
use Rattle.xf_points.specs.Points.{element}
use Rattle.xf_points.specs.Folds.{everywhere, folded}
use Rattle.xf_points.specs.Operands.{step_of}
use Rattle.xf_sem.specs.Tensors.{items_of}
use Rattle.xf_sem.specs.Structured.{body_of, operands}
use Rattle.xf_eval_values.specs.Held.{as_value}
use Rattle.xf_eval_points.specs.Spans.{spread}
use Rattle.xf_eval_points.specs.Onto.{spans_onto}
use Rattle.xf_eval_points.proofs.OntoLemmas.{spans_length}
use Rattle.xf_eval_points.proofs.BoxLemmas.{result_by_box}
use Rattle.xf_eval_points.proofs.named.element_at_index.Goals as goal

pub fold_box-requires-clause-room : goal.fold_box-requires-clause-room
fold_box-requires-clause-room c =
    c.requires.room
    ∙ sym (ap length (c.as_slice-3.ensures.value ∙ c.in_ok-spans_onto.ensures)
    ∙ spans_length c.args.out_map.now c.args.index.now c.args.extents.now)

pub returns : goal.returns
returns c =
    let es = c.args.extents.now in
    let out = c.args.out_map.now in
    let j = c.args.index.now in
    let t = c.args.out.now in
    let step = step_of (body_of c.args.kind t.width) (operands c.args.maps.now c.args.ins.now) in
    let start = c.element_of-start.ensures ∙ ap (λ s. element NoNumber s c.as_slice-2.result.now j) c.as_slice.ensures
    ∙ ap (λ xs. element NoNumber t.shape xs j) c.as_slice-2.ensures in
    c.fold_box.ensures
    ∙ ap (λ ss. folded everywhere step (spread ss) c.element_of-start.result)
    (c.as_slice-3.ensures.value ∙ c.in_ok-spans_onto.ensures)
    ∙ ap (folded everywhere step (spread (spans_onto out j es))) start
    ∙ result_by_box es out step (items_of (as_value t)) j c.requires.below
