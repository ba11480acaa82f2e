use Rattle.std.proofs.Common.{◌≡◌, ◌∙◌, ◌++◌, sym, ap, subst, length}
use Rattle.std.specs.Prelude.{map}
use Rattle.std.proofs.lemmas.List.{length-map}
use Rattle.xf_points.specs.Points.{Each, Below, points}
use Rattle.xf_points.specs.Operands.{structured}
use Rattle.xf_sem.specs.Tensors.{items_of}
use Rattle.xf_sem.specs.Structured.{body_of, operands}
use Rattle.xf_eval_values.specs.Held.{as_value}
use Rattle.xf_eval_points.specs.declared.span.Span.{Span}
use Rattle.xf_eval_points.specs.Spans.{spread, rest_from}
use Rattle.xf_eval_points.proofs.SpanLemmas.{starts, all_open}
use Rattle.xf_eval_points.proofs.OntoLemmas.{whole_spread}
use Rattle.xf_eval_points.proofs.BoxLemmas.{small_index, all_below}
use Rattle.xf_eval_points.proofs.named.elems_by_index.Goals as goal

pub loop-more-init : goal.loop-more-init
loop-more-init c =
    let t = c.args.out.now in
    let ss = c.args.outer.now in
    let f = structured c.args.extents.now c.args.out_map.now (body_of c.args.kind t.width)
    (operands c.args.maps.now c.args.ins.now) (items_of (as_value t)) in
    let rest = rest_from c.are_open-more.result ss c.begin.new.point in
    let all : rest ≡ points t.shape =
    ap (rest_from c.are_open-more.result ss) c.begin.ensures
    ∙ starts ss c.are_open-more.result (sym c.are_open-more.ensures) ∙ ap spread c.requires.outer
    ∙ whole_spread t.shape in
    record {
      done = ap (λ xs. xs ++ map f rest) c.new-elems.ensures.items ∙ ap (map f) all;
      room = c.requires.room;
      outer_room = ap length c.begin.ensures ∙ length-map ss (λ (s : Span). s.from);
      below = all_below t.shape rest all;
      opens = λ e. all_open ss (sym c.are_open-more.ensures ∙ e);
    }

pub element_at_index-requires-clause-small : goal.element_at_index-requires-clause-small
element_at_index-requires-clause-small c =
    small_index c.loop-more.index c.args.out.now.shape c.requires.is_value.0
    (subst (λ b. Each (λ j. Below j c.args.out.now.shape) (rest_from b c.args.outer.now c.loop-more.index))
    c.loop-more-test.true c.loop-more.invariant.below).0
