use Rattle.std.proofs.Common.{◌≡◌, ◌∙◌, ◌++◌, sym, ap, length}
use Rattle.std.specs.Prelude.{map}
use Rattle.std.proofs.lemmas.List.{length-map}
use Rattle.xf_points.specs.Points.{points}
use Rattle.xf_eval_points.specs.declared.span.Span.{Span}
use Rattle.xf_eval_points.specs.Spans.{spread, rest_from}
use Rattle.xf_eval_points.proofs.SpanLemmas.{starts, all_open}
use Rattle.xf_eval_points.proofs.OntoLemmas.{whole_spread}
use Rattle.xf_eval_tensors.specs.Slices.{item_over}
use Rattle.xf_eval_tensors.proofs.slice_put.elems_by_point.Goals as goal

pub loop-more-init : goal.loop-more-init
loop-more-init c =
    let t = c.args.target.now in
    let ss = c.args.outer.now in
    let f = item_over c.args.source.now t c.args.spans.now in
    let rest = rest_from c.are_open-more.result ss c.begin.new.point in
    let all : rest ≡ points t.shape =
    ap (rest_from c.are_open-more.result ss) c.begin.ensures
    ∙ starts ss c.are_open-more.result (sym c.are_open-more.ensures) ∙ ap spread c.requires.outer
    ∙ whole_spread t.shape in
    record {
      done = ap (λ xs. xs ++ map f rest) c.new-elems.ensures.items ∙ ap (map f) all;
      point_room = ap length c.begin.ensures ∙ length-map ss (λ (s : Span). s.from);
      room = c.requires.room;
      opens = λ e. all_open ss (sym c.are_open-more.ensures ∙ e);
    }
