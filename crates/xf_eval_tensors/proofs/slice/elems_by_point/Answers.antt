use Rattle.std.proofs.Common.{◌≡◌, ◌∙◌, ◌++◌, sym, ap, length}
use Rattle.std.specs.Prelude.{map}
use Rattle.std.proofs.lemmas.List.{length-map}
use Rattle.xf_type.specs.declared.payload_type.Elem.TheVariants.{NoNumber}
use Rattle.xf_points.specs.Points.{element}
use Rattle.xf_eval_points.specs.declared.span.Span.{Span}
use Rattle.xf_eval_points.specs.Spans.{spread, rest_from}
use Rattle.xf_eval_points.proofs.SpanLemmas.{starts, all_open}
use Rattle.xf_eval_tensors.proofs.slice.elems_by_point.Goals as goal

pub loop-more-init : goal.loop-more-init
loop-more-init c =
    let t = c.args.tensor.now in
    let ss = c.args.spans.now in
    let f = element NoNumber t.shape t.elems in
    let rest = rest_from c.are_open-more.result ss c.begin.new.point in
    let all : rest ≡ spread ss =
    ap (rest_from c.are_open-more.result ss) c.begin.ensures
    ∙ starts ss c.are_open-more.result (sym c.are_open-more.ensures) in
    record {
      done = ap (λ xs. xs ++ map f rest) c.new-elems.ensures.items ∙ ap (map f) all;
      room = ap length c.begin.ensures ∙ length-map ss (λ (s : Span). s.from);
      opens = λ e. all_open ss (sym c.are_open-more.ensures ∙ e);
    }
