use Rattle.std.proofs.Common.{◌≡◌, ◌∙◌, sym, ap, length}
use Rattle.std.proofs.lemmas.List.{length-map}
use Rattle.xf_points.specs.Folds.{everywhere, folded}
use Rattle.xf_points.specs.Operands.{step_of}
use Rattle.xf_sem.specs.Structured.{body_of, operands}
use Rattle.xf_eval_points.specs.declared.span.Span.{Span}
use Rattle.xf_eval_points.specs.Spans.{rest_from}
use Rattle.xf_eval_points.proofs.SpanLemmas.{starts, all_open}
use Rattle.xf_eval_points.proofs.named.fold_box.Goals as goal

pub loop-more-init : goal.loop-more-init
loop-more-init c =
    let step = step_of (body_of c.args.kind c.args.width) (operands c.args.maps.now c.args.ins.now) in
    let ss = c.args.spans.now in
    record {
      done = ap (λ ps. folded everywhere step ps c.args.start)
          (ap (rest_from c.are_open-more.result ss) c.begin.ensures
          ∙ starts ss c.are_open-more.result (sym c.are_open-more.ensures));
      room = ap length c.begin.ensures ∙ length-map ss (λ (s : Span). s.from);
      opens = λ e. all_open ss (sym c.are_open-more.ensures ∙ e);
    }
