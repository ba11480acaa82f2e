use Rattle.std.proofs.Common.{◌≡◌, length, sym, ap, ◌∙◌, subst, Some, []}
use Rattle.xf_ir.specs.RuleLinalg.{named_maps}
use Rattle.xf_points.specs.Points.{at, product}
use Rattle.xf_sem.specs.Structured.{front, last_or, dims_of_first}
use Rattle.xf_eval_values.specs.Given.{given_run, listed_one}
use Rattle.xf_eval_values.specs.Meets.{Meets}
use Rattle.xf_eval_points.specs.Frames.{maps_seen, agreed}
use Rattle.xf_eval_points.proofs.ShapeLemmas.{agreed_parts}
use Rattle.xf_eval_tensors.specs.Named.{made_over}
use Rattle.xf_eval_tensors.proofs.NamedLemmas.{maps_over, agreed_over, named_meets, named_undefined}
use Rattle.xf_eval_tensors.proofs.structured.named_onto.Goals as goal

pub returns-in-None : goal.returns-in-None
returns-in-None c =
    let which = c.args.which in
    let t = c.args.out.now in
    let vs = c.args.args.now in
    let maps : c.as_slice.result.now ≡ maps_over which t =
    c.as_slice.ensures ∙ c.in_ok-maps.ensures ∙ ap (λ n. maps_seen (named_maps which n)) c.len-rank.ensures in
    let rank = c.rank_of_named.ensures ∙ ap (λ n. dims_of_first (named_maps which n)) c.len-rank.ensures in
    named_undefined which vs t c.args.op c.args.types.now c.args.budget.now (sym c.requires.out)
    (sym c.in-None.is ∙ c.in_ok-agreed_extents.ensures ∙ (λ i. agreed (rank i) (maps i) vs))

pub over-requires-clause-same : goal.over-requires-clause-same
over-requires-clause-same c =
    let which = c.args.which in
    let t = c.args.out.now in
    let vs = c.args.args.now in
    let maps : c.as_slice.result.now ≡ maps_over which t =
    c.as_slice.ensures ∙ c.in_ok-maps.ensures ∙ ap (λ n. maps_seen (named_maps which n)) c.len-rank.ensures in
    let rank = c.rank_of_named.ensures ∙ ap (λ n. dims_of_first (named_maps which n)) c.len-rank.ensures in
    let a = agreed_parts (dims_of_first (named_maps which (length t.shape))) (named_maps which (length t.shape)) vs t
    c.in-Some.extents (sym c.requires.out)
    (sym c.in-Some.is ∙ c.in_ok-agreed_extents.ensures ∙ (λ i. agreed (rank i) (maps i) vs)) in
    let own : c.as_slice-in-Some.result.now ≡ maps_over which t =
    c.as_slice-in-Some.ensures ∙ sym c.as_slice.ensures ∙ maps in
    ap length (c.in_maps-reads.ensures ∙ ap front own) ∙ a.same ∙ ap length (sym c.ins_of-ins.ensures)

pub over-requires-clause-out : goal.over-requires-clause-out
over-requires-clause-out c =
    let which = c.args.which in
    let t = c.args.out.now in
    let vs = c.args.args.now in
    let maps : c.as_slice.result.now ≡ maps_over which t =
    c.as_slice.ensures ∙ c.in_ok-maps.ensures ∙ ap (λ n. maps_seen (named_maps which n)) c.len-rank.ensures in
    let rank = c.rank_of_named.ensures ∙ ap (λ n. dims_of_first (named_maps which n)) c.len-rank.ensures in
    let a = agreed_parts (dims_of_first (named_maps which (length t.shape))) (named_maps which (length t.shape)) vs t
    c.in-Some.extents (sym c.requires.out)
    (sym c.in-Some.is ∙ c.in_ok-agreed_extents.ensures ∙ (λ i. agreed (rank i) (maps i) vs)) in
    let own : c.as_slice-in-Some-2.result.now ≡ maps_over which t =
    c.as_slice-in-Some-2.ensures ∙ sym c.as_slice.ensures ∙ maps in
    let writes = c.out_map-writes.ensures ∙ ap (last_or []) own in
    a.out ∙ (λ i. at (sym writes i) (sym c.as_slice-in-Some-3.ensures i))

pub returns : goal.returns
returns c =
    let which = c.args.which in
    let t = c.args.out.now in
    let vs = c.args.args.now in
    let maps : c.as_slice.result.now ≡ maps_over which t =
    c.as_slice.ensures ∙ c.in_ok-maps.ensures ∙ ap (λ n. maps_seen (named_maps which n)) c.len-rank.ensures in
    let rank = c.rank_of_named.ensures ∙ ap (λ n. dims_of_first (named_maps which n)) c.len-rank.ensures in
    let agreed_is : Some c.in-Some.extents ≡ agreed_over which t vs =
    sym c.in-Some.is ∙ c.in_ok-agreed_extents.ensures ∙ (λ i. agreed (rank i) (maps i) vs) in
    let reads : c.in_maps-reads.result.now ≡ front (maps_over which t) =
    c.in_maps-reads.ensures ∙ ap front (c.as_slice-in-Some.ensures ∙ sym c.as_slice.ensures ∙ maps) in
    let writes : c.out_map-writes.result.now ≡ last_or [] (maps_over which t) =
    c.out_map-writes.ensures ∙ ap (last_or []) (c.as_slice-in-Some-2.ensures ∙ sym c.as_slice.ensures ∙ maps) in
    let es : c.as_slice-in-Some-3.result.now ≡ c.in-Some.extents = c.as_slice-in-Some-3.ensures in
    named_meets which vs t c.in-Some.extents c.args.op c.args.types.now c.args.budget.now c.over.new.budget
    (listed_one c.over.result) (sym c.requires.out) agreed_is
    (subst (λ e. Meets (given_run c.args.op c.args.types.now (product e)
    (Some (made_over which e (front (maps_over which t)) (front vs) (last_or [] (maps_over which t)) t)))
    c.args.budget.now c.over.new.budget (listed_one c.over.result)) es
    (subst (λ w. Meets (given_run c.args.op c.args.types.now (product c.as_slice-in-Some-3.result.now)
    (Some (made_over which c.as_slice-in-Some-3.result.now (front (maps_over which t)) (front vs) w t)))
    c.args.budget.now c.over.new.budget (listed_one c.over.result)) writes
    (subst (λ u. Meets (given_run c.args.op c.args.types.now (product c.as_slice-in-Some-3.result.now)
    (Some (made_over which c.as_slice-in-Some-3.result.now (front (maps_over which t)) u
    c.out_map-writes.result.now t))) c.args.budget.now c.over.new.budget (listed_one c.over.result)) c.ins_of-ins.ensures
    (subst (λ r. Meets (given_run c.args.op c.args.types.now (product c.as_slice-in-Some-3.result.now)
    (Some (made_over which c.as_slice-in-Some-3.result.now r c.ins_of-ins.result.now c.out_map-writes.result.now t)))
    c.args.budget.now c.over.new.budget (listed_one c.over.result)) reads c.over.ensures))))
