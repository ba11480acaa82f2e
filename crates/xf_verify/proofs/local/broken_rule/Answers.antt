use Rattle.std.proofs.Common.{sym, ◌∙◌, ◌++◌}
use Rattle.xf_verify.specs.Judged.{shape_rules, type_rules, linalg_rules, range_rules, stand_seen}
use Rattle.xf_verify.proofs.Walking.{stop_in, pass_on}
use Rattle.xf_verify.proofs.local.broken_rule.Goals as goal

pub returns-in-Some : goal.returns-in-Some
returns-in-Some c =
    let p = stand_seen c.args.stand.now in
    let f = c.args.facts.now in
    stop_in c.in-Some.rule (shape_rules p) (type_rules f p ++ (linalg_rules p ++ range_rules p)) c.in-Some.ensures

pub returns-in-Some-broken_types : goal.returns-in-Some-broken_types
returns-in-Some-broken_types c =
    let p = stand_seen c.args.stand.now in
    let f = c.args.facts.now in
    stop_in c.in-Some-broken_types.rule (type_rules f p) (linalg_rules p
    ++ range_rules p) c.in-Some-broken_types.ensures
    ∙ sym (pass_on (shape_rules p) (type_rules f p ++ (linalg_rules p ++ range_rules p)) (sym c.in_default.ensures))

pub returns-in-Some-2 : goal.returns-in-Some-2
returns-in-Some-2 c =
    let p = stand_seen c.args.stand.now in
    let f = c.args.facts.now in
    stop_in c.in-Some-2.rule (linalg_rules p) (range_rules p) (sym c.in-Some-2.is ∙ c.in_ok-rule.ensures)
    ∙ sym (pass_on (type_rules f p) (linalg_rules p ++ range_rules p) (sym c.in_default-broken_types.ensures))
    ∙ sym (pass_on (shape_rules p) (type_rules f p ++ (linalg_rules p ++ range_rules p)) (sym c.in_default.ensures))

pub returns : goal.returns
returns c =
    let p = stand_seen c.args.stand.now in
    let f = c.args.facts.now in
    c.broken_ranges.ensures
    ∙ sym (pass_on (linalg_rules p) (range_rules p) (sym c.in_ok-rule.ensures ∙ c.in_default-2.is))
    ∙ sym (pass_on (type_rules f p) (linalg_rules p ++ range_rules p) (sym c.in_default-broken_types.ensures))
    ∙ sym (pass_on (shape_rules p) (type_rules f p ++ (linalg_rules p ++ range_rules p)) (sym c.in_default.ensures))
