use Rattle.std.proofs.Common.{sym, ap, subst, ◌∙◌}
use Rattle.xf_span.specs.declared.fault.Fault.{Fault}
use Rattle.xf_span.specs.declared.fault.TextFault.TheVariants as text_fault
use Rattle.xf_ir.specs.declared.rule.Rule.{Rule}
use Rattle.xf_ir.specs.Violations.{Violation}
use Rattle.xf_payload.specs.Payload.{rule_fault, IsJudged}
use Rattle.xf_payload.proofs.Refused.{verdict_told}
use Rattle.xf_payload.proofs.payload.judge.Goals as goal

pub returns-in-Err-Rule-clause-fault : goal.returns-in-Err-Rule-clause-fault
returns-in-Err-Rule-clause-fault c =
    let m = c.args.read.now.module in
    let places = c.args.read.now.places in
    let first = rw c.in-Err-Rule.field-0-is at c.in-Err-Rule.ensures.first in
    let told = verdict_told m places c.in-Err-Rule.rule c.in-Err-Rule.op first in
    let is = c.rule_fault.ensures ∙ ap (λ (r : Rule). rule_fault places
    (let x : Violation = record { rule = r; op = c.in-Err-Rule.op } in x)) c.numbered-rule.ensures in
    subst (λ (f : Fault). IsJudged m places (text_fault.At f)) (sym is) told
