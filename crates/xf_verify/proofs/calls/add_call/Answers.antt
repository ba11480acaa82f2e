use Rattle.std.proofs.Common.{◌≡◌, Some, None, sym, ap, ◌∙◌, append-nil}
use Rattle.xf_verify.specs.Chains.{numbers_in}
use Rattle.xf_verify.proofs.calls.add_call.Goals as goal

pub returns-in_ok-push : goal.returns-in_ok-push
returns-in_ok-push c =
    let e : numbers_in c.args.numbers.now c.in-Call.callee ≡ Some c.in-Some.number.now =
    ap (numbers_in c.args.numbers.now) (sym c.as_slice.ensures) ∙ sym c.in-Some.ensures.value in
    rw (c.in-Call.is, e) c.in_ok-push.ensures.ok

pub returns-in_default-get : goal.returns-in_default-get
returns-in_default-get c =
    let e : numbers_in c.args.numbers.now c.in-Call.callee ≡ None =
    ap (numbers_in c.args.numbers.now) (sym c.as_slice.ensures) ∙ sym c.in_default-get.ensures.value in
    rw (c.in-Call.is, e) (sym (append-nil c.args.callees.now))
