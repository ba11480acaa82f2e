use Rattle.std.proofs.Common.{◌≡◌, Some, None, sym, ap, ◌∙◌}
use Rattle.xf_verify.specs.Chains.{numbers_in, ends_at}
use Rattle.xf_verify.proofs.calls.CallGraph.callee_ends.Goals as goal

pub returns-in-Some : goal.returns-in-Some
returns-in-Some c =
    let e : numbers_in c.args.self.now.numbers c.in-Call.callee ≡ Some c.in-Some.number.now =
    ap (numbers_in c.args.self.now.numbers) (sym c.as_slice.ensures) ∙ sym c.in-Some.ensures.value in
    rw (c.in-Call.is, e) (c.ends_at.ensures ∙ ap (λ es. ends_at es c.in-Some.number.now) c.deref.ensures.value)

pub returns-in-None : goal.returns-in-None
returns-in-None c =
    let e : numbers_in c.args.self.now.numbers c.in-Call.callee ≡ None =
    ap (numbers_in c.args.self.now.numbers) (sym c.as_slice.ensures) ∙ sym c.in-None.ensures.value in
    rw (c.in-Call.is, e)
