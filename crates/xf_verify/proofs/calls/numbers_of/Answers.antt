use Rattle.std.proofs.Common.{◌≤◌, length, sym, ap, ◌∙◌, arith}
use Rattle.std.proofs.lemmas.List.{at_drop_all}
use Rattle.xf_ir.specs.Tree.{Tree}
use Rattle.xf_ir.specs.Walk.{first_of}
use Rattle.xf_verify.specs.Chains.{numbers_in, with_number, number_from}
use Rattle.xf_verify.proofs.ChainLemmas.{numbers_more, numbers_all}
use Rattle.xf_verify.proofs.calls.numbers_of.Goals as goal

pub loop-number-preserved : goal.loop-number-preserved
loop-number-preserved c =
    numbers_more c.args.functions.now c.loop-number.number c.index-functions-number.result c.index-functions-number.is
    c.loop-number-test.true (numbers_in c.loop-number.numbers) (numbers_in c.add_number.new.numbers)
    (number_from 0 c.args.functions.now)
    (c.in_ok-add_number.ensures ∙ ap (λ (x : Tree). with_number x.kind c.loop-number.number
    (numbers_in c.loop-number.numbers)) c.function.view_is) c.loop-number.invariant

pub returns : goal.returns
returns c =
    let ts = c.args.functions.now in
    let le : length ts ≤ c.loop-number.number = omega (arith, c.loop-number-test.false) in
    numbers_all (numbers_in c.loop-number.numbers) (number_from 0 ts) c.loop-number.number (λ s.
    sym (at_drop_all (λ us. first_of (numbers_in c.loop-number.numbers s) (number_from c.loop-number.number us s))
    ts c.loop-number.number le) ∙ c.loop-number.invariant s)
