use Rattle.std.proofs.Common.{◌≡◌, ◌≤◌, IfOk, sym, subst, arith}
use Rattle.xf_eval_values.proofs.StackLemmas.{entry_without, entry_with}
use Rattle.xf_eval_values.proofs.stack.lookup.Goals as goal

pub returns-in-Some : goal.returns-in-Some
returns-in-Some c =
    subst (λ v. IfOk c.held_at.result (λ held. held ≡ v))
    (entry_with c.args.entries.now c.loop-at.at c.index-entries-at.result c.args.name c.in-Some.number (omega arith)
    c.loop-at.invariant.0 c.index-entries-at.is c.loop-at.invariant.1 c.in-Some.ensures)
    c.held_at.ensures

pub loop-at-preserved : goal.loop-at-preserved
loop-at-preserved c = (
  omega (arith, c.loop-at.invariant.0),
  entry_without c.args.entries.now c.loop-at.at c.index-entries-at.result c.args.name (omega arith)
      c.loop-at.invariant.0 c.index-entries-at.is c.loop-at.invariant.1 (sym c.in_default.ensures),
)
