use Rattle.std.proofs.Common.{length, arith, ap, sym, ◌∙◌}
use Rattle.xf_index.specs.Index.{name_at}
use Rattle.xf_index.proofs.IndexLemmas.{held_other, removed}
use Rattle.xf_index.proofs.name_index.NameIndex.remove.Goals as goal

pub leave-requires-clause-other : goal.leave-requires-clause-other
leave-requires-clause-other c =
    let e = c.self.view_is in
    held_other _ _ _ c.self.invariant (omega (arith, ap length e, c.requires.within))
    (λ q. c.requires.held (sym (ap (λ n. name_at n c.args.slot) e) ∙ q))

pub invariant_of-self : goal.invariant_of-self
invariant_of-self c = removed _ _ _ _ c.self.invariant (omega (arith, ap length c.self.view_is, c.requires.within))
    c.leave.ensures
