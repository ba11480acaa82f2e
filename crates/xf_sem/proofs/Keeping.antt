-- Keeping the meaning of a module is an order.
use Rattle.std.proofs.Common.{refl, sym, ap, ◌∙◌}
use Rattle.std.specs.Prelude.{slice_get}
use Rattle.xf_sem.specs.Laws.{KeepingIsReflexive, KeepingComposes}

pub keeping_is_reflexive : KeepingIsReflexive
keeping_is_reflexive m = record { functions = refl; returns = λ number f vs ws h t p. p }

pub keeping_composes : KeepingComposes
keeping_composes a b c h k = record {
  functions = h.functions ∙ k.functions;
  returns = λ number f vs ws e t p. k.returns number f vs ws (ap (λ fs. slice_get fs number) (sym h.functions)
      ∙ e) t (h.returns number f vs ws e t p);
}
