use Rattle.xf_uses.proofs.WalkLemmas.{unused_of, used_of, on_false, on_true}
use Rattle.std.proofs.Common.{refl}
use Rattle.xf_uses.proofs.use_lists.UseLists.is_used.Goals as goal

pub returns-in-Some : goal.returns-in-Some
returns-in-Some c = record {
  yes = on_true c.has_members.result (λ t. used_of _ _ _ _ _ _ c.self.invariant c.self.view_is
      c.in-Some.ensures.some t) c.has_members.ensures.yes;
  no = on_false c.has_members.result (λ m. unused_of _ _ _ _ _ _ _ c.self.invariant c.self.view_is
      c.in-Some.ensures.some m refl) c.has_members.ensures.no;
}
