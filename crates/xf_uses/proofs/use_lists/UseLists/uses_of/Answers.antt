use Rattle.xf_uses.proofs.WalkLemmas.{operands_view, uses_view, no_uses}
use Rattle.xf_uses.proofs.use_lists.UseLists.uses_of.Goals as goal

pub of-requires : goal.of-requires
of-requires c = rw c.as_slice.ensures.value
    (operands_view _ _ _ _ _ _ _ c.self.invariant c.self.view_is c.in-Some.ensures.some c.members.ensures)

pub returns-in-Some : goal.returns-in-Some
returns-in-Some c = λ u d s. rw (
  c.of.ensures,
  c.as_slice.ensures.value,
) (uses_view _ _ _ _ _ _ _ u d c.self.invariant c.self.view_is c.in-Some.ensures.some
    c.members.ensures s)

pub returns-in-None : goal.returns-in-None
returns-in-None c = λ u d s. rw c.none.ensures (no_uses _ u d _ s c.in-None.ensures.none)
