use Rattle.xf_uses.proofs.WalkLemmas.{owner_of}
use Rattle.xf_uses.proofs.use_lists.has_members.Goals as goal

pub returns-in-Some : goal.returns-in-Some
returns-in-Some c = record {
  yes = (
    c.in-Some._member,
    owner_of _ _ _ _ _ c.members-members.ensures c.in-Some.ensures.left,
  );
  no = tt;
}
