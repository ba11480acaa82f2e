use Rattle.std.proofs.Common.{length, ap, arith, slice_index, ◌∙◌}
use Rattle.xf_rings.proofs.GroupLemmas.{row_left_is}
use Rattle.xf_rings.proofs.groups.Groups.members.Goals as goal

pub of-requires : goal.of-requires
of-requires c =
    let e = c.self.view_is in
    (row_left_is _ _ c.args.head c.self.invariant (omega (arith, ap length e, c.requires.head_in))
    (ap (λ o. slice_index o c.args.head) e ∙ c.requires.is_head)).0

pub returns : goal.returns
returns c =
    let e = c.self.view_is in
    rw (c.of.ensures, ← e) (row_left_is _ _ c.args.head c.self.invariant
    (omega (arith, ap length e, c.requires.head_in)) (ap (λ o. slice_index o c.args.head) e
    ∙ c.requires.is_head)).1
