use Rattle.std.specs.BTreeMap.{get}
use Rattle.std.specs.Ordering.{nat_cmp}
use Rattle.xf_rules_shape.proofs.ExtentLemmas.{disagrees, agrees_on}
use Rattle.xf_rules_shape.proofs.extents.agree.Goals as goal

pub returns-then-not-branch : goal.returns-then-not-branch
returns-then-not-branch c =
    disagrees (get nat_cmp c.loop-pair.known) c.args.pairs.now c.loop-pair.pair-index c.in_ok-note.field-0 _
    c.loop-pair-test.true c.in_ok-note.ensures.fits c.if-not-branch.true c.loop-pair.invariant

pub loop-pair-preserved : goal.loop-pair-preserved
loop-pair-preserved c =
    agrees_on (get nat_cmp c.loop-pair.known) (get nat_cmp c.note.new.known)
    c.args.pairs.now c.loop-pair.pair-index c.in_ok-note.field-0 _ c.loop-pair-test.true c.in_ok-note.ensures.fits
    c.if-not-branch.false c.in_ok-note.ensures.ok c.loop-pair.invariant
