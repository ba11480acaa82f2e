use Rattle.std.proofs.Common.{arith, sym, ◌∙◌, ap, refl}
use Rattle.xf_arena_tree.specs.Without.{tree_without}
use Rattle.xf_arena_tree.specs.Inner.{tree_below}
use Rattle.xf_arena_bed.specs.Live.{name_of}
use Rattle.xf_arena_bed.proofs.EraseSteps.{has_before, step_low, seats_stay}
use Rattle.xf_arena_bed.proofs.bed.Bed.+erase.Goals as goal

pub loop-last-init : goal.loop-last-init
loop-last-init t c = record {
  live = c.requires.live;
  low = c.requires.low;
  root = refl;
  slots = refl;
  seats = λ s n h q. h;
  below = omega arith;
  leaf = c.last_kid-last.ensures.none;
  kid_live = c.last_kid-last.ensures.live;
  inner = c.last_kid-last.ensures.inner;
  exact = c.last_kid-last.ensures.exact;
}

pub last_kid-last-requires-in-Some-clause-live : goal.last_kid-last-requires-in-Some-clause-live
last_kid-last-requires-in-Some-clause-live t c =
    let o = name_of c.args.id in
    let inner = rw c.in-Some.is at c.loop-last.invariant.inner in
    let e = c.erase.ensures.root ∙ sym (c.loop-last.invariant.exact (name_of c.in-Some.kid)) in
    c.erase.ensures.seats c.args.id.slot o c.loop-last.invariant.live (rw e inner.stays)

pub loop-last-preserved : goal.loop-last-preserved
loop-last-preserved t c =
    let o = name_of c.args.id in
    let k = name_of c.in-Some.kid in
    let u = c.loop-last.self.root in
    let inv = c.loop-last.invariant in
    let e = c.erase.ensures.root ∙ sym (inv.exact k) in
    let inner = rw c.in-Some.is at inv.inner in
    record {
      live = c.erase.ensures.seats c.args.id.slot o inv.live (rw e inner.stays);
      low = step_low u c.erase.new.self.root k c.args.id.serial e inv.low;
      root = ap (tree_without o) e ∙ inner.inside ∙ inv.root;
      slots = c.erase.ensures.slots ∙ inv.slots;
      seats = λ s n h q. c.erase.ensures.seats s n
          (inv.seats s n h (has_before u c.erase.new.self.root k n e inner.low q)) q;
      below = omega (arith, ap (tree_below o) e, inner.fewer, inv.below);
      leaf = c.last_kid-last-in-Some.ensures.none;
      kid_live = c.last_kid-last-in-Some.ensures.live;
      inner = c.last_kid-last-in-Some.ensures.inner;
      exact = c.last_kid-last-in-Some.ensures.exact;
    }

pub returns-clause-seats : goal.returns-clause-seats
returns-clause-seats t c = λ s n h q.
    let o = name_of c.args.id in
    let u = c.loop-last.self.root in
    let inv = c.loop-last.invariant in
    let before = has_before u c.erase_leaf.new.self.root o n c.erase_leaf.ensures.root inv.low q in
    seats_stay u c.erase_leaf.new.self.root c.loop-last.self.seats c.erase_leaf.new.self.seats c.args.id.slot o s n
    c.erase_leaf.ensures.root inv.low c.erase_leaf.ensures.seats inv.live (inv.seats s n h before) q
