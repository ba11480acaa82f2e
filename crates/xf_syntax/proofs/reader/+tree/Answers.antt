use Rattle.std.proofs.Common.{sym, ◌∙◌, arith}
use Rattle.std.proofs.lemmas.Result.{err_from_is_err_and}
use Rattle.xf_syntax.specs.View.{bodies_of}
use Rattle.xf_syntax.proofs.Going.{goes_first, goes_on, ends, fails}
use Rattle.xf_syntax.proofs.Steps.{bodies_fail, tail_fails, node_is}
use Rattle.xf_syntax.proofs.reader.+tree.Goals as goal

pub nodes_at-ops-init : goal.nodes_at-ops-init
nodes_at-ops-init t c = record {
  going = rw c.new-nodes.ensures.items
      (goes_first c.args.tokens.now c.args.depth c.args.level c.args.count.now c.args.at);
  begin = omega arith;
  within = c.requires;
}

pub nodes_at-returns-in_err-node-clause-gives : goal.nodes_at-returns-in_err-node-clause-gives
nodes_at-returns-in_err-node-clause-gives t c =
    let p = err_from_is_err_and c.from_residual.result c.from_residual.ensures.1 in
    λ f room. rw (p.1, p.2)
    (fails c.in_err-node.field-0.0 c.args.tokens.now c.args.depth c.ops.nodes.items c.args.level c.args.count.now
    c.args.at c.ops.level c.ops.count c.ops.at (sym c.closes.ensures ∙ c.ops-test.true)
    c.ops.invariant.within c.in_err-node.ensures.gives c.ops.invariant.going f room)

pub nodes_at-ops-preserved : goal.nodes_at-ops-preserved
nodes_at-ops-preserved t c = record {
  going = rw (c.in_ok-push.ensures.items, c.behind-level.ensures)
      (goes_on c.args.tokens.now c.args.depth c.ops.nodes.items c.args.level c.args.count.now c.args.at c.ops.level
      c.ops.count c.ops.at c.in_ok-node.node c.node_at.new.count c.in_ok-node.next
      (sym c.closes.ensures ∙ c.ops-test.true) c.in_ok-node.ensures.within.0 c.ops.invariant.within
      c.in_ok-node.ensures.gives c.ops.invariant.going);
  begin = omega (arith, c.ops.invariant.begin, c.in_ok-node.ensures.within.0);
  within = c.in_ok-node.ensures.within.1;
}

pub nodes_at-returns-clause-gives : goal.nodes_at-returns-clause-gives
nodes_at-returns-clause-gives t c = λ f room. rw c.shrink_to_fit.ensures.items
    (ends c.args.tokens.now c.args.depth c.ops.nodes.items c.args.level c.args.count.now c.args.at c.ops.level
    c.ops.count c.ops.at (sym c.closes.ensures ∙ c.ops-test.false) c.ops.invariant.within c.ops.invariant.going f room)

pub node_at-returns-in_err-bodies-clause-gives : goal.node_at-returns-in_err-bodies-clause-gives
node_at-returns-in_err-bodies-clause-gives t c =
    let p = err_from_is_err_and c.from_residual-in_err-bodies.result c.from_residual-in_err-bodies.ensures.1 in
    λ f room. rw (p.1, p.2)
    (bodies_fail c.in_err-bodies.field-0.0 f c.args.tokens.now c.args.level c.args.depth c.args.count.now c.args.at
    c.in_ok-parts.next c.in_ok-parts.parts c.in_ok-parts.ensures.gives
    (c.in_err-bodies.ensures.gives f (omega (arith, room, c.in_ok-parts.ensures.within.0))))

pub node_at-returns-in_err-next-clause-gives : goal.node_at-returns-in_err-next-clause-gives
node_at-returns-in_err-next-clause-gives t c =
    let p = err_from_is_err_and c.from_residual-in_err-next.result c.from_residual-in_err-next.ensures.1 in
    λ f room. rw (p.1, p.2)
    (tail_fails c.in_err-next.field-0.0 f c.args.tokens.now c.args.level c.args.depth c.args.count.now c.args.at
    c.in_ok-parts.next c.in_ok-parts.parts c.bodies_at.new.parts (bodies_of c.in_ok-bodies.bodies.items)
    c.bodies_at.new.count c.in_ok-bodies.next
    c.in_ok-parts.ensures.gives (c.in_ok-bodies.ensures.gives f (omega (arith, room, c.in_ok-parts.ensures.within.0)))
    (rw (sym c.row_tail.ensures) c.in_err-next.ensures.gives))

pub node_at-returns-clause-gives : goal.node_at-returns-clause-gives
node_at-returns-clause-gives t c = λ f room. rw c.in_ok-parts-2.ensures.ok
    (node_is f c.args.tokens.now c.args.level c.args.depth c.args.count.now c.args.at c.in_ok-parts.next
    c.in_ok-parts.parts c.bodies_at.new.parts c.slots_at.new.parts (bodies_of c.in_ok-bodies.bodies.items)
    c.bodies_at.new.count c.in_ok-bodies.next c.in_ok-next.next
    c.in_ok-parts.ensures.gives (c.in_ok-bodies.ensures.gives f (omega (arith, room, c.in_ok-parts.ensures.within.0)))
    (rw (sym c.row_tail.ensures) c.in_ok-next.ensures.gives))
