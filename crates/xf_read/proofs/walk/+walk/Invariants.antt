use Rattle.std.proofs.Common.{◌≡◌, ◌+◌, ◌*◌, ◌≤◌, length}
use Rattle.std.specs.Vec.Iter.{into_iter_items, into_iter_len}
use Rattle.xf_syntax.specs.View.{nodes_of, bodies_of, nodes_size, bodies_size}
use Rattle.xf_read.proofs.Walking.{NodesLeft, BodiesLeft}
use Rattle.xf_read.proofs.walk.+walk.Given as goal

abbrev pub decreases-operation : goal.decreases-operation
decreases-operation l = 2 * bodies_size l.node.bodies + 1

abbrev pub decreases-inner_blocks : goal.decreases-inner_blocks
decreases-inner_blocks l = 2 * bodies_size (bodies_of l.bodies.items)

abbrev pub decreases-block : goal.decreases-block
decreases-block l = 2 * nodes_size l.body.nodes + 1

abbrev pub decreases-operations : goal.decreases-operations
decreases-operations l = 2 * nodes_size (nodes_of l.nodes.items)

abbrev pub invariant-operations-loop-node : goal.invariant-operations-loop-node
invariant-operations-loop-node l = record {
  left : NodesLeft l.tokens l.fn.walk l.fn.nodes.items l.walk l.ops.items (into_iter_items l.node-iterator);
  len : into_iter_len l.node-iterator ≡ length (into_iter_items l.node-iterator);
  smaller : nodes_size (nodes_of (into_iter_items l.node-iterator)) ≤ nodes_size (nodes_of l.fn.nodes.items);
}

abbrev pub invariant-inner_blocks-loop-body : goal.invariant-inner_blocks-loop-body
invariant-inner_blocks-loop-body l = record {
  left : BodiesLeft l.tokens l.parts l.fn.walk l.fn.bodies.items l.walk l.made.items (into_iter_items l.body-iterator);
  len : into_iter_len l.body-iterator ≡ length (into_iter_items l.body-iterator);
  smaller : bodies_size (bodies_of (into_iter_items l.body-iterator)) ≤ bodies_size (bodies_of l.fn.bodies.items);
}
