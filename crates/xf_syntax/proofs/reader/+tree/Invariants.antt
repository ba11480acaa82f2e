use Rattle.std.proofs.Common.{◌≤◌, ◌+◌, ◌-◌, ◌*◌, length}
use Rattle.xf_syntax.specs.View.{nodes_of}
use Rattle.xf_syntax.proofs.Going.{Going}
use Rattle.xf_syntax.proofs.reader.+tree.Given as goal

-- a body opens one more region, and no more than 32 are open
abbrev pub decreases-bodies_at : goal.decreases-bodies_at
decreases-bodies_at l = 5 * (32 - l.depth) + 2

abbrev pub decreases-with_else : goal.decreases-with_else
decreases-with_else l = 5 * (32 - l.depth) + 1

abbrev pub decreases-body_at : goal.decreases-body_at
decreases-body_at l = 5 * (32 - l.depth)

abbrev pub decreases-node_at : goal.decreases-node_at
decreases-node_at l = 5 * (32 - l.depth) + 3

abbrev pub decreases-nodes_at : goal.decreases-nodes_at
decreases-nodes_at l = 5 * (32 - l.depth) + 4

abbrev pub invariant-nodes_at-ops : goal.invariant-nodes_at-ops
invariant-nodes_at-ops l = record {
  going : Going l.tokens l.depth (nodes_of l.nodes.items) l.initial.level l.initial.count l.initial.at l.level l.count
      l.at;
  begin : l.initial.at ≤ l.at;
  within : l.at ≤ length l.tokens;
}

abbrev pub decreases-nodes_at-ops : goal.decreases-nodes_at-ops
decreases-nodes_at-ops l = length l.tokens - l.at
