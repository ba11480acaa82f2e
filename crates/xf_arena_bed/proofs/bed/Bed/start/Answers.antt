use Rattle.std.proofs.Common.{◌∙◌, ap, arith, length}
use Rattle.xf_arena_bed.specs.Live.{leaf_of}
use Rattle.xf_arena_bed.proofs.CloseLemmas.{closed, rebuilt_is}
use Rattle.xf_arena_bed.proofs.SlotLemmas.{started_done, started_index_done, started_view, layout_same, bare_count}
use Rattle.xf_arena_bed.proofs.bed.Bed.start.Goals as goal

pub invariant_of-result : goal.invariant_of-result
invariant_of-result c =
    let g = started_done c.args.node _ _ _ _ _ _ _ c.requires c.push_reserved.ensures.items c.reserve-2.ensures.items
    c.new-nodes.ensures.items c.in_ok-grow_twice.ensures.ok c.new-links.ensures c.reserve.ensures.items
    c.new-free.ensures.items
    in
    let x = started_index_done c.args.node _ _ _ _ _ _ c.push_reserved.ensures.items c.reserve-2.ensures.items
    c.new-nodes.ensures.items c.new-index.ensures c.in_ok-grow.ensures.ok c.put.ensures
    in
    let one = bare_count c.args.node.regions in
    let total = g.free_are.total in
    let none = ap length c.reserve.ensures.items ∙ ap length c.new-free.ensures.items in
    closed _ (leaf_of c.args.node) g.holds (omega arith) g.free_are
    (omega (arith, total, none, c.in_ok-reserve.ensures.ok)) (omega (arith, total, none)) x

pub returns : goal.returns
returns c =
    let g = started_done c.args.node _ _ _ _ _ _ _ c.requires c.push_reserved.ensures.items c.reserve-2.ensures.items
    c.new-nodes.ensures.items c.in_ok-grow_twice.ensures.ok c.new-links.ensures c.reserve.ensures.items
    c.new-free.ensures.items
    in
    let one = bare_count c.args.node.regions in
    layout_same _ (leaf_of c.args.node) _ _ (rebuilt_is _ _ _ (leaf_of c.args.node) 1 g.holds (omega arith))
    (started_view _ _ _ c.args.node c.push_reserved.ensures.items c.reserve-2.ensures.items c.new-nodes.ensures.items)
