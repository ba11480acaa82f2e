use Rattle.std.proofs.Common.{◌≡◌, ◌∙◌, ap, arith, length, rules, length-append}
use Rattle.std.specs.Prelude.{None, ◌∷◌, []}
use Rattle.xf_arena_bed.specs.Value.{Layout}
use Rattle.xf_arena_bed.specs.View.{layout_of}
use Rattle.xf_arena_bed.proofs.CloseLemmas.{closed, rebuilt_is}
use Rattle.xf_arena_bed.proofs.SlotLemmas.{grown_done, indexed_done}
use Rattle.xf_arena_bed.proofs.bed.Bed.grow.Goals as goal

pub invariant_of-self-2 : goal.invariant_of-self-2
invariant_of-self-2 c =
    let a = c.self.inside in
    let i = c.self.invariant in
    let g = grown_done _ _ _ _ _ _ _ _ _ _ _ c.len-slots.result i.holds i.free c.reserve.ensures.items
    c.push_reserved.ensures.items c.in_ok-grow_twice.ensures.ok c.reserve-2.ensures.items
    c.push_reserved-2.ensures.items (search rules)
    in
    let x = indexed_done _ _ _ _ _ c.len-slots.result i.indexed c.grow_index.ensures.room c.grow_index.ensures.same
    c.in_ok-grow_index.ensures.ok (search rules) c.reserve.ensures.items c.push_reserved.ensures.items
    in
    let n = ap length c.push_reserved.ensures.items ∙ length-append c.reserve.new.self.items (None ∷ []) in
    let n1 = ap length c.reserve.ensures.items in
    let size : c.len-slots.result ≡ length a.nodes.items = search rules in
    closed _ (layout_of a).root g.holds i.count g.free_are
    (omega (arith, n, n1, size, c.in_ok-reserve-2.ensures.ok, c.push_reserved-2.ensures.capacity))
    (omega (arith, n, n1, size, c.grow_index.ensures.few)) x

pub returns-clause-root : goal.returns-clause-root
returns-clause-root c =
    let a = c.self.inside in
    let i = c.self.invariant in
    let g = grown_done _ _ _ _ _ _ _ _ _ _ _ c.len-slots.result i.holds i.free c.reserve.ensures.items
    c.push_reserved.ensures.items c.in_ok-grow_twice.ensures.ok c.reserve-2.ensures.items
    c.push_reserved-2.ensures.items (search rules)
    in
    rebuilt_is _ _ _ (layout_of a).root _ g.holds (omega (arith, i.count))
    ∙ ap (λ (m : Layout). m.root) c.self.view_is
