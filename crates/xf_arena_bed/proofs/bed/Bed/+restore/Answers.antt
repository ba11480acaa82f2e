use Rattle.std.proofs.Common.{◌≡◌, ◌+◌, ◌<◌, sym, ◌∙◌, ap, arith, refl, subst, rules, length, true, false}
use Rattle.std.proofs.Common.{suc, add-one}
use Rattle.std.specs.Prelude.{Some, None}
use Rattle.xf_ir.specs.declared.name.OpName.{OpName}
use Rattle.xf_ir.specs.Tree.{Tree, Ops, cons, no_ops}
use Rattle.std.specs.Vec.Iter.{into_iter_items}
use Rattle.xf_ir.specs.Spots.{ops_length}
use Rattle.xf_ir.specs.Count.{tree_count, ops_count}
use Rattle.xf_ir.specs.View.{ops_of, regions_of, ops_size, tree_size}
use Rattle.xf_ir.specs.Bounds.{TreeIsShort}
use Rattle.xf_arena_tree.specs.Names.{ops_has, OpsDistinct}
use Rattle.xf_arena_tree.specs.Without.{OpsWhere}
use Rattle.xf_arena_tree.specs.Puts.{tree_put, StandsAt}
use Rattle.xf_arena_tree.specs.Fills.{puts_in}
use Rattle.xf_arena_bed.specs.declared.node.Node.{Node}
use Rattle.xf_arena_bed.specs.Live.{name_of, names_of, leaf_of}
use Rattle.xf_arena_bed.proofs.RestoreLemmas.{parts, falls_from, partly_all, length_regions, Before, IsNew, first_op}
use Rattle.xf_arena_bed.proofs.RestoreLemmas.{next_op}
use Rattle.xf_arena_bed.proofs.bed.Bed.+restore.Goals as goal

pub put_from-put_from-id-requires : goal.put_from-put_from-id-requires
put_from-put_from-id-requires t c =
    let e = c.take_ops-ops.ensures in
    let q = parts c.args.node c.args.region (ops_of c.take_ops-ops.result.items) (regions_of c.args.regions.items)
    (regions_of c.take_ops-ops.new.regions.items) c.args.self.now.root (name_of c.args.parent) c.args.at.region
    c.args.at.at e.taken e.left c.requires.fresh c.requires.distinct
    in
    let n = q.count in
    let size : length c.args.regions.items ≡ c.len.result = search rules in
    let long = length_regions c.args.regions.items in
    let more : c.args.region < length c.args.regions.items =
    (let w = c.if-region-len.false in omega (arith, c.requires.within)) in
    let f = falls_from c.args.region (ops_of c.take_ops-ops.result.items) (regions_of c.args.regions.items)
    (regions_of c.take_ops-ops.new.regions.items) e.taken e.left (omega arith)
    in (
      (let d = c.decreases in omega (arith, f.0)),
      (
        omega (arith, e.count),
        (
          omega (arith, e.count, c.requires.few),
          (
            c.requires.home,
            (
              c.requires.live,
              (
                c.requires.sibling,
                (
                  c.requires.place,
                  (
                    q.is_new,
                    (
                      q.distinct,
                      (omega (arith, c.requires.room), (q.short c.requires.short).0),
                    ),
                  ),
                ),
              ),
            ),
          ),
        ),
      ),
    )

pub put_from-put_ops-requires : goal.put_from-put_ops-requires
put_from-put_ops-requires t c =
    let e = c.take_ops-ops.ensures in
    let q = parts c.args.node c.args.region (ops_of c.take_ops-ops.result.items) (regions_of c.args.regions.items)
    (regions_of c.take_ops-ops.new.regions.items) c.args.self.now.root (name_of c.args.parent) c.args.at.region
    c.args.at.at e.taken e.left c.requires.fresh c.requires.distinct
    in
    let f = c.put_from-id.ensures in
    let n = q.count in
    let size : length c.args.regions.items ≡ c.len.result = search rules in
    let long = length_regions c.args.regions.items in
    let more : c.args.region < length c.args.regions.items =
    (let w = c.if-region-len.false in omega (arith, c.requires.within)) in
    let g = falls_from c.args.region (ops_of c.take_ops-ops.result.items) (regions_of c.args.regions.items)
    (regions_of c.take_ops-ops.new.regions.items) e.taken e.left (omega arith)
    in
    let short = (q.short c.requires.short).1 in
    let place = subst (λ (m : OpName). OpsWhere m (StandsAt c.args.region 0 None)
    (cons c.put_from-id.new.self.root no_ops))
    (sym f.name) (subst (λ (w : Tree). OpsWhere c.args.node.name (StandsAt c.args.region 0 None) (cons w no_ops))
    (sym f.root) q.place)
    in
    let new = subst (λ (w : Tree). (x : OpName) → ops_has x (ops_of c.take_ops-ops.result.items) ≡ true
    → ops_has x (cons w no_ops) ≡ false) (sym f.root) q.block_new
    in (
      (let d = c.decreases in omega (arith, g.1)),
      (
        f.live,
        (
          place,
          (
            rw f.name q.other,
            (new, (q.own, (f.names, (omega (arith, f.count, f.slots, c.requires.room), (short.1, short.0))))),
          ),
        ),
      ),
    )

pub put_from-returns-then-region-len-clause-root : goal.put_from-returns-then-region-len-clause-root
put_from-returns-then-region-len-clause-root t c =
    let k : c.args.region ≡ length c.args.regions.items = search rules in
    let p = name_of c.args.parent in
    c.put_leaf.ensures.root
    ∙ ap (λ (x : Node). tree_put p c.args.at.region c.args.at.at (leaf_of x) c.args.self.now.root) c.with_blocks.ensures
    ∙ ap (λ (x : Tree). tree_put p c.args.at.region c.args.at.at x c.args.self.now.root)
    (partly_all c.args.node c.args.region c.args.regions.items k)

pub put_from-returns-clause-root : goal.put_from-returns-clause-root
put_from-returns-clause-root t c =
    let e = c.take_ops-ops.ensures in
    let q = parts c.args.node c.args.region (ops_of c.take_ops-ops.result.items) (regions_of c.args.regions.items)
    (regions_of c.take_ops-ops.new.regions.items) c.args.self.now.root (name_of c.args.parent) c.args.at.region
    c.args.at.at e.taken e.left c.requires.fresh c.requires.distinct
    in
    let f = c.put_from-id.ensures in
    c.put_ops.ensures.root
    ∙ ap (λ (n : OpName). puts_in n c.args.region 0 (ops_of c.take_ops-ops.result.items) c.put_from-id.new.self.root)
    f.name
    ∙ ap (puts_in c.args.node.name c.args.region 0 (ops_of c.take_ops-ops.result.items)) f.root ∙ q.filled

pub put_from-returns-clause-count : goal.put_from-returns-clause-count
put_from-returns-clause-count t c =
    let e = c.take_ops-ops.ensures in
    let q = parts c.args.node c.args.region (ops_of c.take_ops-ops.result.items) (regions_of c.args.regions.items)
    (regions_of c.take_ops-ops.new.regions.items) c.args.self.now.root (name_of c.args.parent) c.args.at.region
    c.args.at.at e.taken e.left c.requires.fresh c.requires.distinct
    in
    omega (arith, q.count, c.put_from-id.ensures.count, c.put_ops.ensures.count)

pub put_from-returns-then-region-len-clause-count : goal.put_from-returns-then-region-len-clause-count
put_from-returns-then-region-len-clause-count t c = omega (arith, c.put_leaf.ensures.count)

pub put_ops-put_tree-requires : goal.put_ops-put_tree-requires
put_ops-put_tree-requires t c =
    let i = c.loop-op.invariant in
    let e : ops_of (into_iter_items c.loop-op.op-iterator)
    ≡ cons c.in-Some.op (ops_of (into_iter_items c.next.new.self)) = ap ops_of c.in-Some.ensures.steps.0
    in
    let all : Before (name_of c.args.parent) c.args.region c.loop-op.at (names_of c.loop-op.sibling)
    (ops_of (into_iter_items c.loop-op.op-iterator)) c.loop-op.self.root (length c.loop-op.self.seats) = record {
      place = i.place;
      other = i.other;
      is_new = i.fresh;
      distinct = i.distinct;
      names = i.names;
      room = i.room;
      short = i.short;
    } in
    let f = first_op (name_of c.args.parent) c.args.region c.loop-op.at (names_of c.loop-op.sibling) c.in-Some.op
    (ops_of (into_iter_items c.next.new.self)) c.loop-op.self.root (length c.loop-op.self.seats) (rw e at all)
    in (
      (let d = c.decreases in omega (arith, i.small, ap ops_size e)),
      (
        i.live,
        (i.sibling_live, (i.place, (f.is_new, (f.distinct, (f.room, f.short))))),
      ),
    )

pub put_tree-put_from-requires : goal.put_tree-put_from-requires
put_tree-put_from-requires t c =
    let v = c.tree.view_is in
    let new = subst (λ (w : Tree). IsNew w c.args.self.now.root) (sym v) c.requires.fresh in
    let distinct = subst (λ (w : Tree). OpsDistinct (cons w no_ops)) (sym v) c.requires.distinct in
    let short = subst TreeIsShort (sym v) c.requires.short in
    let count = ap tree_count v in
    let size = ap tree_size v in (
      (let d = c.decreases in omega (arith, size)),
      (
        omega arith,
        (
          omega (arith, short.lists.regions, length_regions c.tree.inside.regions.items),
          (
            refl,
            (
              c.requires.live,
              (
                c.requires.sibling,
                (
                  c.requires.place,
                  (
                    new,
                    (
                      distinct,
                      (
                        omega (arith, c.requires.room, count),
                        record { blocks = short.lists.blocks; inside = short.inside },
                      ),
                    ),
                  ),
                ),
              ),
            ),
          ),
        ),
      ),
    )

pub put_ops-loop-op-preserved : goal.put_ops-loop-op-preserved
put_ops-loop-op-preserved t c =
    let i = c.loop-op.invariant in
    let rest = ops_of (into_iter_items c.next.new.self) in
    let e : ops_of (into_iter_items c.loop-op.op-iterator) ≡ cons c.in-Some.op rest =
    ap ops_of c.in-Some.ensures.steps.0 in
    let p = name_of c.args.parent in
    let all : Before p c.args.region c.loop-op.at (names_of c.loop-op.sibling)
    (ops_of (into_iter_items c.loop-op.op-iterator)) c.loop-op.self.root (length c.loop-op.self.seats) = record {
      place = i.place;
      other = i.other;
      is_new = i.fresh;
      distinct = i.distinct;
      names = i.names;
      room = i.room;
      short = i.short;
    } in
    let put = c.put_tree.ensures in
    let root = put.root in
    let n = next_op p c.args.region c.loop-op.at (names_of c.loop-op.sibling) c.in-Some.op rest c.loop-op.self.root
    (length c.loop-op.self.seats) (name_of c.put_tree.result) (rw e at all) put.name
    (subst (λ (w : Tree). OpsDistinct (cons w no_ops)) root put.names)
    (omega (arith, put.count, ap tree_count root))
    in
    let m = subst (λ (w : Tree). Before p c.args.region (c.loop-op.at + 1) (Some (name_of c.put_tree.result)) rest w
    (length c.loop-op.self.seats)) (sym root) n
    in
    let told : puts_in p c.args.region (c.loop-op.at + 1) rest c.put_tree.new.self.root
    ≡ puts_in p c.args.region c.loop-op.at (cons c.in-Some.op rest) c.loop-op.self.root =
    ap (λ j. puts_in p c.args.region j rest c.put_tree.new.self.root) (add-one c.loop-op.at)
    ∙ ap (puts_in p c.args.region (suc c.loop-op.at) rest) root
    in
    record {
      told = told ∙ ap (λ (o : Ops). puts_in p c.args.region c.loop-op.at o c.loop-op.self.root) (sym e) ∙ i.told;
      live = put.seats c.args.parent i.live;
      sibling_live = put.live;
      place = m.place;
      other = m.other;
      fresh = m.is_new;
      distinct = m.distinct;
      names = m.names;
      room = omega (arith, m.room, put.slots);
      count = omega (arith, i.count, put.count, ap ops_count e);
      short = m.short;
      places = omega (arith, i.places, ap ops_length e);
      slots = put.slots ∙ i.slots;
      seats = λ id l. put.seats id (i.seats id l);
      small = omega (arith, i.small, ap ops_size e);
    }
