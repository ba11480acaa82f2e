use Rattle.std.proofs.Common.{◌≡◌, ◌+◌, ◌++◌, ◌∷◌, [], length, refl, sym, ap, subst, ◌∙◌, arith}
use Rattle.std.specs.Vec.Iter.{into_iter_items}
use Rattle.xf_format.specs.declared.parts.Parts.{Parts}
use Rattle.xf_format.specs.Parts.{said}
use Rattle.xf_grammar.specs.Tree.{Tree, Block, tree}
use Rattle.xf_ir.specs.View.{regions_of}
use Rattle.xf_syntax.specs.Telling.{nodes_said, bodies_said}
use Rattle.xf_syntax.specs.View.{nodes_of, bodies_of, block_of, nodes_size, bodies_size}
use Rattle.xf_read.specs.Meant.{regions_said, tree_said, nodes_places, bodies_places, yield_places, lacks_yield}
use Rattle.xf_read.specs.Names.{with_faults, tree_count, inside, behind, nodes_faults, bodies_faults, tree_faults}
use Rattle.xf_read.specs.Names.{head_faults}
use Rattle.xf_read.specs.Visible.{names_in}
use Rattle.xf_read.specs.Walks.{Moved, block_said}
use Rattle.xf_read.proofs.Heads.{head_tree_is}
use Rattle.xf_read.proofs.Scoping.{same_on, grows_from, back}
use Rattle.xf_read.proofs.Walking.{NodesLeft, BodiesLeft, body_count, moved_on, one_built, all_built, one_block}
use Rattle.xf_read.proofs.Walking.{all_blocks, block_built, nothing_left}
use Rattle.xf_read.proofs.walk.+walk.Goals as goal

-- ---- bodies

pub inner_blocks-loop-body-preserved : goal.inner_blocks-loop-body-preserved
inner_blocks-loop-body-preserved h c =
    let at = c.loop-body in
    let all = c.args.tokens.now in
    let p = c.args.parts.now in
    let this : Block Parts = c.in-Some.body in
    let e = c.in_ok-block.ensures in
    let is : into_iter_items at.body-iterator ≡ this ∷ into_iter_items c.next.new.self = c.in-Some.ensures.steps.0 in
    let here = subst (BodiesLeft all p c.args.walk.now c.args.bodies.items at.walk at.made.items) is
    at.invariant.left in
    let block = e.block ∙ ap (λ ts. block_said at.walk.next (said all p) ts (names_in at.walk.scope)
    (nodes_said all this.nodes)) c.requires.args in
    record {
      left = one_block all p c.args.walk.now c.args.bodies.items at.walk at.made.items this
          (into_iter_items c.next.new.self) c.block.new.walk c.push.new.self.items c.in_ok-block.block here block
          e.moved e.scope c.in_ok-push.ensures.items;
      len = let a = at.invariant.len in let b = c.in-Some.ensures.steps.1 in let d =
          ap length is in omega (arith, a, b, d);
      smaller = let a = at.invariant.smaller in let b = ap (λ xs. bodies_size (bodies_of xs)) is in omega (arith, a, b);
    }

pub inner_blocks-returns : goal.inner_blocks-returns
inner_blocks-returns h c =
    let at = c.loop-body in
    let left = BodiesLeft c.args.tokens.now c.args.parts.now c.args.walk.now c.args.bodies.items at.walk
    at.made.items in
    let none = nothing_left (into_iter_items at.body-iterator) (sym at.invariant.len ∙ c.in-None.ensures.steps.0) in
    let d = all_blocks c.args.tokens.now c.args.parts.now c.args.walk.now c.args.bodies.items at.walk at.made.items
    (subst left none at.invariant.left) in
    record { blocks = d.0; moved = d.1; scope = at.invariant.left.scope }

pub block-returns : goal.block-returns
block-returns h c =
    let all = c.args.tokens.now in
    let p = c.args.parts.now in
    let w = c.args.walk.now in
    let v = c.operations.new.walk in
    let u = c.end_body.new.walk in
    let this : Block Parts = block_of c.body.inside in
    let lacks = c.lacks_yield-lacks.ensures all
    ∙ ap (λ (b : Block Parts). lacks_yield (said all p) (nodes_said all b.nodes)) (sym c.body.view_is) in
    let e = c.in_ok-ops.ensures in
    let end = c.in_ok-end_body.ensures in
    let d = block_built all p this w v u _ _ c.lacks_yield-lacks.result lacks e.ops e.moved end.ops end.moved in
    record {
      block = (λ i. record { args = c.in_ok-args.ensures i; ops = d.0 i })
          ∙ ap (λ (b : Block Parts). block_said w.next (said all p) c.args.args.now (names_in w.scope)
          (nodes_said all b.nodes)) c.body.view_is;
      moved = subst (λ (b : Block Parts). Moved w u (body_count all p b)
          (nodes_places all b.nodes ++ yield_places all p b.nodes b.close)
          (nodes_faults all w.next (names_in w.scope) b.nodes)) c.body.view_is d.1;
      scope = same_on w.scope v.scope u.scope e.scope end.scope;
    }

-- ---- one operation

pub operation-returns : goal.operation-returns
operation-returns t c =
    let all = c.args.tokens.now in
    let a = c.args.walk.now in
    let b = c.enter_head.new.walk in
    let e = c.inner_blocks.new.walk in
    let s = names_in a.scope in
    let bs = bodies_of c.node.inside.bodies.items in
    let q = c.into_inner-parts.result in
    let this : Tree Parts = tree c.node.inside.first q bs in
    let is : this ≡ c.args.node = ap (λ p. tree c.node.inside.first p bs) c.into_inner-parts.ensures ∙ c.node.view_is in
    let head = c.in_ok-enter_head.ensures.moved c.node.inside.first c.in_ok-head.ensures in
    let inside_it = c.in_ok-enter_head.ensures.scope in
    let heads = head_faults all a.next this.first q s in
    let moved = moved_on a b e 1 _ (c.args.place ∷ []) (bodies_places all q bs) heads _ head
    c.in_ok-regions.ensures.moved in
    let faults : with_faults heads (bodies_faults all b.next q (names_in b.scope) bs) ≡ tree_faults all a.next s this =
    (λ i. with_faults heads (bodies_faults all (head.next i) q (inside_it i) bs)) in
    let all_moved = subst (λ (x : Tree Parts). Moved a e (tree_count all x)
    (c.args.place ∷ bodies_places all x.parts x.bodies) (tree_faults all a.next s x)) is
    (subst (Moved a e (tree_count all this) (c.args.place ∷ bodies_places all q bs)) faults moved) in
    let regions : regions_of c.in_ok-regions.regions.items ≡ regions_said (a.next + 1) (said all q)
    (inside a.next (said all q) s) (bodies_said all bs) =
    c.in_ok-regions.ensures.blocks ∙ (λ i. regions_said (head.next i) (said all q) (inside_it i)
    (bodies_said all bs)) in
    let left = back a.scope b.scope e.scope c.leave.new.self c.height-height.result c.in_ok-enter_head.ensures.grows
    c.in_ok-regions.ensures.scope c.height-height.ensures c.in_ok-leave.ensures.names c.in_ok-leave.ensures.changes in
    let names = c.in_ok-enter_names.ensures in
    record {
      op = c.with_regions.ensures ∙ head_tree_is all a.next s this c.in_ok-head.head _ c.in_ok-head.ensures regions
          ∙ ap (λ (x : Tree Parts). tree_said a.next s (said all x.parts) (bodies_said all x.bodies)) is;
      moved = record { next = all_moved.next; places_are = all_moved.places_are; faults_are = all_moved.faults_are };
      scope = names.names ∙ ap (behind a.next (said all q)) left.names
          ∙ ap (λ (x : Tree Parts). behind a.next (said all x.parts) s) is;
      grows = grows_from a.scope c.leave.new.self c.enter_names.new.scope left names.grows;
    }

pub operation-inner_blocks-requires : goal.operation-inner_blocks-requires
operation-inner_blocks-requires t c =
    let all = c.args.tokens.now in
    let next = (c.in_ok-enter_head.ensures.moved c.node.inside.first c.in_ok-head.ensures).next in
    let bs = bodies_of c.node.inside.bodies.items in
    let is = ap (λ p. tree c.node.inside.first p bs) c.into_inner-parts.ensures ∙ c.node.view_is in
    let size = ap (λ (x : Tree Parts). bodies_size x.bodies) is in
    let count = ap (λ (x : Tree Parts). tree_count all x) is in (
      omega (arith, size),
      (omega (arith, c.requires, next, count), c.in_ok-head.ensures.args),
    )

-- ---- operations

pub operations-loop-node-preserved : goal.operations-loop-node-preserved
operations-loop-node-preserved t c =
    let at = c.loop-node in
    let all = c.args.tokens.now in
    let a = c.args.walk.now in
    let ts = c.args.nodes.items in
    let w = at.walk in
    let v = c.operation.new.walk in
    let this : Tree Parts = c.in-Some.node in
    let rest = into_iter_items c.next.new.self in
    let e = c.in_ok-op.ensures in
    let is : into_iter_items at.node-iterator ≡ this ∷ rest = c.in-Some.ensures.steps.0 in
    let here = subst (NodesLeft all a ts w at.ops.items) is at.invariant.left in
    let moved = subst (λ p. Moved w v (tree_count all this) (p ∷ bodies_places all this.parts this.bodies)
    (tree_faults all w.next (names_in w.scope) this)) c.place_of_node-place.ensures e.moved in
    record {
      left = one_built all a ts w at.ops.items this rest v c.push.new.self.items c.in_ok-op.op here e.op moved e.scope
          e.grows c.in_ok-push.ensures.items;
      len = let x = at.invariant.len in let y = c.in-Some.ensures.steps.1 in let z =
          ap length is in omega (arith, x, y, z);
      smaller = let x = at.invariant.smaller in let y = ap (λ xs. nodes_size (nodes_of xs)) is in omega (arith, x, y);
    }

pub operations-returns : goal.operations-returns
operations-returns t c =
    let at = c.loop-node in
    let left = NodesLeft c.args.tokens.now c.args.walk.now c.args.nodes.items at.walk at.ops.items in
    let none = nothing_left (into_iter_items at.node-iterator) (sym at.invariant.len ∙ c.in-None.ensures.steps.0) in
    let d = all_built c.args.tokens.now c.args.walk.now c.args.nodes.items at.walk at.ops.items
    (subst left none at.invariant.left) in
    record {
      ops = d.0;
      moved = record { next = d.1.next; places_are = d.1.places_are; faults_are = d.1.faults_are };
      scope = back c.args.walk.now.scope at.walk.scope at.walk.scope c.leave.new.self c.height-height.result
          at.invariant.left.grows (record { names = refl; changes = refl }) c.height-height.ensures
          c.in_ok-leave.ensures.names c.in_ok-leave.ensures.changes;
    }
