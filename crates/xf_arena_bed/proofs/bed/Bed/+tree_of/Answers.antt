use Rattle.std.proofs.Common.{◌≡◌, ◌∷◌, ap, arith, rules}
use Rattle.xf_ir.specs.Lists.{Each}
use Rattle.xf_ir.specs.View.{regions_of}
use Rattle.xf_arena_tree.specs.Rebuilds.{found_size}
use Rattle.xf_arena_bed.specs.declared.kid.Kid.{Kid}
use Rattle.xf_arena_bed.specs.Live.{name_of, IsLive}
use Rattle.xf_arena_bed.proofs.TreeLemmas.{Left, left_all, left_next, left_none, left_pushed, made_found}
use Rattle.xf_arena_bed.proofs.bed.Bed.+tree_of.Goals as goal

pub loop-kid-init : goal.loop-kid-init
loop-kid-init t c =
    let k = c.kids-kid-items.ensures in
    let e : c.into_iter-kid-iterator.result ≡ c.kids-kid-items.result = search rules in
    rw e record {
      left = λ x f. left_all (name_of c.args.id) c.args.self.now.root x c.kids-kid-items.result _ k.names f (k.all x f)
          (c.in_ok-regions.ensures x f);
      all_live = k.live;
    }

pub tree_of-requires : goal.tree_of-requires
tree_of-requires t c =
    let f = c.kids-kid-items.ensures.found in
    let i = c.loop-kid.invariant in
    let l : Left c.args.self.now.root f.0 (c.in-Some.kid ∷ c.next.new.self) (regions_of c.loop-kid.regions.items) =
    rw c.in-Some.ensures.steps at (i.left f.0 f.1)
    in
    let n = left_next c.args.self.now.root f.0 c.in-Some.kid c.next.new.self (regions_of c.loop-kid.regions.items) l in
    let a : Each (λ (k : Kid). IsLive c.args.self.now k.id) (c.in-Some.kid ∷ c.next.new.self) =
    rw c.in-Some.ensures.steps at i.all_live
    in
    let own = ap found_size f.1 in
    let kid = ap found_size n.found in
    let small = n.small in
    ((let d = c.decreases in omega (arith, own, kid, small)), a.0)

pub loop-kid-preserved : goal.loop-kid-preserved
loop-kid-preserved t c =
    let i = c.loop-kid.invariant in
    let a : Each (λ (k : Kid). IsLive c.args.self.now k.id) (c.in-Some.kid ∷ c.next.new.self) =
    rw c.in-Some.ensures.steps at i.all_live
    in
    record {
      left = λ x f.
          let l : Left c.args.self.now.root x (c.in-Some.kid ∷ c.next.new.self) (regions_of c.loop-kid.regions.items) =
          rw c.in-Some.ensures.steps at (i.left x f)
          in
          left_pushed c.args.self.now.root x c.in-Some.kid c.next.new.self (regions_of c.loop-kid.regions.items) _ _ l
          c.in_ok-tree.ensures c.in_ok-push_tree.ensures;
      all_live = a.1;
    }

pub returns : goal.returns
returns t c =
    let f = c.kids-kid-items.ensures.found in
    let r = left_none c.args.self.now.root f.0 _ _ c.in-None.ensures.steps.0 (c.loop-kid.invariant.left f.0 f.1) in
    made_found c.with_regions.result (name_of c.args.id) c.args.self.now.root f.0 _ c.with_regions.ensures f.1 r
