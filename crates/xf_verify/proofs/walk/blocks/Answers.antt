use Rattle.std.proofs.Common.{◌≡◌, ap, ◌∙◌}
use Rattle.std.proofs.lemmas.Result.{err_from_is_err_and}
use Rattle.xf_ir.specs.Tree.{Body}
use Rattle.xf_ir.specs.View.{ops_of}
use Rattle.xf_verify.specs.Visible.{types_in, type_among}
use Rattle.xf_verify.specs.Judged.{holder_seen}
use Rattle.xf_verify.proofs.Stepping.{blocks_stop, blocks_judged}
use Rattle.xf_verify.proofs.walk.blocks.Goals as goal

pub returns-in_err-functions : goal.returns-in_err-functions
returns-in_err-functions c =
    let p = err_from_is_err_and c.from_residual.result c.from_residual.ensures.1 in
    let w = c.loop-block.walk in
    let b = c.block-item.result in
    let ops : ops_of c.deref.result.now ≡ b.ops = ap ops_of c.deref.ensures.value
    ∙ ap (λ (x : Body). x.ops) c.block.view_is in
    let a = blocks_stop c.args.facts.now (holder_seen c.args.holder) c.args.root.now.name c.deref-block-items.result.now
    c.loop-block.block-index b c.block-item.is c.loop-block-test.true (Unit {0}) (Unit {0}) (types_in w.scope)
    (ops_of c.deref.result.now) ops w.names c.in_err-functions.field-0.0 _
    c.loop-block.invariant.judged c.in_err-functions.ensures.judged in
    rw (p.1, p.2) a

pub loop-block-preserved : goal.loop-block-preserved
loop-block-preserved c =
    let w = c.loop-block.walk in
    let u = c.functions.new.walk in
    let b = c.block-item.result in
    let e = c.in_ok-functions.ensures in
    let ops : ops_of c.deref.result.now ≡ b.ops = ap ops_of c.deref.ensures.value
    ∙ ap (λ (x : Body). x.ops) c.block.view_is in
    record {
      judged =
          blocks_judged c.args.facts.now (holder_seen c.args.holder) c.args.root.now.name c.deref-block-items.result.now
          c.loop-block.block-index b c.block-item.is c.loop-block-test.true (types_in w.scope) (types_in u.scope)
          (ops_of c.deref.result.now) ops (ap type_among e.moved.scope) w.names u.names _
          e.judged e.moved.names c.loop-block.invariant.judged;
      scope = e.moved.scope ∙ c.loop-block.invariant.scope;
      named = e.moved.named;
    }
