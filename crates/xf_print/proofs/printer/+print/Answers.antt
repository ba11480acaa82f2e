use Rattle.std.proofs.Common.{Ok, arith, refl, sym}
use Rattle.std.proofs.lemmas.Grind.{common_steps}
use Rattle.std.proofs.lemmas.Result.{err_from_is_err_and}
use Rattle.xf_print_base.specs.Index.{names_of}
use Rattle.xf_print.proofs.Parts.{block_parts, tree_parts}
use Rattle.xf_print.proofs.Fed.{ops_one}
use Rattle.xf_print.proofs.Writes.{all_gained, block_first, blocks_end, going_ends, going_fails, going_last, going_on}
use Rattle.xf_print.proofs.Writes.{going_starts, going_stops, next_fed, none_fed, tree_below}
use Rattle.xf_host.proofs.WriteLemmas.{writes_same}
use Rattle.xf_print.proofs.printer.+print.Goals as goal

pub print_ops-print_op-requires : goal.print_ops-print_op-requires
print_ops-print_op-requires g t c κs within =
    (omega (arith, tree_below _ c.loop-op.op-index _ c.loop-op-test.true c.op-item.is), within)

pub print_ops-returns-in_err-print_op-clause-text : goal.print_ops-returns-in_err-print_op-clause-text
print_ops-returns-in_err-print_op-clause-text g t c =
    let p = err_from_is_err_and c.from_residual.result c.from_residual.ensures.1 in
    rw p.1 (going_fails _ _ (next_fed (ops_one (names_of c.args.names.now) c.args.margin) c.args.ops.now
    c.loop-op.op-index c.op-item.result c.loop-op-test.true c.op-item.is) c.loop-op.invariant.going
    c.in_err-print_op.ensures.text)

pub print_ops-loop-op-preserved : goal.print_ops-loop-op-preserved
print_ops-loop-op-preserved g t c = record {
  going =
      going_on _ (next_fed (ops_one (names_of c.args.names.now) c.args.margin) c.args.ops.now c.loop-op.op-index
      c.op-item.result c.loop-op-test.true c.op-item.is) c.loop-op.invariant.going c.in_ok-print_op.ensures.text;
  grows = grind (arith, common_steps);
}

pub print_ops-returns-clause-text : goal.print_ops-returns-clause-text
print_ops-returns-clause-text g t c =
    going_ends (none_fed (ops_one (names_of c.args.names.now) c.args.margin) c.args.ops.now c.loop-op.op-index
    c.loop-op-test.false) c.loop-op.invariant.going

pub print_tree-returns-clause-text : goal.print_tree-returns-clause-text
print_tree-returns-clause-text g t c =
    writes_same c.print_rest.result _ _ _ _ (tree_parts (names_of c.args.names.now) c.args.margin c.args.op.now _
    c.in_ok-make_opening.ensures) c.print_rest.ensures.text

pub print_rest-returns-in_err-print_block-clause-text : goal.print_rest-returns-in_err-print_block-clause-text
print_rest-returns-in_err-print_block-clause-text g t c =
    let p = err_from_is_err_and c.from_residual.result c.from_residual.ensures.1 in
    rw p.1 (going_fails _ _ (block_first (names_of c.args.names.now) c.args.margin c.args.op.now c.loop-block.first
    c.as_slice-blocks.result.now c.loop-block.block-index c.block-item.result c.loop-block.line.items _
    c.loop-block-test.true c.block-item.is refl) c.loop-block.invariant.going c.in_err-print_block.ensures.text)

pub print_rest-loop-block-preserved : goal.print_rest-loop-block-preserved
print_rest-loop-block-preserved g t c = record {
  going =
      going_on _ (block_first (names_of c.args.names.now) c.args.margin c.args.op.now c.loop-block.first
      c.as_slice-blocks.result.now c.loop-block.block-index c.block-item.result c.loop-block.line.items _
      c.loop-block-test.true c.block-item.is c.in_ok-print_block.ensures.line) c.loop-block.invariant.going
      c.in_ok-print_block.ensures.text;
  grows = grind (arith, common_steps);
}

pub print_rest-returns-clause-text : goal.print_rest-returns-clause-text
print_rest-returns-clause-text g t c =
    going_last c.print_tail.result _ c.loop-block.invariant.going (writes_same c.print_tail.result _ _ _ _
    (sym (blocks_end (names_of c.args.names.now) c.args.margin c.args.op.now c.loop-block.first
    c.as_slice-blocks.result.now c.loop-block.block-index c.loop-block.line.items c.loop-block-test.false))
    c.print_tail.ensures.text)

pub print_block-returns-in_err-print_opened-clause-text : goal.print_block-returns-in_err-print_opened-clause-text
print_block-returns-in_err-print_opened-clause-text g t c =
    let p = err_from_is_err_and c.from_residual-in_err-print_opened.result c.from_residual-in_err-print_opened.ensures.1
    in
    let e = block_parts (names_of c.args.names.now) c.args.margin _ c.args.op.now c.args.first c.args.block.now.ops
    c.args.line.now.items c.in_ok-inner.ensures in
    rw p.1 (going_fails _ _ e (going_starts _ _) c.in_err-print_opened.ensures.text)

pub print_block-returns-in_err-print_inner-clause-text : goal.print_block-returns-in_err-print_inner-clause-text
print_block-returns-in_err-print_inner-clause-text g t c =
    let p = err_from_is_err_and c.from_residual-in_err-print_inner.result c.from_residual-in_err-print_inner.ensures.1
    in
    let e = block_parts (names_of c.args.names.now) c.args.margin _ c.args.op.now c.args.first c.args.block.now.ops
    c.args.line.now.items c.in_ok-inner.ensures in
    rw p.1 (going_stops (going_on _ e (going_starts _ _) c.in_ok-print_opened.ensures.text)
    c.in_err-print_inner.ensures.text)

pub print_block-returns-in_err-make_closing-clause-text : goal.print_block-returns-in_err-make_closing-clause-text
print_block-returns-in_err-make_closing-clause-text g t c =
    let p = err_from_is_err_and c.from_residual-in_err-make_closing.result c.from_residual-in_err-make_closing.ensures.1
    in
    let e = block_parts (names_of c.args.names.now) c.args.margin _ c.args.op.now c.args.first c.args.block.now.ops
    c.args.line.now.items c.in_ok-inner.ensures in
    rw p.1 (all_gained _ _ _ (going_last (Ok (tt {0})) _
    (going_on _ e (going_starts _ _) c.in_ok-print_opened.ensures.text)
    c.in_ok-print_inner.ensures.text))

pub print_block-returns-clause-text : goal.print_block-returns-clause-text
print_block-returns-clause-text g t c =
    let e = block_parts (names_of c.args.names.now) c.args.margin _ c.args.op.now c.args.first c.args.block.now.ops
    c.args.line.now.items c.in_ok-inner.ensures in
    going_last (Ok (tt {0})) _ (going_on _ e (going_starts _ _) c.in_ok-print_opened.ensures.text)
    c.in_ok-print_inner.ensures.text
