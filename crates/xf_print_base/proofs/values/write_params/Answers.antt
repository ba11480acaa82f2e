use Rattle.std.proofs.Common.{arith}
use Rattle.xf_print_base.proofs.Texts.{item_at, params_begin}
use Rattle.xf_print_base.proofs.values.write_params.Goals as goal

pub loop-of-init : goal.loop-of-init
loop-of-init c = record {
  number = omega arith;
  text =
      params_begin c.args.first _ c.args.types.now _ _ _ (item_at _ 0 _ c.in-len1-up.len_at_least c.of-item.is)
      c.from-number.ensures c.in_ok-write_param.ensures;
}
