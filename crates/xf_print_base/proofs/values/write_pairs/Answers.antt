use Rattle.std.proofs.Common.{arith}
use Rattle.std.proofs.lemmas.List.{drop_more}
use Rattle.xf_print_base.specs.Index.{names_of}
use Rattle.xf_print_base.proofs.Texts.{pairs_begin}
use Rattle.xf_print_base.proofs.values.write_pairs.Goals as goal

pub loop-value-init : goal.loop-value-init
loop-value-init c = record {
  number = omega arith;
  text =
      pairs_begin (names_of c.args.names.now) c.args.before _ c.args.values.now _ _ _
      (drop_more _ 0 _ c.in-len1-up.len_at_least) (omega arith) c.in_ok-write_pair.ensures;
}
