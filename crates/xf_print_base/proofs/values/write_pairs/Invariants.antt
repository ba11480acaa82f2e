use Rattle.std.proofs.Common.{◌≡◌, suc, ◌+◌, ◌++◌, drop}
use Rattle.xf_format.specs.Rules.{pair_rule}
use Rattle.xf_print_base.specs.Index.{names_of}
use Rattle.xf_printed.specs.Items.{pair_fill, pairs}
use Rattle.xf_print_base.proofs.Texts.{list_text, more_text}
use Rattle.xf_print_base.proofs.values.write_pairs.Given as goal

abbrev pub invariant-loop-value : goal.invariant-loop-value
invariant-loop-value l = record {
  number : l.number ≡ l.before + 1 + l.value-index;
  text : l.line.items ++ more_text pair_rule (pair_fill (names_of l.names))
      (pairs (l.number + 1) (drop l.value-index l.rest))
      ≡ l.fn.line.items ++ list_text pair_rule (pair_fill (names_of l.names)) (pairs (suc l.before) l.values);
}
