use Rattle.std.proofs.Common.{◌≡◌, ◌+◌, ◌++◌, drop}
use Rattle.xf_format.specs.Rules.{param_rule}
use Rattle.xf_printed.specs.Items.{param_fill, params}
use Rattle.xf_print_base.proofs.Texts.{list_text, more_text}
use Rattle.xf_print_base.proofs.values.write_params.Given as goal

abbrev pub invariant-loop-of : goal.invariant-loop-of
invariant-loop-of l = record {
  number : l.number ≡ l.first + l.of-index;
  text : l.line.items ++ more_text param_rule param_fill (params (l.number + 1) (drop l.of-index l.rest))
      ≡ l.fn.line.items ++ list_text param_rule param_fill (params l.first l.types);
}
