use Rattle.std.proofs.Common.{◌≡◌, ◌++◌, drop}
use Rattle.xf_format.specs.Rules.{stride_rule}
use Rattle.xf_printed.specs.Structured.{stride_fill}
use Rattle.xf_print_base.proofs.Texts.{list_text, more_text}
use Rattle.xf_print_base.proofs.slices.write_each_stride.Given as goal

abbrev pub invariant-loop-place : goal.invariant-loop-place
invariant-loop-place l =
    l.line.items ++ more_text stride_rule stride_fill (drop l.place-index l.rest)
    ≡ l.fn.line.items ++ list_text stride_rule stride_fill l.places
