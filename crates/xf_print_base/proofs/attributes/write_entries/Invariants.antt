use Rattle.std.proofs.Common.{◌≡◌, ◌++◌, drop}
use Rattle.xf_format.specs.Rules.{entry_rule}
use Rattle.xf_printed.specs.Items.{entry_fill}
use Rattle.xf_print_base.proofs.Texts.{list_text, more_text}
use Rattle.xf_print_base.proofs.attributes.write_entries.Given as goal

abbrev pub invariant-loop-attr : goal.invariant-loop-attr
invariant-loop-attr l =
    l.line.items ++ more_text entry_rule entry_fill (drop l.attr-index l.rest)
    ≡ l.fn.line.items ++ list_text entry_rule entry_fill l.attrs
