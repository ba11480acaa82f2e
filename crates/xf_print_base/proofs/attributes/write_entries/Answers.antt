use Rattle.xf_format.specs.Rules.{entry_rule}
use Rattle.xf_printed.specs.Items.{entry_fill}
use Rattle.xf_print_base.proofs.Texts.{entry_first, item_at, list_begins}
use Rattle.xf_print_base.proofs.attributes.write_entries.Goals as goal

pub loop-attr-init : goal.loop-attr-init
loop-attr-init c =
    list_begins entry_rule entry_fill c.args.attrs.now c.first-item.result _ _
    (item_at _ 0 _ c.in-len1-up.len_at_least c.first-item.is) (entry_first c.first-item.result)
    c.in_ok-write_entry.ensures
