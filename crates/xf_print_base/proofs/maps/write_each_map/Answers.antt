use Rattle.xf_format.specs.Rules.{map_rule}
use Rattle.xf_printed.specs.Structured.{map_fill}
use Rattle.xf_print_base.proofs.MapTexts.{map_first}
use Rattle.xf_print_base.proofs.Texts.{item_at, list_begins}
use Rattle.xf_print_base.proofs.maps.write_each_map.Goals as goal

pub loop-of-init : goal.loop-of-init
loop-of-init c =
    list_begins map_rule map_fill c.args.maps.now c.first-item.result _ _
    (item_at _ 0 _ c.in-len1-up.len_at_least c.first-item.is) (map_first c.first-item.result)
    c.in_ok-write_map.ensures
