use Rattle.std.proofs.lemmas.List.{drop_more}
use Rattle.xf_format.specs.Rules.{iterator_rule}
use Rattle.xf_printed.specs.Structured.{iterator_fill}
use Rattle.xf_print_base.proofs.MapTexts.{iterator_first}
use Rattle.xf_print_base.proofs.Texts.{list_begins}
use Rattle.xf_print_base.proofs.maps.write_each_iterator.Goals as goal

pub loop-kind-init : goal.loop-kind-init
loop-kind-init c =
    list_begins iterator_rule iterator_fill c.args.iterators.now _ _ _
    (drop_more _ 0 _ c.in-len1-up.len_at_least) (iterator_first _)
    c.in_ok-write_iterator.ensures
