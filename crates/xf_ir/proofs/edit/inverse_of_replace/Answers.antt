use Rattle.std.proofs.Common.{sym, subst}
use Rattle.xf_ir.specs.Bounds.{TreeIsShort}
use Rattle.xf_ir.proofs.ShortLists.{short_tree_changed}
use Rattle.xf_ir.proofs.edit.inverse_of_replace.Goals as goal

pub locate-requires : goal.locate-requires
locate-requires c =
    subst TreeIsShort (sym c.in_ok-root.ensures) (short_tree_changed c.args.changes.now c.args.m.now.root c.requires)
