use Rattle.std.proofs.Common.{◌≡◌, drop}
use Rattle.xf_type.specs.Spelling.{width_spelling}
use Rattle.xf_shape.specs.Widths.{lookup, spelt, widths}
use Rattle.xf_shape.proofs.width.width_of.Given as goal

-- the word is none of those before
abbrev pub invariant-loop-width : goal.invariant-loop-width
invariant-loop-width l = lookup (spelt width_spelling (drop l.width-index l.all)) l.word ≡ lookup widths l.word
