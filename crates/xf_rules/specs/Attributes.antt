-- Attributes by one pass: each fits, and each name comes behind the one before it.
use Rattle.std.specs.Prelude.{List, [], ◌∷◌, Option, Some, None, Bool, true, ◌&&◌}
use Rattle.xf_ir.specs.declared.kind.Attr.{Attr}
use Rattle.xf_ir.specs.Attributes.{bytes_before}
use Rattle.xf_ir.specs.RuleAttributes.{value_fits}
use Rattle.xf_ir.specs.Words.{is_word}

abbrev pub attribute_fits : Attr → Bool
attribute_fits d = is_word d.name && value_fits d.value

-- whether a name comes behind that of an attribute, where there is one
abbrev pub follows : Option Attr → Attr → Bool
follows None e = true
follows (Some d) e = bytes_before d.name e.name

-- whether each name comes behind the one before it, the first behind that of an attribute before, where there is one
abbrev pub names_ascend : Option Attr → List Attr → Bool
names_ascend before [] = true
names_ascend before (d ∷ ds) = follows before d && names_ascend (Some d) ds
