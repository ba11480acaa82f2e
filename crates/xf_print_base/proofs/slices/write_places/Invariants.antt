use Rattle.std.proofs.Common.{◌≡◌, ◌++◌, drop}
use Rattle.xf_format.specs.Rules.{place_rule}
use Rattle.xf_print_base.specs.Index.{names_of}
use Rattle.xf_printed.specs.Structured.{place_fill, places_printed}
use Rattle.xf_print_base.proofs.Texts.{list_text, more_text}
use Rattle.xf_print_base.proofs.slices.write_places.Given as goal

abbrev pub invariant-loop-place : goal.invariant-loop-place
invariant-loop-place l =
    l.line.items ++ more_text (place_rule l.side) (place_fill (names_of l.names))
    (places_printed (drop l.place-index l.rest) l.left)
    ≡ l.fn.line.items ++ list_text (place_rule l.side) (place_fill (names_of l.names))
    (places_printed l.places l.values)
