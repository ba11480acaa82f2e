use Rattle.std.proofs.Common.{◌≡◌, map, take}
use Rattle.xf_format.specs.Parts.{map_said}
use Rattle.xf_read_base.specs.Structured.{aliases_in, map_meant}
use Rattle.xf_read_base.proofs.structured.maps.Given as goal

abbrev pub invariant-loop-entry : goal.invariant-loop-entry
invariant-loop-entry l =
    l.maps ≡ map (map_meant (aliases_in l.aliases)) (map (map_said l.tokens) (take l.entry-index l.entries))
