use Rattle.std.proofs.Common.{◌≡◌, drop}
use Rattle.xf_read.specs.Names.{alias_in}
use Rattle.xf_read.proofs.uses.alias_in.Given as goal

abbrev pub invariant-loop-map : goal.invariant-loop-map
invariant-loop-map l = alias_in (drop l.map-index l.maps) ≡ alias_in l.maps
