use Rattle.std.proofs.Common.{◌≡◌, map, take}
use Rattle.xf_read_base.specs.Spelt.{ref_used}
use Rattle.xf_read_base.proofs.spelt.refs_used.Given as goal

abbrev pub invariant-loop-name : goal.invariant-loop-name
invariant-loop-name l = l.refs ≡ map ref_used (take l.name-index l.uses)
