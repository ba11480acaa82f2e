use Rattle.std.proofs.Common.{◌≡◌, drop}
use Rattle.xf_read_base.specs.Structured.{aliases_in}
use Rattle.xf_read_base.proofs.structured.alias_map.Given as goal

abbrev pub invariant-loop-alias : goal.invariant-loop-alias
invariant-loop-alias l = aliases_in (drop l.alias-index l.aliases) l.name ≡ aliases_in l.aliases l.name
