use Rattle.std.proofs.Common.{◌≡◌, drop}
use Rattle.xf_format.specs.Tests.{gives}
use Rattle.xf_format.proofs.dimension.gives.Given as goal

-- none of those before is it
abbrev pub invariant-loop-given : goal.invariant-loop-given
invariant-loop-given l = gives (drop l.given-index l.results) l.dimension ≡ gives l.results l.dimension
