use Rattle.std.proofs.Common.{◌≡◌, map, take}
use Rattle.xf_format.specs.Parts.{place_said}
use Rattle.xf_read_base.specs.Structured.{place_meant}
use Rattle.xf_read_base.proofs.structured.window.Given as goal

abbrev pub invariant-loop-place : goal.invariant-loop-place
invariant-loop-place l = l.window ≡ map place_meant (map (place_said l.tokens) (take l.place-index l.places))
