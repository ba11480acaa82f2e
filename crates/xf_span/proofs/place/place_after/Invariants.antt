use Rattle.std.proofs.Common.{◌≡◌, drop}
use Rattle.xf_span.specs.Place.{place_after}
use Rattle.xf_span.proofs.place.place_after.Given as goal

-- the place behind all is the one behind the rest, from here on
abbrev pub invariant-loop-b : goal.invariant-loop-b
invariant-loop-b l = place_after l.at (drop l.b-index l.bytes) ≡ place_after l.fn.place l.bytes
