use Rattle.std.proofs.Common.{◌≡◌, ◌++◌, drop}
use Rattle.xf_format.specs.Strings.{decoded_from, decoded}
use Rattle.xf_format.proofs.quoted.decoded.Given as goal

abbrev pub invariant-loop-b : goal.invariant-loop-b
invariant-loop-b l = l.bytes ++ decoded_from l.escape (drop l.b-index l.inner) ≡ decoded l.quoted
