use Rattle.std.proofs.Common.{◌≡◌, ◌+◌, drop}
use Rattle.xf_type.specs.Bytes.{is_digit}
use Rattle.xf_lex.specs.Bytes.{run}
use Rattle.xf_shape.proofs.shape.digits.Given as goal

-- the bytes so far are digits, and the rest is still to be counted
abbrev pub invariant-loop-b : goal.invariant-loop-b
invariant-loop-b l =
    (l.count ≡ l.b-index) × (l.count + run is_digit (drop l.b-index l.bytes) ≡ run is_digit l.bytes)
