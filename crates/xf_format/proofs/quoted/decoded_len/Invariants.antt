use Rattle.std.proofs.Common.{◌≡◌, ◌≤◌, ◌+◌, drop, length}
use Rattle.xf_format.specs.Strings.{decoded_from, decoded}
use Rattle.xf_format.proofs.quoted.decoded_len.Given as goal

abbrev pub invariant-loop-b : goal.invariant-loop-b
invariant-loop-b l = record {
  all : l.count + length (decoded_from l.escape (drop l.b-index l.inner)) ≡ length (decoded l.quoted);
  few : l.count ≤ l.b-index;
}
