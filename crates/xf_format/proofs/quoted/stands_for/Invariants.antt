use Rattle.std.proofs.Common.{◌≡◌, drop}
use Rattle.std.specs.Str.{bytes_eq}
use Rattle.xf_format.specs.Strings.{decoded_from, decoded}
use Rattle.xf_format.proofs.quoted.stands_for.Given as goal

-- what is left decides
abbrev pub invariant-loop-b : goal.invariant-loop-b
invariant-loop-b l = bytes_eq (decoded_from l.escape (drop l.b-index l.inner)) l.rest ≡ bytes_eq (decoded l.quoted) l.bytes
