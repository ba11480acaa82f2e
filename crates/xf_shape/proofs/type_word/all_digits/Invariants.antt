use Rattle.std.proofs.Common.{◌≡◌, drop}
use Rattle.xf_shape.specs.TypeWords.{all_digits}
use Rattle.xf_shape.proofs.type_word.all_digits.Given as goal

-- the bytes that are left decide
abbrev pub invariant-loop-b : goal.invariant-loop-b
invariant-loop-b l = all_digits (drop l.b-index l.bytes) ≡ all_digits l.bytes
