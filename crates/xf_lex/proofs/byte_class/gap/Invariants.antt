use Rattle.std.proofs.Common.{◌≡◌, ◌+◌, drop, false}
use Rattle.xf_lex.specs.Bytes.{gap_in}
use Rattle.xf_lex.proofs.byte_class.gap.Given as goal

-- the bytes so far are blanks and comments, and the rest is still to be counted
abbrev pub invariant-loop-i : goal.invariant-loop-i
invariant-loop-i l = l.i + gap_in l.inside (drop l.i l.bytes) ≡ gap_in false l.bytes
