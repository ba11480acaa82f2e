use Rattle.std.proofs.Common.{◌≡◌, ◌+◌, drop, false}
use Rattle.xf_lex.specs.Lexemes.{quoted_in}
use Rattle.xf_lex.proofs.quoted.quoted.Given as goal

-- the bytes so far are inside, and the rest is still to be counted
abbrev pub invariant-loop-i : goal.invariant-loop-i
invariant-loop-i l = l.i + quoted_in l.escaped (drop l.i l.bytes) ≡ quoted_in false l.bytes
