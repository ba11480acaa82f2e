use Rattle.std.proofs.Common.{◌≡◌, ◌+◌, drop, false}
use Rattle.xf_lex.specs.Lexemes.{escaped_in}
use Rattle.xf_lex.proofs.quoted.escaped.Given as goal

-- the escapes so far are good, and the rest is still to be counted
abbrev pub invariant-loop-i : goal.invariant-loop-i
invariant-loop-i l = l.i + escaped_in l.escaped (drop l.i l.bytes) ≡ escaped_in false l.bytes
