use Rattle.std.proofs.Common.{◌≡◌, ◌+◌, drop}
use Rattle.xf_lex.specs.Bytes.{run}
use Rattle.xf_lex.specs.Classes.{has}
use Rattle.xf_lex.proofs.byte_class.run.Given as goal

-- the bytes so far are of the class, and the rest is still to be counted
abbrev pub invariant-loop-b : goal.invariant-loop-b
invariant-loop-b l = (l.count ≡ l.b-index)
    × (l.count + run (has l.class) (drop l.b-index l.bytes) ≡ run (has l.class) l.bytes)
