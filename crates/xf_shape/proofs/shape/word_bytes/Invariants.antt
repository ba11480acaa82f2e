use Rattle.std.proofs.Common.{◌≡◌, ◌+◌, drop}
use Rattle.xf_type.specs.Bytes.{is_word_byte}
use Rattle.xf_lex.specs.Bytes.{run}
use Rattle.xf_shape.proofs.shape.word_bytes.Given as goal

-- the bytes so far are of a word, and the rest is still to be counted
abbrev pub invariant-loop-b : goal.invariant-loop-b
invariant-loop-b l =
    (l.count ≡ l.b-index) × (l.count + run is_word_byte (drop l.b-index l.bytes) ≡ run is_word_byte l.bytes)
