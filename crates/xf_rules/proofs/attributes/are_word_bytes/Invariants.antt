use Rattle.std.proofs.Common.{◌≡◌, drop}
use Rattle.xf_ir.specs.Lists.{every}
use Rattle.xf_type.specs.Bytes.{is_word_byte}
use Rattle.xf_rules.proofs.attributes.are_word_bytes.Given as goal

-- what is left passes where the whole does
abbrev pub invariant-loop-byte : goal.invariant-loop-byte
invariant-loop-byte l = every is_word_byte (drop l.byte-index l.bytes) ≡ every is_word_byte l.bytes
