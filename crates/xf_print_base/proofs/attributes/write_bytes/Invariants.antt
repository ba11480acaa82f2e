use Rattle.std.proofs.Common.{◌≡◌, ◌++◌, drop}
use Rattle.std.specs.List.{flat_map}
use Rattle.xf_printed.specs.Attributes.{byte_text}
use Rattle.xf_print_base.proofs.attributes.write_bytes.Given as goal

abbrev pub invariant-loop-byte : goal.invariant-loop-byte
invariant-loop-byte l =
    l.line.items ++ flat_map byte_text (drop l.byte-index l.bytes) ≡ l.fn.line.items ++ flat_map byte_text l.bytes
