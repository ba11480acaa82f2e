-- A valid module, as it is stored, is one whose printed form says it again.
use Rattle.std.proofs.Common.{◌≤◌}
use Rattle.xf_type.specs.Limits.{most_operations}
use Rattle.xf_ir.specs.declared.op.Module.{Module}
use Rattle.xf_ir.specs.Count.{tree_count}
use Rattle.xf_ir.specs.Valid.{IsValid}
use Rattle.xf_print_laws.specs.Stored.{IsStored}
use Rattle.xf_roundtrip.specs.Printable.{IsPrintable}
use Rattle.xf_print_laws.proofs.Numbers.{module_numbers}

pub printable : (m : Module) → IsValid m → IsStored m → tree_count m.root ≤ most_operations → IsPrintable m
printable m v st few = record {
  valid = v;
  properties = st.properties;
  bytes = st.bytes;
  lists = st.lists;
  numbers = module_numbers m st.lists few;
}
