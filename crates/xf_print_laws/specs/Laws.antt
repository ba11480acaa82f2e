-- The printed form of a module fits the format of payloads, and says the heads of its operations, which are within the
-- limit.
use Rattle.std.specs.Prelude.{◌≡◌, ◌≤◌, true}
use Rattle.xf_grammar.specs.Tokens.{the_end}
use Rattle.xf_grammar.specs.Tree.{docs_fit, docs_say, operations}
use Rattle.xf_format.specs.declared.row.Level.TheVariants as level
use Rattle.xf_format.specs.Format.{format}
use Rattle.xf_ir.specs.declared.op.Module.{Module}
use Rattle.xf_ir.specs.Limits.{IsWithinLimits, most_operations}
use Rattle.xf_ir.specs.Valid.{IsValid}
use Rattle.xf_printed.specs.PrintedForm.{module_docs}
use Rattle.xf_print_laws.specs.SaidPrinted.{printed_said}
use Rattle.xf_print_laws.specs.Stored.{IsStored}

-- what its operations write for their slots is what the rules of the slots read, up to the end
abbrev pub PrintedFits : Type 0
PrintedFits =
    (m : Module) → IsValid m → IsStored m → IsWithinLimits m
    → docs_fit format level.File 0 (module_docs m) the_end ≡ true

-- and it says of each operation what the operation is
abbrev pub PrintedSaysHeads : Type 0
PrintedSaysHeads =
    (m : Module) → IsValid m → IsStored m → IsWithinLimits m
    → docs_say format level.File (module_docs m) ≡ printed_said m

-- the operations, with terminators that are left out, are no more than there may be
abbrev pub PrintedHasFew : Type 0
PrintedHasFew =
    (m : Module) → IsValid m → IsStored m → IsWithinLimits m
    → operations format (printed_said m) ≤ most_operations
