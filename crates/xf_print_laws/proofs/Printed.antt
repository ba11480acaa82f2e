-- The printed form of a valid module fits the format and says its heads.
use Rattle.xf_grammar.specs.Tokens.{the_end}
use Rattle.xf_format.specs.declared.row.Level.TheVariants as level
use Rattle.xf_ir.specs.declared.op.Module.{Module}
use Rattle.xf_ir.specs.Limits.{IsWithinLimits}
use Rattle.xf_ir.specs.Valid.{IsValid}
use Rattle.xf_printed.specs.PrintedForm.{module_docs}
use Rattle.xf_print_laws.specs.Laws.{PrintedFits, PrintedSaysHeads, PrintedHasFew}
use Rattle.xf_print_laws.specs.SaidPrinted.{printed_said}
use Rattle.xf_print_laws.specs.Stored.{IsStored}
use Rattle.xf_print_laws.proofs.Count.{module_few}
use Rattle.xf_print_laws.proofs.Fitted.{module_fits}
use Rattle.xf_print_laws.proofs.Operations.{DocsGo, module_goes}

pub printed_goes : (m : Module) → IsValid m → IsStored m → IsWithinLimits m
    → DocsGo level.File 0 (module_docs m) the_end (printed_said m)
printed_goes m v st within =
    let w = module_fits m v st within.number in
    module_goes m w (rw w.one at within.nesting).1.0

pub printed_fits : PrintedFits
printed_fits m v st within = (printed_goes m v st within).fit

pub printed_says_heads : PrintedSaysHeads
printed_says_heads m v st within = (printed_goes m v st within).say

pub printed_has_few : PrintedHasFew
printed_has_few m v st within = module_few m (module_fits m v st within.number) within.number
