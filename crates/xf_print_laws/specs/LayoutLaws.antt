-- The printed form of a module is laid out of the tokens that its operations write.
use Rattle.xf_grammar.specs.Apart.{IsLaidOut}
use Rattle.xf_grammar.specs.Grammar.{tokens_of}
use Rattle.xf_grammar.specs.Tree.{docs_written}
use Rattle.xf_format.specs.declared.row.Level.TheVariants as level
use Rattle.xf_format.specs.Format.{format}
use Rattle.xf_ir.specs.declared.op.Module.{Module}
use Rattle.xf_ir.specs.Limits.{IsWithinLimits}
use Rattle.xf_ir.specs.Valid.{IsValid}
use Rattle.xf_printed.specs.PrintedForm.{module_docs, printed_form}
use Rattle.xf_print_laws.specs.Stored.{IsStored}

-- the lexer reads it back as the tokens that were written
abbrev pub PrintedIsLaidOut : Type 0
PrintedIsLaidOut =
    (m : Module) → IsValid m → IsStored m → IsWithinLimits m
    → IsLaidOut (printed_form m) (tokens_of (docs_written format level.File 0 (module_docs m)))
