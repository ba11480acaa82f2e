-- The printed form of a module is laid out of the tokens that its operations write.
use Rattle.xf_grammar.specs.Tokens.{the_end}
use Rattle.xf_grammar.proofs.TreesLaidOut.{docs_laid_out}
use Rattle.xf_format.specs.declared.row.Level.TheVariants as level
use Rattle.xf_format.specs.Format.{format}
use Rattle.xf_printed.specs.PrintedForm.{module_docs}
use Rattle.xf_print_laws.specs.LayoutLaws.{PrintedIsLaidOut}
use Rattle.xf_print_laws.proofs.LayoutTable.{classes, known_classes, rows_apart, shapes_lex}
use Rattle.xf_print_laws.proofs.Printed.{printed_goes}

pub printed_is_laid_out : PrintedIsLaidOut
printed_is_laid_out m v st within =
    let go = printed_goes m v st within in
    docs_laid_out format classes known_classes rows_apart shapes_lex level.File 0 (module_docs m) the_end go.fit go.lex
