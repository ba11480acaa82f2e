use Rattle.xf_print_laws.proofs.LayoutDocs.{printed_is_laid_out}
use Rattle.xf_print_laws.proofs.layout.printed_form_is_laid_out.Goals as goal

pub returns : goal.returns
returns c = printed_is_laid_out
