use Rattle.xf_print_laws.proofs.Printed.{printed_fits, printed_says_heads, printed_has_few}
use Rattle.xf_print_laws.proofs.law.printed_form_says_its_module.Goals as goal

pub returns-clause-fits : goal.returns-clause-fits
returns-clause-fits c = printed_fits

pub returns-clause-says : goal.returns-clause-says
returns-clause-says c = printed_says_heads

pub returns-clause-few : goal.returns-clause-few
returns-clause-few c = printed_has_few
