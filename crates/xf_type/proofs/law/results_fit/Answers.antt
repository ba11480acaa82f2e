use Rattle.xf_type.proofs.LawLemmas.{binary_fits, compared_fits, converted_fits, selected_fits, combined_fits}
use Rattle.xf_type.proofs.law.results_fit.Goals as goal

pub returns-clause-binary : goal.returns-clause-binary
returns-clause-binary c = binary_fits

pub returns-clause-compared : goal.returns-clause-compared
returns-clause-compared c = compared_fits

pub returns-clause-converted : goal.returns-clause-converted
returns-clause-converted c = converted_fits

pub returns-clause-selected : goal.returns-clause-selected
returns-clause-selected c = selected_fits

pub returns-clause-combined : goal.returns-clause-combined
returns-clause-combined c = combined_fits
