use Rattle.xf_type.proofs.LawLemmas.{wrapped_below, signed_value_fits, signed_value-wrapped, wrapped-signed_value}
use Rattle.xf_type.proofs.law.readings_return.Goals as goal

pub returns-clause-wrapped : goal.returns-clause-wrapped
returns-clause-wrapped c = wrapped_below

pub returns-clause-signed : goal.returns-clause-signed
returns-clause-signed c = signed_value_fits

pub returns-clause-wrapped_returns : goal.returns-clause-wrapped_returns
returns-clause-wrapped_returns c = signed_value-wrapped

pub returns-clause-signed_returns : goal.returns-clause-signed_returns
returns-clause-signed_returns c = wrapped-signed_value
