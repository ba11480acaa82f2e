use Rattle.xf_type.proofs.LawLemmas.{extension_returns, index_cast_returns}
use Rattle.xf_type.proofs.law.conversions_return.Goals as goal

pub returns-clause-extension : goal.returns-clause-extension
returns-clause-extension c = extension_returns

pub returns-clause-index_cast : goal.returns-clause-index_cast
returns-clause-index_cast c = index_cast_returns
