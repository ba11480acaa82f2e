use Rattle.xf_roundtrip.proofs.NamedOnce.{spelt_is_named}
use Rattle.xf_roundtrip.proofs.ValidAgain.{printed_is_valid_again}
use Rattle.xf_roundtrip.proofs.validity.printed_modules_are_valid_again.Goals as goal

pub returns-clause-names : goal.returns-clause-names
returns-clause-names c = spelt_is_named

pub returns-clause-again : goal.returns-clause-again
returns-clause-again c = printed_is_valid_again
