use Rattle.xf_read.proofs.Limits.{spelt_is_within_limits}
use Rattle.xf_read.proofs.Properties.{spelt_properties}
use Rattle.xf_read.proofs.ShortLists.{spelt_is_short}
use Rattle.xf_read.proofs.law.spelt_modules_are_bounded.Goals as goal

pub returns-clause-lists : goal.returns-clause-lists
returns-clause-lists c = spelt_is_short

pub returns-clause-properties : goal.returns-clause-properties
returns-clause-properties c = spelt_properties

pub returns-clause-limits : goal.returns-clause-limits
returns-clause-limits c = spelt_is_within_limits
