use Rattle.xf_roundtrip.proofs.Printed.{printed_says}
use Rattle.xf_roundtrip.proofs.law.printed_modules_say_themselves.Goals as goal

pub returns : goal.returns
returns c = printed_says
