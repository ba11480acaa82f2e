-- The printed form of a valid module spells it again, up to the names of operations.
use Rattle.std.proofs.Common.{subst}
use Rattle.xf_read.specs.Spells.{Spells}
use Rattle.xf_read.specs.Meant.{said_meant}
use Rattle.xf_print_laws.specs.SaidPrinted.{printed_said}
use Rattle.xf_roundtrip.specs.PrintedLaws.{PrintedIsSpelt}
use Rattle.xf_roundtrip.proofs.Laws.{texts_mean}
use Rattle.xf_roundtrip.proofs.Printed.{printed_says}
use Rattle.xf_roundtrip.proofs.PrintedLayout.{printed_has_layout}
use Rattle.xf_roundtrip.proofs.Storing.{printable}

pub printed_is_spelt : PrintedIsSpelt
printed_is_spelt m v st within =
    let l = printed_has_layout m v st within in
    let says = printed_says m (printable m v st within.number) in
    let spelt = texts_mean l.0 l.1.0 (printed_said m) l.1.1.1.0 l.1.1.1.1.0 l.1.1.1.1.1 says.0 in
    (said_meant (printed_said m), (subst (λ bytes. Spells bytes (said_meant (printed_said m))) l.1.1.0 spelt, says.1))
