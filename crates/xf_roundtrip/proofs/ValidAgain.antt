-- The printed form of a valid module spells a valid one again.
use Rattle.xf_ir_laws.proofs.RenamedValid.{renaming_keeps_valid}
use Rattle.xf_roundtrip.specs.AgainLaws.{PrintedIsValidAgain}
use Rattle.xf_roundtrip.proofs.NamedOnce.{spelt_is_named}
use Rattle.xf_roundtrip.proofs.Spelt.{printed_is_spelt}

pub printed_is_valid_again : PrintedIsValidAgain
printed_is_valid_again m v st within =
    let s = printed_is_spelt m v st within in
    (s.0, (s.1.0, (s.1.1, renaming_keeps_valid m s.0 v s.1.1 (spelt_is_named _ s.0 s.1.0).below)))
