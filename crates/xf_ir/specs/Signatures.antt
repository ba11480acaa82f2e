-- How the code's own signatures are seen.
use Rattle.xf_ir.specs.declared.signature.Signature.{Signature}
use Rattle.xf_ir.specs.Calls as calls

abbrev pub signature_seen : Signature → calls.Signature
signature_seen s = record { inputs = s.inputs.now; results = s.results.now }
