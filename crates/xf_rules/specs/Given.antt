-- What a caller tells of other operations: the signature of a callee, and what a block's terminator gives.
use Rattle.std.specs.Prelude.{List, [], ◌∷◌, Option, Some, None}
use Rattle.xf_type.specs.declared.payload_type.PayloadType.{PayloadType}
use Rattle.xf_type.specs.declared.payload_type.PayloadType.TheVariants.{Scalar}
use Rattle.xf_ir.specs.declared.kind.Kind.{Kind}
use Rattle.xf_ir.specs.declared.kind.Kind.TheVariants as kind
use Rattle.xf_ir.specs.Calls as calls
use Rattle.xf_ir.specs.Calls.{Signatures}
use Rattle.xf_ir.specs.declared.signature.Signature.{Signature}
use Rattle.xf_ir.specs.Signatures.{signature_seen}
use Rattle.xf_rules.specs.declared.given.Yielded.{Yielded}
use Rattle.xf_rules.specs.declared.given.Yielded.TheVariants.{Types, Element, Nothing}

-- the signature of a callee, none where no function has the symbol
abbrev pub callee_seen : Option Signature → Option calls.Signature
callee_seen None = None
callee_seen (Some s) = Some (signature_seen s)

-- the types of the values that the terminator of a block gives
abbrev pub gives_seen : Yielded → List PayloadType
gives_seen (Types ts) = ts.now
gives_seen (Element w) = Scalar w ∷ []
gives_seen Nothing = []

-- the signature of what an operation calls, none where it is no call
abbrev pub callee_of : Signatures → Kind → Option calls.Signature
callee_of sigs (kind.Call callee) = sigs callee
callee_of sigs _ = None
