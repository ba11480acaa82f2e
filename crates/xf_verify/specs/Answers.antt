-- What an answer says of the first violation.
use Rattle.std.specs.Prelude.{◌≡◌, Option, Some, None, Result, Ok, Err, option_map}
use Rattle.xf_ir.specs.Rules.{number}
use Rattle.xf_ir.specs.Violations.{Violation}
use Rattle.xf_verify.specs.declared.fault.VerifyFault.{VerifyFault}
use Rattle.xf_verify.specs.declared.fault.VerifyFault.TheVariants.{Rule, NoMemory}

-- the fault that tells of a violation
abbrev pub fault_of : Violation → VerifyFault
fault_of v = Rule (number v.rule) v.op

-- what is answered where this is the first violation; want of memory says nothing
abbrev pub Answers : {A : Type 0} → Result A VerifyFault → Option Violation → Type 0
Answers (Ok x) v = v ≡ None
Answers (Err (Rule n name)) v = option_map fault_of v ≡ Some (Rule n name)
Answers (Err NoMemory) v = Unit {0}
