-- Functions of func and arith alone are defined for all arguments that fit.
use Rattle.std.specs.Prelude.{◌≡◌, ℕ, zero, suc, List, Option, Some, None, Bool, true, ◌&&◌}
use Rattle.xf_ir.specs.declared.kind.Kind.{Kind}
use Rattle.xf_ir.specs.declared.kind.Kind.TheVariants as kind
use Rattle.xf_ir.specs.declared.op.Module.{Module}
use Rattle.xf_ir.specs.Tree.{Ops, no_ops, op, Tree}
use Rattle.xf_ir.specs.Calls.{Signature, signatures, function_of, callees_of}
use Rattle.xf_ir.specs.Kinds.{is_arith}
use Rattle.xf_ir.specs.Lists.{every}
use Rattle.xf_ir.specs.Valid.{IsValid, functions_of, block_of}
use Rattle.xf_sem.specs.declared.value.Value.{Value}
use Rattle.xf_sem.specs.Values.{FitTypes}
use Rattle.xf_sem.specs.Meaning.{gives, meaning, call_depth}

-- an operation of arith, a call or a return
abbrev pub is_plain : Kind → Bool
is_plain (kind.Call callee) = true
is_plain kind.Return = true
is_plain k = is_arith k

abbrev pub are_plain : Ops → Bool
are_plain no_ops = true
are_plain (op n k ds os ts rs rest) = is_plain k && are_plain rest

abbrev pub has_plain_block : Option Tree → Bool
has_plain_block None = true
has_plain_block (Some t) = are_plain (block_of t.regions)

-- the function of a symbol, and those that it calls in turn, so deep, hold operations of func and arith alone
abbrev pub plain_to : ℕ → Ops → List ℕ → Bool
plain_to zero fs s = true
plain_to (suc depth) fs s =
    has_plain_block (function_of s fs) && every (plain_to depth fs) (callees_of (function_of s fs))

-- such a function of a valid module is defined: what it returns may be no number
abbrev pub PlainIsDefined : Type 0
PlainIsDefined = (m : Module) (s : List ℕ) (signature : Signature) (vs : List Value) → IsValid m
    → plain_to call_depth (functions_of m) s ≡ true → signatures m s ≡ Some signature → FitTypes vs signature.inputs
    → (ws : List Value) × (((meaning m s vs).answer ≡ gives ws) × FitTypes ws signature.results)
