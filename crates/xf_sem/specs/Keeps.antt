-- What it means that a module keeps the meaning of another.
use Rattle.std.specs.Prelude.{◌≡◌, ℕ, List, [], ◌∷◌, Some, slice_get}
use Rattle.xf_ir.specs.declared.kind.Kind.{Kind}
use Rattle.xf_ir.specs.declared.kind.Kind.TheVariants as kind
use Rattle.xf_ir.specs.declared.op.Module.{Module}
use Rattle.xf_ir.specs.Tree.{Ops, no_ops, op, Regions}
use Rattle.xf_ir.specs.Calls.{Signature, first_args}
use Rattle.xf_ir.specs.Valid.{functions_of}
use Rattle.xf_sem.specs.declared.value.Value.{Value}
use Rattle.xf_sem.specs.Values.{FitTypes}
use Rattle.xf_sem.specs.Meaning.{gives, meaning}

-- a function's symbol and signature
pub record Declared : Type 0 where
  pub symbol : List ℕ
  pub signature : Signature

abbrev pub declared_before : Kind → Regions → List Declared → List Declared
declared_before (kind.Func symbol private types) rs more =
    record { symbol = symbol; signature = record { inputs = first_args rs; results = types } } ∷ more
declared_before _ rs more = more

abbrev pub declared_in : Ops → List Declared
declared_in no_ops = []
declared_in (op n k ds os ts rs rest) = declared_before k rs (declared_in rest)

-- the functions of a module, in order
abbrev pub declared : Module → List Declared
declared m = declared_in (functions_of m)

-- both have the same functions with the same types, and where a function of the first returns a list for arguments
-- that fit its types, the second returns the same list, elements that are no number included
pub record KeepsMeaning (before after : Module) : Type 0 where
  pub functions : declared before ≡ declared after
  pub returns : (number : ℕ) (f : Declared) (vs ws : List Value) → slice_get (declared before) number ≡ Some f
      → FitTypes vs f.signature.inputs
      → (meaning before f.symbol vs).answer ≡ gives ws → (meaning after f.symbol vs).answer ≡ gives ws
