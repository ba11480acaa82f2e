-- In a valid module every value fits its type: what an operation is given, gives, and hands to a block or a function.
use Rattle.std.specs.Prelude.{◌≡◌, ℕ, List, [], ◌∷◌, length, get_or, Option, Some, None, true}
use Rattle.xf_type.specs.declared.payload_type.PayloadType.{PayloadType}
use Rattle.xf_ir.specs.declared.op.Module.{Module}
use Rattle.xf_ir.specs.Calls.{Signature, Signatures, signatures}
use Rattle.xf_ir.specs.Kinds.{is_terminator}
use Rattle.xf_ir.specs.Lists.{Each}
use Rattle.xf_ir.specs.Placed.{Placed, placed, gives_of}
use Rattle.xf_ir.specs.RuleBlocks.{block_args}
use Rattle.xf_ir.specs.Valid.{IsValid}
use Rattle.xf_sem.specs.declared.value.Value.{Value}
use Rattle.xf_sem.specs.Values.{IsValue, FitsType, FitTypes}
use Rattle.xf_sem.specs.Actions.{Action, results, is_undefined, enters, calls}
use Rattle.xf_sem.specs.Meaning.{acts, gives, meaning}

-- the types at an operation: of its results, of the arguments of each of its blocks, of what the ends of these give,
-- and the signatures of functions
pub record Expected : Type 0 where
  pub results : List PayloadType
  pub args : List (List PayloadType)
  pub gives : List PayloadType
  pub signatures : Signatures

abbrev pub signature_or : Option Signature → Signature
signature_or None = record { inputs = []; results = [] }
signature_or (Some s) = s

-- an action gives and hands on values that fit, where what comes back to it does
abbrev pub FitsAction : Expected → Action → Type 0
FitsAction x (results vs) = FitTypes vs x.results
FitsAction x is_undefined = Unit {0}
FitsAction x (enters i vs more) =
    FitTypes vs (get_or x.args i []) × ((ws : List Value) → FitTypes ws x.gives → FitsAction x (more ws))
FitsAction x (calls s vs more) =
    FitTypes vs (signature_or (x.signatures s)).inputs
    × ((ws : List Value) → FitTypes ws (signature_or (x.signatures s)).results → FitsAction x (more ws))

-- operands fit the types of the values that they are, which are visible
abbrev pub FitOperands : List Value → List (Option PayloadType) → Type 0
FitOperands [] [] = Unit {0}
FitOperands [] (o ∷ os) = ⊥
FitOperands (v ∷ vs) [] = ⊥
FitOperands (v ∷ vs) (None ∷ os) = ⊥
FitOperands (v ∷ vs) (Some t ∷ os) = (IsValue v × FitsType v t) × FitOperands vs os

abbrev pub expected_at : Signatures → Placed → Expected
expected_at sigs p = record {
  results = p.tree.results;
  args = block_args p.tree.regions;
  gives = gives_of p.tree.kind p.types p.tree.results;
  signatures = sigs;
}

-- where the operands of an operation fit, so does what it does, and the end of a block gives what its holder expects
pub record OperationFits (sigs : Signatures) (p : Placed) : Type 0 where
  pub acts_so : (vs : List Value) → FitOperands vs p.types
      → FitsAction (expected_at sigs p)
      (acts p.tree.kind (length (block_args p.tree.regions)) p.tree.results vs)
  pub ends_so : (vs : List Value) → FitOperands vs p.types → is_terminator p.tree.kind ≡ true
      → FitTypes vs p.holder.gives

-- so no test of fitting decides what a valid module means, where a function is called with arguments that fit
abbrev pub ValuesFit : Type 0
ValuesFit = (m : Module) → IsValid m → Each (OperationFits (signatures m)) (placed m)

-- what a function of a valid module returns, for arguments that fit, fits the types that it returns
abbrev pub ReturnedFit : Type 0
ReturnedFit = (m : Module) (s : List ℕ) (sg : Signature) (vs ws : List Value) → IsValid m
    → signatures m s ≡ Some sg → FitTypes vs sg.inputs → (meaning m s vs).answer ≡ gives ws → FitTypes ws sg.results
