-- What an operation does with the values of its operands, and what the operations of arith do (MLIR: the arith
-- dialect).
use Rattle.std.specs.Prelude.{ℕ, List, [], ◌∷◌, Option, Some, None, ◌&&◌, if◌then◌else◌}
use Rattle.xf_type.specs.declared.payload_type.Width.{Width}
use Rattle.xf_type.specs.declared.payload_type.Width.TheVariants.{I1}
use Rattle.xf_type.specs.declared.payload_type.Elem.{Elem}
use Rattle.xf_type.specs.Equal.{same_width}
use Rattle.xf_type.specs.Integers.{selected}
use Rattle.xf_sem.specs.declared.value.Value.{Value}
use Rattle.xf_sem.specs.declared.value.Value.TheVariants.{Scalar}

-- it gives its results, or is undefined, or it enters the block of one of its regions or calls a function, and goes on
-- with what that gives. A loop enters its block once a turn, a generic once a point.
pub data Action : Type 0 where
  results : (values : List Value) → Action
  is_undefined : Action
  enters : (number : ℕ) (args : List Value) (more : List Value → Action) → Action
  calls : (symbol : List ℕ) (args : List Value) (more : List Value → Action) → Action

-- one result, where there is one
abbrev pub answered : Option Value → Action
answered None = is_undefined
answered (Some v) = results (v ∷ [])

-- ---- arith on scalars

abbrev pub on_one : Width → (Elem → Value) → List Value → Action
on_one width f (Scalar own a ∷ []) = if same_width own width then results (f a ∷ []) else is_undefined
on_one width f _ = is_undefined

abbrev pub on_two : Width → (Elem → Elem → Value) → List Value → Action
on_two width f (Scalar left a ∷ Scalar right b ∷ []) =
    if same_width left width && same_width right width then results (f a b ∷ []) else is_undefined
on_two width f _ = is_undefined

-- the condition has the width I1; what is not chosen is not looked at
abbrev pub on_choice : Width → List Value → Action
on_choice width (Scalar one c ∷ Scalar left a ∷ Scalar right b ∷ []) =
    if same_width one I1 && (same_width left width && same_width right width)
    then results (Scalar width (selected c a b) ∷ []) else is_undefined
on_choice width _ = is_undefined
