-- Loops and branches: what scf.for and scf.if do (MLIR: the scf dialect).
use Rattle.std.specs.Prelude.{ℕ, zero, suc, ◌+◌, ◌-◌, ◌*◌, ◌/◌, List, [], ◌∷◌, ◌&&◌, ◌==◌, nat_lt, if◌then◌else◌}
use Rattle.std.specs.Prelude.{ℤ, pos, negsuc, ◌+ℤ◌, ◌-ℤ◌}
use Rattle.xf_type.specs.declared.payload_type.Width.{Width}
use Rattle.xf_type.specs.declared.payload_type.Width.TheVariants.{I1}
use Rattle.xf_type.specs.declared.payload_type.Elem.TheVariants.{Num}
use Rattle.xf_type.specs.Equal.{same_width}
use Rattle.xf_type.specs.Integers.{wrapped, signed_value}
use Rattle.xf_sem.specs.declared.value.Value.{Value}
use Rattle.xf_sem.specs.declared.value.Value.TheVariants.{Scalar}
use Rattle.xf_sem.specs.Actions.{Action, results, is_undefined, enters}

-- ---- loops

-- how many turns k have k * step below a distance, for a step above 0: none where the distance is not above 0
abbrev pub turns_of : ℤ → ℕ → ℕ
turns_of (pos distance) step = (distance + (step - 1)) / step
turns_of (negsuc distance) step = 0

-- the turns from number k on, so many, each on what the one before gave
abbrev pub turn_by_turn : (ℕ → Value) → ℕ → ℕ → List Value → Action
turn_by_turn at k zero vs = results vs
turn_by_turn at k (suc n) vs = enters 0 (at k ∷ vs) (λ ws. turn_by_turn at (k + 1) n ws)

-- the induction value of turn k, in its width
abbrev pub induction : Width → ℤ → ℕ → ℕ → Value
induction width lower step k = Scalar width (Num (wrapped width (lower +ℤ pos (k * step))))

-- a step of 0 or below is undefined
abbrev pub with_step : Width → ℤ → ℤ → ℤ → List Value → Action
with_step width lower upper (pos zero) vs = is_undefined
with_step width lower upper (pos (suc s)) vs =
    turn_by_turn (induction width lower (suc s)) 0 (turns_of (upper -ℤ lower) (suc s)) vs
with_step width lower upper (negsuc s) vs = is_undefined

-- bounds and step are numbers, read with their signs; the other operands are the first turn's iteration values
abbrev pub on_for : Width → List Value → Action
on_for width (Scalar low (Num l) ∷ (Scalar up (Num u) ∷ (Scalar by (Num s) ∷ vs))) =
    if same_width low width && (same_width up width && same_width by width)
    then with_step width (signed_value width l) (signed_value width u) (signed_value width s) vs
    else is_undefined
on_for width _ = is_undefined

-- ---- branches

-- the block of a region, where there are so many; a region that is absent gives no values
abbrev pub on_region : ℕ → ℕ → Action
on_region regions number = if nat_lt number regions then enters number [] results else results []

-- the first region where the condition is 1, else the second
abbrev pub on_if : ℕ → List Value → Action
on_if regions (Scalar one (Num c) ∷ []) =
    if same_width one I1 then on_region regions (if c == 0 then 1 else 0) else is_undefined
on_if regions _ = is_undefined
