-- Operations that give one value.
use Rattle.std.specs.Prelude.{◌≡◌, ℕ, ◌+◌, ◌^◌, ◌<◌, List, [], ◌∷◌, Option, Some, None, Result, Ok, Err, Bool, true, false}
use Rattle.std.specs.Prelude.{◌&&◌, nat_lt}
use Rattle.xf_type.specs.declared.payload_type.PayloadType.{PayloadType}
use Rattle.xf_type.specs.declared.payload_type.Width.{Width}
use Rattle.xf_ir.specs.declared.name.OpName.{OpName}
use Rattle.xf_ir.specs.Lists.{every}
use Rattle.xf_points.specs.Points.{product}
use Rattle.xf_sem.specs.declared.value.Value.{Value}
use Rattle.xf_sem.specs.Meaning.{Run, finish, undefined, charge, where_fit, elements}
use Rattle.xf_eval_values.specs.Held.{fits_tensor}
use Rattle.xf_eval_values.specs.declared.stop.Stop.{Stop}
use Rattle.xf_eval_values.specs.declared.stop.Stop.TheVariants.{Undefined, Budget, NoMemory}

-- the run of an operation that gives a value, where there is one, with so many points
abbrev pub given_run : OpName → List PayloadType → ℕ → Option Value → Run (List Value)
given_run n ts points None = undefined n
given_run n ts points (Some v) = where_fit n ts (v ∷ []) (charge (points + elements (v ∷ [])) (finish (v ∷ [])))

-- one value as a list
abbrev pub listed_one : Result Value Stop → Result (List Value) Stop
listed_one (Ok v) = Ok (v ∷ [])
listed_one (Err stop) = Err stop

-- whether a tensor of this width and these sizes may be the one result of these types
abbrev pub fits_one : Width → List ℕ → List PayloadType → Bool
fits_one width sizes [] = false
fits_one width sizes (t ∷ []) = every (λ size. nat_lt size (2 ^ 31)) sizes && fits_tensor width sizes t
fits_one width sizes (t ∷ (u ∷ ts)) = false

-- whether a tensor may be made: its elements and so many points are taken from the budget where it fits
abbrev pub IsAdmitted : OpName → List PayloadType → Width → List ℕ → ℕ → ℕ → ℕ → Result ℕ Stop → Type 0
IsAdmitted n ts width sizes points before after (Ok count) =
    (fits_one width sizes ts ≡ true) × ((count ≡ product sizes) × (before ≡ (points + product sizes) + after))
IsAdmitted n ts width sizes points before after (Err (Undefined m)) = (m ≡ n) × (fits_one width sizes ts ≡ false)
IsAdmitted n ts width sizes points before after (Err Budget) =
    (fits_one width sizes ts ≡ true) × (before < points + product sizes)
IsAdmitted n ts width sizes points before after (Err NoMemory) = ⊥
