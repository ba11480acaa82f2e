-- Maps and operands of a structured operation, the out among them as the last.
use Rattle.std.specs.Prelude.{ℕ, List, [], ◌∷◌, map, Option, Some, None, if◌then◌else◌, filter}
use Rattle.xf_type.specs.declared.payload_type.Elem.{Elem}
use Rattle.xf_type.specs.declared.payload_type.Elem.TheVariants.{NoNumber}
use Rattle.xf_points.specs.Points.{Point, listed, element, points}
use Rattle.xf_points.specs.Folds.{onto}
use Rattle.xf_sem.specs.Actions.{Action}
use Rattle.xf_eval_values.specs.Held.{as_value}
use Rattle.xf_points.specs.Operands.{BodyOf, structured}
use Rattle.xf_sem.specs.Structured.{Frame, front, last_or, extents, agree, operands, through, arguments}
use Rattle.xf_eval_values.specs.declared.held.Tensor.{Tensor}
use Rattle.xf_type.specs.declared.attribute.AffineMap.{AffineMap}
use Rattle.xf_sem.specs.declared.value.Value.{Value}
use Rattle.xf_sem.specs.Tensors.{shape_of, items_of}

-- the dimensions that each map selects; the out's map selects none where there is no map
abbrev pub maps_seen : List AffineMap → List (List ℕ)
maps_seen [] = [] ∷ []
maps_seen (m ∷ ms) = map (λ (m : AffineMap). m.results) (m ∷ ms)

abbrev pub shapes : List Value → List (List ℕ)
shapes vs = map shape_of vs

-- the frame of these maps, that of the out as the last
abbrev pub frame_seen : ℕ → List (List ℕ) → Frame
frame_seen rank maps = record { rank = rank; maps = front maps; out = last_or [] maps }

-- the extents, where all operands have those that their maps select
abbrev pub agreed : ℕ → List (List ℕ) → List Value → Option (List ℕ)
agreed rank maps vs =
    if agree (extents rank maps (shapes vs)) maps (shapes vs) then Some (extents rank maps (shapes vs)) else None

-- the elements of the result of a structured operation over a tensor
abbrev pub made : BodyOf Elem → List ℕ → List (List ℕ) → List Value → List ℕ → Tensor → List Elem
made body es maps ins out t =
    listed t.shape (structured es out body (operands maps ins) (element NoNumber t.shape t.elems))

-- what a generic does at an index of its out: it enters its block once for each point that leads there
abbrev pub entered : List ℕ → List (List ℕ) → List Value → List ℕ → Tensor → Point → (Elem → Action) → Action
entered es maps ins out t j =
    through (arguments maps ins (as_value t)) (filter (onto out j) (points es)) (items_of (as_value t) j)
