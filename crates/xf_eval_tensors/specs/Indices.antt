-- Indices, one number after another.
use Rattle.std.specs.Prelude.{ℕ, List, [], ◌∷◌, ◌++◌, Option, Some, None, nat_lt, if◌then◌else◌}
use Rattle.xf_type.specs.declared.payload_type.Elem.{Elem}
use Rattle.xf_type.specs.declared.payload_type.Elem.TheVariants.{NoNumber}
use Rattle.xf_points.specs.Points.{Point, element, same_point}
use Rattle.xf_sem.specs.declared.value.Value.{Value}
use Rattle.xf_sem.specs.Tensors.{on_some, before_all, index_of, tensor}
use Rattle.xf_eval_values.specs.declared.held.Tensor.{Tensor as Parts}

-- numbers before those that are there
abbrev pub all_before : List ℕ → Option (List ℕ) → Option (List ℕ)
all_before xs None = None
all_before xs (Some ys) = Some (xs ++ ys)

-- the index that values are, where it lies in a shape
abbrev pub point_in : List ℕ → List Value → Option Point
point_in [] [] = Some []
point_in [] (v ∷ vs) = None
point_in (size ∷ shape) [] = None
point_in (size ∷ shape) (v ∷ vs) =
    on_some (index_of v) (λ n. if nat_lt n size then before_all n (point_in shape vs) else None)

-- a tensor with the element at an index changed
abbrev pub with_elem : Parts → Point → Elem → Value
with_elem t p e = tensor t.width t.shape (λ j. if same_point j p then e else element NoNumber t.shape t.elems j)
