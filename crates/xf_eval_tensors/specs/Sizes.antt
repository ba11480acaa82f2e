-- Sizes of tensors, one after another.
use Rattle.std.specs.Prelude.{ℕ, ◌^◌, List, [], ◌∷◌, Option, Some, None, nat_lt, if◌then◌else◌}
use Rattle.xf_type.specs.declared.payload_type.Dim.{Dim}
use Rattle.xf_type.specs.declared.payload_type.Dim.TheVariants.{Fixed, Dynamic}
use Rattle.xf_type.specs.declared.payload_type.Shape.{Shape}
use Rattle.xf_type.specs.declared.payload_type.Elem.TheVariants.{NoNumber}
use Rattle.xf_sem.specs.declared.value.Value.{Value}
use Rattle.xf_sem.specs.Tensors.{before_all, on_some, indices_of, tensor}

abbrev pub small_before : ℕ → Option (List ℕ) → Option (List ℕ)
small_before n o = if nat_lt n (2 ^ 31) then before_all n o else None

-- the sizes of a type whose dynamic dimensions have these sizes, in order, where all are below 2^31 and there are as
-- many
abbrev pub sizes_in : List Dim → List ℕ → Option (List ℕ)
sizes_in [] [] = Some []
sizes_in [] (n ∷ ns) = None
sizes_in (Fixed extent ∷ ds) ns = small_before extent (sizes_in ds ns)
sizes_in (Dynamic ∷ ds) [] = None
sizes_in (Dynamic ∷ ds) (n ∷ ns) = small_before n (sizes_in ds ns)

-- what a tensor without numbers is, of the type of its shape
abbrev pub empty_by : Shape → List Value → Option Value
empty_by s vs =
    on_some (indices_of vs)
    (λ ns. on_some (sizes_in s.dims ns) (λ shape. Some (tensor s.elem shape (λ p. NoNumber))))
