-- What the operations of tensor give, and constant tensors (MLIR: the tensor dialect).
use Rattle.std.specs.Prelude.{ℕ, ◌^◌, List, [], ◌∷◌, map, take, drop, Option, Some, None, Bool, true}
use Rattle.std.specs.Prelude.{false}
use Rattle.std.specs.Prelude.{◌&&◌, nat_lt, nat_le, slice_get, if◌then◌else◌, ◌+◌, ℤ, pos, negsuc}
use Rattle.xf_type.specs.declared.payload_type.PayloadType.{PayloadType}
use Rattle.xf_type.specs.declared.payload_type.PayloadType.TheVariants as type_of
use Rattle.xf_type.specs.declared.payload_type.Shape.{Shape}
use Rattle.xf_type.specs.declared.payload_type.Dim.{Dim}
use Rattle.xf_type.specs.declared.payload_type.Dim.TheVariants.{Fixed, Dynamic}
use Rattle.xf_type.specs.declared.payload_type.Width.{Width}
use Rattle.xf_type.specs.declared.payload_type.Width.TheVariants.{Index}
use Rattle.xf_type.specs.declared.payload_type.Elem.{Elem}
use Rattle.xf_type.specs.declared.payload_type.Elem.TheVariants.{Num, NoNumber}
use Rattle.xf_type.specs.Equal.{same_width}
use Rattle.xf_ir.specs.declared.kind.SliceIndex.{SliceIndex}
use Rattle.xf_ir.specs.declared.kind.SliceIndex.TheVariants as index
use Rattle.xf_ir.specs.RuleSlices.{is_at_least_zero}
use Rattle.xf_ir.specs.RuleTypes.{open_count}
use Rattle.xf_points.specs.Points.{Point, same_point, listed, element}
use Rattle.xf_points.specs.Windows.{Window, sizes, cut, pasted}
use Rattle.xf_sem.specs.declared.value.Value.{Value}
use Rattle.xf_sem.specs.declared.value.Value.TheVariants.{Scalar, Tensor}
use Rattle.xf_ir.specs.Lists.{every}
use Rattle.xf_sem.specs.Values.{fits_dims}

-- ---- values as functions of indices

abbrev pub width_of : Value → Width
width_of (Scalar width elem) = width
width_of (Tensor width shape elems) = width

-- the sizes of a value; a scalar has none
abbrev pub shape_of : Value → List ℕ
shape_of (Scalar width elem) = []
shape_of (Tensor width shape elems) = shape

-- the element at an index; a scalar has one
abbrev pub items_of : Value → Point → Elem
items_of (Scalar width elem) p = elem
items_of (Tensor width shape elems) p = element NoNumber shape elems p

-- the tensor with these elements
abbrev pub tensor : Width → List ℕ → (Point → Elem) → Value
tensor width shape f = Tensor width shape (listed shape f)

-- ---- what may be there

abbrev pub on_some : {A B : Type 0} → Option A → (A → Option B) → Option B
on_some None f = None
on_some (Some x) f = f x

abbrev pub only_if : {A : Type 0} → Bool → A → Option A
only_if b x = if b then Some x else None

abbrev pub before_all : {A : Type 0} → A → Option (List A) → Option (List A)
before_all x None = None
before_all x (Some xs) = Some (x ∷ xs)

-- ---- indices

-- the number of an index. One that is negative where it is read with its sign is 2^63 and more, and so above every
-- extent, size and offset that a tensor has.
abbrev pub index_of : Value → Option ℕ
index_of (Scalar width (Num n)) = only_if (same_width width Index) n
index_of _ = None

-- the numbers of indices, where each has one
abbrev pub indices_of : List Value → Option (List ℕ)
indices_of [] = Some []
indices_of (v ∷ vs) = on_some (index_of v) (λ n. before_all n (indices_of vs))

-- whether an index lies in a shape
abbrev pub is_in : Point → List ℕ → Bool
is_in [] [] = true
is_in [] (size ∷ shape) = false
is_in (i ∷ p) [] = false
is_in (i ∷ p) (size ∷ shape) = nat_lt i size && is_in p shape

-- numbers of which some are known: the others are these, in order, and there are as many
abbrev pub filled : List (Option ℕ) → List ℕ → Option (List ℕ)
filled [] [] = Some []
filled [] (n ∷ ns) = None
filled (Some known ∷ ks) ns = before_all known (filled ks ns)
filled (None ∷ ks) [] = None
filled (None ∷ ks) (n ∷ ns) = before_all n (filled ks ns)

abbrev pub known_size : Dim → Option ℕ
known_size (Fixed extent) = Some extent
known_size Dynamic = None

-- the shape of a type whose dynamic dimensions have these sizes
abbrev pub shape_with : List Dim → List ℕ → Option (List ℕ)
shape_with ds ns = filled (map known_size ds) ns

-- ---- constants, sizes and elements

-- the number at each index: the one of all, or the next of the list
abbrev pub dense_items : List ℕ → List ℕ → Point → Elem
dense_items shape (n ∷ []) p = Num n
dense_items shape ns p = element NoNumber shape (map (λ n. Num n) ns) p

abbrev pub dense_given : Shape → List ℕ → Option Value
dense_given s ns = on_some (shape_with s.dims []) (λ shape. Some (tensor s.elem shape (dense_items shape ns)))

-- sizes below 2^31, and elements that are no number
abbrev pub empty_given : List PayloadType → List Value → Option Value
empty_given (type_of.Tensor s ∷ []) vs =
    on_some (indices_of vs) (λ ns.
    on_some (shape_with s.dims ns) (λ shape.
    only_if (every (λ size. nat_lt size (2 ^ 31)) shape) (tensor s.elem shape (λ p. NoNumber))))
empty_given _ vs = None

abbrev pub dim_given : List Value → Option Value
dim_given (Tensor width shape elems ∷ (v ∷ [])) =
    on_some (index_of v) (λ d. on_some (slice_get shape d) (λ size. Some (Scalar Index (Num size))))
dim_given _ = None

abbrev pub extracted : List Value → Option Value
extracted (Tensor width shape elems ∷ vs) =
    on_some (indices_of vs) (λ p. only_if (is_in p shape) (Scalar width (element NoNumber shape elems p)))
extracted _ = None

-- the target with the element at the index
abbrev pub inserted : List Value → Option Value
inserted (Scalar part elem ∷ (Tensor width shape elems ∷ vs)) =
    on_some (indices_of vs) (λ p.
    only_if (same_width part width && is_in p shape)
    (tensor width shape (λ j. if same_point j p then elem else element NoNumber shape elems j)))
inserted _ = None

-- the same tensor, where its shape fits the type
abbrev pub cast_given : List PayloadType → List Value → Option Value
cast_given (type_of.Tensor s ∷ []) (Tensor width shape elems ∷ []) =
    only_if (same_width width s.elem && fits_dims shape s.dims) (Tensor width shape elems)
cast_given _ _ = None

-- ---- slices

abbrev pub natural : ℤ → ℕ
natural (pos n) = n
natural (negsuc n) = 0

abbrev pub known_index : SliceIndex → Option ℕ
known_index (index.Fixed z) = Some (natural z)
known_index index.Dynamic = None

-- offsets, or sizes, whose open ones are these
abbrev pub settled : List SliceIndex → List ℕ → Option (List ℕ)
settled xs ns = if every is_at_least_zero xs then filled (map known_index xs) ns else None

-- an offset and a size for each dimension
abbrev pub paired : List ℕ → List ℕ → Option (List Window)
paired [] [] = Some []
paired [] (z ∷ zs) = None
paired (o ∷ os) [] = None
paired (o ∷ os) (z ∷ zs) = before_all (record { offset = o; size = z }) (paired os zs)

-- the windows of a slice: the operands are its open offsets, and then its open sizes
abbrev pub slice_windows : List SliceIndex → List SliceIndex → List Value → Option (List Window)
slice_windows offsets lengths vs =
    on_some (indices_of vs) (λ ns.
    on_some (settled offsets (take (open_count offsets) ns)) (λ os.
    on_some (settled lengths (drop (open_count offsets) ns)) (λ zs. paired os zs)))

-- whether windows lie within a shape
abbrev pub within : List Window → List ℕ → Bool
within [] [] = true
within [] (size ∷ shape) = false
within (w ∷ ws) [] = false
within (w ∷ ws) (size ∷ shape) = nat_le (w.offset + w.size) size && within ws shape

-- a window of a tensor
abbrev pub cut_from : List Window → Value → Option Value
cut_from ws (Scalar width elem) = None
cut_from ws (Tensor width shape elems) =
    only_if (within ws shape) (tensor width (sizes ws) (cut ws (element NoNumber shape elems)))

-- a tensor with a window overwritten by another, whose shape is that of the window
abbrev pub overwritten : List Window → Value → Value → Option Value
overwritten ws (Tensor part inner items) (Tensor width shape elems) =
    only_if (within ws shape && (same_width part width && same_point inner (sizes ws)))
    (tensor width shape (pasted ws (element NoNumber inner items) (element NoNumber shape elems)))
overwritten ws _ _ = None

abbrev pub slice_given : List SliceIndex → List SliceIndex → List Value → Option Value
slice_given offsets lengths (source ∷ vs) = on_some (slice_windows offsets lengths vs) (λ ws. cut_from ws source)
slice_given offsets lengths _ = None

abbrev pub slice_put : List SliceIndex → List SliceIndex → List Value → Option Value
slice_put offsets lengths (source ∷ (target ∷ vs)) =
    on_some (slice_windows offsets lengths vs) (λ ws. overwritten ws source target)
slice_put offsets lengths _ = None
