-- What a structured operation gives (MLIR: the linalg dialect): the element of the result at an index is what the
-- points that lead to this index do, one after another, to the element of the out there. So a named operation and a
-- generic mean the same, with reductions and without.
use Rattle.std.specs.Prelude.{ℕ, List, [], ◌∷◌, map, length, filter, Option, Some, None, Bool, true, false, ◌==◌, ◌&&◌}
use Rattle.std.specs.Prelude.{if◌then◌else◌}
use Rattle.xf_type.specs.declared.payload_type.Width.{Width}
use Rattle.xf_type.specs.declared.payload_type.Width.TheVariants.{I1}
use Rattle.xf_type.specs.declared.payload_type.Elem.{Elem}
use Rattle.xf_type.specs.declared.payload_type.Elem.TheVariants.{NoNumber}
use Rattle.xf_type.specs.declared.attribute.AffineMap.{AffineMap}
use Rattle.xf_type.specs.declared.kind.BinKind.TheVariants as bin
use Rattle.xf_type.specs.declared.kind.Combiner.TheVariants as by
use Rattle.xf_type.specs.Integers.{binary, combined}
use Rattle.xf_ir.specs.declared.kind.NamedKind.{NamedKind}
use Rattle.xf_ir.specs.declared.kind.NamedKind.TheVariants.{Fill}
use Rattle.xf_ir.specs.declared.kind.IteratorKind.{IteratorKind}
use Rattle.xf_ir.specs.declared.kind.Kind.{Kind}
use Rattle.xf_ir.specs.declared.kind.Kind.TheVariants as kind
use Rattle.xf_ir.specs.RuleLinalg.{named_maps, last_results}
use Rattle.xf_points.specs.Points.{Point, counted, points, same_point, at, product}
use Rattle.xf_points.specs.Folds.{onto}
use Rattle.xf_points.specs.Operands.{Operand, BodyOf, structured}
use Rattle.xf_sem.specs.declared.value.Value.{Value}
use Rattle.xf_sem.specs.declared.value.Value.TheVariants.{Scalar, Tensor}
use Rattle.xf_sem.specs.Actions.{Action, results, is_undefined, enters}
use Rattle.xf_sem.specs.Tensors.{width_of, shape_of, items_of, tensor}

-- ---- extents, from the operands through the maps

-- the extent of a dimension in one operand, at the first position of its map that has it
abbrev pub extent_in : ℕ → List ℕ → List ℕ → Option ℕ
extent_in d [] es = None
extent_in d (k ∷ ks) [] = None
extent_in d (k ∷ ks) (e ∷ es) = if k == d then Some e else extent_in d ks es

abbrev pub or_else : Option ℕ → ℕ → ℕ
or_else None n = n
or_else (Some m) n = m

-- the extent in the first operand whose map has the dimension
abbrev pub extent_of : ℕ → List (List ℕ) → List (List ℕ) → ℕ
extent_of d [] shapes = 0
extent_of d (ks ∷ maps) [] = 0
extent_of d (ks ∷ maps) (es ∷ shapes) = or_else (extent_in d ks es) (extent_of d maps shapes)

-- the extents of so many dimensions
abbrev pub extents : ℕ → List (List ℕ) → List (List ℕ) → List ℕ
extents count maps shapes = map (λ d. extent_of d maps shapes) (counted 0 count)

-- whether each operand has the extents that its map selects
abbrev pub agree : List ℕ → List (List ℕ) → List (List ℕ) → Bool
agree es [] [] = true
agree es [] (s ∷ shapes) = false
agree es (ks ∷ maps) [] = false
agree es (ks ∷ maps) (s ∷ shapes) = same_point s (at ks es) && agree es maps shapes

-- ---- an operation

-- so many dimensions, the maps of what is read and that of the out, each by the numbers of the dimensions it selects
pub record Frame : Type 0 where
  pub rank : ℕ
  pub maps : List (List ℕ)
  pub out : List ℕ

abbrev pub end_with : {A : Type 0} → List A → A → List A
end_with [] x = x ∷ []
end_with (y ∷ ys) x = y ∷ end_with ys x

abbrev pub all_maps : Frame → List (List ℕ)
all_maps f = end_with f.maps f.out

abbrev pub all_shapes : List Value → Value → List (List ℕ)
all_shapes ins out = end_with (map shape_of ins) (shape_of out)

abbrev pub extents_of : Frame → List Value → Value → List ℕ
extents_of f ins out = extents f.rank (all_maps f) (all_shapes ins out)

-- whether all operands have these extents: otherwise the operation is undefined
abbrev pub has_extents : Frame → List Value → Value → Bool
has_extents f ins out = agree (extents_of f ins out) (all_maps f) (all_shapes ins out)

abbrev pub operands : List (List ℕ) → List Value → List (Operand Elem)
operands [] vs = []
operands (ks ∷ maps) [] = []
operands (ks ∷ maps) (v ∷ vs) = record { dims = ks; items = items_of v } ∷ operands maps vs

-- what it gives, where its body computes this at a point, from the elements that are read there and that of the out
abbrev pub given : Frame → BodyOf Elem → List Value → Value → Option Value
given f body ins (Scalar width elem) = None
given f body ins (Tensor width shape elems) =
    (let out = Tensor width shape elems in
    if has_extents f ins out
    then Some (tensor width shape
    (structured (extents_of f ins out) f.out body (operands f.maps ins) (items_of out)))
    else None)

-- ---- the same by entering a block once a point: for each index of the out, in order, its points in order

abbrev pub first_elem : List Value → Elem
first_elem (Scalar width a ∷ vs) = a
first_elem _ = NoNumber

abbrev pub through : (Point → Elem → List Value) → List Point → Elem → (Elem → Action) → Action
through args [] a go = go a
through args (p ∷ ps) a go = enters 0 (args p a) (λ ws. through args ps (first_elem ws) go)

abbrev pub each_index : (Point → (Elem → Action) → Action) → List Point → (List Elem → Action) → Action
each_index f [] go = go []
each_index f (j ∷ js) go = f j (λ a. each_index f js (λ more. go (a ∷ more)))

-- the arguments of the block at a point: the elements that are read, and that of the out
abbrev pub arguments : List (List ℕ) → List Value → Value → Point → Elem → List Value
arguments [] vs out p a = Scalar (width_of out) a ∷ []
arguments (ks ∷ maps) [] out p a = Scalar (width_of out) a ∷ []
arguments (ks ∷ maps) (v ∷ vs) out p a = Scalar (width_of v) (items_of v (at ks p)) ∷ arguments maps vs out p a

-- the points with this out index
abbrev pub points_onto : Frame → List Value → Value → Point → List Point
points_onto f ins out j = filter (onto f.out j) (points (extents_of f ins out))

abbrev pub on_points : Frame → List Value → Value → Action
on_points f ins (Scalar width elem) = is_undefined
on_points f ins (Tensor width shape elems) =
    (let out = Tensor width shape elems in
    if has_extents f ins out
    then each_index (λ j. through (arguments f.maps ins out) (points_onto f ins out j) (items_of out j)) (points shape)
    (λ made. results (Tensor width shape made ∷ []))
    else is_undefined)

-- ---- operations with a name: products of two operands, and fill

-- the sum of the out and the product of the two elements, at every width
abbrev pub product_body : Width → BodyOf Elem
product_body width p (x ∷ (y ∷ [])) a = combined by.Addi width a (binary bin.Muli width x y)
product_body width p _ a = NoNumber

abbrev pub fill_body : BodyOf Elem
fill_body p (x ∷ []) a = x
fill_body p _ a = NoNumber

abbrev pub body_of : NamedKind → Width → BodyOf Elem
body_of Fill width = fill_body
body_of _ width = product_body width

-- ---- the rows

-- all but the last
abbrev pub front : {A : Type 0} → List A → List A
front [] = []
front (x ∷ []) = []
front (x ∷ (y ∷ xs)) = x ∷ front (y ∷ xs)

-- the last, or another where there is none
abbrev pub last_or : {A : Type 0} → A → List A → A
last_or none [] = none
last_or none (x ∷ xs) = last_or x xs

-- the out: the last operand
abbrev pub out_of : List Value → Value
out_of vs = last_or (Scalar I1 NoNumber) vs

abbrev pub frame_by : ℕ → List AffineMap → Frame
frame_by rank maps = record {
  rank = rank;
  maps = map (λ (m : AffineMap). m.results) (front maps);
  out = last_results maps;
}

abbrev pub dims_of_first : List AffineMap → ℕ
dims_of_first [] = 0
dims_of_first (m ∷ ms) = m.dims

-- the frame of an operation with a name, over an out of this rank
abbrev pub named_frame : NamedKind → ℕ → Frame
named_frame which rank = frame_by (dims_of_first (named_maps which rank)) (named_maps which rank)

abbrev pub frame_of_named : NamedKind → List Value → Frame
frame_of_named which vs = named_frame which (length (shape_of (out_of vs)))

abbrev pub frame_of_generic : List AffineMap → List IteratorKind → Frame
frame_of_generic maps iterators = frame_by (length iterators) maps

abbrev pub named_given : NamedKind → List Value → Option Value
named_given which vs =
    given (frame_of_named which vs) (body_of which (width_of (out_of vs))) (front vs) (out_of vs)

abbrev pub on_generic : List AffineMap → List IteratorKind → List Value → Action
on_generic maps iterators vs = on_points (frame_of_generic maps iterators) (front vs) (out_of vs)

-- the points of a structured operation; other operations have none
abbrev pub points_of : Kind → List Value → ℕ
points_of (kind.Named which) vs = product (extents_of (frame_of_named which vs) (front vs) (out_of vs))
points_of (kind.Generic maps iterators) vs =
    product (extents_of (frame_of_generic maps iterators) (front vs) (out_of vs))
points_of _ vs = 0
