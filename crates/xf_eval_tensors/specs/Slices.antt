-- Slices, one dimension after another: the numbers of each that a window has.
use Rattle.std.specs.Prelude.{ℕ, ◌+◌, ◌-◌, List, [], ◌∷◌, ◌++◌, map, take, drop, Option, Some, None, nat_le}
use Rattle.std.specs.Prelude.{ℤ, pos, negsuc}
use Rattle.xf_type.specs.declared.payload_type.Elem.{Elem}
use Rattle.xf_type.specs.declared.payload_type.Elem.TheVariants.{NoNumber}
use Rattle.xf_ir.specs.declared.kind.SliceIndex.{SliceIndex}
use Rattle.xf_ir.specs.declared.kind.SliceIndex.TheVariants as index
use Rattle.xf_ir.specs.RuleTypes.{open_count}
use Rattle.xf_points.specs.Points.{Point, element}
use Rattle.xf_points.specs.Windows.{Window, pasted}
use Rattle.xf_sem.specs.declared.value.Value.{Value}
use Rattle.xf_sem.specs.declared.value.Value.TheVariants.{Tensor}
use Rattle.xf_sem.specs.Tensors.{on_some, only_if, before_all, indices_of, tensor}
use Rattle.xf_eval_values.specs.declared.held.Tensor.{Tensor as Parts}
use Rattle.xf_eval_points.specs.declared.span.Span.{Span}
use Rattle.xf_eval_points.specs.Spans.{window_of, spread}

-- a number that is not negative
abbrev pub natural_in : ℤ → Option ℕ
natural_in (pos n) = Some n
natural_in (negsuc n) = None

-- offsets, or sizes, whose open ones are these, in order, where none is negative and there are as many
abbrev pub settled_in : List SliceIndex → List ℕ → Option (List ℕ)
settled_in [] [] = Some []
settled_in [] (n ∷ ns) = None
settled_in (index.Fixed z ∷ xs) ns = on_some (natural_in z) (λ n. before_all n (settled_in xs ns))
settled_in (index.Dynamic ∷ xs) [] = None
settled_in (index.Dynamic ∷ xs) (n ∷ ns) = before_all n (settled_in xs ns)

-- the numbers of a dimension that a window has, where it lies within the extent
abbrev pub span_in : ℕ → ℕ → ℕ → Option Span
span_in offset size extent = only_if (nat_le (offset + size) extent) (record { from = offset; to = offset + size })

-- those of each dimension, where there are as many offsets and sizes as extents
abbrev pub spans_in : List ℕ → List ℕ → List ℕ → Option (List Span)
spans_in [] [] [] = Some []
spans_in [] [] (n ∷ ns) = None
spans_in [] (z ∷ zs) ns = None
spans_in (o ∷ os) [] ns = None
spans_in (o ∷ os) (z ∷ zs) [] = None
spans_in (o ∷ os) (z ∷ zs) (n ∷ ns) = on_some (span_in o z n) (λ s. before_all s (spans_in os zs ns))

-- spans before those that are there
abbrev pub spans_before : List Span → Option (List Span) → Option (List Span)
spans_before xs None = None
spans_before xs (Some ys) = Some (xs ++ ys)

-- the box of a slice, where its windows lie within the shape
abbrev pub slice_spans : List SliceIndex → List SliceIndex → List Value → List ℕ → Option (List Span)
slice_spans offsets lengths vs shape =
    on_some (indices_of vs) (λ ns.
    on_some (settled_in offsets (take (open_count offsets) ns)) (λ os.
    on_some (settled_in lengths (drop (open_count offsets) ns)) (λ zs. spans_in os zs shape)))

abbrev pub windows_of : List Span → List Window
windows_of ss = map window_of ss

abbrev pub span_sizes : List Span → List ℕ
span_sizes ss = map (λ (s : Span). s.to - s.from) ss

-- the elements of a tensor in a box, in order, and the tensor of them
abbrev pub elems_in : Parts → List Span → List Elem
elems_in t ss = map (element NoNumber t.shape t.elems) (spread ss)

abbrev pub cut_out : Parts → List Span → Value
cut_out t ss = Tensor t.width (span_sizes ss) (elems_in t ss)

-- the element at an index of a tensor with a box overwritten by another, and that tensor
abbrev pub item_over : Parts → Parts → List Span → Point → Elem
item_over s t ss p =
    pasted (windows_of ss) (element NoNumber s.shape s.elems) (element NoNumber t.shape t.elems) p

abbrev pub put_over : Parts → Parts → List Span → Value
put_over s t ss = tensor t.width t.shape (item_over s t ss)
