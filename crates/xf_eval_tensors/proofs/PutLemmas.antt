-- Tensors with a box overwritten.
use Rattle.std.proofs.Common.{◌≡◌, ◌≢◌, ℕ, zero, suc, ◌+◌, ◌-◌, ◌<◌, List, [], ◌∷◌, ◌++◌, length, get_or}
use Rattle.std.proofs.Common.{Bool, true, false}
use Rattle.std.proofs.Common.{Option, Some, None, Ok, Err, refl, sym, ap, ◌∙◌, arith, subst, take}
use Rattle.std.specs.Prelude.{◌&&◌, ◌==◌, if◌then◌else◌, set}
use Rattle.std.proofs.lemmas.Bool.{and_right}
use Rattle.std.proofs.lemmas.List.{length-map, take_more_set}
use Rattle.xf_type.specs.declared.payload_type.PayloadType.{PayloadType}
use Rattle.xf_type.specs.declared.payload_type.Width.{Width}
use Rattle.xf_type.specs.declared.payload_type.Elem.{Elem}
use Rattle.xf_type.specs.declared.payload_type.Elem.TheVariants.{NoNumber}
use Rattle.xf_type.specs.Equal.{same_width}
use Rattle.xf_type.specs.Integers.{FitsWidth}
use Rattle.xf_ir.specs.declared.kind.SliceIndex.{SliceIndex}
use Rattle.xf_ir.specs.declared.name.OpName.{OpName}
use Rattle.xf_ir.specs.Lists.{Each}
use Rattle.xf_points.specs.Points.{Point, points, listed, element, same_point}
use Rattle.xf_points.specs.Windows.{Window, sizes, has, inside, taken_from, pasted}
use Rattle.xf_points.proofs.Maps.{inside_length}
use Rattle.xf_points.proofs.Tensors.{length_listed}
use Rattle.xf_sem.specs.declared.value.Value.{Value}
use Rattle.xf_sem.specs.declared.value.Value.TheVariants.{Scalar, Tensor}
use Rattle.xf_sem.specs.Tensors.{on_some, only_if, within, slice_windows, slice_put, tensor}
use Rattle.xf_sem.specs.Values.{IsValue}
use Rattle.xf_eval_values.specs.declared.held.Tensor.{Tensor as Parts}
use Rattle.xf_eval_values.specs.declared.stop.Stop.{Stop}
use Rattle.xf_eval_values.specs.Held.{tensor_of, as_value}
use Rattle.xf_eval_values.specs.Given.{given_run, IsAdmitted}
use Rattle.xf_eval_values.specs.Meets.{Meets}
use Rattle.xf_eval_values.proofs.GivenLemmas.{refused_meets, admitted_meets}
use Rattle.xf_eval_points.specs.declared.span.Span.{Span}
use Rattle.xf_eval_points.specs.Spans.{window_of}
use Rattle.xf_eval_tensors.specs.Slices.{slice_spans, windows_of, span_sizes, item_over, put_over}
use Rattle.xf_eval_tensors.proofs.ElementLemmas.{tensor_value}
use Rattle.xf_eval_tensors.proofs.SliceLemmas.{by_box, on_same, none_given, box_sizes, each_mapped, elem_fits}

-- ---- points of a box

pub unequal_box : (ss : List Span) (p : Point) → length ss ≢ length p → false ≡ inside (windows_of ss) p
unequal_box [] [] h = absurd (h refl)
unequal_box [] (i ∷ p) h = refl
unequal_box (s ∷ ss) [] h = refl
unequal_box (s ∷ ss) (i ∷ p) h =
    sym (and_right (has (window_of s) i) (inside (windows_of ss) p) (sym (unequal_box ss p (λ e. h (ap suc e)))))

pub unequal_sizes : (sizes : List ℕ) (ss : List Span) → length sizes ≢ length ss
    → false ≡ same_point sizes (span_sizes ss)
unequal_sizes [] [] h = absurd (h refl)
unequal_sizes [] (s ∷ ss) h = refl
unequal_sizes (n ∷ sizes) [] h = refl
unequal_sizes (n ∷ sizes) (s ∷ ss) h =
    sym (and_right (n == (s.to - s.from)) (same_point sizes (span_sizes ss))
    (sym (unequal_sizes sizes ss (λ e. h (ap suc e)))))

pub box_length : (ss : List Span) (p : Point) → inside (windows_of ss) p ≡ true → length p ≡ length ss
box_length ss p h = inside_length (windows_of ss) p h ∙ length-map ss window_of

taken_suc : (ss : List Span) (p : Point) (i : ℕ) (d : Span) → i < length ss → i < length p
    → taken_from (windows_of (take (suc i) ss)) (take (suc i) p)
    ≡ taken_from (windows_of (take i ss)) (take i p) ++ (get_or p i 0 - (get_or ss i d).from) ∷ []
taken_suc [] p i d h k = absurd (omega arith)
taken_suc (s ∷ ss) [] i d h k = absurd (omega arith)
taken_suc (s ∷ ss) (j ∷ p) zero d h k = refl
taken_suc (s ∷ ss) (j ∷ p) (suc i) d h k =
    ap (λ q. (j - s.from) ∷ q) (taken_suc ss p i d (omega arith) (omega arith))

pub taken_more : (l : List ℕ) (ss : List Span) (p : Point) (i x : ℕ) (d : Span) → i < length l → i < length ss
    → i < length p → take i l ≡ taken_from (windows_of (take i ss)) (take i p)
    → x ≡ get_or p i 0 - (get_or ss i d).from
    → take (i + 1) (set l i x) ≡ taken_from (windows_of (take (i + 1) ss)) (take (i + 1) p)
taken_more l ss p i x d h k m e q =
    let n : suc i ≡ i + 1 = omega arith in
    take_more_set l i x h ∙ ap (λ r. r ++ x ∷ []) e
    ∙ ap (λ y. taken_from (windows_of (take i ss)) (take i p) ++ y ∷ []) q ∙ sym (taken_suc ss p i d k m)
    ∙ ap (λ j. taken_from (windows_of (take j ss)) (take j p)) n

-- ---- the tensor that is given

apart : {B : Type 0} (a b : Bool) (x : B) → only_if (a && b) x ≡ (if a then only_if b x else None)
apart true b x = refl
apart false b x = refl

-- where the widths and sizes are the same
abbrev pub if_same : Parts → Parts → List Span → Option Value
if_same s t ss = only_if (same_width s.width t.width && same_point s.shape (span_sizes ss)) (put_over s t ss)

pub put_is : (offsets lengths : List SliceIndex) (u v : Value) (s t : Parts) (vs : List Value) → Some s ≡ tensor_of u
    → Some t ≡ tensor_of v
    → slice_put offsets lengths (u ∷ (v ∷ vs))
    ≡ on_some (slice_spans offsets lengths vs t.shape)
    (if_same s t)
put_is offsets lengths u v s t vs h k =
    let y = element NoNumber s.shape s.elems in
    let x = element NoNumber t.shape t.elems in
    let fits = λ (ws : List Window). same_width s.width t.width && same_point s.shape (sizes ws) in
    let made = λ (ws : List Window). tensor t.width t.shape (pasted ws y x) in
    ap (λ z. slice_put offsets lengths (z ∷ (v ∷ vs))) (sym (tensor_value u s h))
    ∙ ap (λ z. slice_put offsets lengths (as_value s ∷ (z ∷ vs))) (sym (tensor_value v t k))
    ∙ on_same (slice_windows offsets lengths vs) (λ ws. only_if (within ws t.shape && fits ws) (made ws))
    (λ ws. if within ws t.shape then only_if (fits ws) (made ws) else None)
    (λ ws. apart (within ws t.shape) (fits ws) (made ws))
    ∙ by_box offsets lengths vs t.shape (λ ws. only_if (fits ws) (made ws))
    ∙ on_same (slice_spans offsets lengths vs t.shape) (λ ss. only_if (fits (windows_of ss)) (made (windows_of ss)))
    (if_same s t)
    (λ ss. ap (λ ns. only_if (same_width s.width t.width && same_point s.shape ns) (put_over s t ss)) (box_sizes ss))

pub no_part : (offsets lengths : List SliceIndex) (u v : Value) (vs : List Value) → None ≡ tensor_of u
    → slice_put offsets lengths (u ∷ (v ∷ vs)) ≡ None
no_part offsets lengths (Scalar w a) (Scalar w' b) vs h = none_given (slice_windows offsets lengths vs) None refl
no_part offsets lengths (Scalar w a) (Tensor w' sh es) vs h = none_given (slice_windows offsets lengths vs) None refl
no_part offsets lengths (Tensor w sh es) v vs h = cc

pub no_whole : (offsets lengths : List SliceIndex) (u v : Value) (vs : List Value) → None ≡ tensor_of v
    → slice_put offsets lengths (u ∷ (v ∷ vs)) ≡ None
no_whole offsets lengths (Scalar w a) (Scalar w' b) vs h = none_given (slice_windows offsets lengths vs) None refl
no_whole offsets lengths (Tensor w sh es) (Scalar w' b) vs h = none_given (slice_windows offsets lengths vs) None refl
no_whole offsets lengths u (Tensor w sh es) vs h = cc

pub outside : (offsets lengths : List SliceIndex) (u v : Value) (s t : Parts) (vs : List Value) → Some s ≡ tensor_of u
    → Some t ≡ tensor_of v → None ≡ slice_spans offsets lengths vs t.shape
    → slice_put offsets lengths (u ∷ (v ∷ vs)) ≡ None
outside offsets lengths u v s t vs h k b =
    put_is offsets lengths u v s t vs h k
    ∙ ap (λ o. on_some o (if_same s t)) (sym b)

only_none : {B : Type 0} (a b : Bool) (x : B) → (a ≡ false) → only_if (a && b) x ≡ None
only_none true b x h = cc
only_none false b x h = refl

pub widths_differ : (offsets lengths : List SliceIndex) (u v : Value) (s t : Parts) (vs : List Value) (ss : List Span)
    → Some s ≡ tensor_of u → Some t ≡ tensor_of v → Some ss ≡ slice_spans offsets lengths vs t.shape
    → same_width s.width t.width ≡ false → slice_put offsets lengths (u ∷ (v ∷ vs)) ≡ None
widths_differ offsets lengths u v s t vs ss h k b w =
    put_is offsets lengths u v s t vs h k
    ∙ ap (λ o. on_some o (if_same s t)) (sym b)
    ∙ only_none (same_width s.width t.width) (same_point s.shape (span_sizes ss)) (put_over s t ss) w

pub box_differs : (offsets lengths : List SliceIndex) (u v : Value) (s t : Parts) (vs : List Value) (ss : List Span)
    → Some s ≡ tensor_of u → Some t ≡ tensor_of v → Some ss ≡ slice_spans offsets lengths vs t.shape
    → same_width s.width t.width ≡ true → same_point s.shape (span_sizes ss) ≡ false
    → slice_put offsets lengths (u ∷ (v ∷ vs)) ≡ None
box_differs offsets lengths u v s t vs ss h k b w z =
    put_is offsets lengths u v s t vs h k
    ∙ ap (λ o. on_some o (if_same s t)) (sym b)
    ∙ ap (λ c. only_if (c && same_point s.shape (span_sizes ss)) (put_over s t ss)) w
    ∙ ap (λ c. only_if c (put_over s t ss)) z

pub put_given : (offsets lengths : List SliceIndex) (u v : Value) (s t : Parts) (vs : List Value) (ss : List Span)
    → Some s ≡ tensor_of u → Some t ≡ tensor_of v → Some ss ≡ slice_spans offsets lengths vs t.shape
    → same_width s.width t.width ≡ true → same_point s.shape (span_sizes ss) ≡ true
    → slice_put offsets lengths (u ∷ (v ∷ vs)) ≡ Some (put_over s t ss)
put_given offsets lengths u v s t vs ss h k b w z =
    put_is offsets lengths u v s t vs h k
    ∙ ap (λ o. on_some o (if_same s t)) (sym b)
    ∙ ap (λ c. only_if (c && same_point s.shape (span_sizes ss)) (put_over s t ss)) w
    ∙ ap (λ c. only_if c (put_over s t ss)) z

-- ---- what it answers

either_fits : (w : Width) (b : Bool) (x y : Elem) → FitsWidth w x → FitsWidth w y → FitsWidth w (if b then x else y)
either_fits w true x y h k = h
either_fits w false x y h k = k

put_fits : (s t : Parts) (ss : List Span) → IsValue (as_value s) → IsValue (as_value t) → s.width ≡ t.width
    → Each (FitsWidth t.width)
    (listed t.shape (item_over s t ss))
put_fits s t ss h k e =
    each_mapped t.width (item_over s t ss) (points t.shape)
    (λ p. either_fits t.width (inside (windows_of ss) p)
    (element NoNumber s.shape s.elems (taken_from (windows_of ss) p)) (element NoNumber t.shape t.elems p)
    (subst (λ w. FitsWidth w (element NoNumber s.shape s.elems (taken_from (windows_of ss) p))) e
    (elem_fits s (taken_from (windows_of ss) p) h))
    (elem_fits t p k))

pub put_value : (s t : Parts) (ss : List Span) (shape : List ℕ) (es : List Elem) → IsValue (as_value s)
    → IsValue (as_value t) → s.width ≡ t.width → shape ≡ t.shape
    → es ≡ listed t.shape (item_over s t ss)
    → IsValue (Tensor t.width shape es)
put_value s t ss shape es h k e m q =
    let f = item_over s t ss in
    subst (λ ns. IsValue (Tensor t.width ns es)) (sym m)
    (subst (λ xs. IsValue (Tensor t.width t.shape xs)) (sym q)
    (k.0, (length_listed t.shape f, put_fits s t ss h k e)))

pub put_refused : (n : OpName) (ts : List PayloadType) (s t : Parts) (ss : List Span) (b b' : ℕ) (stop : Stop)
    → IsValue (as_value s) → IsValue (as_value t) → s.width ≡ t.width
    → IsAdmitted n ts t.width t.shape 0 b b' (Err stop)
    → Meets (given_run n ts 0 (Some (put_over s t ss))) b b' (Err stop)
put_refused n ts s t ss b b' stop h k e a =
    let f = item_over s t ss in
    refused_meets n ts t.width t.shape (listed t.shape f) 0 b b' (Some (put_over s t ss)) stop (length_listed t.shape f)
    (put_fits s t ss h k e) refl a

pub put_gives : (n : OpName) (ts : List PayloadType) (s t : Parts) (ss : List Span) (shape : List ℕ) (es : List Elem)
    (b b' count : ℕ) (v : Value)
    → IsValue (as_value s) → IsValue (as_value t) → s.width ≡ t.width → shape ≡ t.shape
    → es ≡ listed t.shape (item_over s t ss)
    → IsAdmitted n ts t.width t.shape 0 b b' (Ok count) → v ≡ Tensor t.width shape es
    → Meets (given_run n ts 0 (Some (put_over s t ss))) b b' (Ok (v ∷ []))
put_gives n ts s t ss shape es b b' count v h k e m q a r =
    let f = item_over s t ss in
    admitted_meets n ts t.width t.shape (listed t.shape f) 0 b b' count (Some (put_over s t ss)) v
    (length_listed t.shape f) (put_fits s t ss h k e) refl a
    (r ∙ ap (λ ns. Tensor t.width ns es) m ∙ ap (Tensor t.width t.shape) q)
