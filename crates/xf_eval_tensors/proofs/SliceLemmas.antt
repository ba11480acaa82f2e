-- Slices by boxes are those by windows.
use Rattle.std.proofs.Common.{◌≡◌, ℕ, ◌+◌, ◌-◌, List, [], ◌∷◌, length, Bool, true, false, Option, Some, None, Ok, Err}
use Rattle.std.proofs.Common.{refl, sym, ap, ◌∙◌, arith, subst, pos, negsuc, take, drop}
use Rattle.std.specs.Prelude.{map, nat_le, ◌&&◌, if◌then◌else◌}
use Rattle.xf_type.specs.declared.payload_type.PayloadType.{PayloadType}
use Rattle.xf_type.specs.declared.payload_type.Width.{Width}
use Rattle.xf_type.specs.declared.payload_type.Elem.{Elem}
use Rattle.xf_type.specs.declared.payload_type.Elem.TheVariants.{NoNumber}
use Rattle.xf_type.specs.Integers.{FitsWidth}
use Rattle.xf_ir.specs.declared.kind.SliceIndex.{SliceIndex}
use Rattle.xf_ir.specs.declared.kind.SliceIndex.TheVariants as index
use Rattle.xf_ir.specs.declared.name.OpName.{OpName}
use Rattle.xf_ir.specs.Lists.{Each, every}
use Rattle.xf_ir.specs.RuleSlices.{is_at_least_zero}
use Rattle.xf_ir.specs.RuleTypes.{open_count}
use Rattle.xf_points.specs.Points.{Point, points, product, listed, element, place}
use Rattle.xf_points.specs.Windows.{Window, sizes, placed, cut}
use Rattle.xf_points.proofs.Tensors.{length_listed}
use Rattle.xf_sem.specs.declared.value.Value.{Value}
use Rattle.xf_sem.specs.declared.value.Value.TheVariants.{Scalar, Tensor}
use Rattle.xf_sem.specs.Tensors.{on_some, only_if, before_all, indices_of, settled, paired, within, slice_windows}
use Rattle.xf_sem.specs.Tensors.{slice_given}
use Rattle.xf_sem.specs.Values.{IsValue}
use Rattle.xf_sem.proofs.Products.{get_fits}
use Rattle.xf_eval_values.specs.declared.held.Tensor.{Tensor as Parts}
use Rattle.xf_eval_values.specs.declared.stop.Stop.{Stop}
use Rattle.xf_eval_values.specs.Held.{tensor_of, as_value}
use Rattle.xf_eval_values.specs.Given.{given_run, IsAdmitted, fits_one}
use Rattle.xf_eval_values.specs.Meets.{Meets}
use Rattle.xf_eval_values.proofs.GivenLemmas.{refused_meets, admitted_meets}
use Rattle.xf_eval_points.specs.declared.span.Span.{Span}
use Rattle.xf_eval_points.specs.Spans.{window_of, spread}
use Rattle.xf_eval_points.proofs.OntoLemmas.{spread_is}
use Rattle.xf_eval_tensors.specs.Slices.{settled_in, spans_in, slice_spans, windows_of, span_sizes, elems_in}
use Rattle.xf_eval_tensors.specs.Slices.{cut_out}
use Rattle.xf_eval_tensors.proofs.ElementLemmas.{tensor_value}
use Rattle.xf_eval_tensors.proofs.MadeLemmas.{small_sizes}

-- ---- offsets and sizes

before_if : (b : Bool) (n : ℕ) (o : Option (List ℕ))
    → before_all n (if b then o else None) ≡ (if b then before_all n o else None)
before_if true n o = refl
before_if false n o = refl

none_either : (b : Bool) (o : Option (List ℕ)) → o ≡ None → o ≡ (if b then o else None)
none_either true o h = refl
none_either false o h = h

pub settled_is : (xs : List SliceIndex) (ns : List ℕ) → settled_in xs ns ≡ settled xs ns
settled_is [] [] = refl
settled_is [] (n ∷ ns) = refl
settled_is (index.Fixed (pos k) ∷ xs) ns =
    ap (before_all k) (settled_is xs ns) ∙ before_if (every is_at_least_zero xs) k _
settled_is (index.Fixed (negsuc k) ∷ xs) ns = refl
settled_is (index.Dynamic ∷ xs) [] = none_either (every is_at_least_zero xs) None refl
settled_is (index.Dynamic ∷ xs) (n ∷ ns) =
    ap (before_all n) (settled_is xs ns) ∙ before_if (every is_at_least_zero xs) n _

-- ---- windows

plus_less : (o z : ℕ) → z ≡ o + z - o
plus_less o z = omega arith

window_back : (o z : ℕ) → record { offset = o; size = z } ≡ window_of (record { from = o; to = o + z })
window_back o z = ap (λ n. record { offset = o; size = n }) (plus_less o z)

before_first : {B : Type 0} (w : Window) (o : Option (List Window)) (b : Bool) (es : List ℕ)
    (g : List Window → Option B) (test : List Window → Bool)
    → ((ws : List Window) → test (w ∷ ws) ≡ (b && within ws es))
    → on_some (before_all w o) (λ ws. if test ws then g ws else None)
    ≡ on_some o (λ ws. if b && within ws es then g (w ∷ ws) else None)
before_first w None b es g test h = refl
before_first w (Some ws) b es g test h = ap (λ x. if x then g (w ∷ ws) else None) (h ws)

one_more : {B : Type 0} (b : Bool) (w : Window) (s : Span) (o : Option (List Window)) (q : Option (List Span))
    (es : List ℕ) (g : List Window → Option B) → w ≡ window_of s
    → on_some o (λ ws. if within ws es then g (w ∷ ws) else None) ≡ on_some q (λ ss. g (w ∷ windows_of ss))
    → on_some o (λ ws. if b && within ws es then g (w ∷ ws) else None)
    ≡ on_some (on_some (only_if b s) (λ s. before_all s q)) (λ ss. g (windows_of ss))
one_more true w s o None es g e h = h
one_more true w s o (Some ss) es g e h = h ∙ ap (λ v. g (v ∷ windows_of ss)) e
one_more false w s None q es g e h = refl
one_more false w s (Some ws) q es g e h = refl

pub in_box : {B : Type 0} (os zs es : List ℕ) (g : List Window → Option B)
    → on_some (paired os zs) (λ ws. if within ws es then g ws else None)
    ≡ on_some (spans_in os zs es) (λ ss. g (windows_of ss))
in_box [] [] [] g = refl
in_box [] [] (n ∷ es) g = refl
in_box [] (z ∷ zs) es g = refl
in_box (o ∷ os) [] es g = refl
in_box (o ∷ os) (z ∷ zs) [] g = by (paired os zs)
  where
    by : (q : Option (List Window))
        → on_some (before_all (record { offset = o; size = z }) q) (λ ws. if within ws [] then g ws else None) ≡ None
    by None = refl
    by (Some ws) = refl
in_box (o ∷ os) (z ∷ zs) (n ∷ es) g =
    let w : Window = record { offset = o; size = z } in
    before_first w (paired os zs) (nat_le (o + z) n) es g (λ ws. within ws (n ∷ es)) (λ ws. refl)
    ∙ one_more (nat_le (o + z) n) w (record { from = o; to = o + z }) (paired os zs) (spans_in os zs es) es g
    (window_back o z) (in_box os zs es (λ ws. g (w ∷ ws)))

pub by_box : {B : Type 0} (offsets lengths : List SliceIndex) (vs : List Value) (es : List ℕ)
    (g : List Window → Option B)
    → on_some (slice_windows offsets lengths vs) (λ ws. if within ws es then g ws else None)
    ≡ on_some (slice_spans offsets lengths vs es) (λ ss. g (windows_of ss))
by_box offsets lengths vs es g = by (indices_of vs)
  where
    sized : (os : List ℕ) (p q : Option (List ℕ)) → q ≡ p
        → on_some (on_some p (λ zs. paired os zs)) (λ ws. if within ws es then g ws else None)
        ≡ on_some (on_some q (λ zs. spans_in os zs es)) (λ ss. g (windows_of ss))
    sized os None q e =
        ap (λ r. on_some (on_some r (λ zs. spans_in os zs es)) (λ ss. g (windows_of ss))) (sym e)
    sized os (Some zs) q e =
        in_box os zs es g ∙ ap (λ r. on_some (on_some r (λ zs. spans_in os zs es)) (λ ss. g (windows_of ss))) (sym e)

    placed_by : (a b p q : Option (List ℕ)) → b ≡ a → q ≡ p
        → on_some (on_some a (λ os. on_some p (λ zs. paired os zs))) (λ ws. if within ws es then g ws else None)
        ≡ on_some (on_some b (λ os. on_some q (λ zs. spans_in os zs es))) (λ ss. g (windows_of ss))
    placed_by None b p q d e =
        ap (λ r. on_some (on_some r (λ os. on_some q (λ zs. spans_in os zs es))) (λ ss. g (windows_of ss))) (sym d)
    placed_by (Some os) b p q d e =
        sized os p q e
        ∙ ap (λ r. on_some (on_some r (λ os. on_some q (λ zs. spans_in os zs es))) (λ ss. g (windows_of ss))) (sym d)

    by : (o : Option (List ℕ))
        → on_some (on_some o (λ ns. on_some (settled offsets (take (open_count offsets) ns)) (λ os.
        on_some (settled lengths (drop (open_count offsets) ns)) (λ zs. paired os zs))))
        (λ ws. if within ws es then g ws else None)
        ≡ on_some (on_some o (λ ns. on_some (settled_in offsets (take (open_count offsets) ns)) (λ os.
        on_some (settled_in lengths (drop (open_count offsets) ns)) (λ zs. spans_in os zs es))))
        (λ ss. g (windows_of ss))
    by None = refl
    by (Some ns) =
        placed_by (settled offsets (take (open_count offsets) ns)) (settled_in offsets (take (open_count offsets) ns))
        (settled lengths (drop (open_count offsets) ns)) (settled_in lengths (drop (open_count offsets) ns))
        (settled_is offsets (take (open_count offsets) ns)) (settled_is lengths (drop (open_count offsets) ns))

pub on_same : {A B : Type 0} (o : Option A) (g h : A → Option B) → ((x : A) → g x ≡ h x) → on_some o g ≡ on_some o h
on_same None g h e = refl
on_same (Some x) g h e = e x

-- ---- the elements of a box

map_map : {A B C : Type 0} (f : A → B) (g : B → C) (xs : List A) → map (λ x. g (f x)) xs ≡ map g (map f xs)
map_map f g [] = refl
map_map f g (x ∷ xs) = ap (λ ys. g (f x) ∷ ys) (map_map f g xs)

pub box_sizes : (ss : List Span) → sizes (windows_of ss) ≡ span_sizes ss
box_sizes [] = refl
box_sizes (s ∷ ss) = ap (λ ns. (s.to - s.from) ∷ ns) (box_sizes ss)

pub box_elems : (ss : List Span) (f : Point → Elem)
    → listed (sizes (windows_of ss)) (cut (windows_of ss) f) ≡ map f (spread ss)
box_elems ss f =
    map_map (placed (windows_of ss)) f (points (sizes (windows_of ss))) ∙ ap (map f) (sym (spread_is ss))

pub cut_is : (offsets lengths : List SliceIndex) (v : Value) (t : Parts) (vs : List Value) → Some t ≡ tensor_of v
    → slice_given offsets lengths (v ∷ vs)
    ≡ on_some (slice_spans offsets lengths vs t.shape) (λ ss. Some (cut_out t ss))
cut_is offsets lengths v t vs h =
    let f = element NoNumber t.shape t.elems in
    ap (λ x. slice_given offsets lengths (x ∷ vs)) (sym (tensor_value v t h))
    ∙ by_box offsets lengths vs t.shape (λ ws. Some (Tensor t.width (sizes ws) (listed (sizes ws) (cut ws f))))
    ∙ on_same (slice_spans offsets lengths vs t.shape)
    (λ ss. Some (Tensor t.width (sizes (windows_of ss)) (listed (sizes (windows_of ss)) (cut (windows_of ss) f))))
    (λ ss. Some (cut_out t ss))
    (λ ss. ap (λ xs. Some (Tensor t.width (sizes (windows_of ss)) xs)) (box_elems ss f)
    ∙ ap (λ ns. Some (Tensor t.width ns (map f (spread ss)))) (box_sizes ss))

pub none_given : {A B : Type 0} (o : Option A) (n : Option B) → n ≡ None → on_some o (λ x. n) ≡ None
none_given None n h = refl
none_given (Some x) n h = h

pub no_source : (offsets lengths : List SliceIndex) (v : Value) (vs : List Value) → None ≡ tensor_of v
    → slice_given offsets lengths (v ∷ vs) ≡ None
no_source offsets lengths (Scalar w a) vs h = none_given (slice_windows offsets lengths vs) None refl
no_source offsets lengths (Tensor w sh es) vs h = cc

-- ---- what a slice answers

pub each_mapped : (w : Width) (f : Point → Elem) (ps : List Point) → ((p : Point) → FitsWidth w (f p))
    → Each (FitsWidth w) (map f ps)
each_mapped w f [] h = tt
each_mapped w f (p ∷ ps) h = (h p, each_mapped w f ps h)

pub elem_fits : (t : Parts) (p : Point) → IsValue (as_value t) → FitsWidth t.width (element NoNumber t.shape t.elems p)
elem_fits t p h = get_fits t.width t.elems (place t.shape p) h.1.1

cut_length : (t : Parts) (ss : List Span)
    → length (elems_in t ss) ≡ product (span_sizes ss)
cut_length t ss =
    let f = element NoNumber t.shape t.elems in
    ap length (sym (box_elems ss f)) ∙ length_listed (sizes (windows_of ss)) (cut (windows_of ss) f)
    ∙ ap product (box_sizes ss)

pub cut_value : (t : Parts) (ss : List Span) (ts : List PayloadType) (shape : List ℕ) (es : List Elem)
    → IsValue (as_value t) → fits_one t.width shape ts ≡ true → shape ≡ span_sizes ss
    → es ≡ elems_in t ss → IsValue (Tensor t.width shape es)
cut_value t ss ts shape es h f e q = (
  small_sizes t.width shape ts f,
  (
    ap length q ∙ cut_length t ss ∙ ap product (sym e),
    subst (Each (FitsWidth t.width)) (sym q) (each_mapped t.width _ (spread ss) (λ p. elem_fits t p h)),
  ),
)

pub cut_refused : (n : OpName) (ts : List PayloadType) (t : Parts) (ss : List Span) (shape : List ℕ) (b b' : ℕ)
    (stop : Stop)
    → IsValue (as_value t) → shape ≡ span_sizes ss → IsAdmitted n ts t.width shape 0 b b' (Err stop)
    → Meets (given_run n ts 0 (Some (cut_out t ss))) b b' (Err stop)
cut_refused n ts t ss shape b b' stop h e a =
    refused_meets n ts t.width (span_sizes ss) (elems_in t ss) 0 b b' (Some (cut_out t ss)) stop (cut_length t ss)
    (each_mapped t.width _ (spread ss) (λ p. elem_fits t p h)) refl
    (subst (λ s. IsAdmitted n ts t.width s 0 b b' (Err stop)) e a)

pub cut_gives : (n : OpName) (ts : List PayloadType) (t : Parts) (ss : List Span) (shape : List ℕ) (es : List Elem)
    (b b' count : ℕ) (v : Value)
    → IsValue (as_value t) → shape ≡ span_sizes ss → es ≡ elems_in t ss
    → IsAdmitted n ts t.width shape 0 b b' (Ok count) → v ≡ Tensor t.width shape es
    → Meets (given_run n ts 0 (Some (cut_out t ss))) b b' (Ok (v ∷ []))
cut_gives n ts t ss shape es b b' count v h e q a r =
    admitted_meets n ts t.width (span_sizes ss) (elems_in t ss) 0 b b' count (Some (cut_out t ss)) v (cut_length t ss)
    (each_mapped t.width _ (spread ss) (λ p. elem_fits t p h)) refl
    (subst (λ s. IsAdmitted n ts t.width s 0 b b' (Ok count)) e a)
    (r ∙ ap (λ s. Tensor t.width s es) e ∙ ap (Tensor t.width (span_sizes ss)) q)
