-- What the operations of tensor give fits its types.
use Rattle.std.proofs.Common.{◌≡◌, ℕ, zero, suc, List, [], ◌∷◌, Option, Some, None, Bool, true, false, refl, sym, ap}
use Rattle.std.proofs.Common.{subst, arith}
use Rattle.std.proofs.lemmas.Bool.{and_parts, ltb-true, eqb-true}
use Rattle.std.specs.Prelude.{◌^◌, ◌<◌, ◌+◌, map, length, take, drop, slice_get, not, ◌==◌, ◌&&◌, nat_lt}
use Rattle.std.specs.Prelude.{nat_le}
use Rattle.std.specs.Prelude.{if◌then◌else◌, ℤ, pos, negsuc}
use Rattle.xf_type.specs.declared.payload_type.PayloadType.{PayloadType}
use Rattle.xf_type.specs.declared.payload_type.PayloadType.TheVariants as type_of
use Rattle.xf_type.specs.declared.payload_type.Shape.{Shape}
use Rattle.xf_type.specs.declared.payload_type.Dim.{Dim}
use Rattle.xf_type.specs.declared.payload_type.Dim.TheVariants.{Fixed, Dynamic}
use Rattle.xf_type.specs.declared.payload_type.Width.{Width}
use Rattle.xf_type.specs.declared.payload_type.Width.TheVariants.{Index}
use Rattle.xf_type.specs.declared.payload_type.Elem.{Elem}
use Rattle.xf_type.specs.declared.payload_type.Elem.TheVariants.{Num, NoNumber}
use Rattle.xf_type.specs.Equal.{same_width, same_types}
use Rattle.xf_type.specs.Integers.{bits_of, FitsWidth}
use Rattle.xf_type.proofs.EqualTypes.{width_is, types_are}
use Rattle.xf_ir.specs.declared.kind.SliceIndex.{SliceIndex}
use Rattle.xf_ir.specs.declared.kind.SliceIndex.TheVariants as index
use Rattle.xf_ir.specs.Lists as lists
use Rattle.xf_ir.specs.Lists.{Each, is_empty, behind_first, every}
use Rattle.xf_ir.specs.Types.{have_types, are_indices, first_type, is_tensor_with, is_dynamic}
use Rattle.xf_ir.specs.RuleAttributes.{fits_bits, dim_fits, numbers_of, element_count, dense_fits}
use Rattle.xf_ir.specs.RuleSlices.{is_at_least_zero, is_number, sizes_fit, slice_between, first_result}
use Rattle.xf_ir.specs.RuleTypes.{extract_row, insert_row, open_count, slice_indices}
use Rattle.xf_ir.specs.RuleTypes.{is_one_tensor, insert_slice_row}
use Rattle.xf_points.specs.Points.{Point, points, element, same_point}
use Rattle.xf_points.specs.Windows.{Window, sizes, cut, pasted, inside, taken_from}
use Rattle.xf_points.proofs.Tensors.{length_listed}
use Rattle.xf_sem.specs.declared.value.Value.{Value}
use Rattle.xf_sem.specs.declared.value.Value.TheVariants.{Scalar, Tensor}
use Rattle.xf_sem.specs.Values.{IsValue, FitsDims, FitsType, FitTypes, fits_dims}
use Rattle.xf_sem.specs.Tensors.{tensor, on_some, only_if, before_all, index_of, indices_of, is_in, filled, known_size}
use Rattle.xf_sem.specs.Tensors.{shape_with, dense_items, dense_given, empty_given, dim_given, extracted, inserted}
use Rattle.xf_sem.specs.Tensors.{cast_given, natural, known_index, settled, paired, slice_windows, within}
use Rattle.xf_sem.specs.Tensors.{slice_given, slice_put}
use Rattle.xf_sem.specs.Fitting.{FitOperands}
use Rattle.xf_sem.proofs.Fits.{every_says, fits_dims_says}
use Rattle.xf_sem.proofs.Products.{get_fits}
use Rattle.xf_sem.proofs.FittingRows.{scalar_fits}

-- ---- what may be there

some_of : {A B : Type 0} (o : Option A) (g : A → Option B) (y : B) → on_some o g ≡ Some y
    → (x : A) × ((o ≡ Some x) × (g x ≡ Some y))
some_of None g y h = cc
some_of (Some x) g y h = (x, (refl, h))

only_of : {A : Type 0} (b : Bool) (x y : A) → only_if b x ≡ Some y → (b ≡ true) × (x ≡ y)
only_of true x y h = (refl, cc)
only_of false x y h = cc

before_of : {A : Type 0} (x : A) (o : Option (List A)) (ys : List A) → before_all x o ≡ Some ys
    → (xs : List A) × ((o ≡ Some xs) × (x ∷ xs ≡ ys))
before_of x None ys h = cc
before_of x (Some xs) ys h = (xs, (refl, cc))

-- ---- shapes

filled_dims : (ds : List Dim) (ns shape : List ℕ) → filled (map known_size ds) ns ≡ Some shape → FitsDims shape ds
filled_dims [] [] shape h = let q : [] ≡ shape = cc in subst (λ s. FitsDims s []) q tt
filled_dims [] (n ∷ ns) shape h = cc
filled_dims (Fixed e ∷ ds) ns shape h =
    let b = before_of e (filled (map known_size ds) ns) shape h in
    subst (λ s. FitsDims s (Fixed e ∷ ds)) b.1.1 (refl, filled_dims ds ns b.0 b.1.0)
filled_dims (Dynamic ∷ ds) [] shape h = cc
filled_dims (Dynamic ∷ ds) (n ∷ ns) shape h =
    let b = before_of n (filled (map known_size ds) ns) shape h in
    subst (λ s. FitsDims s (Dynamic ∷ ds)) b.1.1 (tt, filled_dims ds ns b.0 b.1.0)

abbrev pub IsSize : ℕ → Type 0
IsSize size = size < 2 ^ 31

-- fixed sizes in range
fixed_sizes : (ds : List Dim) (shape : List ℕ) → FitsDims shape ds → lists.every (λ d. not (is_dynamic d)) ds ≡ true
    → lists.every dim_fits ds ≡ true → Each IsSize shape
fixed_sizes [] [] f h k = tt
fixed_sizes [] (n ∷ shape) f h k = elim f [ ]
fixed_sizes (d ∷ ds) [] f h k = elim f [ ]
fixed_sizes (Fixed e ∷ ds) (n ∷ shape) f h k =
    let p = and_parts (nat_lt e (2 ^ 31)) (lists.every dim_fits ds) k in
    (subst IsSize (sym f.0) (ltb-true e (2 ^ 31) p.0), fixed_sizes ds shape f.1 h p.1)
fixed_sizes (Dynamic ∷ ds) (n ∷ shape) f h k = cc

-- a tensor made of elements of its width
pub tensor_fits : (w : Width) (shape : List ℕ) (g : Point → Elem) (s : Shape) → Each IsSize shape
    → ((p : Point) → FitsWidth w (g p)) → w ≡ s.elem → FitsDims shape s.dims
    → FitTypes (tensor w shape g ∷ []) (type_of.Tensor s ∷ [])
tensor_fits w shape g s h k e d = (((h, (length_listed shape g, each_made (points shape))), (e, d)), tt)
  where
    each_made : (ps : List Point) → Each (FitsWidth w) (map g ps)
    each_made [] = tt
    each_made (p ∷ ps) = (k p, each_made ps)

-- ---- constants and sizes

numbers_fit : (w : Width) (ns : List ℕ) → lists.every (fits_bits w) ns ≡ true
    → Each (FitsWidth w) (map (λ n. Num n) ns)
numbers_fit w [] h = tt
numbers_fit w (n ∷ ns) h =
    let p = and_parts (fits_bits w n) (lists.every (fits_bits w) ns) h in
    (ltb-true n (2 ^ bits_of w) p.0, numbers_fit w ns p.1)

dense_item_fits : (w : Width) (shape ns : List ℕ) (p : Point) → lists.every (fits_bits w) ns ≡ true
    → FitsWidth w (dense_items shape ns p)
dense_item_fits w shape (n ∷ []) p h = ltb-true n (2 ^ bits_of w) (and_parts (fits_bits w n) true h).0
dense_item_fits w shape [] p h = tt
dense_item_fits w shape (n ∷ (m ∷ ns)) p h =
    get_fits w (map (λ n. Num n) (n ∷ (m ∷ ns))) _ (numbers_fit w (n ∷ (m ∷ ns)) h)

pub dense_row : (s : Shape) (ns : List ℕ) (v : Value) → dense_fits s ns ≡ true → lists.every dim_fits s.dims ≡ true
    → dense_given s ns ≡ Some v → FitTypes (v ∷ []) (type_of.Tensor s ∷ [])
dense_row s ns v h k g =
    let fixed = and_parts (lists.every (λ d. not (is_dynamic d)) s.dims) _ h in
    let small = and_parts (nat_le (element_count s.dims) 1048576)
    (numbers_of (element_count s.dims) ns && lists.every (fits_bits s.elem) ns) fixed.1 in
    let bits = and_parts (numbers_of (element_count s.dims) ns) (lists.every (fits_bits s.elem) ns) small.1 in
    let a = some_of (shape_with s.dims []) _ v g in
    let dims = filled_dims s.dims [] a.0 a.1.0 in
    let q : tensor s.elem a.0 (dense_items a.0 ns) ≡ v = (let e = a.1.1 in cc) in
    subst (λ z. FitTypes (z ∷ []) (type_of.Tensor s ∷ [])) q
    (tensor_fits s.elem a.0 (dense_items a.0 ns) s (fixed_sizes s.dims a.0 dims fixed.0 k)
    (λ p. dense_item_fits s.elem a.0 ns p bits.1) refl dims)

pub empty_fits : (ts : List PayloadType) (vs : List Value) (v : Value) → empty_given ts vs ≡ Some v
    → FitTypes (v ∷ []) ts
empty_fits (type_of.Tensor s ∷ []) vs v h =
    let a = some_of (indices_of vs) _ v h in
    let b = some_of (shape_with s.dims a.0) _ v a.1.1 in
    let c = only_of (every (λ size. nat_lt size (2 ^ 31)) b.0) (tensor s.elem b.0 (λ p. NoNumber)) v b.1.1 in
    subst (λ z. FitTypes (z ∷ []) (type_of.Tensor s ∷ [])) c.1
    (tensor_fits s.elem b.0 (λ p. NoNumber) s
    (every_says (λ size. nat_lt size (2 ^ 31)) IsSize b.0 (λ size. ltb-true size (2 ^ 31)) c.0) (λ p. tt) refl
    (filled_dims s.dims a.0 b.0 b.1.0))
empty_fits _ vs v h = cc

got_each : {A : Type 0} (P : A → Type 0) (xs : List A) (i : ℕ) (x : A) → Each P xs → slice_get xs i ≡ Some x → P x
got_each P [] i x h e = cc
got_each P (y ∷ ys) zero x h e = let q : y ≡ x = cc in subst P q h.0
got_each P (y ∷ ys) (suc i) x h e = got_each P ys i x h.1 e

size_fits_index : (n : ℕ) → n < 2 ^ 31 → n < 2 ^ bits_of Index
size_fits_index n h = omega (arith, h)

pub dim_fits_row : (ts : List PayloadType) (vs : List Value) (v : Value) → ts ≡ type_of.Scalar Index ∷ []
    → Each IsValue vs → dim_given vs ≡ Some v → FitTypes (v ∷ []) ts
dim_fits_row ts (Tensor w shape elems ∷ (d ∷ [])) v e f h =
    let a = some_of (index_of d) _ v h in
    let b = some_of (slice_get shape a.0) _ v a.1.1 in
    let q : Scalar Index (Num b.0) ≡ v = (let z = b.1.1 in cc) in
    subst (λ z. FitTypes (z ∷ []) ts) q
    (scalar_fits ts Index (Num b.0) e (size_fits_index b.0 (got_each IsSize shape a.0 b.0 f.0.0 b.1.0)))
dim_fits_row ts _ v e f h = cc

-- ---- elements

pub extracted_fits : (vs : List Value) (os : List (Option PayloadType)) (ts : List PayloadType) (v : Value)
    → FitOperands vs os → extract_row os ts ≡ true → extracted vs ≡ Some v → FitTypes (v ∷ []) ts
extracted_fits (Tensor w shape elems ∷ vs) (Some (type_of.Tensor s) ∷ os) ts v f r h =
    let p = and_parts (are_indices (length s.dims) os) (same_types ts (type_of.Scalar s.elem ∷ [])) r in
    let a = some_of (indices_of vs) _ v h in
    let b = only_of (is_in a.0 shape) (Scalar w (element NoNumber shape elems a.0)) v a.1.1 in
    let e : ts ≡ type_of.Scalar w ∷ [] =
    subst (λ u. ts ≡ type_of.Scalar u ∷ []) (sym f.0.1.0) (types_are ts (type_of.Scalar s.elem ∷ []) p.1) in
    subst (λ z. FitTypes (z ∷ []) ts) b.1 (scalar_fits ts w _ e (get_fits w elems _ f.0.0.1.1))
extracted_fits (Tensor w shape elems ∷ vs) (Some (type_of.Scalar u) ∷ os) ts v f r h = elim f.0.1 [ ]
extracted_fits (Tensor w shape elems ∷ vs) (None ∷ os) ts v f r h = elim f [ ]
extracted_fits (Tensor w shape elems ∷ vs) [] ts v f r h = elim f [ ]
extracted_fits [] os ts v f r h = cc
extracted_fits (Scalar w a ∷ vs) os ts v f r h = cc

-- the type of a target is the result's
pub target_fits : (w : Width) (shape : List ℕ) (elems : List Elem) (t : PayloadType) (ts : List PayloadType)
    (g : Point → Elem)
    → IsValue (Tensor w shape elems) → FitsType (Tensor w shape elems) t → ts ≡ t ∷ []
    → ((p : Point) → FitsWidth w (g p)) → FitTypes (tensor w shape g ∷ []) ts
target_fits w shape elems (type_of.Tensor s) ts g i f e k =
    subst (FitTypes (tensor w shape g ∷ [])) (sym e) (tensor_fits w shape g s i.0 k f.0 f.1)
target_fits w shape elems (type_of.Scalar u) ts g i f e k = elim f [ ]

either_fits : (w : Width) (b : Bool) (x y : Elem) → FitsWidth w x → FitsWidth w y → FitsWidth w (if b then x else y)
either_fits w true x y h k = h
either_fits w false x y h k = k

pub inserted_fits : (vs : List Value) (os : List (Option PayloadType)) (ts : List PayloadType) (v : Value)
    → FitOperands vs os → insert_row os ts ≡ true → inserted vs ≡ Some v → FitTypes (v ∷ []) ts
inserted_fits (Scalar part a ∷ (Tensor w shape elems ∷ vs)) (Some t ∷ (Some (type_of.Tensor s) ∷ os)) ts v f r h =
    let p = and_parts _ (are_indices (length s.dims) os) r in
    let q = and_parts (have_types (Some t ∷ (Some (type_of.Tensor s) ∷ []))
    (type_of.Scalar s.elem ∷ (type_of.Tensor s ∷ []))) (same_types ts (type_of.Tensor s ∷ [])) p.0 in
    let b = some_of (indices_of vs) _ v h in
    let c = only_of (same_width part w && is_in b.0 shape)
    (tensor w shape (λ j. if same_point j b.0 then a else element
    NoNumber shape elems j)) v b.1.1 in
    let u = width_is part w (and_parts (same_width part w) (is_in b.0 shape) c.0).0 in
    subst (λ z. FitTypes (z ∷ []) ts) c.1
    (target_fits w shape elems (type_of.Tensor s) ts _ f.1.0.0 f.1.0.1 (types_are ts (type_of.Tensor s ∷ []) q.1)
    (λ j. either_fits w (same_point j b.0) a (element NoNumber shape elems j) (subst (λ z. FitsWidth z a) u f.0.0)
    (get_fits w elems _ f.1.0.0.1.1)))
inserted_fits (Scalar part a ∷ (Tensor w shape elems ∷ vs)) (Some t ∷ (Some (type_of.Scalar s) ∷ os)) ts v f r h =
    elim f.1.0.1 [ ]
inserted_fits (Scalar part a ∷ (Tensor w shape elems ∷ vs)) (Some t ∷ (None ∷ os)) ts v f r h = elim f.1 [ ]
inserted_fits (Scalar part a ∷ (Tensor w shape elems ∷ vs)) (Some t ∷ []) ts v f r h = elim f.1 [ ]
inserted_fits (Scalar part a ∷ (Tensor w shape elems ∷ vs)) (None ∷ os) ts v f r h = elim f [ ]
inserted_fits (Scalar part a ∷ (Tensor w shape elems ∷ vs)) [] ts v f r h = elim f [ ]
inserted_fits (Scalar part a ∷ (Scalar w b ∷ vs)) os ts v f r h = cc
inserted_fits (Scalar part a ∷ []) os ts v f r h = cc
inserted_fits (Tensor w shape elems ∷ vs) os ts v f r h = cc
inserted_fits [] os ts v f r h = cc

pub cast_fits : (ts : List PayloadType) (vs : List Value) (v : Value) → Each IsValue vs → cast_given ts vs ≡ Some v
    → FitTypes (v ∷ []) ts
cast_fits (type_of.Tensor s ∷ []) (Tensor w shape elems ∷ []) v f h =
    let c = only_of (same_width w s.elem && fits_dims shape s.dims) (Tensor w shape elems) v h in
    let p = and_parts (same_width w s.elem) (fits_dims shape s.dims) c.0 in
    subst (λ z. FitTypes (z ∷ []) (type_of.Tensor s ∷ [])) c.1
    ((f.0, (width_is w s.elem p.0, fits_dims_says shape s.dims p.1)), tt)
cast_fits _ _ v f h = cc

-- ---- slices

natural_is : (z : ℤ) (extent : ℕ) → is_number z extent ≡ true → natural z ≡ extent
natural_is (pos n) extent h = eqb-true n extent h
natural_is (negsuc n) extent h = cc

filled_sizes : (xs : List SliceIndex) (ds : List Dim) (ns zs : List ℕ) → filled (map known_index xs) ns ≡ Some zs
    → sizes_fit xs ds ≡ true → FitsDims zs ds
filled_sizes [] [] [] zs h k = let q : [] ≡ zs = cc in subst (λ s. FitsDims s []) q tt
filled_sizes [] [] (n ∷ ns) zs h k = cc
filled_sizes [] (d ∷ ds) ns zs h k = cc
filled_sizes (x ∷ xs) [] ns zs h k = cc
filled_sizes (index.Fixed z ∷ xs) (Fixed e ∷ ds) ns zs h k =
    let p = and_parts (is_number z e) (sizes_fit xs ds) k in
    let b = before_of (natural z) (filled (map known_index xs) ns) zs h in
    subst (λ s. FitsDims s (Fixed e ∷ ds)) b.1.1 (natural_is z e p.0, filled_sizes xs ds ns b.0 b.1.0 p.1)
filled_sizes (index.Fixed z ∷ xs) (Dynamic ∷ ds) ns zs h k = cc
filled_sizes (index.Dynamic ∷ xs) (Fixed e ∷ ds) ns zs h k = cc
filled_sizes (index.Dynamic ∷ xs) (Dynamic ∷ ds) [] zs h k = cc
filled_sizes (index.Dynamic ∷ xs) (Dynamic ∷ ds) (n ∷ ns) zs h k =
    let b = before_of n (filled (map known_index xs) ns) zs h in
    subst (λ s. FitsDims s (Dynamic ∷ ds)) b.1.1 (tt, filled_sizes xs ds ns b.0 b.1.0 k)

if_there : {A : Type 0} (b : Bool) (o : Option A) (x : A) → (if b then o else None) ≡ Some x → o ≡ Some x
if_there true o x h = h
if_there false o x h = cc

paired_sizes : (os zs : List ℕ) (ws : List Window) → paired os zs ≡ Some ws → zs ≡ sizes ws
paired_sizes [] [] ws h = let q : [] ≡ ws = cc in ap sizes q
paired_sizes [] (z ∷ zs) ws h = cc
paired_sizes (o ∷ os) [] ws h = cc
paired_sizes (o ∷ os) (z ∷ zs) ws h =
    let b = before_of (record { offset = o; size = z }) (paired os zs) ws h in
    let e = paired_sizes os zs b.0 b.1.0 in
    subst (λ us. z ∷ zs ≡ sizes us) b.1.1 (ap (λ us. z ∷ us) e)

windows_fit : (offsets lengths : List SliceIndex) (vs : List Value) (ws : List Window) (ds : List Dim)
    → slice_windows offsets lengths vs ≡ Some ws → sizes_fit lengths ds ≡ true → FitsDims (sizes ws) ds
windows_fit offsets lengths vs ws ds h k =
    let a = some_of (indices_of vs) _ ws h in
    let b = some_of (settled offsets (take (open_count offsets) a.0)) _ ws a.1.1 in
    let c = some_of (settled lengths (drop (open_count offsets) a.0)) _ ws b.1.1 in
    subst (λ zs. FitsDims zs ds) (paired_sizes b.0 c.0 ws c.1.1)
    (filled_sizes lengths ds (drop (open_count offsets) a.0) c.0
    (if_there (lists.every is_at_least_zero lengths) _ c.0 c.1.0) k)

within_sizes : (ws : List Window) (shape : List ℕ) → within ws shape ≡ true → Each IsSize shape
    → Each IsSize (sizes ws)
within_sizes [] [] h k = tt
within_sizes [] (n ∷ shape) h k = cc
within_sizes (w ∷ ws) [] h k = cc
within_sizes (w ∷ ws) (n ∷ shape) h k =
    let p = and_parts (nat_le (w.offset + w.size) n) (within ws shape) h in
    (smaller w.offset w.size n p.0 k.0, within_sizes ws shape p.1 k.1)
  where
    smaller : (o z n : ℕ) → nat_le (o + z) n ≡ true → n < 2 ^ 31 → z < 2 ^ 31
    smaller o z n h k = grind arith

pub slice_fits_row : (offsets lengths : List SliceIndex) (vs : List Value) (os : List (Option PayloadType))
    (ts : List PayloadType) (v : Value)
    → FitOperands vs os → is_one_tensor ts ≡ true → slice_between offsets lengths (first_result ts) (first_type os)
    ≡ true
    → slice_given offsets lengths vs ≡ Some v → FitTypes (v ∷ []) ts
slice_fits_row offsets lengths (Tensor w shape elems ∷ vs) (Some (type_of.Tensor s) ∷ os)
    (type_of.Tensor t ∷ []) v f one
    r h =
    let p = and_parts ((length t.dims == length s.dims) && same_width t.elem s.elem)
    ((lists.every is_at_least_zero offsets && lists.every is_at_least_zero lengths)
    && sizes_fit lengths t.dims) r in
    let q = and_parts (length t.dims == length s.dims) (same_width t.elem s.elem) p.0 in
    let z = and_parts (lists.every is_at_least_zero offsets && lists.every is_at_least_zero lengths)
    (sizes_fit lengths t.dims) p.1 in
    let a = some_of (slice_windows offsets lengths vs) _ v h in
    let c = only_of (within a.0 shape) (tensor w (sizes a.0) (cut a.0 (element NoNumber shape elems))) v a.1.1 in
    let u : w ≡ t.elem = subst (λ y. y ≡ t.elem) (sym f.0.1.0) (sym (width_is t.elem s.elem q.1)) in
    subst (λ y. FitTypes (y ∷ []) (type_of.Tensor t ∷ [])) c.1
    (tensor_fits w (sizes a.0) (cut a.0 (element NoNumber shape elems)) t (within_sizes a.0 shape c.0 f.0.0.0)
    (λ j. get_fits w elems _ f.0.0.1.1) u (windows_fit offsets lengths vs a.0 t.dims a.1.0 z.1))
slice_fits_row offsets lengths (Tensor w shape elems ∷ vs) (Some (type_of.Tensor s) ∷ os) [] v f one r h = cc
slice_fits_row offsets lengths (Tensor w shape elems ∷ vs) (Some (type_of.Tensor s) ∷ os)
    (type_of.Scalar t ∷ ts) v f one
    r h = cc
slice_fits_row offsets lengths (Tensor w shape elems ∷ vs) (Some (type_of.Tensor s) ∷ os)
    (type_of.Tensor t ∷ (t' ∷ ts)) v
    f one r h = cc
slice_fits_row offsets lengths (Tensor w shape elems ∷ vs) (Some (type_of.Scalar s) ∷ os) ts v f one r h =
    elim f.0.1 [ ]
slice_fits_row offsets lengths (Tensor w shape elems ∷ vs) (None ∷ os) ts v f one r h = elim f [ ]
slice_fits_row offsets lengths (Tensor w shape elems ∷ vs) [] ts v f one r h = elim f [ ]
slice_fits_row offsets lengths (Scalar w a ∷ vs) os ts v f one r h =
    let b = some_of (slice_windows offsets lengths vs) _ v h in let z = b.1.1 in cc
slice_fits_row offsets lengths [] os ts v f one r h = cc

pub put_fits : (offsets lengths : List SliceIndex) (vs : List Value) (os : List (Option PayloadType))
    (ts : List PayloadType) (v : Value)
    → FitOperands vs os → insert_slice_row offsets lengths os ts ≡ true → slice_put offsets lengths vs ≡ Some v
    → FitTypes (v ∷ []) ts
put_fits offsets lengths (Tensor part inner items ∷ (Tensor w shape elems ∷ vs))
    (o ∷ (Some (type_of.Tensor s) ∷ os)) ts v f
    r h =
    let g = second_fits o f in
    let p = and_parts (is_tensor_with (λ s. true) o) _ r in
    let q = and_parts (slice_indices offsets lengths s os) (same_types ts (type_of.Tensor s ∷ [])) p.1 in
    let a = some_of (slice_windows offsets lengths vs) _ v h in
    let c = only_of (within a.0 shape && (same_width part w && same_point inner (sizes a.0)))
    (tensor w shape (pasted a.0 (element NoNumber inner items) (element NoNumber shape elems))) v a.1.1 in
    let z = and_parts (within a.0 shape) (same_width part w && same_point inner (sizes a.0)) c.0 in
    let u = width_is part w (and_parts (same_width part w) (same_point inner (sizes a.0)) z.1).0 in
    subst (λ y. FitTypes (y ∷ []) ts) c.1
    (target_fits w shape elems (type_of.Tensor s) ts _ g.1.0 g.1.1 (types_are ts (type_of.Tensor s ∷ []) q.1)
    (λ j.
    either_fits w (inside a.0 j) (element NoNumber inner items (taken_from a.0 j)) (element NoNumber shape elems j)
    (subst (λ y. FitsWidth y (element NoNumber inner items (taken_from a.0 j))) u (get_fits part items _ g.0.1.1))
    (get_fits w elems _ g.1.0.1.1)))
  where
    second_fits : (o : Option PayloadType)
        → FitOperands (Tensor part inner items ∷ (Tensor w shape elems ∷ vs)) (o ∷ (Some (type_of.Tensor s) ∷ os))
        → IsValue (Tensor part inner items)
        × (IsValue (Tensor w shape elems) × FitsType (Tensor w shape elems) (type_of.Tensor s))
    second_fits None f = elim f [ ]
    second_fits (Some t) f = (f.0.0, f.1.0)
put_fits offsets lengths (Tensor part inner items ∷ (Tensor w shape elems ∷ vs))
    (None ∷ (Some (type_of.Scalar s) ∷ os)) ts v
    f r h = elim f [ ]
put_fits offsets lengths (Tensor part inner items ∷ (Tensor w shape elems ∷ vs))
    (Some t ∷ (Some (type_of.Scalar s) ∷ os)) ts
    v f r h = elim f.1.0.1 [ ]
put_fits offsets lengths (Tensor part inner items ∷ (Tensor w shape elems ∷ vs)) (None ∷ (None ∷ os)) ts v f r h =
    elim f [ ]
put_fits offsets lengths (Tensor part inner items ∷ (Tensor w shape elems ∷ vs)) (Some t ∷ (None ∷ os)) ts v f r h =
    elim f.1 [ ]
put_fits offsets lengths (Tensor part inner items ∷ (Tensor w shape elems ∷ vs)) (None ∷ []) ts v f r h = elim f [ ]
put_fits offsets lengths (Tensor part inner items ∷ (Tensor w shape elems ∷ vs)) (Some t ∷ []) ts v f r h =
    elim f.1 [ ]
put_fits offsets lengths (Tensor part inner items ∷ (Tensor w shape elems ∷ vs)) [] ts v f r h = elim f [ ]
put_fits offsets lengths (Tensor part inner items ∷ (Scalar w a ∷ vs)) os ts v f r h =
    let b = some_of (slice_windows offsets lengths vs) _ v h in let z = b.1.1 in cc
put_fits offsets lengths (Scalar part a ∷ (target ∷ vs)) os ts v f r h =
    let b = some_of (slice_windows offsets lengths vs) _ v h in let z = b.1.1 in cc
put_fits offsets lengths (source ∷ []) os ts v f r h = cc
put_fits offsets lengths [] os ts v f r h = cc
