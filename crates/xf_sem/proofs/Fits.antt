-- The tests of values say what the definitions say.
use Rattle.std.proofs.Common.{◌≡◌, ℕ, zero, suc, subst, List, [], ◌∷◌, Some, Bool, true, refl}
use Rattle.std.proofs.lemmas.Bool.{and_parts, and_from, ltb-true, lt-ltb, eqb-true, eq-eqb}
use Rattle.std.specs.Prelude.{◌^◌, ◌<◌, length, ◌==◌, ◌&&◌, nat_lt, slice_get}
use Rattle.xf_type.specs.declared.payload_type.PayloadType.{PayloadType}
use Rattle.xf_type.specs.declared.payload_type.PayloadType.TheVariants as type_of
use Rattle.xf_type.specs.declared.payload_type.Width.{Width}
use Rattle.xf_type.proofs.EqualTypes.{width_itself, width_is}
use Rattle.xf_type.specs.declared.payload_type.Elem.{Elem}
use Rattle.xf_type.specs.declared.payload_type.Elem.TheVariants.{Num, NoNumber}
use Rattle.xf_type.specs.declared.payload_type.Dim.{Dim}
use Rattle.xf_type.specs.declared.payload_type.Dim.TheVariants.{Fixed, Dynamic}
use Rattle.xf_type.specs.Integers.{bits_of, FitsWidth}
use Rattle.xf_ir.specs.Lists.{Each, every}
use Rattle.xf_sem.specs.declared.value.Value.{Value}
use Rattle.xf_sem.specs.declared.value.Value.TheVariants.{Scalar, Tensor}
use Rattle.xf_type.specs.Equal.{same_width}
use Rattle.xf_points.specs.Points.{product}
use Rattle.xf_sem.specs.Values.{IsValue, FitsDim, FitsDims, FitsType, FitTypes, fits_width, is_value}
use Rattle.xf_sem.specs.Values.{fits_dim, fits_dims, fits_type, fit_types}
use Rattle.xf_sem.specs.Meaning.{item}
use Rattle.xf_sem.specs.Laws.{FittingIsTested}

pub every_says : {A : Type 0} (p : A → Bool) (P : A → Type 0) (xs : List A) → ((x : A) → p x ≡ true → P x)
    → every p xs ≡ true → Each P xs
every_says p P [] f h = tt
every_says p P (x ∷ xs) f h = let b = and_parts (p x) (every p xs) h in (f x b.0, every_says p P xs f b.1)

fits_width_says : (w : Width) (e : Elem) → fits_width w e ≡ true → FitsWidth w e
fits_width_says w (Num n) h = ltb-true n (2 ^ bits_of w) h
fits_width_says w NoNumber h = tt

is_value_says : (v : Value) → is_value v ≡ true → IsValue v
is_value_says (Scalar w e) h = fits_width_says w e h
is_value_says (Tensor w shape elems) h =
    let sizes = and_parts (every (λ size. nat_lt size (2 ^ 31)) shape) ((length elems == product shape)
    && every (fits_width w) elems) h in
    let rest = and_parts (length elems == product shape) (every (fits_width w) elems) sizes.1 in (
      every_says (λ size. nat_lt size (2 ^ 31)) (λ size. size < 2 ^ 31) shape (λ size. ltb-true size (2 ^ 31)) sizes.0,
      (eqb-true _ _ rest.0, every_says (fits_width w) (FitsWidth w) elems (fits_width_says w) rest.1),
    )

fits_dim_says : (size : ℕ) (d : Dim) → fits_dim size d ≡ true → FitsDim size d
fits_dim_says size (Fixed extent) h = eqb-true size extent h
fits_dim_says size Dynamic h = tt

pub fits_dims_says : (sizes : List ℕ) (ds : List Dim) → fits_dims sizes ds ≡ true → FitsDims sizes ds
fits_dims_says [] [] h = tt
fits_dims_says [] (d ∷ ds) h = cc
fits_dims_says (size ∷ sizes) [] h = cc
fits_dims_says (size ∷ sizes) (d ∷ ds) h = let b = and_parts (fits_dim size d) (fits_dims sizes ds) h in
    (fits_dim_says size d b.0, fits_dims_says sizes ds b.1)

fits_type_says : (v : Value) (t : PayloadType) → fits_type v t ≡ true → FitsType v t
fits_type_says (Scalar w e) (type_of.Scalar wanted) h = width_is w wanted h
fits_type_says (Scalar w e) (type_of.Tensor wanted) h = cc
fits_type_says (Tensor w shape elems) (type_of.Scalar wanted) h = cc
fits_type_says (Tensor w shape elems) (type_of.Tensor wanted) h =
    let b = and_parts (same_width w wanted.elem) (fits_dims shape wanted.dims) h in
    (width_is w wanted.elem b.0, fits_dims_says shape wanted.dims b.1)

pub fit_types_says : (vs : List Value) (ts : List PayloadType) → fit_types vs ts ≡ true → FitTypes vs ts
fit_types_says [] [] h = tt
fit_types_says [] (t ∷ ts) h = cc
fit_types_says (v ∷ vs) [] h = cc
fit_types_says (v ∷ vs) (t ∷ ts) h =
    let b = and_parts (is_value v && fits_type v t) (fit_types vs ts) h in
    let f = and_parts (is_value v) (fits_type v t) b.0 in
    ((is_value_says v f.0, fits_type_says v t f.1), fit_types_says vs ts b.1)

-- ---- and the other way

every_when : {A : Type 0} (p : A → Bool) (P : A → Type 0) (xs : List A) → ((x : A) → P x → p x ≡ true) → Each P xs
    → every p xs ≡ true
every_when p P [] f h = refl
every_when p P (x ∷ xs) f h = and_from (p x) (every p xs) (f x h.0) (every_when p P xs f h.1)

same_width_when : (a b : Width) → a ≡ b → same_width a b ≡ true
same_width_when a b h = subst (λ x. same_width a x ≡ true) h (width_itself a)

fits_width_when : (w : Width) (e : Elem) → FitsWidth w e → fits_width w e ≡ true
fits_width_when w (Num n) h = lt-ltb n (2 ^ bits_of w) h
fits_width_when w NoNumber h = refl

is_value_when : (v : Value) → IsValue v → is_value v ≡ true
is_value_when (Scalar w e) h = fits_width_when w e h
is_value_when (Tensor w shape elems) h =
    and_from (every (λ size. nat_lt size (2 ^ 31)) shape) ((length elems == product shape)
    && every (fits_width w) elems)
    (every_when (λ size. nat_lt size (2 ^ 31)) (λ size. size < 2 ^ 31) shape (λ size. lt-ltb size (2 ^ 31)) h.0)
    (and_from (length elems == product shape) (every (fits_width w) elems) (eq-eqb _ _ h.1.0)
    (every_when (fits_width w) (FitsWidth w) elems (fits_width_when w) h.1.1))

fits_dim_when : (size : ℕ) (d : Dim) → FitsDim size d → fits_dim size d ≡ true
fits_dim_when size (Fixed extent) h = eq-eqb size extent h
fits_dim_when size Dynamic h = refl

fits_dims_when : (sizes : List ℕ) (ds : List Dim) → FitsDims sizes ds → fits_dims sizes ds ≡ true
fits_dims_when [] [] h = refl
fits_dims_when [] (d ∷ ds) h = elim h [ ]
fits_dims_when (size ∷ sizes) [] h = elim h [ ]
fits_dims_when (size ∷ sizes) (d ∷ ds) h =
    and_from (fits_dim size d) (fits_dims sizes ds) (fits_dim_when size d h.0) (fits_dims_when sizes ds h.1)

fits_type_when : (v : Value) (t : PayloadType) → FitsType v t → fits_type v t ≡ true
fits_type_when (Scalar w e) (type_of.Scalar wanted) h = same_width_when w wanted h
fits_type_when (Scalar w e) (type_of.Tensor wanted) h = elim h [ ]
fits_type_when (Tensor w shape elems) (type_of.Scalar wanted) h = elim h [ ]
fits_type_when (Tensor w shape elems) (type_of.Tensor wanted) h =
    and_from (same_width w wanted.elem) (fits_dims shape wanted.dims) (same_width_when w wanted.elem h.0)
    (fits_dims_when shape wanted.dims h.1)

fit_types_when : (vs : List Value) (ts : List PayloadType) → FitTypes vs ts → fit_types vs ts ≡ true
fit_types_when [] [] h = refl
fit_types_when [] (t ∷ ts) h = elim h [ ]
fit_types_when (v ∷ vs) [] h = elim h [ ]
fit_types_when (v ∷ vs) (t ∷ ts) h =
    and_from (is_value v && fits_type v t) (fit_types vs ts) (and_from (is_value v) (fits_type v t)
    (is_value_when v h.0.0) (fits_type_when v t h.0.1)) (fit_types_when vs ts h.1)

pub fitting_is_tested : FittingIsTested
fitting_is_tested vs ts = (fit_types_says vs ts, fit_types_when vs ts)

-- one of the values fits its type
pub item_fits : (vs : List Value) (ts : List PayloadType) (i : ℕ) (t : PayloadType) → FitTypes vs ts
    → slice_get ts i ≡ Some t → IsValue (item vs i) × FitsType (item vs i) t
item_fits [] [] i t h e = cc
item_fits [] (u ∷ us) i t h e = elim h [ ]
item_fits (v ∷ vs) [] i t h e = elim h [ ]
item_fits (v ∷ vs) (u ∷ us) zero t h e = let q : u ≡ t = cc in subst (λ x. IsValue v × FitsType v x) q h.0
item_fits (v ∷ vs) (u ∷ us) (suc i) t h e = item_fits vs us i t h.1 e
