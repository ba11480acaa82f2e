-- A value passes the test of values.
use Rattle.std.proofs.Common.{◌≡◌, ◌≢◌, ℕ, suc, List, [], ◌∷◌, Bool, true, false, refl, sym, ap}
use Rattle.std.proofs.lemmas.Bool.{and_from, and_right, lt-ltb, ltb-true, eq-eqb}
use Rattle.std.specs.Prelude.{◌^◌, ◌<◌, length, ◌==◌, ◌&&◌, nat_lt}
use Rattle.xf_type.specs.declared.payload_type.Width.{Width}
use Rattle.xf_type.specs.declared.payload_type.Elem.{Elem}
use Rattle.xf_type.specs.declared.payload_type.Elem.TheVariants.{Num, NoNumber}
use Rattle.xf_type.specs.declared.payload_type.Dim.{Dim}
use Rattle.xf_type.specs.declared.payload_type.PayloadType.{PayloadType}
use Rattle.xf_type.specs.Integers.{bits_of, FitsWidth}
use Rattle.xf_ir.specs.Lists.{Each, every}
use Rattle.xf_points.specs.Points.{product}
use Rattle.xf_sem.proofs.Fits.{every_says}
use Rattle.xf_sem.specs.declared.value.Value.{Value}
use Rattle.xf_sem.specs.declared.value.Value.TheVariants.{Scalar, Tensor}
use Rattle.xf_sem.specs.Values.{IsValue, fits_width, is_value, fits_dim, fits_dims, fits_type, fit_types}

pub every_when : {A : Type 0} (p : A → Bool) (P : A → Type 0) (xs : List A) → ((x : A) → P x → p x ≡ true) → Each P xs
    → every p xs ≡ true
every_when p P [] f h = refl
every_when p P (x ∷ xs) f h = and_from (p x) (every p xs) (f x h.0) (every_when p P xs f h.1)

pub fits_width_when : (w : Width) (e : Elem) → FitsWidth w e → fits_width w e ≡ true
fits_width_when w (Num n) h = lt-ltb n (2 ^ bits_of w) h
fits_width_when w NoNumber h = refl

pub is_value_when : (v : Value) → IsValue v → is_value v ≡ true
is_value_when (Scalar w e) h = fits_width_when w e h
is_value_when (Tensor w shape elems) h =
    and_from (every (λ size. nat_lt size (2 ^ 31)) shape) ((length elems == product shape)
    && every (fits_width w) elems)
    (every_when (λ size. nat_lt size (2 ^ 31)) (λ size. size < 2 ^ 31) shape (λ size. lt-ltb size (2 ^ 31)) h.0)
    (and_from (length elems == product shape) (every (fits_width w) elems) (eq-eqb _ _ h.1.0)
    (every_when (fits_width w) (FitsWidth w) elems (fits_width_when w) h.1.1))

-- ---- lists of different lengths

pub unequal_sizes : (ns : List ℕ) (ds : List Dim) → length ns ≢ length ds → false ≡ fits_dims ns ds
unequal_sizes [] [] h = absurd (h refl)
unequal_sizes [] (d ∷ ds) h = refl
unequal_sizes (n ∷ ns) [] h = refl
unequal_sizes (n ∷ ns) (d ∷ ds) h =
    sym (and_right (fits_dim n d) (fits_dims ns ds) (sym (unequal_sizes ns ds (λ e. h (ap suc e)))))

pub unequal_types : (vs : List Value) (ts : List PayloadType) → length vs ≢ length ts → false ≡ fit_types vs ts
unequal_types [] [] h = absurd (h refl)
unequal_types [] (t ∷ ts) h = refl
unequal_types (v ∷ vs) [] h = refl
unequal_types (v ∷ vs) (t ∷ ts) h =
    sym (and_right (is_value v && fits_type v t) (fit_types vs ts) (sym (unequal_types vs ts (λ e. h (ap suc e)))))

-- ---- elements that pass the test

fits_width_says : (w : Width) (e : Elem) → fits_width w e ≡ true → FitsWidth w e
fits_width_says w (Num n) h = ltb-true n (2 ^ bits_of w) h
fits_width_says w NoNumber h = tt

pub all_fit_says : (w : Width) (es : List Elem) → every (fits_width w) es ≡ true → Each (FitsWidth w) es
all_fit_says w es h = every_says (fits_width w) (FitsWidth w) es (fits_width_says w) h

pub elem_fits : (w : Width) (e : Elem) → fits_width w e ≡ true → FitsWidth w e
elem_fits w e h = fits_width_says w e h
