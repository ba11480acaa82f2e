-- The tests of equal types tell whether they are equal.
use Rattle.std.proofs.Common.{◌≡◌, ◌≢◌, ◌↔◌, ◌&&◌, Bool, true, false, suc, List, [], ◌∷◌, length, refl, ap, subst}
use Rattle.std.specs.Prelude.{IsTrue}
use Rattle.std.specs.Bool.{Decides}
use Rattle.std.proofs.lemmas.Bool.{and_parts}
use Rattle.std.proofs.lemmas.Bool.Decides.{same_from_decides, Decides-eqb}
use Rattle.xf_type.specs.declared.payload_type.PayloadType.{PayloadType}
use Rattle.xf_type.specs.declared.payload_type.PayloadType.TheVariants.{Scalar, Tensor}
use Rattle.xf_type.specs.declared.payload_type.Shape.{Shape}
use Rattle.xf_type.specs.declared.payload_type.Dim.{Dim}
use Rattle.xf_type.specs.declared.payload_type.Dim.TheVariants.{Fixed, Dynamic}
use Rattle.xf_type.specs.declared.payload_type.Width.{Width}
use Rattle.xf_type.specs.declared.payload_type.Width.TheVariants.{I1, I8, I16, I32, I64, Index}
use Rattle.xf_type.specs.Equal.{same_width, same_dim, same_items, same_dims, same_shape, same_type, same_types}

-- ---- a test of two equal values is true

pub width_itself : (w : Width) → same_width w w ≡ true
width_itself I1 = refl
width_itself I8 = refl
width_itself I16 = refl
width_itself I32 = refl
width_itself I64 = refl
width_itself Index = refl

pub dim_itself : (d : Dim) → same_dim d d ≡ true
dim_itself (Fixed a) = (Decides-eqb a a).1 refl
dim_itself Dynamic = refl

pub items_itself : {A : Type 0} (same : A → A → Bool) → ((x : A) → same x x ≡ true) → (xs : List A)
    → same_items same xs xs ≡ true
items_itself same itself [] = refl
items_itself same itself (x ∷ xs) = rw (itself x) (items_itself same itself xs)

pub shape_itself : (s : Shape) → same_shape s s ≡ true
shape_itself s = rw (width_itself s.elem) (items_itself same_dim dim_itself s.dims)

pub type_itself : (t : PayloadType) → same_type t t ≡ true
type_itself (Scalar w) = width_itself w
type_itself (Tensor s) = shape_itself s

-- ---- values for which a test is true are equal

pub width_is : (w v : Width) → same_width w v ≡ true → w ≡ v
width_is I1 I1 p = refl
width_is I8 I8 p = refl
width_is I16 I16 p = refl
width_is I32 I32 p = refl
width_is I64 I64 p = refl
width_is Index Index p = refl
width_is w v p = absurd (cc)

pub dim_is : (d e : Dim) → same_dim d e ≡ true → d ≡ e
dim_is (Fixed a) (Fixed b) p = ap Fixed ((Decides-eqb a b).0 p)
dim_is (Fixed a) Dynamic p = absurd (cc)
dim_is Dynamic (Fixed b) p = absurd (cc)
dim_is Dynamic Dynamic p = refl

pub items_are : {A : Type 0} (same : A → A → Bool) → ((x y : A) → same x y ≡ true → x ≡ y) → (xs ys : List A)
    → same_items same xs ys ≡ true → xs ≡ ys
items_are same are [] [] p = refl
items_are same are [] (y ∷ ys) p = absurd (cc)
items_are same are (x ∷ xs) [] p = absurd (cc)
items_are same are (x ∷ xs) (y ∷ ys) p =
    let h = and_parts (same x y) (same_items same xs ys) p in
    let a = are x y h.0 in
    let b = items_are same are xs ys h.1 in
    λ i. a i ∷ b i

pub shape_is : (s t : Shape) → same_shape s t ≡ true → s ≡ t
shape_is s t p =
    let h = and_parts (same_width s.elem t.elem) (same_dims s.dims t.dims) p in
    let a = width_is s.elem t.elem h.0 in
    let b = items_are same_dim dim_is s.dims t.dims h.1 in
    λ i. record { dims = b i; elem = a i }

pub type_is : (t u : PayloadType) → same_type t u ≡ true → t ≡ u
type_is (Scalar w) (Scalar v) p = ap Scalar (width_is w v p)
type_is (Scalar w) (Tensor t) p = absurd (cc)
type_is (Tensor s) (Scalar v) p = absurd (cc)
type_is (Tensor s) (Tensor t) p = ap Tensor (shape_is s t p)

pub types_are : (ts us : List PayloadType) → same_types ts us ≡ true → ts ≡ us
types_are ts us p = items_are same_type type_is ts us p

-- ---- so they decide

pub decides : {A : Type 0} (same : A → A → Bool) → ((x : A) → same x x ≡ true) → ((x y : A) → same x y ≡ true → x ≡ y)
    → (x y : A) → Decides (same x y) (x ≡ y)
decides same itself are x y = (are x y, λ e. subst (λ z. same x z ≡ true) e (itself x))

pub same_width_by : (r : Bool) (w v : Width) → (IsTrue r ↔ (w ≡ v)) → r ≡ same_width w v
same_width_by r w v h = same_from_decides r (same_width w v) h (decides same_width width_itself width_is w v)

pub same_shape_by : (r : Bool) (s t : Shape) → (IsTrue r ↔ (s ≡ t)) → r ≡ same_shape s t
same_shape_by r s t h = same_from_decides r (same_shape s t) h (decides same_shape shape_itself shape_is s t)

pub same_type_by : (r : Bool) (t u : PayloadType) → (IsTrue r ↔ (t ≡ u)) → r ≡ same_type t u
same_type_by r t u h = same_from_decides r (same_type t u) h (decides same_type type_itself type_is t u)

-- ---- lists of other lengths differ

pub unequal_behind : (a b : Bool) → b ≡ false → (a && b) ≡ false
unequal_behind true b h = h
unequal_behind false b h = refl

pub unequal_items : {A : Type 0} (same : A → A → Bool) (xs ys : List A) → length xs ≢ length ys
    → same_items same xs ys ≡ false
unequal_items same [] [] n = absurd (n refl)
unequal_items same [] (y ∷ ys) n = refl
unequal_items same (x ∷ xs) [] n = refl
unequal_items same (x ∷ xs) (y ∷ ys) n =
    unequal_behind (same x y) (same_items same xs ys) (unequal_items same xs ys (λ e. n (ap (λ k. suc k) e)))

pub unequal_lengths : (ts us : List PayloadType) → length ts ≢ length us → same_types ts us ≡ false
unequal_lengths ts us n = unequal_items same_type ts us n
