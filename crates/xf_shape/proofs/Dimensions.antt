-- The dimensions of a shape token, one after another.
use Rattle.std.proofs.Common.{◌≡◌, ◌<◌, ◌≤◌, ℕ, zero, suc, List, [], ◌∷◌, length, take, drop, Option, Some, None}
use Rattle.std.proofs.Common.{Bool, true, false, refl, sym, ap, subst, ◌∙◌, arith, length-drop}
use Rattle.std.specs.Prelude.{◌==◌, if◌then◌else◌}
use Rattle.xf_type.specs.Bytes.{is_digit}
use Rattle.xf_type.specs.declared.payload_type.Dim.{Dim}
use Rattle.xf_type.specs.declared.payload_type.Dim.TheVariants.{Fixed, Dynamic}
use Rattle.xf_lex.specs.Bytes.{run}
use Rattle.xf_shape.specs.Shapes.{DimFirst, DimsFirst, extent_of, before_x, dim_first}
use Rattle.xf_shape.specs.Shapes.{more_dims, some_dims, dims_first}

abbrev pub dim_is : Dim → List ℕ → DimFirst
dim_is d bs = record { dim = d; rest = bs }

abbrev pub dims_are : List Dim → List ℕ → DimsFirst
dims_are ds bs = record { dims = ds; rest = bs }

-- a dimension before others
abbrev pub and_dims : Dim → DimsFirst → DimsFirst
and_dims d y = dims_are (d ∷ y.dims) y.rest

-- ---- what stands behind a dimension is shorter

-- less than n bytes stand behind a dimension, where there is one
abbrev Shorter : ℕ → Option DimFirst → Type 0
Shorter n o = (x : DimFirst) → o ≡ Some x → length x.rest < n

none_shorter : (n : ℕ) → Shorter n None
none_shorter n x e = absurd cc

some_shorter : (n : ℕ) (y : DimFirst) → length y.rest < n → Shorter n (Some y)
some_shorter n y lt x e = let r : y ≡ x = cc in subst (λ (z : DimFirst). length z.rest < n) r lt

if_shorter : (n : ℕ) (c : Bool) (p q : Option DimFirst) → Shorter n p → Shorter n q → Shorter n (if c then p else q)
if_shorter n true p q f g = f
if_shorter n false p q f g = g

x_shorter : (n : ℕ) (d : Dim) (bs : List ℕ) → length bs ≤ n → Shorter n (before_x d bs)
x_shorter n d [] le = none_shorter n
x_shorter n d (b ∷ bs) le =
    if_shorter n (b == 120) (Some (dim_is d bs)) None
    (some_shorter n (dim_is d bs) (omega (arith, le))) (none_shorter n)

dim_shorter : (bs : List ℕ) → Shorter (length bs) (dim_first bs)
dim_shorter [] = none_shorter 0
dim_shorter (b ∷ bs) =
    let n : ℕ = suc (length bs) in
    let r = run is_digit bs in
    let fixed : Dim = Fixed (extent_of (b ∷ take r bs)) in
    if_shorter n (b == 63) (before_x Dynamic bs) (if is_digit b then before_x fixed (drop r bs) else None)
    (x_shorter n Dynamic bs (omega arith))
    (if_shorter n (is_digit b) (before_x fixed (drop r bs)) None
    (x_shorter n fixed (drop r bs) (omega (arith, length-drop r bs))) (none_shorter n))

pub turn_shorter : (bs : List ℕ) (d : Dim) (rest : List ℕ) → Some (dim_is d rest) ≡ dim_first bs
    → length rest < length bs
turn_shorter bs d rest e = dim_shorter bs (dim_is d rest) (sym e)

-- ---- no more fuel is needed than there are bytes

same_more : (f g : ℕ) (bs : List ℕ)
    → ((x : DimFirst) → dim_first bs ≡ Some x → some_dims f x.rest ≡ some_dims g x.rest)
    → (o : Option DimFirst) → dim_first bs ≡ o → more_dims (some_dims f) bs o ≡ more_dims (some_dims g) bs o
same_more f g bs h None e = refl
same_more f g bs h (Some x) e = ap (and_dims x.dim) (h x e)

same_fuel : (f g : ℕ) (bs : List ℕ) → length bs ≤ f → length bs ≤ g → some_dims f bs ≡ some_dims g bs
same_fuel zero zero bs p q = refl
same_fuel zero (suc g) [] p q = refl
same_fuel (suc f) zero [] p q = refl
same_fuel zero (suc g) (b ∷ bs) p q = absurd (omega (arith, p))
same_fuel (suc f) zero (b ∷ bs) p q = absurd (omega (arith, q))
same_fuel (suc f) (suc g) bs p q =
    let same : (x : DimFirst) → dim_first bs ≡ Some x → some_dims f x.rest ≡ some_dims g x.rest =
    λ x e. let s = dim_shorter bs x e in same_fuel f g x.rest (omega (arith, p, s)) (omega (arith, q, s)) in
    same_more f g bs same (dim_first bs) refl

-- ---- turns

-- no dimension stands first
pub dims_stop : (bs : List ℕ) → None ≡ dim_first bs → dims_first bs ≡ dims_are [] bs
dims_stop [] e = refl
dims_stop (b ∷ bs) e = ap (more_dims (some_dims (length bs)) (b ∷ bs)) (sym e)

-- one does
pub dims_turn : (bs : List ℕ) (d : Dim) (rest : List ℕ) → Some (dim_is d rest) ≡ dim_first bs
    → dims_first bs ≡ and_dims d (dims_first rest)
dims_turn [] d rest e = absurd cc
dims_turn (b ∷ bs) d rest e =
    let s = turn_shorter (b ∷ bs) d rest e in
    ap (more_dims (some_dims (length bs)) (b ∷ bs)) (sym e)
    ∙ ap (and_dims d) (same_fuel (length bs) (length rest) rest (omega (arith, s)) (omega arith))
