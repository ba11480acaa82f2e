-- Tensors that are made of one element, and of sizes.
use Rattle.std.proofs.Common.{◌≡◌, ℕ, ◌<◌, List, [], ◌∷◌, length, Bool, true, false, Option, Some, None, Ok, Err}
use Rattle.std.proofs.Common.{refl, sym, ap, ◌∙◌, subst, replicate}
use Rattle.std.specs.Prelude.{map, nat_lt, ◌^◌, ◌&&◌, if◌then◌else◌}
use Rattle.std.proofs.lemmas.Bool.{and_parts, ltb-true}
use Rattle.xf_type.specs.declared.payload_type.PayloadType.{PayloadType}
use Rattle.xf_type.specs.declared.payload_type.PayloadType.TheVariants as type_of
use Rattle.xf_type.specs.declared.payload_type.Shape.{Shape}
use Rattle.xf_type.specs.declared.payload_type.Width.{Width}
use Rattle.xf_type.specs.declared.payload_type.Elem.{Elem}
use Rattle.xf_type.specs.declared.payload_type.Elem.TheVariants.{NoNumber}
use Rattle.xf_type.specs.declared.payload_type.Dim.{Dim}
use Rattle.xf_type.specs.declared.payload_type.Dim.TheVariants.{Fixed, Dynamic}
use Rattle.xf_type.specs.Integers.{FitsWidth}
use Rattle.xf_ir.specs.declared.name.OpName.{OpName}
use Rattle.xf_ir.specs.Lists.{Each, every}
use Rattle.xf_points.specs.Points.{Point, points, product, listed}
use Rattle.xf_points.proofs.Tensors.{length_points, length_listed}
use Rattle.xf_sem.specs.declared.value.Value.{Value}
use Rattle.xf_sem.specs.declared.value.Value.TheVariants.{Tensor}
use Rattle.xf_sem.specs.Values.{IsValue}
use Rattle.xf_sem.specs.Tensors.{on_some, only_if, before_all, indices_of, shape_with, empty_given, tensor}
use Rattle.xf_sem.proofs.Fits.{every_says}
use Rattle.xf_eval_values.specs.declared.stop.Stop.{Stop}
use Rattle.xf_eval_values.specs.Given.{given_run, IsAdmitted, fits_one}
use Rattle.xf_eval_values.specs.Held.{fits_tensor}
use Rattle.xf_eval_values.specs.Meets.{Meets}
use Rattle.xf_eval_values.proofs.GivenLemmas.{refused_meets, admitted_meets}
use Rattle.xf_eval_tensors.specs.Sizes.{small_before, sizes_in, empty_by}

-- ---- one element

constant_list : {A B : Type 0} (x : B) (xs : List A) → map (λ p. x) xs ≡ replicate (length xs) x
constant_list x [] = refl
constant_list x (y ∷ ys) = ap (λ zs. x ∷ zs) (constant_list x ys)

pub all_same : (sizes : List ℕ) (e : Elem) → listed sizes (λ p. e) ≡ replicate (product sizes) e
all_same sizes e = constant_list e (points sizes) ∙ ap (λ n. replicate n e) (length_points sizes)

pub each_same : (w : Width) (e : Elem) (ps : List Point) → FitsWidth w e → Each (FitsWidth w) (map (λ p. e) ps)
each_same w e [] h = tt
each_same w e (p ∷ ps) h = (h, each_same w e ps h)

pub small_sizes : (w : Width) (sizes : List ℕ) (ts : List PayloadType) → fits_one w sizes ts ≡ true
    → Each (λ size. size < 2 ^ 31) sizes
small_sizes w sizes [] h = cc
small_sizes w sizes (t ∷ []) h =
    every_says (λ size. nat_lt size (2 ^ 31)) (λ size. size < 2 ^ 31) sizes (λ size. ltb-true size (2 ^ 31))
    (and_parts (every (λ size. nat_lt size (2 ^ 31)) sizes) (fits_tensor w sizes t) h).0
small_sizes w sizes (t ∷ (u ∷ ts)) h = cc

pub filled_refused : (n : OpName) (ts : List PayloadType) (w : Width) (sizes : List ℕ) (e : Elem) (b b' : ℕ) (stop : Stop)
    → FitsWidth w e → IsAdmitted n ts w sizes 0 b b' (Err stop)
    → Meets (given_run n ts 0 (Some (tensor w sizes (λ p. e)))) b b' (Err stop)
filled_refused n ts w sizes e b b' stop h a =
    refused_meets n ts w sizes (listed sizes (λ p. e)) 0 b b' (Some (tensor w sizes (λ p. e))) stop
    (length_listed sizes (λ p. e)) (each_same w e (points sizes) h) refl a

pub filled_gives : (n : OpName) (ts : List PayloadType) (w : Width) (sizes : List ℕ) (e : Elem) (b b' count : ℕ) (v : Value)
    → FitsWidth w e → IsAdmitted n ts w sizes 0 b b' (Ok count) → v ≡ Tensor w sizes (replicate count e)
    → Meets (given_run n ts 0 (Some (tensor w sizes (λ p. e)))) b b' (Ok (v ∷ []))
filled_gives n ts w sizes e b b' count v h a q =
    admitted_meets n ts w sizes (listed sizes (λ p. e)) 0 b b' count (Some (tensor w sizes (λ p. e))) v
    (length_listed sizes (λ p. e)) (each_same w e (points sizes) h) refl a
    (q ∙ ap (λ k. Tensor w sizes (replicate k e)) a.1.0 ∙ ap (Tensor w sizes) (sym (all_same sizes e)))

pub filled_value : (w : Width) (sizes : List ℕ) (e : Elem) (ts : List PayloadType) (count : ℕ) (es : List Elem)
    → FitsWidth w e → fits_one w sizes ts ≡ true → count ≡ product sizes → es ≡ replicate count e
    → IsValue (Tensor w sizes es)
filled_value w sizes e ts count es h f k q =
    let all : es ≡ listed sizes (λ p. e) = q ∙ ap (λ n. replicate n e) k ∙ sym (all_same sizes e) in
    subst (λ xs. IsValue (Tensor w sizes xs)) (sym all)
    (small_sizes w sizes ts f, (length_listed sizes (λ p. e), each_same w e (points sizes) h))

-- ---- sizes

small_first : (b c : Bool) (n : ℕ) (s : List ℕ)
    → (if b then before_all n (only_if c s) else None) ≡ only_if (b && c) (n ∷ s)
small_first true true n s = refl
small_first true false n s = refl
small_first false c n s = refl

small_none : (b : Bool) (n : ℕ) → (if b then before_all n None else None) ≡ None
small_none true n = refl
small_none false n = refl

with_first : (n : ℕ) (o : Option (List ℕ)) (q : Option (List ℕ))
    → q ≡ on_some o (λ s. only_if (every (λ size. nat_lt size (2 ^ 31)) s) s)
    → small_before n q ≡ on_some (before_all n o) (λ s. only_if (every (λ size. nat_lt size (2 ^ 31)) s) s)
with_first n None q h = ap (small_before n) h ∙ small_none (nat_lt n (2 ^ 31)) n
with_first n (Some s) q h =
    ap (small_before n) h ∙ small_first (nat_lt n (2 ^ 31)) (every (λ size. nat_lt size (2 ^ 31)) s) n s

pub sizes_are : (ds : List Dim) (ns : List ℕ)
    → sizes_in ds ns ≡ on_some (shape_with ds ns) (λ s. only_if (every (λ size. nat_lt size (2 ^ 31)) s) s)
sizes_are [] [] = refl
sizes_are [] (n ∷ ns) = refl
sizes_are (Fixed e ∷ ds) ns = with_first e (shape_with ds ns) (sizes_in ds ns) (sizes_are ds ns)
sizes_are (Dynamic ∷ ds) [] = refl
sizes_are (Dynamic ∷ ds) (n ∷ ns) = with_first n (shape_with ds ns) (sizes_in ds ns) (sizes_are ds ns)

small_tensor : (w : Width) (o : Option (List ℕ))
    → on_some (on_some o (λ s. only_if (every (λ size. nat_lt size (2 ^ 31)) s) s))
    (λ shape. Some (tensor w shape (λ p. NoNumber)))
    ≡ on_some o (λ s. only_if (every (λ size. nat_lt size (2 ^ 31)) s) (tensor w s (λ p. NoNumber)))
small_tensor w None = refl
small_tensor w (Some s) = by (every (λ size. nat_lt size (2 ^ 31)) s)
  where
    by : (b : Bool) → on_some (only_if b s) (λ shape. Some (tensor w shape (λ p. NoNumber)))
        ≡ only_if b (tensor w s (λ p. NoNumber))
    by true = refl
    by false = refl

pub empty_is : (s : Shape) (vs : List Value) → empty_by s vs ≡ empty_given (type_of.Tensor s ∷ []) vs
empty_is s vs = by (indices_of vs)
  where
    by : (o : Option (List ℕ))
        → on_some o (λ ns. on_some (sizes_in s.dims ns) (λ shape. Some (tensor s.elem shape (λ p. NoNumber))))
        ≡ on_some o (λ ns. on_some (shape_with s.dims ns)
        (λ shape. only_if (every (λ size. nat_lt size (2 ^ 31)) shape) (tensor s.elem shape (λ p. NoNumber))))
    by None = refl
    by (Some ns) =
        ap (λ q. on_some q (λ shape. Some (tensor s.elem shape (λ p. NoNumber)))) (sizes_are s.dims ns)
        ∙ small_tensor s.elem (shape_with s.dims ns)
