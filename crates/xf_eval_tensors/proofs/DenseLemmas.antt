-- Dense constants, one element after another.
use Rattle.std.proofs.Common.{◌≡◌, ℕ, zero, suc, ◌+◌, ◌<◌, ◌≤◌, List, [], ◌∷◌, ◌++◌, length, get_or, Bool, true, false}
use Rattle.std.proofs.Common.{Option, Some, None, Ok, Err, refl, sym, ap, ◌∙◌, subst, arith, ◌⊎◌, inl, inr}
use Rattle.std.specs.Prelude.{◌&&◌, ◌==◌, ◌^◌, map, min, nat_lt}
use Rattle.std.proofs.lemmas.Bool.{and_right, cases_lt}
use Rattle.xf_type.specs.declared.payload_type.PayloadType.{PayloadType}
use Rattle.xf_type.specs.declared.payload_type.Shape.{Shape}
use Rattle.xf_type.specs.declared.payload_type.Width.{Width}
use Rattle.xf_type.specs.declared.payload_type.Elem.{Elem}
use Rattle.xf_type.specs.declared.payload_type.Elem.TheVariants.{Num, NoNumber}
use Rattle.xf_type.specs.Integers.{FitsWidth}
use Rattle.xf_ir.specs.declared.name.OpName.{OpName}
use Rattle.xf_ir.specs.Lists.{Each, every}
use Rattle.xf_points.specs.Points.{Point, points, product, listed, place, counted}
use Rattle.xf_points.proofs.Tensors.{length_listed, listed_same, places_counted}
use Rattle.xf_sem.specs.declared.value.Value.{Value}
use Rattle.xf_sem.specs.declared.value.Value.TheVariants.{Tensor}
use Rattle.xf_sem.specs.Values.{IsValue, fits_width, is_value, fits_type, fit_types}
use Rattle.xf_sem.specs.Tensors.{on_some, only_if, shape_with, dense_items, dense_given, tensor}
use Rattle.xf_eval_values.specs.declared.stop.Stop.{Stop}
use Rattle.xf_eval_values.specs.declared.stop.Stop.TheVariants.{Undefined}
use Rattle.xf_eval_values.specs.Given.{given_run, IsAdmitted, fits_one}
use Rattle.xf_eval_values.specs.Meets.{Meets}
use Rattle.xf_eval_values.proofs.Values.{elem_fits}
use Rattle.xf_eval_values.proofs.GivenLemmas.{undefined_meets, unfit_meets, refused_meets, admitted_meets}
use Rattle.xf_eval_tensors.specs.Sizes.{sizes_in}
use Rattle.xf_eval_tensors.specs.Dense.{dense_elem, dense_list, AllFit, SomeUnfit}
use Rattle.xf_eval_tensors.proofs.MadeLemmas.{small_sizes, sizes_are}

-- ---- numbers

pub counted_more : (from n : ℕ) → counted from (n + 1) ≡ counted from n ++ (from + n) ∷ []
counted_more from zero = ap (λ k. k ∷ []) (let e : from ≡ from + 0 = omega arith in e)
counted_more from (suc n) =
    ap (counted from) (let e : suc n + 1 ≡ suc (n + 1) = omega arith in e)
    ∙ ap (λ xs. from ∷ xs) (counted_more (from + 1) n
    ∙ ap (λ k. counted (from + 1) n ++ k ∷ []) (let e : (from + 1) + n ≡ from + suc n = omega arith in e))

map_end : {A B : Type 0} (f : A → B) (xs : List A) (x : A) → map f (xs ++ x ∷ []) ≡ map f xs ++ f x ∷ []
map_end f [] x = refl
map_end f (y ∷ ys) x = ap (λ zs. f y ∷ zs) (map_end f ys x)

pub dense_more : (ns : List ℕ) (n : ℕ) → dense_list ns (n + 1) ≡ dense_list ns n ++ dense_elem ns n ∷ []
dense_more ns n =
    ap (map (dense_elem ns)) (counted_more 0 n)
    ∙ ap (λ k. map (dense_elem ns) (counted 0 n ++ k ∷ [])) (let e : 0 + n ≡ n = omega arith in e)
    ∙ map_end (dense_elem ns) (counted 0 n) n

-- ---- the elements of a tensor

item_is : (shape ns : List ℕ) (p : Point) → dense_items shape ns p ≡ dense_elem ns (place shape p)
item_is shape [] p = refl
item_is shape (n ∷ []) p = refl
item_is shape (n ∷ (m ∷ ms)) p = refl

map_map : {A B C : Type 0} (f : B → C) (g : A → B) (xs : List A) → map (λ x. f (g x)) xs ≡ map f (map g xs)
map_map f g [] = refl
map_map f g (x ∷ xs) = ap (λ ys. f (g x) ∷ ys) (map_map f g xs)

pub dense_is : (shape ns : List ℕ) → listed shape (dense_items shape ns) ≡ dense_list ns (product shape)
dense_is shape ns =
    listed_same shape (dense_items shape ns) (λ p. dense_elem ns (place shape p)) (λ p b. item_is shape ns p)
    ∙ map_map (dense_elem ns) (place shape) (points shape)
    ∙ ap (map (dense_elem ns)) (places_counted shape)

-- ---- elements of the width

each_fits : (w : Width) (ns : List ℕ) (from n : ℕ)
    → ((k : ℕ) → k < from + n → fits_width w (dense_elem ns k) ≡ true)
    → Each (FitsWidth w) (map (dense_elem ns) (counted from n))
each_fits w ns from zero h = tt
each_fits w ns from (suc n) h = (
  elem_fits w (dense_elem ns from) (h from (omega arith)),
  each_fits w ns (from + 1) n (λ k l. h k (omega arith)),
)

pub fits_list : (w : Width) (ns : List ℕ) (n : ℕ) → AllFit w ns n → Each (FitsWidth w) (dense_list ns n)
fits_list w ns n h = each_fits w ns 0 n (λ k l. h k (omega arith))

and_left : (a b : Bool) → a ≡ false → (a && b) ≡ false
and_left true b h = cc
and_left false b h = refl

one_unfit : (w : Width) (ns : List ℕ) (from n d : ℕ) → d < n → fits_width w (dense_elem ns (from + d)) ≡ false
    → every (fits_width w) (map (dense_elem ns) (counted from n)) ≡ false
one_unfit w ns from zero d l h = absurd (omega arith)
one_unfit w ns from (suc n) zero l h =
    and_left (fits_width w (dense_elem ns from)) (every (fits_width w) (map (dense_elem ns) (counted (from + 1) n)))
    (ap (λ k. fits_width w (dense_elem ns k)) (let e : from ≡ from + 0 = omega arith in e) ∙ h)
one_unfit w ns from (suc n) (suc d) l h =
    and_right (fits_width w (dense_elem ns from)) (every (fits_width w) (map (dense_elem ns) (counted (from + 1) n)))
    (one_unfit w ns (from + 1) n d (omega arith)
    (ap (λ k. fits_width w (dense_elem ns k)) (let e : (from + 1) + d ≡ from + suc d = omega arith in e) ∙ h))

pub unfit_list : (w : Width) (ns : List ℕ) (n : ℕ) → SomeUnfit w ns n → every (fits_width w) (dense_list ns n) ≡ false
unfit_list w ns n h =
    one_unfit w ns 0 n h.0 h.1.0 (ap (λ k. fits_width w (dense_elem ns k)) (let e : 0 + h.0 ≡ h.0 = omega arith in e) ∙ h.1.1)

-- the numbers that are elements decide
past : (w : Width) (m m' : ℕ) (ms : List ℕ) (k : ℕ) → length (m ∷ (m' ∷ ms)) ≤ k
    → fits_width w (dense_elem (m ∷ (m' ∷ ms)) k) ≡ true
past w m m' ms k l = ap (fits_width w) (behind (m ∷ (m' ∷ ms)) k l)
  where
    behind : (ns : List ℕ) (k : ℕ) → length ns ≤ k → get_or (map (λ n. Num n) ns) k NoNumber ≡ NoNumber
    behind [] k l = refl
    behind (n ∷ ns) zero l = absurd (omega arith)
    behind (n ∷ ns) (suc k) l = behind ns k (omega arith)

pub used_fit : (w : Width) (ns : List ℕ) (count : ℕ) → AllFit w ns (min count (length ns)) → AllFit w ns count
used_fit w [] count h k l = refl
used_fit w (n ∷ []) count h k l = h 0 (omega arith)
used_fit w (n ∷ (m ∷ ms)) count h k l = by (cases_lt k (length (n ∷ (m ∷ ms))))
  where
    by : (k < length (n ∷ (m ∷ ms))) ⊎ (length (n ∷ (m ∷ ms)) ≤ k) → fits_width w (dense_elem (n ∷ (m ∷ ms)) k) ≡ true
    by (inl e) = h k (omega (arith, e, l))
    by (inr e) = past w n m ms k e

pub used_unfit : (w : Width) (ns : List ℕ) (count : ℕ) → SomeUnfit w ns (min count (length ns)) → SomeUnfit w ns count
used_unfit w ns count h = (h.0, (omega (arith, h.1.0), h.1.1))

-- ---- what a constant answers

no_value_fits : (v : Value) (ts : List PayloadType) → is_value v ≡ false → fit_types (v ∷ []) ts ≡ false
no_value_fits v [] h = refl
no_value_fits v (t ∷ ts) h =
    and_left (is_value v && fits_type v t) (fit_types [] ts) (and_left (is_value v) (fits_type v t) h)

pub unfit_gives : (n : OpName) (ts : List PayloadType) (w : Width) (sizes ns : List ℕ) (b : ℕ)
    → SomeUnfit w ns (product sizes)
    → Meets (given_run n ts 0 (Some (tensor w sizes (dense_items sizes ns)))) b b (Err (Undefined n))
unfit_gives n ts w sizes ns b h =
    let es = listed sizes (dense_items sizes ns) in
    let v = Tensor w sizes es in
    unfit_meets n ts 0 b b (Some v) v refl
    (no_value_fits v ts
    (and_right (every (λ size. nat_lt size (2 ^ 31)) sizes) ((length es == product sizes) && every (fits_width w) es)
    (and_right (length es == product sizes) (every (fits_width w) es)
    (ap (every (fits_width w)) (dense_is sizes ns) ∙ unfit_list w ns (product sizes) h))))

each_element : (w : Width) (sizes ns : List ℕ) → AllFit w ns (product sizes)
    → Each (FitsWidth w) (listed sizes (dense_items sizes ns))
each_element w sizes ns h = subst (Each (FitsWidth w)) (sym (dense_is sizes ns)) (fits_list w ns (product sizes) h)

pub dense_refused : (n : OpName) (ts : List PayloadType) (w : Width) (sizes ns : List ℕ) (b b' : ℕ) (stop : Stop)
    → AllFit w ns (product sizes) → IsAdmitted n ts w sizes 0 b b' (Err stop)
    → Meets (given_run n ts 0 (Some (tensor w sizes (dense_items sizes ns)))) b b' (Err stop)
dense_refused n ts w sizes ns b b' stop h a =
    refused_meets n ts w sizes (listed sizes (dense_items sizes ns)) 0 b b' (Some (tensor w sizes (dense_items sizes ns)))
    stop (length_listed sizes (dense_items sizes ns)) (each_element w sizes ns h) refl a

pub dense_gives : (n : OpName) (ts : List PayloadType) (w : Width) (sizes ns : List ℕ) (b b' count : ℕ) (v : Value)
    → AllFit w ns (product sizes) → IsAdmitted n ts w sizes 0 b b' (Ok count) → v ≡ Tensor w sizes (dense_list ns count)
    → Meets (given_run n ts 0 (Some (tensor w sizes (dense_items sizes ns)))) b b' (Ok (v ∷ []))
dense_gives n ts w sizes ns b b' count v h a q =
    admitted_meets n ts w sizes (listed sizes (dense_items sizes ns)) 0 b b' count
    (Some (tensor w sizes (dense_items sizes ns))) v
    (length_listed sizes (dense_items sizes ns)) (each_element w sizes ns h) refl a
    (q ∙ ap (λ k. Tensor w sizes (dense_list ns k)) a.1.0 ∙ ap (Tensor w sizes) (sym (dense_is sizes ns)))

pub dense_value : (w : Width) (sizes ns : List ℕ) (ts : List PayloadType) (count : ℕ) (es : List Elem)
    → AllFit w ns (product sizes) → fits_one w sizes ts ≡ true → count ≡ product sizes → es ≡ dense_list ns count
    → IsValue (Tensor w sizes es)
dense_value w sizes ns ts count es h f k q =
    let all : es ≡ listed sizes (dense_items sizes ns) = q ∙ ap (dense_list ns) k ∙ sym (dense_is sizes ns) in
    subst (λ xs. IsValue (Tensor w sizes xs)) (sym all)
    (small_sizes w sizes ts f, (length_listed sizes (dense_items sizes ns), each_element w sizes ns h))

-- ---- the sizes of its type

large_fits : (w : Width) (sizes : List ℕ) (es : List Elem) (ts : List PayloadType)
    → every (λ size. nat_lt size (2 ^ 31)) sizes ≡ false → fit_types (Tensor w sizes es ∷ []) ts ≡ false
large_fits w sizes es ts h =
    no_value_fits (Tensor w sizes es) ts
    (and_left (every (λ size. nat_lt size (2 ^ 31)) sizes) ((length es == product sizes) && every (fits_width w) es) h)

pub no_sizes : (n : OpName) (ts : List PayloadType) (s : Shape) (ns : List ℕ) (b : ℕ) → None ≡ sizes_in s.dims []
    → Meets (given_run n ts 0 (dense_given s ns)) b b (Err (Undefined n))
no_sizes n ts s ns b h = by (shape_with s.dims []) (h ∙ sizes_are s.dims [])
  where
    one : (sh : List ℕ) (c : Bool) → every (λ size. nat_lt size (2 ^ 31)) sh ≡ c → None ≡ only_if c sh
        → Meets (given_run n ts 0 (Some (tensor s.elem sh (dense_items sh ns)))) b b (Err (Undefined n))
    one sh true e g = cc
    one sh false e g =
        unfit_meets n ts 0 b b (Some (tensor s.elem sh (dense_items sh ns))) (tensor s.elem sh (dense_items sh ns)) refl
        (large_fits s.elem sh (listed sh (dense_items sh ns)) ts e)

    by : (o : Option (List ℕ)) → None ≡ on_some o (λ s. only_if (every (λ size. nat_lt size (2 ^ 31)) s) s)
        → Meets (given_run n ts 0 (on_some o (λ shape. Some (tensor s.elem shape (dense_items shape ns))))) b b
        (Err (Undefined n))
    by None g = undefined_meets n ts 0 None b refl
    by (Some sh) g = one sh (every (λ size. nat_lt size (2 ^ 31)) sh) refl g

pub its_sizes : (s : Shape) (ns sizes : List ℕ) → Some sizes ≡ sizes_in s.dims []
    → Some (tensor s.elem sizes (dense_items sizes ns)) ≡ dense_given s ns
its_sizes s ns sizes h = by (shape_with s.dims []) (h ∙ sizes_are s.dims [])
  where
    one : (sh : List ℕ) (c : Bool) → Some sizes ≡ only_if c sh
        → Some (tensor s.elem sizes (dense_items sizes ns)) ≡ Some (tensor s.elem sh (dense_items sh ns))
    one sh true g =
        let e : sizes ≡ sh = cc in ap (λ z. Some (tensor s.elem z (dense_items z ns))) e
    one sh false g = cc

    by : (o : Option (List ℕ)) → Some sizes ≡ on_some o (λ s. only_if (every (λ size. nat_lt size (2 ^ 31)) s) s)
        → Some (tensor s.elem sizes (dense_items sizes ns))
        ≡ on_some o (λ shape. Some (tensor s.elem shape (dense_items shape ns)))
    by None g = cc
    by (Some sh) g = one sh (every (λ size. nat_lt size (2 ^ 31)) sh) g
