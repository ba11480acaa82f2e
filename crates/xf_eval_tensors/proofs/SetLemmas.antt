-- A tensor with one element changed, as a list.
use Rattle.std.proofs.Common.{◌≡◌, ℕ, zero, suc, ◌<◌, List, [], ◌∷◌, length, get_or, Bool, true, false}
use Rattle.std.proofs.Common.{Option, Some, None, Ok, Err, refl, sym, ap, ◌∙◌, subst, arith, ◌⊎◌, inl, inr}
use Rattle.std.specs.Prelude.{if◌then◌else◌, ◌&&◌, set, nat_lt}
use Rattle.std.proofs.lemmas.Bool.{and_parts, ltb-true, cases_eq, false_from_ne_true}
use Rattle.std.proofs.lemmas.List.{ext_get_or, length-set, get_or-set_same, get_or-set_other, get_or-map}
use Rattle.xf_type.specs.declared.payload_type.Width.{Width}
use Rattle.xf_type.specs.declared.payload_type.Elem.{Elem}
use Rattle.xf_type.specs.declared.payload_type.Elem.TheVariants.{NoNumber}
use Rattle.xf_type.specs.Equal.{same_width}
use Rattle.xf_type.specs.Integers.{FitsWidth}
use Rattle.xf_type.proofs.EqualTypes.{width_is}
use Rattle.xf_type.specs.declared.payload_type.PayloadType.{PayloadType}
use Rattle.xf_ir.specs.Lists.{Each}
use Rattle.xf_ir.specs.declared.name.OpName.{OpName}
use Rattle.xf_points.specs.Points.{Point, Below, points, product, listed, element, place, point_at, same_point}
use Rattle.xf_points.proofs.Tensors.{length_points, length_listed, place_below, get_points, place_at, element_listed}
use Rattle.xf_points.proofs.Maps.{same_point-true, same_point-self}
use Rattle.xf_sem.specs.declared.value.Value.{Value}
use Rattle.xf_sem.specs.declared.value.Value.TheVariants.{Scalar, Tensor}
use Rattle.xf_sem.specs.Tensors.{on_some, only_if, indices_of, is_in, inserted, tensor, width_of}
use Rattle.xf_eval_values.specs.declared.held.Tensor.{Tensor as Parts}
use Rattle.xf_eval_values.specs.Held.{tensor_of, as_value, scalar_of}
use Rattle.xf_eval_values.specs.declared.stop.Stop.{Stop}
use Rattle.xf_eval_values.specs.Given.{given_run, IsAdmitted}
use Rattle.xf_eval_values.specs.Meets.{Meets}
use Rattle.xf_eval_values.proofs.GivenLemmas.{refused_meets, admitted_meets}
use Rattle.xf_sem.specs.Values.{IsValue}
use Rattle.xf_eval_tensors.specs.Indices.{point_in, with_elem}
use Rattle.xf_eval_tensors.proofs.IndexLemmas.{point_is}
use Rattle.xf_eval_tensors.proofs.ElementLemmas.{tensor_value}

-- ---- lists

point_back : (shape : List ℕ) (p : Point) → Below p shape → point_at shape (place shape p) ≡ p
point_back shape p b =
    sym (get_points shape (place shape p) (place_below shape p b))
    ∙ sym (get_or-map (λ (q : Point). q) (points shape) (place shape p) [] []
    (subst (λ n. place shape p < n) (sym (length_points shape)) (place_below shape p b)))
    ∙ element_listed [] shape (λ q. q) p b

if_true : {A : Type 0} (b : Bool) (x y : A) → b ≡ true → (if b then x else y) ≡ x
if_true true x y h = refl
if_true false x y h = cc

if_false : {A : Type 0} (b : Bool) (x y : A) → b ≡ false → (if b then x else y) ≡ y
if_false true x y h = cc
if_false false x y h = refl

pub set_listed : (shape : List ℕ) (elems : List Elem) (p : Point) (e : Elem) → length elems ≡ product shape
    → Below p shape
    → set elems (place shape p) e
    ≡ listed shape (λ j. if same_point j p then e else element NoNumber shape elems j)
set_listed shape elems p e l b =
    ext_get_or NoNumber (set elems (place shape p) e) (listed shape f)
    (length-set elems (place shape p) e ∙ l ∙ sym (length_listed shape f))
    (λ k h.
    let inside : k < product shape = subst (λ n. k < n) (length-set elems (place shape p) e ∙ l) h in
    let got : get_or (listed shape f) k NoNumber ≡ f (point_at shape k) =
    get_or-map f (points shape) k [] NoNumber (subst (λ n. k < n) (sym (length_points shape)) inside)
    ∙ ap f (get_points shape k inside) in
    by k inside (cases_eq k (place shape p)) ∙ sym got)
  where
    f : Point → Elem
    f j = if same_point j p then e else element NoNumber shape elems j

    by : (k : ℕ) → k < product shape → (k ≡ place shape p) ⊎ (k ≡ place shape p → ⊥)
        → get_or (set elems (place shape p) e) k NoNumber
        ≡ (if same_point (point_at shape k) p then e else element NoNumber shape elems (point_at shape k))
    by k h (inl q) =
        ap (λ n. get_or (set elems (place shape p) e) n NoNumber) q
        ∙ get_or-set_same elems (place shape p) e NoNumber
        (subst (λ n. place shape p < n) (sym l) (place_below shape p b))
        ∙ sym (if_true (same_point (point_at shape k) p) e (element NoNumber shape elems (point_at shape k))
        (ap (λ x. same_point x p) (ap (point_at shape) q ∙ point_back shape p b) ∙ same_point-self p))
    by k h (inr n) =
        get_or-set_other elems (place shape p) k e NoNumber n
        ∙ ap (λ m. get_or elems m NoNumber) (sym (place_at shape k h))
        ∙ sym (if_false (same_point (point_at shape k) p) e (element NoNumber shape elems (point_at shape k))
        (false_from_ne_true (same_point (point_at shape k) p)
        (λ t. n (sym (place_at shape k h) ∙ ap (place shape) (same_point-true (point_at shape k) p t)))))

-- ---- an index that lies in a shape

in_below : (p : Point) (shape : List ℕ) → is_in p shape ≡ true → Below p shape
in_below [] [] h = tt
in_below [] (n ∷ shape) h = cc
in_below (i ∷ p) [] h = cc
in_below (i ∷ p) (n ∷ shape) h =
    let q = and_parts (nat_lt i n) (is_in p shape) h in (ltb-true i n q.0, in_below p shape q.1)

pub record Inside (shape : List ℕ) (vs : List Value) (p : Point) : Type 0 where
  pub numbers : indices_of vs ≡ Some p
  pub lies : is_in p shape ≡ true

pub inside_is : (shape : List ℕ) (vs : List Value) (p : Point) → Some p ≡ point_in shape vs → Inside shape vs p
inside_is shape vs p h = by (indices_of vs) refl (h ∙ sym (point_is shape vs))
  where
    one : (q : Point) (b : Bool) → is_in q shape ≡ b → Some p ≡ only_if b q → indices_of vs ≡ Some q → Inside shape vs p
    one q true e g k = let r : q ≡ p = cc in record { numbers = k ∙ ap Some r; lies = ap (λ x. is_in x shape) (sym r) ∙ e }
    one q false e g k = cc

    by : (o : Option (List ℕ)) → indices_of vs ≡ o → Some p ≡ on_some o (λ p. only_if (is_in p shape) p) → Inside shape vs p
    by None k g = cc
    by (Some q) k g = one q (is_in q shape) refl g k

pub inside_below : (shape : List ℕ) (vs : List Value) (p : Point) → Some p ≡ point_in shape vs → Below p shape
inside_below shape vs p h = in_below p shape (inside_is shape vs p h).lies

-- ---- insertions

and_true : (b : Bool) → (b && true) ≡ b
and_true true = refl
and_true false = refl

pub inserted_is : (u v : Value) (e : Elem) (t : Parts) (vs : List Value) (p : Point) → Some e ≡ scalar_of u
    → Some t ≡ tensor_of v → Some p ≡ point_in t.shape vs
    → inserted (u ∷ (v ∷ vs))
    ≡ only_if (same_width (width_of u) t.width)
    (tensor t.width t.shape (λ j. if same_point j p then e else element NoNumber t.shape t.elems j))
inserted_is (Tensor w sh es) v e t vs p a b h = cc
inserted_is (Scalar w x) v e t vs p a b h =
    let i = inside_is t.shape vs p h in
    let q : x ≡ e = cc in
    ap (λ z. inserted (Scalar w x ∷ (z ∷ vs))) (sym (tensor_value v t b))
    ∙ ap (λ o. on_some o (λ p. only_if (same_width w t.width && is_in p t.shape)
    (tensor t.width t.shape (λ j. if same_point j p then x else element NoNumber t.shape t.elems j)))) i.numbers
    ∙ ap (λ z. only_if (same_width w t.width && z)
    (tensor t.width t.shape (λ j. if same_point j p then x else element NoNumber t.shape t.elems j))) i.lies
    ∙ ap (λ z. only_if z (tensor t.width t.shape (λ j. if same_point j p then x else element NoNumber t.shape t.elems j)))
    (and_true (same_width w t.width))
    ∙ ap (λ y. only_if (same_width w t.width)
    (tensor t.width t.shape (λ j. if same_point j p then y else element NoNumber t.shape t.elems j))) q

pub inserted_out : (u v : Value) (t : Parts) (vs : List Value) → Some t ≡ tensor_of v → None ≡ point_in t.shape vs
    → inserted (u ∷ (v ∷ vs)) ≡ None
inserted_out (Tensor w sh es) v t vs b h = refl
inserted_out (Scalar w x) v t vs b h =
    ap (λ z. inserted (Scalar w x ∷ (z ∷ vs))) (sym (tensor_value v t b)) ∙ by (indices_of vs) (h ∙ sym (point_is t.shape vs))
  where
    one : (q : Point) (b c : Bool) → None ≡ only_if b q
        → only_if (c && b) (tensor t.width t.shape (λ j. if same_point j q then x else element NoNumber t.shape t.elems j)) ≡ None
    one q true c g = cc
    one q false true g = refl
    one q false false g = refl

    by : (o : Option (List ℕ)) → None ≡ on_some o (λ p. only_if (is_in p t.shape) p)
        → on_some o (λ p. only_if (same_width w t.width && is_in p t.shape)
        (tensor t.width t.shape (λ j. if same_point j p then x else element NoNumber t.shape t.elems j))) ≡ None
    by None g = refl
    by (Some q) g = one q (is_in q t.shape) (same_width w t.width) g

pub no_part : (u v : Value) (vs : List Value) → None ≡ scalar_of u → inserted (u ∷ (v ∷ vs)) ≡ None
no_part (Scalar w x) v vs h = cc
no_part (Tensor w sh es) v vs h = refl

pub no_target : (u v : Value) (vs : List Value) → None ≡ tensor_of v → inserted (u ∷ (v ∷ vs)) ≡ None
no_target (Scalar w x) (Scalar w' y) vs h = refl
no_target (Tensor w sh es) (Scalar w' y) vs h = refl
no_target u (Tensor w sh es) vs h = cc

pub each_set : (w : Width) (elems : List Elem) (i : ℕ) (e : Elem) → Each (FitsWidth w) elems → FitsWidth w e
    → Each (FitsWidth w) (set elems i e)
each_set w [] i e h f = tt
each_set w (x ∷ xs) zero e h f = (f, h.1)
each_set w (x ∷ xs) (suc i) e h f = (h.0, each_set w xs i e h.1 f)

-- ---- what an insertion answers

pub set_value : (t : Parts) (p : Point) (e : Elem) → IsValue (as_value t) → FitsWidth t.width e
    → IsValue (Tensor t.width t.shape (set t.elems (place t.shape p) e))
set_value t p e h f =
    (h.0, (length-set t.elems (place t.shape p) e ∙ h.1.0, each_set t.width t.elems (place t.shape p) e h.1.1 f))

pub set_is : (t : Parts) (p : Point) (e : Elem) → IsValue (as_value t) → Below p t.shape
    → Tensor t.width t.shape (set t.elems (place t.shape p) e) ≡ with_elem t p e
set_is t p e h b = ap (Tensor t.width t.shape) (set_listed t.shape t.elems p e h.1.0 b)

each_with : (t : Parts) (p : Point) (e : Elem) → IsValue (as_value t) → Below p t.shape → FitsWidth t.width e
    → Each (FitsWidth t.width)
    (listed t.shape (λ j. if same_point j p then e else element NoNumber t.shape t.elems j))
each_with t p e h b f =
    subst (Each (FitsWidth t.width)) (set_listed t.shape t.elems p e h.1.0 b)
    (each_set t.width t.elems (place t.shape p) e h.1.1 f)

pub own_fits : (w v : Width) (e : Elem) → FitsWidth w e → same_width w v ≡ true → FitsWidth v e
own_fits w v e f h = subst (λ x. FitsWidth x e) (width_is w v h) f

pub given_with : (u v : Value) (e : Elem) (t : Parts) (vs : List Value) (p : Point) → Some e ≡ scalar_of u
    → Some t ≡ tensor_of v → Some p ≡ point_in t.shape vs → same_width (width_of u) t.width ≡ true
    → inserted (u ∷ (v ∷ vs)) ≡ Some (with_elem t p e)
given_with u v e t vs p a b h s =
    inserted_is u v e t vs p a b h ∙ ap (λ c. only_if c (with_elem t p e)) s

pub set_refused : (n : OpName) (ts : List PayloadType) (t : Parts) (p : Point) (e : Elem) (o : Option Value) (b b' : ℕ)
    (stop : Stop)
    → IsValue (as_value t) → Below p t.shape → FitsWidth t.width e → o ≡ Some (with_elem t p e)
    → IsAdmitted n ts t.width t.shape 0 b b' (Err stop) → Meets (given_run n ts 0 o) b b' (Err stop)
set_refused n ts t p e o b b' stop h l f q a =
    refused_meets n ts t.width t.shape
    (listed t.shape (λ j. if same_point j p then e else element NoNumber t.shape t.elems j)) 0 b b' o stop
    (length_listed t.shape (λ j. if same_point j p then e else element NoNumber t.shape t.elems j))
    (each_with t p e h l f) q a

pub set_gives : (n : OpName) (ts : List PayloadType) (t : Parts) (p : Point) (e : Elem) (o : Option Value)
    (b b' count : ℕ) (x : Value)
    → IsValue (as_value t) → Below p t.shape → FitsWidth t.width e → o ≡ Some (with_elem t p e)
    → IsAdmitted n ts t.width t.shape 0 b b' (Ok count) → x ≡ with_elem t p e
    → Meets (given_run n ts 0 o) b b' (Ok (x ∷ []))
set_gives n ts t p e o b b' count x h l f q a r =
    admitted_meets n ts t.width t.shape
    (listed t.shape (λ j. if same_point j p then e else element NoNumber t.shape t.elems j)) 0 b b' count o x
    (length_listed t.shape (λ j. if same_point j p then e else element NoNumber t.shape t.elems j))
    (each_with t p e h l f) q a r

pub place_inside : (t : Parts) (p : Point) → IsValue (as_value t) → Below p t.shape → place t.shape p < length t.elems
place_inside t p h b = omega (arith, place_below t.shape p b, h.1.0)
