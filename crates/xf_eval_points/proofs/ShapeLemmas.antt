-- Maps and operands without the last, and the last; frames from maps that are seen.
use Rattle.std.proofs.Common.{◌≡◌, ◌≢◌, ℕ, zero, suc, ◌+◌, ◌-◌, ◌<◌, ◌≤◌, List, [], ◌∷◌, length, get_or, take, refl, sym, ap}
use Rattle.std.proofs.Common.{◌∙◌, arith, Option, Some, None, Bool, true, false, subst}
use Rattle.std.specs.Prelude.{map, if◌then◌else◌, ◌&&◌}
use Rattle.xf_type.specs.declared.payload_type.Elem.{Elem}
use Rattle.xf_type.specs.declared.payload_type.Elem.TheVariants.{NoNumber}
use Rattle.xf_type.specs.declared.payload_type.Width.TheVariants.{I1}
use Rattle.xf_type.specs.declared.attribute.AffineMap.{AffineMap}
use Rattle.xf_ir.specs.RuleLinalg.{last_results}
use Rattle.xf_points.specs.Operands.{BodyOf}
use Rattle.xf_sem.specs.declared.value.Value.{Value}
use Rattle.xf_sem.specs.declared.value.Value.TheVariants.{Scalar, Tensor}
use Rattle.xf_sem.specs.Tensors.{shape_of}
use Rattle.xf_sem.specs.Structured.{Frame, end_with, all_maps, all_shapes, extents, agree, given, front, last_or, out_of}
use Rattle.xf_sem.specs.Structured.{frame_by, extents_of, on_points, each_index}
use Rattle.xf_sem.specs.Actions.{results, is_undefined}
use Rattle.xf_points.specs.Points.{points, at, same_point}
use Rattle.xf_points.proofs.Maps.{same_point-true}
use Rattle.std.proofs.lemmas.Bool.{and_parts, both_ways}
use Rattle.xf_eval_values.specs.declared.held.Tensor.{Tensor as Parts}
use Rattle.xf_eval_values.specs.Held.{tensor_of, as_value}
use Rattle.xf_eval_points.specs.Frames.{maps_seen, shapes, frame_seen, agreed, made, entered}

-- ---- all but the last, and the last

less_one : (n : ℕ) → suc n - 1 ≡ n
less_one n = omega arith

less_two : (n : ℕ) → suc (suc n) - 1 ≡ suc n
less_two n = omega arith

pub front_taken : {A : Type 0} (xs : List A) → front xs ≡ take (length xs - 1) xs
front_taken [] = refl
front_taken (x ∷ []) = refl
front_taken (x ∷ (y ∷ xs)) =
    ap (λ ys. x ∷ ys) (front_taken (y ∷ xs)) ∙ ap (λ n. x ∷ take n (y ∷ xs)) (less_one (length xs))
    ∙ ap (λ n. take n (x ∷ (y ∷ xs))) (sym (less_two (length xs)))

pub last_got : {A : Type 0} (none : A) (xs : List A) → last_or none xs ≡ get_or xs (length xs - 1) none
last_got none [] = refl
last_got none (x ∷ []) = refl
last_got none (x ∷ (y ∷ xs)) =
    last_got x (y ∷ xs) ∙ ap (λ n. get_or (y ∷ xs) n x) (less_one (length xs))
    ∙ other x none (y ∷ xs) (length xs) (omega arith)
    ∙ ap (λ n. get_or (x ∷ (y ∷ xs)) n none) (sym (less_two (length xs)))
  where
    other : {A : Type 0} (d e : A) (xs : List A) (n : ℕ) → n < length xs → get_or xs n d ≡ get_or xs n e
    other d e [] n h = absurd (omega arith)
    other d e (x ∷ xs) zero h = refl
    other d e (x ∷ xs) (suc n) h = other d e xs n (omega arith)

pub out_got : (vs : List Value) (v : Value) → 0 < length vs → v ≡ get_or vs (length vs - 1) v → v ≡ out_of vs
out_got [] v h e = absurd (omega arith)
out_got (x ∷ vs) v h e = e ∙ sym (last_got v (x ∷ vs))

joined : {A : Type 0} (none x : A) (xs : List A) → end_with (front (x ∷ xs)) (last_or none (x ∷ xs)) ≡ x ∷ xs
joined none x [] = refl
joined none x (y ∷ xs) = ap (λ ys. x ∷ ys) (joined x y xs)

-- ---- frames

front_map : (ms : List AffineMap) → map (λ (m : AffineMap). m.results) (front ms) ≡ front (map (λ (m : AffineMap). m.results) ms)
front_map [] = refl
front_map (m ∷ []) = refl
front_map (m ∷ (m' ∷ ms)) = ap (λ ys. m.results ∷ ys) (front_map (m' ∷ ms))

last_map : (none : List ℕ) (m : AffineMap) (ms : List AffineMap)
    → last_results (m ∷ ms) ≡ last_or none (map (λ (m : AffineMap). m.results) (m ∷ ms))
last_map none m [] = refl
last_map none m (m' ∷ ms) = last_map m.results m' ms

frame_of : ℕ → List (List ℕ) → List ℕ → Frame
frame_of rank maps out = record { rank = rank; maps = maps; out = out }

pub frame_is : (rank : ℕ) (ms : List AffineMap) → frame_by rank ms ≡ frame_seen rank (maps_seen ms)
unfolding frame_of
frame_is rank [] = refl
frame_is rank (m ∷ ms) =
    ap (λ maps. frame_of rank maps (last_results (m ∷ ms))) (front_map (m ∷ ms))
    ∙ ap (frame_of rank (front (map (λ (m : AffineMap). m.results) (m ∷ ms)))) (last_map [] m ms)

pub maps_are : (rank : ℕ) (ms : List AffineMap) → all_maps (frame_seen rank (maps_seen ms)) ≡ maps_seen ms
maps_are rank [] = refl
maps_are rank (m ∷ ms) = joined [] m.results (map (λ (m : AffineMap). m.results) ms)

-- ---- the out

shapes_joined : (x : Value) (none : Value) (vs : List Value)
    → end_with (map shape_of (front (x ∷ vs))) (shape_of (last_or none (x ∷ vs))) ≡ shapes (x ∷ vs)
shapes_joined x none [] = refl
shapes_joined x none (y ∷ vs) = ap (λ ys. shape_of x ∷ ys) (shapes_joined y x vs)

pub shapes_are : (vs : List Value) (t : Parts) → tensor_of (out_of vs) ≡ Some t → all_shapes (front vs) (out_of vs) ≡ shapes vs
shapes_are [] t e = cc
shapes_are (x ∷ vs) t e = shapes_joined x (Scalar I1 NoNumber) vs

pub value_is : (v : Value) (t : Parts) → tensor_of v ≡ Some t → v ≡ as_value t
value_is (Scalar w e) t h = cc
value_is (Tensor w sh es) t h =
    let q : record { width = w; shape = sh; elems = es } ≡ t = cc in ap as_value q

pub extents_are : (rank : ℕ) (ms : List AffineMap) (vs : List Value) (t : Parts) → tensor_of (out_of vs) ≡ Some t
    → extents_of (frame_by rank ms) (front vs) (out_of vs) ≡ extents rank (maps_seen ms) (shapes vs)
extents_are rank ms vs t e =
    ap (λ f. extents_of f (front vs) (out_of vs)) (frame_is rank ms)
    ∙ ap (λ maps. extents rank maps (all_shapes (front vs) (out_of vs))) (maps_are rank ms)
    ∙ ap (extents rank (maps_seen ms)) (shapes_are vs t e)

-- ---- operations with a name

-- what the operation gives, where its out is a tensor
pub given_made : (rank : ℕ) (ms : List AffineMap) (body : BodyOf Elem) (vs : List Value) (t : Parts) (es : List ℕ)
    → tensor_of (out_of vs) ≡ Some t → Some es ≡ agreed rank (maps_seen ms) vs
    → given (frame_by rank ms) body (front vs) (out_of vs)
    ≡ Some (Tensor t.width t.shape
    (made body es (front (maps_seen ms)) (front vs) (last_or [] (maps_seen ms)) t))
given_made rank ms body vs t es e a =
    let M = maps_seen ms in
    let f = frame_seen rank M in
    let all = all_shapes (front vs) (out_of vs) in
    ap (λ g. given g body (front vs) (out_of vs)) (frame_is rank ms)
    ∙ ap (given f body (front vs)) (value_is (out_of vs) t e)
    ∙ by t (agree (extents rank M (shapes vs)) M (shapes vs)) refl a
    (sym (ap (λ o. all_shapes (front vs) o) (value_is (out_of vs) t e)) ∙ shapes_are vs t e)
  where
    by : (t : Parts) (b : Bool) → agree (extents rank (maps_seen ms) (shapes vs)) (maps_seen ms) (shapes vs) ≡ b
        → Some es ≡ (if b then Some (extents rank (maps_seen ms) (shapes vs)) else None)
        → all_shapes (front vs) (as_value t) ≡ shapes vs
        → given (frame_seen rank (maps_seen ms)) body (front vs) (as_value t)
        ≡ Some (Tensor t.width t.shape
        (made body es (front (maps_seen ms)) (front vs) (last_or [] (maps_seen ms)) t))
    by t false q a s = cc
    by t true q a s =
        let M = maps_seen ms in
        let f = frame_seen rank M in
        let whole : extents rank (all_maps f) (all_shapes (front vs) (as_value t)) ≡ extents rank M (shapes vs) =
        ap (λ maps. extents rank maps (all_shapes (front vs) (as_value t))) (maps_are rank ms)
        ∙ ap (extents rank M) s in
        let own : es ≡ extents rank M (shapes vs) = cc in
        let has : agree (extents rank (all_maps f) (all_shapes (front vs) (as_value t))) (all_maps f)
        (all_shapes (front vs) (as_value t)) ≡ true =
        ap (λ us. agree us (all_maps f) (all_shapes (front vs) (as_value t))) whole
        ∙ ap (λ maps. agree (extents rank M (shapes vs)) maps (all_shapes (front vs) (as_value t))) (maps_are rank ms)
        ∙ ap (agree (extents rank M (shapes vs)) M) s ∙ q in
        ap (λ b. if b then Some (Tensor t.width t.shape
        (made body (extents rank (all_maps f) (all_shapes (front vs) (as_value t))) (front M) (front vs) (last_or [] M) t))
        else None) has
        ∙ ap (λ us. Some (Tensor t.width t.shape (made body us (front M) (front vs) (last_or [] M) t)))
        (whole ∙ sym own)

pub given_none : (rank : ℕ) (ms : List AffineMap) (body : BodyOf Elem) (vs : List Value) (t : Parts)
    → tensor_of (out_of vs) ≡ Some t → None ≡ agreed rank (maps_seen ms) vs
    → given (frame_by rank ms) body (front vs) (out_of vs) ≡ None
given_none rank ms body vs t e a =
    ap (λ g. given g body (front vs) (out_of vs)) (frame_is rank ms)
    ∙ ap (given (frame_seen rank (maps_seen ms)) body (front vs)) (value_is (out_of vs) t e)
    ∙ by t (agree (extents rank (maps_seen ms) (shapes vs)) (maps_seen ms) (shapes vs)) refl a
    (sym (ap (λ o. all_shapes (front vs) o) (value_is (out_of vs) t e)) ∙ shapes_are vs t e)
  where
    by : (t : Parts) (b : Bool) → agree (extents rank (maps_seen ms) (shapes vs)) (maps_seen ms) (shapes vs) ≡ b
        → None ≡ (if b then Some (extents rank (maps_seen ms) (shapes vs)) else None)
        → all_shapes (front vs) (as_value t) ≡ shapes vs
        → given (frame_seen rank (maps_seen ms)) body (front vs) (as_value t) ≡ None
    by t true q a s = cc
    by t false q a s =
        let M = maps_seen ms in
        let f = frame_seen rank M in
        let whole : extents rank (all_maps f) (all_shapes (front vs) (as_value t)) ≡ extents rank M (shapes vs) =
        ap (λ maps. extents rank maps (all_shapes (front vs) (as_value t))) (maps_are rank ms)
        ∙ ap (extents rank M) s in
        let has : agree (extents rank (all_maps f) (all_shapes (front vs) (as_value t))) (all_maps f)
        (all_shapes (front vs) (as_value t)) ≡ false =
        ap (λ us. agree us (all_maps f) (all_shapes (front vs) (as_value t))) whole
        ∙ ap (λ maps. agree (extents rank M (shapes vs)) maps (all_shapes (front vs) (as_value t))) (maps_are rank ms)
        ∙ ap (agree (extents rank M (shapes vs)) M) s ∙ q in
        ap (λ b. if b then Some (Tensor t.width t.shape
        (made body (extents rank (all_maps f) (all_shapes (front vs) (as_value t))) (front M) (front vs) (last_or [] M) t))
        else None) has

scalar_none : (f : Frame) (body : BodyOf Elem) (ins : List Value) (v : Value) → tensor_of v ≡ None → given f body ins v ≡ None
scalar_none f body ins (Scalar w a) e = refl
scalar_none f body ins (Tensor w sh es) e = cc

pub given_scalar : (f : Frame) (body : BodyOf Elem) (vs : List Value) → tensor_of (out_of vs) ≡ None
    → given f body (front vs) (out_of vs) ≡ None
given_scalar f body vs e = scalar_none f body (front vs) (out_of vs) e

-- ---- generics

-- what a generic does, where its out is a tensor
pub points_made : (rank : ℕ) (ms : List AffineMap) (vs : List Value) (t : Parts) (es : List ℕ)
    → tensor_of (out_of vs) ≡ Some t → Some es ≡ agreed rank (maps_seen ms) vs
    → on_points (frame_by rank ms) (front vs) (out_of vs)
    ≡ each_index (entered es (front (maps_seen ms)) (front vs) (last_or [] (maps_seen ms)) t) (points t.shape)
    (λ made. results (Tensor t.width t.shape made ∷ []))
points_made rank ms vs t es e a =
    ap (λ g. on_points g (front vs) (out_of vs)) (frame_is rank ms)
    ∙ ap (on_points (frame_seen rank (maps_seen ms)) (front vs)) (value_is (out_of vs) t e)
    ∙ by t (agree (extents rank (maps_seen ms) (shapes vs)) (maps_seen ms) (shapes vs)) refl a
    (sym (ap (λ o. all_shapes (front vs) o) (value_is (out_of vs) t e)) ∙ shapes_are vs t e)
  where
    by : (t : Parts) (b : Bool) → agree (extents rank (maps_seen ms) (shapes vs)) (maps_seen ms) (shapes vs) ≡ b
        → Some es ≡ (if b then Some (extents rank (maps_seen ms) (shapes vs)) else None)
        → all_shapes (front vs) (as_value t) ≡ shapes vs
        → on_points (frame_seen rank (maps_seen ms)) (front vs) (as_value t)
        ≡ each_index (entered es (front (maps_seen ms)) (front vs) (last_or [] (maps_seen ms)) t) (points t.shape)
        (λ made. results (Tensor t.width t.shape made ∷ []))
    by t false q a s = cc
    by t true q a s =
        let M = maps_seen ms in
        let f = frame_seen rank M in
        let whole : extents rank (all_maps f) (all_shapes (front vs) (as_value t)) ≡ extents rank M (shapes vs) =
        ap (λ maps. extents rank maps (all_shapes (front vs) (as_value t))) (maps_are rank ms)
        ∙ ap (extents rank M) s in
        let own : es ≡ extents rank M (shapes vs) = cc in
        let has : agree (extents rank (all_maps f) (all_shapes (front vs) (as_value t))) (all_maps f)
        (all_shapes (front vs) (as_value t)) ≡ true =
        ap (λ us. agree us (all_maps f) (all_shapes (front vs) (as_value t))) whole
        ∙ ap (λ maps. agree (extents rank M (shapes vs)) maps (all_shapes (front vs) (as_value t))) (maps_are rank ms)
        ∙ ap (agree (extents rank M (shapes vs)) M) s ∙ q in
        let go = (λ (made : List Elem). results (Tensor t.width t.shape made ∷ [])) in
        ap (λ b. if b then each_index (entered (extents rank (all_maps f) (all_shapes (front vs) (as_value t))) (front M) (front vs) (last_or [] M) t)
        (points t.shape) go else is_undefined) has
        ∙ ap (λ us. each_index (entered us (front M) (front vs) (last_or [] M) t) (points t.shape) go) (whole ∙ sym own)

pub points_none : (rank : ℕ) (ms : List AffineMap) (vs : List Value) (t : Parts)
    → tensor_of (out_of vs) ≡ Some t → None ≡ agreed rank (maps_seen ms) vs
    → on_points (frame_by rank ms) (front vs) (out_of vs) ≡ is_undefined
points_none rank ms vs t e a =
    ap (λ g. on_points g (front vs) (out_of vs)) (frame_is rank ms)
    ∙ ap (on_points (frame_seen rank (maps_seen ms)) (front vs)) (value_is (out_of vs) t e)
    ∙ by t (agree (extents rank (maps_seen ms) (shapes vs)) (maps_seen ms) (shapes vs)) refl a
    (sym (ap (λ o. all_shapes (front vs) o) (value_is (out_of vs) t e)) ∙ shapes_are vs t e)
  where
    by : (t : Parts) (b : Bool) → agree (extents rank (maps_seen ms) (shapes vs)) (maps_seen ms) (shapes vs) ≡ b
        → None ≡ (if b then Some (extents rank (maps_seen ms) (shapes vs)) else None)
        → all_shapes (front vs) (as_value t) ≡ shapes vs
        → on_points (frame_seen rank (maps_seen ms)) (front vs) (as_value t) ≡ is_undefined
    by t true q a s = cc
    by t false q a s =
        let M = maps_seen ms in
        let f = frame_seen rank M in
        let whole : extents rank (all_maps f) (all_shapes (front vs) (as_value t)) ≡ extents rank M (shapes vs) =
        ap (λ maps. extents rank maps (all_shapes (front vs) (as_value t))) (maps_are rank ms)
        ∙ ap (extents rank M) s in
        let has : agree (extents rank (all_maps f) (all_shapes (front vs) (as_value t))) (all_maps f)
        (all_shapes (front vs) (as_value t)) ≡ false =
        ap (λ us. agree us (all_maps f) (all_shapes (front vs) (as_value t))) whole
        ∙ ap (λ maps. agree (extents rank M (shapes vs)) maps (all_shapes (front vs) (as_value t))) (maps_are rank ms)
        ∙ ap (agree (extents rank M (shapes vs)) M) s ∙ q in
        ap (λ b. if b then each_index (entered (extents rank (all_maps f) (all_shapes (front vs) (as_value t))) (front M) (front vs) (last_or [] M) t)
        (points t.shape) (λ made. results (Tensor t.width t.shape made ∷ [])) else is_undefined) has

scalar_undefined : (f : Frame) (ins : List Value) (v : Value) → tensor_of v ≡ None → on_points f ins v ≡ is_undefined
scalar_undefined f ins (Scalar w a) e = refl
scalar_undefined f ins (Tensor w sh es) e = cc

pub points_scalar : (f : Frame) (vs : List Value) → tensor_of (out_of vs) ≡ None
    → on_points f (front vs) (out_of vs) ≡ is_undefined
points_scalar f vs e = scalar_undefined f (front vs) (out_of vs) e

-- the out has the sizes that its map selects of the extents, and there is a map for each operand
last_agrees : (es : List ℕ) (none : List ℕ) (x : Value) (ks : List ℕ) (maps : List (List ℕ)) (none' : Value) (vs : List Value)
    → agree es (ks ∷ maps) (shapes (x ∷ vs)) ≡ true
    → shape_of (last_or none' (x ∷ vs)) ≡ at (last_or none (ks ∷ maps)) es
last_agrees es none x ks [] none' [] h = same_point-true (shape_of x) (at ks es) (and_parts (same_point (shape_of x) (at ks es)) true h).0
last_agrees es none x ks [] none' (y ∷ vs) h = absurd (both_ways (same_point (shape_of x) (at ks es) && false) (and_false (same_point (shape_of x) (at ks es))) h)
  where
    and_false : (b : Bool) → (b && false) ≡ false
    and_false true = refl
    and_false false = refl
last_agrees es none x ks (ks' ∷ maps) none' [] h = absurd (both_ways (same_point (shape_of x) (at ks es) && false) (and_false (same_point (shape_of x) (at ks es))) h)
  where
    and_false : (b : Bool) → (b && false) ≡ false
    and_false true = refl
    and_false false = refl
last_agrees es none x ks (ks' ∷ maps) none' (y ∷ vs) h =
    last_agrees es ks y ks' maps x vs (and_parts (same_point (shape_of x) (at ks es)) (agree es (ks' ∷ maps) (shapes (y ∷ vs))) h).1

agree_length : (es : List ℕ) (maps : List (List ℕ)) (vs : List Value) → agree es maps (shapes vs) ≡ true
    → length maps ≡ length vs
agree_length es [] [] h = refl
agree_length es [] (v ∷ vs) h = cc
agree_length es (ks ∷ maps) [] h = cc
agree_length es (ks ∷ maps) (v ∷ vs) h =
    ap suc (agree_length es maps vs (and_parts (same_point (shape_of v) (at ks es)) (agree es maps (shapes vs)) h).1)

pub record Agrees (maps : List (List ℕ)) (vs : List Value) (t : Parts) (es : List ℕ) : Type 0 where
  pub same : length (front maps) ≡ length (front vs)
  pub out : t.shape ≡ at (last_or [] maps) es

front_length : {A : Type 0} (xs : List A) → length (front xs) ≡ length xs - 1
front_length [] = refl
front_length (x ∷ []) = refl
front_length (x ∷ (y ∷ xs)) =
    ap suc (front_length (y ∷ xs)) ∙ (let z : suc (suc (length xs) - 1) ≡ suc (suc (length xs)) - 1 = omega arith in z)

pub agreed_parts : (rank : ℕ) (ms : List AffineMap) (vs : List Value) (t : Parts) (es : List ℕ)
    → tensor_of (out_of vs) ≡ Some t → Some es ≡ agreed rank (maps_seen ms) vs → Agrees (maps_seen ms) vs t es
agreed_parts rank ms vs t es e a =
    by (agree (extents rank (maps_seen ms) (shapes vs)) (maps_seen ms) (shapes vs)) refl a
  where
    shaped : (ms' : List (List ℕ)) → 0 < length ms' → agree es ms' (shapes vs) ≡ true → (vs' : List Value) → vs' ≡ vs → tensor_of (out_of vs') ≡ Some t
        → t.shape ≡ at (last_or [] ms') es
    shaped [] l h vs' q k = absurd (omega arith)
    shaped (ks ∷ maps) l h [] q k = cc
    shaped (ks ∷ maps) l h (x ∷ us) q k =
        sym (ap shape_of (value_is (out_of (x ∷ us)) t k))
        ∙ last_agrees es [] x ks maps (Scalar I1 NoNumber) us (subst (λ ws. agree es (ks ∷ maps) (shapes ws) ≡ true) (sym q) h)

    some_map : (ms : List AffineMap) → 0 < length (maps_seen ms)
    some_map [] = omega arith
    some_map (m ∷ ms) = omega arith

    by : (b : Bool) → agree (extents rank (maps_seen ms) (shapes vs)) (maps_seen ms) (shapes vs) ≡ b
        → Some es ≡ (if b then Some (extents rank (maps_seen ms) (shapes vs)) else None) → Agrees (maps_seen ms) vs t es
    by false q a = cc
    by true q a =
        let own : es ≡ extents rank (maps_seen ms) (shapes vs) = cc in
        let h : agree es (maps_seen ms) (shapes vs) ≡ true =
        ap (λ us. agree us (maps_seen ms) (shapes vs)) own ∙ q in
        record {
          same = front_length (maps_seen ms) ∙ ap (λ n. n - 1) (agree_length es (maps_seen ms) vs h) ∙ sym (front_length vs);
          out = shaped (maps_seen ms) (some_map ms) h vs refl e;
        }

pub agreed_extents_are : (rank : ℕ) (maps : List (List ℕ)) (vs : List Value) (es : List ℕ) → Some es ≡ agreed rank maps vs
    → es ≡ extents rank maps (shapes vs)
agreed_extents_are rank maps vs es a = by (agree (extents rank maps (shapes vs)) maps (shapes vs)) a
  where
    by : (b : Bool) → Some es ≡ (if b then Some (extents rank maps (shapes vs)) else None)
        → es ≡ extents rank maps (shapes vs)
    by true a = cc
    by false a = cc
