-- What structured operations give fits their types, and so does what a generic hands to its block.
use Rattle.std.proofs.Common.{◌≡◌, ℕ, suc, List, [], ◌∷◌, Option, Some, None, Bool, true, false, refl, sym, ap}
use Rattle.std.proofs.Common.{◌∙◌}
use Rattle.std.proofs.Common.{subst}
use Rattle.std.proofs.lemmas.Bool.{and_parts}
use Rattle.std.specs.Prelude.{◌+◌, pos, map, length, get_or, ◌==◌, if◌then◌else◌}
use Rattle.xf_type.specs.declared.payload_type.PayloadType.{PayloadType}
use Rattle.xf_type.specs.declared.payload_type.PayloadType.TheVariants as type_of
use Rattle.xf_type.specs.declared.payload_type.Shape.{Shape}
use Rattle.xf_type.specs.declared.payload_type.Width.{Width}
use Rattle.xf_type.specs.declared.payload_type.Elem.{Elem}
use Rattle.xf_type.specs.declared.payload_type.Elem.TheVariants.{Num, NoNumber}
use Rattle.xf_type.specs.declared.attribute.AffineMap.{AffineMap}
use Rattle.xf_type.specs.declared.kind.BinKind.TheVariants as bin
use Rattle.xf_type.specs.Equal.{same_width, same_type, same_types}
use Rattle.xf_type.specs.Integers.{FitsWidth, binary}
use Rattle.xf_type.proofs.EqualTypes.{width_is, type_is, types_are}
use Rattle.xf_type.proofs.LawLemmas.{wrapped_below}
use Rattle.xf_ir.specs.declared.kind.NamedKind.{NamedKind}
use Rattle.xf_ir.specs.declared.kind.NamedKind.TheVariants.{Matmul, BatchMatmul, Matvec, Dot, Fill}
use Rattle.xf_ir.specs.Lists as lists
use Rattle.xf_ir.specs.Lists.{Each}
use Rattle.xf_ir.specs.Types.{have_types, last_type, is_tensor_with, element_of}
use Rattle.xf_ir.specs.RuleBlocks.{element_type}
use Rattle.xf_ir.specs.RuleLinalg.{has_rank, have_ranks}
use Rattle.xf_ir.specs.RuleTypes.{out_row, named_row, operand_count, has_element, fill_fits}
use Rattle.xf_points.specs.Points.{Point, points, at, product}
use Rattle.xf_points.specs.Points as point
use Rattle.xf_points.specs.Operands.{BodyOf, reads, step_of, structured}
use Rattle.xf_points.proofs.Sets.{folded_fits}
use Rattle.xf_points.proofs.Tensors.{length_points}
use Rattle.xf_sem.specs.declared.value.Value.{Value}
use Rattle.xf_sem.specs.declared.value.Value.TheVariants.{Scalar, Tensor}
use Rattle.xf_sem.specs.Values.{IsValue, FitsType, FitTypes}
use Rattle.xf_sem.specs.Actions.{Action, results}
use Rattle.xf_sem.specs.Tensors.{width_of, items_of, tensor}
use Rattle.xf_sem.specs.Structured.{Frame, extents_of, has_extents, operands, given, first_elem, through, each_index}
use Rattle.xf_sem.specs.Structured.{arguments, points_onto, on_points, product_body, fill_body, body_of, front}
use Rattle.xf_sem.specs.Structured.{out_of, frame_by, frame_of_named, named_given}
use Rattle.xf_sem.specs.Fitting.{Expected, FitsAction, FitOperands}
use Rattle.xf_sem.proofs.Products.{items_fit}
use Rattle.xf_sem.proofs.FittingRows.{if_fits}
use Rattle.xf_sem.proofs.FittingTensors.{target_fits}

-- ---- the out

-- the last operand fits the last type
pub last_fits : (vs : List Value) (os : List (Option PayloadType)) (t : PayloadType) → FitOperands vs os
    → last_type os ≡ Some t → IsValue (out_of vs) × FitsType (out_of vs) t
last_fits vs [] t f h = cc
last_fits [] (o ∷ os) t f h = elim f [ ]
last_fits (v ∷ vs) (None ∷ os) t f h = elim f [ ]
last_fits (v ∷ []) (Some u ∷ []) t f h = let q : u ≡ t = cc in subst (λ x. IsValue v × FitsType v x) q f.0
last_fits (v ∷ (v' ∷ vs)) (Some u ∷ []) t f h = elim f.1 [ ]
last_fits (v ∷ []) (Some u ∷ (o ∷ os)) t f h = elim f.1 [ ]
last_fits (v ∷ (v' ∷ vs)) (Some u ∷ (o ∷ os)) t f h = last_fits (v' ∷ vs) (o ∷ os) t f.1 h

pub tensor_at : (o : Option PayloadType) (p : Shape → Bool) → is_tensor_with p o ≡ true
    → (s : Shape) × ((o ≡ Some (type_of.Tensor s)) × (p s ≡ true))
tensor_at None p h = cc
tensor_at (Some (type_of.Scalar w)) p h = cc
tensor_at (Some (type_of.Tensor s)) p h = (s, (refl, h))

-- ---- operations with a name

added_fits : (w : Width) (a b : Elem) → FitsWidth w (binary bin.Addi w a b)
added_fits w (Num a) (Num b) = wrapped_below w (pos (a + b))
added_fits w (Num a) NoNumber = tt
added_fits w NoNumber b = tt

product_fits : (w : Width) (p : Point) (read : List Elem) (a : Elem) → FitsWidth w (product_body w p read a)
product_fits w p (x ∷ (y ∷ [])) a = added_fits w a (binary bin.Muli w x y)
product_fits w p [] a = tt
product_fits w p (x ∷ []) a = tt
product_fits w p (x ∷ (y ∷ (z ∷ read))) a = tt

-- what is read of operands of a width
read_fits : (w : Width) (maps : List (List ℕ)) (ins : List Value) (p : Point)
    → Each (λ v. IsValue v × (width_of v ≡ w)) ins → Each (FitsWidth w) (reads (operands maps ins) p)
read_fits w [] ins p h = tt
read_fits w (ks ∷ maps) [] p h = tt
read_fits w (ks ∷ maps) (v ∷ ins) p h =
    (subst (λ u. FitsWidth u (items_of v (at ks p))) h.0.1 (items_fit v (at ks p) h.0.0), read_fits w maps ins p h.1)

filled_fits : (w : Width) (p : Point) (read : List Elem) (a : Elem) → Each (FitsWidth w) read
    → FitsWidth w (fill_body p read a)
filled_fits w p (x ∷ []) a h = h.0
filled_fits w p [] a h = tt
filled_fits w p (x ∷ (y ∷ read)) a h = tt

body_fits : (which : NamedKind) (w : Width) (p : Point) (read : List Elem) (a : Elem) → Each (FitsWidth w) read
    → FitsWidth w (body_of which w p read a)
body_fits Fill w p read a h = filled_fits w p read a h
body_fits Matmul w p read a h = product_fits w p read a
body_fits BatchMatmul w p read a h = product_fits w p read a
body_fits Matvec w p read a h = product_fits w p read a
body_fits Dot w p read a h = product_fits w p read a

every_point : (ps : List Point) → point.Each (λ p. Unit {0}) ps
every_point [] = tt
every_point (p ∷ ps) = (tt, every_point ps)

given_fits_type : (f : Frame) (body : BodyOf Elem) (ins : List Value) (out : Value) (t : PayloadType)
    (ts : List PayloadType) (v : Value)
    → ((p : Point) (a : Elem) → FitsWidth (width_of out) (step_of body (operands f.maps ins) p a)) → IsValue out
    → FitsType out t → ts ≡ t ∷ [] → given f body ins out ≡ Some v → FitTypes (v ∷ []) ts
given_fits_type f body ins (Scalar w a) t ts v k i h e g = cc
given_fits_type f body ins (Tensor w shape elems) t ts v k i h e g = cases (has_extents f ins (Tensor w shape elems)) g
  where
    cases : (b : Bool)
        → (if b then Some (tensor w shape
        (structured (extents_of f ins (Tensor w shape elems)) f.out body (operands f.maps ins)
        (items_of (Tensor w shape elems)))) else None) ≡ Some v
        → FitTypes (v ∷ []) ts
    cases true g =
        let made = structured (extents_of f ins (Tensor w shape elems)) f.out body (operands f.maps ins)
        (items_of (Tensor w shape elems)) in
        let q : tensor w shape made ≡ v = cc in
        subst (λ z. FitTypes (z ∷ []) ts) q
        (target_fits w shape elems t ts made i h e
        (λ j. folded_fits (λ p. Unit {0}) (FitsWidth w) _ (step_of body (operands f.maps ins))
        (points (extents_of f ins
        (Tensor w shape elems))) _ (every_point (points (extents_of f ins (Tensor w shape elems)))) (λ p a _ _. k p a)
        (items_fit (Tensor w shape elems) j i)))
    cases false g = cc

pub width_at : (v : Value) (t : PayloadType) → FitsType v t → width_of v ≡ element_of t
width_at (Scalar u a) (type_of.Scalar w) h = h
width_at (Scalar u a) (type_of.Tensor s) h = elim h [ ]
width_at (Tensor u shape elems) (type_of.Scalar w) h = elim h [ ]
width_at (Tensor u shape elems) (type_of.Tensor s) h = h.0

-- operands of the out's elements
front_fits : (w : Width) (vs : List Value) (os : List (Option PayloadType)) → FitOperands vs os
    → lists.every (has_element w) os ≡ true → Each (λ v. IsValue v × (width_of v ≡ w)) (front vs)
front_fits w [] os f h = tt
front_fits w (v ∷ []) os f h = tt
front_fits w (v ∷ (v' ∷ vs)) [] f h = elim f [ ]
front_fits w (v ∷ (v' ∷ vs)) (None ∷ os) f h = elim f [ ]
front_fits w (v ∷ (v' ∷ vs)) (Some t ∷ os) f h =
    let p = and_parts (same_width (element_of t) w) (lists.every (has_element w) os) h in
    ((f.0.0, width_at v t f.0.1 ∙ width_is (element_of t) w p.0), front_fits w (v' ∷ vs) os f.1 p.1)

pub named_fits : (which : NamedKind) (vs : List Value) (os : List (Option PayloadType)) (ts : List PayloadType)
    (v : Value)
    → FitOperands vs os → named_row which os ts ≡ true → named_given which vs ≡ Some v → FitTypes (v ∷ []) ts
named_fits which vs os ts v f r h =
    let p = and_parts (length os == operand_count which) _ r in
    let q = and_parts (out_row os ts) _ p.1 in
    let o = tensor_at (last_type os) (λ s. same_types ts (type_of.Tensor s ∷ [])) q.0 in
    let z = and_parts (is_tensor_with (λ s. lists.every (has_element s.elem) os) (last_type os))
    (fill_fits which os) q.1 in
    let e = tensor_at (last_type os) (λ s. lists.every (has_element s.elem) os) z.0 in
    let l = last_fits vs os (type_of.Tensor o.0) f o.1.0 in
    let l' = last_fits vs os (type_of.Tensor e.0) f e.1.0 in
    let w : width_of (out_of vs) ≡ e.0.elem = width_at (out_of vs) (type_of.Tensor e.0) l'.1 in
    let reads_fit = front_fits e.0.elem vs os f e.1.1 in
    given_fits_type (frame_of_named which vs) (body_of which (width_of (out_of vs))) (front vs) (out_of vs)
    (type_of.Tensor o.0) ts v
    (λ p a. body_fits which (width_of (out_of vs)) p _ a (subst (λ u. Each (FitsWidth u) (reads (operands
    (frame_of_named which vs).maps (front vs)) p)) (sym w)
    (read_fits e.0.elem (frame_of_named which vs).maps (front vs) p
    reads_fit))) l.0 l.1 (types_are ts (type_of.Tensor o.0 ∷ []) o.1.1) h

-- ---- a block that is entered once a point

first_fits : (w : Width) (ws : List Value) → FitTypes ws (type_of.Scalar w ∷ []) → FitsWidth w (first_elem ws)
first_fits w [] h = elim h [ ]
first_fits w (Scalar u a ∷ ws) h = subst (λ z. FitsWidth z a) h.0.1 h.0.0
first_fits w (Tensor u shape elems ∷ ws) h = elim h.0.1 [ ]

module _ (x : Expected) (w : Width) (gives_one : x.gives ≡ type_of.Scalar w ∷ []) where
  through_fits : (args : Point → Elem → List Value) (go : Elem → Action)
      → ((p : Point) (a : Elem) → FitsWidth w a → FitTypes (args p a) (get_or x.args 0 []))
      → ((a : Elem) → FitsWidth w a → FitsAction x (go a)) → (ps : List Point) (a : Elem) → FitsWidth w a
      → FitsAction x (through args ps a go)
  through_fits args go h k [] a f = k a f
  through_fits args go h k (p ∷ ps) a f = (
    h p a f,
    λ ws g. through_fits args go h k ps (first_elem ws)
        (first_fits w ws (subst (FitTypes ws) gives_one g)),
  )

  indices_fit : (at_index : Point → (Elem → Action) → Action)
      → ((j : Point) (go : Elem → Action) → ((a : Elem) → FitsWidth w a → FitsAction x (go a))
      → FitsAction x (at_index j go))
      → (js : List Point) (go : List Elem → Action)
      → ((made : List Elem) → length made ≡ length js → Each (FitsWidth w) made → FitsAction x (go made))
      → FitsAction x (each_index at_index js go)
  indices_fit at_index h [] go k = k [] refl tt
  indices_fit at_index h (j ∷ js) go k =
      h j (λ a. each_index at_index js (λ more. go (a ∷ more)))
      (λ a f. indices_fit at_index h js (λ more. go (a ∷ more)) (λ more l e. k (a ∷ more) (ap suc l) (f, e)))

made_fits : (w : Width) (shape : List ℕ) (elems made : List Elem) (t : PayloadType) → IsValue (Tensor w shape elems)
    → FitsType (Tensor w shape elems) t → length made ≡ length (points shape) → Each (FitsWidth w) made
    → FitTypes (Tensor w shape made ∷ []) (t ∷ [])
made_fits w shape elems made (type_of.Tensor s) i h l e = (((i.0, (l ∙ length_points shape, e)), h), tt)
made_fits w shape elems made (type_of.Scalar u) i h l e = elim h [ ]

pub points_fit : (x : Expected) (f : Frame) (ins : List Value) (out : Value) (t : PayloadType) → IsValue out
    → FitsType out t → x.results ≡ t ∷ [] → x.gives ≡ type_of.Scalar (width_of out) ∷ []
    → ((p : Point) (a : Elem) → FitsWidth (width_of out) a
    → FitTypes (arguments f.maps ins out p a) (get_or x.args 0 []))
    → FitsAction x (on_points f ins out)
points_fit x f ins (Scalar w a) t i h r g k = tt
points_fit x f ins (Tensor w shape elems) t i h r g k =
    let out = Tensor w shape elems in
    if_fits x (has_extents f ins out) _
    (λ _.
    indices_fit x w g (λ j. through (arguments f.maps ins out) (points_onto f ins out j) (items_of out j))
    (λ j go m.
    through_fits x w g (arguments f.maps ins out) go k m (points_onto f ins out j) (items_of out j)
    (items_fit out j i))
    (points shape) (λ made. results (Tensor w shape made ∷ []))
    (λ made l e. subst (FitTypes (Tensor w shape made ∷ [])) (sym r) (made_fits w shape elems made t i h l e)))

-- ---- the arguments of the block

arguments_fit : (maps : List AffineMap) (v : Value) (vs : List Value) (os : List (Option PayloadType))
    (args : List PayloadType) (p : Point) (a : Elem)
    → FitOperands (v ∷ vs) os → have_ranks maps os ≡ true → have_types (map element_type os) args ≡ true
    → FitsWidth (width_of (out_of (v ∷ vs))) a
    → FitTypes
    (arguments (map (λ (m : AffineMap). m.results) (front maps)) (front (v ∷ vs)) (out_of (v ∷ vs)) p a) args
arguments_fit maps v vs [] args p a f r h k = elim f [ ]
arguments_fit maps v vs (None ∷ os) args p a f r h k = elim f [ ]
arguments_fit [] v vs (Some t ∷ os) args p a f r h k = cc
arguments_fit (m ∷ maps) v vs (Some t ∷ os) [] p a f r h k = cc
arguments_fit (m ∷ []) v [] (Some t ∷ []) (u ∷ args) p a f r h k =
    let q = and_parts (same_type (type_of.Scalar (element_of t)) u) (have_types [] args) h in
    let e = type_is (type_of.Scalar (element_of t)) u q.0 in
    let w = width_at v t f.0.1 in
    (subst (λ z. IsValue (Scalar (width_of v) a) × FitsType (Scalar (width_of v) a) z) e (k, w), no_more args q.1)
  where
    no_more : (us : List PayloadType) → have_types [] us ≡ true → FitTypes [] us
    no_more [] h = tt
    no_more (u ∷ us) h = cc
arguments_fit (m ∷ []) v [] (Some t ∷ (o ∷ os)) (u ∷ args) p a f r h k = elim f.1 [ ]
arguments_fit (m ∷ []) v (v' ∷ vs) (Some t ∷ []) (u ∷ args) p a f r h k = elim f.1 [ ]
arguments_fit (m ∷ []) v (v' ∷ vs) (Some t ∷ (o ∷ os)) (u ∷ args) p a f r h k =
    let q = and_parts (has_rank (length m.results) (Some t)) (have_ranks [] (o ∷ os)) r in let z = q.1 in cc
arguments_fit (m ∷ (m' ∷ maps)) v [] (Some t ∷ []) (u ∷ args) p a f r h k =
    let q = and_parts (has_rank (length m.results) (Some t)) (have_ranks (m' ∷ maps) []) r in let z = q.1 in cc
arguments_fit (m ∷ (m' ∷ maps)) v [] (Some t ∷ (o ∷ os)) (u ∷ args) p a f r h k = elim f.1 [ ]
arguments_fit (m ∷ (m' ∷ maps)) v (v' ∷ vs) (Some t ∷ os) (u ∷ args) p a f r h k =
    let q = and_parts (same_type (type_of.Scalar (element_of t)) u) (have_types (map element_type os) args) h in
    let e = type_is (type_of.Scalar (element_of t)) u q.0 in
    let w = width_at v t f.0.1 in
    let b = items_of v (at m.results p) in (
      subst (λ z. IsValue (Scalar (width_of v) b) × FitsType (Scalar (width_of v) b) z) e (items_fit v _ f.0.0, w),
      arguments_fit (m' ∷ maps) v' vs os args p a f.1
          (and_parts (has_rank (length m.results) (Some t)) (have_ranks (m' ∷ maps) os) r).1 q.1 k,
    )

pub generic_row : (x : Expected) (rank : ℕ) (maps : List AffineMap) (vs : List Value) (os : List (Option PayloadType))
    (t : PayloadType)
    → FitOperands vs os → last_type os ≡ Some t → x.results ≡ t ∷ [] → x.gives ≡ type_of.Scalar (element_of t) ∷ []
    → have_ranks maps os ≡ true → have_types (map element_type os) (get_or x.args 0 []) ≡ true
    → FitsAction x (on_points (frame_by rank maps) (front vs) (out_of vs))
generic_row x rank maps [] [] t f l r g m h = cc
generic_row x rank maps [] (o ∷ os) t f l r g m h = elim f [ ]
generic_row x rank maps (v ∷ vs) os t f l r g m h =
    let q = last_fits (v ∷ vs) os t f l in
    points_fit x (frame_by rank maps) (front (v ∷ vs)) (out_of (v ∷ vs)) t q.0 q.1 r
    (g ∙ ap (λ w. type_of.Scalar w ∷ []) (sym (width_at (out_of (v ∷ vs)) t q.1)))
    (λ p a k. arguments_fit maps v vs os (get_or x.args 0 []) p a f m h k)
