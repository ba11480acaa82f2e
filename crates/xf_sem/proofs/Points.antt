-- Results are over sets of points, and entering a block once a point gives them.
use Rattle.std.proofs.Common.{◌≡◌, ℕ, zero, suc, List, [], ◌∷◌, Some, None, Bool, true, false, refl, ap, ◌∙◌}
use Rattle.std.specs.Prelude.{map, fold, filter, cond, get_or, if◌then◌else◌}
use Rattle.xf_type.specs.declared.payload_type.Width.{Width}
use Rattle.xf_type.specs.declared.payload_type.Elem.{Elem}
use Rattle.xf_type.specs.declared.payload_type.Elem.TheVariants.{NoNumber}
use Rattle.xf_type.specs.declared.kind.Combiner.{Combiner}
use Rattle.xf_type.specs.Integers.{FitsWidth, combined}
use Rattle.xf_type.proofs.LawLemmas.{combined_fits, combined_comm, combined_assoc}
use Rattle.xf_ir.specs.declared.name.OpName.{OpName}
use Rattle.xf_points.specs.Points.{Point, Each, Below, points}
use Rattle.xf_points.specs.Folds.{Points, Step, both, everywhere, folded, onto}
use Rattle.xf_points.specs.Operands.{Joins, step_of, structured}
use Rattle.xf_points.proofs.Sets.{points_below}
use Rattle.xf_points.proofs.Results.{joining_free, parallel_free}
use Rattle.xf_points.proofs.Orders.{any_order, parallel_is}
use Rattle.xf_points.proofs.OnePoints.{point_of_index}
use Rattle.xf_sem.specs.declared.value.Value.{Value}
use Rattle.xf_sem.specs.declared.value.Value.TheVariants.{Scalar, Tensor}
use Rattle.xf_sem.specs.Actions.{Action, results, is_undefined, answered}
use Rattle.xf_sem.specs.Meaning.{Answer, Run, gives, next, and_then, Bodies, Calls, performed}
use Rattle.xf_sem.specs.Tensors.{tensor, items_of}
use Rattle.xf_sem.specs.Structured.{extents_of, has_extents, operands, first_elem, through, each_index}
use Rattle.xf_sem.specs.Structured.{arguments, points_onto}
use Rattle.xf_sem.specs.StructuredLaws.{ReductionsAreFree, ParallelsAreFree, AnyOrderGives, FoldGives}
use Rattle.xf_sem.specs.StructuredLaws.{OnePointGives, IndicesHavePoints, PointsGive}

-- ---- the order of the points is free

combiners_join : (c : Combiner) (w : Width) → Joins (FitsWidth w) (combined c w)
combiners_join c w = record {
  fits = combined_fits c w;
  commutes = λ x y p q. combined_comm c w x y;
  associates = λ x y z p q r. combined_assoc c w x y z p q r;
}

pub reductions_are_free : ReductionsAreFree
reductions_are_free c w es out e step j =
    joining_free (FitsWidth w) (combined c w) es out e step (combiners_join c w) j.fits j.joins

pub parallels_are_free : ParallelsAreFree
parallels_are_free w es out step all fits = parallel_free (FitsWidth w) es out step all fits

pub any_order_gives : AnyOrderGives
any_order_gives w es out step x j l free fits h = any_order (FitsWidth w) es out step x j l free fits h

pub one_point_gives : OnePointGives
one_point_gives es out step x p all b = parallel_is es out step x p all b

pub indices_have_points : IndicesHavePoints
indices_have_points out es j once below all b = point_of_index out es j once below all b

-- ---- in the words of the dialect

module _ (w : Width) (c : Elem → Elem → Elem) (P : Point → Type 0) (s : Points) (e : Point → Elem) (step : Step Elem)
    (fits : (x y : Elem) → FitsWidth w x → FitsWidth w y → FitsWidth w (c x y))
    (brings : (p : Point) → P p → FitsWidth w (e p))
    (is : (p : Point) (a : Elem) → P p → FitsWidth w a → step p a ≡ c a (e p)) where
  folds : (ps : List Point) (x : Elem) → Each P ps → FitsWidth w x
      → folded (both everywhere s) step ps x ≡ fold c x (map e (filter s ps))
  folds [] x q h = refl
  folds (p ∷ ps) x q h = cases (s p) (λ y k. folds ps y q.1 k)
    where
      cases : (b : Bool)
          → ((y : Elem) → FitsWidth w y → folded (both everywhere s) step ps y ≡ fold c y (map e (filter s ps)))
          → folded (both everywhere s) step ps (if b then step p x else x)
          ≡ fold c x (map e (cond b (p ∷ filter s ps) (filter s ps)))
      cases true ih =
          ap (folded (both everywhere s) step ps) (is p x q.0 h) ∙ ih (c x (e p)) (fits x (e p) h (brings p q.0))
      cases false ih = ih x h

pub fold_gives : FoldGives
fold_gives c w es out e step x j joins h =
    folds w (combined c w) (λ p. Below p es) (onto out j) e step (λ x y. combined_fits c w x y) joins.fits joins.joins
    (points es) (x j) (points_below es) h

-- ---- points that belong to a set, and all points of a filtered list

folded_one : {A : Type 0} (f : Step A) (b : Bool) (p : Point) (qs : List Point) (x : A)
    → folded everywhere f (cond b (p ∷ qs) qs) x ≡ folded everywhere f qs (if b then f p x else x)
folded_one f true p qs x = refl
folded_one f false p qs x = refl

folded_filter : {A : Type 0} (s : Points) (f : Step A) (ps : List Point) (x : A)
    → folded everywhere f (filter s ps) x ≡ folded (both everywhere s) f ps x
folded_filter s f [] x = refl
folded_filter s f (p ∷ ps) x =
    folded_one f (s p) p (filter s ps) x ∙ folded_filter s f ps (if s p then f p x else x)

each_filter : (P : Point → Type 0) (s : Points) (ps : List Point) → Each P ps → Each P (filter s ps)
each_filter P s [] h = tt
each_filter P s (p ∷ ps) h = kept (s p) (each_filter P s ps h.1)
  where
    kept : (b : Bool) → Each P (filter s ps) → Each P (cond b (p ∷ filter s ps) (filter s ps))
    kept true k = (h.0, k)
    kept false k = k

-- ---- the block at points, one after another

next_gives : {A B : Type 0} (u : ℕ) (a : Answer A) (x : A) (f : A → Run B) → a ≡ gives x
    → (next u a f).answer ≡ (f x).answer
next_gives u a x f h = rw h refl

pub and_then_gives : {A B : Type 0} (r : Run A) (x : A) (f : A → Run B) → r.answer ≡ gives x
    → (and_then r f).answer ≡ (f x).answer
and_then_gives r x f h = next_gives r.units r.answer x f h

pub each_get : {A : Type 0} (P : A → Type 0) (xs : List A) (k : ℕ) (none : A) → P none → Each P xs
    → P (get_or xs k none)
each_get P [] k none h q = h
each_get P (x ∷ xs) zero none h q = q.0
each_get P (x ∷ xs) (suc k) none h q = each_get P xs k none h q.1

module _ (c : Calls) (n : OpName) (bodies : Bodies) where
  through_gives : (P : Point → Type 0) (w : Width) (args : Point → Elem → List Value) (f : Step Elem)
      (go : Elem → Action)
      → ((p : Point) (a : Elem) → P p → FitsWidth w a
      → (bodies.block 0 (args p a)).answer ≡ gives (Scalar w (f p a) ∷ []))
      → ((p : Point) (a : Elem) → P p → FitsWidth w a → FitsWidth w (f p a))
      → (ps : List Point) (a : Elem) → Each P ps → FitsWidth w a
      → (performed c n bodies (through args ps a go)).answer
      ≡ (performed c n bodies (go (folded everywhere f ps a))).answer
  through_gives P w args f go b k [] a h q = refl
  through_gives P w args f go b k (p ∷ ps) a h q =
      and_then_gives (bodies.block 0 (args p a)) (Scalar w (f p a) ∷ [])
      (λ ws. performed c n bodies (through args ps (first_elem ws) go)) (b p a h.0 q)
      ∙ through_gives P w args f go b k ps (f p a) h.1 (k p a h.0 q)

  each_index_gives : (at_index : Point → (Elem → Action) → Action) (r : Point → Elem)
      → ((j : Point) (go : Elem → Action)
      → (performed c n bodies (at_index j go)).answer ≡ (performed c n bodies (go (r j))).answer)
      → (js : List Point) (go : List Elem → Action)
      → (performed c n bodies (each_index at_index js go)).answer ≡ (performed c n bodies (go (map r js))).answer
  each_index_gives at_index r h [] go = refl
  each_index_gives at_index r h (j ∷ js) go =
      h j (λ a. each_index at_index js (λ more. go (a ∷ more)))
      ∙ each_index_gives at_index r h js (λ more. go (r j ∷ more))

  either_way : (b : Bool) (a : Action) (v : Value)
      → (performed c n bodies a).answer ≡ gives (v ∷ [])
      → (performed c n bodies (if b then a else is_undefined)).answer
      ≡ (performed c n bodies (answered (if b then Some v else None))).answer
  either_way true a v h = h
  either_way false a v h = refl

pub points_give : PointsGive
points_give f body ins w shape elems c n bodies fits k =
    let out = Tensor w shape elems in
    let es = extents_of f ins out in
    let step = step_of body (operands f.maps ins) in
    let x = items_of out in
    let at_each = (λ (j : Point). through (arguments f.maps ins out) (points_onto f ins out j) (x j)) in
    let made = (λ (items : List Elem). results (Tensor w shape items ∷ [])) in
    either_way c n bodies (has_extents f ins out) (each_index at_each (points shape) made)
    (tensor w shape (structured es f.out body (operands f.maps ins) x))
    (each_index_gives c n bodies at_each (structured es f.out body (operands f.maps ins) x)
    (λ j go.
    through_gives c n bodies (λ p. Below p es) w (arguments f.maps ins out) step go k.makes k.fits
    (points_onto f ins out j) (x j) (each_filter (λ p. Below p es) (onto f.out j) (points es) (points_below es))
    (each_get (FitsWidth w) elems _ NoNumber tt fits)
    ∙ ap (λ e. (performed c n bodies (go e)).answer) (folded_filter (onto f.out j) step (points es) (x j)))
    (points shape) made)
