-- What the operations of arith, func and scf give and hand on fits its types.
use Rattle.std.proofs.Common.{◌≡◌, ℕ, zero, suc, List, [], ◌∷◌, Option, Some, None, Bool, true, false, refl, sym}
use Rattle.std.proofs.Common.{subst}
use Rattle.std.proofs.lemmas.Bool.{and_parts}
use Rattle.std.specs.Prelude.{◌+◌, length, get_or, ◌==◌, ◌&&◌}
use Rattle.std.specs.Prelude.{if◌then◌else◌, ℤ, pos, negsuc}
use Rattle.xf_type.specs.declared.payload_type.PayloadType.{PayloadType}
use Rattle.xf_type.specs.declared.payload_type.PayloadType.TheVariants as type_of
use Rattle.xf_type.specs.declared.payload_type.Width.{Width}
use Rattle.xf_type.specs.declared.payload_type.Width.TheVariants.{I1}
use Rattle.xf_type.specs.declared.payload_type.Elem.{Elem}
use Rattle.xf_type.specs.declared.payload_type.Elem.TheVariants.{Num}
use Rattle.xf_type.specs.Equal.{same_width, same_type}
use Rattle.xf_type.specs.Integers.{FitsWidth, signed_value, selected}
use Rattle.xf_type.proofs.EqualTypes.{width_is, type_is, types_are}
use Rattle.xf_type.proofs.LawLemmas.{wrapped_below, selected_fits}
use Rattle.xf_ir.specs.declared.kind.Kind.TheVariants as kind
use Rattle.xf_ir.specs.Calls.{Signature, agrees}
use Rattle.xf_ir.specs.Lists.{Each, is_empty}
use Rattle.xf_ir.specs.Types.{have_types}
use Rattle.xf_ir.specs.RuleBlocks.{blocks_fit}
use Rattle.xf_ir.specs.RuleTypes.{are_inputs}
use Rattle.xf_sem.specs.declared.value.Value.{Value}
use Rattle.xf_sem.specs.declared.value.Value.TheVariants.{Scalar}
use Rattle.xf_sem.specs.Values.{IsValue, FitsType, FitTypes}
use Rattle.xf_sem.specs.Actions.{Action, is_undefined, answered, on_one, on_two, on_choice}
use Rattle.xf_sem.specs.Control.{turn_by_turn, induction, with_step, on_for, on_region, on_if}
use Rattle.xf_sem.specs.Fitting.{Expected, signature_or, FitsAction, FitOperands}

-- ---- operands

-- operands whose types are these
pub types_fit : (vs : List Value) (os : List (Option PayloadType)) (ts : List PayloadType) → FitOperands vs os
    → have_types os ts ≡ true → FitTypes vs ts
types_fit [] [] [] f h = tt
types_fit [] [] (t ∷ ts) f h = cc
types_fit [] (o ∷ os) ts f h = elim f [ ]
types_fit (v ∷ vs) [] ts f h = elim f [ ]
types_fit (v ∷ vs) (None ∷ os) ts f h = elim f [ ]
types_fit (v ∷ vs) (Some u ∷ os) [] f h = cc
types_fit (v ∷ vs) (Some u ∷ os) (t ∷ ts) f h =
    let b = and_parts (same_type u t) (have_types os ts) h in
    (subst (λ x. IsValue v × FitsType v x) (type_is u t b.0) f.0, types_fit vs os ts f.1 b.1)

pub each_value : (vs : List Value) (os : List (Option PayloadType)) → FitOperands vs os → Each IsValue vs
each_value [] [] f = tt
each_value [] (o ∷ os) f = elim f [ ]
each_value (v ∷ vs) [] f = elim f [ ]
each_value (v ∷ vs) (None ∷ os) f = elim f [ ]
each_value (v ∷ vs) (Some u ∷ os) f = (f.0.0, each_value vs os f.1)

-- ---- actions

pub if_fits : (x : Expected) (b : Bool) (a : Action) → (b ≡ true → FitsAction x a)
    → FitsAction x (if b then a else is_undefined)
if_fits x true a h = h refl
if_fits x false a h = tt

pub answered_fits : (x : Expected) (o : Option Value) → ((v : Value) → o ≡ Some v → FitTypes (v ∷ []) x.results)
    → FitsAction x (answered o)
answered_fits x None h = tt
answered_fits x (Some v) h = h v refl

pub scalar_fits : (ts : List PayloadType) (w : Width) (a : Elem) → ts ≡ type_of.Scalar w ∷ [] → FitsWidth w a
    → FitTypes (Scalar w a ∷ []) ts
scalar_fits ts w a e h = subst (FitTypes (Scalar w a ∷ [])) (sym e) ((h, refl), tt)

-- ---- arith

pub one_row : (x : Expected) (w u : Width) (g : Elem → Elem) (vs : List Value) → x.results ≡ type_of.Scalar u ∷ []
    → ((a : Elem) → FitsWidth u (g a)) → FitsAction x (on_one w (λ a. Scalar u (g a)) vs)
one_row x w u g (Scalar own a ∷ []) e h = if_fits x (same_width own w) _ (λ _. scalar_fits x.results u (g a) e (h a))
one_row x w u g _ e h = tt

pub two_row : (x : Expected) (w u : Width) (g : Elem → Elem → Elem) (vs : List Value)
    → x.results ≡ type_of.Scalar u ∷ [] → Each IsValue vs
    → ((a b : Elem) → FitsWidth w a → FitsWidth w b → FitsWidth u (g a b))
    → FitsAction x (on_two w (λ a b. Scalar u (g a b)) vs)
two_row x w u g (Scalar l a ∷ (Scalar r b ∷ [])) e v h =
    if_fits x (same_width l w && same_width r w) _
    (λ t.
    let q = and_parts (same_width l w) (same_width r w) t in
    scalar_fits x.results u (g a b) e
    (h a b (subst (λ z. FitsWidth z a) (width_is l w q.0) v.0) (subst (λ z. FitsWidth z b) (width_is r w q.1) v.1.0)))
two_row x w u g _ e v h = tt

pub choice_row : (x : Expected) (w : Width) (vs : List Value) → x.results ≡ type_of.Scalar w ∷ [] → Each IsValue vs
    → FitsAction x (on_choice w vs)
choice_row x w (Scalar one c ∷ (Scalar l a ∷ (Scalar r b ∷ []))) e v =
    if_fits x (same_width one I1 && (same_width l w && same_width r w)) _
    (λ t.
    let q = and_parts (same_width one I1) (same_width l w && same_width r w) t in
    let p = and_parts (same_width l w) (same_width r w) q.1 in
    scalar_fits x.results w (selected c a b) e
    (selected_fits w c a b (subst (λ z. FitsWidth z a) (width_is l w p.0) v.1.0)
    (subst (λ z. FitsWidth z b) (width_is r w p.1) v.1.1.0)))
choice_row x w _ e v = tt

-- ---- calls

pub call_fits : (o : Option Signature) (vs : List Value) (os : List (Option PayloadType)) (ts : List PayloadType)
    → agrees o ts ≡ true → are_inputs o os ≡ true → FitOperands vs os
    → FitTypes vs (signature_or o).inputs
    × ((ws : List Value) → FitTypes ws (signature_or o).results → FitTypes ws ts)
call_fits None vs os ts a i f = cc
call_fits (Some s) vs os ts a i f =
    (types_fit vs os s.inputs f i, λ ws g. subst (FitTypes ws) (sym (types_are ts s.results a)) g)

-- ---- loops and branches

-- a loop expects the induction value and the iteration values, and gives these
pub record IsLoop (x : Expected) (w : Width) (ts : List PayloadType) : Type 0 where
  pub results : x.results ≡ ts
  pub gives : x.gives ≡ ts
  pub args : get_or x.args 0 [] ≡ type_of.Scalar w ∷ ts

turns_fit : (x : Expected) (w : Width) (ts : List PayloadType) (lower : ℤ) (step n k : ℕ) (vs : List Value)
    → IsLoop x w ts → FitTypes vs ts → FitsAction x (turn_by_turn (induction w lower step) k n vs)
turns_fit x w ts lower step zero k vs l h = subst (FitTypes vs) (sym l.results) h
turns_fit x w ts lower step (suc n) k vs l h = (
  subst (FitTypes (induction w lower step k ∷ vs)) (sym l.args) ((wrapped_below w _, refl), h),
  λ ws g. turns_fit x w ts lower step n (k + 1) ws l (subst (FitTypes ws) l.gives g),
)

step_fits : (x : Expected) (w : Width) (ts : List PayloadType) (lower upper step : ℤ) (vs : List Value)
    → IsLoop x w ts → FitTypes vs ts → FitsAction x (with_step w lower upper step vs)
step_fits x w ts lower upper (pos zero) vs l h = tt
step_fits x w ts lower upper (pos (suc s)) vs l h = turns_fit x w ts lower (suc s) _ 0 vs l h
step_fits x w ts lower upper (negsuc s) vs l h = tt

pub for_row : (x : Expected) (w : Width) (ts : List PayloadType) (vs : List Value) → IsLoop x w ts
    → FitTypes vs (type_of.Scalar w ∷ (type_of.Scalar w ∷ (type_of.Scalar w ∷ ts))) → FitsAction x (on_for w vs)
for_row x w ts (Scalar low (Num l) ∷ (Scalar up (Num u) ∷ (Scalar by (Num s) ∷ vs))) loop h =
    if_fits x (same_width low w && (same_width up w && same_width by w)) _
    (λ _. step_fits x w ts (signed_value w l) (signed_value w u) (signed_value w s) vs loop h.1.1.1)
for_row x w ts _ loop h = tt

empty_types : (ts : List PayloadType) → is_empty ts ≡ true → FitTypes [] ts
empty_types [] h = tt
empty_types (t ∷ ts) h = cc

-- an if of these blocks gives its results from each
pub region_fits : (args : List (List PayloadType)) (os : List (Option PayloadType)) (x : Expected) (c : ℕ)
    → x.args ≡ args → x.gives ≡ x.results → blocks_fit kind.If os x.results args ≡ true
    → FitsAction x (on_region (length args) (if c == 0 then 1 else 0))
region_fits [] os x c a g h = cc
region_fits (first ∷ []) os x c a g h = cases (c == 0)
  where
    cases : (b : Bool) → FitsAction x (on_region 1 (if b then 1 else 0))
    cases true = empty_types x.results (and_parts (is_empty first) (is_empty x.results) h).1
    cases false = (
      subst (λ z. FitTypes [] (get_or z 0 [])) (sym a)
          (empty_types first (and_parts (is_empty first) (is_empty x.results) h).0),
      λ ws f. subst (FitTypes ws) g f,
    )
region_fits (first ∷ (second ∷ more)) os x c a g h = cases more h a (c == 0)
  where
    cases : (more : List (List PayloadType)) → blocks_fit kind.If os x.results (first ∷ (second ∷ more)) ≡ true
        → x.args ≡ first ∷ (second ∷ more) → (b : Bool)
        → FitsAction x (on_region (length (first ∷ (second ∷ more))) (if b then 1 else 0))
    cases [] h a true =
        let p = and_parts (is_empty first) (is_empty second && true) h in
        let q = and_parts (is_empty second) true p.1 in (
          subst (λ z. FitTypes [] (get_or z 1 [])) (sym a) (empty_types second q.0),
          λ ws f. subst (FitTypes ws) g f,
        )
    cases [] h a false =
        let p = and_parts (is_empty first) (is_empty second && true) h in (
          subst (λ z. FitTypes [] (get_or z 0 [])) (sym a) (empty_types first p.0),
          λ ws f. subst (FitTypes ws) g f,
        )
    cases (third ∷ rest) h a b =
        let p = and_parts (is_empty first) (is_empty second && false) h in
        let q = and_parts (is_empty second) false p.1 in cc

pub if_row : (x : Expected) (os : List (Option PayloadType)) (vs : List Value) → x.gives ≡ x.results
    → blocks_fit kind.If os x.results x.args ≡ true → FitsAction x (on_if (length x.args) vs)
if_row x os (Scalar one (Num c) ∷ []) g h = if_fits x (same_width one I1) _ (λ _. region_fits x.args os x c refl g h)
if_row x os _ g h = tt
