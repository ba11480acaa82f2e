-- What an operation that gives one value answers.
use Rattle.std.proofs.Common.{◌≡◌, ℕ, ◌+◌, ◌<◌, ◌≤◌, List, [], ◌∷◌, Bool, true, false, Option, Some, None, Ok, Err, refl}
use Rattle.std.proofs.Common.{sym, ap, ◌∙◌, arith, subst}
use Rattle.std.proofs.lemmas.Bool.{and_from, eq-eqb}
use Rattle.std.specs.Prelude.{◌^◌, length, nat_lt, ◌&&◌, ◌==◌, if◌then◌else◌}
use Rattle.xf_type.specs.declared.payload_type.PayloadType.{PayloadType}
use Rattle.xf_type.specs.declared.payload_type.PayloadType.TheVariants as type_of
use Rattle.xf_type.specs.declared.payload_type.Width.{Width}
use Rattle.xf_type.specs.declared.payload_type.Elem.{Elem}
use Rattle.xf_type.specs.Integers.{FitsWidth}
use Rattle.xf_ir.specs.declared.name.OpName.{OpName}
use Rattle.xf_ir.specs.Lists.{Each, every}
use Rattle.xf_points.specs.Points.{product}
use Rattle.xf_sem.specs.declared.value.Value.{Value}
use Rattle.xf_sem.specs.declared.value.Value.TheVariants.{Scalar, Tensor}
use Rattle.xf_sem.specs.Values.{IsValue, fits_width, is_value, fits_type, fit_types}
use Rattle.xf_sem.specs.Meaning.{Run, gives, fails, finish, undefined, charge, where_fit, elements}
use Rattle.xf_eval_values.specs.Held.{fits_tensor}
use Rattle.xf_eval_values.specs.Given.{given_run, listed_one, fits_one, IsAdmitted}
use Rattle.xf_eval_values.specs.Meets.{Meets}
use Rattle.xf_eval_values.specs.declared.stop.Stop.{Stop}
use Rattle.xf_eval_values.specs.declared.stop.Stop.TheVariants.{Undefined, Budget, NoMemory}
use Rattle.xf_eval_values.proofs.Values.{every_when, fits_width_when}

pub undefined_meets : (n : OpName) (ts : List PayloadType) (points : ℕ) (o : Option Value) (b : ℕ) → o ≡ None
    → Meets (given_run n ts points o) b b (Err (Undefined n))
undefined_meets n ts points o b h =
    subst (λ x. Meets (given_run n ts points x) b b (Err (Undefined n))) (sym h) (refl, omega arith)

-- ---- what fits, and what does not

unfit : (n : OpName) (ts : List PayloadType) (points b b' : ℕ) (vs : List Value) (r : Run (List Value))
    → fit_types vs ts ≡ false → Meets (where_fit n ts vs r) b b' (Err (Undefined n))
unfit n ts points b b' vs r h =
    subst (λ x. Meets (if x then r else undefined n) b b' (Err (Undefined n))) (sym h) (refl, omega arith)

pub unfit_meets : (n : OpName) (ts : List PayloadType) (points b b' : ℕ) (o : Option Value) (v : Value) → o ≡ Some v
    → fit_types (v ∷ []) ts ≡ false → Meets (given_run n ts points o) b b' (Err (Undefined n))
unfit_meets n ts points b b' o v e h =
    subst (λ x. Meets (given_run n ts points x) b b' (Err (Undefined n))) (sym e)
    (unfit n ts points b b' (v ∷ []) (charge (points + elements (v ∷ [])) (finish (v ∷ []))) h)

pub budget_meets : (n : OpName) (ts : List PayloadType) (points b b' : ℕ) (o : Option Value) (v : Value) → o ≡ Some v
    → fit_types (v ∷ []) ts ≡ true → b < points + elements (v ∷ [])
    → Meets (given_run n ts points o) b b' (Err Budget)
budget_meets n ts points b b' o v e h l =
    subst (λ x. Meets (given_run n ts points x) b b' (Err Budget)) (sym e)
    (subst (λ x. Meets (if x then charge (points + elements (v ∷ [])) (finish (v ∷ [])) else undefined n) b b'
    (Err Budget)) (sym h) (omega arith))

pub gives_meets : (n : OpName) (ts : List PayloadType) (points b b' : ℕ) (o : Option Value) (v : Value) → o ≡ Some v
    → fit_types (v ∷ []) ts ≡ true → b ≡ (points + elements (v ∷ [])) + b'
    → Meets (given_run n ts points o) b b' (Ok (v ∷ []))
gives_meets n ts points b b' o v e h l =
    subst (λ x. Meets (given_run n ts points x) b b' (Ok (v ∷ []))) (sym e)
    (subst (λ x. Meets (if x then charge (points + elements (v ∷ [])) (finish (v ∷ [])) else undefined n) b b'
    (Ok (v ∷ []))) (sym h) (refl, omega arith))

-- ---- tensors

twice_and : (a b : Bool) → (((a && true) && b) && true) ≡ (a && b)
twice_and true true = refl
twice_and true false = refl
twice_and false b = refl

and_none : (a : Bool) → (a && false) ≡ false
and_none true = refl
and_none false = refl

type_is : (w : Width) (sizes : List ℕ) (elems : List Elem) (t : PayloadType)
    → fits_type (Tensor w sizes elems) t ≡ fits_tensor w sizes t
type_is w sizes elems (type_of.Scalar u) = refl
type_is w sizes elems (type_of.Tensor s) = refl

-- a tensor fits where its width and sizes do
pub fits_made : (w : Width) (sizes : List ℕ) (elems : List Elem) (ts : List PayloadType)
    → length elems ≡ product sizes → Each (FitsWidth w) elems
    → fit_types (Tensor w sizes elems ∷ []) ts ≡ fits_one w sizes ts
fits_made w sizes elems [] l f = refl
fits_made w sizes elems (t ∷ (u ∷ ts)) l f = and_none (is_value (Tensor w sizes elems) && fits_type (Tensor w sizes elems) t)
fits_made w sizes elems (t ∷ []) l f =
    let a = and_from (length elems == product sizes) (every (fits_width w) elems) (eq-eqb (length elems) (product sizes) l)
    (every_when (fits_width w) (FitsWidth w) elems (fits_width_when w) f) in
    ap (λ x. ((every (λ size. nat_lt size (2 ^ 31)) sizes && x) && fits_type (Tensor w sizes elems) t) && true) a
    ∙ ap (λ x. ((every (λ size. nat_lt size (2 ^ 31)) sizes && true) && x) && true) (type_is w sizes elems t)
    ∙ twice_and (every (λ size. nat_lt size (2 ^ 31)) sizes) (fits_tensor w sizes t)

pub refused_meets : (n : OpName) (ts : List PayloadType) (w : Width) (sizes : List ℕ) (elems : List Elem)
    (points b b' : ℕ) (o : Option Value) (stop : Stop)
    → length elems ≡ product sizes → Each (FitsWidth w) elems → o ≡ Some (Tensor w sizes elems)
    → IsAdmitted n ts w sizes points b b' (Err stop) → Meets (given_run n ts points o) b b' (Err stop)
refused_meets n ts w sizes elems points b b' o (Undefined m) l f e a =
    subst (λ k. Meets (given_run n ts points o) b b' (Err (Undefined k))) (sym a.0)
    (unfit_meets n ts points b b' o (Tensor w sizes elems) e (fits_made w sizes elems ts l f ∙ a.1))
refused_meets n ts w sizes elems points b b' o Budget l f e a =
    budget_meets n ts points b b' o (Tensor w sizes elems) e (fits_made w sizes elems ts l f ∙ a.0) (omega (arith, a.1, l))
refused_meets n ts w sizes elems points b b' o NoMemory l f e a = tt

pub admitted_meets : (n : OpName) (ts : List PayloadType) (w : Width) (sizes : List ℕ) (elems : List Elem)
    (points b b' count : ℕ) (o : Option Value) (v : Value)
    → length elems ≡ product sizes → Each (FitsWidth w) elems → o ≡ Some (Tensor w sizes elems)
    → IsAdmitted n ts w sizes points b b' (Ok count) → v ≡ Tensor w sizes elems
    → Meets (given_run n ts points o) b b' (Ok (v ∷ []))
admitted_meets n ts w sizes elems points b b' count o v l f e a q =
    subst (λ x. Meets (given_run n ts points o) b b' (Ok (x ∷ []))) (sym q)
    (gives_meets n ts points b b' o (Tensor w sizes elems) e (fits_made w sizes elems ts l f ∙ a.0)
    (omega (arith, a.1.1, l)))
