-- Dense constants that fit the rules: what they give, and that their elements are few.
use Rattle.std.proofs.Common.{◌≡◌, ℕ, ◌+◌, ◌*◌, ◌≤◌, List, [], ◌∷◌, true, Option, Some}
use Rattle.std.proofs.Common.{Result, Ok, Err, refl, sym, ap, subst, arith}
use Rattle.std.specs.Prelude.{◌&&◌, not, nat_le}
use Rattle.std.proofs.lemmas.Bool.{and_parts, leb-true}
use Rattle.xf_type.specs.declared.payload_type.PayloadType.{PayloadType}
use Rattle.xf_type.specs.declared.payload_type.PayloadType.TheVariants as type_of
use Rattle.xf_type.specs.declared.payload_type.Shape.{Shape}
use Rattle.xf_type.specs.declared.payload_type.Dim.{Dim}
use Rattle.xf_type.specs.declared.payload_type.Dim.TheVariants.{Fixed, Dynamic}
use Rattle.xf_ir.specs.declared.name.OpName.{OpName}
use Rattle.xf_ir.specs.Lists.{every}
use Rattle.xf_ir.specs.Types.{is_dynamic}
use Rattle.xf_ir.specs.RuleAttributes.{dense_fits, dim_fits, element_count, numbers_of, fits_bits}
use Rattle.xf_points.specs.Points.{product}
use Rattle.xf_points.proofs.Tensors.{length_listed}
use Rattle.xf_sem.specs.declared.value.Value.{Value}
use Rattle.xf_sem.specs.Meaning.{charge, finish, gives, elements}
use Rattle.xf_sem.specs.Values.{fit_types}
use Rattle.xf_sem.specs.Tensors.{shape_with, dense_items, dense_given, tensor}
use Rattle.xf_sem.proofs.Fits.{fitting_is_tested}
use Rattle.xf_sem.proofs.FittingTensors.{dense_row}
use Rattle.xf_eval_values.specs.declared.stop.Stop.{Stop}
use Rattle.xf_eval_values.specs.declared.stop.Stop.TheVariants.{Undefined, Budget, NoMemory}
use Rattle.xf_eval_values.specs.Given.{given_run, listed_one}
use Rattle.xf_eval_values.specs.Meets.{Meets}

-- fixed dimensions are sizes, with as many elements
sizes_filled : (ds : List Dim) → every (λ d. not (is_dynamic d)) ds ≡ true
    → (shape : List ℕ) × ((shape_with ds [] ≡ Some shape) × (product shape ≡ element_count ds))
sizes_filled [] h = ([], (refl, refl))
sizes_filled (Fixed n ∷ ds) h =
    let p = sizes_filled ds h in (n ∷ p.0, (rw p.1.0 refl, ap (λ k. n * k) p.1.1))
sizes_filled (Dynamic ∷ ds) h = cc

-- what a constant gives that fits the rules
record Made (s : Shape) (ns : List ℕ) : Type 0 where
  made : Value
  is : dense_given s ns ≡ Some made
  fits : fit_types (made ∷ []) (type_of.Tensor s ∷ []) ≡ true
  few : elements (made ∷ []) ≤ 1048576

small : (n p c : ℕ) → n ≡ p → p ≡ c → c ≤ 1048576 → n + 0 ≤ 1048576
small n p c e f h = omega (arith, e, f, h)

made_of : (s : Shape) (ns : List ℕ) → dense_fits s ns ≡ true → every dim_fits s.dims ≡ true → Made s ns
made_of s ns h k =
    let fixed = and_parts (every (λ d. not (is_dynamic d)) s.dims) _ h in
    let few = and_parts (nat_le (element_count s.dims) 1048576)
    (numbers_of (element_count s.dims) ns && every (fits_bits s.elem) ns) fixed.1 in
    let p = sizes_filled s.dims fixed.0 in
    let g : dense_given s ns ≡ Some (tensor s.elem p.0 (dense_items p.0 ns)) = rw p.1.0 refl in
    record {
      made = tensor s.elem p.0 (dense_items p.0 ns);
      is = g;
      fits = (fitting_is_tested (tensor s.elem p.0 (dense_items p.0 ns) ∷ []) (type_of.Tensor s ∷ [])).1
          (dense_row s ns (tensor s.elem p.0 (dense_items p.0 ns)) h k g);
      few = small _ (product p.0) (element_count s.dims) (length_listed p.0 (dense_items p.0 ns)) p.1.1
          (leb-true (element_count s.dims) 1048576 few.0);
    }

run_is : (n : OpName) (ts : List PayloadType) (o : Option Value) (v : Value) → o ≡ Some v
    → fit_types (v ∷ []) ts ≡ true
    → given_run n ts 0 o ≡ charge (0 + elements (v ∷ [])) (finish (v ∷ []))
run_is n ts o v e f = rw e rw f refl

-- what was given, unless memory was refused
abbrev pub IsGiven : Option Value → Result Value Stop → Type 0
IsGiven o (Ok v) = o ≡ Some v
IsGiven o (Err (Undefined n)) = ⊥
IsGiven o (Err Budget) = ⊥
IsGiven o (Err NoMemory) = Unit {0}

given_is : (v : Value) (k before after : ℕ) (r : Result Value Stop) → k ≤ 1048576 → before ≡ 1048576
    → Meets (charge (0 + k) (finish (v ∷ []))) before after (listed_one r) → IsGiven (Some v) r
given_is v k before after (Ok w) h e m = let q : v ∷ [] ≡ w ∷ [] = (let g = m.0 in cc) in (let z : v ≡ w = cc in ap Some z)
given_is v k before after (Err (Undefined n)) h e m = let g = m.0 in cc
given_is v k before after (Err Budget) h e m = omega (arith, h, e, m)
given_is v k before after (Err NoMemory) h e m = tt

pub dense_is : (n : OpName) (s : Shape) (ns : List ℕ) (ts : List PayloadType) (before after : ℕ)
    (r : Result Value Stop) → ts ≡ type_of.Tensor s ∷ [] → dense_fits s ns ≡ true → every dim_fits s.dims ≡ true
    → before ≡ 1048576 → Meets (given_run n ts 0 (dense_given s ns)) before after (listed_one r)
    → IsGiven (dense_given s ns) r
dense_is n s ns ts before after r t h k b m =
    let x = made_of s ns h k in
    let f : fit_types (x.made ∷ []) ts ≡ true = subst (λ us. fit_types (x.made ∷ []) us ≡ true) (sym t) x.fits in
    let e = run_is n ts (dense_given s ns) x.made x.is f in
    let m2 = subst (λ run. Meets run before after (listed_one r)) e m in
    subst (λ o. IsGiven o r) (sym x.is) (given_is x.made (elements (x.made ∷ [])) before after r x.few b m2)
