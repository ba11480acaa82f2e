-- What heads of tensor rows and of named linalg operations state fits the types of their operands and results.
use Rattle.std.proofs.Common.{◌≡◌, ℕ, suc, ◌+◌, ◌-◌, Bool, true, false, List, [], ◌∷◌, length, Option, Some, None, refl}
use Rattle.std.proofs.Common.{sym, ap, ◌∙◌, arith, slice_get}
use Rattle.std.specs.Prelude.{map, nat_lt, ◌==◌, ◌&&◌, if◌then◌else◌}
use Rattle.std.proofs.lemmas.Bool.{and_parts, eq-eqb}
use Rattle.std.proofs.lemmas.Bool.Decides.{nat_tests}
use Rattle.std.proofs.lemmas.List.{length-map}
use Rattle.xf_type.specs.declared.payload_type.PayloadType.{PayloadType}
use Rattle.xf_type.specs.declared.payload_type.PayloadType.TheVariants.{Scalar, Tensor}
use Rattle.xf_type.specs.declared.payload_type.Shape.{Shape}
use Rattle.xf_type.specs.declared.payload_type.Width.{Width}
use Rattle.xf_type.specs.declared.payload_type.Width.TheVariants.{Index}
use Rattle.xf_type.specs.Equal.{same_types}
use Rattle.xf_type.proofs.EqualTypes.{types_are, type_itself}
use Rattle.xf_format.specs.declared.row.Row.{Row}
use Rattle.xf_format.specs.declared.row.Row.TheVariants as row
use Rattle.xf_format.specs.Columns as columns
use Rattle.xf_format.specs.declared.columns.OperandTypes.TheVariants.{Listed}
use Rattle.xf_format.specs.Parts.{Said}
use Rattle.xf_ir.specs.declared.kind.NamedKind.{NamedKind}
use Rattle.xf_ir.specs.Lists.{every}
use Rattle.xf_ir.specs.RuleTypes.{dim_row, extract_row, insert_row, cast_row, named_row, has_element}
use Rattle.xf_ir.specs.RuleTypes.{out_row, fill_fits, operand_count}
use Rattle.xf_ir.specs.Types.{have_types, are_indices, last_type, is_tensor_with}
use Rattle.xf_read.specs.Types.{result_types, is_counted, stated_type}
use Rattle.xf_print_laws.specs.SaidPrinted.{known_types, known_at}
use Rattle.xf_roundtrip.proofs.Fits.{all_fit, fit_all}

-- a head whose operands have these types
pub record Fit (t : Said) (types : List (Option PayloadType)) (ts : List PayloadType) : Type 0 where
  pub results : result_types t ≡ ts
  pub count : is_counted t ≡ true
  pub fit : all_fit t 0 types ≡ true

-- ---- operands whose types are listed

if_same : {A : Type 0} (b : Bool) (x : A) → (if b then x else x) ≡ x
if_same true x = refl
if_same false x = refl

none_listed : (k i : ℕ) (given : List PayloadType) → columns.operand_type (Listed k) [] given i ≡ None
none_listed k i given = if_same (nat_lt i k) None

pub none_behind : (k j : ℕ) (u : PayloadType) (given : List PayloadType)
    → columns.operand_type (Listed k) (u ∷ []) given (k + suc j) ≡ None
none_behind k j u given =
    let a : nat_lt (k + suc j) k ≡ false = grind (arith, nat_tests) in
    let b : (k + suc j) - k ≡ suc j = omega arith in
    rw (a, b) refl

pub all_listed : (us given : List PayloadType) (i : ℕ) → columns.operand_type (Listed 0) us given i ≡ slice_get us i
all_listed us given i =
    let a : nat_lt i 0 ≡ false = grind (arith, nat_tests) in
    let b : i - 0 ≡ i = omega arith in
    rw (a, b) refl

-- ---- types that are known

-- operands of an element type are known
elements_known : (w : Width) (types : List (Option PayloadType)) → every (has_element w) types ≡ true
    → types ≡ map Some (known_types types)
elements_known w [] p = refl
elements_known w (None ∷ os) p = absurd cc
elements_known w (Some u ∷ os) p =
    ap (λ us. Some u ∷ us) (elements_known w os (and_parts (has_element w (Some u)) (every (has_element w) os) p).1)

has_shape : (passes : Shape → Bool) (o : Option PayloadType) → is_tensor_with passes o ≡ true
    → (s : Shape) × (passes s ≡ true)
has_shape passes (Some (Tensor s)) p = (s, p)
has_shape passes (Some (Scalar w)) p = absurd cc
has_shape passes None p = absurd cc

types_known : (k : NamedKind) (types : List (Option PayloadType)) (ts : List PayloadType)
    → named_row k types ts ≡ true → types ≡ map Some (known_types types)
types_known k types ts p =
    let elements = is_tensor_with (λ s. every (has_element s.elem) types) (last_type types) in
    let q = (and_parts (out_row types ts) _ (and_parts (length types == operand_count k) _ p).1).1 in
    let x = has_shape (λ s. every (has_element s.elem) types) (last_type types)
    (and_parts elements (fill_fits k types) q).0 in
    elements_known x.0.elem types x.1

-- ---- rows

module _ (t : Said) where
  -- where no type is stated from an operand on, all those behind it fit
  pub rest_fit : (i : ℕ) (os : List (Option PayloadType)) → ((j : ℕ) → stated_type t (i + j) ≡ None) → all_fit t i os ≡ true
  rest_fit i [] f = refl
  rest_fit i (o ∷ os) f =
      let here : stated_type t i ≡ None = ap (stated_type t) (omega arith) ∙ f 0 in
      rw here (rest_fit (i + 1) os (λ j. ap (stated_type t) (omega arith) ∙ f (suc j)))

  module _ (r : Row) (us : List PayloadType) (is : t.row ≡ r) (of : t.types ≡ us) where
    pub results_by : result_types t ≡ columns.types_given (columns.result_types r) us t.results
    results_by = ap (λ x. columns.types_given (columns.result_types x) t.types t.results) is
        ∙ ap (λ y. columns.types_given (columns.result_types r) y t.results) of

    pub stated_by : (i : ℕ) → stated_type t i ≡ columns.operand_type (columns.operand_types r) us t.results i
    stated_by i = ap (λ x. columns.operand_type (columns.operand_types x) t.types t.results i) is
        ∙ ap (λ y. columns.operand_type (columns.operand_types r) y t.results i) of

    pub count_by : is_counted t ≡ columns.is_counted (columns.operand_count r) us t.results (length t.uses)
    count_by = ap (λ x. columns.is_counted (columns.operand_count x) t.types t.results (length t.uses)) is
        ∙ ap (λ y. columns.is_counted (columns.operand_count r) y t.results (length t.uses)) of

  -- an operand whose type alone is stated, behind k others
  pub first_fits : (u : PayloadType) (os : List (Option PayloadType)) → stated_type t 0 ≡ Some u
      → ((j : ℕ) → stated_type t (1 + j) ≡ None) → all_fit t 0 (Some u ∷ os) ≡ true
  first_fits u os e f = let same = type_itself u in rw (e, same) (rest_fit 1 os f)

  pub empty_fits : (types : List (Option PayloadType)) (ts : List PayloadType) → t.row ≡ row.Empty → t.types ≡ []
      → t.results ≡ ts → Fit t types ts
  empty_fits types ts r e g = record {
    results = results_by row.Empty [] r e ∙ g;
    count = count_by row.Empty [] r e;
    fit = rest_fit 0 types (λ j. stated_by row.Empty [] r e (0 + j) ∙ none_listed 0 (0 + j) t.results);
  }

  pub dim_fits : (types : List (Option PayloadType)) (ts : List PayloadType) → t.row ≡ row.Dim
      → t.types ≡ known_at types 0 → dim_row types ts ≡ true → Fit t types ts
  dim_fits (Some (Tensor s) ∷ os) ts r e p =
      let us : List PayloadType = Tensor s ∷ [] in
      record {
        results = results_by row.Dim us r e
            ∙ sym (types_are ts (Scalar Index ∷ []) (and_parts (are_indices 1 os) _ p).1);
        count = count_by row.Dim us r e;
        fit = first_fits (Tensor s) os (stated_by row.Dim us r e 0)
            (λ j. ap (stated_type t) (omega arith)
            ∙ (stated_by row.Dim us r e (0 + suc j) ∙ none_behind 0 j (Tensor s) t.results));
      }
  dim_fits types ts r e p = absurd cc

  pub extract_fits : (types : List (Option PayloadType)) (ts : List PayloadType) → t.row ≡ row.Extract
      → t.types ≡ known_at types 0 → extract_row types ts ≡ true → Fit t types ts
  extract_fits (Some (Tensor s) ∷ os) ts r e p =
      let us : List PayloadType = Tensor s ∷ [] in
      record {
        results = results_by row.Extract us r e
            ∙ sym (types_are ts (Scalar s.elem ∷ []) (and_parts (are_indices (length s.dims) os) _ p).1);
        count = count_by row.Extract us r e;
        fit = first_fits (Tensor s) os (stated_by row.Extract us r e 0)
            (λ j. ap (stated_type t) (omega arith)
            ∙ (stated_by row.Extract us r e (0 + suc j) ∙ none_behind 0 j (Tensor s) t.results));
      }
  extract_fits types ts r e p = absurd cc

  pub insert_fits : (types : List (Option PayloadType)) (ts : List PayloadType) → t.row ≡ row.Insert
      → t.types ≡ known_at types 1 → insert_row types ts ≡ true → Fit t types ts
  insert_fits (o ∷ (Some (Tensor s) ∷ os)) ts r e p =
      let us : List PayloadType = Tensor s ∷ [] in
      let taken = have_types (o ∷ (Some (Tensor s) ∷ [])) (Scalar s.elem ∷ (Tensor s ∷ [])) in
      let q = and_parts (taken && same_types ts us) (are_indices (length s.dims) os) p in
      let same = type_itself (Tensor s) in
      let here = stated_by row.Insert us r e 0 in
      let next = stated_by row.Insert us r e 1 in
      record {
        results = results_by row.Insert us r e ∙ sym (types_are ts us (and_parts taken _ q.0).1);
        count = count_by row.Insert us r e;
        fit = rw (here, next, same) (rest_fit 2 os
            (λ j. ap (stated_type t) (omega arith)
            ∙ (stated_by row.Insert us r e (1 + suc j) ∙ none_behind 1 j (Tensor s) t.results)));
      }
  insert_fits types ts r e p = absurd cc

  pub cast_fits : (types : List (Option PayloadType)) (ts : List PayloadType) → t.row ≡ row.Cast
      → t.types ≡ known_at types 0 → t.results ≡ ts → cast_row types ts ≡ true → Fit t types ts
  cast_fits (Some (Tensor s) ∷ os) (v ∷ vs) r e g p =
      let us : List PayloadType = Tensor s ∷ [] in
      record {
        results = results_by row.Cast us r e ∙ g;
        count = count_by row.Cast us r e;
        fit = first_fits (Tensor s) os (stated_by row.Cast us r e 0)
            (λ j. ap (stated_type t) (omega arith)
            ∙ (stated_by row.Cast us r e (0 + suc j) ∙ none_behind 0 j (Tensor s) t.results));
      }
  cast_fits types [] r e g p = absurd cc
  cast_fits [] (v ∷ vs) r e g p = absurd cc
  cast_fits (None ∷ os) (v ∷ vs) r e g p = absurd cc
  cast_fits (Some (Scalar w) ∷ os) (v ∷ vs) r e g p = absurd cc

  pub named_fits : (k : NamedKind) (types : List (Option PayloadType)) (ts : List PayloadType) → t.row ≡ row.Named k
      → t.types ≡ known_types types → t.results ≡ ts → length t.uses ≡ length types → named_row k types ts ≡ true
      → Fit t types ts
  named_fits k types ts r e g n p =
      let us : List PayloadType = known_types types in
      let known = types_known k types ts p in
      record {
        results = results_by (row.Named k) us r e ∙ g;
        count = count_by (row.Named k) us r e
            ∙ eq-eqb (length t.uses) (length us) (n ∙ (ap length known ∙ length-map us Some));
        fit = ap (all_fit t 0) known
            ∙ fit_all t us (λ i. stated_by (row.Named k) us r e i ∙ all_listed us t.results i);
      }
