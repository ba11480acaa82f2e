-- What heads of slices and of linalg.generic state fits the types of their operands and results.
use Rattle.std.proofs.Common.{◌≡◌, ℕ, suc, ◌+◌, true, List, [], ◌∷◌, ◌++◌, length, drop}
use Rattle.std.proofs.Common.{Option, Some, None, refl, sym, ap, ◌∙◌, arith, slice_get}
use Rattle.std.specs.Prelude.{map}
use Rattle.std.proofs.lemmas.Bool.{and_parts, le-leb}
use Rattle.std.proofs.lemmas.List.{length-map, length-append, drop_at}
use Rattle.xf_type.specs.declared.payload_type.PayloadType.{PayloadType}
use Rattle.xf_type.specs.declared.payload_type.PayloadType.TheVariants.{Scalar, Tensor}
use Rattle.xf_type.specs.declared.attribute.AffineMap.{AffineMap}
use Rattle.xf_type.specs.Equal.{same_types}
use Rattle.xf_type.proofs.EqualTypes.{types_are, type_itself}
use Rattle.xf_grammar.proofs.Basics.{and_is}
use Rattle.xf_format.specs.declared.row.Row.TheVariants as row
use Rattle.xf_format.specs.Columns as columns
use Rattle.xf_format.specs.declared.columns.OperandTypes.TheVariants.{Listed}
use Rattle.xf_format.specs.Parts.{Said}
use Rattle.xf_ir.specs.declared.kind.SliceIndex.{SliceIndex}
use Rattle.xf_ir.specs.RuleLinalg.{have_ranks, has_rank}
use Rattle.xf_ir.specs.RuleTypes.{extract_slice_row, insert_slice_row, slice_indices}
use Rattle.xf_read.specs.Types.{stated_type, fits}
use Rattle.xf_print_laws.specs.SaidPrinted.{known_types, known_at}
use Rattle.xf_roundtrip.proofs.Fits.{all_fit}
use Rattle.xf_roundtrip.proofs.Shaped.{Fit, results_by, stated_by, count_by, first_fits, rest_fit, none_behind, all_listed}

-- ---- slices

-- behind the operands whose types are stated
past_two : (u v : PayloadType) (given : List PayloadType) (j : ℕ)
    → columns.operand_type (Listed 0) (u ∷ (v ∷ [])) given (suc (suc j)) ≡ None
past_two u v given j = all_listed (u ∷ (v ∷ [])) given (suc (suc j))

module _ (t : Said) (offsets sizes : List SliceIndex) where
  pub extract_slice_fits : (types : List (Option PayloadType)) (ts : List PayloadType) → t.row ≡ row.ExtractSlice
      → t.types ≡ known_at types 0 → t.results ≡ ts → extract_slice_row offsets sizes types ts ≡ true → Fit t types ts
  extract_slice_fits (Some (Tensor s) ∷ os) ts r e g p =
      let us : List PayloadType = Tensor s ∷ [] in
      record {
        results = results_by t row.ExtractSlice us r e ∙ g;
        count = count_by t row.ExtractSlice us r e;
        fit = first_fits t (Tensor s) os (stated_by t row.ExtractSlice us r e 0)
            (λ j. ap (stated_type t) (omega arith)
            ∙ (stated_by t row.ExtractSlice us r e (0 + suc j) ∙ none_behind 0 j (Tensor s) t.results));
      }
  extract_slice_fits [] ts r e g p = absurd cc
  extract_slice_fits (None ∷ os) ts r e g p = absurd cc
  extract_slice_fits (Some (Scalar w) ∷ os) ts r e g p = absurd cc

  pub insert_slice_fits : (types : List (Option PayloadType)) (ts : List PayloadType) → t.row ≡ row.InsertSlice
      → t.types ≡ known_at types 0 ++ known_at types 1 → insert_slice_row offsets sizes types ts ≡ true
      → Fit t types ts
  insert_slice_fits (Some (Tensor s) ∷ (Some (Tensor u) ∷ os)) ts r e p =
      let us : List PayloadType = Tensor s ∷ (Tensor u ∷ []) in
      let q = and_parts (slice_indices offsets sizes u os) (same_types ts (Tensor u ∷ [])) p in
      let here = stated_by t row.InsertSlice us r e 0 in
      let next = stated_by t row.InsertSlice us r e 1 in
      let same = type_itself (Tensor s) in
      let as_well = type_itself (Tensor u) in
      record {
        results = results_by t row.InsertSlice us r e ∙ sym (types_are ts (Tensor u ∷ []) q.1);
        count = count_by t row.InsertSlice us r e;
        fit = rw (here, next, same, as_well) (rest_fit t 2 os
            (λ j. ap (stated_type t) (omega arith)
            ∙ (stated_by t row.InsertSlice us r e (suc (suc j)) ∙ past_two (Tensor s) (Tensor u) t.results j)));
      }
  insert_slice_fits [] ts r e p = absurd cc
  insert_slice_fits (None ∷ os) ts r e p = absurd cc
  insert_slice_fits (Some (Scalar w) ∷ os) ts r e p = absurd cc
  insert_slice_fits (Some (Tensor s) ∷ []) ts r e p = absurd cc
  insert_slice_fits (Some (Tensor s) ∷ (None ∷ os)) ts r e p = absurd cc
  insert_slice_fits (Some (Tensor s) ∷ (Some (Scalar w) ∷ os)) ts r e p = absurd cc

-- ---- linalg.generic

-- operands that have a rank are known
pub ranks_known : (ms : List AffineMap) (types : List (Option PayloadType)) → have_ranks ms types ≡ true
    → types ≡ map Some (known_types types)
ranks_known [] [] p = refl
ranks_known [] (o ∷ os) p = absurd cc
ranks_known (m ∷ ms) [] p = refl
ranks_known (m ∷ ms) (None ∷ os) p = absurd cc
ranks_known (m ∷ ms) (Some u ∷ os) p =
    ap (λ us. Some u ∷ us) (ranks_known ms os (and_parts (has_rank (length m.results) (Some u)) (have_ranks ms os) p).1)

-- the types that are stated are those of a list before others
fit_front : (t : Said) (i : ℕ) (us more : List PayloadType)
    → ((j q : ℕ) → q ≡ i + j → stated_type t q ≡ slice_get (us ++ more) j) → all_fit t i (map Some us) ≡ true
fit_front t i [] more f = refl
fit_front t i (u ∷ us) more f =
    and_is _ _ (ap (λ o. fits o (Some u)) (f 0 i (omega arith)) ∙ type_itself u)
    (fit_front t (i + 1) us more (λ j q e. f (suc j) q (omega (arith, e))))

module _ (t : Said) (types : List (Option PayloadType)) (args : List PayloadType) where
  pub generic_fits : (ts : List PayloadType) → t.row ≡ row.Generic → t.types ≡ known_types types ++ args
      → t.results ≡ ts → length t.uses ≡ length types → types ≡ map Some (known_types types) → Fit t types ts
  generic_fits ts r e g n known =
      let us : List PayloadType = known_types types ++ args in
      let long : length types ≡ length (known_types types) = ap length known ∙ length-map (known_types types) Some in
      let all = length-append (known_types types) args in
      record {
        results = results_by t row.Generic us r e ∙ g;
        count = count_by t row.Generic us r e ∙ le-leb (length t.uses) (length us) (omega (arith, n, long, all));
        fit = ap (all_fit t 0) known
            ∙ fit_front t 0 (known_types types) args
            (λ j q p. ap (stated_type t) (omega (arith, p))
            ∙ (stated_by t row.Generic us r e j ∙ all_listed us t.results j));
      }

  -- behind them stand the types of the arguments
  pub arguments_behind : (n : ℕ) → n ≡ length types → types ≡ map Some (known_types types)
      → drop n (known_types types ++ args) ≡ args
  arguments_behind n e known =
      drop_at (known_types types) args n
      (sym (length-map (known_types types) Some) ∙ (ap length (sym known) ∙ sym e))
