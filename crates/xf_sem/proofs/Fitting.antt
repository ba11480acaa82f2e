-- In a valid module every value fits its type.
use Rattle.std.proofs.Common.{◌≡◌, ℕ, List, [], ◌∷◌, Option, Some, None, Bool, true, false, refl, sym, ap, subst}
use Rattle.std.proofs.lemmas.Bool.{and_parts, ltb-true}
use Rattle.std.specs.Prelude.{◌^◌, map, length, get_or, not, nat_le, ◌&&◌, ◌||◌}
use Rattle.xf_type.specs.declared.payload_type.PayloadType.{PayloadType}
use Rattle.xf_type.specs.declared.payload_type.PayloadType.TheVariants as type_of
use Rattle.xf_type.specs.declared.payload_type.Shape.{Shape}
use Rattle.xf_type.specs.declared.payload_type.Width.{Width}
use Rattle.xf_type.specs.declared.payload_type.Width.TheVariants.{I1, Index}
use Rattle.xf_type.specs.declared.payload_type.Elem.TheVariants.{Num}
use Rattle.xf_type.specs.declared.attribute.AffineMap.{AffineMap}
use Rattle.xf_ir.specs.declared.kind.IteratorKind.{IteratorKind}
use Rattle.xf_type.specs.Equal.{same_types}
use Rattle.xf_type.specs.Integers.{bits_of, binary, compared, converted}
use Rattle.xf_type.proofs.EqualTypes.{types_are}
use Rattle.xf_type.proofs.LawLemmas.{binary_fits, compared_fits, converted_fits}
use Rattle.xf_ir.specs.declared.kind.Kind.{Kind}
use Rattle.xf_ir.specs.declared.kind.Kind.TheVariants as kind
use Rattle.xf_ir.specs.declared.op.Module.{Module}
use Rattle.xf_ir.specs.Calls.{Signatures, signatures, callee_agrees, has_its_callee}
use Rattle.xf_ir.specs.Kinds.{is_terminator, returned_types, has_body}
use Rattle.xf_ir.specs.Lists as lists
use Rattle.xf_ir.specs.Lists.{Each, is_empty, behind_first}
use Rattle.xf_ir.specs.Types.{known, have_types, are_indices, first_type, last_type, is_tensor_with}
use Rattle.xf_ir.specs.Placed.{Placed, placed, gives_of, body_gives}
use Rattle.xf_ir.specs.RuleAttributes.{dim_fits, type_fits, kind_fits, has_its_attributes}
use Rattle.xf_ir.specs.RuleAttributes.{has_types_in_range, attributes_fit}
use Rattle.xf_ir.specs.RuleBlocks.{block_args, element_type, args_fit, else_fits, blocks_fit, has_its_regions}
use Rattle.xf_ir.specs.RuleLinalg.{is_structured, maps_of, iterators_of, is_projection, have_ranks, are_covered}
use Rattle.xf_ir.specs.RuleLinalg.{maps_fit}
use Rattle.xf_ir.specs.RuleLinalg.{has_its_maps}
use Rattle.xf_ir.specs.RuleSlices.{slices, has_its_slices}
use Rattle.xf_ir.specs.RuleTypes.{takes_gives, slice_indices, is_one_tensor, row_of}
use Rattle.xf_ir.specs.RuleTypes.{has_its_types}
use Rattle.xf_ir.specs.Valid.{IsValid}
use Rattle.xf_sem.specs.declared.value.Value.{Value}
use Rattle.xf_sem.specs.Values.{FitTypes}
use Rattle.xf_sem.specs.Tensors.{dense_given, empty_given, dim_given, extracted, inserted, slice_given, slice_put}
use Rattle.xf_sem.specs.Tensors.{cast_given}
use Rattle.xf_sem.specs.Actions.{answered}
use Rattle.xf_sem.specs.Control.{on_for}
use Rattle.xf_sem.specs.Structured.{named_given, on_generic}
use Rattle.xf_sem.specs.Meaning.{acts}
use Rattle.xf_sem.specs.Fitting.{Expected, FitsAction, FitOperands, OperationFits, ValuesFit}
use Rattle.xf_sem.proofs.FittingRows.{types_fit, each_value, answered_fits, scalar_fits, one_row, two_row, choice_row}
use Rattle.xf_sem.proofs.FittingRows.{call_fits, for_row, if_row}
use Rattle.xf_sem.proofs.FittingTensors.{dense_row, empty_fits, dim_fits_row, extracted_fits, inserted_fits, cast_fits}
use Rattle.xf_sem.proofs.FittingTensors.{slice_fits_row, put_fits}
use Rattle.xf_sem.proofs.FittingPoints.{tensor_at, named_fits, generic_row}

-- ---- the rules at an operation

-- what the rules say of an operation of a kind, with operands and results of these types and blocks with these
-- arguments
pub record Obeys (sigs : Signatures) (gives : List PayloadType) (k : Kind) (os : List (Option PayloadType))
    (ts : List PayloadType) (args : List (List PayloadType)) : Type 0 where
  pub regions : blocks_fit k os ts args ≡ true
  pub types : row_of sigs gives k os ts ≡ true
  pub attributes : kind_fits k ≡ true
  pub callee : callee_agrees sigs k ts ≡ true
  pub maps : (not (is_structured k) || maps_fit (maps_of k os) (length (iterators_of k os)) os) ≡ true
  pub ranges : lists.every type_fits ts ≡ true
  pub slices : slices k os ts ≡ true

-- what an operation gives whose row takes and gives these types
pub given_types : (wanted given : List PayloadType) (os : List (Option PayloadType)) (ts : List PayloadType)
    → takes_gives wanted given os ts ≡ true → ts ≡ given
given_types wanted given os ts h = types_are ts given (and_parts (have_types os wanted) (same_types ts given) h).1

pub taken_types : (wanted given : List PayloadType) (os : List (Option PayloadType)) (ts : List PayloadType)
    → takes_gives wanted given os ts ≡ true → have_types os wanted ≡ true
taken_types wanted given os ts h = (and_parts (have_types os wanted) (same_types ts given) h).0

all_known : (vs : List Value) (os : List (Option PayloadType)) → FitOperands vs os → lists.every known os ≡ true
all_known [] [] f = refl
all_known [] (o ∷ os) f = elim f [ ]
all_known (v ∷ vs) [] f = elim f [ ]
all_known (v ∷ vs) (None ∷ os) f = elim f [ ]
all_known (v ∷ vs) (Some t ∷ os) f = all_known vs os f.1

behind_not : (b c : Bool) → b ≡ true → (not b || c) ≡ true → c ≡ true
behind_not true c e h = h
behind_not false c e h = cc

-- the arguments of the first block
first_args_fit : (k : Kind) (os : List (Option PayloadType)) (ts : List PayloadType) (args : List (List PayloadType))
    → blocks_fit k os ts args ≡ true → has_body k ≡ true → args_fit k os ts (get_or args 0 []) ≡ true
first_args_fit k os ts [] h e = let z = ap not e in cc
first_args_fit k os ts (first ∷ more) h e =
    let p = and_parts (has_body k) (args_fit k os ts first && else_fits k ts more) h in
    (and_parts (args_fit k os ts first) (else_fits k ts more) p.1).0

-- ---- the table

abbrev pub expected : Signatures → Kind → List (Option PayloadType) → List PayloadType → List (List PayloadType)
    → Expected
expected sigs k os ts args =
    record { results = ts; args = args; gives = gives_of k os ts; signatures = sigs }

generic_fits : (sigs : Signatures) (hgives : List PayloadType) (maps : List AffineMap) (iterators : List IteratorKind)
    (os : List (Option PayloadType)) (ts : List PayloadType) (args : List (List PayloadType)) (vs : List Value)
    → Obeys sigs hgives (kind.Generic maps iterators) os ts args → FitOperands vs os
    → FitsAction (expected sigs (kind.Generic maps iterators) os ts args) (on_generic maps iterators vs)
generic_fits sigs hgives maps iterators os ts args vs o f =
    let t = tensor_at (last_type os) (λ s. same_types ts (type_of.Tensor s ∷ [])) o.types in
    let a = first_args_fit (kind.Generic maps iterators) os ts args o.regions refl in
    let m = and_parts (lists.every (is_projection (length iterators)) maps)
    (have_ranks maps os && are_covered maps (length iterators)) o.maps in
    generic_row (expected sigs (kind.Generic maps iterators) os ts args) (length iterators) maps vs os
    (type_of.Tensor t.0) f t.1.0 (types_are ts (type_of.Tensor t.0 ∷ []) t.1.1) (ap body_gives t.1.0)
    (and_parts (have_ranks maps os) (are_covered maps (length iterators)) m.1).0
    (behind_not (lists.every known os) (have_types (map element_type os) (get_or args 0 [])) (all_known vs os f) a)

for_fits : (sigs : Signatures) (hgives : List PayloadType) (w : Width) (os : List (Option PayloadType))
    (ts : List PayloadType) (args : List (List PayloadType)) (vs : List Value)
    → Obeys sigs hgives (kind.For w) os ts args → FitOperands vs os
    → FitsAction (expected sigs (kind.For w) os ts args) (on_for w vs)
for_fits sigs hgives w os ts args vs o f =
    for_row (expected sigs (kind.For w) os ts args) w ts vs
    (record {
      results = refl;
      gives = refl;
      args = types_are (get_or args 0 []) (type_of.Scalar w ∷ ts)
          (first_args_fit (kind.For w) os ts args o.regions refl);
    })
    (types_fit vs os (type_of.Scalar w ∷ (type_of.Scalar w ∷ (type_of.Scalar w ∷ ts))) f o.types)

-- the one dense type is in range
only_in_range : (s : Shape) (ts : List PayloadType) → ts ≡ type_of.Tensor s ∷ [] → lists.every type_fits ts ≡ true
    → lists.every dim_fits s.dims ≡ true
only_in_range s ts e h =
    let g : (type_fits (type_of.Tensor s) && true) ≡ true = subst (λ us. lists.every type_fits us ≡ true) e h in
    let p = and_parts (type_fits (type_of.Tensor s)) true g in
    (and_parts (nat_le (length s.dims) 8) (lists.every dim_fits s.dims) p.0).1

dense_fits_row : (sigs : Signatures) (hgives : List PayloadType) (s : Shape) (ns : List ℕ)
    (os : List (Option PayloadType)) (ts : List PayloadType) (args : List (List PayloadType))
    → Obeys sigs hgives (kind.Dense s ns) os ts args
    → FitsAction (expected sigs (kind.Dense s ns) os ts args) (answered (dense_given s ns))
dense_fits_row sigs hgives s ns os ts args o =
    let e = given_types [] (type_of.Tensor s ∷ []) os ts o.types in
    answered_fits (expected sigs (kind.Dense s ns) os ts args) (dense_given s ns)
    (λ v g. subst (FitTypes (v ∷ [])) (sym e) (dense_row s ns v o.attributes (only_in_range s ts e o.ranges) g))

-- what each kind does
pub row_fits : (sigs : Signatures) (hgives : List PayloadType) (k : Kind) (os : List (Option PayloadType))
    (ts : List PayloadType) (args : List (List PayloadType)) (vs : List Value) → Obeys sigs hgives k os ts args
    → FitOperands vs os → FitsAction (expected sigs k os ts args) (acts k (length args) ts vs)
row_fits sigs hgives (kind.Constant w bits) os ts args vs o f =
    scalar_fits ts w (Num bits) (given_types [] (type_of.Scalar w ∷ []) os ts o.types)
    (ltb-true bits (2 ^ bits_of w) o.attributes)
row_fits sigs hgives (kind.Dense s ns) os ts args vs o f = dense_fits_row sigs hgives s ns os ts args o
row_fits sigs hgives (kind.Binary which w) os ts args vs o f =
    two_row (expected sigs (kind.Binary which w) os ts args) w w (binary which w) vs
    (given_types (type_of.Scalar w ∷ (type_of.Scalar w ∷ [])) (type_of.Scalar w ∷ []) os ts o.types)
    (each_value vs os f) (binary_fits which w)
row_fits sigs hgives (kind.Compare which w) os ts args vs o f =
    two_row (expected sigs (kind.Compare which w) os ts args) w I1 (compared which w) vs
    (given_types (type_of.Scalar w ∷ (type_of.Scalar w ∷ [])) (type_of.Scalar I1 ∷ []) os ts o.types)
    (each_value vs os f) (λ a b p q. compared_fits which w a b)
row_fits sigs hgives (kind.Select w) os ts args vs o f =
    choice_row (expected sigs (kind.Select w) os ts args) w vs
    (given_types (type_of.Scalar I1 ∷ (type_of.Scalar w ∷ (type_of.Scalar w ∷ []))) (type_of.Scalar w ∷ []) os ts
    o.types)
    (each_value vs os f)
row_fits sigs hgives (kind.Convert which from to) os ts args vs o f =
    one_row (expected sigs (kind.Convert which from to) os ts args) from to (converted which from to) vs
    (given_types (type_of.Scalar from ∷ []) (type_of.Scalar to ∷ []) os ts o.types) (converted_fits which from to)
row_fits sigs hgives (kind.Call callee) os ts args vs o f = call_fits (sigs callee) vs os ts o.callee o.types f
row_fits sigs hgives (kind.For w) os ts args vs o f = for_fits sigs hgives w os ts args vs o f
row_fits sigs hgives kind.If os ts args vs o f =
    if_row (expected sigs kind.If os ts args) os vs refl o.regions
row_fits sigs hgives kind.Empty os ts args vs o f =
    answered_fits (expected sigs kind.Empty os ts args) (empty_given ts vs) (λ v g. empty_fits ts vs v g)
row_fits sigs hgives kind.Dim os ts args vs o f =
    answered_fits (expected sigs kind.Dim os ts args) (dim_given vs)
    (λ v g. dim_fits_row ts vs v (types_are ts (type_of.Scalar Index ∷ []) (and_parts (are_indices 1 (behind_first os))
    (same_types ts (type_of.Scalar Index ∷ [])) (and_parts (is_tensor_with (λ s. true) (first_type os)) (are_indices 1
    (behind_first os) && same_types ts (type_of.Scalar Index ∷ [])) o.types).1).1) (each_value vs os f) g)
row_fits sigs hgives kind.Extract os ts args vs o f =
    answered_fits (expected sigs kind.Extract os ts args) (extracted vs) (λ v g. extracted_fits vs os ts v f o.types g)
row_fits sigs hgives kind.Insert os ts args vs o f =
    answered_fits (expected sigs kind.Insert os ts args) (inserted vs) (λ v g. inserted_fits vs os ts v f o.types g)
row_fits sigs hgives (kind.ExtractSlice offsets lengths) os ts args vs o f =
    answered_fits (expected sigs (kind.ExtractSlice offsets lengths) os ts args) (slice_given offsets lengths vs)
    (λ v g. slice_fits_row offsets lengths vs os ts v f
    (and_parts (is_tensor_with (λ s. slice_indices offsets lengths s
    (behind_first os)) (first_type os)) (is_one_tensor ts) o.types).1 o.slices g)
row_fits sigs hgives (kind.InsertSlice offsets lengths) os ts args vs o f =
    answered_fits (expected sigs (kind.InsertSlice offsets lengths) os ts args) (slice_put offsets lengths vs)
    (λ v g. put_fits offsets lengths vs os ts v f o.types g)
row_fits sigs hgives kind.Cast os ts args vs o f =
    answered_fits (expected sigs kind.Cast os ts args) (cast_given ts vs)
    (λ v g. cast_fits ts vs v (each_value vs os f) g)
row_fits sigs hgives (kind.Named which) os ts args vs o f =
    answered_fits (expected sigs (kind.Named which) os ts args) (named_given which vs)
    (λ v g. named_fits which vs os ts v f o.types g)
row_fits sigs hgives (kind.Generic maps iterators) os ts args vs o f =
    generic_fits sigs hgives maps iterators os ts args vs o f
row_fits sigs hgives _ os ts args vs o f = tt

-- what ends a block gives what the holder expects
end_fits : (sigs : Signatures) (hgives : List PayloadType) (k : Kind) (os : List (Option PayloadType))
    (ts : List PayloadType) (vs : List Value) → row_of sigs hgives k os ts ≡ true → FitOperands vs os
    → is_terminator k ≡ true → FitTypes vs hgives
end_fits sigs hgives kind.Return os ts vs r f h = types_fit vs os hgives f (taken_types hgives [] os ts r)
end_fits sigs hgives kind.Yield os ts vs r f h = types_fit vs os hgives f (taken_types hgives [] os ts r)
end_fits sigs hgives kind.LinalgYield os ts vs r f h = types_fit vs os hgives f (taken_types hgives [] os ts r)
end_fits sigs hgives _ os ts vs r f h = cc

-- ---- in a module

abbrev pub Passes : Signatures → Placed → Type 0
Passes sigs p = Obeys sigs p.holder.gives p.tree.kind p.types p.tree.results (block_args p.tree.regions)

operation_fits : (sigs : Signatures) (p : Placed) → Passes sigs p → OperationFits sigs p
operation_fits sigs p o = record {
  acts_so = λ vs f.
      row_fits sigs p.holder.gives p.tree.kind p.types p.tree.results (block_args p.tree.regions) vs o f;
  ends_so = λ vs f h. end_fits sigs p.holder.gives p.tree.kind p.types p.tree.results vs o.types f h;
}

-- facts of each operation, put together
module _ (sigs : Signatures) where
  together : (ps : List Placed) → Each (λ p. has_its_regions p ≡ true) ps → Each (λ p. has_its_types sigs p ≡ true) ps
      → Each (λ p. has_its_attributes p ≡ true) ps → Each (λ p. has_its_callee sigs p ≡ true) ps
      → Each (λ p. has_its_maps p ≡ true) ps → Each (λ p. has_types_in_range p ≡ true) ps
      → Each (λ p. has_its_slices p ≡ true) ps → Each (Passes sigs) ps
  together [] a b c d e g h = tt
  together (p ∷ ps) a b c d e g h = (
    record {
      regions = a.0;
      types = b.0;
      attributes = (and_parts (kind_fits p.tree.kind) (attributes_fit p.tree.attrs) c.0).0;
      callee = d.0;
      maps = e.0;
      ranges = (and_parts (lists.every type_fits p.tree.results) (lists.every type_fits (returned_types p.tree.kind)
          && lists.every (lists.every type_fits) (block_args p.tree.regions)) g.0).0;
      slices = h.0;
    },
    together ps a.1 b.1 c.1 d.1 e.1 g.1 h.1,
  )

  all_fit : (ps : List Placed) → Each (Passes sigs) ps → Each (OperationFits sigs) ps
  all_fit [] h = tt
  all_fit (p ∷ ps) h = (operation_fits sigs p h.0, all_fit ps h.1)

pub all_pass : (m : Module) → IsValid m → Each (Passes (signatures m)) (placed m)
all_pass m v = together (signatures m) (placed m) v.regions v.types v.attributes v.callees v.maps v.ranges v.slices

pub values_fit : ValuesFit
values_fit m v = all_fit (signatures m) (placed m) (all_pass m v)
