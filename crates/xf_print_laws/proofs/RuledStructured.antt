-- What the rules say of slices, of linalg.generic and of dense constants.
use Rattle.std.proofs.Common.{◌≡◌, ℕ, suc, ◌+◌, ◌^◌, ◌<◌, Bool, true, List, [], ◌∷◌}
use Rattle.std.proofs.Common.{length, Option, Some, None, refl, ap, subst, arith}
use Rattle.std.specs.Prelude.{◌&&◌, ◌==◌, nat_lt, drop}
use Rattle.std.proofs.lemmas.Bool.{eqb-true}
use Rattle.xf_type.specs.declared.payload_type.PayloadType.{PayloadType}
use Rattle.xf_ir.specs.declared.name.ValueName.{ValueName}
use Rattle.xf_ir.specs.declared.kind.Kind.{Kind}
use Rattle.xf_ir.specs.declared.kind.Kind.TheVariants as kind
use Rattle.xf_ir.specs.Lists.{Each, every}
use Rattle.xf_ir.specs.Calls.{Signatures}
use Rattle.xf_ir.specs.RuleAttributes.{kind_fits}
use Rattle.xf_ir.specs.RuleTypes.{row_of as type_row}
use Rattle.xf_ir.specs.Tree.{Ops}
use Rattle.xf_type.proofs.EqualTypes.{types_are}
use Rattle.xf_ir.specs.Types.{have_types}
use Rattle.xf_printed.specs.Names.{Names}
use Rattle.xf_print_laws.proofs.Needs.{TypeFits}
use Rattle.xf_print_laws.proofs.Needs.{has_count, counted}
use Rattle.xf_type.specs.declared.payload_type.PayloadType.TheVariants.{Scalar}
use Rattle.xf_grammar.proofs.Basics.{both_true}
use Rattle.xf_type.specs.Equal.{same_types}
use Rattle.xf_type.specs.declared.payload_type.Dim.{Dim}
use Rattle.xf_type.specs.declared.payload_type.Dim.TheVariants.{Fixed, Dynamic}
use Rattle.xf_type.specs.declared.payload_type.PayloadType.TheVariants.{Tensor}
use Rattle.xf_shape.specs.Laws.{AreStored}
use Rattle.xf_ir.specs.Types.{rank_of}
use Rattle.xf_type.specs.declared.payload_type.Shape.{Shape}
use Rattle.xf_ir.specs.Types.{is_tensor_with}
use Rattle.xf_print_laws.proofs.Needs.{is_tensor}
use Rattle.xf_ir.specs.Lists.{is_empty}
use Rattle.xf_print_laws.proofs.Needs.{DenseFits, MapFits}
use Rattle.std.specs.Prelude.{not, ◌||◌, ◌≤◌}
use Rattle.std.proofs.Common.{sym}
use Rattle.xf_type.specs.declared.attribute.AffineMap.{AffineMap}
use Rattle.xf_ir.specs.Kinds.{is_linalg_yield, is_generic, ends_for, is_terminator}
use Rattle.xf_ir.specs.Placed.{Holder, holder_of, body_gives}
use Rattle.xf_ir.specs.RuleBlocks.{is_end}
use Rattle.xf_ir.specs.RuleLinalg.{is_projection, have_ranks, has_rank, maps_fit, is_structured}
use Rattle.xf_ir.specs.RuleLinalg.{maps_of as maps_ruled, iterators_of as iterators_ruled}
use Rattle.xf_ir.specs.RuleTypes.{open_count, slice_indices, is_one_tensor}
use Rattle.xf_ir.specs.Types.{last_type}
use Rattle.xf_printed.specs.Structured.{offsets_of, sizes_of, maps_of, iterators_of, window_values}
use Rattle.std.specs.Prelude.{pos, negsuc}
use Rattle.xf_ir.specs.declared.kind.SliceIndex.{SliceIndex}
use Rattle.xf_ir.specs.declared.kind.SliceIndex.TheVariants as index
use Rattle.xf_ir.specs.Types.{first_type}
use Rattle.xf_ir.specs.Lists.{behind_first}
use Rattle.xf_ir.specs.RuleSlices.{size_fits, sizes_fit, slice_between, first_result, slices}
use Rattle.xf_ir.specs.Tree.{Tree}
use Rattle.xf_shape.specs.Laws.{IsStoredDim}
use Rattle.xf_print_laws.specs.Stored.{HasShortProperties, IsShortIndex}
use Rattle.xf_print_laws.proofs.Needs.{PropertiesFit}
use Rattle.xf_print_laws.proofs.Ruled.{is_one_scalar, tensor_has}

-- ---- tensors of numbers, and windows

pub dense_right : (sigs : Signatures) (gives : List PayloadType) (k : Kind) (os : List (Option PayloadType))
    (ts : List PayloadType) → kind_fits k ≡ true → type_row sigs gives k os ts ≡ true → Each TypeFits ts → DenseFits k
dense_right sigs gives (kind.Dense shape numbers) os ts f e h =
    let same = types_are ts (Tensor shape ∷ []) (both_true (have_types os []) _ e).1 in
    (f, (subst (Each TypeFits) same h).0.0)
dense_right sigs gives k os ts f e h = tt

pub window_right : (names : Names) (k : Kind) (os : List ValueName) (ts : List PayloadType)
    → counted names k os ts ≡ true
    → open_count (offsets_of k) + open_count (sizes_of k) ≤ length (window_values k os)
window_right names (kind.ExtractSlice offsets sizes) os ts e =
    let k = kind.ExtractSlice offsets sizes in
    let p = both_true (has_count 1 ts) _ (both_true (not (is_empty os)) _ e).1 in
    omega (arith, eqb-true (length (window_values k os)) (open_count offsets + open_count sizes) p.1)
window_right names (kind.InsertSlice offsets sizes) os ts e =
    let k = kind.InsertSlice offsets sizes in
    let p = both_true (not (is_empty (drop 1 os))) _ e in
    omega (arith, eqb-true (length (window_values k os)) (open_count offsets + open_count sizes) p.1)
window_right names k os ts e = omega arith

map_right : (count : ℕ) (m : AffineMap) (o : Option PayloadType) → count < 2 ^ 32 → is_projection count m ≡ true
    → has_rank (length m.results) o ≡ true → ((t : PayloadType) → o ≡ Some t → rank_of t < 2 ^ 32) → MapFits m
map_right count m None lt p r few = absurd cc
map_right count m (Some t) lt p r few =
    let a = both_true (m.dims == count) _ p in
    let e = eqb-true m.dims count a.0 in
    let b = both_true (every (λ k. nat_lt k count) m.results) _ a.1 in
    let n = eqb-true (rank_of t) (length m.results) r in
    record {
      dims = omega (arith, e, lt);
      few = omega (arith, n, few t refl);
      below = subst (λ c. every (λ k. nat_lt k c) m.results ≡ true) (sym e) b.0;
      once = b.1;
    }

-- a type that is known fits
abbrev pub KnownFits : Option PayloadType → Type 0
KnownFits o = (t : PayloadType) → o ≡ Some t → TypeFits t

rank_short : (t : PayloadType) → TypeFits t → rank_of t < 2 ^ 32
rank_short (Scalar w) h = omega arith
rank_short (Tensor s) h = omega (arith, h.1)

each_map_right : (count : ℕ) (ms : List AffineMap) (os : List (Option PayloadType)) → count < 2 ^ 32
    → every (is_projection count) ms ≡ true → have_ranks ms os ≡ true → Each KnownFits os → Each MapFits ms
each_map_right count [] os lt p r few = tt
each_map_right count (m ∷ ms) [] lt p r few = absurd cc
each_map_right count (m ∷ ms) (o ∷ os) lt p r few =
    let a = both_true (is_projection count m) _ p in
    let b = both_true (has_rank (length m.results) o) _ r in
    (map_right count m o lt a.0 b.0 (λ t e. rank_short t (few.0 t e)), each_map_right count ms os lt a.1 b.1 few.1)

pub maps_right : (k : Kind) (os : List (Option PayloadType)) → length (iterators_of k) < 2 ^ 32
    → (not (is_structured k) || maps_fit (maps_ruled k os) (length (iterators_ruled k os)) os) ≡ true
    → Each KnownFits os → Each MapFits (maps_of k)
maps_right (kind.Generic maps iterators) os lt e few =
    let p = both_true (every (is_projection (length iterators)) maps) _ e in
    each_map_right (length iterators) maps os lt p.0 (both_true (have_ranks maps os) _ p.1).0 few
maps_right k os lt e few = tt

-- ---- what is short

maps_count : (ms : List AffineMap) (os : List (Option PayloadType)) → have_ranks ms os ≡ true → length ms ≡ length os
maps_count [] [] e = refl
maps_count [] (o ∷ os) e = absurd cc
maps_count (m ∷ ms) [] e = absurd cc
maps_count (m ∷ ms) (o ∷ os) e = ap suc (maps_count ms os (both_true (has_rank (length m.results) o) _ e).1)

maps_few : (k : Kind) (os : List (Option PayloadType)) → length os < 2 ^ 32
    → (not (is_structured k) || maps_fit (maps_ruled k os) (length (iterators_ruled k os)) os) ≡ true
    → length (maps_of k) < 2 ^ 32
maps_few (kind.Generic maps iterators) os few e =
    let p = both_true (every (is_projection (length iterators)) maps) _ e in
    omega (arith, few, maps_count maps os (both_true (have_ranks maps os) _ p.1).0)
maps_few k os few e = omega arith

-- a tensor type that is known
tensor_known : {p : Shape → Bool} {C : Type 0} (o : Option PayloadType)
    → ((s : Shape) → o ≡ Some (Tensor s) → p s ≡ true → C) → is_tensor_with p o ≡ true → C
tensor_known None f e = absurd cc
tensor_known (Some (Scalar w)) f e = absurd cc
tensor_known (Some (Tensor s)) f e = f s refl e

-- there are as many offsets and sizes as dimensions
abbrev FewIndices : Kind → Type 0
FewIndices k = (length (offsets_of k) < 2 ^ 32) × (length (sizes_of k) < 2 ^ 32)

few_indices : (offsets sizes : List SliceIndex) (larger : Shape) (os : List (Option PayloadType))
    → length larger.dims ≤ 8 → slice_indices offsets sizes larger os ≡ true
    → (length offsets < 2 ^ 32) × (length sizes < 2 ^ 32)
few_indices offsets sizes larger os few e =
    let n = length larger.dims in
    let p = both_true (length offsets == n) (length sizes == n) (both_true _ _ e).0 in
    let a = eqb-true (length offsets) n p.0 in
    let b = eqb-true (length sizes) n p.1 in
    (omega (arith, few, a), omega (arith, few, b))

indices_few : (sigs : Signatures) (gives : List PayloadType) (k : Kind) (os : List (Option PayloadType))
    (ts : List PayloadType) → type_row sigs gives k os ts ≡ true → Each KnownFits os → FewIndices k
indices_few sigs gives (kind.ExtractSlice offsets sizes) (o ∷ os) ts e h =
    tensor_known o (λ s q f. few_indices offsets sizes s os (h.0 (Tensor s) q).1 f) (both_true _ (is_one_tensor ts) e).0
indices_few sigs gives (kind.InsertSlice offsets sizes) (a ∷ (b ∷ os)) ts e h =
    tensor_known b (λ s q f. few_indices offsets sizes s os (h.1.0 (Tensor s) q).1
    (both_true _ (same_types ts (Tensor s ∷ [])) f).0) (both_true (is_tensor a) _ e).1
indices_few sigs gives (kind.ExtractSlice offsets sizes) [] ts e h = absurd cc
indices_few sigs gives (kind.InsertSlice offsets sizes) [] ts e h = absurd cc
indices_few sigs gives (kind.InsertSlice offsets sizes) (a ∷ []) ts e h =
    absurd (let p = (both_true (is_tensor a) _ e).1 in cc)
indices_few sigs gives k os ts e h = (omega arith, omega arith)

pub properties_right : (sigs : Signatures) (gives : List PayloadType) (t : Tree) (os : List (Option PayloadType))
    → HasShortProperties t → type_row sigs gives t.kind os t.results ≡ true
    → (not (is_structured t.kind) || maps_fit (maps_ruled t.kind os) (length (iterators_ruled t.kind os)) os) ≡ true
    → length os < 2 ^ 32 → Each KnownFits os → PropertiesFit t
properties_right sigs gives t os p e m few h =
    let n = indices_few sigs gives t.kind os t.results e h in
    record {
      offsets = n.0;
      sizes = n.1;
      offset_numbers = p.offsets;
      size_numbers = p.sizes;
      maps = maps_few t.kind os few m;
      iterators = p.iterators;
      types = p.types;
    }

-- ---- what the block of a linalg.generic is given

abbrev pub HolderFits : Holder → Type 0
HolderFits h = is_generic h.kind ≡ true → is_one_scalar h.gives ≡ true

body_given : (o : Option PayloadType) (p : Shape → Bool) → is_tensor_with p o ≡ true
    → is_one_scalar (body_gives o) ≡ true
body_given None p e = absurd cc
body_given (Some t) p e = refl

pub holder_fits : (sigs : Signatures) (gives : List PayloadType) (k : Kind) (os : List (Option PayloadType))
    (ts : List PayloadType) → type_row sigs gives k os ts ≡ true → HolderFits (holder_of k os ts)
holder_fits sigs gives (kind.Generic maps iterators) os ts e g = body_given (last_type os) _ e
holder_fits sigs gives k os ts e g = absurd cc

yield_held : (h k : Kind) → is_linalg_yield k ≡ true → ends_for h k ≡ true → is_generic h ≡ true
yield_held (kind.Generic maps iterators) k y e = refl
yield_held h kind.LinalgYield y e = absurd cc
yield_held h k y e = absurd cc

yield_ends : (k : Kind) → is_linalg_yield k ≡ true → is_terminator k ≡ true
yield_ends kind.LinalgYield y = refl
yield_ends k y = absurd cc

pub yields_right : (h : Holder) (k : Kind) (after : Ops) → HolderFits h
    → (not (is_terminator k) || (is_end after && ends_for h.kind k)) ≡ true → is_linalg_yield k ≡ true
    → is_one_scalar h.gives ≡ true
yields_right h k after f e y =
    let t = yield_ends k y in
    f (yield_held h.kind k y (both_true (is_end after) _ (rw t at e)).1)
