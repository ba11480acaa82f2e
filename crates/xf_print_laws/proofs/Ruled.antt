-- What the rules say of one operation of a valid module: its types, how many operands and results it has, its blocks
-- and its attributes.
use Rattle.std.proofs.Common.{◌≡◌, ℕ, suc, ◌+◌, ◌^◌, ◌<◌, Bool, true, List, [], ◌∷◌}
use Rattle.std.proofs.Common.{length, Option, Some, None, refl, ap, subst, arith, slice_get, zero}
use Rattle.std.specs.Prelude.{◌&&◌, ◌==◌, map, nat_lt, drop}
use Rattle.std.proofs.lemmas.Bool.{eqb-true}
use Rattle.xf_type.specs.declared.payload_type.PayloadType.{PayloadType}
use Rattle.xf_ir.specs.declared.name.ValueName.{ValueName}
use Rattle.xf_ir.specs.declared.kind.Attr.{Attr}
use Rattle.xf_ir.specs.declared.kind.Kind.{Kind}
use Rattle.xf_ir.specs.declared.kind.Kind.TheVariants as kind
use Rattle.xf_ir.specs.Kinds.{has_body, has_else}
use Rattle.xf_ir.specs.Lists.{Each, every}
use Rattle.xf_ir.specs.Calls.{Signatures}
use Rattle.xf_ir.specs.RuleAttributes.{kind_fits, attributes_fit, value_fits}
use Rattle.xf_ir.specs.RuleBlocks.{block_args, args_fit}
use Rattle.xf_ir.specs.RuleBlocks.{blocks_fit}
use Rattle.xf_ir.specs.RuleTypes.{row_of as type_row}
use Rattle.xf_ir.specs.Tree.{Regions, no_regions, region}
use Rattle.xf_type.proofs.EqualTypes.{types_are}
use Rattle.xf_ir.specs.Types.{have_types, has_type}
use Rattle.xf_ir.specs.Bounds.{IsShortAttr}
use Rattle.xf_printed.specs.Names.{Names, first_args}
use Rattle.xf_print_laws.proofs.Needs.{TypeFits}
use Rattle.xf_print_laws.proofs.Needs.{AttrFits, arguments_of, CarriedRight}
use Rattle.xf_print_laws.proofs.Needs.{has_count, has_three, counted, has_regions, typed}
use Rattle.xf_print_laws.specs.Stored.{HasBytes}
use Rattle.xf_type.specs.declared.payload_type.PayloadType.TheVariants.{Scalar}
use Rattle.xf_type.specs.declared.payload_type.Width.{Width}
use Rattle.xf_type.specs.declared.payload_type.Width.TheVariants.{I1}
use Rattle.xf_ir.specs.Words.{is_word}
use Rattle.xf_grammar.proofs.Basics.{and_is, both_true}
use Rattle.xf_type.specs.Equal.{same_types}
use Rattle.xf_ir.specs.Bounds.{HasShortSymbol}
use Rattle.xf_printed.specs.Fills.{symbol_printed}
use Rattle.xf_print_laws.proofs.Needs.{SymbolFits}
use Rattle.xf_printed.specs.Names.{type_of}
use Rattle.std.specs.Prelude.{nat_le}
use Rattle.xf_type.specs.declared.payload_type.Dim.{Dim}
use Rattle.xf_type.specs.declared.payload_type.Dim.TheVariants.{Fixed, Dynamic}
use Rattle.xf_type.specs.declared.payload_type.PayloadType.TheVariants.{Tensor}
use Rattle.xf_shape.specs.Laws.{AreStored}
use Rattle.xf_ir.specs.RuleAttributes.{dim_fits, type_fits}
use Rattle.xf_type.specs.declared.payload_type.Shape.{Shape}
use Rattle.xf_type.specs.declared.payload_type.Width.TheVariants.{Index}
use Rattle.xf_ir.specs.Types.{is_tensor_with}
use Rattle.xf_print_laws.proofs.Needs.{is_tensor}
use Rattle.std.proofs.lemmas.Bool.{ltb-true, leb-true}
use Rattle.xf_ir.specs.Lists.{is_empty}
use Rattle.xf_ir.specs.RuleTypes.{operand_count}
use Rattle.xf_ir.specs.declared.kind.NamedKind.{NamedKind}
use Rattle.xf_ir.specs.declared.kind.NamedKind.TheVariants.{Fill}
use Rattle.xf_print_laws.proofs.Needs.{has_two_or_three, has_window}
use Rattle.std.specs.Prelude.{not, replicate, false}
use Rattle.std.proofs.Common.{◌∙◌}
use Rattle.std.proofs.lemmas.List.{length-replicate}
use Rattle.xf_ir.specs.Kinds.{is_linalg_yield}
use Rattle.xf_ir.specs.RuleTypes.{open_count, slice_indices, is_one_tensor}
use Rattle.xf_ir.specs.Types.{last_type, is_scalar}
use Rattle.xf_printed.specs.Structured.{offsets_of, sizes_of, window_values}

-- ---- types

dims_stored : (ds : List Dim) → every dim_fits ds ≡ true → AreStored ds
dims_stored [] e = tt
dims_stored (Fixed n ∷ ds) e =
    let p = both_true (nat_lt n (2 ^ 31)) _ e in
    let l = ltb-true n (2 ^ 31) p.0 in
    (omega arith, dims_stored ds p.1)
dims_stored (Dynamic ∷ ds) e = (tt, dims_stored ds e)

type_stored : (t : PayloadType) → type_fits t ≡ true → TypeFits t
type_stored (Scalar w) e = tt
type_stored (Tensor s) e =
    let p = both_true (nat_le (length s.dims) 8) _ e in
    (dims_stored s.dims p.1, leb-true (length s.dims) 8 p.0)

pub types_stored : (ts : List PayloadType) → every type_fits ts ≡ true → Each TypeFits ts
types_stored [] e = tt
types_stored (t ∷ ts) e = let p = both_true (type_fits t) _ e in (type_stored t p.0, types_stored ts p.1)

pub first_stored : (rs : Regions) → every (every type_fits) (block_args rs) ≡ true → Each TypeFits (first_args rs)
first_stored no_regions e = tt
first_stored (region args ops rest) e = types_stored args (both_true (every type_fits args) _ e).0

-- one of them
pub type_is : (ts : List PayloadType) (num : ℕ) (t : PayloadType) → Each TypeFits ts → slice_get ts num ≡ Some t
    → (num < length ts) × TypeFits t
type_is [] num t h e = absurd cc
type_is (u ∷ ts) zero t h e = let q : u ≡ t = cc in (omega arith, subst TypeFits q h.0)
type_is (u ∷ ts) (suc num) t h e = let r = type_is ts num t h.1 e in let l = r.0 in (omega arith, r.1)

-- ---- numbers of operands

tensor_is : (p : Shape → Bool) (o : Option PayloadType) → is_tensor_with p o ≡ true → is_tensor o ≡ true
tensor_is p None e = absurd cc
tensor_is p (Some (Scalar w)) e = absurd cc
tensor_is p (Some (Tensor s)) e = refl

none_left : {A : Type 0} (xs : List A) → is_empty xs ≡ true → has_count 0 xs ≡ true
none_left [] e = refl
none_left (x ∷ xs) e = absurd cc

none_mapped : {A B : Type 0} (f : A → B) (xs : List A) → is_empty (map f xs) ≡ true → has_count 0 xs ≡ true
none_mapped f [] e = refl
none_mapped f (x ∷ xs) e = absurd cc

two_or_three : {A B : Type 0} (f : A → B) (which : NamedKind) (xs : List A) → length (map f xs) ≡ operand_count which
    → has_two_or_three xs ≡ true
two_or_three f which (a ∷ (b ∷ [])) e = refl
two_or_three f which (a ∷ (b ∷ (c ∷ []))) e = refl
two_or_three f Fill xs e = absurd (omega arith)
two_or_three f which xs e = absurd (omega arith)

no_values : {A B : Type 0} (f : A → B) (xs : List A) → not (is_empty (map f xs)) ≡ true → not (is_empty xs) ≡ true
no_values f [] e = absurd cc
no_values f (x ∷ xs) e = refl

some_values : (of : ValueName → Option PayloadType) (p : Shape → Bool) (os : List ValueName)
    → is_tensor_with p (last_type (map of os)) ≡ true → not (is_empty os) ≡ true
some_values of p [] e = absurd cc
some_values of p (o ∷ os) e = refl

-- a tensor that passes one test passes another
tensor_passes : {p q : Shape → Bool} → ((s : Shape) → p s ≡ true → q s ≡ true) → (o : Option PayloadType)
    → is_tensor_with p o ≡ true → is_tensor_with q o ≡ true
tensor_passes f None e = absurd cc
tensor_passes f (Some (Scalar w)) e = absurd cc
tensor_passes f (Some (Tensor s)) e = f s e

-- a fact that one tensor has
pub tensor_has : {p : Shape → Bool} {C : Type 0} → ((s : Shape) → p s ≡ true → C) → (o : Option PayloadType)
    → is_tensor_with p o ≡ true → C
tensor_has f None e = absurd cc
tensor_has f (Some (Scalar w)) e = absurd cc
tensor_has f (Some (Tensor s)) e = f s e

one_tensor : (ts : List PayloadType) → is_one_tensor ts ≡ true → has_count 1 ts ≡ true
one_tensor [] e = absurd cc
one_tensor (t ∷ ts) e = none_left ts (both_true (is_tensor_with (λ s. true) (Some t)) _ e).1

-- the block of a linalg.generic is given one scalar
abbrev pub is_one_scalar : List PayloadType → Bool
is_one_scalar (Scalar w ∷ []) = true
is_one_scalar ts = false

scalar_type : (o : Option PayloadType) (w : Width) → has_type o (Scalar w) ≡ true → is_scalar o ≡ true
scalar_type None w e = absurd cc
scalar_type (Some (Scalar v)) w e = refl
scalar_type (Some (Tensor s)) w e = absurd cc

-- a result of the type of a tensor
one_given : (ts : List PayloadType) (o : Option PayloadType)
    → is_tensor_with (λ s. same_types ts (Tensor s ∷ [])) o ≡ true → has_count 1 ts ≡ true
one_given ts None e = absurd cc
one_given ts (Some (Scalar w)) e = absurd cc
one_given ts (Some (Tensor s)) e = ap (has_count 1) (types_are ts (Tensor s ∷ []) e)

module _ (of : ValueName → Option PayloadType) where
  have_count : (os : List ValueName) (ts : List PayloadType) → have_types (map of os) ts ≡ true
      → (has_count (length ts) os ≡ true) × (length os ≡ length ts)
  have_count [] [] e = (refl, refl)
  have_count (o ∷ os) (t ∷ ts) e =
      let p = have_count os ts (both_true (has_type (of o) t) _ e).1 in (p.0, ap suc p.1)
  have_count os ts e = absurd cc

  -- a loop carries what stands behind three
  loop_carries : (os : List ValueName) (w : Width) (ts : List PayloadType)
      → have_types (map of os) (Scalar w ∷ (Scalar w ∷ (Scalar w ∷ ts))) ≡ true
      → (has_three os ≡ true) × (length (drop 3 os) ≡ length ts)
  loop_carries os w ts e =
      let n = (have_count os (Scalar w ∷ (Scalar w ∷ (Scalar w ∷ ts))) e).1 in carries os (omega arith)
    where
      carries : (os : List ValueName) → length os ≡ 3 + length ts
          → (has_three os ≡ true) × (length (drop 3 os) ≡ length ts)
      carries (a ∷ (b ∷ (c ∷ os))) n = (refl, omega arith)
      carries os n = absurd (omega arith)

module _ (sigs : Signatures) (gives : List PayloadType) (names : Names) where
  abbrev Ruled : Kind → List ValueName → List PayloadType → Type 0
  Ruled k os ts = type_row sigs gives k (map (type_of names) os) ts ≡ true

  count : (os : List ValueName) (ts : List PayloadType) → have_types (map (type_of names) os) ts ≡ true
      → has_count (length ts) os ≡ true
  count os ts e = (have_count (type_of names) os ts e).0

  -- one operand for each place that is no number
  window : (k : Kind) (os : List ValueName) (larger : Shape)
      → slice_indices (offsets_of k) (sizes_of k) larger (map (type_of names) (window_values k os)) ≡ true
      → has_window k os ≡ true
  window k os larger e =
      let n = open_count (offsets_of k) + open_count (sizes_of k) in
      let c = (have_count (type_of names) (window_values k os) (replicate n (Scalar Index))
      (both_true ((length (offsets_of k) == length larger.dims) && (length (sizes_of k) == length larger.dims)) _
      e).1).1 in
      let r = length-replicate n (Scalar Index) in
      is_same _ _ (c ∙ r)
    where
      is_same : (a b : ℕ) → a ≡ b → (a == b) ≡ true
      is_same a b q = subst (λ c. (a == c) ≡ true) q (own a)
        where
          own : (a : ℕ) → (a == a) ≡ true
          own a = grind arith

  one_scalar : (os : List ValueName) → is_one_scalar gives ≡ true → have_types (map (type_of names) os) gives ≡ true
      → (has_count 1 os && is_scalar (typed names os 0)) ≡ true
  one_scalar os g e = by os gives g e
    where
      by : (os : List ValueName) (gs : List PayloadType) → is_one_scalar gs ≡ true
          → have_types (map (type_of names) os) gs ≡ true → (has_count 1 os && is_scalar (typed names os 0)) ≡ true
      by (o ∷ []) (Scalar w ∷ []) g e = scalar_type (type_of names o) w (both_true _ true e).0
      by [] (Scalar w ∷ []) g e = absurd cc
      by (o ∷ o' ∷ os) (Scalar w ∷ []) g e =
          absurd (let p = (both_true (has_type (type_of names o) (Scalar w)) _ e).1 in cc)
      by os gs g e = absurd cc

  -- the terminator of a linalg.generic gives what its block is given
  abbrev pub Yields : Kind → Type 0
  Yields k = is_linalg_yield k ≡ true → is_one_scalar gives ≡ true

  pub counts : (k : Kind) (os : List ValueName) (ts : List PayloadType) → Yields k → Ruled k os ts
      → counted names k os ts ≡ true
  counts (kind.Module symbol) os ts y e = count os [] (both_true _ _ e).0
  counts (kind.Func symbol private results) os ts y e = count os [] (both_true _ _ e).0
  counts (kind.Constant w bits) os ts y e = count os [] (both_true _ _ e).0
  counts (kind.Binary which w) os ts y e = count os (Scalar w ∷ (Scalar w ∷ [])) (both_true _ _ e).0
  counts (kind.Compare which w) os ts y e = count os (Scalar w ∷ (Scalar w ∷ [])) (both_true _ _ e).0
  counts (kind.Select w) os ts y e = count os (Scalar I1 ∷ (Scalar w ∷ (Scalar w ∷ []))) (both_true _ _ e).0
  counts (kind.Convert which from to) os ts y e = count os (Scalar from ∷ []) (both_true _ _ e).0
  counts (kind.For w) os ts y e = (loop_carries (type_of names) os w ts e).0
  counts kind.If os ts y e = count os (Scalar I1 ∷ []) e
  counts kind.Empty os (t ∷ ts) y e =
      let p = both_true _ (is_empty ts) e in and_is _ _ (tensor_is _ (Some t) p.0) p.1
  counts kind.Dim (o ∷ os) ts y e =
      let p = both_true (is_tensor (type_of names o)) _ e in
      and_is _ _ (count os (Scalar Index ∷ []) (both_true _ _ p.1).0) p.0
  counts kind.Extract (o ∷ os) ts y e = tensor_is _ (type_of names o) e
  counts kind.Insert (a ∷ (b ∷ os)) ts y e = tensor_is _ (type_of names b) e
  counts kind.Cast (o ∷ os) (t ∷ ts) y e =
      let p = both_true (is_empty (map (type_of names) os)) (is_empty ts) (both_true _ _ e).1 in
      and_is _ _ (none_mapped _ os p.0) (none_left ts p.1)
  counts (kind.Named which) os ts y e =
      let p = both_true (length (map (type_of names) os) == operand_count which) _ e in
      and_is _ _ (two_or_three (type_of names) which os (eqb-true _ (operand_count which) p.0))
      (one_given ts _ (both_true _ _ p.1).0)
  counts kind.Cast [] (t ∷ ts) y e = absurd cc
  counts (kind.Dense shape numbers) os ts y e = count os [] (both_true _ _ e).0
  counts (kind.ExtractSlice offsets sizes) (o ∷ os) ts y e =
      let p = both_true _ (is_one_tensor ts) e in
      let k = kind.ExtractSlice offsets sizes in
      and_is _ _ (one_tensor ts p.1) (tensor_has (λ s f. window k (o ∷ os) s f) (type_of names o) p.0)
  counts (kind.InsertSlice offsets sizes) (a ∷ (b ∷ os)) ts y e =
      let p = both_true (is_tensor (type_of names a)) _ e in
      let k = kind.InsertSlice offsets sizes in
      tensor_has (λ s f. window k (a ∷ (b ∷ os)) s (both_true _ (same_types ts (Tensor s ∷ [])) f).0)
      (type_of names b) p.1
  counts (kind.InsertSlice offsets sizes) (a ∷ []) ts y e =
      absurd (let p = (both_true (is_tensor (type_of names a)) _ e).1 in cc)
  counts (kind.Generic maps iterators) os ts y e =
      and_is _ _ (some_values (type_of names) _ os e) (one_given ts _ e)
  counts kind.LinalgYield os ts y e = one_scalar os (y refl) (both_true _ (same_types ts []) e).0
  counts k os ts y e = cc

  pub carried_right : (k : Kind) (os : List ValueName) (ts : List PayloadType) → Ruled k os ts → CarriedRight k os ts
  carried_right (kind.For width) os ts e = (loop_carries (type_of names) os width ts e).1
  carried_right k os ts e = tt

-- ---- regions

-- each argument of a block is one of the first
abbrev pub Within : List PayloadType → List PayloadType → Type 0
Within args first = (num : ℕ) (t : PayloadType) → slice_get args num ≡ Some t → slice_get first num ≡ Some t

abbrev pub Narrow : List PayloadType → Regions → Type 0
Narrow first rs = Each (λ args. Within args first) (block_args rs)

pub blocks_right : (k : Kind) (os : List (Option PayloadType)) (ts : List PayloadType) (rs : Regions)
    → blocks_fit k os ts (block_args rs) ≡ true → (has_regions k rs ≡ true) × Narrow (first_args rs) rs
blocks_right k os ts no_regions e = (e, tt)
blocks_right k os ts (region args ops no_regions) e =
    (and_is _ _ (both_true (has_body k) _ e).0 refl, (λ num t h. h, tt))
blocks_right k os ts (region args ops (region [] ops' no_regions)) e =
    let p = both_true (has_body k) _ e in
    let q = both_true (has_else k) _ (both_true (args_fit k os ts args) _ p.1).1 in
    (and_is _ _ p.0 (and_is _ _ q.0 refl), (λ num t h. h, (λ num t h. absurd cc, tt)))
blocks_right k os ts (region args ops (region args' ops' rest)) e =
    absurd (let q = (both_true (has_else k) _
    (both_true (args_fit k os ts args) _ (both_true (has_body k) _ e).1).1).1 in cc)

pub args_right : (k : Kind) (os : List (Option PayloadType)) (ts : List PayloadType) (rs : Regions)
    → blocks_fit k os ts (block_args rs) ≡ true → first_args rs ≡ arguments_of k ts (first_args rs)
args_right (kind.Func symbol private results) os ts rs e = refl
args_right (kind.For width) os ts (region args ops rest) e =
    types_are args (Scalar width ∷ ts) (both_true (same_types args (Scalar width ∷ ts)) _ e).0
args_right (kind.Generic maps iterators) os ts rs e = refl
args_right k os ts no_regions e = cc
args_right k os ts (region [] ops rest) e = refl
args_right k os ts (region (t ∷ args) ops rest) e = absurd cc

-- ---- symbols and attributes

pub symbol_fits : (k : Kind) → kind_fits k ≡ true → HasShortSymbol k → SymbolFits (symbol_printed k)
symbol_fits (kind.Module None) f s = tt
symbol_fits (kind.Module (Some symbol)) f s = (f, s)
symbol_fits (kind.Func symbol private results) f s = (f, s)
symbol_fits (kind.Call callee) f s = (f, s)
symbol_fits k f s = tt

pub attrs_right : (ds : List Attr) → attributes_fit ds ≡ true → Each (λ (d : Attr). HasBytes d.value) ds
    → Each IsShortAttr ds → Each AttrFits ds
attrs_right [] e b s = tt
attrs_right (d ∷ ds) e b s =
    let p = both_true (is_word d.name && value_fits d.value) _ e in
    let q = both_true (is_word d.name) (value_fits d.value) p.0 in
    let r = both_true _ (attributes_fit ds) p.1 in
    (record { name = q.0; value = q.1; bytes = b.0; short = s.0 }, attrs_right ds r.1 b.1 s.1)
