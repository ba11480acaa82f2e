-- The printed head of an operation that keeps the rules says what the operation is.
use Rattle.std.proofs.Common.{◌≡◌, ℕ, Bool, true, false, List, [], ◌∷◌, length, drop, Option, Some, None, refl, sym, ap}
use Rattle.std.proofs.Common.{◌+◌, ◌++◌, ◌∙◌, arith, slice_get}
use Rattle.std.specs.Prelude.{map, option_map, not, ◌||◌, nat_le}
use Rattle.std.proofs.lemmas.Bool.{and_parts, eq-eqb}
use Rattle.std.proofs.lemmas.List.{length-map}
use Rattle.xf_type.specs.declared.payload_type.PayloadType.{PayloadType}
use Rattle.xf_type.specs.declared.payload_type.PayloadType.TheVariants.{Scalar}
use Rattle.xf_type.specs.declared.payload_type.Width.TheVariants.{I1}
use Rattle.xf_type.specs.Equal.{same_types}
use Rattle.xf_type.proofs.EqualTypes.{types_are, width_itself}
use Rattle.xf_format.specs.Columns as columns
use Rattle.xf_format.specs.declared.columns.OperandCount.TheVariants.{Types}
use Rattle.xf_format.specs.declared.columns.OperandTypes.TheVariants.{Listed}
use Rattle.xf_format.specs.Parts.{Said}
use Rattle.xf_ir.specs.declared.kind.Attr.{Attr}
use Rattle.xf_ir.specs.declared.kind.Kind.{Kind}
use Rattle.xf_ir.specs.declared.kind.Kind.TheVariants as kind
use Rattle.xf_ir.specs.Calls.{Signature, Signatures, callee_agrees, agrees, has_its_callee}
use Rattle.xf_ir.specs.Bounds.{HasShortLists}
use Rattle.xf_ir.specs.Placed.{Placed}
use Rattle.xf_ir.specs.Lists.{Each, every}
use Rattle.xf_ir.specs.RuleAttributes.{kind_fits, attributes_fit, has_its_attributes, fits_bits, numbers_of}
use Rattle.xf_ir.specs.RuleAttributes.{element_count}
use Rattle.xf_ir.specs.RuleLinalg.{is_structured, maps_of, iterators_of, maps_fit, have_ranks, is_projection}
use Rattle.xf_ir.specs.RuleLinalg.{has_its_maps}
use Rattle.xf_ir.specs.RuleBlocks.{block_args, blocks_fit, has_its_regions, ends_its_blocks}
use Rattle.xf_ir.specs.RuleTypes.{takes_gives, are_inputs, has_its_types}
use Rattle.xf_ir.specs.RuleTypes.{row_of as type_row}
use Rattle.xf_ir.specs.Types.{have_types, is_dynamic}
use Rattle.xf_type.specs.declared.attribute.AffineMap.{AffineMap}
use Rattle.xf_ir.specs.declared.kind.IteratorKind.{IteratorKind}
use Rattle.xf_read.specs.Types.{is_counted, result_types, argument_types}
use Rattle.xf_read.specs.Names.{function_symbol}
use Rattle.xf_read_base.specs.Structured.{no_aliases, window_meant}
use Rattle.xf_read_base.specs.Values.{attrs_said, kind_said}
use Rattle.xf_printed.specs.Names.{Names, first_args, type_of}
use Rattle.xf_print_laws.specs.SaidPrinted.{row_of, symbol_said, head_by, known_types, known_at, index_printed}
use Rattle.xf_print_laws.specs.Naming.{use_printed}
use Rattle.xf_print_laws.specs.Stored.{AllBytes, IsShortIndex, HasShortProperties}
use Rattle.xf_printed.specs.Structured.{offsets_of, sizes_of}
use Rattle.xf_roundtrip.specs.SaidWell.{entries_once}
use Rattle.xf_roundtrip.proofs.Blocks.{no_args, args_of}
use Rattle.xf_roundtrip.proofs.Dictionaries.{attrs_again, entries_differ}
use Rattle.xf_roundtrip.proofs.Fits.{all_fit, have_is, known_are, fit_all, loop_stated}
use Rattle.xf_roundtrip.proofs.Literals.{literal_again}
use Rattle.xf_roundtrip.proofs.Shaped.{Fit, all_listed, empty_fits, dim_fits, extract_fits, insert_fits, cast_fits}
use Rattle.xf_roundtrip.proofs.Shaped.{named_fits}
use Rattle.xf_roundtrip.proofs.Structured.{extract_slice_fits, insert_slice_fits, generic_fits, ranks_known}
use Rattle.xf_roundtrip.proofs.Structured.{arguments_behind}
use Rattle.xf_roundtrip.proofs.Windows.{window_again, maps_again, numbers_again}

-- the symbol of a function
abbrev pub symbol_named : Kind → Option (List ℕ)
symbol_named (kind.Func symbol private results) = Some (64 ∷ symbol)
symbol_named _ = None

symbol_is : (k : Kind) → function_symbol (row_of k) (symbol_said k) ≡ symbol_named k
symbol_is (kind.Func symbol private results) = refl
symbol_is k = refl

module_symbol : (s : Option (List ℕ)) → option_map (drop 1) (option_map (λ (b : List ℕ). 64 ∷ b) s) ≡ s
module_symbol None = refl
module_symbol (Some b) = refl

abbrev inputs_of : Option Signature → List PayloadType
inputs_of None = []
inputs_of (Some s) = s.inputs

-- as many operands as are stated, of the types that are stated
record AsStated (t : Said) (us : List PayloadType) : Type 0 where
  count : is_counted t ≡ true
  fit : all_fit t 0 (map Some us) ≡ true

-- where a type is stated for each operand
each_stated : (t : Said) (us : List PayloadType) → columns.operand_types t.row ≡ Listed 0
    → columns.operand_count t.row ≡ Types → t.types ≡ us → length t.uses ≡ length us → AsStated t us
each_stated t us f c l n = record {
  count = ap (λ x. columns.is_counted x t.types t.results (length t.uses)) c
      ∙ eq-eqb (length t.uses) (length t.types) (n ∙ ap length (sym l));
  fit = fit_all t us (λ i. ap (λ x. columns.operand_type x t.types t.results i) f
      ∙ (all_listed t.types t.results i ∙ ap (λ ts. slice_get ts i) l));
}

-- a head says what its operation is, and has operands of these types
pub record SaysIt (t : Said) (k : Kind) (ds : List Attr) (types : List (Option PayloadType))
    (ts args : List PayloadType) : Type 0 where
  pub kind_is : kind_said no_aliases t.row t ≡ k
  pub attrs : attrs_said t.entries ≡ ds
  pub values : Fit t types ts
  pub arguments : argument_types t ≡ args
  pub once : entries_once (λ name. false) t.entries ≡ true
  pub symbol : function_symbol t.row t.symbol ≡ symbol_named k

-- the rule of maps
abbrev maps_rule : Kind → List (Option PayloadType) → Bool
maps_rule k types = not (is_structured k) || maps_fit (maps_of k types) (length (iterators_of k types)) types

-- what is known of an operation where it stands
pub record Good (sigs : Signatures) (p : Placed) : Type 0 where
  pub regions : has_its_regions p ≡ true
  pub blocks : ends_its_blocks p ≡ true
  pub types : has_its_types sigs p ≡ true
  pub callee : has_its_callee sigs p ≡ true
  pub attributes : has_its_attributes p ≡ true
  pub maps : has_its_maps p ≡ true
  pub properties : HasShortProperties p.tree
  pub bytes : AllBytes p
  pub short : HasShortLists p.tree

module _ (sigs : Signatures) (p : Placed) where
  open p use {types, holder.{gives}, tree.{attrs as ds, operands as os, results as ts, regions as rs}}

  -- operands have these types, and results those
  record TypesAgree (wanted given : List PayloadType) : Type 0 where
    operands : types ≡ map Some wanted
    results : given ≡ ts

  gives_it : (wanted given : List PayloadType) → takes_gives wanted given types ts ≡ true → TypesAgree wanted given
  gives_it wanted given e =
      let p = and_parts (have_types types wanted) (same_types ts given) e in
      record { operands = have_is types wanted p.0; results = sym (types_are ts given p.1) }

  called : (s : Option Signature) → are_inputs s types ≡ true → agrees s ts ≡ true → types ≡ map Some (inputs_of s)
  called None f e = absurd cc
  called (Some s) f e = have_is types s.inputs f

  module _ (names : Names) (i a : ℕ) where
    abbrev head : Kind → Said
    head k = head_by names i a k ds os ts (first_args rs)

    kind_again : (k : Kind) → Each IsShortIndex (offsets_of k) → Each IsShortIndex (sizes_of k) → kind_fits k ≡ true
        → kind_said no_aliases (row_of k) (head k) ≡ k
    kind_again (kind.Module symbol) o z f = ap kind.Module (module_symbol symbol)
    kind_again (kind.Constant I1 bits) o z f = ap (kind.Constant I1) (literal_again I1 bits f)
    kind_again (kind.Constant width bits) o z f = ap (kind.Constant width) (literal_again width bits f)
    kind_again (kind.Dense shape numbers) o z f =
        let d = every (λ e. not (is_dynamic e)) shape.dims in
        let n = numbers_of (element_count shape.dims) numbers in
        let p = and_parts (nat_le (element_count shape.dims) 1048576) _ (and_parts d _ f).1 in
        let q = and_parts n (every (fits_bits shape.elem) numbers) p.1 in
        ap (kind.Dense shape) (numbers_again shape (element_count shape.dims) numbers q.0 q.1)
    kind_again (kind.ExtractSlice offsets sizes) o z f =
        ap (λ is. kind.ExtractSlice is (window_meant (map index_printed sizes))) (window_again offsets o)
        ∙ ap (kind.ExtractSlice offsets) (window_again sizes z)
    kind_again (kind.InsertSlice offsets sizes) o z f =
        ap (λ is. kind.InsertSlice is (window_meant (map index_printed sizes))) (window_again offsets o)
        ∙ ap (kind.InsertSlice offsets) (window_again sizes z)
    kind_again (kind.Generic maps iterators) o z f = ap (λ ms. kind.Generic ms iterators) (maps_again no_aliases maps)
    kind_again k o z f = cc

    -- as many names as operands
    as_many : map (type_of names) os ≡ types → length (map (use_printed names) os) ≡ length types
    as_many e = length-map os (use_printed names) ∙ (sym (length-map os (type_of names)) ∙ ap length e)

    -- the types of the operands of a generic are known
    generic_known : (maps : List AffineMap) (iterators : List IteratorKind)
        → maps_rule (kind.Generic maps iterators) types ≡ true → types ≡ map Some (known_types types)
    generic_known maps iterators m =
        ranks_known maps types (and_parts (have_ranks maps types) _
        (and_parts (every (is_projection (length iterators)) maps) _ m).1).0

    arguments_again : (k : Kind) → maps_rule k types ≡ true → map (type_of names) os ≡ types
        → blocks_fit k types ts (block_args rs) ≡ true → argument_types (head k) ≡ first_args rs
    arguments_again (kind.Func symbol private results) m t e = refl
    arguments_again (kind.For width) m t e =
        sym (types_are (first_args rs) (Scalar width ∷ ts) (args_of (kind.For width) types ts rs refl e))
    arguments_again (kind.Generic maps iterators) m t e =
        ap (λ us. drop (length (map (use_printed names) os)) (known_types us ++ first_args rs)) t
        ∙ arguments_behind (head (kind.Generic maps iterators)) types (first_args rs)
        (length (map (use_printed names) os)) (as_many t) (generic_known maps iterators m)
    arguments_again k m t e = sym (no_args k types ts rs (λ args. refl) e)

    -- where the operands have the types that are wanted
    as_wanted : (k : Kind) (us : List PayloadType) → map (type_of names) os ≡ types → TypesAgree us (result_types (head k))
        → (known_types (map (type_of names) os) ≡ us → length (map (use_printed names) os) ≡ length us
        → AsStated (head k) us) → Fit (head k) types ts
    as_wanted k us e g s =
        let known = ap known_types (e ∙ g.operands) ∙ known_are us in
        let long = length-map os (use_printed names) ∙ (sym (length-map os (type_of names))
        ∙ (ap length (e ∙ g.operands) ∙ length-map us Some)) in
        let t = s known long in
        record { results = g.results; count = t.count; fit = ap (all_fit (head k) 0) g.operands ∙ t.fit }

    -- of an operation that states the type of each operand
    listed : (k : Kind) (us : List PayloadType) → map (type_of names) os ≡ types → TypesAgree us (result_types (head k))
        → columns.operand_types (row_of k) ≡ Listed 0 → columns.operand_count (row_of k) ≡ Types
        → (head k).types ≡ known_types (map (type_of names) os) → Fit (head k) types ts
    listed k us e g f c t = as_wanted k us e g (λ p n. each_stated (head k) us f c (t ∙ p) n)

    fit_again : (k : Kind) → maps_rule k types ≡ true → type_row sigs gives k types ts ≡ true
        → callee_agrees sigs k ts ≡ true → map (type_of names) os ≡ types → Fit (head k) types ts
    fit_again (kind.Module symbol) c r s e =
        as_wanted (kind.Module symbol) [] e (gives_it [] _ r) (λ p n. record { count = refl; fit = refl })
    fit_again (kind.Func symbol private results) c r s e =
        as_wanted (kind.Func symbol private results) [] e (gives_it [] _ r) (λ p n. record { count = refl; fit = refl })
    fit_again kind.Return c r s e = listed kind.Return gives e (gives_it gives _ r) refl refl refl
    fit_again kind.Yield c r s e = listed kind.Yield gives e (gives_it gives _ r) refl refl refl
    fit_again (kind.Call callee) c r s e =
        listed (kind.Call callee) (inputs_of (sigs callee)) e
        (record { operands = called (sigs callee) r s; results = refl }) refl refl refl
    fit_again (kind.Constant width bits) c r s e =
        as_wanted (kind.Constant width bits) [] e (gives_it [] _ r) (λ p n. record { count = refl; fit = refl })
    fit_again (kind.Binary which width) c r s e =
        let w = width_itself width in
        as_wanted (kind.Binary which width) (Scalar width ∷ (Scalar width ∷ [])) e (gives_it _ _ r)
        (λ p n. record { count = refl; fit = rw w })
    fit_again (kind.Compare which width) c r s e =
        let w = width_itself width in
        as_wanted (kind.Compare which width) (Scalar width ∷ (Scalar width ∷ [])) e (gives_it _ _ r)
        (λ p n. record { count = refl; fit = rw w })
    fit_again (kind.Select width) c r s e =
        let w = width_itself width in
        as_wanted (kind.Select width) (Scalar I1 ∷ (Scalar width ∷ (Scalar width ∷ []))) e (gives_it _ _ r)
        (λ p n. record { count = refl; fit = rw w })
    fit_again (kind.Convert which from to) c r s e =
        let w = width_itself from in
        as_wanted (kind.Convert which from to) (Scalar from ∷ []) e (gives_it _ _ r)
        (λ p n. record { count = refl; fit = rw w })
    fit_again (kind.For width) c r s e =
        let us : List PayloadType = Scalar width ∷ (Scalar width ∷ (Scalar width ∷ ts)) in
        as_wanted (kind.For width) us e (record { operands = have_is types us r; results = refl })
        (λ p n. record {
          count = eq-eqb (length (map (use_printed names) os)) (3 + length ts) (n ∙ omega arith);
          fit = fit_all (head (kind.For width)) us (loop_stated width ts);
        })
    fit_again kind.If c r s e =
        as_wanted kind.If (Scalar I1 ∷ []) e (record { operands = have_is types _ r; results = refl })
        (λ p n. record { count = refl; fit = refl })
    fit_again kind.Empty c r s e = empty_fits (head kind.Empty) types ts refl refl refl
    fit_again kind.Dim c r s e = dim_fits (head kind.Dim) types ts refl (ap (λ us. known_at us 0) e) r
    fit_again kind.Extract c r s e = extract_fits (head kind.Extract) types ts refl (ap (λ us. known_at us 0) e) r
    fit_again kind.Insert c r s e = insert_fits (head kind.Insert) types ts refl (ap (λ us. known_at us 1) e) r
    fit_again kind.Cast c r s e = cast_fits (head kind.Cast) types ts refl (ap (λ us. known_at us 0) e) refl r
    fit_again (kind.Named which) c r s e =
        named_fits (head (kind.Named which)) which types ts refl (ap known_types e) refl (as_many e) r
    fit_again (kind.Dense shape numbers) c r s e =
        as_wanted (kind.Dense shape numbers) [] e (gives_it [] _ r) (λ p n. record { count = refl; fit = refl })
    fit_again (kind.ExtractSlice offsets sizes) c r s e =
        extract_slice_fits (head (kind.ExtractSlice offsets sizes)) offsets sizes types ts refl
        (ap (λ us. known_at us 0) e) refl r
    fit_again (kind.InsertSlice offsets sizes) c r s e =
        insert_slice_fits (head (kind.InsertSlice offsets sizes)) offsets sizes types ts refl
        (ap (λ us. known_at us 0 ++ known_at us 1) e) r
    fit_again (kind.Generic maps iterators) c r s e =
        generic_fits (head (kind.Generic maps iterators)) types (first_args rs) ts refl
        (ap (λ us. known_types us ++ first_args rs) e) refl (as_many e) (generic_known maps iterators c)
    fit_again kind.LinalgYield c r s e =
        as_wanted kind.LinalgYield gives e (gives_it gives _ r)
        (λ p n. record {
          count = refl;
          fit = fit_all (head kind.LinalgYield) gives
              (λ i. all_listed (head kind.LinalgYield).types [] i ∙ ap (λ us. slice_get us i) p);
        })

    pub says_it : Good sigs p → map (type_of names) os ≡ types
        → SaysIt (head p.tree.kind) p.tree.kind ds types ts (first_args rs)
    says_it w e =
        let k : Kind = p.tree.kind in
        let f = and_parts (kind_fits k) (attributes_fit ds) w.attributes in
        record {
          kind_is = kind_again k w.properties.offsets w.properties.sizes f.0;
          attrs = attrs_again ds f.1 w.bytes;
          values = fit_again k w.maps w.types w.callee e;
          arguments = arguments_again k w.maps e w.regions;
          once = entries_differ ds f.1;
          symbol = symbol_is k;
        }
