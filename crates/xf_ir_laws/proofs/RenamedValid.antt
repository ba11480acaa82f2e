-- A valid module stays valid under other names of operations.
use Rattle.std.proofs.Common.{◌≡◌, ◌<◌, ℕ, Bool, true, List, [], ◌∷◌, ◌++◌, refl, sym, ap, subst, ◌∙◌}
use Rattle.std.specs.Prelude.{map}
use Rattle.xf_ir.specs.declared.name.OpName.{OpName}
use Rattle.xf_ir.specs.declared.op.Module.{Module}
use Rattle.xf_ir.specs.Calls.{signatures, signature, function_of, has_its_callee, has_short_chains}
use Rattle.xf_ir.specs.Lists.{Each, Once, TextsOnce, is_among}
use Rattle.xf_ir.specs.Placed.{type_at, Holder, holder_of, Placed, placed, top, root_holder, blocks_placed, Everywhere}
use Rattle.xf_ir.specs.Placed.{functions_of}
use Rattle.xf_ir.specs.RuleAttributes.{has_its_attributes, has_types_in_range}
use Rattle.xf_ir.specs.RuleBlocks.{has_its_regions, ends_its_blocks}
use Rattle.xf_ir.specs.RuleLinalg.{has_its_maps, has_its_iterators, has_its_reduction, has_its_extents, fits_its_body}
use Rattle.xf_ir.specs.RuleSlices.{has_its_slices}
use Rattle.xf_ir.specs.RuleTypes.{has_its_types}
use Rattle.xf_ir.specs.Tree.{Ops, no_ops, no_regions, region}
use Rattle.xf_ir.specs.Valid.{IsValid, FunctionsSee}
use Rattle.xf_ir.specs.Walk.{ops_names, regions_names, tree_names}
use Rattle.xf_ir_laws.proofs.Kept.{placed_at}
use Rattle.xf_ir.proofs.Lists.{each_left}
use Rattle.xf_ir_laws.proofs.Obeys.{Passes, BlocksObey, blocks_obey, each_blocks}
use Rattle.xf_ir.proofs.Root.{one_block}
use Rattle.xf_ir_laws.proofs.SeenTypes.{Known, functions_see, functions_known, root_seen, root_known}
use Rattle.xf_ir.specs.Renamed.{ops_renamed, regions_renamed, tree_renamed}
use Rattle.xf_ir_laws.specs.Laws.{RenamingKeepsValid}
use Rattle.xf_ir_laws.proofs.KnownPlaces.{module_known}
use Rattle.xf_ir_laws.proofs.RenamedPlaces.{StayApart, once_mapped, placed_renamed, each_among, regions_names_renamed}
use Rattle.xf_ir_laws.proofs.RenamedPlaces.{block_again, no_types}
use Rattle.xf_ir_laws.proofs.RenamedReductions.{IsKnown, reductions_same}
use Rattle.xf_ir_laws.proofs.RenamedRules.{blocks_alone, symbols_in_same, regions_same, ranges_same, blocks_same}
use Rattle.xf_ir_laws.proofs.RenamedRules.{signature_same, block_same, short_same}

-- what each operation has, each has under other names
each_again : (f : OpName → OpName) (P Q : Placed → Type 0) (ps : List Placed)
    → ((p : Placed) → P p → Q (placed_renamed f p)) → Each P ps → Each Q (map (placed_renamed f) ps)
each_again f P Q [] g h = tt
each_again f P Q (p ∷ ps) g h = (g p h.0, each_again f P Q ps g h.1)

each_with : (P Q : Placed → Type 0) (ps : List Placed) → Each P ps → Each Q ps → Each (λ p. P p × Q p) ps
each_with P Q [] h k = tt
each_with P Q (p ∷ ps) h k = ((h.0, k.0), each_with P Q ps h.1 k.1)

module _ (m : Module) (f : OpName → OpName) (next : ℕ) (v : IsValid m) (stay : StayApart f (tree_names m.root)) where
  abbrev again : Module
  again = record { root = tree_renamed f m.root; next = next }

  one : m.root.regions ≡ region [] (functions_of m) no_regions
  one = one_block m.root.kind v.functions.root
      (map (type_at []) m.root.operands) m.root.results m.root.regions v.regions.0

  names_again : tree_names again.root ≡ map f (tree_names m.root)
  names_again = ap (λ ns. f m.root.name ∷ ns) (regions_names_renamed f m.root.regions)

  -- ---- the operations stand where they stood

  blocks_placed_again : (h : Holder)
      → blocks_placed h (regions_renamed f m.root.regions) ≡ map (placed_renamed f) (blocks_placed h m.root.regions)
  blocks_placed_again h =
      let all : List OpName = tree_names m.root in
      let P : OpName → Type 0 = λ n. is_among n all ≡ true in
      let fs : Ops = functions_of m in
      let each : Each P (ops_names fs ++ []) = subst (λ rs. Each P (regions_names rs)) one (each_among all).1 in
      subst (λ rs. blocks_placed h (regions_renamed f rs) ≡ map (placed_renamed f) (blocks_placed h rs)) (sym one)
      (block_again f all stay h fs (each_left P (ops_names fs) [] each) v.uses.functions)

  placed_again : placed again ≡ map (placed_renamed f) (placed m)
  placed_again =
      let q = no_types f m.root.operands in
      let a =
      ap (λ types. blocks_placed (holder_of m.root.kind types m.root.results) (regions_renamed f m.root.regions)) q
      ∙ blocks_placed_again (root_holder m.root) in
      λ i. placed_at top (q i) (tree_renamed f m.root) no_ops ∷ a i

  -- a rule is kept that asks the same of an operation under other names
  kept : (P Q : Placed → Type 0) → ((p : Placed) → P p → Q (placed_renamed f p)) → Each P (placed m)
      → Each Q (placed again)
  kept P Q g h = subst (Each Q) (sym placed_again) (each_again f P Q (placed m) g h)

  passes : (test test' : Placed → Bool) → ((p : Placed) → test' (placed_renamed f p) ≡ test p) → Everywhere test m
      → Everywhere test' again
  passes test test' g h = kept (Passes test) (Passes test') (λ p e. g p ∙ e) h

  -- ---- what symbols name

  functions_same : functions_of again ≡ ops_renamed f (functions_of m)
  functions_same = block_same f m.root.regions

  signatures_same : signatures again ≡ signatures m
  signatures_same =
      λ i s. (ap (λ fs. signature (function_of s fs)) functions_same ∙ signature_same f (functions_of m) s) i

  -- ---- visible operands

  all_known : Each Known (placed m)
  all_known =
      let h = root_holder m.root in
      let blocks : BlocksObey Known h m.root.regions =
      subst (BlocksObey Known h) (sym one) (functions_known h (functions_of m) v.uses.functions, tt) in
      (root_known m.root.operands v.uses.root, each_blocks Known h m.root.regions blocks)

  sees_again : Each Known (placed again) → Everywhere has_its_regions again → FunctionsSee (functions_of again)
  sees_again known regions =
      let h = root_holder again.root in
      let e = one_block m.root.kind v.functions.root _ _ again.root.regions regions.0 in
      let b = subst (BlocksObey Known h) e (blocks_obey Known h again.root.regions known.1) in
      functions_see h (functions_of again) b.0

  -- ---- reductions

  reduces_again : Everywhere has_its_reduction again
  reduces_again =
      let all : List OpName = tree_names m.root in
      let K = IsKnown all in
      let P = Passes has_its_reduction in
      kept (λ p. K p × P p) P (λ p h. reductions_same f all stay p h.0
      ∙ h.1) (each_with K P (placed m) (module_known m one v.uses.functions) v.reductions)

  -- ---- all rules

  pub valid_under : Each (λ n. n.0 < next) (tree_names again.root) → IsValid again
  valid_under below =
      let once : Once (tree_names again.root) =
      subst Once (sym names_again) (once_mapped f (tree_names m.root) stay v.names.once) in
      let regions = passes has_its_regions has_its_regions (regions_same f) v.regions in
      let known = kept Known Known (λ p k. k) all_known in
      record {
        names = record { once = once; below = below };
        functions = record {
          root = v.functions.root;
          alone = blocks_alone f m.root.regions v.functions.alone;
          names = subst TextsOnce (sym (symbols_in_same f m.root.regions)) v.functions.names;
        };
        regions = regions;
        blocks = passes ends_its_blocks ends_its_blocks (blocks_same f) v.blocks;
        uses = record { root = root_seen again.root.operands known.0; functions = sees_again known regions };
        types = passes (has_its_types (signatures m)) (has_its_types (signatures again))
            (λ p. ap (λ sigs. has_its_types sigs p) signatures_same) v.types;
        attributes = passes has_its_attributes has_its_attributes (λ p. refl) v.attributes;
        callees = passes (has_its_callee (signatures m)) (has_its_callee (signatures again))
            (λ p. ap (λ sigs. has_its_callee sigs p) signatures_same) v.callees;
        chains = passes (has_short_chains (functions_of m)) (has_short_chains (functions_of again))
            (λ p. ap (λ fs. has_short_chains fs (placed_renamed f p)) functions_same
            ∙ short_same f (functions_of m) p) v.chains;
        maps = passes has_its_maps has_its_maps (λ p. refl) v.maps;
        iterators = passes has_its_iterators has_its_iterators (λ p. refl) v.iterators;
        reductions = reduces_again;
        extents = passes has_its_extents has_its_extents (λ p. refl) v.extents;
        bodies = passes fits_its_body fits_its_body (λ p. refl) v.bodies;
        ranges = passes has_types_in_range has_types_in_range (ranges_same f) v.ranges;
        slices = passes has_its_slices has_its_slices (λ p. refl) v.slices;
      }

pub renaming_keeps_valid : RenamingKeepsValid
renaming_keeps_valid m again v r below =
    let e = r.root in
    let q : again ≡ (let x : Module = record { root = tree_renamed r.names m.root; next = again.next } in x) =
    λ i. record { root = e i; next = again.next } in
    subst IsValid (sym q)
    (valid_under m r.names again.next v r.apart (subst (λ x. Each (λ n. n.0 < x.next) (tree_names x.root)) q below))
