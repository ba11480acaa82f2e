-- What the printed form of a valid module says is right, and means the module again, with names in preorder.
use Rattle.std.proofs.Common.{◌≡◌, ℕ, ◌+◌, ◌^◌, ◌<◌, true, false, List, [], ◌∷◌, length, None, refl, sym}
use Rattle.std.proofs.Common.{ap, subst}
use Rattle.std.proofs.Common.{◌∙◌, arith, append-nil}
use Rattle.std.specs.Prelude.{map}
use Rattle.std.proofs.lemmas.Bool.{and_parts, or_parts, eq-eqb}
use Rattle.xf_type.specs.declared.payload_type.PayloadType.{PayloadType}
use Rattle.xf_type.specs.Equal.{same_types}
use Rattle.xf_type.proofs.EqualTypes.{types_are}
use Rattle.xf_ir.specs.declared.kind.Attr.{Attr}
use Rattle.xf_ir.specs.declared.kind.Kind.{Kind}
use Rattle.xf_ir.specs.declared.kind.Kind.TheVariants as kind
use Rattle.xf_ir.specs.declared.name.OpName.{OpName}
use Rattle.xf_ir.specs.declared.name.ValueName.{ValueName}
use Rattle.xf_ir.specs.declared.op.Module.{Module}
use Rattle.xf_ir.specs.Calls.{Signatures, signatures, has_its_callee}
use Rattle.xf_ir.specs.Count.{regions_count}
use Rattle.xf_ir.specs.Kinds.{is_module}
use Rattle.xf_ir.specs.Lists.{Each, Once, TextsOnce, same_bytes, is_text_among}
use Rattle.xf_ir.specs.Placed.{type_at, block_of, Holder, Placed, placed, top, root_holder}
use Rattle.xf_ir.specs.Renamed.{IsRenamed}
use Rattle.xf_ir.specs.RuleAttributes.{has_its_attributes}
use Rattle.xf_ir.specs.RuleBlocks.{has_its_regions, ends_its_blocks}
use Rattle.xf_ir.specs.RuleLinalg.{has_its_maps}
use Rattle.xf_ir.specs.RuleTypes.{has_its_types}
use Rattle.xf_ir.specs.Tree.{Tree, Ops, no_ops, op, Regions, no_regions, region}
use Rattle.xf_ir.specs.Types.{have_types}
use Rattle.xf_ir.specs.Valid.{FunctionsAlone, FunctionsSee, symbols_of}
use Rattle.xf_ir.specs.Walk.{ops_names, regions_names, tree_names}
use Rattle.xf_ir.proofs.Found.{tree}
use Rattle.xf_ir.proofs.Lists.{not_left, once_left, once_right}
use Rattle.xf_ir.proofs.Root.{one_block}
use Rattle.xf_ir.proofs.ShortPlaced.{IsShortThere, short_placed}
use Rattle.xf_ir_laws.proofs.Obeys.{FunctionsObey, blocks_obey}
use Rattle.xf_read.specs.Meant.{yield_tree, said_meant}
use Rattle.xf_read.specs.Names.{symbol_named}
use Rattle.xf_read.specs.Scopes.{Meanings, no_names, with_name}
use Rattle.xf_syntax.specs.Telling.{no_nodes_said, SaidBodies, no_bodies_said, body_said}
use Rattle.xf_printed.specs.Names.{Names, first_args, next_number, with_ops}
use Rattle.xf_printed.specs.Names.{no_names as no_numbers}
use Rattle.xf_print_laws.specs.Naming.{FunctionsNumber}
use Rattle.xf_print_laws.specs.SaidPrinted.{head_by, functions_printed, printed_said}
use Rattle.xf_print_laws.specs.Stored.{AllBytes, HasShortProperties}
use Rattle.xf_print_laws.proofs.Entries.{number_after, argument_after, ops_entered, regions_number, regions_argument}
use Rattle.xf_roundtrip.specs.Laws.{PrintedSaysTheModule}
use Rattle.xf_roundtrip.specs.Printable.{IsPrintable}
use Rattle.xf_roundtrip.specs.SaidWell.{said_well}
use Rattle.xf_roundtrip.proofs.Again.{NodesAgain, body_again, node_again, op_again, regions_again}
use Rattle.xf_roundtrip.proofs.Dictionaries.{each_all}
use Rattle.xf_roundtrip.proofs.Names.{named_by, Clear, knows_nothing, with_other}
use Rattle.xf_roundtrip.proofs.Places.{index_of, same_place, Counts, all_counted}
use Rattle.xf_roundtrip.proofs.Says.{Good}

-- ---- symbols

-- no function's symbol is visible
abbrev SymbolsFree : Meanings → List (List ℕ) → Type 0
SymbolsFree scope ss = Each (λ s. scope (64 ∷ s) ≡ None) ss

same_self : (t : List ℕ) → same_bytes t t ≡ true
same_self [] = refl
same_self (x ∷ t) = let e = eq-eqb x x refl in rw e (same_self t)

still_free : (scope : Meanings) (s : List ℕ) (ss : List (List ℕ)) → is_text_among s ss ≡ false → SymbolsFree scope ss
    → SymbolsFree (with_name (64 ∷ s) symbol_named scope) ss
still_free scope s [] a f = tt
still_free scope s (t ∷ ss) a f =
    let p = or_parts (same_bytes t s) (is_text_among s ss) a in
    let other = λ (e : 64 ∷ s ≡ 64 ∷ t). let q : t ≡ s = cc in
    let z : true ≡ false = sym (same_self t) ∙ (ap (same_bytes t) q ∙ p.0) in absurd cc in
    (with_other (64 ∷ s) (64 ∷ t) symbol_named scope other ∙ f.0, still_free scope s ss p.1 f.1)

-- ---- functions

module _ (g : OpName → ℕ) (sigs : Signatures) where
  functions_again : (fs : Ops) (h : Holder) (n : ℕ) (scope : Meanings) → FunctionsObey (Good sigs) h fs
      → FunctionsAlone fs → FunctionsSee fs → Once (ops_names fs) → Counts g n (ops_names fs) → FunctionsNumber fs
      → Clear 0 0 scope → TextsOnce (symbols_of fs) → SymbolsFree scope (symbols_of fs)
      → NodesAgain g n scope (functions_printed fs) false fs
  functions_again no_ops h n scope good alone see once c numbers clear o f =
      record { well = refl; means = refl; count = refl }
  functions_again (op m (kind.Func symbol private results) ds os ts rs rest) h n scope good alone see once c numbers
      clear o f =
      let k : Kind = kind.Func symbol private results in
      let one : Ops = op m k ds os ts rs no_ops in
      let names : Names = with_ops no_numbers one in
      let inner = regions_names rs in
      let later : Meanings = with_name (64 ∷ symbol) symbol_named scope in
      let fits = and_parts (have_types (map (type_at []) os) []) (same_types ts []) good.0.types in
      let none = types_are ts [] fits.1 in
      let nil = append-nil inner in
      let own : Once (ops_names one) =
      rw nil (not_left m inner (ops_names rest) once.0, once_left inner (ops_names rest) once.1) in
      let entered = ops_entered one no_numbers names own (each_all _ (ops_names one) (λ x. refl)) in
      let lk : regions_number (next_number 0 ts) rs < 2 ^ 64 =
      subst (λ i. i < 2 ^ 64) (number_after no_numbers one) numbers.0 in
      let la : regions_argument (0 + length (first_args rs)) rs < 2 ^ 64 =
      subst (λ i. i < 2 ^ 64) (argument_after no_numbers one) numbers.1.0 in
      let new = f.0 in
      op_again g sigs names h [] n 0 0 scope m k ds os ts rs rest
      (functions_printed rest) false good.0 c entered.0 lk la
      (rw new) see.0 (knows_nothing names g scope) clear
      (λ args so ends known free cs. regions_again g sigs names rs k (map (type_at []) os) ts [] m (n + 1)
      (next_number 0 ts)
      (0 + length (first_args rs)) 0 _ _ (first_args rs) args refl so ends good.1.0 see.1.0 entered.1.0 cs
      alone.1.0 lk la known free)
      (λ cs r. rw none (functions_again rest h (n + (1 + regions_count rs)) later good.1.1 alone.1.1 see.1.1
      (once_right inner (ops_names rest) once.1) cs numbers.1.1
      (record { numbers = λ j. clear.numbers j; arguments = λ j. clear.arguments j }) o.1
      (still_free scope symbol (symbols_of rest) o.0 f.1)))
  functions_again (op m k ds os ts rs rest) h n scope good alone see once c numbers clear o f = absurd cc

-- ---- modules

-- all rules at once
all_good : (sigs : Signatures) (ps : List Placed) → Each (λ p. has_its_regions p ≡ true) ps
    → Each (λ p. ends_its_blocks p ≡ true) ps → Each (λ p. has_its_types sigs p ≡ true) ps
    → Each (λ p. has_its_callee sigs p ≡ true) ps → Each (λ p. has_its_attributes p ≡ true) ps
    → Each (λ p. has_its_maps p ≡ true) ps → Each (λ (p : Placed). HasShortProperties p.tree) ps → Each AllBytes ps
    → Each IsShortThere ps → Each (Good sigs) ps
all_good sigs [] a b c d e f i g h = tt
all_good sigs (p ∷ ps) a b c d e f i g h = (
  record {
    regions = a.0;
    blocks = b.0;
    types = c.0;
    callee = d.0;
    attributes = e.0;
    maps = f.0;
    properties = i.0;
    bytes = g.0;
    short = h.0;
  },
  all_good sigs ps a.1 b.1 c.1 d.1 e.1 f.1 i.1 g.1 h.1,
)

abbrev first_tree : Ops → Tree
first_tree no_ops = yield_tree 0
first_tree (op n k ds os ts rs rest) = tree n k ds os ts rs

module _ (name : OpName) (ds : List Attr) (os : List ValueName) (ts : List PayloadType) (next : ℕ) where
  abbrev holding : Kind → Regions → Module
  holding k rs = record { root = tree name k ds os ts rs; next = next }

  abbrev Says : Module → Type 0
  Says m = (said_well (printed_said m) ≡ true) × IsRenamed m (said_meant (printed_said m))

  says_functions : (k : Kind) (fs : Ops) → is_module k ≡ true → IsPrintable (holding k (region [] fs no_regions))
      → Says (holding k (region [] fs no_regions))
  says_functions (kind.Module symbol) fs i x =
      let k : Kind = kind.Module symbol in
      let m : Module = holding k (region [] fs no_regions) in
      let v = x.valid in
      let sigs : Signatures = signatures m in
      let g : OpName → ℕ = λ o. index_of o (tree_names m.root) in
      let good = all_good sigs (placed m) v.regions v.blocks v.types v.callees v.attributes v.maps x.properties x.bytes
      (short_placed m x.lists) in
      let c = all_counted (tree_names m.root) v.names.once in
      let nil = append-nil (ops_names fs) in
      let clear : Clear 0 0 no_names = record { numbers = λ j le lt. refl; arguments = λ j le lt. refl } in
      let each = functions_again g sigs fs (root_holder m.root) 1 no_names
      (blocks_obey (Good sigs) (root_holder m.root) m.root.regions good.1).0 v.functions.alone.0 v.uses.functions
      (subst Once nil v.names.once.1) (subst (Counts g 1) nil c.1) x.numbers clear
      (subst TextsOnce (append-nil (symbols_of fs)) v.functions.names) (each_all _ (symbols_of fs) (λ x. refl)) in
      let bs : SaidBodies = body_said (functions_printed fs) no_bodies_said in
      let inner = body_again g 1 no_names (head_by no_numbers 0 0 k ds os ts [])
      (functions_printed fs) no_bodies_said []
      fs no_regions refl each (record { well = refl; means = refl; count = refl }) in
      let a = node_again g sigs no_numbers top [] 0 0 0 no_names name k ds os ts (region [] fs no_regions) no_ops
      no_nodes_said bs false good.0 c.0 (omega arith) (omega arith) refl v.uses.root
      (knows_nothing no_numbers g no_names)
      clear inner (record { well = refl; means = refl; count = refl }) in (
        (and_parts _ _ a.well).0,
        record {
          names = named_by g;
          root = ap first_tree a.means;
          apart = λ p q h l e. same_place (tree_names m.root) p q h l (ap (λ (n : OpName). n.0) e);
        },
      )
  says_functions k fs i x = absurd cc

pub printed_says : PrintedSaysTheModule
printed_says m x =
    let t = m.root in
    let v = x.valid in
    let e = one_block t.kind v.functions.root (map (type_at []) t.operands) t.results t.regions v.regions.0 in
    let to = holding t.name t.attrs t.operands t.results m.next t.kind in
    subst (λ rs. IsPrintable (to rs) → Says t.name t.attrs t.operands t.results m.next (to rs)) (sym e)
    (says_functions t.name t.attrs t.operands t.results m.next t.kind (block_of t.regions) v.functions.root) x
