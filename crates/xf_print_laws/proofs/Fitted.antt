-- The operations of a valid module have what their slots need, where they stand.
use Rattle.std.proofs.Common.{◌≡◌, ◌⊎◌, inl, inr, ℕ, suc, ◌+◌, ◌^◌, ◌<◌, ◌≤◌, Bool, true, false, List, [], ◌∷◌, ◌++◌}
use Rattle.std.proofs.Common.{length, Option, Some, None, refl, sym, ap, subst, ◌∙◌, arith, slice_get, append-nil}
use Rattle.std.specs.Prelude.{◌&&◌, ◌||◌, ◌==◌, map, not, is_some, nat_lt, if◌then◌else◌}
use Rattle.std.proofs.lemmas.Bool.{eqb-true, or_left, or_right}
use Rattle.xf_type.specs.declared.payload_type.PayloadType.{PayloadType}
use Rattle.xf_ir.specs.declared.name.OpName.{OpName}
use Rattle.xf_ir.specs.declared.name.ValueName.{ValueName}
use Rattle.xf_ir.specs.declared.name.ValueName.TheVariants.{Result, Arg}
use Rattle.xf_ir.specs.declared.kind.Attr.{Attr}
use Rattle.xf_ir.specs.declared.kind.Kind.{Kind}
use Rattle.xf_ir.specs.declared.kind.Kind.TheVariants as kind
use Rattle.xf_ir.specs.declared.op.Module.{Module}
use Rattle.xf_ir.specs.Limits.{most_operations}
use Rattle.xf_ir.specs.Kinds.{is_terminator, is_container, is_function, is_module, returned_types}
use Rattle.xf_ir.specs.Lists.{Each, every, Once}
use Rattle.xf_ir.specs.Places.{done, inside, below}
use Rattle.xf_ir.specs.Placed.{Typed, type_at, Holder, holder_of, Placed, place, placed, functions_of, block_of}
use Rattle.xf_ir.specs.Placed.{root_holder}
use Rattle.xf_ir.specs.Calls.{Signatures, signatures}
use Rattle.xf_ir.specs.Count.{tree_count}
use Rattle.xf_ir.specs.RuleAttributes.{kind_fits, attributes_fit, has_its_attributes}
use Rattle.xf_ir.specs.RuleBlocks.{has_its_regions, is_end, ends_its_blocks, blocks_end}
use Rattle.xf_ir.specs.RuleTypes.{has_its_types, row_of as type_row}
use Rattle.xf_ir.specs.Tree.{Ops, no_ops, op, Regions, no_regions, region, Tree}
use Rattle.xf_type.proofs.EqualTypes.{types_are}
use Rattle.xf_ir.specs.Types.{have_types}
use Rattle.xf_ir.specs.Valid.{OpsInner, RegionsInner, FunctionsAlone}
use Rattle.xf_ir.specs.Valid.{IsValid}
use Rattle.xf_ir.specs.Walk.{ops_names, regions_names}
use Rattle.xf_ir.proofs.ShortPlaced.{short_placed}
use Rattle.xf_ir.proofs.Lists.{once_left, once_right}
use Rattle.xf_ir_laws.proofs.Obeys.{OpsObey, RegionsObey, FunctionsObey, blocks_obey}
use Rattle.xf_ir.proofs.Root.{one_block}
use Rattle.xf_ir.specs.Bounds.{HasShortLists}
use Rattle.xf_printed.specs.Names.{Names, no_names, first_args, next_number, number_of}
use Rattle.xf_printed.specs.Names.{first_of}
use Rattle.xf_print_laws.specs.Naming.{FunctionsNumber}
use Rattle.xf_print_laws.proofs.Needs.{Known, TypeFits, names_in, tree, Fits, OpsFit}
use Rattle.xf_print_laws.proofs.Needs.{RegionsFit, FunctionsFit, ModuleFits}
use Rattle.xf_print_laws.specs.Stored.{AllBytes, IsStored}
use Rattle.xf_print_laws.proofs.Entries.{number_more, ops_number, regions_number, ops_argument, regions_argument}
use Rattle.xf_print_laws.proofs.Entries.{ops_number_more, regions_number_more, ops_argument_more, regions_argument_more}
use Rattle.xf_print_laws.proofs.Entries.{HasEntry, Entered, RegionsEntered, ops_entered, number_after, argument_after}
use Rattle.xf_print_laws.proofs.Numbers.{module_numbers}
use Rattle.xf_grammar.proofs.Basics.{both_true}
use Rattle.xf_ir.specs.Types.{known}
use Rattle.xf_ir.specs.Placed.{type_or}
use Rattle.xf_ir.proofs.Lists.{at_cases}
use Rattle.xf_ir_laws.proofs.SeenTypes.{functions_known, root_known, Known as AreKnown}
use Rattle.xf_printed.specs.Names.{type_of}
use Rattle.xf_print_laws.proofs.Needs.{Named}
use Rattle.xf_ir.specs.RuleAttributes.{type_fits, has_types_in_range}
use Rattle.xf_print_laws.proofs.Needs.{TypeKnown}
use Rattle.xf_print_laws.proofs.Ruled.{type_is, types_stored, first_stored, counts, carried_right, blocks_right}
use Rattle.xf_print_laws.proofs.RuledStructured.{dense_right, maps_right, window_right, KnownFits, properties_right}
use Rattle.xf_print_laws.proofs.RuledStructured.{HolderFits, holder_fits, yields_right}
use Rattle.xf_ir.specs.RuleSlices.{has_its_slices}
use Rattle.std.proofs.lemmas.List.{length-map}
use Rattle.xf_ir.specs.RuleLinalg.{has_its_maps}
use Rattle.xf_print_laws.specs.Stored.{HasShortProperties}
use Rattle.xf_print_laws.proofs.Ruled.{args_right, attrs_right, symbol_fits, Within, Narrow}

-- ---- visible values

-- each visible value is known, with its type
abbrev Sees : Typed → Names → Type 0
Sees env names =
    (v : ValueName) (t : PayloadType) → type_at env v ≡ Some t
    → (type_of names v ≡ Some t) × (TypeFits t × Named names v)

value_known : (names : Names) (env : Typed) (v : ValueName) (o : Option PayloadType) → Sees env names
    → type_at env v ≡ o → is_some o ≡ true → Known names v × (type_of names v ≡ o)
value_known names env v None w e k = absurd cc
value_known names env v (Some t) w e k =
    let h = w v t e in ((subst TypeKnown (sym h.0) h.1.0, h.1.1), h.0)

-- operands are known, and have the types that the rules see
all_known : (names : Names) (env : Typed) (os : List ValueName) → Sees env names
    → every known (map (type_at env) os) ≡ true
    → Each (Known names) os × (map (type_of names) os ≡ map (type_at env) os)
all_known names env [] w e = (tt, refl)
all_known names env (v ∷ vs) w e =
    let p = both_true (known (type_at env v)) _ e in
    let h = value_known names env v (type_at env v) w refl p.0 in
    let later = all_known names env vs w p.1 in
    ((h.0, later.0), λ i. h.1 i ∷ later.1 i)

type_found : (b : Bool) (num count : ℕ) (ts : List PayloadType) (later : Option PayloadType) (t : PayloadType)
    → type_or (if b then below num count else None) ts later ≡ Some t
    → ((b ≡ true) × (slice_get ts num ≡ Some t)) ⊎ (later ≡ Some t)
type_found false num count ts later t e = inr e
type_found true num count ts later t e =
    at_cases (nat_lt num count) (Some num) None
    (λ x. type_or x ts later ≡ Some t → ((true ≡ true) × (slice_get ts num ≡ Some t)) ⊎ (later ≡ Some t))
    (λ l q. inl (refl, q)) (λ l q. inr q) e

-- the values of an operation are known by its entry
module _ {names : Names} {n : OpName} {k a : ℕ} {ts args : List PayloadType} (h : HasEntry names n k a ts args)
    (env : Typed) (w : Sees env names) where
  entry_of : (o : OpName) → (o.0 == n.0) ≡ true → names.entry o.0 ≡ Some h.entry
  entry_of o e = ap names.entry (eqb-true o.0 n.0 e) ∙ h.is

  done_known : k < 2 ^ 64 → length ts < 2 ^ 32 → Each TypeFits ts → Sees ((done n (length ts), ts) ∷ env) names
  done_known kl short s (Result o num) t e =
      elim (type_found (o.0 == n.0) num (length ts) ts (type_at env (Result o num)) t e) [
        | inl p ↦
            (let same = h.number in
            let x = type_is ts num t s p.1 in
            let lt = x.0 in
            rw (entry_of o p.0) (ap (λ xs. slice_get xs num) h.results ∙ p.1, (x.1, (omega arith, omega arith))))
        | inr r ↦ w (Result o num) t r
      ]
  done_known kl short s v t e = w v t e

  inside_known : a + length args < 2 ^ 64 → Each TypeFits args → (i : ℕ) (ins : List PayloadType) → Within ins args
      → Sees ((inside n i (length ins), ins) ∷ env) names
  inside_known room s i ins within (Arg o r num) t e =
      elim (type_found ((o.0 == n.0) && (r == i)) num (length ins) ins (type_at env (Arg o r num)) t e) [
        | inl p ↦
            (let same = h.first in
            let q = within num t p.1 in
            let x = type_is args num t s q in
            let lt = x.0 in
            rw (entry_of o (both_true (o.0 == n.0) (r == i) p.0).0)
            (ap (λ xs. slice_get xs num) h.arguments ∙ q, (x.1, omega arith)))
        | inr r' ↦ w (Arg o r num) t r'
      ]
  inside_known room s i ins within v t e = w v t e

-- their types fit
known_fit : (names : Names) (env : Typed) (os : List ValueName) → Sees env names
    → Each KnownFits (map (type_at env) os)
known_fit names env [] w = tt
known_fit names env (v ∷ vs) w = (λ t e. (w v t e).1.0, known_fit names env vs w)

-- ---- the rules

-- what is asked of each operation where it stands
pub record Rules (sigs : Signatures) (p : Placed) : Type 0 where
  pub regions : has_its_regions p ≡ true
  pub blocks : ends_its_blocks p ≡ true
  pub types : has_its_types sigs p ≡ true
  pub attributes : has_its_attributes p ≡ true
  pub ranges : has_types_in_range p ≡ true
  pub maps : has_its_maps p ≡ true
  pub slices : has_its_slices p ≡ true
  pub short : HasShortLists p.tree
  pub bytes : AllBytes p
  pub properties : HasShortProperties p.tree

rules_of : (sigs : Signatures) (xs : List Placed) → Each (λ p. has_its_regions p ≡ true) xs
    → Each (λ p. ends_its_blocks p ≡ true) xs → Each (λ p. has_its_types sigs p ≡ true) xs
    → Each (λ p. has_its_attributes p ≡ true) xs → Each (λ p. has_types_in_range p ≡ true) xs
    → Each (λ p. has_its_maps p ≡ true) xs → Each (λ p. has_its_slices p ≡ true) xs
    → Each (λ (p : Placed). HasShortLists p.tree) xs
    → Each AllBytes xs → Each (λ (p : Placed). HasShortProperties p.tree) xs → Each (Rules sigs) xs
rules_of sigs [] a b c d r e s f g h = tt
rules_of sigs (x ∷ xs) a b c d r e s f g h = (
  record {
    regions = a.0;
    blocks = b.0;
    types = c.0;
    attributes = d.0;
    ranges = r.0;
    maps = e.0;
    slices = s.0;
    short = f.0;
    bytes = g.0;
    properties = h.0;
  },
  rules_of sigs xs a.1 b.1 c.1 d.1 r.1 e.1 s.1 f.1 g.1 h.1,
)

-- an operation that keeps the rules fits, where its entry and its operands are known
op_fits : {names : Names} {sigs : Signatures} {h : Holder} (env : Typed) {t : Tree} {after rest : Ops}
    → Rules sigs (place h env t after) → HolderFits h → (not (is_terminator t.kind) || is_end rest) ≡ true
    → Sees env names → every known (map (type_at env) t.operands) ≡ true → number_of (names.entry t.name.0) < 2 ^ 64
    → first_of (names.entry t.name.0) + length (first_args t.regions) < 2 ^ 64 → Fits names t rest
op_fits {names} {sigs} {h} env {t} {after} r holds last w seen number first =
    let at = both_true (kind_fits t.kind) (attributes_fit t.attrs) r.attributes in
    let d = both_true (every type_fits t.results) _ r.ranges in
    let e = both_true (every type_fits (returned_types t.kind)) _ d.1 in
    let types = map (type_at env) t.operands in
    let o = all_known names env t.operands w seen in
    let ruled = subst (λ os. type_row sigs h.gives t.kind os t.results ≡ true) (sym o.1) r.types in
    let yields = yields_right h t.kind after holds (both_true (blocks_end t.kind t.regions) _ r.blocks).1 in
    let count = counts sigs h.gives names t.kind t.operands t.results yields ruled in
    let results = types_stored t.results d.0 in
    let known = known_fit names env t.operands w in
    let few : length types < 2 ^ 32 = (let n = length-map t.operands (type_at env) in
    omega (arith, n, r.short.operands)) in
    record {
      kind_fit = at.0;
      symbol = symbol_fits t.kind at.0 r.short.symbol;
      attrs = attrs_right t.attrs at.1 r.bytes r.short.names;
      values = o.0;
      count = count;
      regions = (blocks_right t.kind types t.results t.regions r.regions).0;
      arguments = args_right t.kind types t.results t.regions r.regions;
      carried = carried_right sigs h.gives names t.kind t.operands t.results ruled;
      results = results;
      args = first_stored t.regions e.1;
      returned = types_stored (returned_types t.kind) e.0;
      number = number;
      first = first;
      few = r.short;
      dense = dense_right sigs h.gives t.kind types t.results at.0 r.types results;
      maps = maps_right t.kind types r.properties.iterators r.maps known;
      window = window_right names t.kind t.operands t.results count;
      properties = properties_right sigs h.gives t types r.properties r.types r.maps few known;
      last = last;
      ends = (both_true (blocks_end t.kind t.regions) _ r.blocks).0;
    }

last_right : {sigs : Signatures} {p : Placed} → Rules sigs p
    → (not (is_terminator p.tree.kind) || is_end p.after) ≡ true
last_right {p = p} r =
    last_of (not (is_terminator p.tree.kind)) (is_end p.after) _
    (both_true (blocks_end p.tree.kind p.tree.regions) _ r.blocks).1
  where
    last_of : (a b c : Bool) → (a || (b && c)) ≡ true → (a || b) ≡ true
    last_of true b c e = refl
    last_of false true c e = refl
    last_of false false c e = e

-- ---- operations

module _ (names : Names) (sigs : Signatures) where
  mutual
    ops_fit : (ops : Ops) (h : Holder) (env : Typed) (k a : ℕ) → HolderFits h → OpsObey (Rules sigs) h env ops
        → OpsObey AreKnown h env ops → OpsInner ops → Entered names k a ops → ops_number k ops < 2 ^ 64
        → ops_argument a ops < 2 ^ 64 → Sees env names → OpsFit names ops
    ops_fit no_ops h env k a hf o s i en kl al w = tt
    ops_fit (op n kd ds os ts rs rest) h env k a hf o s i en kl al w =
        let x : HasEntry names n k a ts (first_args rs) = en.0 in
        let k1 = next_number k ts in
        let a1 = a + length (first_args rs) in
        let m0 = number_more k ts in
        let m1 = regions_number_more k1 rs in
        let m2 = ops_number_more (regions_number k1 rs) rest in
        let l1 = regions_argument_more a1 rs in
        let l2 = ops_argument_more (regions_argument a1 rs) rest in
        let nk = ap number_of x.is ∙ x.number in
        let na = ap first_of x.is ∙ x.first in
        let few = (o.0).short.results in
        let types = map (type_at env) os in
        let f : Fits names (tree n kd ds os ts rs) rest = op_fits env o.0 hf (last_right o.0) w s.0 (omega arith)
        (omega arith) in
        let inside = regions_fit rs n (holder_of kd types ts) env (first_args rs) 0 k1 a1
        (holder_fits sigs h.gives kd types ts (o.0).types) o.1.0 s.1.0 i.1.0 en.1.0
        (omega arith) (omega arith) (blocks_right kd types ts rs (o.0).regions).1
        (inside_known x env w (omega arith) f.args) in
        let later = ops_fit rest h _ (regions_number k1 rs) (regions_argument a1 rs) hf o.1.1 s.1.1 i.1.1 en.1.1 kl al
        (done_known x env w (omega arith) few f.results) in
        (i.0, (f, (inside, later)))

    regions_fit : (rs : Regions) (n : OpName) (h : Holder) (env : Typed) (first : List PayloadType) (i k a : ℕ)
        → HolderFits h → RegionsObey (Rules sigs) h env n i rs → RegionsObey AreKnown h env n i rs → RegionsInner rs
        → RegionsEntered names k a rs → regions_number k rs < 2 ^ 64 → regions_argument a rs < 2 ^ 64
        → Narrow first rs
        → ((j : ℕ) (args : List PayloadType) → Within args first → Sees ((inside n j (length args), args) ∷ env) names)
        → RegionsFit names rs
    regions_fit no_regions n h env first i k a hf o s inner en kl al nr w = tt
    regions_fit (region args ops rest) n h env first i k a hf o s inner en kl al nr w =
        let m = regions_number_more (ops_number k ops) rest in
        let l = regions_argument_more (ops_argument a ops) rest in
        let one = ops_fit ops h _ k a hf o.0 s.0 inner.0 en.0 (omega arith) (omega arith) (w i args nr.0) in
        (one, regions_fit rest n h env first (suc i) _ _ hf o.1 s.1 inner.1 en.1 kl al nr.1 w)

-- ---- functions

-- the entries of one function
function_entered : (n : OpName) (k : Kind) (ds : List Attr) (os : List ValueName) (ts : List PayloadType)
    (rs : Regions) (rest : Ops) → Once (ops_names (op n k ds os ts rs rest))
    → Entered (names_in n k ds os ts rs) 0 0 (op n k ds os ts rs no_ops)
function_entered n k ds os ts rs rest once =
    let f : Ops = op n k ds os ts rs no_ops in
    let names = names_in n k ds os ts rs in
    let one : Once (n ∷ regions_names rs) = once_left (n ∷ regions_names rs) (ops_names rest) once in
    ops_entered f no_names names (rw (append-nil (regions_names rs)) one)
    (same names (ops_names f))
  where
    same : (names : Names) (ns : List OpName) → Each (λ m. names.entry m.0 ≡ names.entry m.0) ns
    same names [] = tt
    same names (m ∷ ns) = (refl, same names ns)

-- a module and a function have no results
container_bare : (sigs : Signatures) (gives : List PayloadType) (k : Kind) (os : List (Option PayloadType))
    (ts : List PayloadType) → is_container k ≡ true → type_row sigs gives k os ts ≡ true → ts ≡ []
container_bare sigs gives (kind.Module symbol) os ts c e = types_are ts [] (both_true (have_types os []) _ e).1
container_bare sigs gives (kind.Func symbol private results) os ts c e =
    types_are ts [] (both_true (have_types os []) _ e).1
container_bare sigs gives k os ts c e = absurd cc

functions_fit : (sigs : Signatures) (fs : Ops) (h : Holder) → HolderFits h → FunctionsObey (Rules sigs) h fs
    → FunctionsObey AreKnown h fs → FunctionsAlone fs → FunctionsNumber fs → Once (ops_names fs) → FunctionsFit fs
functions_fit sigs no_ops h hf o s i st once = tt
functions_fit sigs (op n k ds os ts rs rest) h hf o s i st once =
    let f : Ops = op n k ds os ts rs no_ops in
    let names : Names = names_in n k ds os ts rs in
    let en = function_entered n k ds os ts rs rest once in
    let x : HasEntry names n 0 0 ts (first_args rs) = en.0 in
    let kl : ops_number 0 f < 2 ^ 64 = rw (number_after no_names f) at st.0 in
    let al : ops_argument 0 f < 2 ^ 64 = rw (argument_after no_names f) at st.1.0 in
    let l1 = regions_argument_more (0 + length (first_args rs)) rs in
    let nk = ap number_of x.is ∙ x.number in
    let na = ap first_of x.is ∙ x.first in
    let none : Sees [] names = λ v t e. absurd cc in
    let types = map (type_at []) os in
    let bare = container_bare sigs h.gives k types ts (or_right (is_module k) (is_function k) i.0) (o.0).types in
    let fit : Fits names (tree n k ds os ts rs) no_ops = op_fits [] o.0 hf
    (or_right (not (is_terminator k)) true refl) none s.0 (omega arith) (omega arith) in
    let inside = regions_fit names sigs rs n (holder_of k types ts) [] (first_args rs) 0 _ _
    (holder_fits sigs h.gives k types ts (o.0).types) o.1.0 s.1.0 i.1.0 en.1.0 kl
    al (blocks_right k types ts rs (o.0).regions).1 (inside_known x [] none (omega arith) fit.args) in
    let later = functions_fit sigs rest h hf o.1.1 s.1.1 i.1.1 st.1.1
    (once_right (n ∷ regions_names rs) (ops_names rest) once) in
    (i.0, (bare, (fit, (inside, later))))

-- ---- the module

pub module_fits : (m : Module) → IsValid m → IsStored m → tree_count m.root ≤ most_operations → ModuleFits m
module_fits m v st few =
    let t = m.root in
    let sigs = signatures m in
    let h = root_holder t in
    let rules = rules_of sigs (placed m) v.regions v.blocks v.types v.attributes v.ranges v.maps v.slices
    (short_placed m st.lists) st.bytes st.properties in
    let holds = holder_fits sigs [] t.kind (map (type_at []) t.operands) t.results v.types.0 in
    let one : t.regions ≡ region [] (block_of t.regions) no_regions = one_block t.kind v.functions.root
    (map (type_at []) t.operands) t.results t.regions v.regions.0 in
    let functions = rw one at (blocks_obey (Rules sigs) h t.regions rules.1) in
    let alone = rw one at v.functions.alone in
    let once : Once (ops_names (block_of t.regions) ++ []) = rw one at v.names.once.1 in
    let no_args : length (first_args t.regions) ≡ 0 = ap (λ rs. length (first_args rs)) one in
    record {
      is_root = v.functions.root;
      no_results = container_bare sigs [] t.kind (map (type_at []) t.operands) t.results
          (or_left (is_module t.kind) (is_function t.kind) v.functions.root) v.types.0;
      one = one;
      root = op_fits [] rules.0 (λ g. absurd cc) (or_right (not (is_terminator t.kind)) true refl) (λ v t e. absurd cc)
          (root_known t.operands v.uses.root) (omega arith) (omega arith);
      functions = functions_fit sigs (functions_of m) h holds functions.0
          (functions_known h (functions_of m) v.uses.functions) alone.0 (module_numbers m st.lists few)
          (once_left (ops_names (block_of t.regions)) [] once);
    }
