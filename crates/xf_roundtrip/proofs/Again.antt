-- What the printed heads of operations say is right, and means these operations again, with names in preorder.
use Rattle.std.proofs.Common.{◌≡◌, ℕ, suc, ◌+◌, ◌^◌, ◌<◌, Bool, true, false, cond, List, [], ◌∷◌, length, Option, None}
use Rattle.std.proofs.Common.{inl, inr, refl, sym, ap, subst, ◌∙◌, arith}
use Rattle.std.specs.Prelude.{◌&&◌, map, not}
use Rattle.std.proofs.lemmas.Bool.{cases_Bool, and_parts, eq-eqb}
use Rattle.xf_type.specs.declared.payload_type.PayloadType.{PayloadType}
use Rattle.xf_grammar.proofs.Basics.{and_is}
use Rattle.xf_format.specs.Format.{ends_open}
use Rattle.xf_format.specs.Parts.{UseSaid, Said, written_map}
use Rattle.xf_type.specs.declared.attribute.AffineMap.{AffineMap}
use Rattle.xf_ir.specs.Lists.{every}
use Rattle.xf_printed.specs.Structured.{maps_of}
use Rattle.xf_ir.specs.declared.kind.Attr.{Attr}
use Rattle.xf_ir.specs.declared.kind.Kind.{Kind}
use Rattle.xf_ir.specs.declared.kind.Kind.TheVariants as kind
use Rattle.xf_ir.specs.declared.name.OpName.{OpName}
use Rattle.xf_ir.specs.declared.name.ValueName.{ValueName}
use Rattle.xf_ir.specs.Calls.{Signatures}
use Rattle.xf_ir.specs.Count.{ops_count, regions_count}
use Rattle.xf_ir.specs.Kinds.{is_container}
use Rattle.xf_ir.specs.Placed.{Typed, type_at, Holder, holder_of, Placed, place}
use Rattle.xf_ir.specs.Places.{done, inside, AllSeen}
use Rattle.xf_ir.specs.Renamed.{ops_renamed, regions_renamed}
use Rattle.xf_ir.specs.RuleBlocks.{block_ends, blocks_end}
use Rattle.xf_ir.specs.Tree.{Ops, no_ops, op, Regions, no_regions, region, cons}
use Rattle.xf_ir.specs.Valid.{OpsInner, RegionsInner, OpsSee, RegionsSee}
use Rattle.xf_ir.specs.Walk.{ops_names, regions_names}
use Rattle.xf_ir.proofs.Found.{tree}
use Rattle.xf_ir_laws.proofs.Obeys.{OpsObey, RegionsObey}
use Rattle.xf_ir_laws.proofs.SeenTypes.{seen_of}
use Rattle.xf_read.specs.Meant.{joined, yield_tree, lacks_yield, ops_said, regions_said}
use Rattle.xf_read.specs.Names.{op_name, with_arguments, with_defines, with_function, function_symbol}
use Rattle.xf_read.specs.Names.{inside as inside_said, behind as behind_said, uses_fit, defines_fit}
use Rattle.xf_read.specs.Scopes.{Meanings, use_type}
use Rattle.xf_read.specs.Types.{stated_type, fits, result_types, argument_types}
use Rattle.xf_syntax.specs.Telling.{SaidNodes, no_nodes_said, node_said, SaidBodies, body_said, operations}
use Rattle.xf_syntax.specs.Telling.{left_out, operations_inside, says_yield_last}
use Rattle.xf_printed.specs.Names.{Names, first_args, next_number, number_of, first_of}
use Rattle.xf_printed.specs.PrintedForm.{is_empty_yield}
use Rattle.xf_print_laws.specs.Naming.{defines_printed, arguments_printed}
use Rattle.xf_print_laws.specs.SaidPrinted.{row_of, results_printed, head_by, head_printed, ops_printed}
use Rattle.xf_print_laws.specs.SaidPrinted.{regions_printed}
use Rattle.xf_print_laws.proofs.Entries.{ops_number, regions_number, ops_argument, regions_argument, number_more}
use Rattle.xf_print_laws.proofs.Entries.{ops_number_more, regions_number_more, ops_argument_more, regions_argument_more}
use Rattle.xf_print_laws.proofs.Entries.{HasEntry, Entered, RegionsEntered}
use Rattle.xf_print_laws.proofs.Numbers.{first_short}
use Rattle.xf_roundtrip.specs.SaidWell.{is_written, symbol_new, head_well, nodes_well, bodies_well}
use Rattle.xf_roundtrip.proofs.Blocks.{ArgsSo, args_so}
use Rattle.xf_roundtrip.proofs.Fits.{all_fit}
use Rattle.xf_roundtrip.proofs.Names.{IsFirst, named_by, Clear, clear_more, results_in, arguments_in, ResultsIn}
use Rattle.xf_roundtrip.proofs.Names.{Knows, knows_results, knows_arguments, uses_again}
use Rattle.xf_roundtrip.proofs.Places.{Counts, counts_split, ops_names_count, regions_names_count}
use Rattle.xf_roundtrip.proofs.Says.{symbol_named, Good, says_it}
use Rattle.xf_roundtrip.proofs.Yields.{ends_empty, stands_there, yield_is, block_yields}

abbrev one_if : Bool → ℕ
one_if b = cond b 1 0

-- the yield that is left out at the end, which is operation n
abbrev end_yield : Bool → ℕ → Ops
end_yield b n = cond b (cons (yield_tree n) no_ops) no_ops

-- ---- one head

uses_fit_by : (scope : Meanings) (t : Said) (i : ℕ) (us : List UseSaid)
    → uses_fit scope t i us ≡ all_fit t i (map (use_type scope) us)
uses_fit_by scope t i [] = refl
uses_fit_by scope t i (u ∷ us) =
    ap (λ b. fits (stated_type t i) (use_type scope u) && b) (uses_fit_by scope t (i + 1) us)

defines_fit_by : (k : ℕ) (ts us : List PayloadType) → us ≡ ts → defines_fit (defines_printed k ts) us ≡ true
defines_fit_by k [] us e = refl
defines_fit_by k (t ∷ ts) us e = eq-eqb (length (t ∷ ts)) (length us) (ap length (sym e))

arguments_length : (a : ℕ) (ts : List PayloadType) → length (arguments_printed a ts) ≡ length ts
arguments_length a [] = refl
arguments_length a (t ∷ ts) = ap suc (arguments_length (suc a) ts)

-- maps are printed where they stand
all_written : (ms : List AffineMap) → every is_written (map written_map ms) ≡ true
all_written [] = refl
all_written (m ∷ ms) = all_written ms

inner_symbol : (k : Kind) → is_container k ≡ false → symbol_named k ≡ None
inner_symbol (kind.Func symbol private results) e = absurd cc
inner_symbol k e = refl

-- ---- what is right, and means operations again

module _ (g : OpName → ℕ) where
  pub record NodesAgain (n : ℕ) (scope : Meanings) (ns : SaidNodes) (b : Bool) (ops : Ops) : Type 0 where
    pub well : nodes_well n scope ns ≡ true
    pub means : joined (ops_said n scope ns) (end_yield b (n + operations ns)) ≡ ops_renamed (named_by g) ops
    pub count : operations ns + one_if b ≡ ops_count ops

  pub record BodiesAgain (n : ℕ) (scope : Meanings) (t : Said) (bs : SaidBodies) (rs : Regions) : Type 0 where
    pub well : bodies_well n t scope bs ≡ true
    pub means : regions_said n t scope bs ≡ regions_renamed (named_by g) rs
    pub count : operations_inside t bs ≡ regions_count rs

  pub body_again : (n : ℕ) (scope : Meanings) (t : Said) (ns : SaidNodes) (bs : SaidBodies) (args : List PayloadType)
      (ops : Ops) (rest : Regions) → argument_types t ≡ args → NodesAgain n scope ns (lacks_yield t ns) ops
      → BodiesAgain (n + ops_count ops) scope t bs rest → BodiesAgain n scope t (body_said ns bs) (region args ops rest)
  body_again n scope t ns bs args ops rest e one later =
      let count = one.count in
      let more = subst (λ j. BodiesAgain j scope t bs rest) (ap (λ j. n + j) (sym count)) later in
      let x = one.means in
      let y = more.means in
      let u : operations_inside t (body_said ns bs) ≡ operations ns + (left_out t ns + operations_inside t bs) = refl in
      let v : regions_count (region args ops rest) ≡ ops_count ops + regions_count rest = refl in
      record {
        well = and_is _ _ one.well more.well;
        means = λ i. region (e i) (x i) (y i);
        count = let c = more.count in omega (arith, u, v, count, c);
      }

  module _ (sigs : Signatures) (names : Names) (h : Holder) (env : Typed) (n k a : ℕ) (scope : Meanings) (m : OpName)
      (kd : Kind) (ds : List Attr) (os : List ValueName) (ts : List PayloadType) (rs : Regions) (rest : Ops) where
    abbrev first : List PayloadType
    first = first_args rs

    abbrev head : Said
    head = head_by names k a kd ds os ts first

    abbrev scope_in : Meanings
    scope_in = with_arguments n 0 first (arguments_printed a first) scope

    abbrev scope_behind : Meanings
    scope_behind = with_defines n ts (defines_printed k ts) (with_function (symbol_named kd) scope)

    pub node_again : (ns : SaidNodes) (bs : SaidBodies) (b : Bool)
        → Good sigs (place h env (tree m kd ds os ts rs) rest)
        → g m ≡ n → k < 2 ^ 64 → a + length first < 2 ^ 64 → symbol_new scope (symbol_named kd) ≡ true
        → AllSeen (seen_of env) os → Knows names g env scope → Clear k a scope → BodiesAgain (n + 1) scope_in head bs rs
        → NodesAgain (n + (1 + regions_count rs)) scope_behind ns b rest
        → NodesAgain n scope (node_said head bs ns) b (op m kd ds os ts rs rest)
    node_again ns bs b good c lt room new see w f inner later =
        let t : Said = head in
        let us = uses_again names g env scope os w see in
        let says = says_it sigs (place h env (tree m kd ds os ts rs) rest) names k a good us.known in
        let x1 = sym c in
        let x2 = says.kind_is in
        let x3 = says.attrs in
        let x4 = us.values in
        let x5 = says.values.results in
        let ys = says.arguments in
        let fs = says.symbol in
        let e_in : scope_in ≡ inside_said n t scope =
        ap (λ xs. with_arguments n 0 xs (arguments_printed a first) scope) (sym ys) in
        let inner' = subst (λ s. BodiesAgain (n + 1) s t bs rs) e_in inner in
        let count = inner'.count in
        let later' : NodesAgain (n + (1 + operations_inside t bs)) (behind_said n t scope) ns b rest =
        rw (count, x5, fs) later in
        let symbol : symbol_new scope (function_symbol t.row t.symbol) ≡ true = ap (symbol_new scope) fs ∙ new in
        let defined = and_is _ _ symbol (results_in n k a ts scope lt f).new in
        let argued = and_is _ _ defined (rw ys (arguments_in n 0 k a first first scope room f).new) in
        let fit = uses_fit_by scope t 0 t.uses ∙ ap (all_fit t 0) us.types ∙ says.values.fit in
        let lengths = eq-eqb (length t.args) (length (argument_types t))
        (arguments_length a first ∙ ap length (sym ys)) in
        let agree = and_is _ _ (and_is _ _ says.values.count fit) (and_is _ _ (defines_fit_by k ts (result_types t) x5) lengths) in
        let named = and_is _ _ (all_written (maps_of kd)) us.mean in
        let well : head_well n t scope ≡ true = and_is _ _ named (and_is _ _ (and_is _ _ says.once argued) agree) in
        let u : operations (node_said t bs ns) ≡ 1 + (operations_inside t bs + operations ns) = refl in
        let v : ops_count (op m kd ds os ts rs rest) ≡ 1 + regions_count rs + ops_count rest = refl in
        let end : n + operations (node_said t bs ns) ≡ (n + (1 + operations_inside t bs)) + operations ns =
        omega (arith, u) in
        let x6 = inner'.means in
        let x7 = ap (λ j. joined (ops_said (n + (1 + operations_inside t bs)) (behind_said n t scope) ns)
        (end_yield b j)) end
        ∙ later'.means in
        record {
          well = and_is _ _ (and_is _ _ well inner'.well) later'.well;
          means = λ i. op (op_name (x1 i)) (x2 i) (x3 i) (x4 i) (x5 i) (x6 i) (x7 i);
          count = let d = later'.count in omega (arith, u, v, count, d);
        }

    -- an operation that names its values, and is printed
    pub op_again : (ns : SaidNodes) (b : Bool) → Good sigs (place h env (tree m kd ds os ts rs) rest)
        → Counts g n (ops_names (op m kd ds os ts rs rest)) → HasEntry names m k a ts first
        → regions_number (next_number k ts) rs < 2 ^ 64
        → regions_argument (a + length first) rs < 2 ^ 64 → symbol_new scope (symbol_named kd) ≡ true
        → AllSeen (seen_of env) os → Knows names g env scope → Clear k a scope
        → (argument_types head ≡ first → ArgsSo 0 first rs → blocks_end kd rs ≡ true
        → ((j : ℕ) → IsFirst j first → Knows names g ((inside m j (length first), first) ∷ env) scope_in)
        → Clear (next_number k ts) (a + length first) scope_in
        → Counts g (n + 1) (regions_names rs) → BodiesAgain (n + 1) scope_in head (regions_printed names rs) rs)
        → (Counts g (n + (1 + regions_count rs)) (ops_names rest)
        → ResultsIn n k a ts scope (with_defines n ts (defines_printed k ts) scope)
        → NodesAgain (n + (1 + regions_count rs)) scope_behind ns b rest)
        → NodesAgain n scope (node_said (head_printed names (tree m kd ds os ts rs)) (regions_printed names rs) ns) b
        (op m kd ds os ts rs rest)
    op_again ns b good c e lk la new see w f inner later =
        let us = uses_again names g env scope os w see in
        let p : Placed = place h env (tree m kd ds os ts rs) rest in
        let says = says_it sigs p names k a good us.known in
        let l1 = number_more k ts in
        let l2 = regions_number_more (next_number k ts) rs in
        let l3 = regions_argument_more (a + length first) rs in
        let lt : k < 2 ^ 64 = omega (arith, l1, l2, lk) in
        let room : a + length first < 2 ^ 64 = omega (arith, l3, la) in
        let count = regions_names_count rs in
        let cs = counts_split g (regions_names rs) (ops_names rest) (n + 1) _ (omega (arith, count)) c.1 in
        let q = arguments_in n 0 k a first first scope room f in
        let known = λ (j : ℕ) (i : IsFirst j first).
        knows_arguments names g m n k a ts first env scope scope_in e c.0 w j i
        (first_short rs good.short.arguments) q in
        let bodies = inner says.arguments (args_so kd p.types ts rs good.regions)
        (and_parts (blocks_end kd rs) _ good.blocks).0 known (clear_more l1 (omega arith) q.clear) cs.0 in
        let number = sym (ap number_of e.is ∙ e.number) in
        let start = sym (ap first_of e.is ∙ e.first) in
        subst (λ t. NodesAgain n scope (node_said t (regions_printed names rs) ns) b (op m kd ds os ts rs rest))
        (λ i. head_by names (number i) (start i) kd ds os ts first)
        (node_again ns (regions_printed names rs) b good c.0 lt room new see w f bodies
        (later cs.1 (results_in n k a ts scope lt f)))

  -- ---- operations inside a function

  module _ (sigs : Signatures) (names : Names) where
    yield_again : (m : OpName) (n : ℕ) (scope : Meanings) → g m ≡ n
        → NodesAgain n scope no_nodes_said true (op m kind.Yield [] [] [] no_regions no_ops)
    yield_again m n scope e =
        let z : n + 0 ≡ g m = omega (arith, e) in
        record { well = refl; means = ap (λ x. op (op_name x) kind.Yield [] [] [] no_regions no_ops) z; count = refl }

    mutual
      ops_again : (ops : Ops) (h : Holder) (env : Typed) (n k a : ℕ) (scope : Meanings) → OpsObey (Good sigs) h env ops
          → OpsSee (seen_of env) ops → Entered names k a ops → Counts g n (ops_names ops) → OpsInner ops
          → ops_number k ops < 2 ^ 64 → ops_argument a ops < 2 ^ 64 → Knows names g env scope → Clear k a scope
          → NodesAgain n scope (ops_printed names ops) (ends_empty ops) ops
      ops_again no_ops h env n k a scope good see e c inner lk la w f =
          record { well = refl; means = refl; count = refl }
      ops_again (op m kd ds os ts rs rest) h env n k a scope good see e c inner lk la w f =
          let first : List PayloadType = first_args rs in
          let k' : ℕ = regions_number (next_number k ts) rs in
          let a' : ℕ = regions_argument (a + length first) rs in
          let none = inner_symbol kd inner.0 in
          let l1 = regions_number_more (next_number k ts) rs in
          let l2 = regions_argument_more (a + length first) rs in
          let l3 = ops_number_more k' rest in
          let l4 = ops_argument_more a' rest in
          let m1 : k' < 2 ^ 64 = omega (arith, l3, lk) in
          let m2 : a' < 2 ^ 64 = omega (arith, l4, la) in
          elim (cases_Bool (is_empty_yield kd ds os)) [
            | inl y ↦ subst (λ x. NodesAgain n scope (ops_printed names x) (ends_empty x) x)
                (yield_is sigs h m kd ds os _ ts rs rest y good.0.types good.0.regions (stands_there sigs _ good.0))
                (yield_again m n scope c.0)
            | inr y ↦ rw y (op_again sigs names h env n k a scope m kd ds os ts rs rest (ops_printed names rest)
                (ends_empty rest) good.0 c e.0 m1 m2 (rw none) see.0 w f
                (λ args so ends known clear cs. regions_again rs kd (map (type_at env) os) ts env m (n + 1)
                (next_number k ts) (a + length first) 0 (with_arguments n 0 first (arguments_printed a first) scope)
                (head_by names k a kd ds os ts first) first args refl so ends good.1.0 see.1.0 e.1.0 cs inner.1.0 m1 m2
                known clear)
                (λ cs r. rw none (ops_again rest h ((done m (length ts), ts) ∷ env) (n + (1 + regions_count rs)) k' a'
                (with_defines n ts (defines_printed k ts) scope) good.1.1 see.1.1 e.1.1 cs inner.1.1 lk la
                (knows_results names g m n k a ts first env scope _ e.0 c.0 w r)
                (clear_more l1 (omega (arith, l2)) r.clear))))
          ]

      pub regions_again : (rs : Regions) (kd : Kind) (types : List (Option PayloadType)) (ts : List PayloadType)
          (env : Typed) (m : OpName) (n k a i : ℕ) (scope : Meanings) (t : Said) (first : List PayloadType)
          → argument_types t ≡ first → ends_open t.row t.results ≡ ends_open (row_of kd) (results_printed kd ts)
          → ArgsSo i first rs → blocks_end kd rs ≡ true → RegionsObey (Good sigs) (holder_of kd types ts) env m i rs
          → RegionsSee (seen_of env) m i rs → RegionsEntered names k a rs → Counts g n (regions_names rs)
          → RegionsInner rs → regions_number k rs < 2 ^ 64 → regions_argument a rs < 2 ^ 64
          → ((j : ℕ) → IsFirst j first → Knows names g ((inside m j (length first), first) ∷ env) scope)
          → Clear k a scope → BodiesAgain n scope t (regions_printed names rs) rs
      regions_again no_regions kd types ts env m n k a i scope t first x o so ends good see e c inner lk la w f =
          record { well = refl; means = refl; count = refl }
      regions_again (region args ops rest) kd types ts env m n k a i scope t first x o so ends good see e c inner lk
          la w f =
          let b = and_parts (block_ends kd ops) (blocks_end kd rest) ends in
          let within : Typed = (inside m i (length args), args) ∷ env in
          let known = subst (λ xs. Knows names g ((inside m i (length xs), xs) ∷ env) scope) (sym so.0) (w i so.1.0) in
          let yields : lacks_yield t (ops_printed names ops) ≡ ends_empty ops =
          ap (λ y. y && not (says_yield_last (ops_printed names ops))) o
          ∙ block_yields names sigs kd types ts within ops good.0 b.0 in
          let l1 = regions_number_more (ops_number k ops) rest in
          let l2 = regions_argument_more (ops_argument a ops) rest in
          let count = ops_names_count ops in
          let later : ℕ = n + ops_count ops in
          let cs = counts_split g (ops_names ops) (regions_names rest) n later (omega (arith, count)) c in
          body_again n scope t (ops_printed names ops) (regions_printed names rest) args ops rest (x ∙ sym so.0)
          (rw yields (ops_again ops (holder_of kd types ts) within n k a scope good.0 see.0 e.0 cs.0 inner.0
          (omega (arith, l1, lk)) (omega (arith, l2, la)) known f))
          (regions_again rest kd types ts env m later (ops_number k ops) (ops_argument a ops) (suc i) scope t first x o
          so.1.1 b.1 good.1 see.1 e.1 cs.1 inner.1 lk la w
          (clear_more (ops_number_more k ops) (ops_argument_more a ops) f))
