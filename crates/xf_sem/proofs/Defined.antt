-- Functions of func and arith alone are defined for all arguments that fit.
use Rattle.std.proofs.Common.{◌≡◌, ℕ, zero, suc, List, [], ◌∷◌, ◌++◌, Option, Some, None, Bool, true}
use Rattle.std.proofs.Common.{false}
use Rattle.std.proofs.Common.{refl, sym, ap, ◌∙◌, subst}
use Rattle.std.proofs.lemmas.Bool.{and_parts}
use Rattle.std.specs.Prelude.{map, length, ◌&&◌, is_none, if◌then◌else◌}
use Rattle.xf_type.specs.declared.payload_type.PayloadType.{PayloadType}
use Rattle.xf_ir.specs.declared.name.OpName.{OpName}
use Rattle.xf_ir.specs.declared.kind.Kind.{Kind}
use Rattle.xf_ir.specs.declared.kind.Kind.TheVariants as kind
use Rattle.xf_ir.specs.declared.op.Module.{Module}
use Rattle.xf_ir.specs.Tree.{Ops, no_ops, op, Regions, no_regions, region, Tree}
use Rattle.xf_ir.specs.Calls.{Signature, signature, signatures, function_of, ops_callees}
use Rattle.xf_ir.specs.Calls.{regions_callees, callees_of, callee_ends, has_short_chains}
use Rattle.xf_ir.specs.Calls.{has_symbol, chains_end, first_args}
use Rattle.xf_ir.specs.Kinds.{callee_of, returned_types}
use Rattle.xf_ir.specs.Lists as lists
use Rattle.xf_ir.specs.Lists.{Each, same_bytes}
use Rattle.xf_ir.specs.Places.{args_of, done, inside}
use Rattle.xf_ir.specs.Placed.{Typed, type_at, Holder, holder_of, Placed, place, ops_placed, regions_placed}
use Rattle.xf_ir.specs.Placed.{functions_placed, blocks_placed, root_holder, placed, block_of, functions_of}
use Rattle.xf_ir.specs.RuleBlocks.{block_args, block_ends, blocks_end, blocks_fit, ends_its_blocks}
use Rattle.xf_ir.specs.Valid.{IsValid}
use Rattle.xf_ir.proofs.Lists.{each_left, each_right}
use Rattle.xf_sem.specs.declared.value.Value.{Value}
use Rattle.xf_sem.specs.Values.{FitTypes, fit_types}
use Rattle.xf_sem.specs.Meaning.{extend, nowhere, gives, Run, undefined, Calls}
use Rattle.xf_sem.specs.Meaning.{Body, ops_run, bodies_of, called, returned, calls_to, meaning}
use Rattle.xf_sem.specs.Defined.{are_plain, has_plain_block, plain_to, PlainIsDefined}
use Rattle.xf_sem.proofs.Fits.{fitting_is_tested}
use Rattle.xf_sem.proofs.Fitting.{Passes, all_pass}
use Rattle.xf_sem.proofs.Surroundings.{fits_more}
use Rattle.xf_sem.proofs.DefinedBlocks.{CalleeDefined, block_defined}

-- ---- functions

called_is : (k : Kind) (s : List ℕ) (here later : Body) (vs : List Value) (b : Bool) → has_symbol s k ≡ b
    → called k s here later vs ≡ (if b then here vs else later vs)
called_is (kind.Func symbol private types) s here later vs b h = ap (λ z. if z then here vs else later vs) h
called_is _ s here later vs b h = subst (λ z. later vs ≡ (if z then here vs else later vs)) h refl

-- what the function of a symbol returns is what its block gives
pub returned_is : (c : Calls) (caller : OpName) (s : List ℕ) (vs : List Value) (fs : Ops) (t : Tree)
    → function_of s fs ≡ Some t
    → returned c fs caller s vs ≡ (bodies_of c t.name 0 t.regions nowhere).block 0 vs
returned_is c caller s vs no_ops t h = cc
returned_is c caller s vs (op n k ds os ts rs rest) t h =
    called_is k s ((bodies_of c n 0 rs nowhere).block 0) (returned c rest caller s) vs (has_symbol s k) refl
    ∙ found (has_symbol s k) h (λ g. returned_is c caller s vs rest t g)
  where
    found : (b : Bool)
        → (if b then Some (record { name = n; kind = k; attrs = ds; operands = os; results = ts; regions = rs })
        else function_of s rest) ≡ Some t
        → (function_of s rest ≡ Some t
        → returned c rest caller s vs ≡ (bodies_of c t.name 0 t.regions nowhere).block 0 vs)
        → (if b then (bodies_of c n 0 rs nowhere).block 0 vs else returned c rest caller s vs)
        ≡ (bodies_of c t.name 0 t.regions nowhere).block 0 vs
    found true q more =
        let made : Tree = record { name = n; kind = k; attrs = ds; operands = os; results = ts; regions = rs } in
        let e : made ≡ t = cc in ap (λ (u : Tree). (bodies_of c u.name 0 u.regions nowhere).block 0 vs) e
    found false q more = more q

-- what is known of the function of a symbol, where it stands
pub record Found (P : Placed → Type 0) (s : List ℕ) (t : Tree) : Type 0 where
  pub symbol : has_symbol s t.kind ≡ true
  pub holder : Holder
  pub after : Ops
  pub here : P (place holder [] t after)
  pub inner : Each P (regions_placed (holder_of t.kind (map (type_at []) t.operands) t.results) [] t.name 0 t.regions)

pub function_found : (P : Placed → Type 0) (h : Holder) (s : List ℕ) (fs : Ops) (t : Tree)
    → Each P (functions_placed h fs) → function_of s fs ≡ Some t → Found P s t
function_found P h s no_ops t a q = cc
function_found P h s (op n k ds os ts rs rest) t a q =
    let inner = regions_placed (holder_of k (map (type_at []) os) ts) [] n 0 rs in
    found (has_symbol s k) refl q
    (λ g. function_found P h s rest t (each_right P inner (functions_placed h rest) a.1) g)
  where
    found : (b : Bool) → has_symbol s k ≡ b
        → (if b then Some (record { name = n; kind = k; attrs = ds; operands = os; results = ts; regions = rs })
        else function_of s rest) ≡ Some t
        → (function_of s rest ≡ Some t → Found P s t) → Found P s t
    found true e q more =
        let made : Tree = record { name = n; kind = k; attrs = ds; operands = os; results = ts; regions = rs } in
        let same : made ≡ t = cc in
        subst (Found P s) same (record {
          symbol = e;
          holder = h;
          after = rest;
          here = a.0;
          inner =
              each_left P (regions_placed (holder_of k (map (type_at []) os) ts) [] n 0 rs) (functions_placed h rest)
              a.1;
        })
    found false e q more = more q

-- ---- chains of calls

each_called : (P : List ℕ → Bool) (o : Option (List ℕ)) (xs : List (List ℕ)) → lists.option_passes P o ≡ true
    → lists.every P xs ≡ true → lists.every P (lists.item_before o xs) ≡ true
each_called P None xs h k = k
each_called P (Some x) xs h k = rw h k

every_both : (P : List ℕ → Bool) (xs ys : List (List ℕ)) → lists.every P xs ≡ true → lists.every P ys ≡ true
    → lists.every P (xs ++ ys) ≡ true
every_both P [] ys h k = k
every_both P (x ∷ xs) ys h k =
    let p = and_parts (P x) (lists.every P xs) h in rw p.0 (every_both P xs ys p.1 k)

every_left : (P : List ℕ → Bool) (xs ys : List (List ℕ)) → lists.every P (xs ++ ys) ≡ true → lists.every P xs ≡ true
every_left P [] ys h = refl
every_left P (x ∷ xs) ys h =
    let p = and_parts (P x) (lists.every P (xs ++ ys)) h in rw p.0 (every_left P xs ys p.1)

module _ (P : List ℕ → Bool) where
  abbrev Ends : Placed → Type 0
  Ends p = callee_ends P p.tree.kind ≡ true

  mutual
    callees_end : (ops : Ops) (h : Holder) (tys : Typed) → Each Ends (ops_placed h tys ops)
        → lists.every P (ops_callees ops) ≡ true
    callees_end no_ops h tys a = refl
    callees_end (op n k ds os ts rs rest) h tys a =
        let inner = regions_placed (holder_of k (map (type_at tys) os) ts) tys n 0 rs in
        let later = ops_placed h ((done n (length ts), ts) ∷ tys) rest in
        each_called P (callee_of k) (regions_callees rs ++ ops_callees rest) a.0
        (every_both P (regions_callees rs) (ops_callees rest)
        (regions_end rs (holder_of k (map (type_at tys) os) ts) tys n 0 (each_left Ends inner later a.1))
        (callees_end rest h ((done n (length ts), ts) ∷ tys) (each_right Ends inner later a.1)))

    regions_end : (rs : Regions) (h : Holder) (tys : Typed) (n : OpName) (i : ℕ)
        → Each Ends (regions_placed h tys n i rs) → lists.every P (regions_callees rs) ≡ true
    regions_end no_regions h tys n i a = refl
    regions_end (region args ops rest) h tys n i a =
        let inner = ops_placed h ((inside n i (length args), args) ∷ tys) ops in
        let later = regions_placed h tys n (suc i) rest in
        every_both P (ops_callees ops) (regions_callees rest)
        (callees_end ops h ((inside n i (length args), args) ∷ tys) (each_left Ends inner later a))
        (regions_end rest h tys n (suc i) (each_right Ends inner later a))

-- ---- functions that hold operations of func and arith alone

-- what the rules say of each operation
pub record Ruled (m : Module) (p : Placed) : Type 0 where
  pub passes : Passes (signatures m) p
  pub ends : ends_its_blocks p ≡ true
  pub short : has_short_chains (functions_of m) p ≡ true

all_ruled : (m : Module) (ps : List Placed) → Each (Passes (signatures m)) ps → Each (λ p. ends_its_blocks p ≡ true) ps
    → Each (λ p. has_short_chains (functions_of m) p ≡ true) ps → Each (Ruled m) ps
all_ruled m [] a b c = tt
all_ruled m (p ∷ ps) a b c = (record { passes = a.0; ends = b.0; short = c.0 }, all_ruled m ps a.1 b.1 c.1)

functions_ruled : (m : Module) (rs : Regions) (h : Holder) → Each (Ruled m) (blocks_placed h rs)
    → Each (Ruled m) (functions_placed h (block_of rs))
functions_ruled m no_regions h a = tt
functions_ruled m (region args ops rest) h a = each_left (Ruled m) (functions_placed h ops) (blocks_placed h rest) a

pub ruled : (m : Module) → IsValid m → Each (Ruled m) (functions_placed (root_holder m.root) (functions_of m))
ruled m v = functions_ruled m m.root.regions (root_holder m.root)
    (all_ruled m (placed m) (all_pass m v) v.blocks v.chains).1

fitting_runs : (b : Bool) (n : OpName) (r : Run (List Value)) → b ≡ true → (if b then r else undefined n).answer
    ≡ r.answer
fitting_runs true n r h = refl
fitting_runs false n r h = cc

module _ (m : Module) (v : IsValid m) where
  -- the block of a function, where what it calls is defined
  function_runs : (c : Calls) (k : Kind) (n : OpName) (rs : Regions) (s : List ℕ) (os : List (Option PayloadType))
      (ts : List PayloadType) (vs : List Value)
      → has_symbol s k ≡ true → blocks_fit k os ts (block_args rs) ≡ true → blocks_end k rs ≡ true
      → Each (Passes (signatures m)) (regions_placed (holder_of k os ts) [] n 0 rs) → are_plain (block_of rs) ≡ true
      → Each (CalleeDefined (signatures m) c) (regions_callees rs) → FitTypes vs (first_args rs)
      → (ws : List Value)
      × ((((bodies_of c n 0 rs nowhere).block 0 vs).answer ≡ gives ws) × FitTypes ws (returned_types k))
  function_runs c (kind.Func symbol private returns) n no_regions s os ts vs h b e a p d f = cc
  function_runs c (kind.Func symbol private returns) n (region args ops rest) s os ts vs h b e a p d f =
      let seen = (inside n 0 (length args), args) ∷ [] in
      let inner = ops_placed (holder_of (kind.Func symbol private returns) os ts) seen ops in
      let here = each_left (Passes (signatures m)) inner _ a in
      let ends = (and_parts (block_ends (kind.Func symbol private returns) ops) (blocks_end (kind.Func symbol private
      returns) rest) e).0 in
      let env = extend (args_of n 0 (length args)) vs nowhere in
      let w = block_defined (signatures m) c symbol private returns ops seen env n here p ends
      (fits_more (inside n 0 (length args)) args [] vs nowhere f (λ v t q. cc))
      (each_left (CalleeDefined (signatures m) c) (ops_callees ops) (regions_callees rest) d) in (
        w.0,
        (fitting_runs (fit_types vs args) n (ops_run c n ops env) ((fitting_is_tested vs args).1 f) ∙ w.1.0, w.1.1),
      )
  function_runs c _ n rs s os ts vs h b e a p d f = cc

  pub inner_passes : (ps : List Placed) → Each (Ruled m) ps → Each (Passes (signatures m)) ps
  inner_passes [] a = tt
  inner_passes (p ∷ ps) a = (a.0.passes, inner_passes ps a.1)

  inner_short : (ps : List Placed) → Each (Ruled m) ps → Each (Ends (chains_end (functions_of m) 31)) ps
  inner_short [] a = tt
  inner_short (p ∷ ps) a = (a.0.short, inner_short ps a.1)

  -- a function returns where what it calls is defined
  function_defined : (c : Calls) (s : List ℕ) (t : Tree) (caller : OpName) (vs : List Value)
      → function_of s (functions_of m) ≡ Some t → are_plain (block_of t.regions) ≡ true
      → Each (CalleeDefined (signatures m) c) (regions_callees t.regions) → FitTypes vs (first_args t.regions)
      → (ws : List Value)
      × (((returned c (functions_of m) caller s vs).answer ≡ gives ws) × FitTypes ws (returned_types t.kind))
  function_defined c s t caller vs q p d f =
      let g = function_found (Ruled m) (root_holder m.root) s (functions_of m) t (ruled m v) q in
      let blocks = (and_parts (blocks_end t.kind t.regions) _ g.here.ends).0 in
      let w = function_runs c t.kind t.name t.regions s (map (type_at []) t.operands) t.results vs g.symbol
      g.here.passes.regions blocks (inner_passes _ g.inner) p d f in
      (w.0, (ap (λ (r : Run (List Value)). r.answer) (returned_is c caller s vs (functions_of m) t q) ∙ w.1.0, w.1.1))

  each_defined : (c : Calls) (plain short : List ℕ → Bool)
      → ((s : List ℕ) → plain s ≡ true → short s ≡ true → CalleeDefined (signatures m) c s)
      → (ss : List (List ℕ)) → lists.every plain ss ≡ true → lists.every short ss ≡ true
      → Each (CalleeDefined (signatures m) c) ss
  each_defined c plain short f [] p h = tt
  each_defined c plain short f (s ∷ ss) p h =
      let a = and_parts (plain s) (lists.every plain ss) p in
      let b = and_parts (short s) (lists.every short ss) h in
      (f s a.0 b.0, each_defined c plain short f ss a.1 b.1)

  -- with calls nested so deep, where chains are as short
  callee_defined : (d : ℕ) (s : List ℕ) → plain_to d (functions_of m) s ≡ true
      → chains_end (functions_of m) d s ≡ true → CalleeDefined (signatures m) (calls_to d (functions_of m)) s
  callee_defined zero s p h caller sg vs q f = none (function_of s (functions_of m)) h q
    where
      none : (o : Option Tree) → is_none o ≡ true → signature o ≡ Some sg
          → (ws : List Value)
          × (((calls_to zero (functions_of m) caller s vs).answer ≡ gives ws) × FitTypes ws sg.results)
      none None h q = cc
      none (Some t) h q = cc
  callee_defined (suc d) s p h caller sg vs q f =
      some_function (function_of s (functions_of m)) refl p h q (λ s. callee_defined d s)
    where
      some_function : (o : Option Tree) → function_of s (functions_of m) ≡ o
          → (has_plain_block o && lists.every (plain_to d (functions_of m)) (callees_of o)) ≡ true
          → lists.every (chains_end (functions_of m) d) (callees_of o) ≡ true → signature o ≡ Some sg
          → ((s : List ℕ) → plain_to d (functions_of m) s ≡ true → chains_end (functions_of m) d s ≡ true
          → CalleeDefined (signatures m) (calls_to d (functions_of m)) s)
          → (ws : List Value)
          × (((returned (calls_to d (functions_of m)) (functions_of m) caller s vs).answer ≡ gives ws)
          × FitTypes ws sg.results)
      some_function None e p h q ih = cc
      some_function (Some t) e p h q ih =
          let a = and_parts (are_plain (block_of t.regions))
          (lists.every (plain_to d (functions_of m)) (regions_callees
          t.regions)) p in
          let same : record { inputs = first_args t.regions; results = returned_types t.kind } ≡ sg = cc in
          let w = function_defined (calls_to d (functions_of m)) s t caller vs e a.0
          (each_defined (calls_to d (functions_of m)) (plain_to d (functions_of m))
          (chains_end (functions_of m) d) ih
          (regions_callees t.regions) a.1 h)
          (subst (λ (z : Signature). FitTypes vs z.inputs) (sym same) f) in
          (w.0, (w.1.0, subst (λ (z : Signature). FitTypes w.0 z.results) same w.1.1))

pub plain_is_defined : PlainIsDefined
plain_is_defined m s sg vs v p q f = top (function_of s (functions_of m)) refl p q
  where
    top : (o : Option Tree) → function_of s (functions_of m) ≡ o
        → (has_plain_block o && lists.every (plain_to 31 (functions_of m)) (callees_of o)) ≡ true
        → signature o ≡ Some sg
        → (ws : List Value) × (((meaning m s vs).answer ≡ gives ws) × FitTypes ws sg.results)
    top None e p q = cc
    top (Some t) e p q =
        let a = and_parts (are_plain (block_of t.regions)) (lists.every (plain_to 31 (functions_of m)) (regions_callees
        t.regions)) p in
        let g = function_found (Ruled m) (root_holder m.root) s (functions_of m) t (ruled m v) e in
        let short = regions_end (chains_end (functions_of m) 31) t.regions
        (holder_of t.kind (map (type_at []) t.operands)
        t.results) [] t.name 0 (inner_short m v _ g.inner) in
        let same : record { inputs = first_args t.regions; results = returned_types t.kind } ≡ sg = cc in
        let w = function_defined m v (calls_to 31 (functions_of m)) s t m.root.name vs e a.0
        (each_defined m v (calls_to 31 (functions_of m)) (plain_to 31 (functions_of m))
        (chains_end (functions_of m) 31)
        (λ s. callee_defined m v 31 s) (regions_callees t.regions) a.1 short)
        (subst (λ (z : Signature). FitTypes vs z.inputs) (sym same) f) in
        (w.0, (w.1.0, subst (λ (z : Signature). FitTypes w.0 z.results) same w.1.1))
