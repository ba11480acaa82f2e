-- A change that leads at its site leads in the whole module.
use Rattle.std.proofs.Common.{◌≡◌, ℕ, zero, suc, List, [], ◌∷◌, Option, Some, None, true, refl, sym, ◌∙◌, subst}
use Rattle.std.proofs.lemmas.Bool.{or_right}
use Rattle.std.specs.Prelude.{length, map, ◌==◌, is_some}
use Rattle.xf_type.specs.declared.payload_type.PayloadType.{PayloadType}
use Rattle.xf_ir.specs.declared.name.OpName.{OpName}
use Rattle.xf_ir.specs.declared.name.ValueName.{ValueName}
use Rattle.xf_ir.specs.declared.kind.Kind.{Kind}
use Rattle.xf_ir.specs.declared.kind.Kind.TheVariants as kind
use Rattle.xf_ir.specs.declared.kind.Attr.{Attr}
use Rattle.xf_ir.specs.declared.op.Module.{Module}
use Rattle.xf_ir.specs.Tree.{Ops, no_ops, op, Regions, no_regions, region, Tree}
use Rattle.xf_ir.specs.Lists.{Each}
use Rattle.xf_ir.specs.Places.{Numbering, results_of, args_of, Seen, done, inside, numbering_of, sees, AllSeen}
use Rattle.xf_ir.specs.Places.{IsFresh}
use Rattle.xf_ir.specs.Places.{OpsScoped, RegionsScoped, FunctionsScoped}
use Rattle.xf_ir.specs.Uses.{regions_operands}
use Rattle.xf_ir.specs.Valid.{Typed, type_or, type_at, functions_of}
use Rattle.xf_ir.specs.Edits.{ops_at, regions_at}
use Rattle.xf_sem.specs.declared.value.Value.{Value}
use Rattle.xf_sem.specs.Values.{IsValue, FitsType, FitTypes}
use Rattle.xf_sem.specs.Meaning.{Env, item_or, extend, nowhere, gives, Calls, does, ops_run, bodies_of}
use Rattle.xf_sem.specs.Meaning.{returned, calls_to, call_depth}
use Rattle.xf_ir.specs.Calls.{first_args}
use Rattle.xf_sem.specs.Keeps.{Declared, declared_before, declared_in}
use Rattle.xf_sem.specs.Surroundings.{Leads, CallsLead, Context, visible, outside, behind, within, IsVisible, HasRun}
use Rattle.xf_sem.specs.Surroundings.{IsGiven, OpsWhere, RegionsWhere, FunctionsWhere, NoFunction, LeadsHere}
use Rattle.xf_sem.specs.Surroundings.{changed_at, SurroundingsKeep}
use Rattle.xf_ir.proofs.Lists.{at_cases}
use Rattle.xf_ir_laws.proofs.Erased.{block_at}
use Rattle.xf_sem.proofs.Fits.{fit_types_says, item_fits}
use Rattle.xf_sem.proofs.Leads.{does_lead, leads_none, leads_fitting, given_fits, BodiesLead, none_lead, first_lead}
use Rattle.xf_sem.proofs.Leads.{step_leads, called_lead}
use Rattle.xf_sem.proofs.Copying.{some_or, Visible, Any, each_any, regions_use, copy_kept_regions, same_copy_regions}
use Rattle.xf_sem.proofs.Copying.{calls_alike}

abbrev pub made : OpName → Kind → List Attr → List ValueName → List PayloadType → Regions → Tree
made n k ds os ts rs = record { name = n; kind = k; attrs = ds; operands = os; results = ts; regions = rs }

-- ---- visible values stay

pub unmoved : (ss : List Seen) (p : Numbering) (vs : List Value) (e : Env) (v : ValueName) → IsFresh ss p
    → sees ss v ≡ true → extend p vs e v ≡ e v
unmoved ss p vs e v f h = rw (f.apart v h) refl

visible_more : (d : Seen) (ss : List Seen) (ts : List Tree) → Each (IsVisible ss) ts → Each (IsVisible (d ∷ ss)) ts
visible_more d ss [] h = tt
visible_more d ss (t ∷ ts) h = (
  record {
    scope = h.0.scope;
    seen = λ v q. or_right (is_some (numbering_of d v)) (sees ss v) (h.0.seen v q);
    operands = h.0.operands;
    regions = h.0.regions;
    results = λ v i q.
        or_right (is_some (numbering_of d v)) (sees ss v) (h.0.results v i q);
  },
  visible_more d ss ts h.1,
)

-- what an operation gives rests on the values that it sees
does_unmoved : (scope : List Seen) (c : Calls) (e e' : Env) (n : OpName) (k : Kind) (ts : List PayloadType)
    (os : List ValueName) (rs : Regions) (ws : List Value)
    → CallsLead c c → AllSeen scope os → RegionsScoped scope n 0 rs
    → ((v : ValueName) → sees scope v ≡ true → e v ≡ e' v)
    → (does c n k ts (bodies_of c n 0 rs e) (map e os)).answer ≡ gives ws
    → (does c n k ts (bodies_of c n 0 rs e') (map e' os)).answer ≡ gives ws
does_unmoved scope c e e' n k ts os rs ws l a r f p =
    subst (λ vs. (does c n k ts (bodies_of c n 0 rs e') vs).answer ≡ gives ws) (all_same os a)
    ((does_lead k ts n n c c _ _ (map e os) l
    (copy_kept_regions rs rs (Visible scope) scope (λ v. v) n n 0 c c e e'
    (regions_use (Visible scope) Any rs scope n 0 (λ v t q. t) r (each_any (regions_operands rs))) r
    (same_copy_regions rs n 0) l (record { shown = λ v t. t; same = f }))).by ws p)
  where
    all_same : (vs : List ValueName) → AllSeen scope vs → map e vs ≡ map e' vs
    all_same [] h = refl
    all_same (v ∷ vs) h = let x = f v h.0 in let y = all_same vs h.1 in cc

-- ---- environments that an execution gives

has_run_more : (ss : List Seen) (p : Numbering) (ws : List Value) (c : Calls) (e : Env) (ts : List Tree)
    → CallsLead c c → IsFresh ss p → Each (IsVisible ss) ts → Each (HasRun c e) ts
    → Each (HasRun c (extend p ws e)) ts
has_run_more ss p ws c e [] l f s h = tt
has_run_more ss p ws c e (t ∷ ts) l f s h = (
  record {
    values = h.0.values;
    gave = does_unmoved s.0.scope c e (extend p ws e) t.name t.kind t.results t.operands t.regions h.0.values l
        s.0.operands s.0.regions (λ v q. sym (unmoved ss p ws e v f (s.0.seen v q))) h.0.gave;
    held = λ v i q. unmoved ss p ws e v f (s.0.results v i q) ∙ h.0.held v i q;
  },
  has_run_more ss p ws c e ts l f s.1 h.1,
)

typed_or : (o : Option ℕ) (ts : List PayloadType) (later : Option PayloadType) (ws : List Value) (x : Value)
    (t : PayloadType)
    → FitTypes ws ts → ((u : PayloadType) → later ≡ Some u → IsValue x × FitsType x u) → type_or o ts later ≡ Some t
    → IsValue (item_or o ws x) × FitsType (item_or o ws x) t
typed_or None ts later ws x t f h e = h t e
typed_or (Some i) ts later ws x t f h e = item_fits ws ts i t f e

pub fits_more : (d : Seen) (ts : List PayloadType) (tys : Typed) (ws : List Value) (e : Env)
    → FitTypes ws ts → ((v : ValueName) (t : PayloadType) → type_at tys v ≡ Some t → IsValue (e v) × FitsType (e v) t)
    → (v : ValueName) (t : PayloadType) → type_at ((d, ts) ∷ tys) v ≡ Some t
    → IsValue (extend (numbering_of d) ws e v) × FitsType (extend (numbering_of d) ws e v) t
fits_more d ts tys ws e f h v t = typed_or (numbering_of d v) ts (type_at tys v) ws (e v) t f (h v)

given_within : (c : Calls) (s : Context) (e : Env) (n : OpName) (i : ℕ) (args : List PayloadType) (vs : List Value)
    → IsFresh (visible s) (args_of n i (length args)) → Each (IsVisible (visible s)) s.earlier → FitTypes vs args
    → IsGiven c s e → IsGiven c (within s n i args) (extend (args_of n i (length args)) vs e)
given_within c s e n i args vs f q t g = record {
  fits = fits_more (inside n i (length args)) args s.types vs e t g.fits;
  alike = g.alike;
  earlier = has_run_more (visible s) (args_of n i (length args)) vs c e s.earlier g.alike f q g.earlier;
}

visible_behind : (s : Context) (n : OpName) (k : Kind) (ds : List Attr) (os : List ValueName) (ts : List PayloadType)
    (rs : Regions)
    → AllSeen (visible s) os → RegionsScoped (visible s) n 0 rs → Each (IsVisible (visible s)) s.earlier
    → Each (IsVisible (visible (behind s (made n k ds os ts rs)))) (behind s (made n k ds os ts rs)).earlier
visible_behind s n k ds os ts rs a r q = (
  record {
    scope = visible s;
    seen = λ v t. or_right (is_some (results_of n (length ts) v)) (sees (visible s) v) t;
    operands = a;
    regions = r;
    results = λ v i e. some_or (results_of n (length ts) v) (sees (visible s) v) i e;
  },
  visible_more (done n (length ts)) (visible s) s.earlier q,
)

earlier_behind : (c : Calls) (s : Context) (e : Env) (n : OpName) (k : Kind) (ds : List Attr) (os : List ValueName)
    (ts : List PayloadType) (rs : Regions) (ws : List Value)
    → AllSeen (visible s) os → RegionsScoped (visible s) n 0 rs → CallsLead c c
    → IsFresh (visible s) (results_of n (length ts)) → Each (IsVisible (visible s)) s.earlier
    → (does c n k ts (bodies_of c n 0 rs e) (map e os)).answer ≡ gives ws → Each (HasRun c e) s.earlier
    → Each (HasRun c (extend (results_of n (length ts)) ws e)) (behind s (made n k ds os ts rs)).earlier
earlier_behind c s e n k ds os ts rs ws a r l f q p g = (
  record {
    values = ws;
    gave = does_unmoved (visible s) c e (extend (results_of n (length ts)) ws e) n k ts os rs ws l a r
        (λ v t. sym (unmoved (visible s) (results_of n (length ts)) ws e v f t)) p;
    held = λ v i h. rw h refl;
  },
  has_run_more (visible s) (results_of n (length ts)) ws c e s.earlier l f q g,
)

given_behind : (c : Calls) (s : Context) (e : Env) (n : OpName) (k : Kind) (ds : List Attr) (os : List ValueName)
    (ts : List PayloadType) (rs : Regions) (ws : List Value)
    → AllSeen (visible s) os → RegionsScoped (visible s) n 0 rs → IsFresh (visible s) (results_of n (length ts))
    → Each (IsVisible (visible s)) s.earlier
    → (does c n k ts (bodies_of c n 0 rs e) (map e os)).answer ≡ gives ws → IsGiven c s e
    → IsGiven c (behind s (made n k ds os ts rs)) (extend (results_of n (length ts)) ws e)
given_behind c s e n k ds os ts rs ws a r f q p g = record {
  alike = g.alike;
  fits = fits_more (done n (length ts)) ts s.types ws e
      (fit_types_says ws ts (given_fits c n k ts (bodies_of c n 0 rs e) (map e os) ws p)) g.fits;
  earlier = earlier_behind c s e n k ds os ts rs ws a r g.alike f q p g.earlier;
}

given_outside : (c : Calls) → CallsLead c c → IsGiven c outside nowhere
given_outside c l = record { alike = l; fits = λ v t h. cc; earlier = tt }

-- ---- the law inside one function

module _ (name : OpName) (change : Ops → Ops) where
  mutual
    at_kept : (ops : Ops) (s : Context) (c c' : Calls) (holder : OpName) (e : Env)
        → OpsWhere name (LeadsHere change) s ops → OpsScoped (visible s) ops
        → OpsScoped (visible s) (ops_at name change ops) → Each (IsVisible (visible s)) s.earlier → CallsLead c c'
        → IsGiven c s e
        → Leads (ops_run c holder ops e) (ops_run c' holder (ops_at name change ops) e)
    at_kept no_ops s c c' holder e w h h' q l g = leads_none holder _
    at_kept (op n k ds os ts rs rest) s c c' holder e w h h' q l g =
        at_cases (n.0 == name.0) (change (op n k ds os ts rs rest))
        (op n k ds os ts (regions_at name change rs) (ops_at name change rest))
        (λ o. OpsScoped (visible s) o → Leads (ops_run c holder (op n k ds os ts rs rest) e) (ops_run c' holder o e))
        (λ t x. (w.0 t).by c c' holder e h x q l g)
        (λ t x. step_leads k k ts ts n n c c' _ _ _ _ _ _ refl refl l
        (at_kept_regions rs s c c' e n 0 w.1.0 h.1.1.0 x.1.1.0 q l g) refl
        (λ ws p. at_kept rest (behind s (made n k ds os ts rs)) c c' holder
        (extend (results_of n (length ts)) ws e) w.1.1 h.1.1.1 x.1.1.1
        (visible_behind s n k ds os ts rs h.0 h.1.1.0 q) l
        (given_behind c s e n k ds os ts rs ws h.0 h.1.1.0 h.1.0 q p g)))
        h'

    at_kept_regions : (rs : Regions) (s : Context) (c c' : Calls) (e : Env) (n : OpName) (i : ℕ)
        → RegionsWhere name (LeadsHere change) s n i rs → RegionsScoped (visible s) n i rs
        → RegionsScoped (visible s) n i (regions_at name change rs) → Each (IsVisible (visible s)) s.earlier
        → CallsLead c c' → IsGiven c s e
        → BodiesLead (bodies_of c n i rs e) (bodies_of c' n i (regions_at name change rs) e)
    at_kept_regions no_regions s c c' e n i w h h' q l g = none_lead n n
    at_kept_regions (region args ops rest) s c c' e n i w h h' q l g =
        first_lead _ _ _ _
        (λ vs. leads_fitting n n args args vs _ _ refl
        (λ t. at_kept ops (within s n i args) c c' n (extend (args_of n i (length args)) vs e) w.0 h.1.0 h'.1.0
        (visible_more (inside n i (length args)) (visible s) s.earlier q) l
        (given_within c s e n i args vs h.0 q (fit_types_says vs args t) g)))
        (at_kept_regions rest s c c' e n (suc i) w.1 h.1.1 h'.1.1 q l g)

  -- ---- through calls

  returned_lead : (fs : Ops) (c c' : Calls) → NoFunction name fs → FunctionsWhere name (LeadsHere change) fs
      → FunctionsScoped fs → FunctionsScoped (ops_at name change fs) → CallsLead c c → CallsLead c c'
      → CallsLead (returned c fs) (returned c' (ops_at name change fs))
  returned_lead no_ops c c' m w h h' a l = λ at at' f vs. leads_none at _
  returned_lead (op n k ds os ts rs rest) c c' m w h h' a l =
      at_cases (n.0 == name.0) (change (op n k ds os ts rs rest))
      (op n k ds os ts (regions_at name change rs) (ops_at name change rest))
      (λ o. FunctionsScoped o → CallsLead (returned c (op n k ds os ts rs rest)) (returned c' o))
      (λ t x. (let no = m.0 in cc))
      (λ t x at at' f vs. called_lead k f _ _ _ _ vs
      ((at_kept_regions rs outside c c' nowhere n 0 w.0 h.0 x.0 tt l (given_outside c a)).block 0 vs)
      (returned_lead rest c c' m.1 w.1 h.1 x.1 a l at at' f vs))
      h'

  calls_lead : (d : ℕ) (fs : Ops) → NoFunction name fs → FunctionsWhere name (LeadsHere change) fs → FunctionsScoped fs
      → FunctionsScoped (ops_at name change fs) → CallsLead (calls_to d fs) (calls_to d (ops_at name change fs))
  calls_lead zero fs m w h h' = λ at at' f vs. leads_none at _
  calls_lead (suc d) fs m w h h' =
      returned_lead fs _ _ m w h h' (calls_alike d fs h) (calls_lead d fs m w h h')

  -- ---- declared functions

  arguments_at : (rs : Regions) → first_args rs ≡ first_args (regions_at name change rs)
  arguments_at no_regions = refl
  arguments_at (region args ops rest) = refl

  before_at : (k : Kind) (rs : Regions) (more more' : List Declared) → more ≡ more'
      → declared_before k rs more ≡ declared_before k (regions_at name change rs) more'
  before_at (kind.Func symbol private types) rs more more' h = let a = arguments_at rs in cc
  before_at _ rs more more' h = h

  declared_at : (fs : Ops) → NoFunction name fs → declared_in fs ≡ declared_in (ops_at name change fs)
  declared_at no_ops m = refl
  declared_at (op n k ds os ts rs rest) m =
      at_cases (n.0 == name.0) (change (op n k ds os ts rs rest))
      (op n k ds os ts (regions_at name change rs) (ops_at name change rest))
      (λ o. declared_in (op n k ds os ts rs rest) ≡ declared_in o)
      (λ t. (let no = m.0 in cc))
      (λ t. before_at k rs (declared_in rest) (declared_in (ops_at name change rest)) (declared_at rest m.1))

pub functions_at : (m : Module) (name : OpName) (change : Ops → Ops)
    → functions_of (changed_at name change m) ≡ ops_at name change (functions_of m)
functions_at m name change = block_at name change m.root.regions

pub surroundings_keep : SurroundingsKeep
surroundings_keep m name change may w =
    let fs = functions_of m in
    let to = functions_at m name change in
    let after : FunctionsScoped (ops_at name change fs) = subst FunctionsScoped to may.after in
    record {
      functions = subst (λ gs. declared_in fs ≡ declared_in gs) (sym to) (declared_at name change fs may.inner);
      returns = λ number f vs ws h t p.
          subst (λ gs. (calls_to call_depth gs m.root.name f.symbol vs).answer ≡ gives ws) (sym to)
          ((calls_lead name change call_depth fs may.inner w may.before after m.root.name m.root.name
          f.symbol vs).by ws p);
    }
