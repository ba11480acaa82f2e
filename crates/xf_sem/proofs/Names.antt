-- The meaning does not rest on the names of operations.
use Rattle.std.proofs.Common.{◌≡◌, ℕ, zero, suc, ◌+◌, List, [], ◌∷◌, Bool, true, false, refl, ap, ◌∙◌, subst}
use Rattle.std.specs.Prelude.{length, map, if◌then◌else◌}
use Rattle.xf_type.specs.declared.payload_type.PayloadType.{PayloadType}
use Rattle.xf_ir.specs.declared.name.OpName.{OpName}
use Rattle.xf_ir.specs.declared.name.ValueName.{ValueName}
use Rattle.xf_ir.specs.declared.kind.Kind.{Kind}
use Rattle.xf_ir.specs.declared.kind.Kind.TheVariants as kind
use Rattle.xf_ir.specs.Kinds.{is_terminator}
use Rattle.xf_ir.specs.Lists.{same_bytes}
use Rattle.xf_ir.specs.Places.{results_of, args_of, Seen, done, inside, OpsScoped, RegionsScoped, FunctionsScoped}
use Rattle.xf_ir.specs.Renamed.{value_renamed, ops_renamed, regions_renamed}
use Rattle.xf_ir.specs.Tree.{Ops, no_ops, op, Regions, no_regions, region}
use Rattle.xf_ir.specs.Uses.{regions_operands}
use Rattle.xf_ir.specs.Valid.{functions_of}
use Rattle.xf_ir_laws.proofs.Scopes.{scoped}
use Rattle.xf_sem.specs.declared.value.Value.{Value}
use Rattle.xf_sem.specs.Values.{fit_types}
use Rattle.xf_sem.specs.Actions.{Action, results, is_undefined, enters, calls}
use Rattle.xf_sem.specs.Structured.{points_of}
use Rattle.xf_sem.specs.Meaning.{Env, extend, nowhere, Answer, gives, fails, Run, finish, undefined, charge, next}
use Rattle.xf_sem.specs.Meaning.{and_then}
use Rattle.xf_sem.specs.Meaning.{Body, Bodies, first_body, Calls, acts, performed, where_fit, elements, does}
use Rattle.xf_sem.specs.Meaning.{step, ops_run, bodies_of, called, returned, calls_to, call_depth}
use Rattle.xf_sem.specs.Laws.{renamed_answer, renamed_run, NamesDoNotMatter}
use Rattle.xf_sem.proofs.Copying.{Grown, OpsUse, RegionsUse, Visible, Any, each_any, regions_use, Agree, agree_extend}
use Rattle.xf_sem.proofs.Copying.{all_agree}
use Rattle.xf_sem.proofs.Renaming.{results_follow, args_follow, renamed_scoped, functions_renamed}

module _ (f : OpName → OpName) where
  -- ---- the same run under other names

  next_same : {A B : Type 0} (u : ℕ) (a : Answer A) (g g' : A → Run B) → ((x : A) → g' x ≡ renamed_run f (g x))
      → next u (renamed_answer f a) g' ≡ renamed_run f (next u a g)
  next_same u (gives x) g g' h = ap (charge u) (h x)
  next_same u (fails n) g g' h = refl

  then_same : {A B : Type 0} (r r' : Run A) (g g' : A → Run B) → r' ≡ renamed_run f r
      → ((x : A) → g' x ≡ renamed_run f (g x)) → and_then r' g' ≡ renamed_run f (and_then r g)
  then_same r r' g g' e h = ap (λ (z : Run _). and_then z g') e ∙ next_same r.units r.answer g g' h

  fitting_same : {A : Type 0} (b : Bool) (n : OpName) (r r' : Run A) → r' ≡ renamed_run f r
      → (if b then r' else undefined (f n)) ≡ renamed_run f (if b then r else undefined n)
  fitting_same true n r r' h = h
  fitting_same false n r r' h = refl

  -- ---- operations

  abbrev CallsSame : Calls → Calls → Type 0
  CallsSame c c' =
      (caller : OpName) (s : List ℕ) (vs : List Value) → c' (f caller) s vs ≡ renamed_run f (c caller s vs)

  record BodiesSame (bs bs' : Bodies) : Type 0 where
    count : bs.count ≡ bs'.count
    block : (i : ℕ) (vs : List Value) → bs'.block i vs ≡ renamed_run f (bs.block i vs)

  performed_same : (a : Action) (n : OpName) (c c' : Calls) (bs bs' : Bodies) → CallsSame c c' → BodiesSame bs bs'
      → performed c' (f n) bs' a ≡ renamed_run f (performed c n bs a)
  performed_same (results vs) n c c' bs bs' l h = refl
  performed_same is_undefined n c c' bs bs' l h = refl
  performed_same (enters i vs more) n c c' bs bs' l h =
      then_same (bs.block i vs) (bs'.block i vs) (λ ws. performed c n bs (more ws))
      (λ ws. performed c' (f n) bs' (more ws)) (h.block i vs) (λ ws. performed_same (more ws) n c c' bs bs' l h)
  performed_same (calls s vs more) n c c' bs bs' l h =
      then_same (c n s vs) (c' (f n) s vs) (λ ws. performed c n bs (more ws)) (λ ws. performed c' (f n) bs' (more ws))
      (l n s vs) (λ ws. performed_same (more ws) n c c' bs bs' l h)

  does_same : (k : Kind) (ts : List PayloadType) (n : OpName) (c c' : Calls) (bs bs' : Bodies) (vs : List Value)
      → CallsSame c c' → BodiesSame bs bs' → does c' (f n) k ts bs' vs ≡ renamed_run f (does c n k ts bs vs)
  does_same k ts n c c' bs bs' vs l h =
      then_same (performed c n bs (acts k bs.count ts vs)) (performed c' (f n) bs' (acts k bs'.count ts vs))
      (λ ws. where_fit n ts ws (charge (points_of k vs + elements ws) (finish ws)))
      (λ ws. where_fit (f n) ts ws (charge (points_of k vs + elements ws) (finish ws)))
      (subst
      (λ count. performed c' (f n) bs' (acts k count ts vs) ≡ renamed_run f (performed c n bs (acts k bs.count ts vs)))
      h.count (performed_same (acts k bs.count ts vs) n c c' bs bs' l h))
      (λ ws. fitting_same (fit_types ws ts) n (charge (points_of k vs + elements ws) (finish ws))
      (charge (points_of k vs + elements ws) (finish ws)) refl)

  step_same : (k : Kind) (ts : List PayloadType) (n : OpName) (c c' : Calls) (bs bs' : Bodies) (vs vs' : List Value)
      (go go' : Body) → CallsSame c c' → BodiesSame bs bs' → vs ≡ vs'
      → ((ws : List Value) → go' ws ≡ renamed_run f (go ws))
      → step c' (f n) k ts bs' vs' go' ≡ renamed_run f (step c n k ts bs vs go)
  step_same k ts n c c' bs bs' vs vs' go go' l h e g =
      subst (λ us. step c' (f n) k ts bs' us go' ≡ renamed_run f (step c n k ts bs vs go)) e (cases (is_terminator k))
    where
      cases : (b : Bool)
          → charge 1 (if b then finish vs else and_then (does c' (f n) k ts bs' vs) go')
          ≡ renamed_run f (charge 1 (if b then finish vs else and_then (does c n k ts bs vs) go))
      cases true = refl
      cases false =
          ap (charge 1) (then_same (does c n k ts bs vs) (does c' (f n) k ts bs' vs) go go'
          (does_same k ts n c c' bs bs' vs l h) g)

  first_same : (b b' : Body) (bs bs' : Bodies) → ((vs : List Value) → b' vs ≡ renamed_run f (b vs)) → BodiesSame bs bs'
      → BodiesSame (first_body b bs) (first_body b' bs')
  first_same b b' bs bs' h k = record { count = ap suc k.count; block = λ i vs. at_region i vs }
    where
      at_region : (i : ℕ) (vs : List Value)
          → (first_body b' bs').block i vs ≡ renamed_run f ((first_body b bs).block i vs)
      at_region zero vs = h vs
      at_region (suc i) vs = k.block i vs

  -- ---- blocks

  mutual
    ops_same : (ops : Ops) (P : ValueName → Type 0) (ss : List Seen) (c c' : Calls) (holder : OpName) (e e' : Env)
        → OpsUse P ops → OpsScoped ss (ops_renamed f ops) → CallsSame c c' → Agree P ss (value_renamed f) e e'
        → ops_run c' (f holder) (ops_renamed f ops) e' ≡ renamed_run f (ops_run c holder ops e)
    ops_same no_ops P ss c c' holder e e' u h l a = refl
    ops_same (op n k ds os ts rs rest) P ss c c' holder e e' u h l a =
        step_same k ts n c c' (bodies_of c n 0 rs e) (bodies_of c' (f n) 0 (regions_renamed f rs) e') (map e os)
        (map e' (map (value_renamed f) os)) (λ vs. ops_run c holder rest (extend (results_of n (length ts)) vs e))
        (λ vs. ops_run c' (f holder) (ops_renamed f rest) (extend (results_of (f n) (length ts)) vs e')) l
        (bodies_same rs P ss n 0 c c' e e' u.1.0 h.1.1.0 l a) (all_agree P ss (value_renamed f) e e' os u.0 a)
        (λ vs. ops_same rest (Grown P (results_of n (length ts))) (done (f n) (length ts) ∷ ss) c c' holder
        (extend (results_of n (length ts)) vs e) (extend (results_of (f n) (length ts)) vs e') u.1.1 h.1.1.1 l
        (agree_extend P ss (value_renamed f) (results_of n (length ts)) (done (f n) (length ts)) e e' vs
        (results_follow f n (length ts)) h.1.0 a))

    bodies_same : (rs : Regions) (P : ValueName → Type 0) (ss : List Seen) (n : OpName) (i : ℕ) (c c' : Calls)
        (e e' : Env)
        → RegionsUse P n i rs → RegionsScoped ss (f n) i (regions_renamed f rs) → CallsSame c c'
        → Agree P ss (value_renamed f) e e'
        → BodiesSame (bodies_of c n i rs e) (bodies_of c' (f n) i (regions_renamed f rs) e')
    bodies_same no_regions P ss n i c c' e e' u h l a = record { count = refl; block = λ j vs. refl }
    bodies_same (region args ops rest) P ss n i c c' e e' u h l a =
        first_same (λ vs. where_fit n args vs (ops_run c n ops (extend (args_of n i (length args)) vs e)))
        (λ vs. where_fit (f n) args vs
        (ops_run c' (f n) (ops_renamed f ops) (extend (args_of (f n) i (length args)) vs e')))
        (bodies_of c n (suc i) rest e) (bodies_of c' (f n) (suc i) (regions_renamed f rest) e')
        (λ vs. fitting_same (fit_types vs args) n (ops_run c n ops (extend (args_of n i (length args)) vs e))
        (ops_run c' (f n) (ops_renamed f ops) (extend (args_of (f n) i (length args)) vs e'))
        (ops_same ops (Grown P (args_of n i (length args))) (inside (f n) i (length args) ∷ ss) c c' n
        (extend (args_of n i (length args)) vs e) (extend (args_of (f n) i (length args)) vs e') u.0 h.1.0 l
        (agree_extend P ss (value_renamed f) (args_of n i (length args)) (inside (f n) i (length args)) e e' vs
        (args_follow f n i (length args)) h.0 a)))
        (bodies_same rest P ss n (suc i) c c' e e' u.1 h.1.1 l a)

  -- ---- functions

  called_same : (k : Kind) (s : List ℕ) (b b' later later' : Body) (vs : List Value) → b' vs ≡ renamed_run f (b vs)
      → later' vs ≡ renamed_run f (later vs) → called k s b' later' vs ≡ renamed_run f (called k s b later vs)
  called_same (kind.Func symbol private types) s b b' later later' vs h q = either_same (same_bytes symbol s)
    where
      either_same : (t : Bool) → (if t then b' vs else later' vs) ≡ renamed_run f (if t then b vs else later vs)
      either_same true = h
      either_same false = q
  called_same _ s b b' later later' vs h q = q

  returned_same : (fs : Ops) (c c' : Calls) → FunctionsScoped fs → FunctionsScoped (ops_renamed f fs) → CallsSame c c'
      → CallsSame (returned c fs) (returned c' (ops_renamed f fs))
  returned_same no_ops c c' h h' l caller s vs = refl
  returned_same (op n k ds os ts rs rest) c c' h h' l caller s vs =
      called_same k s ((bodies_of c n 0 rs nowhere).block 0)
      ((bodies_of c' (f n) 0 (regions_renamed f rs) nowhere).block 0) (returned c rest caller s)
      (returned c' (ops_renamed f rest) (f caller) s) vs
      ((bodies_same rs (Visible []) [] n 0 c c' nowhere nowhere
      (regions_use (Visible []) Any rs [] n 0 (λ v t q. t) h.0
      (each_any (regions_operands rs))) h'.0 l (record { shown = λ v t. cc; same = λ v t. refl })).block 0 vs)
      (returned_same rest c c' h.1 h'.1 l caller s vs)

  calls_same : (d : ℕ) (fs : Ops) → FunctionsScoped fs → FunctionsScoped (ops_renamed f fs)
      → CallsSame (calls_to d fs) (calls_to d (ops_renamed f fs))
  calls_same zero fs h h' caller s vs = refl
  calls_same (suc d) fs h h' caller s vs = returned_same fs _ _ h h' (calls_same d fs h h') caller s vs

pub names_do_not_matter : NamesDoNotMatter
names_do_not_matter m m' r s vs v =
    let fs = functions_of m in
    let to = functions_renamed m m' r in
    ap (λ gs. calls_to call_depth gs m'.root.name s vs) to
    ∙ ap (λ t. calls_to call_depth (ops_renamed r.names fs) t.name s vs) r.root
    ∙ calls_same r.names call_depth fs (scoped m v)
    (subst FunctionsScoped to (renamed_scoped m m' v r)) m.root.name s vs
