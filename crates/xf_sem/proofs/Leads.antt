-- What leads, through the parts of a run.
use Rattle.std.proofs.Common.{◌≡◌, ℕ, zero, suc, ◌+◌, List, Bool, true, false, refl, ap, subst}
use Rattle.std.specs.Prelude.{if◌then◌else◌}
use Rattle.xf_type.specs.declared.payload_type.PayloadType.{PayloadType}
use Rattle.xf_ir.specs.declared.name.OpName.{OpName}
use Rattle.xf_ir.specs.declared.kind.Kind.{Kind}
use Rattle.xf_ir.specs.declared.kind.Kind.TheVariants as kind
use Rattle.xf_ir.specs.Lists.{same_bytes}
use Rattle.xf_ir.specs.Kinds.{is_terminator}
use Rattle.xf_sem.specs.declared.value.Value.{Value}
use Rattle.xf_sem.specs.Values.{fit_types}
use Rattle.xf_sem.specs.Actions.{Action, results, is_undefined, enters, calls}
use Rattle.xf_sem.specs.Structured.{points_of}
use Rattle.xf_sem.specs.Meaning.{Answer, gives, fails, Run, finish, undefined, charge, next, and_then, Body, Bodies}
use Rattle.xf_sem.specs.Meaning.{no_body}
use Rattle.xf_sem.specs.Meaning.{first_body, Calls, acts, performed}
use Rattle.xf_sem.specs.Meaning.{where_fit, elements, does, step, called}
use Rattle.xf_sem.specs.Surroundings.{Leads, CallsLead}

pub leads_same : {A : Type 0} (a : Run A) → Leads a a
leads_same a = record { by = λ x e. e }

pub leads_on : {A : Type 0} (a b d : Run A) → Leads a b → Leads b d → Leads a d
leads_on a b d h k = record { by = λ x p. k.by x (h.by x p) }

pub leads_none : {A : Type 0} (n : OpName) (b : Run A) → Leads (undefined n) b
leads_none n b = record { by = λ x e. cc }

pub leads_charge : {A : Type 0} (u u' : ℕ) (a a' : Run A) → Leads a a' → Leads (charge u a) (charge u' a')
leads_charge u u' a a' h = record { by = h.by }

leads_next : {A B : Type 0} (u u' : ℕ) (o o' : Answer A) (f f' : A → Run B) → ((x : A) → o ≡ gives x → o' ≡ gives x)
    → ((x : A) → o ≡ gives x → Leads (f x) (f' x)) → Leads (next u o f) (next u' o' f')
leads_next u u' (fails n) o' f f' h k = record { by = λ x e. cc }
leads_next u u' (gives x) o' f f' h k = record { by = λ y e. rw (h x refl) ((k x refl).by y e) }

pub leads_then : {A B : Type 0} (a a' : Run A) (f f' : A → Run B) → Leads a a'
    → ((x : A) → a.answer ≡ gives x → Leads (f x) (f' x)) → Leads (and_then a f) (and_then a' f')
leads_then a a' f f' h k = leads_next a.units a'.units a.answer a'.answer f f' h.by k

pub leads_if : {A : Type 0} (b : Bool) (x x' y y' : Run A) → Leads x x' → Leads y y'
    → Leads (if b then x else y) (if b then x' else y')
leads_if true x x' y y' h k = h
leads_if false x x' y y' h k = k

-- values that fit their types
fitting : {A : Type 0} (b : Bool) (n n' : OpName) (r r' : Run A) → (b ≡ true → Leads r r')
    → Leads (if b then r else undefined n) (if b then r' else undefined n')
fitting true n n' r r' h = h refl
fitting false n n' r r' h = leads_none n _

pub leads_fitting : {A : Type 0} (n n' : OpName) (ts ts' : List PayloadType) (vs : List Value) (r r' : Run A) → ts
    ≡ ts'
    → (fit_types vs ts ≡ true → Leads r r') → Leads (where_fit n ts vs r) (where_fit n' ts' vs r')
leads_fitting n n' ts ts' vs r r' t h =
    subst (λ us. Leads (where_fit n ts vs r) (where_fit n' us vs r')) t (fitting (fit_types vs ts) n n' r r' h)

-- ---- from a run that ends

pub leads_from_if : {A : Type 0} (b : Bool) (x y z : Run A) → b ≡ false → Leads y z → Leads (if b then x else y) z
leads_from_if true x y z h l = cc
leads_from_if false x y z h l = l

leads_from_next : {A B : Type 0} (u : ℕ) (a : Answer A) (f : A → Run B) (z : Run B)
    → ((x : A) → a ≡ gives x → Leads (f x) z) → Leads (next u a f) z
leads_from_next u (fails n) f z h = record { by = λ x e. cc }
leads_from_next u (gives x) f z h = record { by = λ y e. (h x refl).by y e }

pub leads_from_then : {A B : Type 0} (a : Run A) (f : A → Run B) (z : Run B)
    → ((x : A) → a.answer ≡ gives x → Leads (f x) z) → Leads (and_then a f) z
leads_from_then a f z h = leads_from_next a.units a.answer f z h

pub leads_from_charge : {A : Type 0} (u : ℕ) (a b : Run A) → Leads a b → Leads (charge u a) b
leads_from_charge u a b h = record { by = h.by }

-- where a run went on
pub went : {A B : Type 0} (u : ℕ) (a : Answer A) (f : A → Run B) (y : B) → (next u a f).answer ≡ gives y
    → (x : A) × ((a ≡ gives x) × ((f x).answer ≡ gives y))
went u (gives x) f y p = (x, (refl, p))
went u (fails n) f y p = cc

pub went_fitting : {A : Type 0} (b : Bool) (n : OpName) (r : Run A) (y : A)
    → (if b then r else undefined n).answer ≡ gives y → (b ≡ true) × (r.answer ≡ gives y)
went_fitting true n r y p = (refl, p)
went_fitting false n r y p = cc

-- what an operation gives fits its types
pub given_fits : (c : Calls) (n : OpName) (k : Kind) (ts : List PayloadType) (bs : Bodies) (vs ws : List Value)
    → (does c n k ts bs vs).answer ≡ gives ws → fit_types ws ts ≡ true
given_fits c n k ts bs vs ws p =
    let r = performed c n bs (acts k bs.count ts vs) in
    let w = went r.units r.answer (λ xs. where_fit n ts xs (charge (points_of k vs + elements xs) (finish xs))) ws p in
    let f = went_fitting (fit_types w.0 ts) n (charge (points_of k vs + elements w.0) (finish w.0)) ws w.1.1 in
    let q : w.0 ≡ ws = cc (f.1) in
    rw q at f.0

-- ---- into a run

pub leads_into_next : {A B : Type 0} (z : Run B) (u : ℕ) (a : Answer A) (f : A → Run B) (x : A) → a ≡ gives x
    → Leads z (f x) → Leads z (next u a f)
leads_into_next z u a f x p h = rw p (record { by = h.by })

pub leads_into_if : {A : Type 0} (z : Run A) (b : Bool) (x y : Run A) → b ≡ false → Leads z y
    → Leads z (charge 1 (if b then x else y))
leads_into_if z true x y p h = cc
leads_into_if z false x y p h = record { by = h.by }

-- ---- operations

-- as many blocks, and each leads
pub record BodiesLead (bs bs' : Bodies) : Type 0 where
  pub count : bs.count ≡ bs'.count
  pub block : (i : ℕ) (vs : List Value) → Leads (bs.block i vs) (bs'.block i vs)

pub none_lead : (n n' : OpName) → BodiesLead (no_body n) (no_body n')
none_lead n n' = record { count = refl; block = λ i vs. leads_none n _ }

pub first_lead : (b b' : Body) (bs bs' : Bodies) → ((vs : List Value) → Leads (b vs) (b' vs)) → BodiesLead bs bs'
    → BodiesLead (first_body b bs) (first_body b' bs')
first_lead b b' bs bs' h k = record { count = ap suc k.count; block = λ i vs. at_region i vs }
  where
    at_region : (i : ℕ) (vs : List Value) → Leads ((first_body b bs).block i vs) ((first_body b' bs').block i vs)
    at_region zero vs = h vs
    at_region (suc i) vs = k.block i vs

-- what an operation does rests on what it calls, and on its blocks, in one direction
performed_lead : (a : Action) (n n' : OpName) (c c' : Calls) (bs bs' : Bodies) → CallsLead c c' → BodiesLead bs bs'
    → Leads (performed c n bs a) (performed c' n' bs' a)
performed_lead (results vs) n n' c c' bs bs' l h = leads_same _
performed_lead is_undefined n n' c c' bs bs' l h = leads_none n _
performed_lead (enters i vs more) n n' c c' bs bs' l h =
    leads_then (bs.block i vs) (bs'.block i vs) _ _ (h.block i vs)
    (λ ws p. performed_lead (more ws) n n' c c' bs bs' l h)
performed_lead (calls f vs more) n n' c c' bs bs' l h =
    leads_then (c n f vs) (c' n' f vs) _ _ (l n n' f vs) (λ ws p. performed_lead (more ws) n n' c c' bs bs' l h)

pub does_lead : (k : Kind) (ts : List PayloadType) (n n' : OpName) (c c' : Calls) (bs bs' : Bodies) (vs : List Value)
    → CallsLead c c' → BodiesLead bs bs' → Leads (does c n k ts bs vs) (does c' n' k ts bs' vs)
does_lead k ts n n' c c' bs bs' vs l h =
    leads_then (performed c n bs (acts k bs.count ts vs)) (performed c' n' bs' (acts k bs'.count ts vs)) _ _
    (subst (λ count. Leads (performed c n bs (acts k bs.count ts vs))
    (performed c' n' bs' (acts k count ts vs))) h.count
    (performed_lead (acts k bs.count ts vs) n n' c c' bs bs' l h))
    (λ ws p. leads_fitting n n' ts ts ws _ _ refl (λ q. leads_same _))

pub step_leads : (k k' : Kind) (ts ts' : List PayloadType) (n n' : OpName) (c c' : Calls) (bs bs' : Bodies)
    (vs vs' : List Value) (go go' : Body)
    → k ≡ k' → ts ≡ ts' → CallsLead c c' → BodiesLead bs bs'
    → vs ≡ vs' → ((ws : List Value) → (does c n k ts bs vs).answer ≡ gives ws → Leads (go ws) (go' ws))
    → Leads (step c n k ts bs vs go) (step c' n' k' ts' bs' vs' go')
step_leads k k' ts ts' n n' c c' bs bs' vs vs' go go' p t l h q r =
    rw (← p, ← t, ← q) (leads_charge _ _ _ _ (leads_if (is_terminator k) _ _ _ _ (leads_same _)
    (leads_then _ _ _ _ (does_lead k ts n n' c c' bs bs' vs l h) r)))

-- the function that is called
pub called_lead : (k : Kind) (f : List ℕ) (b b' later later' : Body) (vs : List Value) → Leads (b vs) (b' vs)
    → Leads (later vs) (later' vs) → Leads (called k f b later vs) (called k f b' later' vs)
called_lead (kind.Func symbol private types) f b b' later later' vs h q = leads_if (same_bytes symbol f) _ _ _ _ h q
called_lead _ f b b' later later' vs h q = q
