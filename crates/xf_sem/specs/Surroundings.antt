-- The law of surroundings: an operation may be changed where the change leads, under every environment that an
-- execution gives there.
use Rattle.std.specs.Prelude.{◌≡◌, ℕ, suc, List, [], ◌∷◌, length, map, Some, true, false, ◌==◌}
use Rattle.xf_type.specs.declared.payload_type.PayloadType.{PayloadType}
use Rattle.xf_ir.specs.declared.name.OpName.{OpName}
use Rattle.xf_ir.specs.declared.name.ValueName.{ValueName}
use Rattle.xf_ir.specs.declared.op.Module.{Module}
use Rattle.xf_ir.specs.Tree.{Ops, no_ops, op, Regions, no_regions, region, Tree}
use Rattle.xf_ir.specs.Lists.{Each}
use Rattle.xf_ir.specs.Places.{results_of, Seen, done, inside, sees, AllSeen, OpsScoped, RegionsScoped}
use Rattle.xf_ir.specs.Places.{FunctionsScoped}
use Rattle.xf_ir.specs.Valid.{Typed, type_at, functions_of}
use Rattle.xf_ir.specs.Edits.{tree_at}
use Rattle.xf_sem.specs.declared.value.Value.{Value}
use Rattle.xf_sem.specs.Values.{IsValue, FitsType}
use Rattle.xf_sem.specs.Meaning.{Env, item, gives, Run, Calls, does, ops_run, bodies_of}
use Rattle.xf_sem.specs.Keeps.{KeepsMeaning}

-- ---- the order of runs

-- where the first is defined, the second gives the same
pub record Leads {A : Type 0} (a b : Run A) : Type 0 where
  pub by : (x : A) → a.answer ≡ gives x → b.answer ≡ gives x

abbrev pub CallsLead : Calls → Calls → Type 0
CallsLead c c' = (caller caller' : OpName) (f : List ℕ) (vs : List Value) → Leads (c caller f vs) (c' caller' f vs)

-- ---- what surrounds an operation

-- the values that are visible, with their types, and the operations that stand before, in its block or in an enclosing
-- one
pub record Context : Type 0 where
  pub types : Typed
  pub earlier : List Tree

abbrev pub places : Typed → List Seen
places [] = []
places (x ∷ xs) = x.0 ∷ places xs

abbrev pub visible : Context → List Seen
visible s = places s.types

-- outside all functions
abbrev pub outside : Context
outside = record { types = []; earlier = [] }

-- behind an operation
abbrev pub behind : Context → Tree → Context
behind s t = record { types = (done t.name (length t.results), t.results) ∷ s.types; earlier = t ∷ s.earlier }

-- in the block of a region
abbrev pub within : Context → OpName → ℕ → List PayloadType → Context
within s n i args = record { types = (inside n i (length args), args) ∷ s.types; earlier = s.earlier }

-- an earlier operation sees what it uses, in its regions too, under what was visible where it stands; all that is
-- visible here too, and so are its results
pub record IsVisible (ss : List Seen) (t : Tree) : Type 0 where
  pub scope : List Seen
  pub seen : (v : ValueName) → sees scope v ≡ true → sees ss v ≡ true
  pub operands : AllSeen scope t.operands
  pub regions : RegionsScoped scope t.name 0 t.regions
  pub results : (v : ValueName) (i : ℕ) → results_of t.name (length t.results) v ≡ Some i → sees ss v ≡ true

-- an earlier operation's results are what it gives: an earlier loop, if, generic or call has given its own too
pub record HasRun (c : Calls) (e : Env) (t : Tree) : Type 0 where
  pub values : List Value
  pub gave : (does c t.name t.kind t.results (bodies_of c t.name 0 t.regions e) (map e t.operands)).answer
      ≡ gives values
  pub held : (v : ValueName) (i : ℕ) → results_of t.name (length t.results) v ≡ Some i → e v ≡ item values i

-- what each environment that an execution gives at a site meets: visible values fit their types, and the earlier
-- operations have run; and a function returns the same, whoever calls it
pub record IsGiven (c : Calls) (s : Context) (e : Env) : Type 0 where
  pub alike : CallsLead c c
  pub fits : (v : ValueName) (t : PayloadType) → type_at s.types v ≡ Some t → IsValue (e v) × FitsType (e v) t
  pub earlier : Each (HasRun c e) s.earlier

-- ---- a change at one operation

-- the operation of this name, with the rest of its block, meets P at its site
abbrev mutual
  pub OpsWhere : OpName → (Context → Ops → Type 0) → Context → Ops → Type 0
  OpsWhere name P s no_ops = Unit {0}
  OpsWhere name P s (op n k ds os ts rs rest) =
      ((n.0 == name.0) ≡ true → P s (op n k ds os ts rs rest))
      × (RegionsWhere name P s n 0 rs × OpsWhere name P
      (behind s (record { name = n; kind = k; attrs = ds; operands = os; results = ts; regions = rs })) rest)

  pub RegionsWhere : OpName → (Context → Ops → Type 0) → Context → OpName → ℕ → Regions → Type 0
  RegionsWhere name P s n i no_regions = Unit {0}
  RegionsWhere name P s n i (region args ops rest) =
      OpsWhere name P (within s n i args) ops × RegionsWhere name P s n (suc i) rest

abbrev pub FunctionsWhere : OpName → (Context → Ops → Type 0) → Ops → Type 0
FunctionsWhere name P no_ops = Unit {0}
FunctionsWhere name P (op n k ds os ts rs rest) = RegionsWhere name P outside n 0 rs × FunctionsWhere name P rest

-- no function has the name
abbrev pub NoFunction : OpName → Ops → Type 0
NoFunction name no_ops = Unit {0}
NoFunction name (op n k ds os ts rs rest) = ((n.0 == name.0) ≡ false) × NoFunction name rest

-- at this site operations may become others, under every environment that an execution gives there, and whatever is
-- called
pub record LeadsHere (change : Ops → Ops) (s : Context) (ops : Ops) : Type 0 where
  pub by : (c c' : Calls) (holder : OpName) (e : Env)
      → OpsScoped (visible s) ops → OpsScoped (visible s) (change ops) → Each (IsVisible (visible s)) s.earlier
      → CallsLead c c' → IsGiven c s e
      → Leads (ops_run c holder ops e) (ops_run c' holder (change ops) e)

-- a module changed where the operation of this name begins the rest of its block
abbrev pub changed_at : OpName → (Ops → Ops) → Module → Module
changed_at name change m = record m { root = tree_at name change m.root }

-- an operation inside a function, which sees what it uses before and after the change
pub record MayChange (m : Module) (name : OpName) (change : Ops → Ops) : Type 0 where
  pub inner : NoFunction name (functions_of m)
  pub before : FunctionsScoped (functions_of m)
  pub after : FunctionsScoped (functions_of (changed_at name change m))

-- a change that leads at its site, in any surrounding region, loop, branch or call, keeps the meaning of the module
abbrev pub SurroundingsKeep : Type 0
SurroundingsKeep = (m : Module) (name : OpName) (change : Ops → Ops) → MayChange m name change
    → FunctionsWhere name (LeadsHere change) (functions_of m)
    → KeepsMeaning m (changed_at name change m)
