-- An operation replaced, at its place, by operations that give its values.
use Rattle.std.specs.Prelude.{◌≡◌, ℕ, List, ◌∷◌, length, map, Some, true, false}
use Rattle.xf_type.specs.declared.payload_type.PayloadType.{PayloadType}
use Rattle.xf_ir.specs.declared.name.OpName.{OpName}
use Rattle.xf_ir.specs.declared.name.ValueName.{ValueName}
use Rattle.xf_ir.specs.declared.kind.Kind.{Kind}
use Rattle.xf_ir.specs.declared.kind.Attr.{Attr}
use Rattle.xf_ir.specs.declared.op.Module.{Module}
use Rattle.xf_ir.specs.Tree.{Ops, no_ops, op, Regions}
use Rattle.xf_ir.specs.Lists.{Each}
use Rattle.xf_ir.specs.Places.{results_of, Seen, done, sees, AllSeen, OpsScoped, RegionsScoped}
use Rattle.xf_ir.specs.Valid.{functions_of}
use Rattle.xf_ir.specs.Kinds.{is_terminator}
use Rattle.xf_ir.specs.Uses.{ops_operands}
use Rattle.xf_ir.specs.Replaced.{in_place_of, replaced_by}
use Rattle.xf_sem.specs.declared.value.Value.{Value}
use Rattle.xf_sem.specs.Meaning.{Env, item, extend, gives, Run, finish, charge, and_then, Calls, does, bodies_of}
use Rattle.xf_sem.specs.Keeps.{KeepsMeaning}
use Rattle.xf_sem.specs.Surroundings.{CallsLead, Context, visible, IsVisible, IsGiven, FunctionsWhere, changed_at}
use Rattle.xf_sem.specs.Surroundings.{MayChange}

-- no operation ends a block
abbrev pub EndNoBlock : Ops → Type 0
EndNoBlock no_ops = Unit {0}
EndNoBlock (op n k ds os ts rs rest) = (is_terminator k ≡ false) × EndNoBlock rest

-- what is visible behind operations
abbrev pub visible_after : Ops → List Seen → List Seen
visible_after no_ops ss = ss
visible_after (op n k ds os ts rs rest) ss = visible_after rest (done n (length ts) ∷ ss)

-- the environment behind operations that end no block
abbrev pub env_after : Calls → Ops → Env → Run Env
env_after c no_ops e = finish e
env_after c (op n k ds os ts rs rest) e =
    charge 1 (and_then (does c n k ts (bodies_of c n 0 rs e) (map e os))
    (λ vs. env_after c rest (extend (results_of n (length ts)) vs e)))

-- each result of an operation that is used by the rest of its block is replaced by a value that is visible there
abbrev pub AreVisible : List ValueName → OpName → ℕ → List Seen → Ops → Type 0
AreVisible by n count ss rest = Each (λ v. (i : ℕ) → results_of n count v ≡ Some i
    → sees ss (in_place_of (results_of n count) by v) ≡ true) (ops_operands rest)

-- and by one that holds it
abbrev pub AreHeld : List ValueName → OpName → ℕ → List Value → Env → Ops → Type 0
AreHeld by n count vs e rest = Each (λ v. (i : ℕ) → results_of n count v ≡ Some i
    → item vs i ≡ e (in_place_of (results_of n count) by v)) (ops_operands rest)

-- new operations that may stand in the place of one: wherever it is defined, in an environment that an execution gives
-- there, they are too, and the values in the place of its used results hold them
pub record Replaces (new : Ops) (by : List ValueName) (s : Context) (n : OpName) (k : Kind) (ds : List Attr)
    (os : List ValueName) (ts : List PayloadType) (rs : Regions) (rest : Ops) : Type 0 where
  pub goes : is_terminator k ≡ false
  pub plain : EndNoBlock new
  pub shown : Each (IsVisible (visible s)) s.earlier → AreVisible by n (length ts) (visible_after new (visible s)) rest
  pub same : (c c' : Calls) (e : Env) (vs : List Value)
      → OpsScoped (visible s) (op n k ds os ts rs rest) → OpsScoped (visible s) new
      → Each (IsVisible (visible s)) s.earlier → CallsLead c c' → IsGiven c s e
      → (does c n k ts (bodies_of c n 0 rs e) (map e os)).answer ≡ gives vs
      → (e' : Env) × (((env_after c' new e).answer ≡ gives e') × AreHeld by n (length ts) vs e' rest)

-- what may replace an operation whatever stands behind it: wherever the operation gives values, in an environment that
-- an execution gives there, the new operations go through, and behind them these values are what it gave
pub record GivesSame (new : Ops) (by : List ValueName) (s : Context) (n : OpName) (k : Kind) (os : List ValueName)
    (ts : List PayloadType) (rs : Regions) : Type 0 where
  pub goes : is_terminator k ≡ false
  pub plain : EndNoBlock new
  pub many : length by ≡ length ts
  pub shown : Each (IsVisible (visible s)) s.earlier → AllSeen (visible_after new (visible s)) by
  pub same : (c c' : Calls) (e : Env) (vs : List Value)
      → AllSeen (visible s) os → RegionsScoped (visible s) n 0 rs → OpsScoped (visible s) new
      → Each (IsVisible (visible s)) s.earlier → CallsLead c c' → IsGiven c s e
      → (does c n k ts (bodies_of c n 0 rs e) (map e os)).answer ≡ gives vs
      → (e' : Env) × (((env_after c' new e).answer ≡ gives e') × (vs ≡ map e' by))

-- what gives the same values may stand in the place of an operation
abbrev pub SameReplaces : Type 0
SameReplaces = (new : Ops) (by : List ValueName) (s : Context) (n : OpName) (k : Kind) (ds : List Attr)
    (os : List ValueName) (ts : List PayloadType) (rs : Regions) (rest : Ops)
    → GivesSame new by s n k os ts rs → Replaces new by s n k ds os ts rs rest

abbrev pub ReplacesHere : Ops → List ValueName → Context → Ops → Type 0
ReplacesHere new by s no_ops = Unit {0}
ReplacesHere new by s (op n k ds os ts rs rest) = Replaces new by s n k ds os ts rs rest

-- a replacement that gives the same values at its site keeps the meaning of the module
abbrev pub ReplacingKeeps : Type 0
ReplacingKeeps = (m : Module) (name : OpName) (new : Ops) (by : List ValueName) → MayChange m name (replaced_by new by)
    → FunctionsWhere name (ReplacesHere new by) (functions_of m)
    → KeepsMeaning m (changed_at name (replaced_by new by) m)
