-- What a module means: what its functions return, and in how many units (MLIR language reference: operations, regions,
-- values).
use Rattle.std.specs.Prelude.{ℕ, zero, suc, ◌+◌, List, [], ◌∷◌, length, map, Option, Some, None, if◌then◌else◌}
use Rattle.std.specs.Prelude.{slice_get, unwrap_or}
use Rattle.xf_type.specs.declared.payload_type.PayloadType.{PayloadType}
use Rattle.xf_type.specs.declared.payload_type.Width.TheVariants.{I1}
use Rattle.xf_type.specs.declared.payload_type.Elem.TheVariants.{Num, NoNumber}
use Rattle.xf_type.specs.Integers.{binary, compared, converted}
use Rattle.xf_ir.specs.declared.name.OpName.{OpName}
use Rattle.xf_ir.specs.declared.name.ValueName.{ValueName}
use Rattle.xf_ir.specs.declared.kind.Kind.{Kind}
use Rattle.xf_ir.specs.declared.kind.Kind.TheVariants as kind
use Rattle.xf_ir.specs.declared.op.Module.{Module}
use Rattle.xf_ir.specs.Tree.{Ops, no_ops, op, Regions, no_regions, region}
use Rattle.xf_ir.specs.Lists.{same_bytes}
use Rattle.xf_ir.specs.Places.{Numbering, results_of, args_of}
use Rattle.xf_ir.specs.Valid.{functions_of}
use Rattle.xf_ir.specs.Kinds.{is_terminator}
use Rattle.xf_sem.specs.declared.value.Value.{Value}
use Rattle.xf_sem.specs.declared.value.Value.TheVariants.{Scalar, Tensor}
use Rattle.xf_sem.specs.Values.{fit_types}
use Rattle.xf_sem.specs.Actions.{Action, results, is_undefined, enters, calls, answered, on_one, on_two, on_choice}
use Rattle.xf_sem.specs.Control.{on_for, on_if}
use Rattle.xf_sem.specs.Tensors.{dense_given, empty_given, dim_given, extracted, inserted, slice_given, slice_put}
use Rattle.xf_sem.specs.Tensors.{cast_given}
use Rattle.xf_sem.specs.Structured.{named_given, on_generic, points_of}

-- ---- environments

-- what each value holds
abbrev pub Env : Type 0
Env = ValueName → Value

-- what a value holds that is not defined
abbrev pub no_value : Value
no_value = Scalar I1 NoNumber

abbrev pub nowhere : Env
nowhere v = no_value

abbrev pub item : List Value → ℕ → Value
item vs i = unwrap_or (slice_get vs i) no_value

abbrev pub item_or : Option ℕ → List Value → Value → Value
item_or None vs old = old
item_or (Some i) vs old = item vs i

-- where the values that a place defines are these
abbrev pub extend : Numbering → List Value → Env → Env
extend p vs env v = item_or (p v) vs (env v)

-- ---- runs

-- how a run ends: it gives what it is to give, or an operation is undefined
pub data Answer (A : Type 0) : Type 0 where
  gives : A → Answer A
  fails : OpName → Answer A

-- a run, with the units that it takes up to its end
pub record Run (A : Type 0) : Type 0 where
  pub units : ℕ
  pub answer : Answer A

abbrev pub finish : {A : Type 0} → A → Run A
finish x = record { units = 0; answer = gives x }

abbrev pub undefined : {A : Type 0} → OpName → Run A
undefined n = record { units = 0; answer = fails n }

abbrev pub charge : {A : Type 0} → ℕ → Run A → Run A
charge u r = record { units = u + r.units; answer = r.answer }

abbrev pub next : {A B : Type 0} → ℕ → Answer A → (A → Run B) → Run B
next u (gives x) f = charge u (f x)
next u (fails n) f = record { units = u; answer = fails n }

abbrev pub and_then : {A B : Type 0} → Run A → (A → Run B) → Run B
and_then r f = next r.units r.answer f

-- what a block gives for its arguments
abbrev pub Body : Type 0
Body = List Value → Run (List Value)

-- the blocks of an operation: how many, and each by the number of its region
pub record Bodies : Type 0 where
  pub count : ℕ
  pub block : ℕ → Body

abbrev pub no_body : OpName → Bodies
no_body n = record { count = 0; block = λ i vs. undefined n }

abbrev pub first_or : Body → (ℕ → Body) → ℕ → Body
first_or b bs zero vs = b vs
first_or b bs (suc i) vs = bs i vs

abbrev pub first_body : Body → Bodies → Bodies
first_body b bs = record { count = suc bs.count; block = first_or b bs.block }

-- what the function of a symbol returns, called from an operation
abbrev pub Calls : Type 0
Calls = OpName → List ℕ → Body

-- ---- operations

-- the table of the kinds, from the number of an operation's regions, the types of its results and the values of its
-- operands; a terminator gives its operands and never comes here. What an operation does in a body of linalg rests on
-- the elements that are read at a point, not on the point. An operation that gives a coordinate will need the point
-- itself: the action of its generic will hand it to the block beside the arguments, and the block's environment will
-- keep it, where it is no value and no operand names it.
abbrev pub acts : Kind → ℕ → List PayloadType → List Value → Action
acts (kind.Constant width bits) regions ts vs = results (Scalar width (Num bits) ∷ [])
acts (kind.Dense shape numbers) regions ts vs = answered (dense_given shape numbers)
acts (kind.Binary which width) regions ts vs = on_two width (λ a b. Scalar width (binary which width a b)) vs
acts (kind.Compare which width) regions ts vs = on_two width (λ a b. Scalar I1 (compared which width a b)) vs
acts (kind.Select width) regions ts vs = on_choice width vs
acts (kind.Convert which source target) regions ts vs =
    on_one source (λ a. Scalar target (converted which source target a)) vs
acts (kind.Call callee) regions ts vs = calls callee vs results
acts (kind.For width) regions ts vs = on_for width vs
acts kind.If regions ts vs = on_if regions vs
acts kind.Empty regions ts vs = answered (empty_given ts vs)
acts kind.Dim regions ts vs = answered (dim_given vs)
acts kind.Extract regions ts vs = answered (extracted vs)
acts kind.Insert regions ts vs = answered (inserted vs)
acts (kind.ExtractSlice offsets lengths) regions ts vs = answered (slice_given offsets lengths vs)
acts (kind.InsertSlice offsets lengths) regions ts vs = answered (slice_put offsets lengths vs)
acts kind.Cast regions ts vs = answered (cast_given ts vs)
acts (kind.Named which) regions ts vs = answered (named_given which vs)
acts (kind.Generic maps iterators) regions ts vs = on_generic maps iterators vs
acts _ regions ts vs = is_undefined

abbrev pub performed : Calls → OpName → Bodies → Action → Run (List Value)
performed c n bodies (results vs) = finish vs
performed c n bodies is_undefined = undefined n
performed c n bodies (enters i vs more) = and_then (bodies.block i vs) (λ ws. performed c n bodies (more ws))
performed c n bodies (calls f vs more) = and_then (c n f vs) (λ ws. performed c n bodies (more ws))

-- the run goes on only with values that fit these types; with others the operation is undefined
abbrev pub where_fit : {A : Type 0} → OpName → List PayloadType → List Value → Run A → Run A
where_fit n ts vs r = if fit_types vs ts then r else undefined n

abbrev pub elements : List Value → ℕ
elements [] = 0
elements (Scalar width elem ∷ vs) = elements vs
elements (Tensor width shape elems ∷ vs) = length elems + elements vs

-- an operation's results, with a unit for each point of a structured operation and for each element of a tensor among
-- the results, when it ends. It is undefined where they do not fit its types; in a valid module they always do.
abbrev pub does : Calls → OpName → Kind → List PayloadType → Bodies → List Value → Run (List Value)
does c n k ts bodies vs =
    and_then (performed c n bodies (acts k bodies.count ts vs))
    (λ ws. where_fit n ts ws (charge (points_of k vs + elements ws) (finish ws)))

-- an operation, for a unit, and then the rest of its block
abbrev pub step : Calls → OpName → Kind → List PayloadType → Bodies → List Value → Body → Run (List Value)
step c n k ts bodies vs go = charge 1 (if is_terminator k then finish vs else and_then (does c n k ts bodies vs) go)

-- ---- blocks

abbrev mutual
  -- what the block of `holder` gives, from here on
  pub ops_run : Calls → OpName → Ops → Env → Run (List Value)
  ops_run c holder no_ops env = undefined holder
  ops_run c holder (op n k ds os ts rs rest) env =
      step c n k ts (bodies_of c n 0 rs env) (map env os)
      (λ vs. ops_run c holder rest (extend (results_of n (length ts)) vs env))

  -- a block takes arguments that fit its types; in a valid module all that it is given do
  pub bodies_of : Calls → OpName → ℕ → Regions → Env → Bodies
  bodies_of c n i no_regions env = no_body n
  bodies_of c n i (region args ops rest) env =
      first_body (λ vs. where_fit n args vs (ops_run c n ops (extend (args_of n i (length args)) vs env)))
      (bodies_of c n (suc i) rest env)

-- ---- functions

-- whether this is the function
abbrev pub called : Kind → List ℕ → Body → Body → Body
called (kind.Func symbol private types) f here later vs = if same_bytes symbol f then here vs else later vs
called _ f here later vs = later vs

-- what the functions of a list return
abbrev pub returned : Calls → Ops → Calls
returned c no_ops caller f vs = undefined caller
returned c (op n k ds os ts rs rest) caller f vs =
    called k f ((bodies_of c n 0 rs nowhere).block 0) (returned c rest caller f) vs

-- with calls nested so deep
abbrev pub calls_to : ℕ → Ops → Calls
calls_to zero functions caller f vs = undefined caller
calls_to (suc depth) functions caller f vs = returned (calls_to depth functions) functions caller f vs

-- no chain of calls in a valid module passes so many functions
abbrev pub call_depth : ℕ
call_depth = 32

-- what a function of the module returns for these arguments
abbrev pub meaning : Module → List ℕ → Body
meaning m f vs = calls_to call_depth (functions_of m) m.root.name f vs
