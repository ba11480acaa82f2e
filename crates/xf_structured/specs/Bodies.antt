-- The body of a structured operation (MLIR: the linalg dialect): what it gives for each element of the out.
use Rattle.std.specs.Prelude.{◌≡◌, ℕ, List, [], ◌∷◌, length, map, Some, true, false}
use Rattle.xf_type.specs.declared.payload_type.Width.{Width}
use Rattle.xf_type.specs.declared.payload_type.Elem.{Elem}
use Rattle.xf_type.specs.declared.kind.Combiner.{Combiner}
use Rattle.xf_type.specs.Integers.{FitsWidth, combined}
use Rattle.xf_ir.specs.declared.name.OpName.{OpName}
use Rattle.xf_ir.specs.declared.name.ValueName.{ValueName}
use Rattle.xf_ir.specs.declared.name.ValueName.TheVariants.{Result, Free}
use Rattle.xf_ir.specs.declared.kind.Kind.{Kind}
use Rattle.xf_ir.specs.declared.kind.Kind.TheVariants as kind
use Rattle.xf_ir.specs.Kinds.{is_arith}
use Rattle.xf_ir.specs.Tree.{Ops, no_ops, op, Regions, no_regions, Tree}
use Rattle.xf_ir.specs.Walk.{ops_find}
use Rattle.xf_ir.specs.Uses.{same_value}
use Rattle.xf_ir.specs.Places.{results_of, Seen, done, sees, OpsScoped}
use Rattle.xf_ir.specs.RuleLinalg.{is_reduction}
use Rattle.xf_sem.specs.declared.value.Value.{Value}
use Rattle.xf_sem.specs.declared.value.Value.TheVariants.{Scalar, Tensor}
use Rattle.xf_sem.specs.Values.{IsValue}
use Rattle.xf_sem.specs.Meaning.{Env, item, gives, no_body, Calls, does, ops_run}

-- one width and shape, whatever the elements
abbrev pub Like : Value → Value → Type 0
Like (Scalar w a) (Scalar w' a') = w ≡ w'
Like (Scalar w a) (Tensor w' s' es') = ⊥
Like (Tensor w s es) (Scalar w' a') = ⊥
Like (Tensor w s es) (Tensor w' s' es') = (w ≡ w') × (s ≡ s')

-- ---- the body of a structured operation: arith operations, and a yield

abbrev pub LinalgEnd : Kind → Type 0
LinalgEnd k = k ≡ kind.LinalgYield

abbrev pub StraightFrom : Kind → Regions → Ops → Type 0 → Type 0
StraightFrom k rs no_ops later = LinalgEnd k × (rs ≡ no_regions)
StraightFrom k rs (op n' k' ds' os' ts' rs' rest') later = (is_arith k ≡ true) × ((rs ≡ no_regions) × later)

abbrev pub Straight : Ops → Type 0
Straight no_ops = ⊥
Straight (op n k ds os ts rs rest) = StraightFrom k rs rest (Straight rest)

-- the operands of the last operation, and what is visible there
abbrev pub last_operands : Ops → List ValueName
last_operands no_ops = []
last_operands (op n k ds os ts rs no_ops) = os
last_operands (op n k ds os ts rs (op n' k' ds' os' ts' rs' rest')) = last_operands (op n' k' ds' os' ts' rs' rest')

abbrev pub seen_at_end : Ops → List Seen → List Seen
seen_at_end no_ops ss = ss
seen_at_end (op n k ds os ts rs no_ops) ss = ss
seen_at_end (op n k ds os ts rs (op n' k' ds' os' ts' rs' rest')) ss =
    seen_at_end (op n' k' ds' os' ts' rs' rest') (done n (length ts) ∷ ss)

-- ---- environments

abbrev pub only : List ValueName → ValueName
only [] = Free 0
only (v ∷ vs) = v

-- the results of an operation of the body are known by its name
abbrev pub ResultsKnown : List Seen → Ops → Type 0
ResultsKnown ss ops =
    (o : OpName) (t : Tree) (num : ℕ) → ops_find o ops ≡ Some t → sees (seen_at_end ops ss) (Result o num) ≡ true
    → results_of t.name (length t.results) (Result o num) ≡ Some num

-- two environments that differ in the element of the out alone
pub record DifferInOut (ss : List Seen) (out : ValueName) (w : Width) (a a' : Elem) (e e' : Env) : Type 0 where
  pub like : (v : ValueName) → sees ss v ≡ true → Like (e v) (e' v)
  pub value : (v : ValueName) → sees ss v ≡ true → IsValue (e' v)
  pub same : (v : ValueName) → sees ss v ≡ true → same_value out v ≡ false → e v ≡ e' v
  pub old : e out ≡ Scalar w a
  pub new : e' out ≡ Scalar w a'

-- an operation of a body has given its results
pub record HasRun (c : Calls) (e : Env) (t : Tree) : Type 0 where
  pub values : List Value
  pub gave : (does c t.name t.kind t.results (no_body t.name) (map e t.operands)).answer ≡ gives values
  pub held : (v : ValueName) (i : ℕ) → results_of t.name (length t.results) v ≡ Some i → e v ≡ item values i

-- ---- laws

-- what the rule says of a body
pub record MayReduce (ss : List Seen) (out : ValueName) (ops : Ops) : Type 0 where
  pub straight : Straight ops
  pub scoped : OpsScoped ss ops
  pub seen : sees ss out ≡ true
  pub reduces : is_reduction out ops ≡ true
  pub known : ResultsKnown ss ops
  pub visible : sees (seen_at_end ops ss) (only (last_operands ops)) ≡ true

-- what the body of a reduction gives: it joins the element of the out, by an operation of reductions, with an element
-- that is the same whatever that of the out
pub record Reduces (by : Combiner) (c : Calls) (holder : OpName) (ops : Ops) (ss : List Seen) (out : ValueName)
    (w : Width) (a : Elem) (e : Env) (xs : List Value) : Type 0 where
  pub brings : Elem
  pub fits : FitsWidth w brings
  pub gave : xs ≡ Scalar w (combined by w a brings) ∷ []
  pub always : (a' : Elem) (e' : Env) → DifferInOut ss out w a a' e e' → (ops_run c holder ops e').answer
      ≡ gives (Scalar w (combined by w a' brings) ∷ [])

-- the law of reductions: a body joins by one operation, and from one run of it is known what it gives for each element
-- of the out
abbrev pub BodyReduces : Type 0
BodyReduces =
    (ops : Ops) (ss : List Seen) (out : ValueName) → MayReduce ss out ops
    → (by : Combiner)
    × ((c : Calls) (holder : OpName) (w : Width) (a : Elem) (e : Env) (xs : List Value) → DifferInOut ss out w a a e e
    → (ops_run c holder ops e).answer ≡ gives xs → Reduces by c holder ops ss out w a e xs)

-- a body that gives an element for one element of the out gives one of the same width for each
abbrev pub BodyIsTotal : Type 0
BodyIsTotal =
    (c : Calls) (holder : OpName) (ops : Ops) (ss : List Seen) (out : ValueName) (w u : Width) (a a' x : Elem)
    (e e' : Env) (v : ValueName)
    → Straight ops → OpsScoped ss ops → last_operands ops ≡ v ∷ [] → sees (seen_at_end ops ss) v ≡ true
    → DifferInOut ss out w a a' e e' → (ops_run c holder ops e).answer ≡ gives (Scalar u x ∷ [])
    → (x' : Elem) × (((ops_run c holder ops e').answer ≡ gives (Scalar u x' ∷ [])) × FitsWidth u x')
