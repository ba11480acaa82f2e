-- A copy of operations, under other names and over other values, does the same.
use Rattle.std.proofs.Common.{◌≡◌, ◌⊎◌, ℕ, zero, suc, List, [], ◌∷◌, ◌++◌, Option, Some, None, Bool, true, false, refl}
use Rattle.std.proofs.Common.{ap, ◌∙◌, subst, inl, inr}
use Rattle.std.proofs.lemmas.Bool.{false_from_ne_true, or_right, or_parts}
use Rattle.std.proofs.lemmas.List.{map-id}
use Rattle.std.specs.Prelude.{length, map, ◌||◌, is_some}
use Rattle.xf_ir.specs.declared.name.OpName.{OpName}
use Rattle.xf_ir.specs.declared.name.ValueName.{ValueName}
use Rattle.xf_ir.specs.declared.kind.Kind.{Kind}
use Rattle.xf_ir.specs.declared.kind.Kind.TheVariants as kind
use Rattle.xf_ir.specs.Tree.{Ops, no_ops, op, Regions, no_regions, region}
use Rattle.xf_ir.specs.Lists.{Each}
use Rattle.xf_ir.specs.Places.{Numbering, results_of, args_of, Seen, done, inside, numbering_of, sees, AllSeen}
use Rattle.xf_ir.specs.Places.{IsFresh}
use Rattle.xf_ir.specs.Places.{OpsScoped, RegionsScoped, FunctionsScoped}
use Rattle.xf_ir.specs.Valid.{functions_of}
use Rattle.xf_ir.specs.Uses.{ops_operands, regions_operands}
use Rattle.xf_sem.specs.declared.value.Value.{Value}
use Rattle.xf_sem.specs.Meaning.{Env, item_or, extend, nowhere, Calls, ops_run, bodies_of, returned, calls_to}
use Rattle.xf_sem.specs.Meaning.{call_depth}
use Rattle.xf_ir.specs.Calls.{first_args}
use Rattle.xf_sem.specs.Keeps.{Declared, declared_before, declared_in}
use Rattle.xf_sem.specs.Surroundings.{Leads, CallsLead}
use Rattle.xf_ir.specs.Replaced.{ops_moved, regions_moved}
use Rattle.xf_sem.specs.Copying.{Follows, OpsCopy, RegionsCopy, FunctionsCopy, CopyingKeeps}
use Rattle.xf_ir.proofs.Lists.{each_left, each_right}
use Rattle.xf_sem.proofs.Leads.{leads_none, leads_fitting, BodiesLead, none_lead, first_lead, step_leads}
use Rattle.xf_sem.proofs.Leads.{called_lead}

-- ---- tests of what is visible

pub some_or : (o : Option ℕ) (b : Bool) (i : ℕ) → o ≡ Some i → (is_some o || b) ≡ true
some_or None b i h = cc
some_or (Some j) b i h = refl

-- what is visible is new or was visible before
pub new_or_old : (o : Option ℕ) (b : Bool) → (is_some o || b) ≡ true → ((i : ℕ) × (o ≡ Some i)) ⊎ (b ≡ true)
new_or_old None b h = inr h
new_or_old (Some i) b h = inl (i, refl)

-- what is defined here was not visible before
pub not_seen : (ss : List Seen) (p : Numbering) (v : ValueName) (i : ℕ) → IsFresh ss p → p v ≡ Some i
    → sees ss v ≡ false
not_seen ss p v i f e = false_from_ne_true (sees ss v) (λ t. let n = f.apart v t in cc)

-- ---- values that operations use from outside

abbrev pub Grown : (ValueName → Type 0) → Numbering → ValueName → Type 0
Grown P p v = ((i : ℕ) × (p v ≡ Some i)) ⊎ P v

-- operands are defined inside, or meet P
abbrev mutual
  pub OpsUse : (ValueName → Type 0) → Ops → Type 0
  OpsUse P no_ops = Unit {0}
  OpsUse P (op n k ds os ts rs rest) =
      Each P os × (RegionsUse P n 0 rs × OpsUse (Grown P (results_of n (length ts))) rest)

  pub RegionsUse : (ValueName → Type 0) → OpName → ℕ → Regions → Type 0
  RegionsUse P n i no_regions = Unit {0}
  RegionsUse P n i (region args ops rest) =
      OpsUse (Grown P (args_of n i (length args))) ops × RegionsUse P n (suc i) rest

each_used : (P Q : ValueName → Type 0) (ss : List Seen) (vs : List ValueName)
    → ((v : ValueName) → sees ss v ≡ true → Q v → P v) → AllSeen ss vs → Each Q vs → Each P vs
each_used P Q ss [] f a q = tt
each_used P Q ss (v ∷ vs) f a q = (f v a.0 q.0, each_used P Q ss vs f a.1 q.1)

used_more : (P Q : ValueName → Type 0) (ss : List Seen) (d : Seen) → ((v : ValueName) → sees ss v ≡ true → Q v → P v)
    → (v : ValueName) → sees (d ∷ ss) v ≡ true → Q v → Grown P (numbering_of d) v
used_more P Q ss d f v h q =
    elim (new_or_old (numbering_of d v) (sees ss v) h) [ inl n ↦ inl n | inr o ↦ inr (f v o q) ]

-- what scoped operations use from outside is visible, and is among their operands
mutual
  pub ops_use : (P Q : ValueName → Type 0) (ops : Ops) (ss : List Seen)
      → ((v : ValueName) → sees ss v ≡ true → Q v → P v) → OpsScoped ss ops → Each Q (ops_operands ops) → OpsUse P ops
  ops_use P Q no_ops ss f h q = tt
  ops_use P Q (op n k ds os ts rs rest) ss f h q =
      let later = each_right Q os (regions_operands rs ++ ops_operands rest) q in (
        each_used P Q ss os f h.0 (each_left Q os (regions_operands rs ++ ops_operands rest) q),
        (
          regions_use P Q rs ss n 0 f h.1.1.0 (each_left Q (regions_operands rs) (ops_operands rest) later),
          ops_use (Grown P (results_of n (length ts))) Q rest (done n (length ts) ∷ ss) (used_more P Q ss
              (done n (length ts)) f) h.1.1.1 (each_right Q (regions_operands rs) (ops_operands rest) later),
        ),
      )

  pub regions_use : (P Q : ValueName → Type 0) (rs : Regions) (ss : List Seen) (n : OpName) (i : ℕ)
      → ((v : ValueName) → sees ss v ≡ true → Q v → P v) → RegionsScoped ss n i rs → Each Q (regions_operands rs)
      → RegionsUse P n i rs
  regions_use P Q no_regions ss n i f h q = tt
  regions_use P Q (region args ops rest) ss n i f h q = (
    ops_use (Grown P (args_of n i (length args))) Q ops (inside n i (length args) ∷ ss) (used_more P Q ss
        (inside n i (length args)) f) h.1.0 (each_left Q (ops_operands ops) (regions_operands rest) q),
    regions_use P Q rest ss n (suc i) f h.1.1 (each_right Q (ops_operands ops) (regions_operands rest) q),
  )

abbrev pub Any : ValueName → Type 0
Any v = Unit {0}

pub each_any : (vs : List ValueName) → Each Any vs
each_any [] = tt
each_any (v ∷ vs) = (tt, each_any vs)

abbrev pub Visible : List Seen → ValueName → Type 0
Visible ss v = sees ss v ≡ true

pub scoped_use : (ops : Ops) (ss : List Seen) → OpsScoped ss ops → OpsUse (Visible ss) ops
scoped_use ops ss h = ops_use (Visible ss) Any ops ss (λ v t q. t) h (each_any (ops_operands ops))

-- ---- copies

-- two environments hold the same values, through s, where P holds
pub record Agree (P : ValueName → Type 0) (ss : List Seen) (s : ValueName → ValueName) (e e' : Env) : Type 0 where
  pub shown : (v : ValueName) → P v → sees ss (s v) ≡ true
  pub same : (v : ValueName) → P v → e v ≡ e' (s v)

pub agree_extend : (P : ValueName → Type 0) (ss : List Seen)
    (s : ValueName → ValueName) (p : Numbering) (d : Seen) (e e' : Env) (vs : List Value)
    → Follows s p (numbering_of d) → IsFresh ss (numbering_of d) → Agree P ss s e e'
    → Agree (Grown P p) (d ∷ ss) s (extend p vs e) (extend (numbering_of d) vs e')
agree_extend P ss s p d e e' vs f g a = record {
  shown = λ v. elim [
    | inl n ↦ some_or (numbering_of d (s v)) (sees ss (s v)) n.0 (f v n.0 n.1)
    | inr o ↦ or_right (is_some (numbering_of d (s v))) (sees ss (s v)) (a.shown v o)
  ];
  same = λ v h. same_here (p v) (numbering_of d (s v)) (e v) (e' (s v)) (P v) vs (f v) (λ o. (
    a.same v o,
    g.apart (s v) (a.shown v o),
  )) h;
}
  where
    same_here : (o o' : Option ℕ) (x y : Value) (Q : Type 0) (ws : List Value) → ((i : ℕ) → o ≡ Some i → o' ≡ Some i)
        → (Q → (x ≡ y) × (o' ≡ None)) → ((i : ℕ) × (o ≡ Some i)) ⊎ Q → item_or o ws x ≡ item_or o' ws y
    same_here (Some i) o' x y Q ws f g h = rw (f i refl) refl
    same_here None o' x y Q ws f g (inl n) = cc (n.1)
    same_here None o' x y Q ws f g (inr q) = rw (g q).1 (g q).0

pub all_agree : (P : ValueName → Type 0) (ss : List Seen) (s : ValueName → ValueName) (e e' : Env)
    (vs : List ValueName)
    → Each P vs → Agree P ss s e e' → map e vs ≡ map e' (map s vs)
all_agree P ss s e e' [] h a = refl
all_agree P ss s e e' (v ∷ vs) h a = let x = a.same v h.0 in let y = all_agree P ss s e e' vs h.1 a in cc

mutual
  pub copy_kept : (ops ops' : Ops) (P : ValueName → Type 0) (ss : List Seen)
      (s : ValueName → ValueName) (c c' : Calls) (holder holder' : OpName) (e e' : Env)
      → OpsUse P ops → OpsScoped ss ops' → OpsCopy s ops ops' → CallsLead c c' → Agree P ss s e e'
      → Leads (ops_run c holder ops e) (ops_run c' holder' ops' e')
  copy_kept no_ops no_ops P ss s c c' holder holder' e e' h h' y l a = leads_none holder _
  copy_kept no_ops (op n' k' ds' os' ts' rs' rest') P ss s c c' holder holder' e e' h h' y l a = elim y [ ]
  copy_kept (op n k ds os ts rs rest) no_ops P ss s c c' holder holder' e e' h h' y l a = elim y [ ]
  copy_kept (op n k ds os ts rs rest) (op n' k' ds' os' ts' rs' rest') P ss s c c' holder holder' e e' h h' y l a =
      step_leads k k' ts ts' n n' c c' _ _ _ _ _ _ y.0.0 y.0.1 l
      (copy_kept_regions rs rs' P ss s n n' 0 c c' e e' h.1.0
      h'.1.1.0 y.1.1.1.0 l a) (all_agree P ss s e e' os h.0 a ∙ ap (map e') y.1.0)
      (λ ws p. copy_kept rest rest' (Grown P (results_of n (length ts))) (done n' (length ts')
      ∷ ss) s c c' holder holder' _ _ h.1.1 h'.1.1.1 y.1.1.1.1 l
      (agree_extend P ss s (results_of n (length ts)) (done n' (length ts')) e e' ws y.1.1.0 h'.1.0 a))

  pub copy_kept_regions : (rs rs' : Regions) (P : ValueName → Type 0) (ss : List Seen)
      (s : ValueName → ValueName) (n n' : OpName) (i : ℕ) (c c' : Calls) (e e' : Env)
      → RegionsUse P n i rs → RegionsScoped ss n' i rs' → RegionsCopy s n n' i rs rs' → CallsLead c c'
      → Agree P ss s e e' → BodiesLead (bodies_of c n i rs e) (bodies_of c' n' i rs' e')
  copy_kept_regions no_regions no_regions P ss s n n' i c c' e e' h h' y l a = none_lead n n'
  copy_kept_regions no_regions (region args' ops' rest') P ss s n n' i c c' e e' h h' y l a = elim y [ ]
  copy_kept_regions (region args ops rest) no_regions P ss s n n' i c c' e e' h h' y l a = elim y [ ]
  copy_kept_regions (region args ops rest) (region args' ops' rest') P ss s n n' i c c' e e' h h' y l a =
      first_lead _ _ _ _
      (λ vs. leads_fitting n n' args args' vs _ _ y.0 (λ q. copy_kept ops ops' (Grown P (args_of n i (length args)))
      (inside n' i (length args') ∷ ss) s c c' n n' _ _ h.0 h'.1.0 y.1.1.0 l
      (agree_extend P ss s (args_of n i (length args)) (inside n' i (length args')) e e' vs y.1.0 h'.0 a)))
      (copy_kept_regions rest rest' P ss s n n' (suc i) c c' e e' h.1 h'.1.1 y.1.1.1 l a)

-- ---- operations with other operands are a copy

mutual
  pub moved_copy : (ops : Ops) (ss : List Seen) (s : ValueName → ValueName) → OpsScoped ss ops
      → ((v : ValueName) → sees ss v ≡ false → s v ≡ v) → OpsCopy s ops (ops_moved s ops)
  moved_copy no_ops ss s h f = tt
  moved_copy (op n k ds os ts rs rest) ss s h f = (
    (refl, refl),
    (
      refl,
      (
        stays (results_of n (length ts)) h.1.0,
        (
          moved_copy_regions rs ss s n 0 h.1.1.0 f,
          moved_copy rest (done n (length ts)
              ∷ ss) s h.1.1.1 (λ v t. f v (or_parts (is_some (results_of n (length ts) v)) (sees ss v) t).1),
        ),
      ),
    ),
  )
    where
      stays : (p : Numbering) → IsFresh ss p → Follows s p p
      stays p g v i e = ap p (f v (not_seen ss p v i g e)) ∙ e

  pub moved_copy_regions : (rs : Regions) (ss : List Seen) (s : ValueName → ValueName) (n : OpName) (i : ℕ)
      → RegionsScoped ss n i rs → ((v : ValueName) → sees ss v ≡ false → s v ≡ v)
      → RegionsCopy s n n i rs (regions_moved s rs)
  moved_copy_regions no_regions ss s n i h f = tt
  moved_copy_regions (region args ops rest) ss s n i h f = (
    refl,
    (
      (λ v j e. ap (args_of n i (length args)) (f v (not_seen ss (args_of n i (length args)) v j h.0 e)) ∙ e),
      (
        moved_copy ops (inside n i (length args)
            ∷ ss) s h.1.0 (λ v t. f v (or_parts (is_some (args_of n i (length args) v)) (sees ss v) t).1),
        moved_copy_regions rest ss s n (suc i) h.1.1 f,
      ),
    ),
  )

mutual
  pub same_copy : (ops : Ops) → OpsCopy (λ v. v) ops ops
  same_copy no_ops = tt
  same_copy (op n k ds os ts rs rest) =
      ((refl, refl), (map-id os, ((λ v i e. e), (same_copy_regions rs n 0, same_copy rest))))

  pub same_copy_regions : (rs : Regions) (n : OpName) (i : ℕ) → RegionsCopy (λ v. v) n n i rs rs
  same_copy_regions no_regions n i = tt
  same_copy_regions (region args ops rest) n i =
      (refl, ((λ v j e. e), (same_copy ops, same_copy_regions rest n (suc i))))

-- only visible values count
pub frame : (ops : Ops) (ss : List Seen) (c c' : Calls) (holder : OpName) (e e' : Env)
    → OpsScoped ss ops → CallsLead c c' → ((v : ValueName) → sees ss v ≡ true → e v ≡ e' v)
    → Leads (ops_run c holder ops e) (ops_run c' holder ops e')
frame ops ss c c' holder e e' h l a =
    copy_kept ops ops (Visible ss) ss (λ v. v) c c' holder holder e e' (scoped_use ops ss h) h (same_copy ops) l
    (record { shown = λ v t. t; same = a })

-- ---- copies of functions

copied_lead : (fs fs' : Ops) (s : ValueName → ValueName) (c c' : Calls) → FunctionsScoped fs → FunctionsScoped fs'
    → FunctionsCopy s fs fs' → CallsLead c c' → CallsLead (returned c fs) (returned c' fs')
copied_lead no_ops no_ops s c c' h h' y l = λ at at' f vs. leads_none at _
copied_lead no_ops (op n' k' ds' os' ts' rs' rest') s c c' h h' y l = elim y [ ]
copied_lead (op n k ds os ts rs rest) no_ops s c c' h h' y l = elim y [ ]
copied_lead (op n k ds os ts rs rest) (op n' k' ds' os' ts' rs' rest') s c c' h h' y l = λ at at' f vs.
    let inside_body = (copy_kept_regions rs rs' (Visible []) [] s n n' 0 c c' nowhere nowhere
    (regions_use (Visible []) Any rs [] n 0 (λ v t q. t) h.0 (each_any (regions_operands rs))) h'.0 y.1.0 l
    (record { shown = λ v t. cc; same = λ v t. refl })).block 0 vs in
    rw (← y.0) (called_lead k f _ _ _ _ vs inside_body (copied_lead rest rest' s c c' h.1 h'.1 y.1.1 l at at' f vs))

same_functions : (fs : Ops) → FunctionsCopy (λ v. v) fs fs
same_functions no_ops = tt
same_functions (op n k ds os ts rs rest) = (refl, (same_copy_regions rs n 0, same_functions rest))

copied_calls : (d : ℕ) (fs fs' : Ops) (s : ValueName → ValueName) → FunctionsScoped fs → FunctionsScoped fs'
    → FunctionsCopy s fs fs' → CallsLead (calls_to d fs) (calls_to d fs')
copied_calls zero fs fs' s h h' y = λ at at' f vs. leads_none at _
copied_calls (suc d) fs fs' s h h' y = copied_lead fs fs' s _ _ h h' y (copied_calls d fs fs' s h h' y)

-- a function returns the same, whoever calls it
pub calls_alike : (d : ℕ) (fs : Ops) → FunctionsScoped fs → CallsLead (calls_to d fs) (calls_to d fs)
calls_alike d fs h = copied_calls d fs fs (λ v. v) h h (same_functions fs)

copied_arguments : (rs rs' : Regions) (s : ValueName → ValueName) (n n' : OpName) (i : ℕ) → RegionsCopy s n n' i rs rs'
    → first_args rs ≡ first_args rs'
copied_arguments no_regions no_regions s n n' i y = refl
copied_arguments no_regions (region args' ops' rest') s n n' i y = elim y [ ]
copied_arguments (region args ops rest) no_regions s n n' i y = elim y [ ]
copied_arguments (region args ops rest) (region args' ops' rest') s n n' i y = y.0

copied_before : (k k' : Kind) (rs rs' : Regions) (more more' : List Declared) → k ≡ k' → first_args rs ≡ first_args rs'
    → more ≡ more' → declared_before k rs more ≡ declared_before k' rs' more'
copied_before k k' rs rs' more more' p a q =
    subst (λ j. declared_before k rs more ≡ declared_before j rs' more') p (same_kind k)
  where
    same_kind : (j : Kind) → declared_before j rs more ≡ declared_before j rs' more'
    same_kind (kind.Func symbol private types) = cc
    same_kind _ = q

copied_declared : (fs fs' : Ops) (s : ValueName → ValueName) → FunctionsCopy s fs fs' → declared_in fs
    ≡ declared_in fs'
copied_declared no_ops no_ops s y = refl
copied_declared no_ops (op n' k' ds' os' ts' rs' rest') s y = elim y [ ]
copied_declared (op n k ds os ts rs rest) no_ops s y = elim y [ ]
copied_declared (op n k ds os ts rs rest) (op n' k' ds' os' ts' rs' rest') s y =
    copied_before k k' rs rs' (declared_in rest) (declared_in rest') y.0 (copied_arguments rs rs' s n n' 0 y.1.0)
    (copied_declared rest rest' s y.1.1)

pub copying_keeps : CopyingKeeps
copying_keeps m m' s h h' y = record {
  functions = copied_declared (functions_of m) (functions_of m') s y;
  returns = λ number f vs ws e t p. (copied_calls call_depth (functions_of m)
      (functions_of m') s h h' y m.root.name m'.root.name f.symbol vs).by ws p;
}
