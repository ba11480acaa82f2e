-- A replacement that gives the same values at its site leads there.
use Rattle.std.proofs.Common.{◌≡◌, ℕ, suc, List, [], ◌∷◌, Option, Some, None, Bool, true, false, refl, sym, ap, ◌∙◌}
use Rattle.std.proofs.lemmas.Bool.{or_right}
use Rattle.std.specs.Prelude.{length, map, ◌||◌, is_some}
use Rattle.xf_ir.specs.declared.name.OpName.{OpName}
use Rattle.xf_ir.specs.declared.name.ValueName.{ValueName}
use Rattle.xf_ir.specs.Tree.{Ops, no_ops, op, Regions, no_regions, region}
use Rattle.xf_ir.specs.Lists.{Each}
use Rattle.xf_ir.specs.Places.{results_of, Seen, done, sees, OpsScoped}
use Rattle.xf_ir.specs.Kinds.{is_terminator}
use Rattle.xf_ir.specs.Uses.{ops_operands}
use Rattle.xf_sem.specs.declared.value.Value.{Value}
use Rattle.xf_sem.specs.Meaning.{Env, item, item_or, extend, gives, Calls, does, ops_run, bodies_of}
use Rattle.xf_sem.specs.Surroundings.{Leads, Context, visible, outside, behind, within, OpsWhere, RegionsWhere}
use Rattle.xf_sem.specs.Surroundings.{FunctionsWhere, LeadsHere}
use Rattle.xf_ir.specs.Replaced.{ops_moved, append, item_of, in_place_of, replaced_by}
use Rattle.xf_sem.specs.Replacing.{EndNoBlock, visible_after, env_after, ReplacesHere, ReplacingKeeps}
use Rattle.xf_sem.proofs.Leads.{leads_same, leads_on, leads_none, leads_from_if, leads_from_then, leads_from_charge}
use Rattle.xf_sem.proofs.Leads.{went, leads_into_next, leads_into_if}
use Rattle.xf_sem.proofs.Copying.{ops_use, Agree, copy_kept, moved_copy}
use Rattle.xf_sem.proofs.Surroundings.{unmoved, surroundings_keep}

-- ---- operations before others

scoped_after : (new more : Ops) (ss : List Seen) → OpsScoped ss (append new more)
    → OpsScoped (visible_after new ss) more
scoped_after no_ops more ss h = h
scoped_after (op n k ds os ts rs rest) more ss h = scoped_after rest more (done n (length ts) ∷ ss) h.1.1.1

scoped_front : (new more : Ops) (ss : List Seen) → OpsScoped ss (append new more) → OpsScoped ss new
scoped_front no_ops more ss h = tt
scoped_front (op n k ds os ts rs rest) more ss h =
    (h.0, (h.1.0, (h.1.1.0, scoped_front rest more (done n (length ts) ∷ ss) h.1.1.1)))

pub visible_more_after : (new : Ops) (ss : List Seen) (v : ValueName) → sees ss v ≡ true
    → sees (visible_after new ss) v ≡ true
visible_more_after no_ops ss v h = h
visible_more_after (op n k ds os ts rs rest) ss v h =
    visible_more_after rest (done n (length ts) ∷ ss) v (or_right (is_some (results_of n (length ts) v)) (sees ss v) h)

-- operations that end no block, and then others
straight : (new more : Ops) (c : Calls) (holder : OpName) (e e' : Env) → EndNoBlock new
    → (env_after c new e).answer ≡ gives e' → Leads (ops_run c holder more e') (ops_run c holder (append new more) e)
straight no_ops more c holder e e' h p = let q : e ≡ e' = cc in rw q (leads_same _)
straight (op n k ds os ts rs rest) more c holder e e' h p =
    let a = does c n k ts (bodies_of c n 0 rs e) (map e os) in
    let w = went a.units a.answer (λ vs. env_after c rest (extend (results_of n (length ts)) vs e)) e' p in
    leads_into_if _ (is_terminator k) _ _ h.0 (leads_into_next _ a.units a.answer
    (λ vs. ops_run c holder (append rest more) (extend (results_of n (length ts)) vs e)) w.0 w.1.0
    (straight rest more c holder (extend (results_of n (length ts)) w.0 e) e' h.1 w.1.1))

-- visible values stay
after_unmoved : (new : Ops) (ss : List Seen) (c : Calls) (e e' : Env) → OpsScoped ss new
    → (env_after c new e).answer ≡ gives e' → (v : ValueName) → sees ss v ≡ true → e v ≡ e' v
after_unmoved no_ops ss c e e' h p v t = let q : e ≡ e' = cc in ap (λ (g : Env). g v) q
after_unmoved (op n k ds os ts rs rest) ss c e e' h p v t =
    let a = does c n k ts (bodies_of c n 0 rs e) (map e os) in
    let w = went a.units a.answer (λ vs. env_after c rest (extend (results_of n (length ts)) vs e)) e' p in
    sym (unmoved ss (results_of n (length ts)) w.0 e v h.1.0 t)
    ∙ after_unmoved rest (done n (length ts) ∷ ss) c (extend (results_of n (length ts)) w.0 e) e' h.1.1.1 w.1.1 v
    (or_right (is_some (results_of n (length ts) v)) (sees ss v) t)

-- ---- the values in the place of others

none_of : (o : Option ℕ) (b : Bool) → (is_some o || b) ≡ false → o ≡ None
none_of None b h = refl
none_of (Some i) b h = cc

shown_for : (o : Option ℕ) (b : Bool) (by : List ValueName) (ss : List Seen) (v : ValueName)
    → (is_some o || b) ≡ true → ((i : ℕ) → o ≡ Some i → sees ss (item_of o by v) ≡ true)
    → (b ≡ true → sees ss v ≡ true)
    → sees ss (item_of o by v) ≡ true
shown_for None b by ss v h f g = g h
shown_for (Some i) b by ss v h f g = f i refl

held_for : (o : Option ℕ) (b : Bool) (by : List ValueName) (ws : List Value) (x : Value) (e : Env) (v : ValueName)
    → (is_some o || b) ≡ true → ((i : ℕ) → o ≡ Some i → item ws i ≡ e (item_of o by v)) → (b ≡ true → x ≡ e v)
    → item_or o ws x ≡ e (item_of o by v)
held_for None b by ws x e v h f g = g h
held_for (Some i) b by ws x e v h f g = f i refl

each_both : (P Q : ValueName → Type 0) (vs : List ValueName) → Each P vs → Each Q vs → Each (λ v. P v × Q v) vs
each_both P Q [] h k = tt
each_both P Q (v ∷ vs) h k = ((h.0, k.0), each_both P Q vs h.1 k.1)

-- ---- the replacement

replace_leads : (new : Ops) (by : List ValueName) (s : Context) (ops : Ops) → ReplacesHere new by s ops
    → LeadsHere (replaced_by new by) s ops
replace_leads new by s no_ops r = record { by = λ c c' holder e h h' q l g. leads_none holder _ }
replace_leads new by s (op n k ds os ts rs rest) r = record {
  by = λ c c' holder e h h' q l g.
      let ss = visible s in
      let p = results_of n (length ts) in
      let to = in_place_of p by in
      let more = ops_moved to rest in
      leads_from_charge _ _ _ (leads_from_if (is_terminator k) _ _ _ r.goes
      (leads_from_then (does c n k ts (bodies_of c n 0 rs e) (map e os)) _ _
      (λ ws given.
      let w = r.same c c' e ws h (scoped_front new more ss h') q l g given in
      let Shown : ValueName → Type 0 = (λ v. (i : ℕ) → p v ≡ Some i → sees (visible_after new ss) (to v) ≡ true) in
      let Held : ValueName → Type 0 = (λ v. (i : ℕ) → p v ≡ Some i → item ws i ≡ w.0 (to v)) in
      let Used : ValueName → Type 0 = (λ v. (sees (done n (length ts) ∷ ss) v ≡ true) × (Shown v × Held v)) in
      let uses = ops_use Used (λ v. Shown v × Held v) rest (done n (length ts)
      ∷ ss) (λ v t u. (t, u)) h.1.1.1 (each_both Shown Held (ops_operands rest) (r.shown q) w.1.1) in
      let agree : Agree Used (visible_after new ss) to (extend p ws e) w.0 = record {
        shown = λ v u. shown_for (p v) (sees ss v) by (visible_after new ss) v u.0 u.1.0 (visible_more_after new ss v);
        same = λ v u. held_for (p v) (sees ss v) by ws (e v) w.0 v u.0 u.1.1
            (after_unmoved new ss c' e w.0 (scoped_front new more ss h') w.1.0 v);
      } in
      leads_on _ _ _
      (copy_kept rest more Used (visible_after new ss) to c c' holder holder (extend p ws e) w.0 uses
      (scoped_after new more ss h')
      (moved_copy rest (done n (length ts)
      ∷ ss) to h.1.1.1 (λ v t. ap (λ o. item_of o by v) (none_of (p v) (sees ss v) t))) l agree)
      (straight new more c' holder e w.0 r.plain w.1.0))));
}

-- ---- what holds at a site, changed

mutual
  ops_where : (name : OpName) (P Q : Context → Ops → Type 0) (ops : Ops) (s : Context)
      → ((s : Context) (ops : Ops) → P s ops → Q s ops) → OpsWhere name P s ops → OpsWhere name Q s ops
  ops_where name P Q no_ops s f h = tt
  ops_where name P Q (op n k ds os ts rs rest) s f h = (
    (λ t. f s (op n k ds os ts rs rest) (h.0 t)),
    (
      regions_where name P Q rs s n 0 f h.1.0,
      ops_where name P Q rest (behind s
          (record { name = n; kind = k; attrs = ds; operands = os; results = ts; regions = rs })) f h.1.1,
    ),
  )

  regions_where : (name : OpName) (P Q : Context → Ops → Type 0) (rs : Regions) (s : Context) (n : OpName) (i : ℕ)
      → ((s : Context) (ops : Ops) → P s ops → Q s ops) → RegionsWhere name P s n i rs → RegionsWhere name Q s n i rs
  regions_where name P Q no_regions s n i f h = tt
  regions_where name P Q (region args ops rest) s n i f h =
      (ops_where name P Q ops (within s n i args) f h.0, regions_where name P Q rest s n (suc i) f h.1)

pub functions_where : (name : OpName) (P Q : Context → Ops → Type 0) (fs : Ops)
    → ((s : Context) (ops : Ops) → P s ops → Q s ops) → FunctionsWhere name P fs → FunctionsWhere name Q fs
functions_where name P Q no_ops f h = tt
functions_where name P Q (op n k ds os ts rs rest) f h =
    (regions_where name P Q rs outside n 0 f h.0, functions_where name P Q rest f h.1)

pub replacing_keeps : ReplacingKeeps
replacing_keeps m name new by may w =
    surroundings_keep m name (replaced_by new by) may (functions_where name _ _ _ (replace_leads new by) w)
