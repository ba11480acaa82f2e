-- An operation whose results are unused may be erased.
use Rattle.std.proofs.Common.{◌≡◌, ℕ, suc, Bool, true, false, eqb, refl}
use Rattle.std.specs.Prelude.{length, map}
use Rattle.std.proofs.lemmas.Bool.{or_parts}
use Rattle.xf_ir.specs.declared.name.OpName.{OpName}
use Rattle.xf_ir.specs.declared.kind.Kind.{Kind}
use Rattle.xf_ir.specs.Tree.{Ops, no_ops, op, Regions, no_regions, region, Tree}
use Rattle.xf_ir.specs.Places.{results_of}
use Rattle.xf_ir.specs.Valid.{IsFunction, FunctionsAlone, BlocksAlone, functions_of, block_of}
use Rattle.xf_ir.specs.Kinds.{is_container, is_module, is_function, is_terminator}
use Rattle.xf_ir.specs.Edits.{tail}
use Rattle.xf_ir.proofs.Found as found
use Rattle.xf_ir_laws.proofs.Scopes.{scoped}
use Rattle.xf_ir_laws.proofs.ErasingLaws.{valid_kept}
use Rattle.xf_sem.specs.Meaning.{extend, does, bodies_of}
use Rattle.xf_sem.specs.Surroundings.{Context, visible, outside, behind, within, OpsWhere, RegionsWhere}
use Rattle.xf_sem.specs.Surroundings.{FunctionsWhere}
use Rattle.xf_sem.specs.Surroundings.{NoFunction, LeadsHere}
use Rattle.xf_sem.specs.Laws.{ErasingKeeps}
use Rattle.xf_sem.proofs.Leads.{leads_none, leads_from_if, leads_from_then, leads_from_charge}
use Rattle.xf_sem.proofs.Copying.{frame}
use Rattle.xf_sem.proofs.Surroundings.{unmoved, surroundings_keep}

-- ---- erasing leads

-- the first operation ends no block
abbrev pub Goes : Context → Ops → Type 0
Goes s no_ops = Unit {0}
Goes s (op n k ds os ts rs rest) = is_terminator k ≡ false

erase_leads : (s : Context) (ops : Ops) → Goes s ops → LeadsHere tail s ops
erase_leads s no_ops g = record { by = λ c c' holder e h h' q l given. leads_none holder _ }
erase_leads s (op n k ds os ts rs rest) g = record {
  by = λ c c' holder e h h' q l given.
      leads_from_charge _ _ _ (leads_from_if (is_terminator k) _ _ _ g
      (leads_from_then (does c n k ts (bodies_of c n 0 rs e) (map e os)) _ _
      (λ ws p. frame rest (visible s) c c' holder (extend (results_of n (length ts)) ws e) e h' l
      (λ v t. unmoved (visible s) (results_of n (length ts)) ws e v h.1.0 t))));
}

-- ---- what is erased is no function and ends no block

abbrev pub Inner : Tree → Type 0
Inner t = (is_container t.kind ≡ false) × (is_terminator t.kind ≡ false)

mutual
  leads_where : (name : OpName) (ops : Ops) (s : Context) → found.OpsWhere name Inner ops
      → OpsWhere name (LeadsHere tail) s ops
  leads_where name no_ops s h = tt
  leads_where name (op n k ds os ts rs rest) s h = (
    (λ e. erase_leads s (op n k ds os ts rs rest) (h.0 e).1),
    (
      leads_where_regions name rs s n 0 h.1.0,
      leads_where name rest
          (behind s (record { name = n; kind = k; attrs = ds; operands = os; results = ts; regions = rs })) h.1.1,
    ),
  )

  leads_where_regions : (name : OpName) (rs : Regions) (s : Context) (n : OpName) (i : ℕ)
      → found.RegionsWhere name Inner rs → RegionsWhere name (LeadsHere tail) s n i rs
  leads_where_regions name no_regions s n i h = tt
  leads_where_regions name (region args ops rest) s n i h =
      (leads_where name ops (within s n i args) h.0, leads_where_regions name rest s n (suc i) h.1)

functions_lead : (name : OpName) (fs : Ops) → found.OpsWhere name Inner fs → FunctionsWhere name (LeadsHere tail) fs
functions_lead name no_ops h = tt
functions_lead name (op n k ds os ts rs rest) h =
    (leads_where_regions name rs outside n 0 h.1.0, functions_lead name rest h.1.1)

other_name : (b : Bool) (k : Kind) → IsFunction k → (b ≡ true → is_container k ≡ false) → b ≡ false
other_name true k f h =
    let no = (or_parts (is_module k) (is_function k) (h refl)).1 in let yes : is_function k ≡ true = f in cc
other_name false k f h = refl

pub no_function : (name : OpName) (fs : Ops) → FunctionsAlone fs → found.OpsWhere name Inner fs → NoFunction name fs
no_function name no_ops a h = tt
no_function name (op n k ds os ts rs rest) a h =
    (other_name (eqb n.0 name.0) k a.0 (λ e. (h.0 e).0), no_function name rest a.1.1 h.1.1)

pub functions_alone : (rs : Regions) → BlocksAlone rs → FunctionsAlone (block_of rs)
functions_alone no_regions a = tt
functions_alone (region args ops rest) a = a.0

pub inner_block : (name : OpName) (rs : Regions) → found.RegionsWhere name Inner rs
    → found.OpsWhere name Inner (block_of rs)
inner_block name no_regions h = tt
inner_block name (region args ops rest) h = h.0

pub erasing_keeps : ErasingKeeps
erasing_keeps m target name valid may =
    let once = valid.names.once in
    let inner = inner_block name m.root.regions (found.where_found_regions name Inner may.tree m.root.regions once.1
    may.inside (may.suits.inner, may.suits.goes)) in
    surroundings_keep m name tail
    (record {
      inner = no_function name (functions_of m) (functions_alone m.root.regions valid.functions.alone) inner;
      before = scoped m valid;
      after = scoped _ (valid_kept m target name valid may);
    })
    (functions_lead name (functions_of m) inner)
