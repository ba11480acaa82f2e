-- One turn of the run, and its end.
use Rattle.std.proofs.Common.{◌≡◌, ◌+◌, ◌<◌, ◌≤◌, List, [], ◌∷◌, ◌++◌, length, refl, ap, ◌∙◌, arith, append_assoc}
use Rattle.std.proofs.Common.{length-append}
use Rattle.xf_ir.specs.declared.name.OpName.{OpName}
use Rattle.xf_ir.specs.declared.edit.Edit.TheVariants.{Erase}
use Rattle.xf_ir.specs.declared.op.Module.{Module}
use Rattle.xf_ir.specs.Count.{tree_count}
use Rattle.xf_ir.specs.Edits.{edited}
use Rattle.xf_ir.specs.Choices.{unused, numbered, dead_code, MayErase, IsNormal, weight_at}
use Rattle.xf_ir_laws.proofs.ErasingLaws.{lowers_count, lowers_weight}
use Rattle.xf_sem.specs.Keeps.{KeepsMeaning}
use Rattle.xf_sem.proofs.Keeping.{keeping_composes, keeping_is_reflexive}
use Rattle.xf_sem.proofs.Erasing.{erasing_keeps}
use Rattle.xf_opt.specs.Form.{IsFirstForm}
use Rattle.xf_opt.specs.declared.journal.Entry.{Entry}
use Rattle.xf_opt.specs.declared.journal.Entry.TheVariants.{Choose, EndScope}
use Rattle.xf_opt.specs.Run.{ScopeRuns, Runs}
use Rattle.xf_opt.proofs.FormKept.{form_kept}

abbrev pub root : OpName
root = record { 0 = 0 }

-- what holds of the module and the journal between two choices
pub record Going (first now : Module) (so_far : List Entry) : Type 0 where
  pub form : IsFirstForm now
  pub few : length so_far + weight_at now root ≤ weight_at first root
  pub goes : (more : List Entry) (after : Module) (rest : List Entry) → ScopeRuns dead_code root now more after rest
      → ScopeRuns dead_code root first (so_far ++ more) after rest
  pub keeps : KeepsMeaning first now

-- before the first choice
pub begins : (first : Module) (so_far : List Entry) → IsFirstForm first → so_far ≡ [] → Going first first so_far
begins first so_far f e = record {
  form = f;
  few = rw e (omega arith);
  goes = λ more after rest runs. rw e runs;
  keeps = keeping_is_reflexive first;
}

-- a choice lowers the number of operations
pub smaller : (now after : Module) (name : OpName) → IsFirstForm now → MayErase now root name
    → after ≡ edited now (Erase name) → tree_count after.root < tree_count now.root
smaller now after name f e p = rw p (lowers_count now root name f.valid e)

-- a choice, and its entry
pub turn : (first now after : Module) (so_far entries : List Entry) (name : OpName) → Going first now so_far
    → MayErase now root name → after ≡ edited now (Erase name) → entries ≡ so_far ++ Choose (numbered unused) name ∷ []
    → Going first after entries
turn first now after so_far entries name g e p q =
    let f = g.form in
    record {
      form = rw p (form_kept now root name f e);
      few = let l : length entries ≡ length so_far + 1 = ap length q
          ∙ length-append so_far (Choose (numbered unused) name ∷ []) in
          let w : weight_at after root + 1 ≤ weight_at now root = rw p (lowers_weight now root name f.valid e) in
          let h = g.few in omega arith;
      goes = λ more end rest runs. rw (
        q,
        append_assoc,
      ) (g.goes (Choose (numbered unused) name ∷ more) end rest (unused, refl, e, rw p at runs));
      keeps =
          rw p (keeping_composes first now (edited now (Erase name)) g.keeps (erasing_keeps now root name f.valid e));
    }

-- the end of the scope
pub ended : (first now : Module) (so_far entries : List Entry) → first.root.name ≡ root → Going first now so_far
    → IsNormal dead_code now root → entries ≡ so_far ++ EndScope ∷ [] → Runs first entries now
ended first now so_far entries r g n q =
    (r, (now, [], rw q (g.goes (EndScope ∷ []) now [] (n, (refl, refl))), (refl, refl)))
