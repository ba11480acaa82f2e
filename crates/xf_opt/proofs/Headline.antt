-- The headline, from what the run and the printer answer.
use Rattle.std.proofs.Common.{◌≡◌, ℕ, List, Option, true, refl, ap, sym, length, ◌≤◌, ◌+◌}
use Rattle.xf_host.specs.Writes.{Gains, GainsPrefix}
use Rattle.xf_ir.specs.declared.op.Module.{Module}
use Rattle.xf_ir.specs.Valid.{IsValid}
use Rattle.xf_ir.specs.Choices.{weight_at}
use Rattle.xf_sem.specs.Keeps.{KeepsMeaning}
use Rattle.xf_sem.proofs.Keeping.{keeping_composes}
use Rattle.xf_printed.specs.PrintedForm.{printed_form}
use Rattle.xf_read.specs.Names.{op_name}
use Rattle.xf_read.proofs.Limits.{spelt_is_within_limits}
use Rattle.xf_read.proofs.ShortLists.{spelt_is_short}
use Rattle.xf_roundtrip.proofs.ValidAgain.{printed_is_valid_again}
use Rattle.xf_opt.specs.declared.journal.Entry.{Entry}
use Rattle.xf_opt.specs.Form.{is_first_form, IsFirstForm}
use Rattle.xf_opt.specs.Run.{Runs}
use Rattle.xf_opt.specs.Words.{run}
use Rattle.xf_opt.specs.Files.{IsRunnable}
use Rattle.xf_opt.specs.Owes.{Reaches, Headline, Finishes, WritesPrefix}
use Rattle.xf_opt.proofs.FormFacts.{form_is_stored}
use Rattle.xf_sem.proofs.Renaming.{renaming_keeps}

-- there are few choices
abbrev pub IsFew : Module → List Entry → Type 0
IsFew m journal = length journal ≤ weight_at m (record { 0 = 0 }) + 1

-- what the run reaches
pub reached : (payload : List ℕ) (journal : List Entry) (m after : Module) → IsRunnable payload m → Runs m journal after
    → IsFew m journal → KeepsMeaning m after → IsValid after → Reaches payload journal after
reached payload journal m after s r n k v =
    record { before = m; holds = s; runs = r; few = n; keeps = k; valid_after = v }

-- the headline, from its parts
headline_is : (payload : List ℕ) (journal : List Entry) (m after : Module) → IsRunnable payload m → Runs m journal after
    → IsFew m journal → KeepsMeaning m after → IsFirstForm after → Headline payload journal (printed_form after)
unfolding reached
headline_is payload journal m after s r n k g =
    let again = printed_is_valid_again after g.valid (form_is_stored after g) g.limits in
    record {
      after = after;
      reaches = reached payload journal m after s r n k g.valid;
      is = refl;
      again = again.0;
      spells = again.1.0;
      renamed = again.1.1.0;
      valid = again.1.1.1;
      same = keeping_composes m after again.0 k (renaming_keeps after again.0 g.valid again.1.1.0);
    }

pub whole_is : (payload script path : List ℕ) (journal : List Entry) (m after : Module) (old new : Option (List ℕ))
    → IsRunnable payload m → Runs m journal after → IsFew m journal → KeepsMeaning m after → IsFirstForm after
    → Gains old (printed_form after) new → Finishes (run script path) payload journal old new
whole_is payload script path journal m after old new s r n k g w =
    (printed_form after, (headline_is payload journal m after s r n k g, w))

pub prefix_is : (payload script path : List ℕ) (journal : List Entry) (m after : Module) (old new : Option (List ℕ))
    → IsRunnable payload m → Runs m journal after → IsFew m journal → KeepsMeaning m after → IsFirstForm after
    → GainsPrefix old (printed_form after) new → WritesPrefix (run script path) payload journal old new
prefix_is payload script path journal m after old new s r n k g w =
    (printed_form after, (headline_is payload journal m after s r n k g, w))

-- what a run accepts is of its form
pub of_form : (file : List ℕ) (m : Module) → IsRunnable file m → IsFirstForm m
of_form file m s = record {
  valid = s.holds.valid;
  shape = s.form;
  lists = spelt_is_short file m s.holds.spells;
  limits = spelt_is_within_limits file m s.holds.spells;
}

-- the root of a module that a text spells is operation 0
pub root_named : (payload : List ℕ) (m : Module) → IsRunnable payload m → m.root.name ≡ op_name 0
root_named payload m s = sym (ap (λ (x : Module). x.root.name) s.holds.spells.means)
