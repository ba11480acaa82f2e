-- What was read of a file says what the file holds, and counts of faults over two reads.
use Rattle.std.proofs.Common.{◌≡◌, ◌⊎◌, ◌≢◌, ℕ, ◌+◌, ◌<◌, ◌≤◌, List, take, length, Bool, true, false, Option, Some}
use Rattle.std.proofs.Common.{None, inl, inr, refl, sym, ap, ◌∙◌, ◌-◌, ◌^◌, subst, arith, ⊎_elim}
use Rattle.std.specs.Prelude.{IfSome}
use Rattle.std.specs.Str.{bytes_eq}
use Rattle.std.proofs.lemmas.Slice.Eq.{bytes_eq-Decides}
use Rattle.std.proofs.lemmas.Bool.{cases_lt}
use Rattle.std.proofs.lemmas.List.{length-take, take_all}
use Rattle.xf_host.specs.Count.{HasRisen}
use Rattle.xf_span.specs.declared.fault.Fault.{Fault}
use Rattle.xf_ir.specs.declared.op.Module.{Module}
use Rattle.xf_span.specs.Limit.{file_limit}
use Rattle.xf_payload.specs.Payload.{IsPayload, IsNoPayload}
use Rattle.xf_opt.specs.declared.journal.Entry.{Entry}
use Rattle.xf_opt.specs.Words.{Asked, run, verify, print}
use Rattle.xf_opt.specs.Stages.{End, anywhere}
use Rattle.xf_opt.specs.Files.{IsScriptFile, IsRunnable, Refuses, Accepts, RefusesWith, JudgesScript, JudgesPayload}
use Rattle.xf_opt.specs.Owes.{Reaches, Headline, TellsOf, Owes, WritesPrefix, WritesAtMost, Writes}
use Rattle.xf_opt.proofs.Ending.{judged_alike, judged_nowhere}

-- ---- counts

pub rises_later : (before between after : ℕ) → before ≤ between → HasRisen between after → HasRisen before after
rises_later before between after le r =
    ⊎_elim (λ (lt : between < after). inl (omega arith)) (λ (e : after ≡ 2 ^ 64 - 1). inr e) r

true_or_false : (b : Bool) → (b ≡ true) ⊎ (b ≡ false)
true_or_false true = inl refl
true_or_false false = inr refl

-- a count of any path does not fall where that of one path does not, and the others stay
pub count_kept : (before after : List ℕ → ℕ) (path other : List ℕ) → before path ≤ after path
    → ((q : List ℕ) → q ≢ path → after q ≡ before q) → before other ≤ after other
count_kept before after path other grows others =
    ⊎_elim
    (λ (e : bytes_eq other path ≡ true). let same : other ≡ path =
    (bytes_eq-Decides other path).0 e in subst (λ q. before q ≤ after q) (sym same) grows)
    (λ (e : bytes_eq other path ≡ false). let apart : after other ≡ before other =
    others other (λ same. let t = (bytes_eq-Decides other path).1 same in cc) in omega arith)
    (true_or_false (bytes_eq other path))

-- ---- the part of a file that was read

-- both are too long
abbrev pub AreLong : List ℕ → List ℕ → Type 0
AreLong file part = (file_limit < length part) × (file_limit < length file)

-- what was read is the whole file, or both are too long
part_cases : (file part : List ℕ) → part ≡ take (file_limit + 1) file → (part ≡ file) ⊎ AreLong file part
part_cases file part e =
    ⊎_elim
    (λ (more : file_limit < length file). let size : length part ≡ file_limit + 1 = ap length e
    ∙ rw length-take (omega arith) in inr (omega arith, more))
    (λ (few : length file ≤ file_limit). inl (e ∙ take_all (file_limit + 1) file (omega arith)))
    (cases_lt file_limit (length file))

module _ (file part : List ℕ) (e : part ≡ take (file_limit + 1) file) where
  script_of_part : IsScriptFile part → IsScriptFile file
  script_of_part s = ⊎_elim (λ (same : part ≡ file). subst IsScriptFile same s)
      (λ (long : AreLong file part). absurd (let a = s.fits in let b = long.0 in omega arith)) (part_cases file part e)

  part_of_script : IsScriptFile file → IsScriptFile part
  part_of_script s = ⊎_elim (λ (same : part ≡ file). subst IsScriptFile (sym same) s)
      (λ (long : AreLong file part). absurd (let a = s.fits in let b = long.1 in omega arith)) (part_cases file part e)

  -- ---- payloads

  holds_of_part : (m : Module) → IsPayload part m → IsPayload file m
  holds_of_part m s = ⊎_elim (λ (same : part ≡ file). subst (λ f. IsPayload f m) same s)
      (λ (long : AreLong file part). absurd (let a = s.fits in let b = long.0 in omega arith)) (part_cases file part e)

  long_part : (f : Fault) → AreLong file part → IsNoPayload part f → IsNoPayload file f
  long_part f long (inl x) = inl (record { passes = long.1; is = x.is })
  long_part f long (inr (inl x)) = absurd (let a = x.fits in let b = long.0 in omega arith)
  long_part f long (inr (inr x)) = absurd (let a = x.fits in let b = long.0 in omega arith)

  refused_of_part : (f : Fault) → IsNoPayload part f → IsNoPayload file f
  refused_of_part f n = ⊎_elim (λ (same : part ≡ file). subst (λ q. IsNoPayload q f) same n)
      (λ (long : AreLong file part). long_part f long n) (part_cases file part e)

  runnable_of_part : (m : Module) → IsRunnable part m → IsRunnable file m
  runnable_of_part m s = record { holds = holds_of_part m s.holds; form = s.form }

  refuses_of_part : (asked : Asked) (f : Fault) → Refuses asked part f → Refuses asked file f
  refuses_of_part (run s p) f (inl n) = inl (refused_of_part f n)
  refuses_of_part (run s p) f (inr o) =
      inr (record { payload = o.payload; holds = holds_of_part o.payload o.holds; form = o.form; is = o.is })
  refuses_of_part (verify p) f r = refused_of_part f r
  refuses_of_part (print p) f r = refused_of_part f r

  accepts_of_part : (asked : Asked) → Accepts asked part → Accepts asked file
  accepts_of_part (run s p) a = (a.0, runnable_of_part a.0 a.1)
  accepts_of_part (verify p) a = (a.0, holds_of_part a.0 a.1)
  accepts_of_part (print p) a = (a.0, holds_of_part a.0 a.1)

  -- ---- the text that is owed

  reaches_of_part : (journal : List Entry) (after : Module) → Reaches part journal after → Reaches file journal after
  reaches_of_part journal after r = record {
    before = r.before;
    holds = runnable_of_part r.before r.holds;
    runs = r.runs;
    few = r.few;
    keeps = r.keeps;
    valid_after = r.valid_after;
  }

  headline_of_part : (journal : List Entry) (text : List ℕ) → Headline part journal text → Headline file journal text
  unfolding reaches_of_part
  headline_of_part journal text h = record {
    after = h.after;
    reaches = reaches_of_part journal h.after h.reaches;
    is = h.is;
    again = h.again;
    spells = h.spells;
    renamed = h.renamed;
    valid = h.valid;
    same = h.same;
  }

  tells_of_part : (text_of : Module → List ℕ) (text : List ℕ) → TellsOf text_of part text → TellsOf text_of file text
  tells_of_part text_of text t = record { payload = t.payload; holds = holds_of_part t.payload t.holds; is = t.is }

  owes_of_part : (asked : Asked) (journal : List Entry) (text : List ℕ) → Owes asked part journal text
      → Owes asked file journal text
  owes_of_part (run s p) journal text d = headline_of_part journal text d
  owes_of_part (verify p) journal text d = tells_of_part _ text d
  owes_of_part (print p) journal text d = tells_of_part _ text d

  prefix_of_part : (asked : Asked) (journal : List Entry) (old new : Option (List ℕ))
      → WritesPrefix asked part journal old new → WritesPrefix asked file journal old new
  prefix_of_part asked journal old new w = (w.0, (owes_of_part asked journal w.0 w.1.0, w.1.1))

  most_of_part : (asked : Asked) (old new : Option (List ℕ)) → WritesAtMost asked part old new
      → WritesAtMost asked file old new
  most_of_part asked old new w =
      ⊎_elim (λ (same : new ≡ old). inl same) (λ (x : (js : List Entry) × WritesPrefix asked part js old new). inr (
        x.0,
        prefix_of_part asked x.0 old new x.1,
      )) w

  -- ---- the end, said of the file

  script_end : (end : End) (old new : Option (List ℕ)) → JudgesScript end old new part → JudgesScript end old new file
  script_end end old new j = judged_alike _ end _ _ _ _ _ script_of_part (λ no s. no (part_of_script s)) j

  payload_end : (end : End) (fault : Option Fault) (old new : Option (List ℕ)) (asked : Asked)
      → JudgesPayload end fault old new asked part → JudgesPayload end fault old new asked file
  payload_end end fault old new asked j =
      judged_alike _ end _ _ _ _ _ (accepts_of_part asked) (λ (r : RefusesWith fault asked part). (
        r.0,
        (r.1.0, refuses_of_part asked r.0 r.1.1),
      )) j

  text_end : (end : End) (journal : List Entry) (old new : Option (List ℕ)) (asked : Asked)
      → Writes end journal old new asked part → Writes end journal old new asked file
  text_end end journal old new asked w = record {
    done = λ p. let x = w.done p in (x.0, (owes_of_part asked journal x.0 x.1.0, x.1.1));
    cut = λ p. prefix_of_part asked journal old new (w.cut p);
    memory = λ p. most_of_part asked old new (w.memory p);
  }

-- ---- where the file is told

-- what was read of a file
abbrev pub IsRead : Option (List ℕ) → List ℕ → Type 0
IsRead told part = IfSome told (λ file. part ≡ take (file_limit + 1) file)

pub script_told : (told : Option (List ℕ)) (part : List ℕ) (end : End) (old new : Option (List ℕ)) → IsRead told part
    → JudgesScript end old new part → IfSome told (JudgesScript end old new)
script_told None part end old new e j = tt
script_told (Some file) part end old new e j = script_end file part e end old new j

pub payload_told : (told : Option (List ℕ)) (part : List ℕ) (end : End) (fault : Option Fault)
    (old new : Option (List ℕ)) (asked : Asked) → IsRead told part → JudgesPayload end fault old new asked part
    → IfSome told (JudgesPayload end fault old new asked)
payload_told None part end fault old new asked e j = tt
payload_told (Some file) part end fault old new asked e j = payload_end file part e end fault old new asked j

-- nothing is said of a file that was not read, for want of memory
pub unread_told : (told : Option (List ℕ)) (fault : Option Fault) (old : Option (List ℕ)) (asked : Asked)
    → IfSome told (JudgesPayload anywhere fault old old asked)
unread_told None fault old asked = tt
unread_told (Some file) fault old asked = judged_nowhere _ _ _ _ refl

pub text_told : (told : Option (List ℕ)) (part : List ℕ) (end : End) (journal : List Entry)
    (old new : Option (List ℕ)) (asked : Asked) → IsRead told part → Writes end journal old new asked part
    → IfSome told (Writes end journal old new asked)
text_told None part end journal old new asked e w = tt
text_told (Some file) part end journal old new asked e w = text_end file part e end journal old new asked w
