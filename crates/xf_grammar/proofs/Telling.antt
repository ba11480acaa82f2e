-- What a filling leaves of what was said: once, by the forms of a grammar.
use Rattle.std.proofs.Common.{◌≡◌, Bool, true, false, List, [], ◌∷◌, Option, Some, None, refl, ◌∙◌}
use Rattle.xf_grammar.specs.Tokens.{Terminal}
use Rattle.xf_grammar.specs.Grammar.{Grammar, take, peek, need, act, both, listed, scan, Step, goes, Language, Fill}
use Rattle.xf_grammar.specs.Grammar.{yes, here, other, two, list, run, step_next, held, tell_if, step_tells, run_tells}
use Rattle.xf_grammar.specs.Grammar.{more_tells, tells, may_act, step_only, acts_only, Confined}
use Rattle.xf_grammar.proofs.Basics.{both_true}

-- a part of what is said that no token and no allowed action changes
pub record Ignores {A T K D X M B : Type 0} (L : Language A T K D X M) (ok : K → Bool) (runs : M → Bool) (f : T → B) :
    Type 0 where
  pub confined : Confined L ok runs
  pub held : (x : Terminal) (t : T) → f (L.hold x t) ≡ f t
  pub told : (k : K) (t : T) → ok k ≡ true → f (L.tell k t) ≡ f t

more_ignored : {T B : Type 0} (S : Fill → T → T) (f : T → B) → ((p : Fill) (t : T) → f (S p t) ≡ f t)
    → (r : Fill) (t : T) → f (more_tells S r t) ≡ f t
more_ignored S f one (list p r) t = more_ignored S f one r _ ∙ one p t
more_ignored S f one r t = refl

next_runs : {K D M : Type 0} (ok : K → Bool) (runs : M → Bool) (m : M) (s : Step K D M) → runs m ≡ true
    → step_only ok runs s ≡ true → runs (step_next m s) ≡ true
next_runs ok runs m (goes gap keep n k) e o = (both_true _ _ o).0
next_runs ok runs m s e o = e

module _ {A T K D X M B : Type 0} (L : Language A T K D X M) (ok : K → Bool) (runs : M → Bool) (f : T → B)
    (c : Ignores L ok runs f) where
  held_ignored : (keep : Bool) (x : Terminal) (t : T) → f (held L keep x t) ≡ f t
  held_ignored true x t = c.held x t
  held_ignored false x t = refl

  tell_ignored : (k : Option K) (t : T) → may_act ok k ≡ true → f (tell_if L k t) ≡ f t
  tell_ignored None t o = refl
  tell_ignored (Some k) t o = c.told k t o

  step_ignored : (s : Step K D M) (x : Terminal) (t : T) → step_only ok runs s ≡ true → f (step_tells L s x t) ≡ f t
  step_ignored (goes gap keep m k) x t o = tell_ignored k _ (both_true _ _ o).1 ∙ held_ignored keep x t
  step_ignored s x t o = refl

  run_ignored : (m : M) (xs : List Terminal) (t : T) → runs m ≡ true → f (run_tells L m xs t) ≡ f t
  run_ignored m [] t e = refl
  run_ignored m (x ∷ xs) t e =
      let o = c.confined m x e in
      run_ignored (step_next m (L.step m x)) xs (step_tells L (L.step m x) x t) (next_runs ok runs m (L.step m x) e o)
      ∙ step_ignored (L.step m x) x t o

  pub telling : (g : Grammar K D X M) (p : Fill) (t : T) → acts_only ok runs g ≡ true → f (tells L g p t) ≡ f t
  telling (take gap keep x on off) (yes y p) t o = telling on p _ (both_true _ _ o).0 ∙ held_ignored keep y t
  telling (take gap keep x on off) (other p) t o = telling off p t (both_true _ _ o).1
  telling (peek x on off) (here p) t o = telling on p t (both_true _ _ o).0
  telling (peek x on off) (other p) t o = telling off p t (both_true _ _ o).1
  telling (need k on) p t o = telling on p t o
  telling (act k) p t o = c.told k t o
  telling (both g k) (two p r) t o =
      let b = both_true _ _ o in
      telling k r _ b.1 ∙ telling g p t b.0
  telling (listed g) (list p r) t o = more_ignored _ f (λ q u. telling g q u o) r _ ∙ telling g p t o
  telling (scan m) (run xs) t o = run_ignored m xs t o
  telling g p t o = refl
