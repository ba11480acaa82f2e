-- What reading keeps of what was read, where each action stands behind tests that the tokens which are held have
-- passed: once, by the forms of a grammar.
use Rattle.std.proofs.Common.{◌≡◌, inl, inr, ℕ, zero, suc, ◌+◌, ◌<◌, Bool, true, false, cond, ◌&&◌, List, [], ◌∷◌, ◌++◌}
use Rattle.std.proofs.Common.{length, Some, None, Ok, Err, refl, sym, subst}
use Rattle.std.specs.Prelude.{not, if◌then◌else◌}
use Rattle.xf_lex.specs.declared.token.Token.{Token}
use Rattle.xf_grammar.specs.Tokens.{Terminal, the_end, terminal_at}
use Rattle.xf_grammar.specs.Reading.{Out, ◌>>=◌}
use Rattle.xf_grammar.specs.Grammar.{Grammar, skip, refuse, take, peek, need, act, both, listed, scan, Step, ends}
use Rattle.xf_grammar.specs.Grammar.{fails, goes, Language, pushed, acted, stepped, looked, scan_at, read}
use Rattle.xf_grammar.proofs.Basics.{both_true, token_or_end, before_end}
use Rattle.xf_grammar.proofs.Again.{look_is}
use Rattle.xf_grammar.proofs.Kept.{Has, has_behind, closed_has, more_has, passed_token}

-- the tests that the tokens which are held have passed, in order
abbrev pub none_held : {X : Type 0} → List X → Bool
none_held [] = true
none_held (x ∷ xs) = false

abbrev pub kept_test : {X : Type 0} → Bool → X → List X → List X
kept_test true x s = s ++ x ∷ []
kept_test false x s = s

-- ok are the actions that may stand behind such tests, and runs the states of the machines that may, where nothing is
-- held; what holds of the tests at the end
abbrev pub guarded : {K D X M : Type 0} → (K → List X → Bool) → (M → Bool) → Grammar K D X M → (List X → Bool) → List X
    → Bool
guarded ok runs skip end s = end s
guarded ok runs (refuse d) end s = true
guarded ok runs (take gap keep x on off) end s =
    guarded ok runs on end (kept_test keep x s) && guarded ok runs off end s
guarded ok runs (peek x on off) end s = guarded ok runs on end s && guarded ok runs off end s
guarded ok runs (need k on) end s = guarded ok runs on end s
guarded ok runs (act k) end s = ok k s && end []
guarded ok runs (both g k) end s = guarded ok runs g (guarded ok runs k end) s
guarded ok runs (listed g) end s = none_held s && (guarded ok runs g none_held [] && end [])
guarded ok runs (scan m) end s = runs m && (none_held s && end [])

-- a step without an action that holds nothing, or one with an action that machines may do
abbrev pub free_step : {K D M : Type 0} → (K → Bool) → (M → Bool) → Step K D M → Bool
free_step by runs (goes gap keep m None) = not keep && runs m
free_step by runs (goes gap keep m (Some k)) = by k && runs m
free_step by runs s = true

-- a property of the tests that were passed and of what was read, before a number
pub record Guards {A T K D X M : Type 0} (L : Language A T K D X M) (all : List Token) (ok : K → List X → Bool)
    (by : K → Bool) (runs : M → Bool) (P : List X → ℕ → A → Type 0) : Type 0 where
  pub ended : (x : X) (h : A) → L.passes x the_end h ≡ false
  pub free : (m : M) (x : Terminal) → runs m ≡ true → free_step by runs (L.step m x) ≡ true
  pub on : (s : List X) (at : ℕ) (h : A) → at < length all → P s at h → P s (at + 1) h
  pub held : (s : List X) (x : X) (at : ℕ) (h : A) → at < length all → L.passes x (terminal_at all at) h ≡ true
      → P s at h → P (s ++ x ∷ []) (at + 1) (L.push at (terminal_at all at) h)
  pub added : (s : List X) (at : ℕ) (k : K) (h : A) → ok k s ≡ true → L.room k h ≡ true → P s at h → P [] at (L.add k h)
  pub ran : (keep : Bool) (at : ℕ) (k : K) (h : A) → at < length all → by k ≡ true
      → L.room k (pushed L keep at (terminal_at all at) h) ≡ true → P [] at h
      → P [] (at + 1) (L.add k (pushed L keep at (terminal_at all at) h))

-- an answer, where it is no fault, has the property with tests of which something holds
abbrev pub Ends : {A D X : Type 0} → (List X → Bool) → (List X → ℕ → A → Type 0) → Out A D → Type 0
Ends {X = X} end P (Ok y) = (s : List X) × ((end s ≡ true) × P s y.1 y.0)
Ends end P (Err e) = Unit {0}

ends_either : {A D X : Type 0} (end : List X → Bool) (P : List X → ℕ → A → Type 0) (b : Bool) (y n : Out A D)
    → (b ≡ true → Ends end P y) → (b ≡ false → Ends end P n) → Ends end P (cond b y n)
ends_either end P true y n p q = p refl
ends_either end P false y n p q = q refl

ends_behind : {A D X : Type 0} (end last : List X → Bool) (P : List X → ℕ → A → Type 0) (r : Out A D)
    (f : A × ℕ → Out A D) → Ends end P r → ((x : A × ℕ) (s : List X) → end s ≡ true → P s x.1 x.0 → Ends last P (f x))
    → Ends last P (r >>= f)
ends_behind end last P (Ok x) f p q = q x p.0 p.1.0 p.1.1
ends_behind end last P (Err e) f p q = tt

-- where nothing is held at the end
none_is : {X : Type 0} (s : List X) → none_held s ≡ true → s ≡ []
none_is [] e = refl
none_is (x ∷ xs) e = absurd cc

ends_free : {A D X : Type 0} (P : List X → ℕ → A → Type 0) (r : Out A D) → Ends none_held P r → Has (P []) r
ends_free P (Ok y) p = subst (λ s. P s y.1 y.0) (none_is p.0 p.1.0) p.1.1
ends_free P (Err e) p = tt

ends_so : {A D X : Type 0} (end : List X → Bool) (P : List X → ℕ → A → Type 0) (s : List X) (r : Out A D) → end s ≡ true
    → Has (P s) r → Ends end P r
ends_so end P s (Ok y) e p = (s, (e, p))
ends_so end P s (Err e') e p = tt

-- ---- machines, where nothing is held

module _ {A T K D X M : Type 0} (L : Language A T K D X M) (all : List Token) (by : K → Bool) (runs : M → Bool)
    (P : ℕ → A → Type 0) (on : (at : ℕ) (h : A) → at < length all → P at h → P (at + 1) h)
    (free : (m : M) (x : Terminal) → runs m ≡ true → free_step by runs (L.step m x) ≡ true)
    (ran : (keep : Bool) (at : ℕ) (k : K) (h : A) → at < length all → by k ≡ true
    → L.room k (pushed L keep at (terminal_at all at) h) ≡ true → P at h
    → P (at + 1) (L.add k (pushed L keep at (terminal_at all at) h))) where
  acted_has : (b : Bool) (y : A) (n at : ℕ) (d : D) → (b ≡ true → P n y)
      → let o : Out A D = if b then Ok (y, n) else Err (at, d) in Has P o
  acted_has true y n at d p = p refl
  acted_has false y n at d p = tt

  free_stepped : (go : M → A → ℕ → Out A D) → ((m : M) (h : A) (at : ℕ) → runs m ≡ true → P at h → Has P (go m h at))
      → (s : Step K D M) (h : A) (at : ℕ) → free_step by runs s ≡ true → at < length all → P at h
      → Has P (stepped L go s (terminal_at all at) h at)
  free_stepped go r ends h at o lt p = p
  free_stepped go r (fails d) h at o lt p = tt
  free_stepped go r (goes gap true m None) h at o lt p = absurd cc
  free_stepped go r (goes gap false m None) h at o lt p = r m h (at + 1) o (on at h lt p)
  free_stepped go r (goes gap keep m (Some k)) h at o lt p =
      let b = both_true _ _ o in
      has_behind P P (acted L k (pushed L keep at (terminal_at all at) h) at (at + 1)) _
      (acted_has (L.room k (pushed L keep at (terminal_at all at) h)) _ (at + 1) at _ (λ e. ran keep at k h lt b.0 e p))
      (λ x q. r m x.0 x.1 b.1 q)

  free_scan : (f : ℕ) (m : M) (h : A) (at : ℕ) → runs m ≡ true → P at h → Has P (scan_at L f all m h at)
  free_scan zero m h at e p = closed_has P _ h at p
  free_scan (suc f) m h at e p = elim (token_or_end _) [
    | inl o ↦ subst (λ x. Has P (looked L (scan_at L f all) m x h at)) (sym o) (closed_has P _ h at p)
    | inr o ↦ subst (Has P) (sym (look_is L (scan_at L f all) m (terminal_at all at) h at o)) (
        free_stepped (scan_at L f all) (λ n k i v q. free_scan f n k i v q)
        (L.step m (terminal_at all at)) h at (free m (terminal_at all at) e) (before_end all at o) p)
  ]

module _ {A T K D X M : Type 0} (L : Language A T K D X M) (all : List Token) (ok : K → List X → Bool) (by : K → Bool)
    (runs : M → Bool) (P : List X → ℕ → A → Type 0) (c : Guards L all ok by runs P) where
  -- ---- the forms

  pushed_so : (keep : Bool) (s : List X) (x : X) (h : A) (at : ℕ) → at < length all
      → L.passes x (terminal_at all at) h ≡ true → P s at h
      → P (kept_test keep x s) (at + 1) (pushed L keep at (terminal_at all at) h)
  pushed_so true s x h at lt e p = c.held s x at h lt e p
  pushed_so false s x h at lt e p = c.on s at h lt p

  pub guarded_keeps : (f : ℕ) (g : Grammar K D X M) (end : List X → Bool) (s : List X) (h : A) (at : ℕ)
      → guarded ok runs g end s ≡ true → P s at h → Ends end P (read L f g all h at)
  guarded_keeps f skip end s h at o p = (s, (o, p))
  guarded_keeps f (refuse d) end s h at o p = tt
  guarded_keeps f (take gap keep x on off) end s h at o p =
      let b = both_true _ _ o in
      ends_either end P (L.passes x (terminal_at all at) h) _ _
      (λ e. guarded_keeps f on end (kept_test keep x s) _ (at + 1) b.0
      (pushed_so keep s x h at (before_end all at (passed_token L c.ended x _ h e)) e p))
      (λ e. guarded_keeps f off end s h at b.1 p)
  guarded_keeps f (peek x on off) end s h at o p =
      let b = both_true _ _ o in
      ends_either end P (L.passes x (terminal_at all at) h) _ _ (λ e. guarded_keeps f on end s h at b.0 p)
      (λ e. guarded_keeps f off end s h at b.1 p)
  guarded_keeps f (need k g) end s h at o p =
      ends_either end P (L.room k h) _ _ (λ e. guarded_keeps f g end s h at o p) (λ e. tt)
  guarded_keeps f (act k) end s h at o p =
      let b = both_true _ _ o in
      ends_either end P (L.room k h) _ _ (λ e. ([], (b.1, c.added s at k h b.0 e p))) (λ e. tt)
  guarded_keeps f (both g k) end s h at o p =
      ends_behind (guarded ok runs k end) end P (read L f g all h at) _
      (guarded_keeps f g (guarded ok runs k end) s h at o p)
      (λ x t e q. guarded_keeps f k end t x.0 x.1 e q)
  guarded_keeps f (listed g) end s h at o p =
      let b = both_true _ _ o in
      let d = both_true _ _ b.1 in
      let start : P [] at h = subst (λ t. P t at h) (none_is s b.0) p in
      let item : (k : A) (i : ℕ) → P [] i k → Has (P []) (read L f g all k i) =
      λ k i q. ends_free P _ (guarded_keeps f g none_held [] k i d.0 q) in
      ends_behind none_held end P (read L f g all h at) _ (guarded_keeps f g none_held [] h at d.0 start)
      (λ x t e q. ends_so end P [] _ d.1
      (more_has (P []) all (c.on []) f (read L f g all) item x.0 x.1 (subst (λ u. P u x.1 x.0) (none_is t e) q)))
  guarded_keeps f (scan m) end s h at o p =
      let b = both_true _ _ o in
      let d = both_true _ _ b.1 in
      ends_so end P [] _ d.1
      (free_scan L all by runs (P []) (c.on []) c.free c.ran f m h at b.0
      (subst (λ t. P t at h) (none_is s d.0) p))

  -- a grammar that holds nothing at its end
  pub guarded_has : (f : ℕ) (g : Grammar K D X M) (h : A) (at : ℕ) → guarded ok runs g none_held [] ≡ true → P [] at h
      → Has (P []) (read L f g all h at)
  guarded_has f g h at o p = ends_free P _ (guarded_keeps f g none_held [] h at o p)
