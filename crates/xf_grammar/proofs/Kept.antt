-- What reading keeps of what was read so far, at the number that it has come to: once, by the forms of a grammar.
use Rattle.std.proofs.Common.{◌≡◌, inl, inr, ℕ, zero, suc, ◌+◌, ◌<◌, ◌==◌, Bool, true, false, cond, List, length}
use Rattle.std.proofs.Common.{Option, Some, None, Ok, Err, refl, sym, subst}
use Rattle.xf_lex.specs.declared.token.Token.{Token}
use Rattle.xf_grammar.specs.Tokens.{Terminal, the_end, terminal, terminal_at, is_kind, comma}
use Rattle.xf_grammar.specs.Reading.{Out, ◌>>=◌, one_too_many}
use Rattle.xf_grammar.specs.Grammar.{Grammar, skip, refuse, take, peek, need, act, both, listed, scan, Step, ends}
use Rattle.xf_grammar.specs.Grammar.{fails, goes, Language, pushed, acted, acted_if, closed, stepped, looked, scan_at}
use Rattle.xf_grammar.specs.Grammar.{more, read, is_token, may_act, step_only, acts_only, Confined}
use Rattle.xf_grammar.proofs.Basics.{both_true, and_is, token_or_end, before_end}
use Rattle.xf_grammar.proofs.Again.{look_is}

-- a property of what was read before a number: going on keeps it, a token that is held, and an allowed action where
-- there is room
pub record Keeps {A T K D X M : Type 0} (L : Language A T K D X M) (all : List Token) (ok : K → Bool) (runs : M → Bool)
    (P : ℕ → A → Type 0) : Type 0 where
  pub ended : (x : X) (h : A) → L.passes x the_end h ≡ false
  pub confined : Confined L ok runs
  pub on : (at : ℕ) (h : A) → at < length all → P at h → P (at + 1) h
  pub held : (at : ℕ) (h : A) → at < length all → P at h → P (at + 1) (L.push at (terminal_at all at) h)
  pub added : (at : ℕ) (k : K) (h : A) → ok k ≡ true → L.room k h ≡ true → P at h → P at (L.add k h)

-- what an answer has, where it is no fault
abbrev pub Has : {A D : Type 0} → (ℕ → A → Type 0) → Out A D → Type 0
Has P (Ok x) = P x.1 x.0
Has P (Err e) = Unit {0}

pub has_either : {A D : Type 0} (P : ℕ → A → Type 0) (b : Bool) (y n : Out A D) → (b ≡ true → Has P y)
    → (b ≡ false → Has P n) → Has P (cond b y n)
has_either P true y n p q = p refl
has_either P false y n p q = q refl

pub has_behind : {A B D : Type 0} (P : ℕ → A → Type 0) (Q : ℕ → B → Type 0) (r : Out A D) (f : A × ℕ → Out B D)
    → Has P r → ((x : A × ℕ) → P x.1 x.0 → Has Q (f x)) → Has Q (r >>= f)
has_behind P Q (Ok x) f p q = q x p
has_behind P Q (Err e) f p q = tt

pub too_many_has : {A D : Type 0} (P : ℕ → A → Type 0) (at : ℕ) (full : D) (o : Out A D)
    → Has P (one_too_many at full o)
too_many_has P at full (Ok x) = tt
too_many_has P at full (Err e) = has_either P (e.0 == at) _ _ (λ q. tt) (λ q. tt)

-- ---- which actions

any_act : {K : Type 0} (k : Option K) → may_act (λ k. true) k ≡ true
any_act None = refl
any_act (Some k) = refl

any_step : {K D M : Type 0} (s : Step K D M) → step_only (λ k. true) (λ m. true) s ≡ true
any_step (goes gap keep m k) = any_act k
any_step s = refl

pub confined_all : {A T K D X M : Type 0} (L : Language A T K D X M) → Confined L (λ k. true) (λ m. true)
confined_all L m x e = any_step _

pub acts_all : {K D X M : Type 0} (g : Grammar K D X M) → acts_only (λ k. true) (λ m. true) g ≡ true
acts_all (take gap keep x on off) = and_is _ _ (acts_all on) (acts_all off)
acts_all (peek x on off) = and_is _ _ (acts_all on) (acts_all off)
acts_all (need k on) = acts_all on
acts_all (both g k) = and_is _ _ (acts_all g) (acts_all k)
acts_all (listed g) = acts_all g
acts_all g = refl

-- ---- the forms

pub passed_token : {A T K D X M : Type 0} (L : Language A T K D X M) → ((x : X) (h : A) → L.passes x the_end h ≡ false)
    → (x : X) (y : Terminal) (h : A) → L.passes x y h ≡ true → is_token y ≡ true
passed_token L ended x the_end h e = absurd (let o = ended x h in cc)
passed_token L ended x _ h e = refl

pub closed_has : {A D : Type 0} (P : ℕ → A → Type 0) (o : Option D) (h : A) (at : ℕ) → P at h → Has P (closed o h at)
closed_has P None h at p = p
closed_has P (Some d) h at p = tt

comma_before : (all : List Token) (at : ℕ) → is_kind comma (terminal_at all at) ≡ true → at < length all
comma_before all at e = before_end all at (comma_is_token (terminal_at all at) e)
  where
    comma_is_token : (x : Terminal) → is_kind comma x ≡ true → is_token x ≡ true
    comma_is_token the_end e = absurd cc
    comma_is_token (terminal k bs) e = refl

-- a comma of a list is not held: the number goes on alone
pub more_has : {A D : Type 0} (P : ℕ → A → Type 0) (all : List Token)
    (on : (at : ℕ) (h : A) → at < length all → P at h → P (at + 1) h) (f : ℕ) (item : A → ℕ → Out A D)
    → ((h : A) (at : ℕ) → P at h → Has P (item h at)) → (h : A) (at : ℕ) → P at h → Has P (more f all item h at)
more_has P all on zero item r h at p = p
more_has P all on (suc f) item r h at p =
    has_either P _ _ _
    (λ e. has_behind P P _ _
    (r h (at + 1) (on at h (comma_before all at e) p)) (λ x q. more_has P all on f item r x.0 x.1 q)) (λ e. p)

module _ {A T K D X M : Type 0} (L : Language A T K D X M) (all : List Token) (ok : K → Bool) (runs : M → Bool)
    (P : ℕ → A → Type 0) (c : Keeps L all ok runs P) where
  pushed_has : (keep : Bool) (h : A) (at : ℕ) → at < length all → P at h
      → P (at + 1) (pushed L keep at (terminal_at all at) h)
  pushed_has true h at lt p = c.held at h lt p
  pushed_has false h at lt p = c.on at h lt p

  acted_has : (k : K) (h : A) (place next : ℕ) → ok k ≡ true → P next h → Has P (acted L k h place next)
  acted_has k h place next o p = has_either P _ _ _ (λ e. c.added next k h o e p) (λ e. tt)

  acted_if_has : (k : Option K) (h : A) (place next : ℕ) → may_act ok k ≡ true → P next h
      → Has P (acted_if L k h place next)
  acted_if_has None h place next o p = p
  acted_if_has (Some k) h place next o p = acted_has k h place next o p

  stepped_has : (go : M → A → ℕ → Out A D) → ((m : M) (h : A) (at : ℕ) → runs m ≡ true → P at h → Has P (go m h at))
      → (s : Step K D M) (h : A) (at : ℕ) → step_only ok runs s ≡ true → at < length all → P at h
      → Has P (stepped L go s (terminal_at all at) h at)
  stepped_has go r ends h at o lt p = p
  stepped_has go r (fails d) h at o lt p = tt
  stepped_has go r (goes gap keep m k) h at o lt p =
      let b = both_true _ _ o in
      has_behind P P _ _ (acted_if_has k _ at _ b.1 (pushed_has keep h at lt p))
      (λ x q. r m x.0 x.1 b.0 q)

  scan_has : (f : ℕ) (m : M) (h : A) (at : ℕ) → runs m ≡ true → P at h → Has P (scan_at L f all m h at)
  scan_has zero m h at e p = closed_has P _ h at p
  scan_has (suc f) m h at e p = elim (token_or_end _) [
    | inl o ↦ subst (λ x. Has P (looked L (scan_at L f all) m x h at)) (sym o) (closed_has P _ h at p)
    | inr o ↦ subst (Has P) (sym (look_is L _ m _ h at o)) (
        stepped_has _ (λ n k i v q. scan_has f n k i v q)
        _ h at (c.confined m (terminal_at all at) e) (before_end all at o) p)
  ]

  pub kept : (f : ℕ) (g : Grammar K D X M) (h : A) (at : ℕ) → acts_only ok runs g ≡ true → P at h
      → Has P (read L f g all h at)
  kept f skip h at o p = p
  kept f (refuse d) h at o p = tt
  kept f (take gap keep x on off) h at o p =
      let b = both_true _ _ o in
      has_either P (L.passes x (terminal_at all at) h) _ _
      (λ e. kept f on _ _ b.0 (pushed_has keep h at (before_end all at (passed_token L c.ended x _ h e)) p))
      (λ e. kept f off h at b.1 p)
  kept f (peek x on off) h at o p =
      let b = both_true _ _ o in
      has_either P (L.passes x (terminal_at all at) h) _ _ (λ e. kept f on h at b.0 p) (λ e. kept f off h at b.1 p)
  kept f (need k g) h at o p = has_either P (L.room k h) _ _ (λ e. kept f g h at o p) (λ e. tt)
  kept f (act k) h at o p = acted_has k h at at o p
  kept f (both g k) h at o p =
      let b = both_true _ _ o in
      has_behind P P (read L f g all h at) _ (kept f g h at b.0 p)
      (λ x q. kept f k x.0 x.1 b.1 q)
  kept f (listed g) h at o p =
      has_behind P P (read L f g all h at) _ (kept f g h at o p)
      (λ x q. more_has P all c.on f (read L f g all) (λ k i r. kept f g k i o r) x.0 x.1 q)
  kept f (scan m) h at o p = scan_has f m h at o p

  -- where a reading succeeds
  pub kept_at : (f : ℕ) (g : Grammar K D X M) (h h' : A) (at next : ℕ) → acts_only ok runs g ≡ true → P at h
      → read L f g all h at ≡ Ok (h', next) → P next h'
  kept_at f g h h' at next o p e = subst (Has P) e (kept f g h at o p)

-- with each action
pub kept_all : {A T K D X M : Type 0} (L : Language A T K D X M) (all : List Token) (P : ℕ → A → Type 0)
    (c : Keeps L all (λ k. true) (λ m. true) P) (f : ℕ) (g : Grammar K D X M) (h : A) (at : ℕ) → P at h
    → Has P (read L f g all h at)
kept_all L all P c f g h at p = kept L all _ _ P c f g h at (acts_all g) p
