-- Grammars as first-order data: what is read, what is written, what that says, and what may stand behind it.
use Rattle.std.specs.Prelude.{◌≡◌, ℕ, zero, suc, ◌+◌, List, [], ◌∷◌, ◌++◌, map, Option, Some, None, Ok, Err, Bool, true}
use Rattle.std.specs.Prelude.{false, not, ◌&&◌, if◌then◌else◌}
use Rattle.xf_lex.specs.declared.token.Token.{Token}
use Rattle.xf_grammar.specs.Tokens.{Terminal, the_end, terminal, terminal_at, is_kind, comma}
use Rattle.xf_grammar.specs.Reading.{Out, ◌>>=◌}

-- K are the actions, D what may be due, X the tests of a token, M the states of the machines
pub data Grammar (K D X M : Type 0) : Type 0 where
  -- no token
  skip : Grammar K D X M
  -- no token fits
  refuse : (due : D) → Grammar K D X M
  -- a token that passes a test, which is held or not, and what follows it; or else another way. In print a blank stands
  -- before it, or none
  take : (gap keep : Bool) (test : X) (on off : Grammar K D X M) → Grammar K D X M
  -- one way where the next token passes a test, or else another way
  peek : (test : X) (on off : Grammar K D X M) → Grammar K D X M
  -- an entry begins here, for which there has to be room
  need : (act : K) (on : Grammar K D X M) → Grammar K D X M
  -- what is held becomes a part
  act : (act : K) → Grammar K D X M
  -- one behind the other
  both : (first second : Grammar K D X M) → Grammar K D X M
  -- one or several with commas between them
  listed : (item : Grammar K D X M) → Grammar K D X M
  -- a machine over tokens, from a state on
  scan : (state : M) → Grammar K D X M

-- what a machine does at a token: it ends before it, or nothing fits, or it takes it and goes on
pub data Step (K D M : Type 0) : Type 0 where
  ends : Step K D M
  fails : (due : D) → Step K D M
  goes : (gap keep : Bool) (next : M) (act : Option K) → Step K D M

-- A is what is read, by numbers of tokens; T is what it says, by the tokens
pub record Language (A T K D X M : Type 0) : Type 0 where
  -- a token is held, which stands at a number
  pub push : ℕ → Terminal → A → A
  pub hold : Terminal → T → T
  -- an action, and what it says
  pub add : K → A → A
  pub tell : K → T → T
  -- whether there is room for it, and what is due where there is none
  pub room : K → A → Bool
  pub space : K → T → Bool
  pub full : K → D
  -- whether a token passes a test, behind what was read
  pub passes : X → Terminal → A → Bool
  pub allows : X → Terminal → T → Bool
  pub step : M → Terminal → Step K D M
  -- what is due where a text ends before a machine does
  pub close : M → Option D

-- ---- reading

-- a token is held, or not
abbrev pub pushed : {A T K D X M : Type 0} → Language A T K D X M → Bool → ℕ → Terminal → A → A
pushed L true at x h = L.push at x h
pushed L false at x h = h

-- an action, where there is room
abbrev pub acted : {A T K D X M : Type 0} → Language A T K D X M → K → A → ℕ → ℕ → Out A D
acted L k h place next = if L.room k h then Ok (L.add k h, next) else Err (place, L.full k)

abbrev pub acted_if : {A T K D X M : Type 0} → Language A T K D X M → Option K → A → ℕ → ℕ → Out A D
acted_if L None h place next = Ok (h, next)
acted_if L (Some k) h place next = acted L k h place next

-- where a machine may end
abbrev pub closed : {A D : Type 0} → Option D → A → ℕ → Out A D
closed None h at = Ok (h, at)
closed (Some d) h at = Err (at, d)

abbrev pub stepped : {A T K D X M : Type 0} → Language A T K D X M → (M → A → ℕ → Out A D) → Step K D M → Terminal → A
    → ℕ → Out A D
stepped L run ends x h at = Ok (h, at)
stepped L run (fails d) x h at = Err (at, d)
stepped L run (goes gap keep m k) x h at = acted_if L k (pushed L keep at x h) at (at + 1) >>= λ y. run m y.0 y.1

abbrev pub looked : {A T K D X M : Type 0} → Language A T K D X M → (M → A → ℕ → Out A D) → M → Terminal → A → ℕ
    → Out A D
looked L run m the_end h at = closed (L.close m) h at
looked L run m (terminal k bytes) h at = stepped L run (L.step m (terminal k bytes)) (terminal k bytes) h at

-- a machine has one turn for each token
abbrev pub scan_at : {A T K D X M : Type 0} → Language A T K D X M → ℕ → List Token → M → A → ℕ → Out A D
scan_at L zero all m h at = closed (L.close m) h at
scan_at L (suc f) all m h at = looked L (scan_at L f all) m (terminal_at all at) h at

-- behind an item: a comma and an item, as often as there is a comma
abbrev pub more : {A D : Type 0} → ℕ → List Token → (A → ℕ → Out A D) → A → ℕ → Out A D
more zero all item h at = Ok (h, at)
more (suc f) all item h at =
    if is_kind comma (terminal_at all at)
    then (item h (at + 1) >>= λ x. more f all item x.0 x.1)
    else Ok (h, at)

-- f is at least the number of tokens
abbrev pub read : {A T K D X M : Type 0} → Language A T K D X M → ℕ → Grammar K D X M → List Token → A → ℕ → Out A D
read L f skip all h at = Ok (h, at)
read L f (refuse d) all h at = Err (at, d)
read L f (take gap keep x on off) all h at =
    if L.passes x (terminal_at all at) h
    then read L f on all (pushed L keep at (terminal_at all at) h) (at + 1)
    else read L f off all h at
read L f (peek x on off) all h at =
    if L.passes x (terminal_at all at) h then read L f on all h at else read L f off all h at
read L f (need k on) all h at = if L.room k h then read L f on all h at else Err (at, L.full k)
read L f (act k) all h at = acted L k h at at
read L f (both g k) all h at = read L f g all h at >>= λ x. read L f k all x.0 x.1
read L f (listed g) all h at = read L f g all h at >>= λ x. more f all (read L f g all) x.0 x.1
read L f (scan m) all h at = scan_at L f all m h at

-- ---- writing

-- what stands before a token in print: nothing, a blank, or a new line of a level
pub data Gap : Type 0 where
  none : Gap
  blank : Gap
  line : (level : ℕ) → Gap

-- a token with what stands before it
pub record Spaced : Type 0 where
  pub gap : Gap
  pub token : Terminal

abbrev pub spaced : Gap → Terminal → Spaced
spaced g x = record { gap = g; token = x }

abbrev pub gap_of : Bool → Gap
gap_of true = blank
gap_of false = none

abbrev pub tokens_of : List Spaced → List Terminal
tokens_of ps = map (λ (p : Spaced). p.token) ps

-- how a grammar is filled: which ways are taken, and which tokens stand
pub data Fill : Type 0 where
  nothing : Fill
  -- this token, and what follows it
  yes : (x : Terminal) (rest : Fill) → Fill
  -- the way with the test, and the other one
  here : (rest : Fill) → Fill
  other : (rest : Fill) → Fill
  two : (first second : Fill) → Fill
  -- one item, and one more with those behind it
  list : (item rest : Fill) → Fill
  -- the tokens of a machine
  run : (xs : List Terminal) → Fill

abbrev pub step_gap : {K D M : Type 0} → Step K D M → Bool
step_gap (goes g b m k) = g
step_gap s = false

abbrev pub step_next : {K D M : Type 0} → M → Step K D M → M
step_next m (goes g b n k) = n
step_next m s = m

abbrev pub run_written : {A T K D X M : Type 0} → Language A T K D X M → M → List Terminal → List Spaced
run_written L m [] = []
run_written L m (x ∷ xs) = spaced (gap_of (step_gap (L.step m x))) x ∷ run_written L (step_next m (L.step m x)) xs

-- the first of some tokens with another gap
abbrev pub begun : Gap → List Spaced → List Spaced
begun g [] = []
begun g (p ∷ ps) = spaced g p.token ∷ ps

-- behind a comma a blank stands before an item
abbrev pub more_written : (Fill → List Spaced) → Fill → List Spaced
more_written W (list f r) = spaced none (terminal comma []) ∷ (begun blank (W f) ++ more_written W r)
more_written W f = []

abbrev pub written : {A T K D X M : Type 0} → Language A T K D X M → Grammar K D X M → Fill → List Spaced
written L (take gap keep x on off) (yes t f) = spaced (gap_of gap) t ∷ written L on f
written L (take gap keep x on off) (other f) = written L off f
written L (peek x on off) (here f) = written L on f
written L (peek x on off) (other f) = written L off f
written L (need k on) f = written L on f
written L (both g k) (two f e) = written L g f ++ written L k e
written L (listed g) (list f r) = written L g f ++ more_written (written L g) r
written L (scan m) (run xs) = run_written L m xs
written L g f = []

abbrev pub tokens : {A T K D X M : Type 0} → Language A T K D X M → Grammar K D X M → Fill → List Terminal
tokens L g f = tokens_of (written L g f)

abbrev pub more_tokens : {A T K D X M : Type 0} → Language A T K D X M → Grammar K D X M → Fill → List Terminal
more_tokens L g f = tokens_of (more_written (written L g) f)

-- ---- what it says

abbrev pub held : {A T K D X M : Type 0} → Language A T K D X M → Bool → Terminal → T → T
held L true x t = L.hold x t
held L false x t = t

abbrev pub tell_if : {A T K D X M : Type 0} → Language A T K D X M → Option K → T → T
tell_if L None t = t
tell_if L (Some k) t = L.tell k t

abbrev pub step_tells : {A T K D X M : Type 0} → Language A T K D X M → Step K D M → Terminal → T → T
step_tells L (goes g keep m k) x t = tell_if L k (held L keep x t)
step_tells L s x t = t

abbrev pub run_tells : {A T K D X M : Type 0} → Language A T K D X M → M → List Terminal → T → T
run_tells L m [] t = t
run_tells L m (x ∷ xs) t = run_tells L (step_next m (L.step m x)) xs (step_tells L (L.step m x) x t)

abbrev pub more_tells : {T : Type 0} → (Fill → T → T) → Fill → T → T
more_tells S (list f r) t = more_tells S r (S f t)
more_tells S f t = t

abbrev pub tells : {A T K D X M : Type 0} → Language A T K D X M → Grammar K D X M → Fill → T → T
tells L (take gap keep x on off) (yes s f) t = tells L on f (held L keep s t)
tells L (take gap keep x on off) (other f) t = tells L off f t
tells L (peek x on off) (here f) t = tells L on f t
tells L (peek x on off) (other f) t = tells L off f t
tells L (need k on) f t = tells L on f t
tells L (act k) f t = L.tell k t
tells L (both g k) (two f e) t = tells L k e (tells L g f t)
tells L (listed g) (list f r) t = more_tells (tells L g) r (tells L g f t)
tells L (scan m) (run xs) t = run_tells L m xs t
tells L g f t = t

-- ---- which fillings fit: each way by the next token, each entry where there is space

-- the first of some tokens, or the one behind them
abbrev pub first_seen : List Terminal → Terminal → Terminal
first_seen [] y = y
first_seen (p ∷ ps) y = p

abbrev pub space_if : {A T K D X M : Type 0} → Language A T K D X M → Option K → T → Bool
space_if L None t = true
space_if L (Some k) t = L.space k t

abbrev pub may_close : {D : Type 0} → Option D → Bool
may_close None = true
may_close (Some d) = false

abbrev pub is_end : {K D M : Type 0} → Step K D M → Bool
is_end ends = true
is_end s = false

-- a machine ends before this token
abbrev pub stops : {A T K D X M : Type 0} → Language A T K D X M → M → Terminal → Bool
stops L m the_end = may_close (L.close m)
stops L m (terminal k bytes) = is_end (L.step m (terminal k bytes))

abbrev pub step_fits : {A T K D X M : Type 0} → Language A T K D X M → Step K D M → Terminal → T → Bool
step_fits L (goes g keep m k) x t = space_if L k (held L keep x t)
step_fits L s x t = false

-- a token, and not the end
abbrev pub is_token : Terminal → Bool
is_token the_end = false
is_token (terminal k bytes) = true

abbrev pub run_fits : {A T K D X M : Type 0} → Language A T K D X M → M → List Terminal → Terminal → T → Bool
run_fits L m [] y t = stops L m y
run_fits L m (x ∷ xs) y t =
    is_token x
    && (step_fits L (L.step m x) x t
    && run_fits L (step_next m (L.step m x)) xs y (step_tells L (L.step m x) x t))

-- the items behind the first: how they are written, what they say, and which fit
abbrev pub more_fits : {T : Type 0} → (Fill → List Spaced) → (Fill → T → T) → (Fill → Terminal → T → Bool) → Fill
    → Terminal → T → Bool
more_fits W S F (list f r) y t = F f (first_seen (tokens_of (more_written W r)) y) t && more_fits W S F r y (S f t)
more_fits W S F nothing y t = not (is_kind comma y)
more_fits W S F f y t = false

abbrev pub fits : {A T K D X M : Type 0} → Language A T K D X M → Grammar K D X M → Fill → Terminal → T → Bool
fits L skip nothing y t = true
fits L (take gap keep x on off) (yes s f) y t = L.allows x s t && fits L on f y (held L keep s t)
fits L (take gap keep x on off) (other f) y t = not (L.allows x (first_seen (tokens L off f) y) t) && fits L off f y t
fits L (peek x on off) (here f) y t = L.allows x (first_seen (tokens L on f) y) t && fits L on f y t
fits L (peek x on off) (other f) y t = not (L.allows x (first_seen (tokens L off f) y) t) && fits L off f y t
fits L (need k on) f y t = L.space k t && fits L on f y t
fits L (act k) nothing y t = L.space k t
fits L (both g k) (two f e) y t = fits L g f (first_seen (tokens L k e) y) t && fits L k e y (tells L g f t)
fits L (listed g) (list f r) y t =
    fits L g f (first_seen (more_tokens L g r) y) t
    && more_fits (written L g) (tells L g) (fits L g) r y (tells L g f t)
fits L (scan m) (run xs) y t = run_fits L m xs y t
fits L g f y t = false

-- ---- a language whose two sides agree on a text

-- these tokens stand from one number up to another
abbrev pub AllStand : List Token → ℕ → List Terminal → ℕ → Type 0
AllStand all at [] next = at ≡ next
AllStand all at (p ∷ ps) next = (terminal_at all at ≡ p) × AllStand all (at + 1) ps next

-- `Says h t`: what was read of a text says so much. Each step of a reading keeps it
pub record Lawful {A T K D X M : Type 0} (L : Language A T K D X M) (all : List Token) (Says : A → T → Type 0) : Type 0
  where
    pub ended : (x : X) (h : A) → L.passes x the_end h ≡ false
    pub pushed : (h : A) (t : T) (at : ℕ) → Says h t
        → Says (L.push at (terminal_at all at) h) (L.hold (terminal_at all at) t)
    pub added : (k : K) (h : A) (t : T) → Says h t → Says (L.add k h) (L.tell k t)
    pub roomy : (k : K) (h : A) (t : T) → Says h t → L.room k h ≡ L.space k t
    pub tested : (x : X) (y : Terminal) (h : A) (t : T) → Says h t → L.passes x y h ≡ L.allows x y t

-- ---- which actions a grammar may come to

abbrev pub may_act : {K : Type 0} → (K → Bool) → Option K → Bool
may_act ok None = true
may_act ok (Some k) = ok k

-- a step by an action that is allowed, to a state that is allowed
abbrev pub step_only : {K D M : Type 0} → (K → Bool) → (M → Bool) → Step K D M → Bool
step_only ok runs (goes gap keep m k) = runs m && may_act ok k
step_only ok runs s = true

-- ok are the actions that are allowed, and runs the states of the machines that are
abbrev pub acts_only : {K D X M : Type 0} → (K → Bool) → (M → Bool) → Grammar K D X M → Bool
acts_only ok runs (take gap keep x on off) = acts_only ok runs on && acts_only ok runs off
acts_only ok runs (peek x on off) = acts_only ok runs on && acts_only ok runs off
acts_only ok runs (need k on) = acts_only ok runs on
acts_only ok runs (act k) = ok k
acts_only ok runs (both g k) = acts_only ok runs g && acts_only ok runs k
acts_only ok runs (listed g) = acts_only ok runs g
acts_only ok runs (scan m) = runs m
acts_only ok runs g = true

-- states that are allowed go on to such states, by such actions
abbrev pub Confined : {A T K D X M : Type 0} → Language A T K D X M → (K → Bool) → (M → Bool) → Type 0
Confined {M = M} L ok runs = (m : M) (x : Terminal) → runs m ≡ true → step_only ok runs (L.step m x) ≡ true
