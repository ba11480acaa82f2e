-- No two tokens of a dense body run together, whatever the machine takes.
use Rattle.std.proofs.Common.{◌≡◌, inl, inr, ℕ, Bool, true, false, List, [], ◌∷◌, ◌++◌, Option, Some, None, refl}
use Rattle.std.proofs.Common.{sym, ap, subst, ◌∙◌}
use Rattle.std.specs.Prelude.{codes, if◌then◌else◌}
use Rattle.std.specs.List.{list_all}
use Rattle.xf_lex.specs.declared.token.TokenKind.TheVariants as kind
use Rattle.xf_grammar.specs.Tokens.{Terminal, the_end, terminal, is_kind, is_word, comma, minus, open_bracket}
use Rattle.xf_grammar.specs.Grammar.{ends, fails, goes, run_fits, run_written, gap_of, is_end, is_token, step_fits}
use Rattle.xf_grammar.specs.Apart.{Before, a_gap, a_token, before, stands, in_mode, apart, last, is_gap}
use Rattle.xf_grammar.specs.Apart.{all_stand, Among, StandApart}
use Rattle.xf_grammar.proofs.Basics.{both_true, and_is}
use Rattle.xf_dense.specs.declared.state.Stage.{Stage}
use Rattle.xf_dense.specs.declared.state.Stage.TheVariants as stage
use Rattle.xf_dense.specs.Actions.{Action as BodyAction, integer_is, truth_is}
use Rattle.xf_dense.specs.declared.expected.Due.{Due}
use Rattle.xf_dense.specs.declared.expected.Due.TheVariants as due
use Rattle.xf_dense.specs.Machine as body
use Rattle.xf_dense.specs.Machine.{Move, item_begins, list_begins, literal_begins, behind_literal, with_gap, gap_before}
use Rattle.xf_dense.specs.Machine.{comma_follows, list_ends, behind_list, step_at, takes_lists, takes_literals, may_end}
use Rattle.xf_dense.specs.Machine.{may_go_on, wanted, outer, grown}
use Rattle.xf_dense.specs.Nests.{close_bracket, close_angle}
use Rattle.xf_format.specs.Actions.{Saying}
use Rattle.xf_format.specs.Rules.{language}
use Rattle.xf_format.specs.Tests.{State, lifted}
use Rattle.xf_ir.proofs.Lists.{at_cases}
use Rattle.xf_print_laws.proofs.Classes.{of_kind_there, of_word_there}

-- ---- what stands before items, and behind them

-- the tokens that begin an item
abbrev starters : List Before
starters =
    a_token open_bracket false ∷ a_token minus false ∷ a_token kind.Integer false ∷ a_token kind.Word false ∷ []

abbrev closers : List Before
closers = a_token kind.Integer false ∷ a_token kind.Word false ∷ a_token close_bracket false ∷ []

-- each of them may stand behind it
abbrev pub loose : List Before → Bool
loose bs = all_stand bs false starters

abbrev Loose : Before → Type 0
Loose b = loose (b ∷ []) ≡ true

-- it ends an item, and a comma and a bracket may stand behind it
abbrev Firm : Before → Type 0
Firm b = (all_stand (b ∷ []) false (a_token comma false ∷ a_token close_bracket false ∷ []) ≡ true) × Among b closers

abbrev Ready : Stage → Before → Type 0
Ready stage.Start b = ⊥
Ready stage.Item b = Loose b
Ready stage.Digits b = Loose b
Ready stage.Behind b = Firm b
Ready stage.End b = Firm b

-- ---- one step

-- its token may stand there without a blank, and is one that may stand before what follows
abbrev Moves : Before → Terminal → Move → Type 0
Moves b x ends = ⊥
Moves b x (fails d) = Unit {0}
Moves b x (goes gap keep m k) = (stands b false (before x) ≡ true) × Ready m.stage (before x)

moves_if : (b : Before) (x : Terminal) (c : Bool) (m : Move) (d : Due) → Moves b x m
    → Moves b x (if c then m else fails d)
moves_if b x true m d h = h
moves_if b x false m d h = tt

-- a token that is told by what stands before the place behind it
told_before : (b c : Before) (x : Terminal) (g : Stage) → before x ≡ c → stands b false c ≡ true → Ready g c
    → (stands b false (before x) ≡ true) × Ready g (before x)
told_before b c x g e s r = rw e (s, r)

only : (b c : Before) → Among b (c ∷ []) → b ≡ c
only b c (inl e) = e
only b c (inr h) = absurd h

record Begun (b : Before) : Type 0 where
  bracket : stands b false (a_token open_bracket false) ≡ true
  sign : stands b false (a_token minus false) ≡ true
  digits : stands b false (a_token kind.Integer false) ≡ true
  word : stands b false (a_token kind.Word false) ≡ true

begun : (b : Before) → Loose b → Begun b
begun b h =
    let a = both_true _ true h in
    let p = both_true (stands b false (a_token open_bracket false)) _ a.0 in
    let q = both_true (stands b false (a_token minus false)) _ p.1 in
    let r = both_true (stands b false (a_token kind.Integer false)) _ q.1 in
    let s = both_true (stands b false (a_token kind.Word false)) true r.1 in
    record { bracket = p.0; sign = q.0; digits = r.0; word = s.0 }

literal_moves : (b c : Before) (x : Terminal) (s : State) (counts : List ℕ) (keep : Bool) (k : Option BodyAction)
    → before x ≡ c → stands b false c ≡ true → Firm c
    → Moves b x (literal_begins s keep (behind_literal counts s) k)
literal_moves b c x s [] keep k e h f =
    moves_if b x (takes_literals s.rank) _ _ (told_before b c x stage.End e h f)
literal_moves b c x s (n ∷ counts) keep k e h f =
    moves_if b x (takes_literals s.rank) _ _ (told_before b c x stage.Behind e h f)

item_moves : (s : State) (x : Terminal) (b : Before) → Loose b → Moves b x (item_begins s x)
item_moves s x b h =
    let g = begun b h in
    at_cases (is_kind open_bracket x) _ _ (Moves b x)
    (λ e. moves_if b x (takes_lists s.rank) _ _
    (told_before b _ x stage.Item (only _ _ (of_kind_there open_bracket x e)) g.bracket refl))
    (λ e. at_cases (is_kind minus x) _ _ (Moves b x)
    (λ e. moves_if b x (takes_literals s.rank) _ _
    (told_before b _ x stage.Digits (only _ _ (of_kind_there minus x e)) g.sign refl))
    (λ e. at_cases (is_kind kind.Integer x) _ _ (Moves b x)
    (λ e. literal_moves b _ x s s.counts true (Some (integer_is false)) (only _ _ (of_kind_there kind.Integer x e))
    g.digits (refl, inl refl))
    (λ e. at_cases (is_word (codes "true") x) _ _ (Moves b x)
    (λ e. literal_moves b _ x s s.counts false (Some (truth_is true)) (only _ _ (of_word_there (codes "true") x e))
    g.word (refl, inr (inl refl)))
    (λ e. at_cases (is_word (codes "false") x) _ _ (Moves b x)
    (λ e. literal_moves b _ x s s.counts false (Some (truth_is false)) (only _ _ (of_word_there (codes "false") x e))
    g.word (refl, inr (inl refl)))
    (λ e. tt)))))

gap_moves : (b : Before) (x : Terminal) (gap : Bool) (m : Move) → Moves b x m → Moves b x (with_gap gap m)
gap_moves b x gap ends h = h
gap_moves b x gap (fails d) h = h
gap_moves b x gap (goes none keep n k) h = h

comma_moves : (b : Before) (x : Terminal) (counts : List ℕ) (s : State) → before x ≡ a_token comma false
    → stands b false (a_token comma false) ≡ true → Moves b x (comma_follows counts s)
comma_moves b x [] s e h = tt
comma_moves b x (n ∷ counts) s e h =
    moves_if b x (may_go_on (wanted s.rank s.known) n) _ _ (told_before b _ x stage.Item e h refl)

list_moves : (b : Before) (x : Terminal) (counts : List ℕ) (rank : Option ℕ) (known : List ℕ)
    → before x ≡ a_token close_bracket false → stands b false (a_token close_bracket false) ≡ true
    → Moves b x (behind_list counts rank known)
list_moves b x [] rank known e h = told_before b _ x stage.End e h (refl, inr (inr (inl refl)))
list_moves b x (n ∷ counts) rank known e h = told_before b _ x stage.Behind e h (refl, inr (inr (inl refl)))

ends_move : (b : Before) (x : Terminal) (counts : List ℕ) (s : State) → before x ≡ a_token close_bracket false
    → stands b false (a_token close_bracket false) ≡ true → Moves b x (list_ends counts s)
ends_move b x [] s e h = tt
ends_move b x (n ∷ counts) s e h =
    moves_if b x (may_end (wanted s.rank s.known) n) _ _ (list_moves b x counts _ _ e h)

behind_moves : (s : State) (x : Terminal) (b : Before) → Firm b → Moves b x (step_at stage.Behind s x)
behind_moves s x b h =
    let a = both_true _ true h.0 in
    let p = both_true (stands b false (a_token comma false)) _ a.0 in
    let q = both_true (stands b false (a_token close_bracket false)) true p.1 in
    at_cases (is_kind comma x) _ _ (Moves b x)
    (λ e. comma_moves b x s.counts s (only _ _ (of_kind_there comma x e)) p.0)
    (λ e. at_cases (is_kind close_bracket x) _ _ (Moves b x)
    (λ e. ends_move b x s.counts s (only _ _ (of_kind_there close_bracket x e)) q.0) (λ e. tt))

digits_move : (s : State) (x : Terminal) (b : Before) → Loose b → Moves b x (step_at stage.Digits s x)
digits_move s x b h =
    let g = begun b h in
    at_cases (is_kind kind.Integer x) _ _ (Moves b x)
    (λ e. by s.counts (only _ _ (of_kind_there kind.Integer x e)) g.digits) (λ e. tt)
  where
    by : (counts : List ℕ) → before x ≡ a_token kind.Integer false
        → stands b false (a_token kind.Integer false) ≡ true
        → Moves b x (goes false true (behind_literal counts s) (Some (integer_is true)))
    by [] e l = told_before b _ x stage.End e l (refl, inl refl)
    by (n ∷ counts) e l = told_before b _ x stage.Behind e l (refl, inl refl)

-- ---- all tokens

weaker : (b c : Before) (gap : Bool) → stands b false c ≡ true → stands b gap c ≡ true
weaker b a_gap gap h = absurd cc
weaker a_gap (a_token k t) gap h = h
weaker (a_token j t) (a_token k u) true h = let p = both_true (in_mode t k) _ h in and_is _ _ p.0 refl
weaker (a_token j t) (a_token k u) false h = h

gap_is : (g : Bool) → is_gap (gap_of g) ≡ g
gap_is true = refl
gap_is false = refl

-- from a state on, behind a token: the tokens stand apart, and the last of them ends an item
abbrev RunsApart : State → Before → List Terminal → Type 0
RunsApart m b xs = (apart b (run_written language m xs) ≡ true) × Among (last b (run_written language m xs)) closers

module _ (xs : List Terminal) (y : Terminal)
    (later : (m : State) (t : Saying) (b : Before) → Ready m.stage b → run_fits language m xs y t ≡ true
    → RunsApart m b xs) where
  step_apart : (m : State) (x : Terminal) (t : Saying) (b : Before) (s : Move) → body.step m x ≡ s → Moves b x s
      → run_fits language m (x ∷ xs) y t ≡ true → RunsApart m b (x ∷ xs)
  step_apart m x t b ends e h f = absurd h
  step_apart m x t b (fails d) e h f =
      absurd (let p = both_true (step_fits language (lifted (body.step m x)) x t) _ (both_true (is_token x) _ f).1 in
      let q = sym (ap (λ s. step_fits language (lifted s) x t) e) ∙ p.0 in cc)
  step_apart m x t b (goes gap keep n k) e h f =
      let p = both_true (step_fits language (lifted (body.step m x)) x t) _ (both_true (is_token x) _ f).1 in
      let g = rw e at p.1 in
      let r = later n _ (before x) h.1 g in
      rw (e, gap_is gap) (and_is _ _ (weaker b (before x) gap h.0) r.0, r.1)

at_last : (b : Before) (x : Terminal) (s : Move) → Moves b x s → is_end (lifted s) ≡ true → ⊥
at_last b x ends h e = h
at_last b x (fails d) h e = absurd cc
at_last b x (goes gap keep n k) h e = absurd cc

-- behind the last token the machine ends behind an item
ends_firm : (g : Stage) (s : State) (y : Terminal) (b : Before) → Ready g b → is_end (lifted (step_at g s y)) ≡ true
    → Among b closers
ends_firm stage.Start s y b r e = absurd r
ends_firm stage.Item s y b r e =
    absurd (at_last b y _ (gap_moves b y (gap_before s.counts) _ (item_moves s y b r)) e)
ends_firm stage.Digits s y b r e = absurd (at_last b y _ (digits_move s y b r) e)
ends_firm stage.Behind s y b r e = absurd (at_last b y _ (behind_moves s y b r) e)
ends_firm stage.End s y b r e = r.1

-- a step that fits is a move
stage_moves : (g : Stage) (s : State) (x : Terminal) (t : Saying) (b : Before) → Ready g b
    → step_fits language (lifted (step_at g s x)) x t ≡ true → Moves b x (step_at g s x)
stage_moves stage.Start s x t b r e = absurd r
stage_moves stage.Item s x t b r e = gap_moves b x (gap_before s.counts) _ (item_moves s x b r)
stage_moves stage.Digits s x t b r e = digits_move s x b r
stage_moves stage.Behind s x t b r e = behind_moves s x b r
stage_moves stage.End s x t b r e = by (is_kind close_angle x) e
  where
    by : (c : Bool) → step_fits language (lifted (if c then ends else fails due.Other)) x t ≡ true
        → Moves b x (if c then ends else fails due.Other)
    by true e = absurd cc
    by false e = tt

start_moves : (s : State) (x : Terminal) (t : Saying) (b : Before) → Loose b
    → step_fits language (lifted (step_at stage.Start s x)) x t ≡ true → Moves b x (step_at stage.Start s x)
start_moves s x t b l e = by (is_kind close_angle x) e
  where
    by : (c : Bool) → step_fits language (lifted (if c then ends else item_begins s x)) x t ≡ true
        → Moves b x (if c then ends else item_begins s x)
    by true e = absurd cc
    by false e = item_moves s x b l

first_fits : (m : State) (x : Terminal) (xs : List Terminal) (y : Terminal) (t : Saying)
    → run_fits language m (x ∷ xs) y t ≡ true → step_fits language (lifted (body.step m x)) x t ≡ true
first_fits m x xs y t f = (both_true _ _ (both_true (is_token x) _ f).1).0

run_apart : (xs : List Terminal) (y : Terminal) (m : State) (t : Saying) (b : Before) → Ready m.stage b
    → run_fits language m xs y t ≡ true → RunsApart m b xs
run_apart [] the_end m t b r f = absurd cc
run_apart [] (terminal k bytes) m t b r f = (refl, ends_firm m.stage m (terminal k bytes) b r f)
run_apart (x ∷ xs) y m t b r f =
    step_apart xs y (run_apart xs y) m x t b (body.step m x) refl
    (stage_moves m.stage m x t b r (first_fits m x xs y t f)) f

-- ---- a body, from its start on

among_left : (b : Before) (xs ys : List Before) → Among b xs → Among b (xs ++ ys)
among_left b [] ys h = absurd h
among_left b (x ∷ xs) ys (inl e) = inl e
among_left b (x ∷ xs) ys (inr h) = inr (among_left b xs ys h)

among_right : (b : Before) (xs ys : List Before) → Among b ys → Among b (xs ++ ys)
among_right b [] ys h = h
among_right b (x ∷ xs) ys h = inr (among_right b xs ys h)

one_loose : (b : Before) (bs : List Before) → loose bs ≡ true → Among b bs → Loose b
one_loose b [] l h = absurd h
one_loose b (c ∷ bs) l (inl e) =
    let p = both_true (list_all (λ d. stands c false d) starters) _ l in
    subst Loose (sym e) (and_is _ _ p.0 refl)
one_loose b (c ∷ bs) l (inr h) =
    one_loose b bs (both_true (list_all (λ d. stands c false d) starters) _ l).1 h

-- what may stand behind the tokens of a body that begins behind one of these
abbrev pub scanned_at : Stage → List Before → Option (List Before)
scanned_at stage.Start bs = if loose bs then Some (bs ++ closers) else None
scanned_at g bs = None

body_apart : (xs : List Terminal) (y : Terminal) (m : State) (t : Saying) (b : Before) (bs : List Before)
    → m.stage ≡ stage.Start → run_fits language m xs y t ≡ true → loose bs ≡ true → Among b bs
    → StandApart b (run_written language m xs) (bs ++ closers)
body_apart [] y m t b bs s f l h = record { apart = refl; behind = among_left b bs closers h }
body_apart (x ∷ xs) y m t b bs s f l h =
    let e : body.step m x ≡ step_at stage.Start m x = ap (λ g. step_at g m x) s in
    let fit = subst (λ n. step_fits language (lifted n) x t ≡ true) e (first_fits m x xs y t f) in
    let r = step_apart xs y (run_apart xs y) m x t b _ e (start_moves m x t b (one_loose b bs l h) fit) f in
    record { apart = r.0; behind = among_right _ bs closers r.1 }

pub scanned_apart : (m : State) (xs : List Terminal) (y : Terminal) (t : Saying) (b : Before) (bs es : List Before)
    → run_fits language m xs y t ≡ true → scanned_at m.stage bs ≡ Some es → Among b bs
    → StandApart b (run_written language m xs) es
scanned_apart m xs y t b bs es f e h = by m.stage refl e
  where
    by_test : m.stage ≡ stage.Start → (c : Bool) → loose bs ≡ c → (if c then Some (bs ++ closers) else None) ≡ Some es
        → StandApart b (run_written language m xs) es
    by_test s true l e =
        let q : bs ++ closers ≡ es = cc in subst (StandApart b (run_written language m xs)) q
        (body_apart xs y m t b bs s f l h)
    by_test s false l e = absurd cc

    by : (g : Stage) → m.stage ≡ g → scanned_at g bs ≡ Some es → StandApart b (run_written language m xs) es
    by stage.Start s e = by_test s (loose bs) refl e
    by stage.Item s e = absurd cc
    by stage.Digits s e = absurd cc
    by stage.Behind s e = absurd cc
    by stage.End s e = absurd cc
