-- The machine holds a token only for an action that follows at once.
use Rattle.std.proofs.Common.{◌≡◌, Bool, true, false, List, [], ◌∷◌, Some, None, Option, ℕ, refl}
use Rattle.std.specs.Prelude.{if◌then◌else◌, codes}
use Rattle.xf_lex.specs.declared.token.TokenKind.TheVariants as kind
use Rattle.xf_grammar.specs.Tokens.{Terminal, is_kind, is_word, comma, minus, open_bracket}
use Rattle.xf_grammar.specs.Grammar.{ends, fails, goes}
use Rattle.xf_grammar.proofs.Guarded.{free_step}
use Rattle.xf_dense.specs.declared.state.Stage.{Stage}
use Rattle.xf_dense.specs.declared.state.Stage.TheVariants as stage
use Rattle.xf_dense.specs.declared.state.State.{State}
use Rattle.xf_dense.specs.Actions.{Action}
use Rattle.xf_dense.specs.Machine.{Move, with_gap, literal_begins, list_begins, item_begins, comma_follows, behind_list}
use Rattle.xf_dense.specs.Machine.{list_ends, step_at, step, takes_literals, takes_lists, may_go_on, may_end, wanted}
use Rattle.xf_dense.specs.Nests.{close_bracket, close_angle}

pub record IsQuiet (m : Move) : Type 0 where
  pub so : free_step (λ (k : Action). true) (λ (s : State). true) m ≡ true

-- a step that is seen to be so
seen : {m : Move} → free_step (λ (k : Action). true) (λ (s : State). true) m ≡ true → IsQuiet m
seen e = record { so = e }

either : (b : Bool) (y n : Move) → IsQuiet y → IsQuiet n → IsQuiet (if b then y else n)
either true y n p q = p
either false y n p q = q

gap_quiet : (gap : Bool) (m : Move) → IsQuiet m → IsQuiet (with_gap gap m)
gap_quiet gap (goes g keep s None) e = seen e.so
gap_quiet gap (goes g keep s (Some k)) e = seen refl
gap_quiet gap ends e = e
gap_quiet gap (fails d) e = e

literal_quiet : (s : State) (keep : Bool) (next : State) (k : Action) → IsQuiet (literal_begins s keep next (Some k))
literal_quiet s keep next k = either (takes_literals s.rank) _ _ (seen refl) (seen refl)

digits_quiet : (s next : State) → IsQuiet (literal_begins s false next None)
digits_quiet s next = either (takes_literals s.rank) _ _ (seen refl) (seen refl)

lists_quiet : (s : State) → IsQuiet (list_begins s)
lists_quiet s = either (takes_lists s.rank) _ _ (seen refl) (seen refl)

item_quiet : (s : State) (x : Terminal) → IsQuiet (item_begins s x)
item_quiet s x =
    either (is_kind open_bracket x) _ _ (lists_quiet s)
    (either (is_kind minus x) _ _ (digits_quiet s _)
    (either (is_kind kind.Integer x) _ _ (literal_quiet s true _ _)
    (either (is_word (codes "true") x) _ _ (literal_quiet s false _ _)
    (either (is_word (codes "false") x) _ _ (literal_quiet s false _ _) (seen refl)))))

comma_quiet : (counts : List ℕ) (s : State) → IsQuiet (comma_follows counts s)
comma_quiet [] s = seen refl
comma_quiet (c ∷ cs) s = either (may_go_on (wanted s.rank s.known) c) _ _ (seen refl) (seen refl)

behind_quiet : (counts : List ℕ) (rank : Option ℕ) (known : List ℕ) → IsQuiet (behind_list counts rank known)
behind_quiet [] rank known = seen refl
behind_quiet (c ∷ cs) rank known = seen refl

list_quiet : (counts : List ℕ) (s : State) → IsQuiet (list_ends counts s)
list_quiet [] s = seen refl
list_quiet (c ∷ cs) s = either (may_end (wanted s.rank s.known) c) _ _ (behind_quiet cs _ _) (seen refl)

quiet_at : (g : Stage) (s : State) (x : Terminal) → IsQuiet (step_at g s x)
quiet_at stage.Start s x = either (is_kind close_angle x) _ _ (seen refl) (item_quiet s x)
quiet_at stage.Item s x = gap_quiet _ (item_begins s x) (item_quiet s x)
quiet_at stage.Digits s x = either (is_kind kind.Integer x) _ _ (seen refl) (seen refl)
quiet_at stage.Behind s x =
    either (is_kind comma x) _ _ (comma_quiet s.counts s)
    (either (is_kind close_bracket x) _ _ (list_quiet s.counts s) (seen refl))
quiet_at stage.End s x = either (is_kind close_angle x) _ _ (seen refl) (seen refl)

pub quiet : (s : State) (x : Terminal) → IsQuiet (step s x)
quiet s x = quiet_at s.stage s x
