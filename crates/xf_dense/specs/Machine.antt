-- The machine that reads the body of a dense constant, token by token, and ends before its `>`.
use Rattle.std.specs.Prelude.{ℕ, zero, suc, List, [], ◌∷◌, ◌++◌, reverse, slice_get, Option, Some, None, Bool, true}
use Rattle.std.specs.Prelude.{false, if◌then◌else◌, nat_lt, ◌==◌, codes}
use Rattle.xf_lex.specs.declared.token.TokenKind.TheVariants as kind
use Rattle.xf_grammar.specs.Tokens.{Terminal, is_kind, is_word, comma, minus, open_bracket}
use Rattle.xf_grammar.specs.Grammar.{Step, ends, fails, goes, Language}
use Rattle.xf_dense.specs.declared.expected.Due.{Due}
use Rattle.xf_dense.specs.declared.expected.Due.TheVariants as due
use Rattle.xf_dense.specs.declared.state.Stage.{Stage}
use Rattle.xf_dense.specs.declared.state.Stage.TheVariants as stage
use Rattle.xf_dense.specs.declared.state.State.{State}
use Rattle.xf_dense.specs.Actions.{Action, integer_is, truth_is, shape_is, Reading, Saying, add, tell, room, space}
use Rattle.xf_dense.specs.Nests.{close_bracket, close_angle}

-- no list is open, and nothing is known
abbrev pub at_stage : Stage → State
at_stage s = record { stage = s; counts = []; rank = None; known = [] }

abbrev pub start : State
start = at_stage stage.Start

-- behind one literal, or behind the outermost list
abbrev pub over : State
over = at_stage stage.End

abbrev pub Move : Type 0
Move = Step Action Due State

-- ---- depths: 0 is that of literals

abbrev pub takes_literals : Option ℕ → Bool
takes_literals (Some (suc r)) = false
takes_literals r = true

abbrev pub takes_lists : Option ℕ → Bool
takes_lists (Some zero) = false
takes_lists r = true

-- how deep the items of an item are, and how deep the list is whose items are so deep
abbrev pub inner : Option ℕ → Option ℕ
inner (Some (suc r)) = Some r
inner r = None

abbrev pub outer : Option ℕ → Option ℕ
outer (Some r) = Some (suc r)
outer None = None

-- ---- extents

-- how many items a list is to have whose items are so deep, where one of its level is closed
abbrev pub wanted : Option ℕ → List ℕ → Option ℕ
wanted (Some r) known = slice_get known r
wanted None known = None

-- whether a list with so many items may have one more, and whether it may end
abbrev pub may_go_on : Option ℕ → ℕ → Bool
may_go_on None count = true
may_go_on (Some n) count = nat_lt count n

abbrev pub may_end : Option ℕ → ℕ → Bool
may_end None count = true
may_end (Some n) count = count == n

-- what is known behind a list with so many items
abbrev pub grown : Option ℕ → ℕ → List ℕ → List ℕ
grown None count known = known ++ count ∷ []
grown (Some n) count known = known

-- ---- an item

-- behind a comma a blank stands before an item
abbrev pub gap_before : List ℕ → Bool
gap_before (suc n ∷ counts) = true
gap_before counts = false

abbrev pub with_gap : Bool → Move → Move
with_gap gap (goes none keep next act) = goes gap keep next act
with_gap gap m = m

-- behind a literal that is an item of these lists, or the whole body
abbrev pub behind_literal : List ℕ → State → State
behind_literal [] s = record s { stage = stage.End }
behind_literal (count ∷ counts) s = record s { stage = stage.Behind; counts = suc count ∷ counts; rank = Some 0 }

-- a literal begins, where the items may be literals
abbrev pub literal_begins : State → Bool → State → Option Action → Move
literal_begins s keep next act = if takes_literals s.rank then goes false keep next act else fails due.Other

-- a list is opened, where the items may be lists
abbrev pub list_begins : State → Move
list_begins s =
    if takes_lists s.rank
    then goes false false (record s { stage = stage.Item; counts = 0 ∷ s.counts; rank = inner s.rank }) None
    else fails due.Other

abbrev pub item_begins : State → Terminal → Move
item_begins s x =
    if is_kind open_bracket x then list_begins s
    else (if is_kind minus x then literal_begins s false (record s { stage = stage.Digits }) None
    else (if is_kind kind.Integer x then literal_begins s true (behind_literal s.counts s) (Some (integer_is false))
    else (if is_word (codes "true") x then literal_begins s false (behind_literal s.counts s) (Some (truth_is true))
    else (if is_word (codes "false") x then literal_begins s false (behind_literal s.counts s) (Some (truth_is false))
    else fails due.Item))))

-- ---- behind an item

abbrev pub comma_follows : List ℕ → State → Move
comma_follows [] s = fails due.Other
comma_follows (count ∷ counts) s =
    if may_go_on (wanted s.rank s.known) count then goes false false (record s { stage = stage.Item }) None
    else fails due.Other

-- behind a list that is an item of these, at this depth
abbrev pub behind_list : List ℕ → Option ℕ → List ℕ → Move
behind_list [] rank known = goes false false over (Some (shape_is (reverse known)))
behind_list (count ∷ counts) rank known =
    goes false false (record { stage = stage.Behind; counts = suc count ∷ counts; rank = rank; known = known }) None

abbrev pub list_ends : List ℕ → State → Move
list_ends [] s = fails due.Other
list_ends (count ∷ counts) s =
    if may_end (wanted s.rank s.known) count
    then behind_list counts (outer s.rank) (grown (wanted s.rank s.known) count s.known)
    else fails due.Other

-- ---- the machine

abbrev pub step_at : Stage → State → Terminal → Move
step_at stage.Start s x = if is_kind close_angle x then ends else item_begins s x
step_at stage.Item s x = with_gap (gap_before s.counts) (item_begins s x)
step_at stage.Digits s x =
    if is_kind kind.Integer x then goes false true (behind_literal s.counts s) (Some (integer_is true))
    else fails due.Other
step_at stage.Behind s x =
    if is_kind comma x then comma_follows s.counts s
    else (if is_kind close_bracket x then list_ends s.counts s else fails due.Other)
step_at stage.End s x = if is_kind close_angle x then ends else fails due.Other

abbrev pub step : State → Terminal → Move
step s x = step_at s.stage s x

-- what is due at the end of a text, at which no body ends
abbrev pub due_at : Stage → Due
due_at stage.Start = due.Item
due_at stage.Item = due.Item
due_at s = due.Other

abbrev pub close : State → Option Due
close s = Some (due_at s.stage)

abbrev pub full : Action → Due
full k = due.End

-- the machine tests tokens by its steps alone
abbrev pub language : Language Reading Saying Action Due ⊥ State
language = record {
  push = λ at x h. record h { held = h.held ++ (at, x) ∷ [] };
  hold = λ x t. record t { held = t.held ++ x ∷ [] };
  add = add;
  tell = tell;
  room = room;
  space = space;
  full = full;
  passes = λ x y h. false;
  allows = λ x y t. false;
  step = step;
  close = close;
}
