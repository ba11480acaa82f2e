-- What the slots leave as it is: the row of an operation, and in most of them whether its terminator may be left out.
use Rattle.std.proofs.Common.{◌≡◌, ℕ, Bool, true, false, List, [], ◌∷◌, Some, None, Ok, refl, ◌∙◌}
use Rattle.xf_lex.specs.declared.token.Token.{Token}
use Rattle.xf_grammar.specs.Tokens.{Terminal}
use Rattle.xf_grammar.specs.Grammar.{acts_only, Step, ends, fails, goes, step_only, Fill, tells, read}
use Rattle.xf_grammar.proofs.Basics.{and_is}
use Rattle.xf_grammar.proofs.Kept.{Keeps, kept_at}
use Rattle.xf_grammar.proofs.Telling.{Ignores, telling}
use Rattle.xf_dense.specs.declared.expected.Due.{Due}
use Rattle.xf_dense.specs.Actions.{Action as BodyAction}
use Rattle.xf_dense.specs.Machine as body
use Rattle.xf_format.specs.declared.parts.Parts.{Parts}
use Rattle.xf_format.specs.declared.row.FormatElement.{FormatElement}
use Rattle.xf_format.specs.declared.row.FormatElement.TheVariants as slot
use Rattle.xf_format.specs.declared.row.Row.{Row}
use Rattle.xf_format.specs.declared.row.Side.TheVariants.{Offsets, Sizes}
use Rattle.xf_format.specs.Actions.{Action, begins, result_is, dense_is, place_is, place_given, Reading, Saying}
use Rattle.xf_format.specs.Actions.{parts_by, said_by}
use Rattle.xf_format.specs.Format.{ends_open}
use Rattle.xf_format.specs.Parts.{Said}
use Rattle.xf_format.specs.Rules.{language, kind_rule, word_rule, symbol_rule, module_name_rule, function_name_rule}
use Rattle.xf_format.specs.Rules.{argument_rule, use_rule, width_rule, type_rule, result_rule, predicate_rule}
use Rattle.xf_format.specs.Rules.{block_name_rule, number_rule, literal_rule, entry_width_rule, entry_number_rule}
use Rattle.xf_format.specs.Rules.{entry_value_rule, entry_rule, param_rule, pair_rule, until_rule, dictionary_rule}
use Rattle.xf_format.specs.Rules.{attributes_rule, result_types_rule, call_results_rule, function_results_rule}
use Rattle.xf_format.specs.Rules.{listed_results_rule, if_results_rule, operands_rule, iter_args_rule, loop_width_rule}
use Rattle.xf_format.specs.Rules.{tensor_rule, result_tensor_rule, typed_rule, ins_rule, some_ins_rule, outs_rule}
use Rattle.xf_format.specs.Rules.{dense_rule, dense_type_rule, place_rule, stride_rule, iterator_rule, dimension_rule}
use Rattle.xf_format.specs.Rules.{given_rule, map_form_rule, map_rule, maps_rule, marked_rule}
use Rattle.xf_format.specs.Rules.{slot_rule, slots_rule}
use Rattle.xf_format.specs.Tests.{State, lifted, known}
use Rattle.xf_format.proofs.Lawful.{no_end}

-- every machine may run
abbrev pub every : State → Bool
every m = true

-- the actions that leave the row, and those that leave the types of results too
abbrev pub leaves_row : Action → Bool
leaves_row begins = false
leaves_row k = true

abbrev pub leaves_results : Action → Bool
leaves_results begins = false
leaves_results result_is = false
leaves_results k = true

-- the steps of machines come to actions of bodies
lifted_only : (ok : Action → Bool) → ((k : BodyAction) → ok (dense_is k) ≡ true) → (s : Step BodyAction Due State)
    → step_only ok every (lifted s) ≡ true
lifted_only ok e ends = refl
lifted_only ok e (fails d) = refl
lifted_only ok e (goes gap keep m None) = refl
lifted_only ok e (goes gap keep m (Some k)) = e k

pub slots_only : (ok : Action → Bool) → ((s : FormatElement) → acts_only ok every (slot_rule s) ≡ true)
    → (ss : List FormatElement) → acts_only ok every (slots_rule ss) ≡ true
slots_only ok one [] = refl
slots_only ok one (s ∷ ss) = and_is _ _ (one s) (slots_only ok one ss)

pub slot_leaves_row : (s : FormatElement) → acts_only leaves_row every (slot_rule s) ≡ true
unfolding kind_rule word_rule symbol_rule module_name_rule function_name_rule argument_rule use_rule width_rule
    type_rule result_rule predicate_rule block_name_rule number_rule literal_rule entry_width_rule entry_number_rule
    entry_value_rule entry_rule param_rule pair_rule until_rule dictionary_rule attributes_rule result_types_rule
    call_results_rule function_results_rule listed_results_rule if_results_rule operands_rule iter_args_rule
    loop_width_rule tensor_rule result_tensor_rule typed_rule ins_rule some_ins_rule outs_rule dense_rule dense_type_rule
    place_rule stride_rule iterator_rule dimension_rule given_rule map_form_rule map_rule maps_rule marked_rule
slot_leaves_row (slot.Mark gap b) = refl
slot_leaves_row s = refl

-- ---- each action, whatever is held

row_added : (k : Action) (hs : List (ℕ × Terminal)) (p : Parts) → leaves_row k ≡ true → (parts_by k hs p).row ≡ p.row
row_added begins hs p e = absurd cc
row_added (place_given Offsets) hs p e = refl
row_added (place_given Sizes) hs p e = refl
row_added (place_is Offsets negative) [] p e = refl
row_added (place_is Offsets negative) (x ∷ hs) p e = refl
row_added (place_is Sizes negative) [] p e = refl
row_added (place_is Sizes negative) (x ∷ hs) p e = refl
row_added k [] p e = refl
row_added k (x ∷ []) p e = refl
row_added k (x ∷ (y ∷ [])) p e = refl
row_added k (x ∷ (y ∷ (z ∷ zs))) p e = refl

row_told : (k : Action) (hs : List Terminal) (t : Said) → leaves_row k ≡ true → (said_by k hs t).row ≡ t.row
row_told begins hs t e = absurd cc
row_told (place_given Offsets) hs t e = refl
row_told (place_given Sizes) hs t e = refl
row_told (place_is Offsets negative) [] t e = refl
row_told (place_is Offsets negative) (x ∷ hs) t e = refl
row_told (place_is Sizes negative) [] t e = refl
row_told (place_is Sizes negative) (x ∷ hs) t e = refl
row_told k [] t e = refl
row_told k (x ∷ []) t e = refl
row_told k (x ∷ (y ∷ [])) t e = refl
row_told k (x ∷ (y ∷ (z ∷ zs))) t e = refl

open_told : (k : Action) (hs : List Terminal) (t : Said) → leaves_results k ≡ true
    → ends_open (said_by k hs t).row (said_by k hs t).results ≡ ends_open t.row t.results
open_told begins hs t e = absurd cc
open_told result_is hs t e = absurd cc
open_told (place_given Offsets) hs t e = refl
open_told (place_given Sizes) hs t e = refl
open_told (place_is Offsets negative) [] t e = refl
open_told (place_is Offsets negative) (x ∷ hs) t e = refl
open_told (place_is Sizes negative) [] t e = refl
open_told (place_is Sizes negative) (x ∷ hs) t e = refl
open_told k [] t e = refl
open_told k (x ∷ []) t e = refl
open_told k (x ∷ (y ∷ [])) t e = refl
open_told k (x ∷ (y ∷ (z ∷ zs))) t e = refl

-- ---- rules

-- the row stays as what is read begins
keeps_row : (all : List Token) (r : Row) → Keeps language all leaves_row every (λ n h. h.parts.row ≡ r)
keeps_row all r = record {
  ended = λ x h. no_end x (known h);
  confined = λ m x e. confined m x;
  on = λ at h lt e. e;
  held = λ at h lt e. e;
  added = λ at k h o room e. row_added k h.held h.parts o ∙ e;
}
  where
    confined : (m : State) (x : Terminal) → step_only leaves_row every (language.step m x) ≡ true
    confined m x = lifted_only leaves_row (λ k. refl) (body.step m x)

pub slots_keep_row : (all : List Token) (ss : List FormatElement) (f : ℕ) (h h' : Reading) (at next : ℕ)
    → read language f (slots_rule ss) all h at ≡ Ok (h', next) → h'.parts.row ≡ h.parts.row
slots_keep_row all ss f h h' at next e =
    kept_at language all leaves_row every (λ n k. k.parts.row ≡ h.parts.row) (keeps_row all h.parts.row) f
    (slots_rule ss) h h' at next (slots_only leaves_row slot_leaves_row ss) refl e

-- and what it says
row_ignored : Ignores language leaves_row every (λ t. t.said.row)
row_ignored = record {
  confined = λ m x e. confined m x;
  held = λ x t. refl;
  told = λ k t o. row_told k t.held t.said o;
}
  where
    confined : (m : State) (x : Terminal) → step_only leaves_row every (language.step m x) ≡ true
    confined m x = lifted_only leaves_row (λ k. refl) (body.step m x)

pub slots_say_row : (ss : List FormatElement) (p : Fill) (t : Saying)
    → (tells language (slots_rule ss) p t).said.row ≡ t.said.row
slots_say_row ss p t = telling language leaves_row every (λ t. t.said.row) row_ignored (slots_rule ss) p t
    (slots_only leaves_row slot_leaves_row ss)

open_ignored : Ignores language leaves_results every (λ t. ends_open t.said.row t.said.results)
open_ignored = record {
  confined = λ m x e. confined m x;
  held = λ x t. refl;
  told = λ k t o. open_told k t.held t.said o;
}
  where
    confined : (m : State) (x : Terminal) → step_only leaves_results every (language.step m x) ≡ true
    confined m x = lifted_only leaves_results (λ k. refl) (body.step m x)

-- whether the terminator may be left out, where no slot has types of results
pub slots_say_open : (ss : List FormatElement) → acts_only leaves_results every (slots_rule ss) ≡ true
    → (p : Fill) (t : Saying)
    → ends_open (tells language (slots_rule ss) p t).said.row (tells language (slots_rule ss) p t).said.results
    ≡ ends_open t.said.row t.said.results
slots_say_open ss e p t = telling language leaves_results every (λ t. ends_open t.said.row t.said.results) open_ignored
    (slots_rule ss) p t e
