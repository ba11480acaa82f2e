-- The format of payloads: both its sides agree on a text.
use Rattle.std.proofs.Common.{◌≡◌, ℕ, true, List, refl, sym, ap, ◌∙◌}
use Rattle.std.specs.Prelude.{codes, not}
use Rattle.std.proofs.lemmas.Bool.{false≢true}
use Rattle.std.proofs.lemmas.List.Elements.{All-nil}
use Rattle.std.proofs.lemmas.Slice.Eq.{bytes_eq-Decides}
use Rattle.xf_lex.specs.declared.token.Token.{Token}
use Rattle.xf_lex.specs.declared.token.TokenKind.TheVariants as kind
use Rattle.xf_grammar.specs.Tokens.{Terminal, the_end, terminal, terminal_at, is_kind, is_word}
use Rattle.xf_grammar.specs.Grammar.{Fill, refuse, peek, yes, other, here, written, tells, fits, acts_only}
use Rattle.xf_grammar.specs.Tree.{closes, begins as opens_operation, Opens, LeavesOpen, Parted, Fitting}
use Rattle.xf_grammar.proofs.Basics.{both_true}
use Rattle.xf_format.specs.declared.expected.Expected.{Expected}
use Rattle.xf_format.specs.declared.expected.Expected.TheVariants as due
use Rattle.xf_format.specs.declared.row.Body.{Body}
use Rattle.xf_format.specs.declared.row.Body.TheVariants as body
use Rattle.xf_format.specs.declared.row.Level.{Level}
use Rattle.xf_format.specs.declared.row.Row.{Row}
use Rattle.xf_format.specs.declared.row.Row.TheVariants as row
use Rattle.xf_format.specs.Actions.{IsHeld, Saying, Says}
use Rattle.xf_format.specs.Format.{regions_of, ends_open, format}
use Rattle.xf_format.specs.Parts.{said}
use Rattle.xf_format.specs.Rows.{slots, bodies, header, tail, has_operations}
use Rattle.xf_format.specs.Rules.{language, due_at, row_rule, head_rule, slots_rule, kind_rule, argument_rule}
use Rattle.xf_format.specs.Rules.{type_rule, block_name_rule, entry_width_rule, entry_number_rule, entry_value_rule}
use Rattle.xf_format.specs.Rules.{entry_rule, param_rule, until_rule, dictionary_rule, tensor_rule, result_rule}
use Rattle.xf_format.specs.Words.{opens, row_begun}
use Rattle.xf_format.proofs.Lawful.{lawful}
use Rattle.xf_format.proofs.Leaving.{leaves_results, every, slots_say_row, slots_say_open}

-- ---- the first token of a head closes nothing

value_opens : (x : Terminal) → is_kind kind.Value x ≡ true → not (closes x) ≡ true
value_opens the_end e = absurd cc
value_opens (terminal kind.Value bytes) e = refl
value_opens (terminal k bytes) e = absurd cc

word_opens : (l : Level) (x : Terminal) → opens l (row_begun x) ≡ true → not (closes x) ≡ true
word_opens l the_end e = absurd cc
word_opens l (terminal kind.Word bytes) e = refl
word_opens l (terminal k bytes) e = absurd cc

row_opens : (l : Level) (p : Fill) (y : Terminal) (t : Saying) → fits language (row_rule l) p y t ≡ true
    → opens_operation (written language (row_rule l) p) ≡ true
unfolding row_rule
row_opens l (yes x p) y t e = word_opens l x (both_true _ _ e).0
row_opens l (other p) y t e = absurd (false≢true (both_true _ _ e).1)
row_opens l p y t e = absurd cc

head_opens : (l : Level) → Opens format (head_rule l)
unfolding head_rule
head_opens l (yes x p) y e = value_opens x (both_true (has_operations l) _ (both_true _ _ e).0).1
head_opens l (other p) y e = row_opens l p y _ (both_true _ _ e).1
head_opens l p y e = absurd cc

-- ---- what stands behind the slots leaves whether the terminator may be left out

header_leaves : (r : Row) → acts_only leaves_results every (slots_rule (header r)) ≡ true
unfolding kind_rule argument_rule type_rule tensor_rule block_name_rule param_rule until_rule
header_leaves row.Generic = refl
header_leaves r = refl

header_open : (r : Row) → LeavesOpen format r (slots_rule (header r))
header_open r p t e = slots_say_open (header r) (header_leaves r) p t

tail_open : (r : Row) → LeavesOpen format r (slots_rule (tail r))
unfolding dictionary_rule until_rule entry_rule entry_value_rule entry_number_rule entry_width_rule kind_rule
tail_open row.Generic p t e =
    ap (λ r. ends_open r (tells language (slots_rule (tail row.Generic)) p t).said.results)
    (slots_say_row (tail row.Generic) p t ∙ e) ∙ sym (ap (λ r. ends_open r t.said.results) e)
tail_open r p t e = slots_say_open (tail r) refl p t

-- ---- else

else_is : (x : Terminal) (w : List ℕ) → is_word w x ≡ true → x ≡ terminal kind.Word w
else_is (terminal kind.Word bytes) w e = ap (terminal kind.Word) ((bytes_eq-Decides bytes w).0 e)
else_is x w e = absurd cc

parted : (all : List Token) (b : Body) → Parted language all (regions_of b)
parted all body.None = tt
parted all body.One = λ at t e. else_is (terminal_at all at) (codes "else") e
parted all body.WithElse = λ at t e. else_is (terminal_at all at) (codes "else") e

pub fitting : (all : List Token) → Fitting format all (Says all) (said all)
fitting all = record {
  lawful = lawful all;
  said_empty = record { tokens = All-nil (IsHeld all); held = refl; parts = refl };
  kept = λ h t s. s.parts;
  row_kept = λ p. refl;
  open_kept = λ p. refl;
  head_opens = head_opens;
  slots_row = λ r p t e. slots_say_row (slots r) p t ∙ e;
  header_row = λ r p t e. slots_say_row (header r) p t ∙ e;
  header_open = header_open;
  tail_open = tail_open;
  parted = λ r. parted all (bodies r);
}
