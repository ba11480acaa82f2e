-- The tokens in the parts of a head are of their kinds, and names and strings are short ones: once, by the actions and
-- the tests that they stand behind.
use Rattle.std.proofs.Common.{◌≡◌, ℕ, ◌+◌, Bool, true, false, List, [], ◌∷◌, ◌++◌, Option, Some, None, refl}
use Rattle.std.specs.Prelude.{All}
use Rattle.std.proofs.lemmas.List.Elements.{All-nil, All-push}
use Rattle.xf_lex.specs.declared.token.Token.{Token}
use Rattle.xf_lex.specs.declared.token.TokenKind.{TokenKind}
use Rattle.xf_lex.specs.declared.token.TokenKind.TheVariants as kind
use Rattle.xf_grammar.specs.Tokens.{Terminal, terminal_at, is_kind}
use Rattle.xf_grammar.specs.Grammar.{Step, ends, fails, goes, pushed, read}
use Rattle.xf_grammar.proofs.Basics.{both_true}
use Rattle.xf_grammar.proofs.Guarded.{guarded, none_held, free_step, Guards, guarded_has}
use Rattle.xf_grammar.proofs.Kept.{has_behind}
use Rattle.xf_grammar.proofs.TreesKept.{Holds, TreeKeeps}
use Rattle.xf_dense.specs.declared.expected.Due.{Due}
use Rattle.xf_dense.specs.Actions.{Action as BodyAction}
use Rattle.xf_dense.specs.Machine as body
use Rattle.xf_dense.proofs.Quiet.{IsQuiet, quiet}
use Rattle.xf_format.specs.declared.parts.AttrEntry.{AttrEntry}
use Rattle.xf_format.specs.declared.parts.EntryValue.{EntryValue}
use Rattle.xf_format.specs.declared.parts.EntryValue.TheVariants as value
use Rattle.xf_format.specs.declared.parts.Literal.{Literal}
use Rattle.xf_format.specs.declared.parts.Literal.TheVariants as literal
use Rattle.xf_format.specs.declared.parts.Parts.{Parts}
use Rattle.xf_format.specs.declared.parts.PlaceEntry.{PlaceEntry}
use Rattle.xf_format.specs.declared.parts.PlaceEntry.TheVariants as place
use Rattle.xf_format.specs.declared.parts.Ref.{Ref}
use Rattle.xf_format.specs.declared.parts.Use.{Use}
use Rattle.xf_format.specs.declared.row.FormatElement.{FormatElement}
use Rattle.xf_format.specs.declared.row.FormatElement.TheVariants as slot
use Rattle.xf_format.specs.declared.row.Level.{Level}
use Rattle.xf_format.specs.declared.row.Row.{Row}
use Rattle.xf_format.specs.declared.row.Side.{Side}
use Rattle.xf_format.specs.declared.row.Side.TheVariants.{Offsets, Sizes}
use Rattle.xf_format.specs.declared.row.Row.TheVariants as row
use Rattle.xf_format.specs.Actions.{Action, begins, defines, argument_is, operand, symbol_is, private_is, predicate_is}
use Rattle.xf_format.specs.Actions.{literal_is, truth_is, type_is, width_left_out, result_is, unit_entry, truth_entry}
use Rattle.xf_format.specs.Actions.{text_entry, integer_entry, typed_entry, elements_follow, dense_is, place_is}
use Rattle.xf_format.specs.Actions.{place_given, dimension_is, gives_dimension, map_is, alias_is, iterator_is, of_first}
use Rattle.xf_format.specs.Actions.{of_one_or_two, of_two, of_three, Reading, parts_by}
use Rattle.xf_format.specs.Format.{format}
use Rattle.xf_format.specs.Parts.{no_parts, with_symbol, with_literal, with_entry, with_define, with_arg, with_use}
use Rattle.xf_format.specs.Parts.{with_place}
use Rattle.xf_format.specs.Rows.{slots, header, tail}
use Rattle.xf_format.specs.Rules.{language, kind_rule, word_rule, symbol_rule, module_name_rule, function_name_rule}
use Rattle.xf_format.specs.Rules.{argument_rule, use_rule, width_rule, type_rule, result_rule, predicate_rule}
use Rattle.xf_format.specs.Rules.{block_name_rule, number_rule, literal_rule, entry_width_rule, entry_number_rule}
use Rattle.xf_format.specs.Rules.{entry_value_rule, entry_rule, param_rule, pair_rule, until_rule, dictionary_rule}
use Rattle.xf_format.specs.Rules.{attributes_rule, result_types_rule, call_results_rule, function_results_rule}
use Rattle.xf_format.specs.Rules.{listed_results_rule, if_results_rule, operands_rule, iter_args_rule, loop_width_rule}
use Rattle.xf_format.specs.Rules.{tensor_rule, result_tensor_rule, typed_rule, ins_rule, some_ins_rule, outs_rule}
use Rattle.xf_format.specs.Rules.{dense_rule, dense_type_rule, place_rule, stride_rule, iterator_rule, dimension_rule}
use Rattle.xf_format.specs.Rules.{given_rule, map_form_rule, map_rule, maps_rule, marked_rule}
use Rattle.xf_format.specs.Rules.{slot_rule, slots_rule, row_rule, defines_rule, head_rule}
use Rattle.xf_format.specs.Tests.{Test, of_kind, short_symbol, short_word, short_text, integer_for, a_result, is_symbol}
use Rattle.xf_format.specs.Tests.{is_name, is_string, State, lifted}
use Rattle.xf_format.specs.Tests.{known as known_parts}
use Rattle.xf_format.proofs.Lawful.{no_end}

-- ---- kinds

-- a token of this kind has this number
abbrev pub IsOf : TokenKind → List Token → ℕ → Type 0
IsOf k all at = is_kind k (terminal_at all at) ≡ true

abbrev pub SymbolOf : List Token → Option ℕ → Type 0
SymbolOf all None = Unit {0}
SymbolOf all (Some at) = is_symbol (terminal_at all at) ≡ true

abbrev pub LiteralOf : List Token → Option Literal → Type 0
LiteralOf all None = Unit {0}
LiteralOf all (Some (literal.Truth b)) = Unit {0}
LiteralOf all (Some (literal.Integer negative at)) = IsOf kind.Integer all at
LiteralOf all (Some literal.Elements) = Unit {0}

abbrev pub ValueOf : List Token → EntryValue → Type 0
ValueOf all value.Unit = Unit {0}
ValueOf all (value.Truth b) = Unit {0}
ValueOf all (value.Integer negative at width) = IsOf kind.Integer all at
ValueOf all (value.Text at) = is_string (terminal_at all at) ≡ true

abbrev pub EntryOf : List Token → AttrEntry → Type 0
EntryOf all e = (is_name (terminal_at all e.name) ≡ true) × ValueOf all e.value

abbrev pub NameOf : List Token → Ref → Type 0
NameOf all r = IsOf kind.Value all r.token

abbrev pub UseOf : List Token → Use → Type 0
UseOf all u = IsOf kind.Value all u.token

-- the parts of an operation
pub record Inside (all : List Token) (h : Parts) : Type 0 where
  pub symbol : SymbolOf all h.symbol
  pub literal : LiteralOf all h.literal
  pub entries : All (EntryOf all) h.entries
  pub defines : All (NameOf all) h.defines
  pub args : All (NameOf all) h.args
  pub uses : All (UseOf all) h.uses

-- ---- what a test tells

abbrev Known : Test → Terminal → Type 0
Known (of_kind k) x = is_kind k x ≡ true
Known short_symbol x = is_symbol x ≡ true
Known short_word x = is_name x ≡ true
Known short_text x = is_string x ≡ true
Known (integer_for negative w) x = is_kind kind.Integer x ≡ true
Known (a_result l) x = is_kind kind.Value x ≡ true
Known t x = Unit {0}

known : (t : Test) (x : Terminal) (h : Reading) → language.passes t x h ≡ true → Known t x
known (of_kind k) x h e = e
known short_symbol x h e = e
known short_word x h e = e
known short_text x h e = e
known (integer_for negative w) x h e = (both_true _ _ e).0
known (a_result l) x h e = (both_true _ _ e).1
known t x h e = tt

-- ---- actions

-- the tests that an action stands behind
abbrev behind_tests : Action → List Test → Bool
behind_tests defines (a_result l ∷ ts) = true
behind_tests argument_is (of_kind kind.Value ∷ ts) = true
behind_tests operand (of_kind kind.Value ∷ ts) = true
behind_tests symbol_is (short_symbol ∷ ts) = true
behind_tests (literal_is negative) (of_kind kind.Integer ∷ ts) = true
behind_tests unit_entry (short_word ∷ ts) = true
behind_tests (truth_entry b) (short_word ∷ ts) = true
behind_tests text_entry (short_word ∷ (short_text ∷ ts)) = true
behind_tests (integer_entry negative w) (short_word ∷ (integer_for n v ∷ ts)) = true
behind_tests (typed_entry negative) (short_word ∷ (integer_for n v ∷ ts)) = true
behind_tests begins ts = true
behind_tests private_is ts = true
behind_tests predicate_is ts = true
behind_tests (truth_is b) ts = true
behind_tests type_is ts = true
behind_tests (width_left_out w) ts = true
behind_tests result_is ts = true
behind_tests elements_follow ts = true
behind_tests (place_is d negative) ts = true
behind_tests (place_given d) ts = true
behind_tests dimension_is ts = true
behind_tests gives_dimension ts = true
behind_tests map_is ts = true
behind_tests alias_is ts = true
behind_tests (iterator_is k) ts = true
behind_tests k ts = false

-- those of machines
abbrev by_machine : Action → Bool
by_machine (dense_is k) = true
by_machine k = false

-- ---- rules

abbrev every : State → Bool
every m = true

slot_guarded : (s : FormatElement) → guarded behind_tests every (slot_rule s) none_held [] ≡ true
unfolding kind_rule word_rule symbol_rule module_name_rule function_name_rule argument_rule use_rule width_rule
    type_rule result_rule predicate_rule block_name_rule number_rule literal_rule entry_width_rule entry_number_rule
    entry_value_rule entry_rule param_rule pair_rule until_rule dictionary_rule attributes_rule result_types_rule
    call_results_rule function_results_rule listed_results_rule if_results_rule operands_rule iter_args_rule
    loop_width_rule tensor_rule result_tensor_rule typed_rule ins_rule some_ins_rule outs_rule dense_rule dense_type_rule
    place_rule stride_rule iterator_rule dimension_rule given_rule map_form_rule map_rule maps_rule marked_rule
slot_guarded (slot.Mark gap b) = refl
slot_guarded s = refl

head_guarded : (l : Level) → guarded behind_tests every (head_rule l) none_held [] ≡ true
unfolding kind_rule row_rule defines_rule head_rule
head_guarded l = refl

module _ (all : List Token) where
  -- ---- what is added

  -- parts by all that is said of them
  parts_in : {h : Parts} → SymbolOf all h.symbol → LiteralOf all h.literal → All (EntryOf all) h.entries
      → All (NameOf all) h.defines → All (NameOf all) h.args → All (UseOf all) h.uses → Inside all h
  parts_in s l e d a u = record { symbol = s; literal = l; entries = e; defines = d; args = a; uses = u }

  symbol_added : (at : ℕ) (h : Parts) → is_symbol (terminal_at all at) ≡ true → Inside all h
      → Inside all (with_symbol at h)
  symbol_added at h p w = parts_in p w.literal w.entries w.defines w.args w.uses

  literal_added : (l : Literal) (h : Parts) → LiteralOf all (Some l) → Inside all h → Inside all (with_literal l h)
  literal_added l h p w = parts_in w.symbol p w.entries w.defines w.args w.uses

  entry_added : (name : ℕ) (v : EntryValue) (h : Parts) → is_name (terminal_at all name) ≡ true → ValueOf all v
      → Inside all h → Inside all (with_entry name v h)
  entry_added name v h k p w =
      parts_in w.symbol w.literal (All-push (EntryOf all) h.entries _ w.entries (k, p)) w.defines w.args w.uses

  define_added : (r : Ref) (h : Parts) → NameOf all r → Inside all h → Inside all (with_define r h)
  define_added r h p w =
      parts_in w.symbol w.literal w.entries (All-push (NameOf all) h.defines r w.defines p) w.args w.uses

  arg_added : (r : Ref) (h : Parts) → NameOf all r → Inside all h → Inside all (with_arg r h)
  arg_added r h p w = parts_in w.symbol w.literal w.entries w.defines (All-push (NameOf all) h.args r w.args p) w.uses

  use_added : (u : Use) (h : Parts) → UseOf all u → Inside all h → Inside all (with_use u h)
  use_added u h p w = parts_in w.symbol w.literal w.entries w.defines w.args (All-push (UseOf all) h.uses u w.uses p)

  place_added : (d : Side) (e : PlaceEntry) (h : Parts) → Inside all h → Inside all (with_place d e h)
  place_added Offsets e h i = parts_in i.symbol i.literal i.entries i.defines i.args i.uses
  place_added Sizes e h i = parts_in i.symbol i.literal i.entries i.defines i.args i.uses

  body_added : (k : Action) (hs : List (ℕ × Terminal)) (h : Parts) → by_machine k ≡ true → Inside all h
      → Inside all (parts_by k hs h)
  body_added (dense_is k) hs h e i = parts_in i.symbol i.literal i.entries i.defines i.args i.uses
  body_added k hs h e i = absurd cc

  -- the tokens that are held have passed these tests
  abbrev Held : List (ℕ × Terminal) → List Test → Type 0
  Held [] [] = Unit {0}
  Held (y ∷ ys) (t ∷ ts) = Known t (terminal_at all y.0) × Held ys ts
  Held ys ts = ⊥

  held_push : (ys : List (ℕ × Terminal)) (ts : List Test) (at : ℕ) (x : Terminal) (t : Test)
      → Known t (terminal_at all at) → Held ys ts → Held (ys ++ (at, x) ∷ []) (ts ++ t ∷ [])
  held_push [] [] at x t k w = (k, tt)
  held_push [] (u ∷ ts) at x t k w = absurd w
  held_push (y ∷ ys) [] at x t k w = absurd w
  held_push (y ∷ ys) (u ∷ ts) at x t k w = (w.0, held_push ys ts at x t k w.1)

  first_has : {C : Type 0} (P : C → Type 0) (t : Test) (ts : List Test) (c : C) (f : ℕ × Terminal → C)
      → ((y : ℕ × Terminal) → Known t (terminal_at all y.0) → P (f y)) → (hs : List (ℕ × Terminal)) → Held hs (t ∷ ts)
      → P (of_first hs c f)
  first_has P t ts c f r [] w = absurd w
  first_has P t ts c f r (y ∷ ys) w = r y w.0

  one_or_two_has : {C : Type 0} (P : C → Type 0) (t : Test) (ts : List Test) (c : C)
      (f : ℕ × Terminal → Option (ℕ × Terminal) → C)
      → ((y : ℕ × Terminal) (k : Option (ℕ × Terminal)) → Known t (terminal_at all y.0) → P (f y k))
      → (hs : List (ℕ × Terminal)) → Held hs (t ∷ ts) → P (of_one_or_two hs c f)
  one_or_two_has P t ts c f r [] w = absurd w
  one_or_two_has P t ts c f r (y ∷ []) w = r y None w.0
  one_or_two_has P t ts c f r (y ∷ (z ∷ ys)) w = r y (Some z) w.0

  two_has : {C : Type 0} (P : C → Type 0) (t u : Test) (ts : List Test) (c : C) (f : ℕ × Terminal → ℕ × Terminal → C)
      → ((y z : ℕ × Terminal) → Known t (terminal_at all y.0) → Known u (terminal_at all z.0) → P (f y z))
      → (hs : List (ℕ × Terminal)) → Held hs (t ∷ (u ∷ ts)) → P (of_two hs c f)
  two_has P t u ts c f r [] w = absurd w
  two_has P t u ts c f r (y ∷ []) w = absurd w.1
  two_has P t u ts c f r (y ∷ (z ∷ ys)) w = r y z w.0 w.1.0

  three_has : {C : Type 0} (P : C → Type 0) (t u : Test) (ts : List Test) (c : C)
      (f : ℕ × Terminal → ℕ × Terminal → ℕ × Terminal → C) → P c
      → ((y z x : ℕ × Terminal) → Known t (terminal_at all y.0) → Known u (terminal_at all z.0) → P (f y z x))
      → (hs : List (ℕ × Terminal)) → Held hs (t ∷ (u ∷ ts)) → P (of_three hs c f)
  three_has P t u ts c f p r [] w = p
  three_has P t u ts c f p r (y ∷ []) w = p
  three_has P t u ts c f p r (y ∷ (z ∷ [])) w = p
  three_has P t u ts c f p r (y ∷ (z ∷ (x ∷ ys))) w = r y z x w.0 w.1.0

  -- an action that names no token of a kind
  plain_added : (p : Parts) (f : ℕ × Terminal → Parts) → ((y : ℕ × Terminal) → Inside all (f y))
      → (hs : List (ℕ × Terminal)) → Inside all p → Inside all (of_first hs p f)
  plain_added p f r [] w = w
  plain_added p f r (y ∷ ys) w = r y

  kinds_added : (k : Action) (ts : List Test) (hs : List (ℕ × Terminal)) (p : Parts) → behind_tests k ts ≡ true
      → Held hs ts → Inside all p → Inside all (parts_by k hs p)
  kinds_added defines (a_result l ∷ ts) hs p o w i =
      one_or_two_has (Inside all) _ _ p _ (λ y k e. define_added _ p e i) hs w
  kinds_added argument_is (of_kind kind.Value ∷ ts) hs p o w i =
      first_has (Inside all) _ _ p _ (λ y e. arg_added _ p e i) hs w
  kinds_added operand (of_kind kind.Value ∷ ts) hs p o w i =
      one_or_two_has (Inside all) _ _ p _ (λ y k e. use_added _ p e i) hs w
  kinds_added symbol_is (short_symbol ∷ ts) hs p o w i =
      first_has (Inside all) _ _ p _ (λ y e. symbol_added y.0 p e i) hs w
  kinds_added (literal_is negative) (of_kind kind.Integer ∷ ts) hs p o w i =
      first_has (Inside all) _ _ p _ (λ y e. literal_added (literal.Integer negative y.0) p e i) hs w
  kinds_added unit_entry (short_word ∷ ts) hs p o w i =
      first_has (Inside all) _ _ p _ (λ y e. entry_added y.0 value.Unit p e tt i) hs w
  kinds_added (truth_entry b) (short_word ∷ ts) hs p o w i =
      first_has (Inside all) _ _ p _ (λ y e. entry_added y.0 (value.Truth b) p e tt i) hs w
  kinds_added text_entry (short_word ∷ (short_text ∷ ts)) hs p o w i =
      two_has (Inside all) _ _ _ p _ (λ y z e d. entry_added y.0 (value.Text z.0) p e d i) hs w
  kinds_added (integer_entry negative v) (short_word ∷ (integer_for n u ∷ ts)) hs p o w i =
      two_has (Inside all) _ _ _ p _
      (λ y z e d. entry_added y.0 (value.Integer negative z.0 v) p e d i) hs w
  kinds_added (typed_entry negative) (short_word ∷ (integer_for n u ∷ ts)) hs p o w i =
      three_has (Inside all) _ _ _ p _ i (λ y z x e d. entry_added y.0 _ p e d i) hs w
  kinds_added begins ts hs p o w i =
      plain_added p _ (λ y. parts_in i.symbol i.literal i.entries i.defines i.args i.uses) hs i
  kinds_added private_is ts hs p o w i = parts_in i.symbol i.literal i.entries i.defines i.args i.uses
  kinds_added predicate_is ts hs p o w i =
      plain_added p _ (λ y. parts_in i.symbol i.literal i.entries i.defines i.args i.uses) hs i
  kinds_added (truth_is b) ts hs p o w i = parts_in i.symbol tt i.entries i.defines i.args i.uses
  kinds_added type_is ts hs p o w i =
      plain_added p _ (λ y. parts_in i.symbol i.literal i.entries i.defines i.args i.uses) hs i
  kinds_added (width_left_out v) ts hs p o w i = parts_in i.symbol i.literal i.entries i.defines i.args i.uses
  kinds_added result_is ts hs p o w i =
      plain_added p _ (λ y. parts_in i.symbol i.literal i.entries i.defines i.args i.uses) hs i
  kinds_added elements_follow ts hs p o w i = parts_in i.symbol tt i.entries i.defines i.args i.uses
  kinds_added (place_is d negative) ts hs p o w i = plain_added p _ (λ y. place_added d _ p i) hs i
  kinds_added (place_given d) ts hs p o w i = place_added d place.Value p i
  kinds_added dimension_is ts hs p o w i = parts_in i.symbol i.literal i.entries i.defines i.args i.uses
  kinds_added gives_dimension ts hs p o w i = plain_added p _ (λ y. parts_in i.symbol i.literal i.entries i.defines i.args i.uses) hs i
  kinds_added map_is ts hs p o w i = parts_in i.symbol i.literal i.entries i.defines i.args i.uses
  kinds_added alias_is ts hs p o w i = plain_added p _ (λ y. parts_in i.symbol i.literal i.entries i.defines i.args i.uses) hs i
  kinds_added (iterator_is k) ts hs p o w i = parts_in i.symbol i.literal i.entries i.defines i.args i.uses
  kinds_added k ts hs p o w i = absurd cc

  -- the tokens that are held have passed these tests, and those of the parts are of their kinds
  abbrev OfKinds : List Test → ℕ → Reading → Type 0
  OfKinds ts n h = Held h.held ts × Inside all h.parts

  guards : Guards language all behind_tests by_machine every OfKinds
  guards = record {
    ended = λ x h. no_end x (known_parts h);
    free = λ m x e. free_lifted (body.step m x) (quiet m x);
    on = λ ts at h lt w. w;
    held = λ ts t at h lt e w. (
      held_push h.held ts at (terminal_at all at) t (known t (terminal_at all at) h e) w.0,
      w.1,
    );
    added = λ ts at k h o e w. (tt, kinds_added k ts h.held h.parts o w.0 w.1);
    ran = λ keep at k h lt e o w. machine_added keep at k h e w;
  }
    where
      free_lifted : (s : Step BodyAction Due State) → IsQuiet s → free_step by_machine every (lifted s) ≡ true
      free_lifted ends e = refl
      free_lifted (fails d) e = refl
      free_lifted (goes gap keep m None) e = e.so
      free_lifted (goes gap keep m (Some k)) e = refl

      machine_added : (keep : Bool) (at : ℕ) (k : Action) (h : Reading) → by_machine k ≡ true → OfKinds [] at h
          → OfKinds [] (at + 1) (language.add k (pushed language keep at (terminal_at all at) h))
      machine_added true at k h e w = (tt, body_added k _ h.parts e w.1)
      machine_added false at k h e w = (tt, body_added k _ h.parts e w.1)

  -- where no token is held
  abbrev pub HasKinds : ℕ → Reading → Type 0
  HasKinds = OfKinds []

  slots_hold : (ss : List FormatElement) → Holds language all HasKinds (slots_rule ss)
  slots_hold [] n h at w = w
  slots_hold (s ∷ ss) n h at w =
      has_behind HasKinds HasKinds (read language n (slot_rule s) all h at) _
      (guarded_has language all behind_tests by_machine every OfKinds guards n (slot_rule s) h at (slot_guarded s) w)
      (λ x v. slots_hold ss n x.0 x.1 v)

  pub no_kinds : (r : Row) → Inside all (no_parts r)
  no_kinds r =
      parts_in tt tt (All-nil (EntryOf all)) (All-nil (NameOf all)) (All-nil (NameOf all)) (All-nil (UseOf all))

  -- the operations of each tree are of their kinds
  pub trees_of_kinds : TreeKeeps format all HasKinds (Inside all)
  trees_of_kinds = record {
    ended = λ x h. no_end x (known_parts h);
    on = λ at h lt w. w;
    head = λ l n h at w. guarded_has language all behind_tests by_machine every OfKinds guards n (head_rule l) h at
        (head_guarded l) w;
    slots = λ r. slots_hold (slots r);
    header = λ r. slots_hold (header r);
    tail = λ r. slots_hold (tail r);
    start = λ at. (tt, no_kinds row.Module);
    parts = λ at h le w. w.1;
  }
