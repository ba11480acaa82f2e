-- Slots of attributes, and of several values, types or arguments.
use Rattle.std.proofs.Common.{◌≡◌, ℕ, suc, ◌+◌, ◌^◌, ◌<◌, Bool, true, false, List, [], ◌∷◌, ◌++◌, length, drop, Option}
use Rattle.std.proofs.Common.{Some, None, refl, sym, ap, subst, ◌∙◌, arith, append_assoc, append-nil}
use Rattle.std.specs.Prelude.{map, not, codes}
use Rattle.xf_type.specs.declared.payload_type.PayloadType.{PayloadType}
use Rattle.xf_type.specs.declared.payload_type.PayloadType.TheVariants.{Scalar, Tensor}
use Rattle.xf_lex.specs.declared.token.TokenKind.TheVariants as token
use Rattle.xf_grammar.proofs.Basics.{and_is}
use Rattle.xf_grammar.proofs.LaidOut.{known_token}
use Rattle.xf_grammar.specs.Apart.{IsLexeme}
use Rattle.xf_grammar.specs.Tokens.{Terminal, terminal, is_kind, is_index, is_word, comma, colon, equals, close_paren}
use Rattle.xf_grammar.specs.Tokens.{open_paren, open_brace, close_brace}
use Rattle.xf_grammar.specs.Grammar.{tokens, first_seen, yes, here, Fill}
use Rattle.xf_format.specs.declared.expected.Expected.{Expected}
use Rattle.xf_format.specs.declared.expected.Expected.TheVariants as due
use Rattle.xf_format.specs.declared.list.Item.TheVariants as item
use Rattle.xf_format.specs.Parts.{Said, ValueSaid, truth_value, number_value, says_entry, UseSaid}
use Rattle.xf_format.specs.Rules.{language, kind_rule, argument_rule, use_rule, type_rule, result_rule, param_rule}
use Rattle.xf_format.specs.Rules.{pair_rule, enclosed_rule, operands_rule, result_types_rule}
use Rattle.xf_format.specs.Rules.{function_results_rule, listed_results_rule, if_results_rule, iter_args_rule}
use Rattle.xf_format.specs.Rules.{entry_rule, entry_value_rule, entry_number_rule, entry_width_rule, dictionary_rule}
use Rattle.xf_format.specs.Rules.{attributes_rule, until_rule}
use Rattle.xf_ir.specs.declared.name.ValueName.{ValueName}
use Rattle.xf_ir.specs.Lists.{Each}
use Rattle.xf_printed.specs.Names.{Names, argument_text, type_of}
use Rattle.xf_printed.specs.Fills.{until_fill, value_fill, type_fill, type_or_none}
use Rattle.xf_printed.specs.Fills.{value_type_fill, Param, param_fill, params, Pair, pair_fill, pairs, operands_fill}
use Rattle.xf_printed.specs.Fills.{result_types_fill, function_results_fill, listed_results_fill}
use Rattle.xf_printed.specs.Fills.{if_results_fill, iter_args_fill, entry_value_fill, entry_fill, truth_entry_fill}
use Rattle.xf_printed.specs.Fills.{number_entry_fill, int_entry_fill, dictionary_fill, attributes_fill, is_set}
use Rattle.xf_print_laws.specs.Naming.{use_printed, arguments_printed}
use Rattle.xf_print_laws.specs.SaidPrinted.{known_types, value_printed, integer_printed, entry_printed}
use Rattle.xf_print_laws.proofs.Goes.{add_args, add_uses, add_types, add_results, room, Goes, skips, take_goes}
use Rattle.xf_print_laws.proofs.Goes.{off_goes, peek_goes, peek_off_goes, so_said, both_go, silent_goes, begins_item}
use Rattle.xf_print_laws.proofs.Goes.{Items, All, paren_ends, list_goes, until_goes, add_entries, few_entries}
use Rattle.xf_print_laws.proofs.Goes.{brace_ends}
use Rattle.xf_print_laws.proofs.LayoutTokens.{word_lexes, mark_lexes, string_lexes}
use Rattle.xf_print_laws.proofs.Needs.{Known, TypeFits, AttrFits}
use Rattle.xf_print_laws.proofs.Single.{argument_goes, value_goes, type_goes, one_result_goes, short_is}
use Rattle.xf_type.specs.declared.attribute.AttrValue.{AttrValue}
use Rattle.xf_type.specs.declared.attribute.AttrValue.TheVariants as attr
use Rattle.xf_type.specs.declared.payload_type.Width.{Width}
use Rattle.xf_type.specs.declared.payload_type.Width.TheVariants.{I1, I64}
use Rattle.xf_format.specs.Strings.{decoded}
use Rattle.xf_format.specs.Tests.{is_short, room_for}
use Rattle.xf_ir.specs.declared.kind.Attr.{Attr}
use Rattle.xf_ir.specs.RuleAttributes.{fits_bits}
use Rattle.xf_printed.specs.Attributes.{string_text}
use Rattle.xf_print_laws.proofs.Signed.{roomy}
use Rattle.xf_print_laws.proofs.Strings.{string_again}
use Rattle.xf_print_laws.proofs.Words.{width_found, width_lexes}
use Rattle.xf_print_laws.proofs.Needs.{TypeKnown}
use Rattle.std.proofs.Common.{zero, slice_get}
use Rattle.std.specs.Prelude.{is_some}
use Rattle.xf_ir.specs.Lists.{is_empty}
use Rattle.xf_format.specs.Rules.{ins_rule, typed_rule, outs_rule, some_ins_rule, marked_rule}
use Rattle.xf_printed.specs.Fills.{ins_fill, outs_fill, typed_uses_fill}
use Rattle.xf_printed.specs.Structured.{some_ins_fill, marked_fill}
use Rattle.xf_print_laws.proofs.Single.{word_goes}

-- ---- entries

-- an entry of this name and value, and what it says
abbrev Entered : List ℕ → Fill → ValueSaid → Terminal → Said → Type 0
Entered name f v y d = Goes entry_rule (here (yes (terminal token.Word name) f)) y d (says_entry name v d)

-- a name
record Name (name : List ℕ) : Type 0 where
  short : is_short name ≡ true
  lex : IsLexeme (terminal token.Word name)

number_entry_goes : (negative : Bool) (digits : List ℕ) (w : Width) (name : List ℕ) (y : Terminal) (d : Said)
    → Name name → room_for w negative (terminal token.Integer digits) ≡ true
    → room_for I64 negative (terminal token.Integer digits) ≡ true → IsLexeme (terminal token.Integer digits)
    → Entered name (yes (terminal equals []) (number_entry_fill negative digits w)) (number_value negative digits w) y d
unfolding entry_rule entry_value_rule entry_number_rule entry_width_rule
number_entry_goes true digits w name y d n enough largest l =
    let p = width_found w in
    let s = n.short in
    record {
      fit = λ few. rw (s, room d.entries _ few.0, p, largest, enough) refl;
      say = rw p refl;
      few = few_entries d _;
      lex = (n.lex, (mark_lexes 61 refl, (mark_lexes 45 refl, (l, (mark_lexes 58 refl, (width_lexes w, tt))))));
    }
number_entry_goes false digits w name y d n enough largest l =
    let p = width_found w in
    let s = n.short in
    record {
      fit = λ few. rw (s, room d.entries _ few.0, p, largest, enough) refl;
      say = rw p refl;
      few = few_entries d _;
      lex = (n.lex, (mark_lexes 61 refl, (l, (mark_lexes 58 refl, (width_lexes w, tt)))));
    }

truth_entry_goes : (b : Bool) (name : List ℕ) (y : Terminal) (d : Said) → Name name
    → Entered name (yes (terminal equals []) (truth_entry_fill b)) (truth_value b) y d
unfolding entry_rule entry_value_rule
truth_entry_goes true name y d n = let s = n.short in record {
  fit = λ few. rw (s, room d.entries _ few.0) refl;
  say = refl;
  few = few_entries d _;
  lex = (n.lex, (mark_lexes 61 refl, (word_lexes (codes "true") refl, tt)));
}
truth_entry_goes false name y d n = let s = n.short in record {
  fit = λ few. rw (s, room d.entries _ few.0) refl;
  say = refl;
  few = few_entries d _;
  lex = (n.lex, (mark_lexes 61 refl, (word_lexes (codes "false") refl, tt)));
}

integer_entry_goes : (w : Width) (bits : ℕ) (name : List ℕ) (y : Terminal) (d : Said) → Name name
    → fits_bits w bits ≡ true
    → Entered name (yes (terminal equals []) (int_entry_fill w bits)) (integer_printed w bits) y d
integer_entry_goes I1 bits name y d n f = truth_entry_goes (is_set bits) name y d n
integer_entry_goes w bits name y d n f =
    let r = roomy w bits f in number_entry_goes _ _ w name y d n r.here r.largest r.lex

entry_goes : (name : List ℕ) (v : AttrValue) (y : Terminal) (d : Said) → AttrFits (record { name = name; value = v })
    → not (is_kind equals y) ≡ true → Entered name (entry_value_fill v) (value_printed v) y d
unfolding entry_rule entry_value_rule
entry_goes name attr.Unit y d h e = let s = short_is name h.short.0 in record {
  fit = λ few. rw (s, e, room d.entries _ few.0) refl;
  say = refl;
  few = few_entries d _;
  lex = (word_lexes name h.name, tt);
}
entry_goes name (attr.Int w bits) y d h e =
    integer_entry_goes w bits name y d
    (record { short = short_is name h.short.0; lex = word_lexes name h.name }) h.value
entry_goes name (attr.Text bytes) y d h e =
    let s = short_is name h.short.0 in
    let short : is_short (decoded (string_text bytes)) ≡ true = subst (λ x. is_short x ≡ true)
    (sym (string_again bytes h.bytes)) (short_is bytes h.short.1) in
    record {
      fit = λ few. rw (s, room d.entries _ few.0, short) refl;
      say = refl;
      few = few_entries d _;
      lex = (word_lexes name h.name, (mark_lexes 61 refl, (string_lexes bytes h.bytes, tt)));
    }

-- ---- lists of them

-- what attributes say
abbrev pub with_attrs : List Attr → Said → Said
with_attrs ds d = add_entries d (map entry_printed ds)

entry_items : Items entry_rule entry_fill with_attrs (All AttrFits) (λ y. not (is_kind equals y))
unfolding entry_rule
entry_items = record {
  one = λ a ds y d h e. entry_goes a.name a.value y d h.0 e;
  later = λ a ds d h. h.1;
  begins = λ a ds y d h. refl;
  none = λ d. ap (λ es. record d { entries = es }) (sym (append-nil d.entries));
  more = λ a ds d h. ap (λ es. record d { entries = es }) (append_assoc d.entries _ (map entry_printed ds));
  behind = refl;
}

entries_go : (ds : List Attr) (y : Terminal) (d : Said) → Each AttrFits ds
    → Goes (until_rule close_brace due.Other item.Entry) (until_fill close_brace entry_fill ds) y d (with_attrs ds d)
entries_go ds y d h = until_goes item.Entry close_brace due.Other entry_items (brace_ends refl) ds y d h

pub dictionary_goes : (ds : List Attr) (y : Terminal) (d : Said) → Each AttrFits ds
    → not (is_kind open_brace y) ≡ true → Goes dictionary_rule (dictionary_fill ds) y d (with_attrs ds d)
unfolding dictionary_rule
dictionary_goes [] y d h e = so_said (entry_items.none d) (off_goes e skips)
dictionary_goes (a ∷ ds) y d h e = take_goes (mark_lexes 123 refl) refl (entries_go (a ∷ ds) y d h)

pub attributes_goes : (ds : List Attr) (y : Terminal) (d : Said) → Each AttrFits ds
    → not (is_word (codes "attributes") y) ≡ true → Goes attributes_rule (attributes_fill ds) y d (with_attrs ds d)
unfolding attributes_rule
attributes_goes [] y d h e = so_said (entry_items.none d) (off_goes e skips)
attributes_goes (a ∷ ds) y d h e =
    take_goes (word_lexes (codes "attributes") refl) refl
    (both_go (silent_goes true due.Other open_brace (mark_lexes 123 refl) refl) (entries_go (a ∷ ds) y d h))

pub marked_goes : (ds : List Attr) (y : Terminal) (d : Said) → Each AttrFits ds
    → not (is_word (codes "attrs") y) ≡ true → Goes marked_rule (marked_fill ds) y d (with_attrs ds d)
unfolding marked_rule
marked_goes [] y d h e = so_said (entry_items.none d) (off_goes e skips)
marked_goes (a ∷ ds) y d h e =
    take_goes (word_lexes (codes "attrs") refl) refl
    (both_go (silent_goes true due.Other equals (mark_lexes 61 refl) refl)
    (both_go (silent_goes true due.Other open_brace (mark_lexes 123 refl) refl) (entries_go (a ∷ ds) y d h)))

pub none_by_length : {A : Type 0} (xs : List A) → length xs ≡ 0 → xs ≡ []
none_by_length [] e = refl
none_by_length (x ∷ xs) e = absurd (omega arith)

pub arrow_lexes : IsLexeme (terminal token.Arrow [])
arrow_lexes = known_token token.Arrow [] refl refl refl

-- ---- values

abbrev pub with_values : Names → List ValueName → Said → Said
with_values names os d = add_uses d (map (use_printed names) os)

pub value_items : (names : Names) (gap : Bool)
    → Items (use_rule gap) (value_fill names) (with_values names) (All (Known names)) (λ y. not (is_index y))
unfolding use_rule
value_items names gap = record {
  one = λ v os y d h e. value_goes names v gap y d h.0 e;
  later = λ v os d h. h.1;
  begins = λ v os y d h. refl;
  none = λ d. ap (λ us. record d { uses = us }) (sym (append-nil d.uses));
  more = λ v os d h. ap (λ us. record d { uses = us }) (append_assoc d.uses _ (map (use_printed names) os));
  behind = refl;
}

-- ---- the types of values

abbrev pub with_types_of : Names → List ValueName → Said → Said
with_types_of names os d = add_types d (known_types (map (type_of names) os))

type_begins : (gap : Bool) (o : Option PayloadType) (y : Terminal) → TypeKnown o
    → begins_item (first_seen (tokens language (type_rule gap) (type_or_none o)) y) ≡ true
unfolding type_rule
type_begins gap None y e = absurd e
type_begins gap (Some (Scalar w)) y e = refl
type_begins gap (Some (Tensor s)) y e = refl

types_more : (o : Option PayloadType) (os : List (Option PayloadType)) (ts : List PayloadType) → TypeKnown o
    → (ts ++ known_types (o ∷ [])) ++ known_types os ≡ ts ++ known_types (o ∷ os)
types_more None os ts e = absurd e
types_more (Some t) os ts e = append_assoc ts (t ∷ []) (known_types os)

pub type_items : (names : Names) (gap : Bool)
    → Items (type_rule gap) (value_type_fill names) (with_types_of names) (All (Known names)) (λ y. true)
type_items names gap = record {
  one = λ v os y d h e. type_goes gap (type_of names v) y d h.0.0;
  later = λ v os d h. h.1;
  begins = λ v os y d h. type_begins gap (type_of names v) y h.0.0;
  none = λ d. ap (λ ts. record d { types = ts }) (sym (append-nil d.types));
  more = λ v os d h. ap (λ ts. record d { types = ts })
      (types_more (type_of names v) (map (type_of names) os) d.types h.0.0);
  behind = refl;
}

-- ---- operands and their types

abbrev pub with_operands : Names → List ValueName → Said → Said
with_operands names os d = with_types_of names os (with_values names os d)

-- no value may stand behind operands, and no comma
pub operands_go : (names : Names) (os : List ValueName) (y : Terminal) (d : Said) → Each (Known names) os
    → not (is_kind token.Value y) ≡ true → not (is_kind comma y) ≡ true
    → Goes operands_rule (operands_fill names os) y d (with_operands names os d)
unfolding operands_rule kind_rule use_rule
operands_go names [] y d h v c =
    so_said ((value_items names true).none d ∙ (type_items names true).none (with_values names [] d))
    (peek_off_goes v skips)
operands_go names (v ∷ os) y d h e c =
    let uses = list_goes (value_items names true) v os (terminal colon []) d h refl refl in
    let types = list_goes (type_items names true) v os y (with_values names (v ∷ os) d) h refl c in
    peek_goes refl (both_go uses (both_go (silent_goes true due.Other colon (mark_lexes 58 refl) refl) types))

-- ---- ins and outs

-- operands and their types up to a parenthesis
typed_go : (names : Names) (v : ValueName) (os : List ValueName) (y : Terminal) (d : Said) → Each (Known names) (v ∷ os)
    → Goes typed_rule (typed_uses_fill names (v ∷ os)) y d (with_operands names (v ∷ os) d)
unfolding typed_rule kind_rule
typed_go names v os y d h =
    let uses = list_goes (value_items names false) v os (terminal colon []) d h refl refl in
    let types = list_goes (type_items names true) v os (terminal close_paren []) (with_values names (v ∷ os) d) h refl
    refl in
    both_go uses (both_go (silent_goes true due.Other colon (mark_lexes 58 refl) refl)
    (both_go types (silent_goes false due.Other close_paren (mark_lexes 41 refl) refl)))

pub ins_goes : (names : Names) (os : List ValueName) (y : Terminal) (d : Said) → Each (Known names) os
    → not (is_empty os) ≡ true → Goes ins_rule (ins_fill names os) y d (with_operands names os d)
unfolding ins_rule
ins_goes names [] y d h e = absurd cc
ins_goes names (v ∷ os) y d h e =
    both_go (word_goes true (codes "ins") _ d refl refl)
    (both_go (silent_goes false due.Other open_paren (mark_lexes 40 refl) refl) (typed_go names v os y d h))

-- the same where there may be none
pub some_ins_go : (names : Names) (os : List ValueName) (y : Terminal) (d : Said) → Each (Known names) os
    → not (is_word (codes "ins") y) ≡ true → Goes some_ins_rule (some_ins_fill names os) y d (with_operands names os d)
unfolding some_ins_rule
some_ins_go names [] y d h e =
    so_said ((value_items names true).none d ∙ (type_items names true).none (with_values names [] d))
    (off_goes e skips)
some_ins_go names (v ∷ os) y d h e =
    take_goes (word_lexes (codes "ins") refl) refl
    (both_go (silent_goes false due.Other open_paren (mark_lexes 40 refl) refl) (typed_go names v os y d h))

-- an operand and its type
abbrev pub with_out : Names → Option ValueName → Said → Said
with_out names None d = d
with_out names (Some v) d =
    add_types (add_uses d (use_printed names v ∷ [])) (known_types (type_of names v ∷ []))

out_goes : (names : Names) (v : ValueName) (y : Terminal) (d : Said) → Known names v
    → Goes outs_rule (outs_fill names (Some v)) y d (with_out names (Some v) d)
unfolding outs_rule use_rule kind_rule
out_goes names v y d h =
    let value = value_goes names v false (terminal colon []) d h refl in
    let type = type_goes true (type_of names v) (terminal close_paren []) (add_uses d (use_printed names v ∷ [])) h.0 in
    both_go (take_goes (word_lexes (codes "outs") refl) refl skips)
    (both_go (silent_goes false due.Other open_paren (mark_lexes 40 refl) refl)
    (both_go (peek_goes refl value) (both_go (silent_goes true due.AfterOut colon (mark_lexes 58 refl) refl)
    (both_go type (silent_goes false due.Other close_paren (mark_lexes 41 refl) refl)))))

pub outs_goes : (names : Names) (os : List ValueName) (i : ℕ) (y : Terminal) (d : Said) → Each (Known names) os
    → is_some (slice_get os i) ≡ true
    → Goes outs_rule (outs_fill names (slice_get os i)) y d (with_out names (slice_get os i) d)
outs_goes names [] i y d h o = absurd cc
outs_goes names (v ∷ os) zero y d h o = out_goes names v y d h.0
outs_goes names (v ∷ os) (suc i) y d h o = outs_goes names os i y d h.1 o

-- ---- results

abbrev pub with_results : List PayloadType → Said → Said
with_results ts d = add_results d ts

result_begins : (t : PayloadType) (y : Terminal) → TypeFits t
    → begins_item (first_seen (tokens language (result_rule false) (type_fill t)) y) ≡ true
unfolding result_rule
result_begins (Scalar w) y h = refl
result_begins (Tensor s) y h = refl

result_items : Items (result_rule false) type_fill with_results (All TypeFits) (λ y. true)
result_items = record {
  one = λ t ts y d h e. one_result_goes false t y d h.0;
  later = λ t ts d h. h.1;
  begins = λ t ts y d h. result_begins t y h.0;
  none = λ d. ap (λ ts. record d { results = ts }) (sym (append-nil d.results));
  more = λ t ts d h. ap (λ us. record d { results = us }) (append_assoc d.results (t ∷ []) ts);
  behind = refl;
}

-- results up to a parenthesis
enclosed_results_go : (due_behind : Expected) (ts : List PayloadType) (y : Terminal) (d : Said) → Each TypeFits ts
    → Goes (enclosed_rule item.Result due_behind) (until_fill close_paren type_fill ts) y d (with_results ts d)
enclosed_results_go due_behind ts y d h =
    until_goes item.Result close_paren due_behind result_items (paren_ends refl) ts y d h

listed_results_go : (ts : List PayloadType) (y : Terminal) (d : Said) → Each TypeFits ts
    → Goes listed_results_rule (listed_results_fill ts) y d (with_results ts d)
unfolding listed_results_rule
listed_results_go ts y d h =
    both_go (silent_goes true due.Other open_paren (mark_lexes 40 refl) refl) (enclosed_results_go due.Other ts y d h)

pub result_types_go : (due_behind : Expected) (ts : List PayloadType) (y : Terminal) (d : Said) → Each TypeFits ts
    → Goes (result_types_rule due_behind) (result_types_fill ts) y d (with_results ts d)
unfolding result_types_rule result_rule
result_types_go due_behind (Scalar w ∷ []) y d h = off_goes refl (one_result_goes true (Scalar w) y d h.0)
result_types_go due_behind (Tensor s ∷ []) y d h = off_goes refl (one_result_goes true (Tensor s) y d h.0)
result_types_go due_behind ts y d h = take_goes (mark_lexes 40 refl) refl (enclosed_results_go due_behind ts y d h)

pub function_results_go : (ts : List PayloadType) (y : Terminal) (d : Said) → Each TypeFits ts
    → not (is_kind token.Arrow y) ≡ true → Goes function_results_rule (function_results_fill ts) y d (with_results ts d)
unfolding function_results_rule
function_results_go [] y d h e = so_said (result_items.none d) (off_goes e skips)
function_results_go (t ∷ ts) y d h e = take_goes arrow_lexes refl (result_types_go due.AfterResult (t ∷ ts) y d h)

pub if_results_go : (ts : List PayloadType) (y : Terminal) (d : Said) → Each TypeFits ts
    → not (is_kind token.Arrow y) ≡ true → Goes if_results_rule (if_results_fill ts) y d (with_results ts d)
unfolding if_results_rule
if_results_go [] y d h e = so_said (result_items.none d) (off_goes e skips)
if_results_go (t ∷ ts) y d h e = take_goes arrow_lexes refl (listed_results_go (t ∷ ts) y d h)

-- ---- arguments

abbrev ParamFits : Param → Type 0
ParamFits p = TypeFits p.of × (p.number < 2 ^ 64)

abbrev param_name : Param → List ℕ
param_name p = argument_text p.number

abbrev with_params : List Param → Said → Said
with_params ps d = add_types (add_args d (map param_name ps)) (map (λ (p : Param). p.of) ps)

param_items : Items param_rule param_fill with_params (All ParamFits) (λ y. true)
unfolding param_rule argument_rule
param_items = record {
  one = λ p ps y d h e. (let t = type_goes true (Some p.of) y (add_args d (param_name p ∷ [])) h.0.0 in
      both_go (argument_goes false p.number _ d h.0.1)
      (both_go (silent_goes false due.Other colon (mark_lexes 58 refl) refl) t));
  later = λ p ps d h. h.1;
  begins = λ p ps y d h. refl;
  none = λ d i. record d { args = sym (append-nil d.args) i; types = sym (append-nil d.types) i };
  more = λ p ps d h i. record d {
    args = append_assoc d.args (param_name p ∷ []) (map param_name ps) i;
    types = append_assoc d.types (p.of ∷ []) (map (λ (q : Param). q.of) ps) i;
  };
  behind = refl;
}

-- they fit, and have the names and types of arguments
params_are : (k : ℕ) (ts : List PayloadType) → k + length ts < 2 ^ 64 → Each TypeFits ts
    → Each ParamFits (params k ts)
    × ((map param_name (params k ts) ≡ arguments_printed k ts) × (map (λ (p : Param). p.of) (params k ts) ≡ ts))
params_are k [] lt h = (tt, (refl, refl))
params_are k (t ∷ ts) lt h =
    let r = params_are (suc k) ts (omega arith) h.1 in
    (((h.0, omega arith), r.0), (ap (λ xs. argument_text k ∷ xs) r.1.0, ap (λ us. t ∷ us) r.1.1))

-- the types of arguments from number k on
abbrev pub with_arguments : ℕ → List PayloadType → Said → Said
with_arguments k ts d = add_types (add_args d (arguments_printed k ts)) ts

pub params_go : (due_behind : Expected) (k : ℕ) (ts : List PayloadType) (y : Terminal) (d : Said)
    → Each TypeFits ts → k + length ts < 2 ^ 64
    → Goes (enclosed_rule item.Param due_behind) (until_fill close_paren param_fill (params k ts)) y d
    (with_arguments k ts d)
params_go due_behind k ts y d h lt =
    let r = params_are k ts lt h in
    so_said (λ i. add_types (add_args d (r.1.0 i)) (r.1.1 i))
    (until_goes item.Param close_paren due_behind param_items (paren_ends refl) (params k ts) y d r.0)

-- ---- what a loop carries

abbrev PairFits : Names → Pair → Type 0
PairFits names p = Known names p.first_value × (p.number < 2 ^ 64)

abbrev pair_name : Pair → List ℕ
pair_name p = argument_text p.number

abbrev pair_use : Names → Pair → UseSaid
pair_use names p = use_printed names p.first_value

abbrev with_pairs : Names → List Pair → Said → Said
with_pairs names ps d = add_uses (add_args d (map pair_name ps)) (map (pair_use names) ps)

pair_items : (names : Names)
    → Items pair_rule (pair_fill names) (with_pairs names) (All (PairFits names)) (λ y. not (is_index y))
unfolding pair_rule argument_rule
pair_items names = record {
  one = λ p ps y d h e. (let v = value_goes names p.first_value true y (add_args d (pair_name p ∷ [])) h.0.0 e in
      let named = silent_goes true due.Other equals (mark_lexes 61 refl) refl in
      let g = both_go (argument_goes false p.number _ d h.0.1) (both_go named v) in
      record { fit = λ s. and_is _ _ (room d.uses _ s.1.1.0) (g.fit s); say = g.say; few = g.few; lex = g.lex });
  later = λ p ps d h. h.1;
  begins = λ p ps y d h. refl;
  none = λ d i. record d { args = sym (append-nil d.args) i; uses = sym (append-nil d.uses) i };
  more = λ p ps d h i. record d {
    args = append_assoc d.args (pair_name p ∷ []) (map pair_name ps) i;
    uses = append_assoc d.uses (pair_use names p ∷ []) (map (pair_use names) ps) i;
  };
  behind = refl;
}

-- they fit, and have the names of as many arguments, and the values
pairs_are : (names : Names) (k : ℕ) (os : List ValueName) (ts : List PayloadType) → length os ≡ length ts
    → k + length ts < 2 ^ 64 → Each (Known names) os
    → Each (PairFits names) (pairs k os)
    × ((map pair_name (pairs k os) ≡ arguments_printed k ts)
    × (map (pair_use names) (pairs k os) ≡ map (use_printed names) os))
pairs_are names k [] [] e lt h = (tt, (refl, refl))
pairs_are names k (v ∷ os) (t ∷ ts) e lt h =
    let r = pairs_are names (suc k) os ts (omega arith) (omega arith) h.1 in (
      ((h.0, omega arith), r.0),
      (ap (λ xs. argument_text k ∷ xs) r.1.0, ap (λ us. use_printed names v ∷ us) r.1.1),
    )
pairs_are names k os ts e lt h = absurd (omega arith)

-- the arguments behind the first, with their first values and the types of the results
abbrev pub with_carried : Names → ℕ → List ValueName → List PayloadType → Said → Said
with_carried names k os ts d =
    add_results (add_uses (add_args d (arguments_printed k ts)) (map (use_printed names) os)) ts

pub iter_args_go : (names : Names) (first : ℕ) (os : List ValueName) (ts : List PayloadType) (y : Terminal) (d : Said)
    → Each (Known names) (drop 3 os) → Each TypeFits ts → length (drop 3 os) ≡ length ts
    → suc first + length ts < 2 ^ 64 → not (is_word (codes "iter_args") y) ≡ true
    → Goes iter_args_rule (iter_args_fill names first os ts) y d (with_carried names (suc first) (drop 3 os) ts d)
unfolding iter_args_rule
iter_args_go names first os [] y d h s same lt e =
    let a = sym (append-nil d.args) in
    let b = sym (append-nil d.uses) in
    let c = sym (append-nil d.results) in
    rw (none_by_length (drop 3 os) same)
    (so_said (λ i. record d { args = a i; uses = b i; results = c i }) (off_goes e skips))
iter_args_go names first os (t ∷ ts) y d h s same lt e =
    let vs = drop 3 os in
    let r = pairs_are names (suc first) vs (t ∷ ts) same lt h in
    let p = so_said (λ i. add_uses (add_args d (r.1.0 i)) (r.1.1 i))
    (until_goes item.Pair close_paren due.Other (pair_items names) (paren_ends refl) (pairs (suc first) vs) _ d r.0) in
    let results = both_go (silent_goes true due.Other token.Arrow arrow_lexes refl)
    (listed_results_go (t ∷ ts) y _ s) in
    take_goes (word_lexes (codes "iter_args") refl) refl
    (both_go (silent_goes false due.Other open_paren (mark_lexes 40 refl) refl) (both_go p results))
