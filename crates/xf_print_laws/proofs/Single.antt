-- Slots of one value, type, word, symbol or constant.
use Rattle.std.proofs.Common.{◌≡◌, ℕ, zero, suc, ◌+◌, ◌-◌, ◌^◌, ◌<◌, Bool, true, false, List, [], ◌∷◌, length}
use Rattle.std.proofs.Common.{Option, Some, None, refl, ap, ◌∙◌, arith, slice_get}
use Rattle.std.specs.Prelude.{not, min, codes, is_some}
use Rattle.std.specs.Fmt.{decimal}
use Rattle.std.specs.Str.{bytes_eq}
use Rattle.std.proofs.lemmas.Bool.{le-leb}
use Rattle.xf_type.specs.declared.payload_type.PayloadType.{PayloadType}
use Rattle.xf_type.specs.declared.payload_type.PayloadType.TheVariants.{Scalar, Tensor}
use Rattle.xf_type.specs.declared.payload_type.Width.{Width}
use Rattle.xf_type.specs.declared.payload_type.Width.TheVariants.{I1, Index}
use Rattle.xf_type.specs.Limits.{most_entries}
use Rattle.xf_lex.specs.declared.token.TokenKind.TheVariants as token
use Rattle.xf_lex.proofs.Stays.{Digits, decimal_digits}
use Rattle.xf_shape.proofs.Again.{least}
use Rattle.xf_grammar.specs.Apart.{IsLexeme}
use Rattle.xf_grammar.specs.Tokens.{Terminal, terminal, is_kind, is_index, starts_digit, number_of, colon}
use Rattle.xf_grammar.specs.Grammar.{both, two}
use Rattle.xf_grammar.proofs.Basics.{not_true}
use Rattle.xf_format.specs.declared.expected.Expected.{Expected}
use Rattle.xf_format.specs.declared.expected.Expected.TheVariants as due
use Rattle.xf_format.specs.Parts.{truth, number, Said, says_symbol, says_private}
use Rattle.xf_format.specs.Parts.{says_literal, says_type}
use Rattle.xf_format.specs.Rules.{kind_rule, word_rule, argument_rule, use_rule, width_rule, type_rule, result_rule}
use Rattle.xf_format.specs.Rules.{symbol_rule, module_name_rule, function_name_rule, number_rule}
use Rattle.xf_format.specs.Rules.{literal_rule, loop_width_rule}
use Rattle.xf_format.specs.Tests.{is_short}
use Rattle.xf_ir.specs.declared.name.ValueName.{ValueName}
use Rattle.xf_ir.specs.declared.name.ValueName.TheVariants.{Result, Arg, Free}
use Rattle.xf_ir.specs.Lists.{Each}
use Rattle.xf_ir.specs.RuleAttributes.{fits_bits}
use Rattle.xf_ir.specs.Types.{is_scalar}
use Rattle.xf_ir.specs.Words.{is_word}
use Rattle.xf_printed.specs.Names.{DefinedValues, Names, argument_text}
use Rattle.xf_printed.specs.Fills.{Use, part_digits, use_or_none, use_fill, value_fill, operand_fill, argument_fill}
use Rattle.xf_printed.specs.Fills.{word_fill, width_fill, type_fill, type_or_none, symbol_fill, module_name_fill}
use Rattle.xf_printed.specs.Fills.{function_name_fill, bytes_or_none, mark_fill, truth_fill, signed_fill, scalar_fill}
use Rattle.xf_printed.specs.Fills.{loop_width_fill, is_set, width_or_none, number_name}
use Rattle.xf_printed.specs.Fills.{result_use as result_use_of, argument_use as argument_use_of}
use Rattle.xf_print_laws.specs.Naming.{part_said, result_use, argument_use, use_or, use_printed}
use Rattle.xf_print_laws.specs.SaidPrinted.{known_types, literal_printed}
use Rattle.xf_print_laws.proofs.Goes.{add_args, add_uses, add_types, add_results, few_args, few_uses, few_types}
use Rattle.xf_print_laws.proofs.Goes.{few_results, room, Goes, skips, take_goes, off_goes, peek_off_goes}
use Rattle.xf_print_laws.proofs.Goes.{both_go, silent_goes}
use Rattle.xf_print_laws.proofs.LayoutTokens.{word_lexes, symbol_lexes, number_lexes, index_lexes, argument_lexes}
use Rattle.xf_print_laws.proofs.LayoutTokens.{mark_lexes}
use Rattle.xf_print_laws.proofs.Needs.{NamedResult, NamedArgument, Known, TypeFits, SymbolFits}
use Rattle.xf_print_laws.proofs.Signed.{roomy}
pub use Rattle.xf_print_laws.proofs.Signed.{number_is}
use Rattle.xf_print_laws.proofs.Words.{width_found, width_lexes}
use Rattle.std.proofs.Common.{append-nil, subst}
use Rattle.xf_type.specs.declared.payload_type.Shape.{Shape}
use Rattle.xf_lex.specs.declared.lexeme.Lexeme.TheVariants as front
use Rattle.xf_lex.specs.Lexemes.{token_at}
use Rattle.xf_shape.specs.Laws.{AreStored}
use Rattle.xf_shape.specs.Written.{shape_text}
use Rattle.xf_shape.proofs.Again.{shapes_are_read_again, shapes_stay, shapes_are_ascii}
use Rattle.xf_grammar.specs.Tokens.{word_of}
use Rattle.xf_grammar.specs.Grammar.{Fill, nothing, yes, here}
use Rattle.xf_grammar.proofs.LaidOut.{known_token}
use Rattle.xf_format.specs.Words.{lookup, widths, shape_meant}
use Rattle.xf_print_laws.proofs.Needs.{TypeKnown}
use Rattle.xf_grammar.specs.Apart.{FillLexes}
use Rattle.xf_format.specs.Rules.{tensor_rule, result_tensor_rule}
use Rattle.xf_printed.specs.Fills.{tensor_or_none, scalar_or_none}
use Rattle.xf_print_laws.proofs.Needs.{TypeFits, is_tensor}
use Rattle.xf_ir.specs.Types.{is_scalar}

-- ---- words

pub word_goes : (gap : Bool) (w : List ℕ) (y : Terminal) (d : Said) → is_word w ≡ true → bytes_eq w w ≡ true
    → Goes (word_rule gap w) (word_fill w) y d d
unfolding word_rule
word_goes gap w y d word e = record { fit = λ s. rw e refl; say = refl; few = λ s. s; lex = (word_lexes w word, tt) }

-- ---- names

pub argument_goes : (gap : Bool) (k : ℕ) (y : Terminal) (d : Said) → k < 2 ^ 64
    → Goes (argument_rule gap) (argument_fill k) y d (add_args d (argument_text k ∷ []))
unfolding argument_rule
argument_goes gap k y d lt = record {
  fit = λ s. rw (room d.args _ s.1.0) refl;
  say = refl;
  few = few_args d (argument_text k ∷ []);
  lex = (argument_lexes k lt, tt);
}

pub count_is : (n : ℕ) → n < 2 ^ 32 → min (number_of (decimal n)) (2 ^ 32 - 1) ≡ n
count_is n lt = ap (λ m. min m (2 ^ 32 - 1)) (number_is n (omega (arith, lt))) ∙ least n lt

starts : (ds : List ℕ) → Digits ds → starts_digit ds ≡ true
starts [] d = absurd (let z = d.some in omega arith)
starts (b ∷ ds) d = d.all.0

-- a name with the number of one of these
use_goes : (gap : Bool) (name : List ℕ) (ts : List PayloadType) (num : ℕ) (y : Terminal) (d : Said)
    → IsLexeme (terminal token.Value name) → num < 2 ^ 32 → not (is_index y) ≡ true
    → let u : Use = record { name = name; digits = part_digits ts num } in Goes (use_rule gap) (use_fill u) y d
    (add_uses d ((record { name = name; number = part_said ts num }) ∷ []))
unfolding use_rule
use_goes gap name (t ∷ (u ∷ ts)) num y d l lt e =
    let i = starts (decimal num) (decimal_digits num (omega arith)) in
    let c = count_is num lt in
    record {
      fit = λ s. rw (i, room d.uses _ s.1.1.0) refl;
      say = rw c refl;
      few = few_uses d _;
      lex = (l, ((index_lexes num (omega arith), tt), tt));
    }
use_goes gap name ts num y d l lt e =
    record {
      fit = λ s. rw (e, room d.uses _ s.1.1.0) refl;
      say = refl;
      few = few_uses d _;
      lex = (l, (tt, tt));
    }

-- what has this entry
named_result_goes : (gap : Bool) (o : Option DefinedValues) (num : ℕ) (y : Terminal) (d : Said) → NamedResult o num
    → not (is_index y) ≡ true
    → Goes (use_rule gap) (use_fill (use_or_none (λ e. result_use_of e num) o)) y d
    (add_uses d (use_or (λ e. result_use e num) o ∷ []))
named_result_goes gap None num y d n e = absurd n
named_result_goes gap (Some x) num y d n e =
    use_goes gap (number_name x.number) x.results num y d (number_lexes x.number n.0) n.1 e

block_argument_goes : (gap : Bool) (o : Option DefinedValues) (num : ℕ) (y : Terminal) (d : Said)
    → NamedArgument o num → not (is_index y) ≡ true
    → Goes (use_rule gap) (use_fill (use_or_none (λ e. argument_use_of e num) o)) y d
    (add_uses d (use_or (λ e. argument_use e num) o ∷ []))
block_argument_goes gap None num y d n e = absurd n
block_argument_goes gap (Some x) num y d n e =
    use_goes gap (argument_text (x.first + num)) [] 0 y d (argument_lexes (x.first + num) n) (omega arith) e

pub value_goes : (names : Names) (v : ValueName) (gap : Bool) (y : Terminal) (d : Said) → Known names v
    → not (is_index y) ≡ true → Goes (use_rule gap) (value_fill names v) y d (add_uses d (use_printed names v ∷ []))
value_goes names (Result o num) gap y d k e = named_result_goes gap (names.entry o.0) num y d k.1 e
value_goes names (Arg o r num) gap y d k e = block_argument_goes gap (names.entry o.0) num y d k.1 e
value_goes names (Free num) gap y d k e = absurd k.1

-- the operand with a number
abbrev pub with_use : Names → Option ValueName → Said → Said
with_use names None d = d
with_use names (Some v) d = add_uses d (use_printed names v ∷ [])

pub operand_goes : (names : Names) (os : List ValueName) (i : ℕ) (y : Terminal) (d : Said) → Each (Known names) os
    → is_some (slice_get os i) ≡ true → not (is_index y) ≡ true
    → Goes (use_rule true) (operand_fill names (slice_get os i)) y d (with_use names (slice_get os i) d)
operand_goes names [] i y d h o e = absurd cc
operand_goes names (v ∷ os) zero y d h o e = value_goes names v true y d h.0 e
operand_goes names (v ∷ os) (suc i) y d h o e = operand_goes names os i y d h.1 o e

-- ---- types

pub width_goes : (gap : Bool) (due : Expected) (w : Width) (y : Terminal) (d : Said)
    → Goes (width_rule gap due) (width_fill w) y d (says_type (Scalar w) d)
unfolding width_rule
width_goes gap due w y d = let p = width_found w in
    record {
      fit = λ s. rw (p, room d.types _ s.1.1.1.0) refl;
      say = rw p refl;
      few = few_types d _;
      lex = (width_lexes w, tt);
    }

-- a token that means a shape and no width
pub record MeansShape (x : Terminal) (s : Shape) : Type 0 where
  pub shape : shape_meant x ≡ Some s
  pub word : lookup widths (word_of x) ≡ None
  pub lex : IsLexeme x

pub shape_written : (s : Shape) → AreStored s.dims → MeansShape (terminal token.Shape (shape_text s)) s
shape_written s h = record {
  shape = shapes_are_read_again s h;
  word = refl;
  lex = known_token token.Shape (shape_text s)
      (subst (λ bs. token_at true bs ≡ front.Token token.Shape (length (shape_text s))) (append-nil (shape_text s))
      (shapes_stay s [] h).longest) refl (shapes_are_ascii s h);
}

-- the word tensor, and a token
abbrev pub tensor_by : Terminal → Fill
tensor_by x = here (yes (terminal token.Word (codes "tensor")) (yes x nothing))

module _ (gap : Bool) (x : Terminal) (s : Shape) (y : Terminal) (d : Said) (h : MeansShape x s) where
  tensor_lexes : FillLexes (tensor_by x)
  tensor_lexes = (word_lexes (codes "tensor") refl, (h.lex, tt))

  tensor_goes : Goes (tensor_rule gap) (tensor_by x) y d (add_types d (Tensor s ∷ []))
  unfolding tensor_rule
  tensor_goes = let p = h.shape in let q = h.word in
      record {
        fit = λ few. rw (room d.types _ few.1.1.1.0, p) refl;
        say = rw (q, p) refl;
        few = few_types d _;
        lex = tensor_lexes;
      }

  result_tensor_goes : Goes (result_tensor_rule gap) (tensor_by x) y d (add_results d (Tensor s ∷ []))
  unfolding result_tensor_rule
  result_tensor_goes = let p = h.shape in let q = h.word in
      record {
        fit = λ few. rw (room d.results _ few.1.1.1.1.0, p) refl;
        say = rw (q, p) refl;
        few = few_results d _;
        lex = tensor_lexes;
      }

-- the type of an operand, and of the result, which is a tensor or a width
pub tensor_of_goes : (o : Option PayloadType) (y : Terminal) (d : Said) → is_tensor o ≡ true → TypeKnown o
    → Goes (tensor_rule true) (tensor_or_none o) y d (add_types d (known_types (o ∷ [])))
tensor_of_goes None y d e h = absurd h
tensor_of_goes (Some (Scalar w)) y d e h = absurd cc
tensor_of_goes (Some (Tensor s)) y d e h =
    tensor_goes true (terminal token.Shape (shape_text s)) s y d (shape_written s h.0)

pub tensor_result_goes : (o : Option PayloadType) (y : Terminal) (d : Said) → is_tensor o ≡ true → TypeKnown o
    → Goes (result_tensor_rule true) (tensor_or_none o) y d (add_results d (known_types (o ∷ [])))
tensor_result_goes None y d e h = absurd h
tensor_result_goes (Some (Scalar w)) y d e h = absurd cc
tensor_result_goes (Some (Tensor s)) y d e h =
    result_tensor_goes true (terminal token.Shape (shape_text s)) s y d (shape_written s h.0)

pub width_of_goes : (o : Option PayloadType) (y : Terminal) (d : Said) → is_scalar o ≡ true
    → Goes (width_rule true due.Width) (scalar_or_none o) y d (add_types d (known_types (o ∷ [])))
width_of_goes None y d e = absurd cc
width_of_goes (Some (Scalar w)) y d e = width_goes true due.Width w y d
width_of_goes (Some (Tensor s)) y d e = absurd cc

pub type_goes : (gap : Bool) (o : Option PayloadType) (y : Terminal) (d : Said) → TypeKnown o
    → Goes (type_rule gap) (type_or_none o) y d (add_types d (known_types (o ∷ [])))
unfolding type_rule tensor_rule
type_goes gap None y d h = absurd h
type_goes gap (Some (Scalar w)) y d h = let p = width_found w in
    record {
      fit = λ s. rw (p, room d.types _ s.1.1.1.0) refl;
      say = rw p refl;
      few = few_types d _;
      lex = (width_lexes w, tt);
    }
type_goes gap (Some (Tensor s)) y d h =
    peek_off_goes refl (tensor_goes gap (terminal token.Shape (shape_text s)) s y d (shape_written s h.0))

pub one_result_goes : (gap : Bool) (t : PayloadType) (y : Terminal) (d : Said) → TypeFits t
    → Goes (result_rule gap) (type_fill t) y d (add_results d (t ∷ []))
unfolding result_rule result_tensor_rule
one_result_goes gap (Scalar w) y d h = let p = width_found w in
    record {
      fit = λ s. rw (p, room d.results _ s.1.1.1.1.0) refl;
      say = rw p refl;
      few = few_results d _;
      lex = (width_lexes w, tt);
    }
one_result_goes gap (Tensor s) y d h =
    peek_off_goes refl (result_tensor_goes gap (terminal token.Shape (shape_text s)) s y d (shape_written s h.0))

pub result_goes : (o : Option PayloadType) (y : Terminal) (d : Said) → TypeKnown o
    → Goes (result_rule true) (type_or_none o) y d (add_results d (known_types (o ∷ [])))
result_goes None y d h = absurd h
result_goes (Some t) y d h = one_result_goes true t y d h

-- the width with a number
abbrev pub with_width : Option Width → Said → Said
with_width None d = d
with_width (Some w) d = says_type (Scalar w) d

pub width_slot_goes : (due : Expected) (o : Option Width) (y : Terminal) (d : Said) → is_some o ≡ true
    → Goes (width_rule true due) (width_or_none o) y d (with_width o d)
width_slot_goes due None y d e = absurd cc
width_slot_goes due (Some w) y d e = width_goes true due w y d

-- ---- symbols

pub short_is : (bytes : List ℕ) → length bytes < 2 ^ 32 → is_short bytes ≡ true
short_is bytes few = le-leb (length bytes) most_entries (omega (arith, few))

abbrev pub with_symbol : Option (List ℕ) → Said → Said
with_symbol None d = d
with_symbol (Some s) d = says_symbol (64 ∷ s) d

abbrev pub with_privacy : Bool → Said → Said
with_privacy true d = says_private d
with_privacy false d = d

pub symbol_goes : (o : Option (List ℕ)) (y : Terminal) (d : Said) → SymbolFits o → is_some o ≡ true
    → Goes symbol_rule (symbol_fill (bytes_or_none o)) y d (with_symbol o d)
unfolding symbol_rule
symbol_goes None y d f i = absurd cc
symbol_goes (Some s) y d f i = let short = short_is s f.1 in
    record { fit = λ few. rw short refl; say = refl; few = λ few. few; lex = (symbol_lexes s f.0, tt) }

-- of a module, which may have none
pub module_name_goes : (o : Option (List ℕ)) (y : Terminal) (d : Said) → SymbolFits o
    → not (is_kind token.Symbol y) ≡ true → Goes module_name_rule (module_name_fill o) y d (with_symbol o d)
unfolding module_name_rule
module_name_goes None y d f e = let n = not_true _ e in off_goes (rw n refl) (peek_off_goes e skips)
module_name_goes (Some s) y d f e = let short = short_is s f.1 in
    record { fit = λ few. rw short refl; say = refl; few = λ few. few; lex = (symbol_lexes s f.0, tt) }

pub function_name_goes : (private : Bool) (o : Option (List ℕ)) (y : Terminal) (d : Said) → SymbolFits o
    → is_some o ≡ true
    → Goes function_name_rule (function_name_fill private (bytes_or_none o)) y d
    (with_symbol o (with_privacy private d))
unfolding function_name_rule symbol_rule
function_name_goes private None y d f i = absurd cc
function_name_goes true (Some s) y d f i = let short = short_is s f.1 in
    record {
      fit = λ few. rw short refl;
      say = refl;
      few = λ few. few;
      lex = (word_lexes (codes "private") refl, (tt, (symbol_lexes s f.0, tt)));
    }
function_name_goes false (Some s) y d f i = let short = short_is s f.1 in
    record { fit = λ few. rw short refl; say = refl; few = λ few. few; lex = (symbol_lexes s f.0, tt) }

-- ---- constants

truth_goes : (b : Bool) (y : Terminal) (d : Said)
    → Goes literal_rule (truth_fill b) y d (says_type (Scalar I1) (says_literal (truth b) d))
unfolding literal_rule
truth_goes true y d =
    record {
      fit = λ s. rw (room d.types _ s.1.1.1.0) refl;
      say = refl;
      few = few_types d _;
      lex = (word_lexes (codes "true") refl, tt);
    }
truth_goes false y d =
    record {
      fit = λ s. rw (room d.types _ s.1.1.1.0) refl;
      say = refl;
      few = few_types d _;
      lex = (word_lexes (codes "false") refl, tt);
    }

signed_goes : (negative : Bool) (digits : List ℕ) (w : Width) (y : Terminal) (d : Said)
    → IsLexeme (terminal token.Integer digits)
    → Goes literal_rule (signed_fill negative digits w) y d
    (says_type (Scalar w) (says_literal (number negative digits) d))
unfolding literal_rule number_rule
signed_goes negative digits w y d l = by_sign negative
  where
    behind : (negative : Bool)
        → let e : Said = says_literal (number negative digits) d in Goes
        (both (kind_rule true due.Other colon) (width_rule true due.Width)) (two (mark_fill colon) (width_fill w)) y e
        (says_type (Scalar w) e)
    behind negative =
        both_go (silent_goes true due.Other colon (mark_lexes 58 refl) refl) (width_goes true due.Width w y _)

    by_sign : (negative : Bool)
        → Goes literal_rule (signed_fill negative digits w) y d
        (says_type (Scalar w) (says_literal (number negative digits) d))
    by_sign true =
        let g = behind true in record {
          fit = g.fit;
          say = g.say;
          few = g.few;
          lex = (mark_lexes 45 refl, (l, (tt, g.lex)));
        }
    by_sign false = let g = behind false in record { fit = g.fit; say = g.say; few = g.few; lex = (l, (tt, g.lex)) }

pub literal_goes : (w : Width) (bits : ℕ) (y : Terminal) (d : Said) → fits_bits w bits ≡ true
    → Goes literal_rule (scalar_fill w bits) y d (says_type (Scalar w) (says_literal (literal_printed w bits) d))
literal_goes I1 bits y d f = truth_goes (is_set bits) y d
literal_goes w bits y d f = signed_goes _ _ w y d (roomy w bits f).lex

-- ---- loops

-- a loop without a width has the width index
pub loop_width_goes : (o : Option Width) (y : Terminal) (d : Said) → is_some o ≡ true → not (is_kind colon y) ≡ true
    → Goes loop_width_rule (loop_width_fill o) y d (with_width o d)
unfolding loop_width_rule
loop_width_goes None y d i e = absurd cc
loop_width_goes (Some Index) y d i e =
    record { fit = λ s. rw (e, room d.types _ s.1.1.1.0) refl; say = refl; few = few_types d _; lex = tt }
loop_width_goes (Some w) y d i e = take_goes (mark_lexes 58 refl) refl (width_goes true due.Width w y d)
