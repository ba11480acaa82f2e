-- The slots of rows, one by one: what each of them writes fits, and with what it begins.
use Rattle.std.proofs.Common.{◌≡◌, ℕ, zero, suc, Bool, true, false, List, [], ◌∷◌, length, drop, Option}
use Rattle.std.proofs.Common.{Some, None, refl, ap, subst, arith, slice_get}
use Rattle.std.specs.Prelude.{not, ◌||◌, codes, is_some}
use Rattle.std.proofs.lemmas.Bool.{eq-eqb}
use Rattle.xf_type.specs.declared.kind.CmpKind.{CmpKind}
use Rattle.xf_type.specs.declared.payload_type.PayloadType.{PayloadType}
use Rattle.xf_type.specs.declared.payload_type.Width.{Width}
use Rattle.xf_type.specs.declared.payload_type.Width.TheVariants.{I1, Index}
use Rattle.xf_lex.specs.declared.token.TokenKind.{TokenKind}
use Rattle.xf_lex.specs.declared.token.TokenKind.TheVariants as token
use Rattle.xf_grammar.specs.Tokens.{Terminal, terminal, is_kind, is_word, is_index, minus, colon}
use Rattle.xf_grammar.specs.Grammar.{Fill, written, tokens, first_seen}
use Rattle.xf_grammar.proofs.Basics.{both_true, and_is, not_false}
use Rattle.xf_format.specs.declared.expected.Expected.TheVariants as due
use Rattle.xf_format.specs.declared.row.FormatElement.{FormatElement}
use Rattle.xf_format.specs.declared.row.FormatElement.TheVariants as slot
use Rattle.xf_format.specs.declared.row.Keyword.TheVariants as key
use Rattle.xf_format.specs.Parts.{Said}
use Rattle.xf_format.specs.Rules.{Rule, language, slot_rule, slots_rule, kind_rule, word_rule, attributes_rule}
use Rattle.xf_format.specs.Rules.{dictionary_rule, literal_rule, number_rule, predicate_rule, operands_rule, use_rule}
use Rattle.xf_format.specs.Rules.{if_results_rule, iter_args_rule, loop_width_rule}
use Rattle.xf_format.specs.Words.{spelling}
use Rattle.xf_ir.specs.declared.kind.Kind.{Kind}
use Rattle.xf_ir.specs.declared.kind.Kind.TheVariants as kind
use Rattle.xf_ir.specs.Kinds.{returned_types}
use Rattle.xf_ir.specs.declared.name.ValueName.{ValueName}
use Rattle.xf_ir.specs.Lists.{Each, every, is_empty}
use Rattle.xf_ir.specs.RuleAttributes.{kind_fits}
use Rattle.xf_ir.specs.Tree.{Ops, Tree}
use Rattle.xf_printed.specs.Fills.{use_of, signed_fill, truth_fill, literal_fill, predicate_or_none, word_fill}
use Rattle.xf_printed.specs.Fills.{attributes_fill, dictionary_fill, operands_fill}
use Rattle.xf_printed.specs.Fills.{if_results_fill, iter_args_fill, loop_width_fill, widths_of, symbol_printed}
use Rattle.xf_printed.specs.Fills.{is_private, is_set, slot_fill}
use Rattle.xf_printed.specs.Names.{Names, first_args}
use Rattle.xf_print_laws.specs.SaidPrinted.{predicate_printed, constant_printed}
use Rattle.xf_print_laws.proofs.Goes.{Goes, skips, both_go, silent_goes, seen_both}
use Rattle.xf_print_laws.proofs.LayoutTokens.{mark_lexes}
use Rattle.xf_print_laws.proofs.Lists.{dictionary_goes, attributes_goes}
use Rattle.xf_print_laws.proofs.Lists.{operands_go, params_go, function_results_go, if_results_go}
use Rattle.xf_print_laws.proofs.Lists.{iter_args_go}
use Rattle.xf_print_laws.proofs.Needs.{Known, arguments_of, CarriedRight, Fits}
use Rattle.xf_print_laws.proofs.Single.{with_use, with_width, with_symbol, with_privacy, word_goes}
use Rattle.xf_print_laws.proofs.Single.{argument_goes, operand_goes, width_slot_goes, symbol_goes, module_name_goes}
use Rattle.xf_print_laws.proofs.Single.{function_name_goes, literal_goes, loop_width_goes}
use Rattle.xf_grammar.specs.Tokens.{close_paren}
use Rattle.xf_format.specs.declared.list.Item.TheVariants as item
use Rattle.xf_format.specs.Rules.{call_results_rule}
use Rattle.xf_print_laws.proofs.Goes.{until_goes, paren_ends}
use Rattle.xf_print_laws.proofs.Lists.{value_items, type_items, result_types_go, arrow_lexes}
use Rattle.xf_print_laws.proofs.Words.{predicate_found, predicate_lexes}
use Rattle.std.proofs.Common.{◌∙◌}
use Rattle.xf_printed.specs.Fills.{operand_type}
use Rattle.xf_print_laws.proofs.Goes.{list_ends}
use Rattle.xf_print_laws.proofs.Needs.{TypeFits, TypeKnown, is_tensor, typed}
use Rattle.xf_print_laws.proofs.Single.{type_goes, tensor_of_goes, width_of_goes, result_goes, tensor_result_goes}
use Rattle.std.specs.Prelude.{option_and_then}
use Rattle.xf_printed.specs.Names.{type_of}
use Rattle.xf_printed.specs.Fills.{operand_fill, no_use}
use Rattle.std.specs.Prelude.{◌-◌, take}
use Rattle.xf_print_laws.proofs.Lists.{with_out, ins_goes, outs_goes}
use Rattle.xf_format.specs.Rules.{ins_rule}
use Rattle.std.proofs.Common.{◌++◌}
use Rattle.std.proofs.lemmas.List.{take-append-drop}
use Rattle.xf_ir.proofs.Lists.{each_left, each_right}
use Rattle.xf_format.specs.declared.row.Side.TheVariants.{Offsets, Sizes}
use Rattle.xf_format.specs.Parts.{no_map}
use Rattle.xf_format.specs.Rules.{dense_rule, outs_rule, block_name_rule}
use Rattle.xf_printed.specs.Structured.{offsets_of, sizes_of, maps_of, iterators_of, window_values, values_behind}
use Rattle.xf_print_laws.proofs.Goes.{take_goes, peek_off_goes}
use Rattle.xf_print_laws.proofs.LayoutTokens.{word_lexes, block_name_lexes}
use Rattle.xf_print_laws.proofs.Lists.{some_ins_go, marked_goes}
use Rattle.xf_print_laws.proofs.Maps.{maps_go}
use Rattle.xf_print_laws.proofs.Needs.{DenseFits}
use Rattle.xf_print_laws.proofs.Structured.{places_go, values_left, strides_go}
use Rattle.xf_print_laws.proofs.Structured.{iterators_go, dense_goes}
use Rattle.xf_print_laws.proofs.SlotTable.{literal_says, predicate_says, first_in, slot_says, slots_say, filled}
use Rattle.xf_print_laws.proofs.SlotTable.{is_loop, offers, stops, firsts, may_skip, none_of, meets_none}
use Rattle.xf_print_laws.proofs.SlotTable.{clear, apart, Stop, a_kind, a_word}

-- ---- the first token of slots

-- none of these stands first in what a rule writes before a token
abbrev Seen : List Stop → Terminal → Rule → Fill → Type 0
Seen xs z g f = none_of xs (first_seen (tokens language g f) z) ≡ true

bytes_free : (k : TokenKind) → ((w b : List ℕ) → is_word w (terminal k b) ≡ false) → (xs : List Stop) (b : List ℕ)
    → none_of xs (terminal k []) ≡ true → none_of xs (terminal k b) ≡ true
bytes_free k f [] b e = refl
bytes_free k f (a_kind j ∷ xs) b e = let p = both_true _ _ e in and_is _ _ p.0 (bytes_free k f xs b p.1)
bytes_free k f (a_word w ∷ xs) b e = and_is _ _ (not_false _ (f w b)) (bytes_free k f xs b (both_true _ _ e).1)

unknown : (xs : List Stop) (y : Terminal) → is_empty xs ≡ true → none_of xs y ≡ true
unknown [] y e = refl
unknown (x ∷ xs) y e = absurd cc

every_at : (p : Terminal → Bool) (ys : List Terminal) (i : ℕ) (y : Terminal) → every p ys ≡ true
    → slice_get ys i ≡ Some y → p y ≡ true
every_at p [] i y e s = absurd cc
every_at p (x ∷ ys) zero y e s = let q : x ≡ y = cc in subst (λ z. p z ≡ true) q (both_true (p x) _ e).0
every_at p (x ∷ ys) (suc i) y e s = every_at p ys i y (both_true (p x) _ e).1 s

signed_seen : (xs : List Stop) (negative : Bool) (digits : List ℕ) (w : Width) (z : Terminal)
    → meets_none xs (firsts slot.Literal) ≡ true → Seen xs z literal_rule (signed_fill negative digits w)
unfolding literal_rule number_rule
signed_seen xs true digits w z e = every_at (none_of xs) (firsts slot.Literal) 2 (terminal minus []) e refl
signed_seen xs false digits w z e =
    bytes_free token.Integer (λ w b. refl) xs digits
    (every_at (none_of xs) (firsts slot.Literal) 3 (terminal token.Integer []) e refl)

truth_seen : (xs : List Stop) (b : Bool) (z : Terminal) → meets_none xs (firsts slot.Literal) ≡ true
    → Seen xs z literal_rule (truth_fill b)
unfolding literal_rule
truth_seen xs true z e = every_at (none_of xs) (firsts slot.Literal) 0 (terminal token.Word (codes "true")) e refl
truth_seen xs false z e = every_at (none_of xs) (firsts slot.Literal) 1 (terminal token.Word (codes "false")) e refl

literal_seen : (xs : List Stop) (k : Kind) (z : Terminal) → is_some (constant_printed k) ≡ true
    → meets_none xs (firsts slot.Literal) ≡ true → Seen xs z literal_rule (literal_fill k)
unfolding literal_rule dense_rule
literal_seen xs (kind.Constant I1 bits) z o e = truth_seen xs (is_set bits) z e
literal_seen xs (kind.Constant w bits) z o e = signed_seen xs _ _ w z e
literal_seen xs (kind.Dense shape numbers) z o e =
    every_at (none_of xs) (firsts slot.Literal) 4 (terminal token.Word (codes "dense")) e refl
literal_seen xs k z o e = absurd cc

loop_width_seen : (xs : List Stop) (o : Option Width) (z : Terminal) → none_of xs (terminal colon []) ≡ true
    → none_of xs z ≡ true → Seen xs z loop_width_rule (loop_width_fill o)
unfolding loop_width_rule
loop_width_seen xs None z e f = f
loop_width_seen xs (Some Index) z e f = f
loop_width_seen xs (Some w) z e f = e

module _ (names : Names) (t : Tree) where
  slot_seen : (s : FormatElement) (xs : List Stop) (z : Terminal)
      → offers names t s ≡ true → meets_none xs (firsts s) ≡ true → (may_skip s ≡ true → none_of xs z ≡ true)
      → Seen xs z (slot_rule s) (slot_fill names (first_in names t) t s)
  unfolding kind_rule word_rule attributes_rule dictionary_rule operands_rule use_rule if_results_rule iter_args_rule
      ins_rule outs_rule
  slot_seen (slot.Mark gap b) xs z o e f = e
  slot_seen (slot.Word gap k) xs z o e f = e
  slot_seen slot.Attributes xs z o e f =
      elim t.attrs as (λ ds. Seen xs z attributes_rule (attributes_fill ds)) [ [] ↦ f refl | d ∷ ds ↦ e ]
  slot_seen slot.Dictionary xs z o e f =
      elim t.attrs as (λ ds. Seen xs z dictionary_rule (dictionary_fill ds)) [ [] ↦ f refl | d ∷ ds ↦ e ]
  slot_seen slot.Literal xs z o e f = literal_seen xs t.kind z o e
  slot_seen slot.Operands xs z o e f =
      elim t.operands as (λ os. Seen xs z operands_rule (operands_fill names os)) [
        | [] ↦ f refl
        | v ∷ os ↦ bytes_free token.Value (λ w b. refl) xs (use_of names v).name e
      ]
  slot_seen (slot.Use i) xs z o e f =
      elim (slice_get t.operands i) as (λ o. Seen xs z (use_rule true) (operand_fill names o)) [
        | None ↦ bytes_free token.Value (λ w b. refl) xs no_use.name e
        | Some v ↦ bytes_free token.Value (λ w b. refl) xs (use_of names v).name e
      ]
  slot_seen slot.Ins xs z o e f = e
  slot_seen slot.Arrow xs z o e f = e
  slot_seen slot.Outs xs z o e f = e
  slot_seen slot.IfResults xs z o e f =
      elim t.results as (λ ts. Seen xs z if_results_rule (if_results_fill ts)) [ [] ↦ f refl | r ∷ ts ↦ e ]
  slot_seen slot.IterArgs xs z o e f =
      elim t.results as (λ ts. Seen xs z iter_args_rule
      (iter_args_fill names (first_in names t) t.operands ts)) [ [] ↦ f refl | r ∷ ts ↦ e ]
  slot_seen slot.LoopWidth xs z o e f = loop_width_seen xs (slice_get (widths_of t.kind) 0) z e (f refl)
  slot_seen s xs z o e f =
      unknown xs (first_seen (tokens language (slot_rule s) (slot_fill names (first_in names t) t s)) z) e

  pub clear_seen : (ss : List FormatElement) (xs : List Stop) (y : Terminal)
      → every (offers names t) ss ≡ true → clear xs ss y ≡ true → Seen xs y (slots_rule ss) (filled names t ss)
  clear_seen [] xs y o e = e
  clear_seen (s ∷ ss) xs y o e =
      let p = both_true (offers names t s) _ o in
      let q = both_true (meets_none xs (firsts s)) _ e in
      let later = λ (k : may_skip s ≡ true). clear_seen ss xs y p.1 (skipped (may_skip s) _ k q.1) in
      let one = written language (slot_rule s) (slot_fill names (first_in names t) t s) in
      let more = written language (slots_rule ss) (filled names t ss) in
      rw (seen_both one more y) (slot_seen s xs _ p.0 q.0 later)
    where
      skipped : (a b : Bool) → a ≡ true → (not a || b) ≡ true → b ≡ true
      skipped true b k e = e
      skipped false b k e = absurd cc

-- ---- what slots write

literal_slot_goes : (k : Kind) (y : Terminal) (d : Said) → kind_fits k ≡ true → DenseFits k
    → is_some (constant_printed k) ≡ true → Goes literal_rule (literal_fill k) y d (literal_says k d)
unfolding literal_rule
literal_slot_goes (kind.Constant w bits) y d f n o = literal_goes w bits y d f
literal_slot_goes (kind.Dense shape numbers) y d f n o =
    peek_off_goes refl (peek_off_goes refl
    (take_goes (word_lexes (codes "dense") refl) refl (dense_goes shape numbers y d n.0 n.1)))
literal_slot_goes k y d f n o = absurd cc

predicate_slot_goes : (k : Kind) (y : Terminal) (d : Said) → is_some (predicate_printed k) ≡ true
    → Goes predicate_rule (word_fill (predicate_or_none k)) y d (predicate_says (predicate_printed k) d)
unfolding predicate_rule
predicate_slot_goes (kind.Compare which w) y d o = let p = predicate_found which in
    record { fit = λ s. rw p refl; say = rw p refl; few = λ s. s; lex = (predicate_lexes which, tt) }
predicate_slot_goes k y d o = absurd cc

-- a loop carries as many values as it has results, behind its number
loop_carries : (k : Kind) (os : List ValueName) (ts args : List PayloadType) → is_loop k ≡ true → CarriedRight k os ts
    → args ≡ arguments_of k ts args → (length (drop 3 os) ≡ length ts) × (length args ≡ suc (length ts))
loop_carries (kind.For w) os ts args o c e = (c, ap length e)
loop_carries k os ts args o c e = absurd cc

known_parts : (names : Names) (n : ℕ) (os : List ValueName) → Each (Known names) os
    → Each (Known names) (take n os) × Each (Known names) (drop n os)
known_parts names n os h =
    let p : Each (Known names) (take n os ++ drop n os) = rw (take-append-drop n os) h in
    (each_left (Known names) (take n os) (drop n os) p, each_right (Known names) (take n os) (drop n os) p)

-- the values of a window are some of the operands
window_known : (names : Names) (k : Kind) (os : List ValueName) → Each (Known names) os
    → Each (Known names) (window_values k os)
window_known names (kind.ExtractSlice offsets sizes) os h = (known_parts names 1 os h).1
window_known names k os h = (known_parts names 2 os h).1

-- the types of operands and of the first result are known
typed_known : (names : Names) (os : List ValueName) (i : ℕ) → Each (Known names) os
    → is_some (slice_get os i) ≡ true → TypeKnown (typed names os i)
typed_known names [] i h o = absurd cc
typed_known names (v ∷ os) zero h o = h.0.0
typed_known names (v ∷ os) (suc i) h o = typed_known names os i h.1 o

first_tensor : (ts : List PayloadType) → is_tensor (slice_get ts 0) ≡ true → is_some (slice_get ts 0) ≡ true
first_tensor [] e = absurd cc
first_tensor (t ∷ ts) e = refl

first_fits : (ts : List PayloadType) → Each TypeFits ts → is_some (slice_get ts 0) ≡ true → TypeKnown (slice_get ts 0)
first_fits [] h o = absurd cc
first_fits (t ∷ ts) h o = h.0

tensor_there : {A : Type 0} (f : A → Option PayloadType) (o : Option A) → is_tensor (option_and_then f o) ≡ true
    → is_some o ≡ true
tensor_there f None e = absurd cc
tensor_there f (Some x) e = refl

no_index : (y : Terminal) → not (is_kind token.Hash y) ≡ true → not (is_index y) ≡ true
no_index (terminal token.Hash b) e = absurd cc
no_index y e = refl

-- no slot says anything of a map that is being read
module _ (names : Names) (t : Tree) where
  symbol_map : (o : Option (List ℕ)) (d : Said) → (with_symbol o d).map ≡ d.map
  symbol_map None d = refl
  symbol_map (Some s) d = refl

  privacy_map : (b : Bool) (d : Said) → (with_privacy b d).map ≡ d.map
  privacy_map true d = refl
  privacy_map false d = refl

  width_map : (o : Option Width) (d : Said) → (with_width o d).map ≡ d.map
  width_map None d = refl
  width_map (Some w) d = refl

  use_map : (o : Option ValueName) (d : Said) → (with_use names o d).map ≡ d.map
  use_map None d = refl
  use_map (Some v) d = refl

  out_map : (o : Option ValueName) (d : Said) → (with_out names o d).map ≡ d.map
  out_map None d = refl
  out_map (Some v) d = refl

  literal_map : (k : Kind) (d : Said) → (literal_says k d).map ≡ d.map
  literal_map (kind.Constant w bits) d = refl
  literal_map k d = refl

  predicate_map : (o : Option CmpKind) (d : Said) → (predicate_says o d).map ≡ d.map
  predicate_map None d = refl
  predicate_map (Some which) d = refl

  slot_map : (s : FormatElement) (d : Said) → (slot_says names t s d).map ≡ d.map
  slot_map slot.ModuleName d = symbol_map (symbol_printed t.kind) d
  slot_map slot.FunctionName d =
      symbol_map (symbol_printed t.kind) (with_privacy (is_private t.kind) d) ∙ privacy_map (is_private t.kind) d
  slot_map slot.Symbol d = symbol_map (symbol_printed t.kind) d
  slot_map slot.Literal d = literal_map t.kind d
  slot_map slot.Predicate d = predicate_map (predicate_printed t.kind) d
  slot_map (slot.Use i) d = use_map (slice_get t.operands i) d
  slot_map (slot.Width i) d = width_map (slice_get (widths_of t.kind) i) d
  slot_map slot.Outs d = out_map (slice_get t.operands (length t.operands - 1)) d
  slot_map slot.LoopWidth d = width_map (slice_get (widths_of t.kind) 0) d
  slot_map (slot.Places Offsets) d = refl
  slot_map (slot.Places Sizes) d = refl
  slot_map s d = refl

module _ {names : Names} {t : Tree} {rest : Ops} (w : Fits names t rest) where
  -- values for the places of a window
  offsets_go : (y : Terminal) (d : Said)
      → Goes (slot_rule (slot.Places Offsets)) (slot_fill names (first_in names t) t (slot.Places Offsets)) y d
      (slot_says names t (slot.Places Offsets) d)
  offsets_go y d =
      let v = window_known names t.kind t.operands w.values in
      places_go names Offsets (offsets_of t.kind) (window_values t.kind t.operands) y d w.properties.offset_numbers v
      (omega (arith, w.window))

  sizes_go : (y : Terminal) (d : Said)
      → Goes (slot_rule (slot.Places Sizes)) (slot_fill names (first_in names t) t (slot.Places Sizes)) y d
      (slot_says names t (slot.Places Sizes) d)
  sizes_go y d =
      let v = window_known names t.kind t.operands w.values in
      let vs = window_values t.kind t.operands in
      let l = values_left names (offsets_of t.kind) vs w.properties.offset_numbers v (omega (arith, w.window)) in
      places_go names Sizes (sizes_of t.kind) (values_behind (offsets_of t.kind) vs) y d w.properties.size_numbers l.0
      (omega (arith, w.window, l.1))

  slot_goes : (s : FormatElement) (y : Terminal)
      (d : Said) → d.map ≡ no_map → offers names t s ≡ true → none_of (stops s) y ≡ true
      → Goes (slot_rule s) (slot_fill names (first_in names t) t s) y d (slot_says names t s d)
  unfolding call_results_rule block_name_rule
  slot_goes (slot.Mark gap b) y d m o e = silent_goes gap due.Other (token.Mark b) (mark_lexes b o) (eq-eqb b b refl)
  slot_goes (slot.Word gap key.To) y d m o e = word_goes gap (spelling key.To) y d refl refl
  slot_goes (slot.Word gap k) y d m o e = word_goes gap (spelling k) y d refl refl
  slot_goes slot.ModuleName y d m o e =
      module_name_goes (symbol_printed t.kind) y d w.symbol (both_true _ _ e).0
  slot_goes slot.FunctionName y d m o e =
      function_name_goes (is_private t.kind) (symbol_printed t.kind) y d w.symbol o
  slot_goes slot.Symbol y d m o e = symbol_goes (symbol_printed t.kind) y d w.symbol o
  slot_goes slot.Attributes y d m o e = attributes_goes t.attrs y d w.attrs (both_true _ _ e).0
  slot_goes slot.Dictionary y d m o e = dictionary_goes t.attrs y d w.attrs (both_true _ _ e).0
  slot_goes slot.Literal y d m o e = literal_slot_goes t.kind y d w.kind_fit w.dense o
  slot_goes slot.Predicate y d m o e = predicate_slot_goes t.kind y d o
  slot_goes slot.Argument y d m o e = let few = w.first in argument_goes true _ y d (omega arith)
  slot_goes (slot.Use i) y d m o e =
      operand_goes names t.operands i y d w.values o (no_index y (both_true _ _ e).0)
  slot_goes (slot.Width i) y d m o e = width_slot_goes due.ArithWidth (slice_get (widths_of t.kind) i) y d o
  slot_goes (slot.Uses k b) y d m o e =
      until_goes (item.Use false) (token.Mark b) due.Other (value_items names false) (list_ends refl refl b o)
      (drop k t.operands) y d (known_parts names k t.operands w.values).1
  slot_goes (slot.TypeOf i) y d m o e =
      type_goes true (operand_type names t i) y d (typed_known names t.operands i w.values o)
  slot_goes (slot.TensorOf i) y d m o e =
      tensor_of_goes (operand_type names t i) y d o
      (typed_known names t.operands i w.values (tensor_there (type_of names) (slice_get t.operands i) o))
  slot_goes (slot.WidthOf i) y d m o e = width_of_goes (operand_type names t i) y d o
  slot_goes slot.ResultType y d m o e = result_goes (slice_get t.results 0) y d (first_fits t.results w.results o)
  slot_goes slot.ResultTensor y d m o e =
      tensor_result_goes (slice_get t.results 0) y d o
      (first_fits t.results w.results (first_tensor t.results o))
  slot_goes slot.Ins y d m o e =
      let n = length t.operands - 1 in
      ins_goes names (take n t.operands) y d (known_parts names n t.operands w.values).0 o
  slot_goes slot.Outs y d m o e = outs_goes names t.operands (length t.operands - 1) y d w.values o
  slot_goes slot.Arrow y d m o e = silent_goes true due.Other token.Arrow arrow_lexes refl
  slot_goes slot.Types y d m o e =
      until_goes (item.Type false) close_paren due.Other (type_items names false) (paren_ends refl) t.operands y d
      w.values
  slot_goes slot.Params y d m o e = params_go due.AfterArgument _ (first_args t.regions) y d w.args w.first
  slot_goes slot.Operands y d m o e =
      let p = both_true _ _ e in operands_go names t.operands y d w.values p.0 (both_true _ _ p.1).0
  slot_goes slot.CallResults y d m o e =
      both_go (silent_goes true due.Other token.Arrow arrow_lexes refl)
      (result_types_go due.Other t.results y d w.results)
  slot_goes slot.FunctionResults y d m o e =
      function_results_go (returned_types t.kind) y d w.returned (both_true _ _ e).0
  slot_goes slot.IfResults y d m o e = if_results_go t.results y d w.results (both_true _ _ e).0
  slot_goes slot.IterArgs y d m o e =
      let c = loop_carries t.kind t.operands t.results (first_args t.regions) o w.carried w.arguments in
      let few = w.first in
      iter_args_go names _ t.operands t.results y d (known_parts names 3 t.operands w.values).1 w.results c.0
      (omega arith) (both_true _ _ e).0
  slot_goes slot.LoopWidth y d m o e = loop_width_goes (slice_get (widths_of t.kind) 0) y d o (both_true _ _ e).0
  slot_goes slot.SomeIns y d m o e =
      let n = length t.operands - 1 in
      some_ins_go names (take n t.operands) y d (known_parts names n t.operands w.values).0 (both_true _ _ e).0
  slot_goes slot.MarkedAttributes y d m o e = marked_goes t.attrs y d w.attrs (both_true _ _ e).0
  slot_goes slot.BlockParams y d m o e = params_go due.Other _ (first_args t.regions) y d w.args w.first
  slot_goes slot.BlockName y d m o e =
      record { fit = λ s. refl; say = refl; few = λ s. s; lex = (block_name_lexes, tt) }
  slot_goes (slot.Places Offsets) y d m o e = offsets_go y d
  slot_goes (slot.Places Sizes) y d m o e = sizes_go y d
  slot_goes slot.Strides y d m o e = strides_go (offsets_of t.kind) y d
  slot_goes slot.Maps y d m o e = maps_go (maps_of t.kind) y d m w.maps
  slot_goes slot.Iterators y d m o e = iterators_go (iterators_of t.kind) y d

  pub slots_go : (ss : List FormatElement) (y : Terminal)
      (d : Said) → d.map ≡ no_map → every (offers names t) ss ≡ true → apart ss y ≡ true
      → Goes (slots_rule ss) (filled names t ss) y d
      (slots_say names t ss d)
  slots_go [] y d m o e = skips
  slots_go (s ∷ ss) y d m o e =
      let p = both_true (offers names t s) _ o in
      let q = both_true (clear (stops s) ss y) _ e in
      both_go (slot_goes s _ d m p.0 (clear_seen names t ss (stops s) y p.1 q.0))
      (slots_go ss y _ (slot_map names t s d ∙ m) p.1 q.1)
