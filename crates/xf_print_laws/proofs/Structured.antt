-- Slots of slices, of linalg.generic and of dense constants: windows, strides, iterator types, and tensors of numbers.
use Rattle.std.proofs.Common.{◌≡◌, ℕ, suc, ◌+◌, ◌≤◌, Bool, true, false, List, [], ◌∷◌, ◌++◌, length, drop}
use Rattle.std.proofs.Common.{Some, None, refl, sym, ap, ◌∙◌, arith, append_assoc, append-nil}
use Rattle.std.specs.Prelude.{map, not, codes, ℤ, pos, negsuc}
use Rattle.xf_type.specs.declared.payload_type.PayloadType.TheVariants.{Tensor}
use Rattle.xf_type.specs.declared.payload_type.Shape.{Shape}
use Rattle.xf_lex.specs.declared.token.TokenKind.TheVariants as token
use Rattle.xf_shape.specs.Laws.{AreStored}
use Rattle.xf_shape.specs.Written.{shape_text}
use Rattle.xf_grammar.specs.Apart.{IsLexeme}
use Rattle.xf_grammar.specs.Tokens.{Terminal, terminal, is_index, colon, less}
use Rattle.xf_grammar.specs.Grammar.{act, scan, nothing, run, tokens, first_seen}
use Rattle.xf_dense.specs.Actions as dense
use Rattle.xf_dense.specs.Fits.{fits_by, says_truth}
use Rattle.xf_dense.specs.Machine.{start}
use Rattle.xf_dense.specs.Nests.{close_bracket, close_angle}
use Rattle.xf_format.specs.declared.expected.Expected.TheVariants as due
use Rattle.xf_format.specs.declared.list.Item.TheVariants as item
use Rattle.xf_format.specs.declared.row.Side.{Side}
use Rattle.xf_format.specs.declared.row.Side.TheVariants.{Offsets, Sizes}
use Rattle.xf_format.specs.Actions.{elements_follow}
use Rattle.xf_format.specs.Parts.{Said, UseSaid, PlaceSaid, place_number, place_value, says_body, says_literal}
use Rattle.xf_format.specs.Parts.{elements}
use Rattle.xf_format.specs.Parts.{says_type}
use Rattle.xf_format.specs.Rules.{language, kind_rule, use_rule, until_rule, place_rule, stride_rule, iterator_rule}
use Rattle.xf_format.specs.Rules.{dense_rule, dense_type_rule}
use Rattle.xf_ir.specs.declared.kind.IteratorKind.{IteratorKind}
use Rattle.xf_ir.specs.declared.kind.IteratorKind.TheVariants.{Parallel, Reduction}
use Rattle.xf_ir.specs.declared.kind.SliceIndex.{SliceIndex}
use Rattle.xf_ir.specs.declared.kind.SliceIndex.TheVariants.{Fixed, Dynamic}
use Rattle.xf_ir.specs.declared.name.ValueName.{ValueName}
use Rattle.xf_ir.specs.Lists.{Each}
use Rattle.xf_ir.specs.RuleAttributes.{dense_fits}
use Rattle.xf_ir.specs.RuleTypes.{open_count}
use Rattle.xf_printed.specs.Fills.{until_fill, has_minus, digits_of}
use Rattle.xf_printed.specs.Names.{Names}
use Rattle.xf_printed.specs.Structured.{PlacePrinted, number, value, places_printed, values_behind, place_fill}
use Rattle.xf_printed.specs.Structured.{signed_place_fill, stride_fill, iterator_fill, dense_fill}
use Rattle.xf_printed.specs.Structured.{body_printed as body_tokens}
use Rattle.xf_print_laws.specs.Naming.{use_printed}
use Rattle.xf_print_laws.specs.SaidPrinted.{signed_said, index_printed, body_printed}
use Rattle.xf_print_laws.specs.Stored.{IsShortNumber, IsShortIndex}
use Rattle.xf_print_laws.proofs.Dense.{told, run_fits_same, run_tells_same, BodyGoes, body_goes}
use Rattle.xf_print_laws.proofs.Goes.{Goes, Items, All, begins_item, skips, both_go, take_goes, silent_goes}
use Rattle.xf_print_laws.proofs.Goes.{add_uses, add_types, add_places, add_iterators, few_types, few_places}
use Rattle.xf_print_laws.proofs.Goes.{few_iterators, room, so_said, bracket_ends, until_goes}
use Rattle.xf_print_laws.proofs.LayoutTokens.{word_lexes, mark_lexes, integer_lexes, iterator_lexes, one_lexes}
use Rattle.xf_print_laws.proofs.Lists.{none_by_length}
use Rattle.xf_print_laws.proofs.Needs.{Known}
use Rattle.xf_print_laws.proofs.Single.{value_goes, shape_written, MeansShape, tensor_by}

-- ---- windows

-- what an offset or a size says, and the operand that it is
abbrev pub place_printed : PlacePrinted → PlaceSaid
place_printed (number n) = signed_said place_number n
place_printed (value v) = place_value

abbrev pub place_uses : Names → List PlacePrinted → List UseSaid
place_uses names [] = []
place_uses names (number n ∷ ps) = place_uses names ps
place_uses names (value None ∷ ps) = place_uses names ps
place_uses names (value (Some v) ∷ ps) = use_printed names v ∷ place_uses names ps

abbrev PlaceFits : Names → PlacePrinted → Type 0
PlaceFits names (number n) = IsShortNumber n
PlaceFits names (value None) = ⊥
PlaceFits names (value (Some v)) = Known names v

abbrev pub with_places : Names → Side → List PlacePrinted → Said → Said
with_places names side ps d = add_uses (add_places side d (map place_printed ps)) (place_uses names ps)

number_lexeme : (n : ℤ) → IsShortNumber n → IsLexeme (terminal token.Integer (digits_of n))
number_lexeme (pos n) h = integer_lexes n h
number_lexeme (negsuc n) h = integer_lexes (suc n) h

signed_place_goes : (side : Side) (negative : Bool) (digits : List ℕ) (y : Terminal) (d : Said)
    → IsLexeme (terminal token.Integer digits)
    → Goes (place_rule side) (signed_place_fill negative digits) y d
    (add_places side d (place_number negative digits ∷ []))
unfolding place_rule
signed_place_goes Offsets true digits y d l = record {
  fit = λ s. rw (room d.offsets _ s.1.1.1.1.1.0) refl;
  say = refl;
  few = few_places Offsets d _;
  lex = (mark_lexes 45 refl, (l, tt));
}
signed_place_goes Offsets false digits y d l = record {
  fit = λ s. rw (room d.offsets _ s.1.1.1.1.1.0) refl;
  say = refl;
  few = few_places Offsets d _;
  lex = (l, tt);
}
signed_place_goes Sizes true digits y d l = record {
  fit = λ s. rw (room d.sizes _ s.1.1.1.1.1.1.0) refl;
  say = refl;
  few = few_places Sizes d _;
  lex = (mark_lexes 45 refl, (l, tt));
}
signed_place_goes Sizes false digits y d l = record {
  fit = λ s. rw (room d.sizes _ s.1.1.1.1.1.1.0) refl;
  say = refl;
  few = few_places Sizes d _;
  lex = (l, tt);
}

-- the place of a value, and the value
given_goes : (names : Names) (side : Side) (v : ValueName) (y : Terminal) (d : Said) → Known names v
    → not (is_index y) ≡ true
    → Goes (place_rule side) (place_fill names (value (Some v))) y d
    (add_uses (add_places side d (place_value ∷ [])) (use_printed names v ∷ []))
unfolding place_rule use_rule
given_goes names Offsets v y d k e =
    let a = value_goes names v false y (add_places Offsets d (place_value ∷ [])) k e in
    record {
      fit = λ s. rw (room d.offsets _ (a.few s).1.1.1.1.1.0) (a.fit s);
      say = a.say;
      few = λ s. few_places Offsets d _ (a.few s);
      lex = (tt, a.lex);
    }
given_goes names Sizes v y d k e =
    let a = value_goes names v false y (add_places Sizes d (place_value ∷ [])) k e in
    record {
      fit = λ s. rw (room d.sizes _ (a.few s).1.1.1.1.1.1.0) (a.fit s);
      say = a.say;
      few = λ s. few_places Sizes d _ (a.few s);
      lex = (tt, a.lex);
    }

place_goes : (names : Names) (side : Side) (p : PlacePrinted) (y : Terminal) (d : Said) → PlaceFits names p
    → not (is_index y) ≡ true → Goes (place_rule side) (place_fill names p) y d (with_places names side (p ∷ []) d)
place_goes names Offsets (number n) y d h e =
    so_said (λ i. let x : Said = add_places Offsets d (signed_said place_number n ∷ []) in
    record x { uses = sym (append-nil d.uses) i })
    (signed_place_goes Offsets (has_minus n) (digits_of n) y d (number_lexeme n h))
place_goes names Sizes (number n) y d h e =
    so_said (λ i. let x : Said = add_places Sizes d (signed_said place_number n ∷ []) in
    record x { uses = sym (append-nil d.uses) i })
    (signed_place_goes Sizes (has_minus n) (digits_of n) y d (number_lexeme n h))
place_goes names side (value None) y d h e = absurd h
place_goes names side (value (Some v)) y d h e = given_goes names side v y d h e

place_begins : (names : Names) (side : Side) (p : PlacePrinted) (y : Terminal)
    → begins_item (first_seen (tokens language (place_rule side) (place_fill names p)) y) ≡ true
unfolding place_rule use_rule
place_begins names side (number (pos n)) y = refl
place_begins names side (number (negsuc n)) y = refl
place_begins names side (value None) y = refl
place_begins names side (value (Some v)) y = refl

uses_more : (names : Names) (p : PlacePrinted) (ps : List PlacePrinted) (us : List UseSaid)
    → (us ++ place_uses names (p ∷ [])) ++ place_uses names ps ≡ us ++ place_uses names (p ∷ ps)
uses_more names (number n) ps us = ap (λ xs. xs ++ place_uses names ps) (append-nil us)
uses_more names (value None) ps us = ap (λ xs. xs ++ place_uses names ps) (append-nil us)
uses_more names (value (Some v)) ps us = append_assoc us (use_printed names v ∷ []) (place_uses names ps)

places_none : (names : Names) (side : Side) (d : Said) → d ≡ with_places names side [] d
places_none names Offsets d i = record d { offsets = sym (append-nil d.offsets) i; uses = sym (append-nil d.uses) i }
places_none names Sizes d i = record d { sizes = sym (append-nil d.sizes) i; uses = sym (append-nil d.uses) i }

places_more : (names : Names) (side : Side) (p : PlacePrinted) (ps : List PlacePrinted) (d : Said)
    → with_places names side ps (with_places names side (p ∷ []) d) ≡ with_places names side (p ∷ ps) d
places_more names Offsets p ps d i = record d {
  offsets = append_assoc d.offsets (place_printed p ∷ []) (map place_printed ps) i;
  uses = uses_more names p ps d.uses i;
}
places_more names Sizes p ps d i = record d {
  sizes = append_assoc d.sizes (place_printed p ∷ []) (map place_printed ps) i;
  uses = uses_more names p ps d.uses i;
}

place_items : (names : Names) (side : Side)
    → Items (place_rule side) (place_fill names) (with_places names side) (All (PlaceFits names))
    (λ y. not (is_index y))
place_items names side = record {
  one = λ p ps y d h e. place_goes names side p y d h.0 e;
  later = λ p ps d h. h.1;
  begins = λ p ps y d h. place_begins names side p y;
  none = places_none names side;
  more = λ p ps d h. places_more names side p ps d;
  behind = refl;
}

-- values for those that are no numbers
places_fit : (names : Names) (is : List SliceIndex) (vs : List ValueName) → Each IsShortIndex is
    → Each (Known names) vs → open_count is ≤ length vs
    → Each (PlaceFits names) (places_printed is vs) × Each (Known names) (values_behind is vs)
    × (length (values_behind is vs) + open_count is ≡ length vs)
places_fit names [] vs s h le = (tt, h, omega arith)
places_fit names (Fixed n ∷ is) vs s h le =
    let r = places_fit names is vs s.1 h le in ((s.0, r.0), r.1, r.2)
places_fit names (Dynamic ∷ is) [] s h le = absurd (omega (arith, le))
places_fit names (Dynamic ∷ is) (v ∷ vs) s h le =
    let r = places_fit names is vs s.1 h.1 (omega (arith, le)) in ((h.0, r.0), r.1, omega (arith, r.2))

pub places_go : (names : Names) (side : Side) (is : List SliceIndex) (vs : List ValueName) (y : Terminal) (d : Said)
    → Each IsShortIndex is → Each (Known names) vs → open_count is ≤ length vs
    → Goes (until_rule close_bracket due.Other (item.Place side))
    (until_fill close_bracket (place_fill names) (places_printed is vs)) y d
    (with_places names side (places_printed is vs) d)
places_go names side is vs y d s h le =
    until_goes (item.Place side) close_bracket due.Other (place_items names side) (bracket_ends refl)
    (places_printed is vs) y d (places_fit names is vs s h le).0

-- what is left behind the values of a window
pub values_left : (names : Names) (is : List SliceIndex) (vs : List ValueName) → Each IsShortIndex is
    → Each (Known names) vs → open_count is ≤ length vs
    → Each (Known names) (values_behind is vs) × (length (values_behind is vs) + open_count is ≡ length vs)
values_left names is vs s h le = let r = places_fit names is vs s h le in (r.1, r.2)

-- the operands in the order of the places, and behind them
pub uses_in_order : (names : Names) (is : List SliceIndex) (vs : List ValueName)
    → place_uses names (places_printed is vs) ++ map (use_printed names) (values_behind is vs)
    ≡ map (use_printed names) vs
uses_in_order names [] vs = refl
uses_in_order names (Fixed n ∷ is) vs = uses_in_order names is vs
uses_in_order names (Dynamic ∷ is) [] = uses_in_order names is []
uses_in_order names (Dynamic ∷ is) (v ∷ vs) = ap (λ us. use_printed names v ∷ us) (uses_in_order names is vs)

-- how many values are left
pub left_count : (is : List SliceIndex) (vs : List ValueName) → open_count is ≤ length vs
    → length (values_behind is vs) + open_count is ≡ length vs
left_count [] vs le = omega arith
left_count (Fixed n ∷ is) vs le = left_count is vs le
left_count (Dynamic ∷ is) [] le = absurd (omega (arith, le))
left_count (Dynamic ∷ is) (v ∷ vs) le = omega (arith, left_count is vs (omega (arith, le)))

-- offsets and sizes have all operands of a window, in order
pub window_uses : (names : Names) (os ss : List SliceIndex) (vs : List ValueName)
    → length vs ≡ open_count os + open_count ss
    → place_uses names (places_printed os vs) ++ place_uses names (places_printed ss (values_behind os vs))
    ≡ map (use_printed names) vs
window_uses names os ss vs e =
    let a = left_count os vs (omega (arith, e)) in
    let b = left_count ss (values_behind os vs) (omega (arith, e, a)) in
    let none = none_by_length (values_behind ss (values_behind os vs)) (omega (arith, e, a, b)) in
    let s = uses_in_order names ss (values_behind os vs) in
    let t : place_uses names (places_printed ss (values_behind os vs)) ≡ map (use_printed names) (values_behind os vs) =
    sym (append-nil (place_uses names (places_printed ss (values_behind os vs))))
    ∙ (ap (λ us. place_uses names (places_printed ss (values_behind os vs)) ++ map (use_printed names) us)
    (sym none) ∙ s) in
    ap (λ us. place_uses names (places_printed os vs) ++ us) t ∙ uses_in_order names os vs

pub places_are : (is : List SliceIndex) (vs : List ValueName)
    → map place_printed (places_printed is vs) ≡ map index_printed is
places_are [] vs = refl
places_are (Fixed n ∷ is) vs = ap (λ ps. signed_said place_number n ∷ ps) (places_are is vs)
places_are (Dynamic ∷ is) vs = ap (λ ps. place_value ∷ ps) (places_are is (drop 1 vs))

-- ---- strides

stride_items : Items stride_rule stride_fill (λ is d. d) (All (λ i. Unit {0})) (λ y. true)
unfolding stride_rule
stride_items = record {
  one = λ i is y d h e. take_goes one_lexes refl skips;
  later = λ i is d h. h.1;
  begins = λ i is y d h. refl;
  none = λ d. refl;
  more = λ i is d h. refl;
  behind = refl;
}

all_there : (is : List SliceIndex) → Each (λ i. Unit {0}) is
all_there [] = tt
all_there (i ∷ is) = (tt, all_there is)

pub strides_go : (is : List SliceIndex) (y : Terminal) (d : Said)
    → Goes (until_rule close_bracket due.Other item.Stride) (until_fill close_bracket stride_fill is) y d d
strides_go is y d =
    until_goes item.Stride close_bracket due.Other stride_items (bracket_ends refl) is y d (all_there is)

-- ---- iterator types

iterator_goes : (k : IteratorKind) (y : Terminal) (d : Said)
    → Goes iterator_rule (iterator_fill k) y d (add_iterators d (k ∷ []))
unfolding iterator_rule
iterator_goes Parallel y d = record {
  fit = λ s. rw (room d.iterators _ s.1.1.1.1.1.1.1.1) refl;
  say = refl;
  few = few_iterators d _;
  lex = (iterator_lexes Parallel, tt);
}
iterator_goes Reduction y d = record {
  fit = λ s. rw (room d.iterators _ s.1.1.1.1.1.1.1.1) refl;
  say = refl;
  few = few_iterators d _;
  lex = (iterator_lexes Reduction, tt);
}

iterator_begins : (k : IteratorKind) (y : Terminal)
    → begins_item (first_seen (tokens language iterator_rule (iterator_fill k)) y) ≡ true
unfolding iterator_rule
iterator_begins Parallel y = refl
iterator_begins Reduction y = refl

abbrev pub with_iterators : List IteratorKind → Said → Said
with_iterators ks d = add_iterators d ks

iterator_items : Items iterator_rule iterator_fill with_iterators (All (λ k. Unit {0})) (λ y. true)
iterator_items = record {
  one = λ k ks y d h e. iterator_goes k y d;
  later = λ k ks d h. h.1;
  begins = λ k ks y d h. iterator_begins k y;
  none = λ d. ap (λ ks. record d { iterators = ks }) (sym (append-nil d.iterators));
  more = λ k ks d h. ap (λ ls. record d { iterators = ls }) (append_assoc d.iterators (k ∷ []) ks);
  behind = refl;
}

each_iterator : (ks : List IteratorKind) → Each (λ k. Unit {0}) ks
each_iterator [] = tt
each_iterator (k ∷ ks) = (tt, each_iterator ks)

pub iterators_go : (ks : List IteratorKind) (y : Terminal) (d : Said)
    → Goes (until_rule close_bracket due.Other item.Iterator) (until_fill close_bracket iterator_fill ks) y d
    (with_iterators ks d)
iterators_go ks y d =
    until_goes item.Iterator close_bracket due.Other iterator_items (bracket_ends refl) ks y d (each_iterator ks)

-- ---- tensors of numbers

-- the type for whose elements the body stands
dense_type_goes : (s : Shape) (x : Terminal) (y : Terminal) (d : Said) → MeansShape x s
    → fits_by d.dense.extents (map says_truth d.dense.literals) s ≡ true
    → Goes dense_type_rule (tensor_by x) y d (add_types d (Tensor s ∷ []))
unfolding dense_type_rule
dense_type_goes s x y d h f = let p = h.shape in let q = h.word in
    record {
      fit = λ few. rw (room d.types _ few.1.1.1.0, p, f) refl;
      say = rw (q, p) refl;
      few = few_types d _;
      lex = (word_lexes (codes "tensor") refl, (h.lex, tt));
    }

-- the tokens of a body
body_run_goes : (s : Shape) (ns : List ℕ) (d : Said) → BodyGoes s ns
    → let e : Said = says_body dense.no_body_said d in
    Goes (scan start) (run (body_tokens s ns)) (terminal close_angle []) e (says_body (body_printed s ns) d)
body_run_goes s ns d b = record {
  fit = λ few. run_fits_same d (body_tokens s ns) start (terminal close_angle []) dense.nothing_said ∙ b.accepts.0;
  say = run_tells_same d (body_tokens s ns) start dense.nothing_said ∙ ap (told d) b.accepts.1;
  few = λ few. few;
  lex = b.lex;
}

pub dense_goes : (s : Shape) (ns : List ℕ) (y : Terminal) (d : Said) → dense_fits s ns ≡ true → AreStored s.dims
    → Goes dense_rule (dense_fill s ns) y d
    (says_type (Tensor s) (says_body (body_printed s ns) (says_literal elements d)))
unfolding dense_rule kind_rule
dense_goes s ns y d f h =
    let b = body_goes s ns f in
    let l = says_literal elements d in
    let begins : Goes (act elements_follow) nothing (terminal less []) d (says_body dense.no_body_said l) =
    record { fit = λ few. refl; say = refl; few = λ few. few; lex = tt } in
    let type = dense_type_goes s (terminal token.Shape (shape_text s)) y (says_body (body_printed s ns) l)
    (shape_written s h) b.fits in
    both_go begins (both_go (silent_goes false due.Other less (mark_lexes 60 refl) refl)
    (both_go (body_run_goes s ns l b) (both_go (silent_goes false due.Other close_angle (mark_lexes 62 refl) refl)
    (both_go (silent_goes true due.Other colon (mark_lexes 58 refl) refl) type))))
