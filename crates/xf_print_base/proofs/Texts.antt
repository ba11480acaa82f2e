-- What rules write, as bytes.
use Rattle.std.proofs.Common.{◌≡◌, ℕ, suc, ◌+◌, ◌-◌, ◌<◌, ◌≤◌, take, drop, get_or, Bool, true, false, Option, Some}
use Rattle.std.proofs.Common.{None, List, [], ◌∷◌, ◌++◌, length, codes, refl, ap, sym, ◌∙◌, append_assoc, append-nil}
use Rattle.std.proofs.Common.{arith}
use Rattle.std.specs.Prelude.{ℤ, pos, negsuc}
use Rattle.std.specs.Fmt.{signed_decimal}
use Rattle.std.proofs.lemmas.Grind.{common_steps, flat_map-append}
use Rattle.std.proofs.lemmas.List.{drop_more, take_all}
use Rattle.xf_lex.specs.declared.token.TokenKind.{TokenKind}
use Rattle.xf_grammar.specs.Tokens.{terminal}
use Rattle.xf_grammar.specs.Grammar.{Fill, list, listed, Spaced, none, blank, gap_of, begun, written, more_written}
use Rattle.xf_grammar.specs.Layout.{text, gap_text, spaced_text, token_text}
use Rattle.xf_type.specs.declared.attribute.AttrValue.{AttrValue}
use Rattle.xf_type.specs.declared.attribute.AttrValue.TheVariants.{Unit as unit_attr, Int, Text}
use Rattle.xf_type.specs.declared.payload_type.PayloadType.{PayloadType}
use Rattle.xf_type.specs.declared.payload_type.PayloadType.TheVariants.{Scalar, Tensor}
use Rattle.xf_type.specs.declared.payload_type.Width.{Width}
use Rattle.xf_type.specs.declared.payload_type.Width.TheVariants.{I1}
use Rattle.xf_type.specs.Integers.{signed_value}
use Rattle.xf_type.specs.Spelling.{width_spelling}
use Rattle.xf_format.specs.declared.expected.Expected.{Expected}
use Rattle.xf_format.specs.declared.list.Item.{Item}
use Rattle.xf_format.specs.Rules.{Rule, language, item_rule, argument_rule, attributes_rule, dictionary_rule}
use Rattle.xf_format.specs.Rules.{entry_number_rule, entry_rule, entry_value_rule, entry_width_rule, kind_rule}
use Rattle.xf_format.specs.Rules.{literal_rule, marked_rule, number_rule, operands_rule, pair_rule, param_rule}
use Rattle.xf_format.specs.Rules.{result_rule}
use Rattle.xf_format.specs.Rules.{result_tensor_rule, tensor_rule, type_rule, until_rule, use_rule, width_rule}
use Rattle.xf_ir.specs.declared.kind.Attr.{Attr}
use Rattle.xf_ir.specs.declared.name.ValueName.{ValueName}
use Rattle.xf_printed.specs.Fills.{scalar_fill, signed_fill, truth_fill}
use Rattle.xf_printed.specs.Items.{Pair, Param, attributes_fill, dictionary_fill, entry_fill, int_entry_fill, more_fill}
use Rattle.xf_printed.specs.Items.{number_entry_fill, operands_fill, pair_fill, pairs, param_fill, params, rule_text}
use Rattle.xf_printed.specs.Items.{some_fill, tensor_or_none, truth_entry_fill, type_fill, type_or_none, until_fill}
use Rattle.xf_printed.specs.Items.{no_use, use_fill, value_fill, value_type_fill}
use Rattle.xf_printed.specs.Names.{Names, argument_text}
use Rattle.xf_printed.specs.Structured.{marked_fill}
use Rattle.xf_printed.specs.Numbers.{digits_of, has_minus, is_set, truth_word}
use Rattle.xf_print_base.specs.Texts.{digits_text, literal_text, value_text}

pub text_append : (ps qs : List Spaced) → text (ps ++ qs) ≡ text ps ++ text qs
text_append ps qs = flat_map-append spaced_text ps qs

-- ---- lists

-- a list, and what is left of one behind items that stand already
abbrev pub list_text : {A : Type 0} → Rule → (A → Fill) → List A → List ℕ
list_text R fill xs = rule_text (listed R) (some_fill fill xs)

abbrev pub more_text : {A : Type 0} → Rule → (A → Fill) → List A → List ℕ
more_text R fill xs = text (more_written (written language R) (more_fill fill xs))

-- the first item was written
items_begin : (W : Fill → List Spaced) (f r : Fill) (line old : List ℕ) → line ≡ old ++ text (W f)
    → line ++ text (more_written W r) ≡ old ++ text (W f ++ more_written W r)
items_begin W f r line old e =
    rw (e, text_append (W f) (more_written W r)) (append_assoc old (text (W f)) (text (more_written W r)))

-- and one more
pub items_go : (W : Fill → List Spaced) (f r : Fill) (line comma line' all item : List ℕ)
    → line ++ text (more_written W (list f r)) ≡ all
    → comma ≡ line ++ 44 ∷ [] → line' ≡ comma ++ item → item ≡ text (begun blank (W f))
    → line' ++ text (more_written W r) ≡ all
items_go W f r line comma line' all item i c e is =
    rw (e, c, is) (append_assoc (line ++ 44 ∷ []) (text (begun blank (W f))) (text (more_written W r))
    ∙ append_assoc line (44 ∷ []) _
    ∙ ap (λ x. line ++ (44 ∷ x)) (sym (text_append (begun blank (W f)) (more_written W r))) ∙ i)

-- the list without its first item
pub rest_of : {A : Type 0} (xs : List A) (x : A) → xs ≡ x ∷ drop 1 xs → take (length xs - 1) (drop 1 xs) ≡ drop 1 xs
rest_of [] x at = refl
rest_of (y ∷ ys) x at = take_all (length (y ∷ ys) - 1) ys (omega arith)

-- the first of a list, and one more of it
pub begins : {A : Type 0} (R : Rule) (fill : A → Fill) (x : A) (xs : List A) (line old : List ℕ)
    → begun none (written language R (fill x)) ≡ written language R (fill x)
    → line ≡ old ++ text (begun none (written language R (fill x)))
    → line ++ more_text R fill xs ≡ old ++ list_text R fill (x ∷ xs)
begins R fill x xs line old first e =
    items_begin (written language R) (fill x) (more_fill fill xs) line old (e ∙ ap (λ ps. old ++ text ps) first)

pub list_begins : {A : Type 0} (R : Rule) (fill : A → Fill) (xs : List A) (x : A) (line old : List ℕ)
    → xs ≡ x ∷ drop 1 xs → begun none (written language R (fill x)) ≡ written language R (fill x)
    → line ≡ old ++ text (begun none (written language R (fill x)))
    → line ++ more_text R fill (take (length xs - 1) (drop 1 xs)) ≡ old ++ list_text R fill xs
list_begins R fill xs x line old at first e =
    rw (rest_of xs x at) (rw at (begins R fill x (drop 1 xs) line old first e))

pub list_goes : {A : Type 0} (W : Fill → List Spaced) (fill : A → Fill) (xs : List A) (i : ℕ) (x : A)
    (line comma line' all item : List ℕ) → drop i xs ≡ x ∷ drop (i + 1) xs
    → line ++ text (more_written W (more_fill fill (drop i xs))) ≡ all → comma ≡ line ++ 44 ∷ [] → line' ≡ comma ++ item
    → item ≡ text (begun blank (W (fill x)))
    → line' ++ text (more_written W (more_fill fill (drop (i + 1) xs))) ≡ all
list_goes W fill xs i x line comma line' all item at e c f g =
    items_go W (fill x) (more_fill fill (drop (i + 1) xs)) line comma line' all item (rw at at e) c f g

pub item_at : {A : Type 0} (xs : List A) (i : ℕ) (x : A) → i < length xs → x ≡ get_or xs i x
    → drop i xs ≡ x ∷ drop (i + 1) xs
item_at xs i x lt is = drop_more xs i x lt ∙ ap (λ y. y ∷ drop (i + 1) xs) (sym is)

-- items up to the mark that ends them
pub until_text : {A : Type 0} (close : TokenKind) (d : Expected) (i : Item) (fill : A → Fill) (xs : List A)
    → rule_text (until_rule close d i) (until_fill close fill xs)
    ≡ rule_text (listed (item_rule i)) (some_fill fill xs) ++ token_text (terminal close [])
unfolding until_rule kind_rule
until_text close d i fill [] = append-nil (token_text (terminal close []))
until_text close d i fill (x ∷ xs) =
    text_append (written language (listed (item_rule i)) (some_fill fill (x ∷ xs))) _
    ∙ ap (λ y. rule_text (listed (item_rule i)) (some_fill fill (x ∷ xs)) ++ y)
    (append-nil (token_text (terminal close [])))

-- ---- types

-- a type of a result is written as any other
pub same_result : (gap : Bool) (t : PayloadType)
    → rule_text (result_rule gap) (type_fill t) ≡ rule_text (type_rule gap) (type_fill t)
unfolding result_rule type_rule
same_result gap (Scalar w) = refl
same_result gap (Tensor s) = refl

pub same_some_result : (t : Option PayloadType)
    → rule_text (result_rule true) (type_or_none t) ≡ rule_text (type_rule true) (type_or_none t)
unfolding result_rule type_rule
same_some_result None = refl
same_some_result (Some t) = same_result true t

pub same_result_tensor : (t : Option PayloadType)
    → rule_text (result_tensor_rule true) (tensor_or_none t) ≡ rule_text (tensor_rule true) (tensor_or_none t)
unfolding result_tensor_rule tensor_rule
same_result_tensor t = refl

-- behind a comma, with a blank before it
pub result_begun : (g : Bool) (t : PayloadType)
    → rule_text (result_rule true) (type_fill t) ≡ text (begun blank (written language (result_rule g) (type_fill t)))
unfolding result_rule
result_begun g (Scalar w) = refl
result_begun g (Tensor s) = refl

pub type_begun : (g : Bool) (t : Option PayloadType)
    → rule_text (type_rule true) (type_or_none t) ≡ text (begun blank (written language (type_rule g) (type_or_none t)))
unfolding type_rule
type_begun g None = refl
type_begun g (Some (Scalar w)) = refl
type_begun g (Some (Tensor s)) = refl

-- of a value that nothing defines
pub no_type : (gap : Bool) → rule_text (type_rule gap) (type_or_none None) ≡ gap_text (gap_of gap)
unfolding type_rule
no_type gap = simp append-nil

-- ---- names

pub use_text : (gap : Bool) (name : List ℕ) (digits : Option (List ℕ))
    → rule_text (use_rule gap) (use_fill (record { name = name; digits = digits }))
    ≡ gap_text (gap_of gap) ++ (name ++ digits_text digits)
unfolding use_rule
use_text gap name None = simp (append_assoc, append-nil)
use_text gap name (Some digits) = simp (append_assoc, append-nil)

pub name_text : (gap : Bool) (name : List ℕ)
    → rule_text (use_rule gap) (use_fill (record { name = name; digits = None })) ≡ gap_text (gap_of gap) ++ name
name_text gap name = use_text gap name None ∙ ap (λ x. gap_text (gap_of gap) ++ x) (append-nil name)

pub no_use_text : (gap : Bool) → rule_text (use_rule gap) (use_fill no_use) ≡ gap_text (gap_of gap)
no_use_text gap = name_text gap [] ∙ append-nil (gap_text (gap_of gap))

pub use_begun : (g : Bool) (names : Names) (v : ValueName)
    → rule_text (use_rule true) (value_fill names v)
    ≡ text (begun blank (written language (use_rule g) (value_fill names v)))
unfolding use_rule
use_begun g names v = refl

-- ---- arguments

pub param_text : (gap : Bool) (p : Param)
    → text (begun (gap_of gap) (written language param_rule (param_fill p)))
    ≡ ((gap_text (gap_of gap) ++ argument_text p.number) ++ codes ":") ++ rule_text (type_rule true) (type_fill p.of)
unfolding param_rule argument_rule kind_rule
param_text gap p = sym (append_assoc (gap_text (gap_of gap) ++ argument_text p.number) (codes ":") _)

param_first : (number : ℕ) (t : PayloadType)
    → begun (gap_of false) (written language param_rule (param_fill (record { number = number; of = t })))
    ≡ written language param_rule (param_fill (record { number = number; of = t }))
unfolding param_rule argument_rule
param_first number t = refl

pub pair_text : (gap : Bool) (names : Names) (p : Pair)
    → text (begun (gap_of gap) (written language pair_rule (pair_fill names p)))
    ≡ ((gap_text (gap_of gap) ++ argument_text p.number) ++ codes " =") ++ rule_text (use_rule true)
    (value_fill names p.first_value)
unfolding pair_rule argument_rule kind_rule
pair_text gap names p = sym (append_assoc (gap_text (gap_of gap) ++ argument_text p.number) (codes " =") _)

pair_first : (names : Names) (number : ℕ) (v : ValueName)
    → begun (gap_of false) (written language pair_rule (pair_fill names (record { number = number; first_value = v })))
    ≡ written language pair_rule (pair_fill names (record { number = number; first_value = v }))
unfolding pair_rule argument_rule
pair_first names number v = refl

-- the first of them
pub params_begin : (first number : ℕ) (ts : List PayloadType) (t : PayloadType) (line old : List ℕ)
    → ts ≡ t ∷ drop 1 ts → number ≡ first
    → line ≡ old ++ text (begun none (written language param_rule (param_fill (record { number = number; of = t }))))
    → line ++ more_text param_rule param_fill (params (number + 1) (take (length ts - 1) (drop 1 ts)))
    ≡ old ++ list_text param_rule param_fill (params first ts)
params_begin first number ts t line old at q e =
    let next : number + 1 ≡ suc first = omega (arith, q) in
    rw (rest_of ts t at, next) (rw at (begins param_rule param_fill _ (params (suc first) (drop 1 ts)) line old
    (param_first first t) (rw q at e)))

pub pairs_begin : (names : Names) (before number : ℕ) (vs : List ValueName) (v : ValueName) (line old : List ℕ)
    → vs ≡ v ∷ drop 1 vs → number ≡ suc before
    → line ≡ old ++ text (begun none (written language pair_rule
    (pair_fill names (record { number = number; first_value = v }))))
    → line ++ more_text pair_rule (pair_fill names) (pairs (number + 1) (take (length vs - 1) (drop 1 vs)))
    ≡ old ++ list_text pair_rule (pair_fill names) (pairs (suc before) vs)
pairs_begin names before number vs v line old at q e =
    let next : number + 1 ≡ suc (suc before) = omega (arith, q) in
    rw (rest_of vs v at, next) (rw at (begins pair_rule (pair_fill names) _ (pairs (suc (suc before)) (drop 1 vs)) line
    old
    (pair_first names (suc before) v) (rw q at e)))

pub no_operands : (names : Names) (vs : List ValueName) → length vs ≡ 0
    → rule_text operands_rule (operands_fill names vs) ≡ []
unfolding operands_rule
no_operands names [] e = refl
no_operands names (v ∷ vs) e = absurd (omega (arith, e))

pub operands_text : (names : Names) (vs : List ValueName) → 1 ≤ length vs
    → rule_text operands_rule (operands_fill names vs)
    ≡ rule_text (listed (use_rule true)) (some_fill (value_fill names) vs) ++ (codes " :" ++ rule_text
    (listed (type_rule true)) (some_fill (value_type_fill names) vs))
unfolding operands_rule kind_rule
operands_text names [] lt = absurd (omega (arith, lt))
operands_text names (v ∷ vs) lt =
    text_append (written language (listed (use_rule true)) (some_fill (value_fill names) (v ∷ vs))) _

-- ---- numbers

signed_entry : (w : Width) (z : ℤ) → rule_text entry_value_rule (number_entry_fill (has_minus z) (digits_of z) w)
    ≡ codes " " ++ (signed_decimal z ++ (codes " : " ++ width_spelling w))
unfolding entry_value_rule entry_number_rule entry_width_rule
signed_entry w (pos n) = simp (append_assoc, append-nil)
signed_entry w (negsuc n) = simp (append_assoc, append-nil)

truth_entry : (b : Bool) → rule_text entry_value_rule (truth_entry_fill b) ≡ codes " " ++ truth_word b
unfolding entry_value_rule
truth_entry true = refl
truth_entry false = refl

-- in the value of an attribute
entry_literal : (w : Width) (bits : ℕ) → rule_text entry_value_rule (int_entry_fill w bits) ≡ literal_text w bits
entry_literal I1 bits =
    truth_entry (is_set bits) ∙ ap (λ x. codes " " ++ x) (sym (append-nil (truth_word (is_set bits))))
entry_literal w bits = signed_entry w (signed_value w bits)

signed_scalar : (w : Width) (z : ℤ) → rule_text literal_rule (signed_fill (has_minus z) (digits_of z) w)
    ≡ codes " " ++ (signed_decimal z ++ (codes " : " ++ width_spelling w))
unfolding literal_rule number_rule kind_rule width_rule
signed_scalar w (pos n) = simp (append_assoc, append-nil)
signed_scalar w (negsuc n) = simp (append_assoc, append-nil)

truth_scalar : (b : Bool) → rule_text literal_rule (truth_fill b) ≡ codes " " ++ truth_word b
unfolding literal_rule
truth_scalar true = refl
truth_scalar false = refl

-- in a constant
pub scalar_text : (w : Width) (bits : ℕ) → rule_text literal_rule (scalar_fill w bits) ≡ literal_text w bits
scalar_text I1 bits =
    truth_scalar (is_set bits) ∙ ap (λ x. codes " " ++ x) (sym (append-nil (truth_word (is_set bits))))
scalar_text w bits = signed_scalar w (signed_value w bits)

-- ---- attributes

value_written : (gap : Bool) (name : List ℕ) (v : AttrValue)
    → text (begun (gap_of gap) (written language entry_rule (entry_fill (record { name = name; value = v }))))
    ≡ gap_text (gap_of gap) ++ (name ++ value_text v)
unfolding entry_rule entry_value_rule
value_written gap name unit_attr = simp (append_assoc, append-nil)
value_written gap name (Int w bits) =
    ap (λ x. (gap_text (gap_of gap) ++ name) ++ (codes " =" ++ x)) (entry_literal w bits)
    ∙ append_assoc (gap_text (gap_of gap)) name _
value_written gap name (Text bytes) = simp (append_assoc, append-nil)

pub entry_first : (d : Attr) → begun none (written language entry_rule (entry_fill d))
    ≡ written language entry_rule (entry_fill d)
unfolding entry_rule
entry_first d = refl

pub entry_text : (gap : Bool) (d : Attr) → text (begun (gap_of gap) (written language entry_rule (entry_fill d)))
    ≡ gap_text (gap_of gap) ++ (d.name ++ value_text d.value)
entry_text gap d = value_written gap d.name d.value

pub no_dictionary : (ds : List Attr) → length ds ≡ 0 → rule_text dictionary_rule (dictionary_fill ds) ≡ []
unfolding dictionary_rule
no_dictionary [] e = refl
no_dictionary (d ∷ ds) e = absurd (omega (arith, e))

pub dictionary_text : (ds : List Attr) → 1 ≤ length ds
    → rule_text dictionary_rule (dictionary_fill ds)
    ≡ codes " {" ++ (rule_text (listed entry_rule) (some_fill entry_fill ds) ++ codes "}")
unfolding dictionary_rule
dictionary_text [] lt = absurd (omega (arith, lt))
dictionary_text (d ∷ ds) lt = ap (λ x. codes " {" ++ x) (until_text _ _ _ entry_fill (d ∷ ds))

pub no_attributes : (ds : List Attr) → length ds ≡ 0 → rule_text attributes_rule (attributes_fill ds) ≡ []
unfolding attributes_rule
no_attributes [] e = refl
no_attributes (d ∷ ds) e = absurd (omega (arith, e))

pub attributes_text : (ds : List Attr) → 1 ≤ length ds
    → rule_text attributes_rule (attributes_fill ds)
    ≡ codes " attributes" ++ rule_text dictionary_rule (dictionary_fill ds)
unfolding attributes_rule dictionary_rule kind_rule
attributes_text [] lt = absurd (omega (arith, lt))
attributes_text (d ∷ ds) lt = refl

pub no_marked : (ds : List Attr) → length ds ≡ 0 → rule_text marked_rule (marked_fill ds) ≡ []
unfolding marked_rule
no_marked [] e = refl
no_marked (d ∷ ds) e = absurd (omega (arith, e))

pub marked_text : (ds : List Attr) → 1 ≤ length ds
    → rule_text marked_rule (marked_fill ds) ≡ codes " attrs =" ++ rule_text dictionary_rule (dictionary_fill ds)
unfolding marked_rule dictionary_rule kind_rule
marked_text [] lt = absurd (omega (arith, lt))
marked_text (d ∷ ds) lt = refl

-- ---- what the check tries at a call that writes nothing or something

pub ruleset some_operands = (common_steps, no_operands, operands_text)

pub ruleset some_dictionary = (common_steps, no_dictionary, dictionary_text)
