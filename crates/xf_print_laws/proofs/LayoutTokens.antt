-- Words, symbols, numbers, names and strings of the printed form are tokens that the lexer reads as themselves.
use Rattle.std.proofs.Common.{◌≡◌, inl, inr, ℕ, suc, ◌+◌, ◌/◌, ◌%◌, ◌^◌, ◌<◌, Bool, true, false, List, [], ◌∷◌, ◌++◌}
use Rattle.std.proofs.Common.{length, refl, sym, ap, subst, ◌∙◌, arith, append_assoc, append-nil, length-append}
use Rattle.std.specs.Prelude.{◌||◌, ◌==◌, nat_lt, if◌then◌else◌, codes}
use Rattle.std.specs.Fmt.{decimal}
use Rattle.std.specs.List.{list_all, flat_map}
use Rattle.std.specs.Str.Parse.{digits_value}
use Rattle.std.proofs.lemmas.Bool.{lt-ltb, eqb-true, or_cases}
use Rattle.std.proofs.lemmas.Bool.Decides.{nat_tests}
use Rattle.std.proofs.lemmas.Fmt.{decimal_is_IsNumeral}
use Rattle.std.proofs.lemmas.List.{take_all, take_at, drop_at}
use Rattle.xf_type.specs.Bytes.{is_digit, is_letter, is_word_byte, is_hex}
use Rattle.xf_lex.specs.declared.token.TokenKind.TheVariants as kind
use Rattle.xf_lex.specs.declared.lexeme.Lexeme.TheVariants as front
use Rattle.xf_lex.specs.Bytes.{is_name_byte, run}
use Rattle.xf_lex.specs.Lexemes.{quoted_in, escaped_in, string_at, token_at}
use Rattle.xf_lex.proofs.Stays.{AllPass, run_all, Digits, decimal_digits}
use Rattle.xf_shape.proofs.Passing.{pass_more, pass_both, all_pass}
use Rattle.xf_grammar.specs.Tokens.{terminal}
use Rattle.xf_grammar.specs.Apart.{is_low, IsLexeme}
use Rattle.xf_grammar.proofs.Basics.{both_true, and_is}
use Rattle.xf_grammar.proofs.LaidOut.{known_token}
use Rattle.xf_ir.specs.Lists.{Each, every, some}
use Rattle.xf_ir.specs.Words.{is_word}
use Rattle.xf_printed.specs.Attributes.{hex_digit, is_plain, byte_text, string_text}
use Rattle.xf_printed.specs.Fills.{number_name}
use Rattle.xf_printed.specs.Names.{argument_text}
use Rattle.xf_printed.specs.Words.{iterator_text, dimension_text}
use Rattle.xf_ir.specs.declared.kind.IteratorKind.{IteratorKind}
use Rattle.xf_ir.specs.declared.kind.IteratorKind.TheVariants.{Parallel, Reduction}
use Rattle.xf_print_laws.proofs.Strings.{hex_is, plain_apart}

-- ---- bytes that pass a test

pass_every : (p : ℕ → Bool) (bs : List ℕ) → every p bs ≡ true → AllPass p bs
pass_every p [] e = tt
pass_every p (b ∷ bs) e = let f = both_true (p b) _ e in (f.0, pass_every p bs f.1)

run_pass : (p : ℕ → Bool) (bs : List ℕ) → AllPass p bs → run p bs ≡ length bs
run_pass p bs g = ap (run p) (sym (append-nil bs)) ∙ run_all p bs [] g tt

low_bytes : (p : ℕ → Bool) → ((b : ℕ) → p b ≡ true → is_low b ≡ true) → (bs : List ℕ) → AllPass p bs
    → list_all is_low bs ≡ true
low_bytes p f bs g = all_pass is_low bs (pass_more p is_low f bs g)

letter_low : (b : ℕ) → is_letter b ≡ true → is_low b ≡ true
letter_low b e = grind (arith, nat_tests)

word_byte_low : (b : ℕ) → is_word_byte b ≡ true → is_low b ≡ true
word_byte_low b e = grind (arith, nat_tests)

digit_low : (b : ℕ) → is_digit b ≡ true → is_low b ≡ true
digit_low b e = grind (arith, nat_tests)

digit_in_name : (b : ℕ) → is_digit b ≡ true → is_name_byte b ≡ true
digit_in_name b e = grind (arith, nat_tests)

digit_not_letter : (b : ℕ) → is_digit b ≡ true → is_letter b ≡ false
digit_not_letter b e = grind (arith, nat_tests)

-- ---- words and symbols

-- what a lexer sees of a word
record WordBytes (b : ℕ) (bs : List ℕ) : Type 0 where
  letter : is_letter b ≡ true
  run : run is_word_byte bs ≡ length bs
  low : list_all is_low (b ∷ bs) ≡ true

word_bytes : (b : ℕ) (bs : List ℕ) → is_word (b ∷ bs) ≡ true → WordBytes b bs
word_bytes b bs e =
    let f = both_true (is_letter b) _ e in
    let g = pass_every is_word_byte bs f.1 in
    let low = low_bytes is_word_byte word_byte_low bs g in
    record { letter = f.0; run = run_pass is_word_byte bs g; low = and_is (is_low b) _ (letter_low b f.0) low }

pub word_lexes : (w : List ℕ) → is_word w ≡ true → IsLexeme (terminal kind.Word w)
word_lexes [] e = absurd cc
word_lexes (b ∷ bs) e =
    let w = word_bytes b bs e in
    let l = w.letter in
    let r = w.run in
    known_token kind.Word (b ∷ bs) (rw (l, r) refl) refl w.low

pub symbol_lexes : (w : List ℕ) → is_word w ≡ true → IsLexeme (terminal kind.Symbol (64 ∷ w))
symbol_lexes [] e = absurd cc
symbol_lexes (b ∷ bs) e =
    let w = word_bytes b bs e in
    let l = w.letter in
    let r = w.run in
    known_token kind.Symbol (64 ∷ b ∷ bs) (rw (l, r) refl) refl w.low

-- ---- numbers

value_by : (ds : List ℕ) → Digits ds → IsLexeme (terminal kind.Value (37 ∷ ds))
value_by [] d = absurd (let z = d.some in omega arith)
value_by (b ∷ ds) d =
    let e = d.all.0 in
    let r = run_pass is_digit ds d.all.1 in
    known_token kind.Value (37 ∷ b ∷ ds) (rw (e, r) refl) refl (low_bytes is_digit digit_low (b ∷ ds) d.all)

hash_by : (ds : List ℕ) → Digits ds → IsLexeme (terminal kind.Hash (35 ∷ ds))
hash_by [] d = absurd (let z = d.some in omega arith)
hash_by (b ∷ ds) d =
    let e = d.all.0 in
    let r = run_pass is_digit ds d.all.1 in
    known_token kind.Hash (35 ∷ b ∷ ds) (rw (e, r) refl) refl (low_bytes is_digit digit_low (b ∷ ds) d.all)

integer_by : (ds : List ℕ) → Digits ds → digits_value 10 ds < 2 ^ 64 → IsLexeme (terminal kind.Integer ds)
integer_by [] d small = absurd (let z = d.some in omega arith)
integer_by (b ∷ ds) d small =
    let e = d.all.0 in
    let n = digit_not_letter b e in
    let r = run_pass is_digit ds d.all.1 in
    let t = take_all (length ds) ds (omega arith) in
    let s = lt-ltb (digits_value 10 (b ∷ ds)) (2 ^ 64) small in
    known_token kind.Integer (b ∷ ds) (rw (n, e, r, t, s) refl) refl (low_bytes is_digit digit_low (b ∷ ds) d.all)

argument_by : (ds : List ℕ) → Digits ds → IsLexeme (terminal kind.Value (37 ∷ 97 ∷ 114 ∷ 103 ∷ ds))
argument_by ds d =
    let r = run_pass is_name_byte ds (pass_more is_digit is_name_byte digit_in_name ds d.all) in
    known_token kind.Value (37 ∷ 97 ∷ 114 ∷ 103 ∷ ds) (rw r refl) refl (low_bytes is_digit digit_low ds d.all)

-- `%4`, `#1`, `5`, `%arg2`
pub number_lexes : (n : ℕ) → n < 2 ^ 64 → IsLexeme (terminal kind.Value (number_name n))
number_lexes n lt = value_by (decimal n) (decimal_digits n lt)

pub index_lexes : (n : ℕ) → n < 2 ^ 64 → IsLexeme (terminal kind.Hash (codes "#" ++ decimal n))
index_lexes n lt = hash_by (decimal n) (decimal_digits n lt)

pub integer_lexes : (n : ℕ) → n < 2 ^ 64 → IsLexeme (terminal kind.Integer (decimal n))
integer_lexes n lt =
    integer_by (decimal n) (decimal_digits n lt) (subst (λ x. x < 2 ^ 64) (sym (decimal_is_IsNumeral n lt).1) lt)

pub argument_lexes : (n : ℕ) → n < 2 ^ 64 → IsLexeme (terminal kind.Value (argument_text n))
argument_lexes n lt = argument_by (decimal n) (decimal_digits n lt)

digit_word_byte : (b : ℕ) → is_digit b ≡ true → is_word_byte b ≡ true
digit_word_byte b e = grind (arith, nat_tests)

dimension_by : (ds : List ℕ) → Digits ds → IsLexeme (terminal kind.Word (100 ∷ ds))
dimension_by ds d =
    let r = run_pass is_word_byte ds (pass_more is_digit is_word_byte digit_word_byte ds d.all) in
    known_token kind.Word (100 ∷ ds) (rw r refl) refl (low_bytes is_digit digit_low ds d.all)

pub dimension_lexes : (n : ℕ) → n < 2 ^ 64 → IsLexeme (terminal kind.Word (dimension_text n))
dimension_lexes n lt = dimension_by (decimal n) (decimal_digits n lt)

-- ---- marks

-- the marks of payloads
abbrev marks : List ℕ
marks = 40 ∷ 41 ∷ 44 ∷ 45 ∷ 58 ∷ 60 ∷ 61 ∷ 62 ∷ 91 ∷ 93 ∷ 123 ∷ 125 ∷ []

abbrev pub is_mark : ℕ → Bool
is_mark b = some (λ m. m == b) marks

abbrev IsAlone : ℕ → Type 0
IsAlone b = (token_at false (b ∷ []) ≡ front.Token (kind.Mark b) 1) × (is_low b ≡ true)

all_alone : Each IsAlone marks
all_alone =
    let last : Each IsAlone (91 ∷ 93 ∷ 123 ∷ 125 ∷ []) =
    ((refl, refl), ((refl, refl), ((refl, refl), ((refl, refl), tt)))) in
    let middle : Each IsAlone (58 ∷ 60 ∷ 61 ∷ 62 ∷ 91 ∷ 93 ∷ 123 ∷ 125 ∷ []) =
    ((refl, refl), ((refl, refl), ((refl, refl), ((refl, refl), last)))) in
    ((refl, refl), ((refl, refl), ((refl, refl), ((refl, refl), middle))))

one_of : (P : ℕ → Type 0) (b : ℕ) (ms : List ℕ) → some (λ m. m == b) ms ≡ true → Each P ms → P b
one_of P b [] e h = absurd cc
one_of P b (m ∷ ms) e h = elim (or_cases (m == b) _ e) [
  | inl same ↦ subst P (eqb-true m b same) h.0
  | inr later ↦ one_of P b ms later h.1
]

pub mark_lexes : (b : ℕ) → is_mark b ≡ true → IsLexeme (terminal (kind.Mark b) [])
mark_lexes b e =
    let m = one_of IsAlone b marks e all_alone in
    known_token (kind.Mark b) [] m.0 refl (and_is (is_low b) true m.1 refl)

-- ---- strings

-- a hexadecimal digit is no line feed, quote or \
hex_apart : (d : ℕ) → is_hex d ≡ true
    → (is_low d ≡ true) × ((d == 10) ≡ false) × ((d == 34) ≡ false) × ((d == 92) ≡ false)
hex_apart d h = (grind (arith, nat_tests), grind (arith, nat_tests), grind (arith, nat_tests), grind (arith, nat_tests))

-- bytes that a string reads over whole, and that have only escapes
record Over (text : List ℕ) : Type 0 where
  low : AllPass is_low text
  quoted : (more : List ℕ) → quoted_in false (text ++ more) ≡ length text + quoted_in false more
  escaped : (more : List ℕ) → escaped_in false (text ++ more) ≡ length text + escaped_in false more

over_none : Over []
over_none = record { low = tt; quoted = λ more. omega arith; escaped = λ more. omega arith }

over_plain : (b : ℕ) → is_plain b ≡ true → Over (b ∷ [])
over_plain b h =
    let p = plain_apart b h in
    let f = p.1 in
    let q = p.2 in
    let s = p.3 in
    record { low = (p.0, tt); quoted = λ more. rw (f, q, s) (omega arith); escaped = λ more. rw s (omega arith) }

over_escape : (x y : ℕ) → is_hex x ≡ true → is_hex y ≡ true → Over (92 ∷ x ∷ y ∷ [])
over_escape x y h k =
    let p = hex_apart x h in
    let r = hex_apart y k in
    let f = p.1 in
    let g = r.1 in
    let q = r.2 in
    let s = r.3 in
    record {
      low = (refl, (p.0, (r.0, tt)));
      quoted = λ more. rw (f, g, q, s)
          (omega arith);
      escaped = λ more. escape_over x y more h k s;
    }
  where
    or_true : (a : Bool) → (a || true) ≡ true
    or_true true = refl
    or_true false = refl

    escape_over : (x y : ℕ) (more : List ℕ) → is_hex x ≡ true → is_hex y ≡ true → (y == 92) ≡ false
        → escaped_in false (92 ∷ x ∷ y ∷ more) ≡ 3 + escaped_in false more
    escape_over x y more h k s =
        let o = or_true (((x == 34) || (x == 92)) || ((x == 110) || (x == 116))) in
        rw (h, k, o, s) (omega arith)

over_both : (a b : List ℕ) → Over a → Over b → Over (a ++ b)
over_both a b p q = record {
  low = pass_both is_low a b p.low q.low;
  quoted = λ more. ap (quoted_in false) (append_assoc a b more) ∙ p.quoted (b ++ more) ∙
      (let r = q.quoted more in let l = length-append a b in omega arith);
  escaped = λ more. ap (escaped_in false) (append_assoc a b more) ∙ p.escaped (b ++ more) ∙
      (let r = q.escaped more in let l = length-append a b in omega arith);
}

over_if : (b : Bool) (n : ℕ) → is_plain n ≡ b → n < 256
    → Over (if b then n ∷ [] else 92 ∷ hex_digit (n / 16) ∷ hex_digit (n % 16) ∷ [])
over_if true n e h = over_plain n e
over_if false n e h =
    over_escape (hex_digit (n / 16)) (hex_digit (n % 16)) (hex_is (n / 16) (omega arith))
    (hex_is (n % 16) (omega arith))

over_bytes : (bytes : List ℕ) → Each (λ b. b < 256) bytes → Over (flat_map byte_text bytes)
over_bytes [] h = over_none
over_bytes (b ∷ bytes) h =
    over_both (byte_text b) (flat_map byte_text bytes) (over_if (is_plain b) b refl h.0) (over_bytes bytes h.1)

not_below : (n : ℕ) → nat_lt n n ≡ false
not_below n = grind (arith, nat_tests)

string_by : (text : List ℕ) → Over text → IsLexeme (terminal kind.Text (34 ∷ (text ++ 34 ∷ [])))
string_by text o =
    let q : quoted_in false (text ++ 34 ∷ []) ≡ length text = (let r = o.quoted (34 ∷ []) in omega arith) in
    let t = take_at text (34 ∷ []) (length text) refl in
    let d = drop_at text (34 ∷ []) (length text) refl in
    let e : escaped_in false text ≡ length text = ap (escaped_in false) (sym (append-nil text)) ∙
    (let z = o.escaped [] in omega arith) in
    let n = not_below (length text) in
    let size : suc (suc (length text)) ≡ suc (length (text ++ 34 ∷ [])) =
    (let l = length-append text (34 ∷ []) in omega arith) in
    let read : string_at (text ++ 34 ∷ []) ≡ front.Token kind.Text (suc (suc (length text))) = rw
    (q, t, d, e, n) refl in
    known_token kind.Text (34 ∷ (text ++ 34 ∷ [])) (read ∙ ap (front.Token kind.Text) size) refl
    (all_pass is_low (text ++ 34 ∷ []) (pass_both is_low text (34 ∷ []) o.low (refl, tt)))

pub string_lexes : (bytes : List ℕ) → Each (λ b. b < 256) bytes → IsLexeme (terminal kind.Text (string_text bytes))
string_lexes bytes h = string_by (flat_map byte_text bytes) (over_bytes bytes h)

pub iterator_lexes : (k : IteratorKind) → IsLexeme (terminal kind.Text (iterator_text k))
iterator_lexes Parallel = known_token kind.Text (codes "\"parallel\"") refl refl refl
iterator_lexes Reduction = known_token kind.Text (codes "\"reduction\"") refl refl refl

pub block_name_lexes : IsLexeme (terminal kind.BlockName (codes "^bb0"))
block_name_lexes = known_token kind.BlockName (codes "^bb0") refl refl refl

pub one_lexes : IsLexeme (terminal kind.Integer (codes "1"))
one_lexes = known_token kind.Integer (codes "1") refl refl refl
