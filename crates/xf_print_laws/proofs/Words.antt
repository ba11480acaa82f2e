-- Words of the tables: what each of them means, and that it is a word.
use Rattle.std.proofs.Common.{◌≡◌, inl, inr, ℕ, Bool, true, false, List, [], ◌∷◌, Option, Some, None, refl, sym, ap}
use Rattle.std.proofs.Common.{subst, ◌∙◌}
use Rattle.std.specs.Prelude.{if◌then◌else◌}
use Rattle.std.specs.Str.{bytes_eq}
use Rattle.std.proofs.lemmas.Slice.Eq.{bytes_eq-Decides}
use Rattle.xf_type.specs.declared.kind.BinKind.{BinKind}
use Rattle.xf_type.specs.declared.kind.BinKind.TheVariants.{Addi}
use Rattle.xf_type.specs.declared.kind.CmpKind.{CmpKind}
use Rattle.xf_type.specs.declared.kind.CmpKind.TheVariants.{Eq}
use Rattle.xf_type.specs.declared.kind.ConvKind.{ConvKind}
use Rattle.xf_type.specs.declared.kind.ConvKind.TheVariants.{Extsi}
use Rattle.xf_type.specs.declared.payload_type.Width.{Width}
use Rattle.xf_type.specs.declared.payload_type.Width.TheVariants.{I1}
use Rattle.xf_type.specs.Spelling.{binary_spelling, conversion_spelling, width_spelling, predicate_spelling}
use Rattle.xf_lex.specs.declared.token.TokenKind.TheVariants as token
use Rattle.xf_grammar.specs.Tokens.{terminal}
use Rattle.xf_grammar.specs.Apart.{IsLexeme}
use Rattle.xf_grammar.proofs.Basics.{true_or_false, both_true}
use Rattle.xf_format.specs.declared.row.Level.TheVariants as level
use Rattle.xf_format.specs.declared.row.Row.{Row}
use Rattle.xf_format.specs.declared.row.Row.TheVariants as row
use Rattle.xf_format.specs.Rows.{words}
use Rattle.xf_format.specs.Words.{Table, lookup, widths, predicates, the_row, opens}
use Rattle.xf_ir.specs.declared.kind.Kind.{Kind}
use Rattle.xf_ir.specs.declared.kind.Kind.TheVariants as kind
use Rattle.xf_ir.specs.Kinds.{is_container}
use Rattle.xf_ir.specs.Lists.{every}
use Rattle.xf_ir.specs.Words.{is_word}
use Rattle.xf_printed.specs.PrintedForm.{word_of}
use Rattle.xf_printed.specs.PrintedForm.{row_of as row_of_word}
use Rattle.xf_print_laws.specs.SaidPrinted.{row_of}
use Rattle.xf_print_laws.proofs.LayoutTokens.{word_lexes}
use Rattle.xf_ir.specs.declared.kind.NamedKind.{NamedKind}
use Rattle.xf_ir.specs.declared.kind.NamedKind.TheVariants.{Matmul}
use Rattle.xf_ir.specs.Spelling.{named_spelling}

-- ---- what they mean

binary_row : (b : BinKind) → lookup words (binary_spelling b) ≡ Some (row.Binary b)
binary_row Addi = refl
binary_row b = refl

named_row : (n : NamedKind) → lookup words (named_spelling n) ≡ Some (row.Named n)
named_row Matmul = refl
named_row n = refl

conversion_row : (c : ConvKind) → lookup words (conversion_spelling c) ≡ Some (row.Convert c)
conversion_row Extsi = refl
conversion_row c = refl

pub word_row : (k : Kind) → lookup words (word_of k) ≡ Some (row_of k)
word_row (kind.Binary which width) = binary_row which
word_row (kind.Convert which from to) = conversion_row which
word_row (kind.Named which) = named_row which
word_row kind.If = refl
word_row k = refl

pub same_row : (k : Kind) → row_of_word k ≡ row_of k
same_row k = ap the_row (word_row k)

-- inside a body no module and no function stands
pub body_opens : (k : Kind) → is_container k ≡ false → opens level.Body (Some (row_of k)) ≡ true
body_opens (kind.Module symbol) e = absurd cc
body_opens k e = cc

pub width_found : (w : Width) → lookup widths (width_spelling w) ≡ Some w
width_found I1 = refl
width_found w = refl

pub predicate_found : (k : CmpKind) → lookup predicates (predicate_spelling k) ≡ Some k
predicate_found Eq = refl
predicate_found k = refl

-- ---- they are words

found_or : {A : Type 0} (b : Bool) (p : List ℕ × A) (o : Option A) (w : List ℕ) (a : A) → bytes_eq w p.0 ≡ b
    → is_word p.0 ≡ true → (o ≡ Some a → is_word w ≡ true) → (if b then Some p.1 else o) ≡ Some a → is_word w ≡ true
found_or true p o w a same word later found = subst (λ v. is_word v ≡ true) (sym ((bytes_eq-Decides w p.0).0 same)) word
found_or false p o w a same word later found = later found

-- what is found in a table of words
found_word : {A : Type 0} (table : Table A) (w : List ℕ) (a : A) → every (λ p. is_word p.0) table ≡ true
    → lookup table w ≡ Some a → is_word w ≡ true
found_word [] w a e found = absurd cc
found_word (p ∷ table) w a e found =
    let b = both_true (is_word p.0) _ e in
    found_or (bytes_eq w p.0) p (lookup table w) w a refl b.0 (found_word table w a b.1) found

pub row_lexes : (w : List ℕ) (r : Row) → lookup words w ≡ Some r → IsLexeme (terminal token.Word w)
row_lexes w r found = word_lexes w (found_word words w r refl found)

pub width_lexes : (w : Width) → IsLexeme (terminal token.Word (width_spelling w))
width_lexes w = word_lexes _ (found_word widths (width_spelling w) w refl (width_found w))

pub predicate_lexes : (k : CmpKind) → IsLexeme (terminal token.Word (predicate_spelling k))
predicate_lexes k = word_lexes _ (found_word predicates (predicate_spelling k) k refl (predicate_found k))

-- a word that begins an operation is another than one that begins none
pub another_word : (w v : List ℕ) (r : Row) → lookup words w ≡ Some r → lookup words v ≡ None → bytes_eq w v ≡ false
another_word w v r e n = elim (true_or_false (bytes_eq w v)) [
  | inl same ↦ absurd (let o = sym e ∙ (ap (lookup words) ((bytes_eq-Decides w v).0 same) ∙ n) in cc)
  | inr other ↦ other
]
