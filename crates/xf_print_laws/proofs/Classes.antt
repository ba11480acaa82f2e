-- What the tokens that pass a test stand as.
use Rattle.std.proofs.Common.{◌≡◌, inl, inr, ℕ, Bool, true, false, List, [], ◌∷◌, Option, Some, None, refl, ap, subst}
use Rattle.std.proofs.Common.{arith}
use Rattle.std.specs.Prelude.{codes, is_some}
use Rattle.std.specs.Str.{bytes_eq}
use Rattle.std.proofs.lemmas.Slice.Eq.{bytes_eq-Decides}
use Rattle.std.proofs.lemmas.Bool.Decides.{nat_tests}
use Rattle.xf_lex.specs.declared.token.TokenKind.{TokenKind}
use Rattle.xf_lex.specs.declared.token.TokenKind.TheVariants as kind
use Rattle.xf_grammar.specs.Tokens.{Terminal, the_end, terminal, same_kind, is_kind, is_word, is_index, word_of}
use Rattle.xf_grammar.specs.Apart.{Before, a_token, before, Among}
use Rattle.xf_grammar.proofs.Basics.{both_true}
use Rattle.xf_format.specs.Actions.{Saying}
use Rattle.xf_format.specs.Rules.{language}
use Rattle.xf_format.specs.Tests.{Test, of_kind, of_word, short_symbol, short_word, short_text, an_index, a_width}
use Rattle.xf_format.specs.Tests.{a_shape}
use Rattle.xf_format.specs.Tests.{a_predicate, integer_for, width_for, an_operation, a_result, a_one, of_text}
use Rattle.xf_format.specs.Tests.{next_dimension}
use Rattle.xf_format.specs.Tests.{a_dimension, a_selected, a_dense_shape, is_dimension, is_below, shape_for}
use Rattle.std.specs.Prelude.{map}
use Rattle.xf_dense.specs.Fits.{says_truth}
use Rattle.xf_format.specs.Words.{Table, lookup, widths, predicates, is_width, is_shape, row_begun, opens}
use Rattle.xf_format.specs.Words.{dimension_of, shape_meant}
use Rattle.xf_format.specs.Rows.{words, has_operations}

-- ---- what the tokens that pass a test stand as

-- a word is the word tensor or not
abbrev pub kinds : TokenKind → List Before
kinds kind.Word = a_token kind.Word true ∷ a_token kind.Word false ∷ []
kinds k = a_token k false ∷ []

abbrev pub class : Test → List Before
class (of_kind k) = kinds k
class (of_word w) = a_token kind.Word (bytes_eq w (codes "tensor")) ∷ []
class short_symbol = kinds kind.Symbol
class short_text = kinds kind.Text
class an_index = kinds kind.Hash
class (integer_for negative w) = kinds kind.Integer
class (a_result l) = kinds kind.Value
class a_shape = kinds kind.Shape
class a_dense_shape = kinds kind.Shape
class a_one = kinds kind.Integer
class (of_text bytes) = kinds kind.Text
class x = kinds kind.Word

-- ---- it is known rightly

same_kind_is : (j k : TokenKind) → same_kind j k ≡ true → j ≡ k
same_kind_is kind.Word kind.Word e = refl
same_kind_is kind.Value kind.Value e = refl
same_kind_is kind.Symbol kind.Symbol e = refl
same_kind_is kind.BlockName kind.BlockName e = refl
same_kind_is kind.Hash kind.Hash e = refl
same_kind_is kind.DialectType kind.DialectType e = refl
same_kind_is kind.Integer kind.Integer e = refl
same_kind_is kind.Text kind.Text e = refl
same_kind_is kind.Shape kind.Shape e = refl
same_kind_is kind.Arrow kind.Arrow e = refl
same_kind_is (kind.Mark b) (kind.Mark c) e = let q : b ≡ c = grind (arith, nat_tests) in ap kind.Mark q
same_kind_is j k e = absurd cc

word_there : (b : Bool) → Among (a_token kind.Word b) (kinds kind.Word)
word_there true = inl refl
word_there false = inr (inl refl)

kind_there : (k : TokenKind) (bytes : List ℕ) → Among (before (terminal k bytes)) (kinds k)
kind_there kind.Word bytes = word_there (bytes_eq bytes (codes "tensor"))
kind_there k bytes = inl refl

pub of_kind_there : (k : TokenKind) (y : Terminal) → is_kind k y ≡ true → Among (before y) (kinds k)
of_kind_there k the_end e = absurd cc
of_kind_there k (terminal j bytes) e =
    subst (λ i. Among (before (terminal j bytes)) (kinds i)) (same_kind_is j k e) (kind_there j bytes)

pub of_word_there : (w : List ℕ) (y : Terminal) → is_word w y ≡ true → Among (before y) (class (of_word w))
of_word_there w (terminal kind.Word bytes) e =
    let q : bytes ≡ w = (bytes_eq-Decides bytes w).0 e in inl
    (ap (λ b. a_token kind.Word (bytes_eq b (codes "tensor"))) q)
of_word_there w y e = absurd cc

-- only words have a meaning
found_there : {A : Type 0} (table : Table A) (y : Terminal) → lookup table [] ≡ None
    → is_some (lookup table (word_of y)) ≡ true → Among (before y) (kinds kind.Word)
found_there table (terminal kind.Word bytes) n e = kind_there kind.Word bytes
found_there table y n e = absurd (let z = ap is_some n in cc)

index_there : (y : Terminal) → is_index y ≡ true → Among (before y) (kinds kind.Hash)
index_there (terminal kind.Hash bytes) e = kind_there kind.Hash bytes
index_there y e = absurd cc

shape_there : (y : Terminal) → is_shape y ≡ true → Among (before y) (kinds kind.Shape)
shape_there (terminal kind.Shape bytes) e = inl refl
shape_there y e = absurd cc

dimension_there : (y : Terminal) → is_some (dimension_of (word_of y)) ≡ true → Among (before y) (kinds kind.Word)
dimension_there (terminal kind.Word bytes) e = kind_there kind.Word bytes
dimension_there y e = absurd cc

some_of : {A : Type 0} (p : Option A → Bool) (r : Option A) → p None ≡ false → p r ≡ true → is_some r ≡ true
some_of p None n e = absurd cc
some_of p (Some r) n e = refl

pub classed : (x : Test) (y : Terminal) (t : Saying) → language.allows x y t ≡ true → Among (before y) (class x)
classed (of_kind k) y t e = of_kind_there k y e
classed (of_word w) y t e = of_word_there w y e
classed short_symbol y t e = of_kind_there kind.Symbol y (both_true (is_kind kind.Symbol y) _ e).0
classed short_word y t e = of_kind_there kind.Word y (both_true (is_kind kind.Word y) _ e).0
classed short_text y t e = of_kind_there kind.Text y (both_true (is_kind kind.Text y) _ e).0
classed an_index y t e = index_there y e
classed a_width y t e = found_there widths y refl e
classed a_shape y t e = shape_there y e
classed a_predicate y t e = found_there predicates y refl e
classed (integer_for negative w) y t e = of_kind_there kind.Integer y (both_true (is_kind kind.Integer y) _ e).0
classed (width_for negative) y t e = found_there widths y refl (both_true (is_width y) _ e).0
classed (an_operation l) y t e = found_there words y refl (some_of (opens l) (row_begun y) refl e)
classed (a_result l) y t e = of_kind_there kind.Value y (both_true (has_operations l) _ e).1
classed a_one y t e = of_kind_there kind.Integer y (both_true (is_kind kind.Integer y) _ e).0
classed (of_text bytes) y t e = of_kind_there kind.Text y (both_true (is_kind kind.Text y) _ e).0
classed next_dimension y t e = dimension_there y (some_of (is_dimension t.said.map.dims) _ refl e)
classed a_dimension y t e = dimension_there y (some_of (is_below t.said.map.dims) _ refl e)
classed a_selected y t e =
    dimension_there y (some_of (is_below t.said.map.dims) _ refl (both_true (is_below t.said.map.dims _) _ e).0)
classed a_dense_shape y t e =
    shape_there y
    (some_of (shape_for t.said.dense.extents (map says_truth t.said.dense.literals)) (shape_meant y) refl e)
