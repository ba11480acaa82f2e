-- What tokens mean by their bytes: the words of operations, types and predicates, and shapes.
use Rattle.std.specs.Prelude.{ℕ, List, [], ◌∷◌, Option, Some, None, Bool, true, false, ◌&&◌, not, ◌==◌, codes}
use Rattle.std.specs.Prelude.{is_some, if◌then◌else◌}
use Rattle.std.specs.List.{list_all}
use Rattle.xf_type.specs.Bytes.{is_digit}
use Rattle.xf_type.specs.declared.kind.CmpKind.{CmpKind}
use Rattle.xf_type.specs.declared.kind.CmpKind.TheVariants as cmp
use Rattle.xf_type.specs.declared.payload_type.PayloadType.{PayloadType}
use Rattle.xf_type.specs.declared.payload_type.PayloadType.TheVariants.{Scalar, Tensor}
use Rattle.xf_type.specs.declared.payload_type.Shape.{Shape}
use Rattle.xf_type.specs.declared.payload_type.Width.{Width}
use Rattle.xf_type.specs.declared.payload_type.Width.TheVariants as width
use Rattle.xf_type.specs.Spelling.{all_predicates, predicate_spelling}
use Rattle.xf_lex.specs.declared.token.TokenKind.TheVariants as token
pub use Rattle.xf_shape.specs.Widths.{Table, lookup, spelt, widths}
use Rattle.xf_shape.specs.Shapes.{shape_of}
use Rattle.xf_grammar.specs.Tokens.{Terminal, terminal, word_of, number_of}
use Rattle.xf_format.specs.declared.row.Keyword.{Keyword}
use Rattle.xf_format.specs.declared.row.Keyword.TheVariants as key
use Rattle.xf_format.specs.declared.row.Level.{Level}
use Rattle.xf_format.specs.declared.row.Row.{Row}
use Rattle.xf_format.specs.declared.row.Row.TheVariants as row
use Rattle.xf_format.specs.Rows.{words, stands}

abbrev pub predicates : Table CmpKind
predicates = spelt predicate_spelling all_predicates

abbrev pub spelling : Keyword → List ℕ
spelling key.To = codes "to"
spelling key.Step = codes "step"
spelling key.Into = codes "into"
spelling key.IndexingMaps = codes "indexing_maps"
spelling key.IteratorTypes = codes "iterator_types"

-- ---- the width, the type and the predicate that a token means

abbrev pub is_width : Terminal → Bool
is_width x = is_some (lookup widths (word_of x))

abbrev pub the_width : Option Width → Width
the_width (Some w) = w
the_width None = width.Index

abbrev pub width_meant : Terminal → Width
width_meant x = the_width (lookup widths (word_of x))

abbrev pub shape_meant : Terminal → Option Shape
shape_meant (terminal token.Shape bytes) = shape_of bytes
shape_meant x = None

abbrev pub is_shape : Terminal → Bool
is_shape x = is_some (shape_meant x)

abbrev pub the_shape : Option Shape → Shape
the_shape (Some s) = s
the_shape None = record { dims = []; elem = width.Index }

-- a type by the word of its width, or else by the shape behind the word tensor
abbrev pub type_by : Option Width → Option Shape → PayloadType
type_by (Some w) s = Scalar w
type_by None s = Tensor (the_shape s)

abbrev pub type_meant : Terminal → PayloadType
type_meant x = type_by (lookup widths (word_of x)) (shape_meant x)

abbrev pub is_predicate : Terminal → Bool
is_predicate x = is_some (lookup predicates (word_of x))

abbrev pub the_predicate : Option CmpKind → CmpKind
the_predicate (Some k) = k
the_predicate None = cmp.Eq

abbrev pub predicate_meant : Terminal → CmpKind
predicate_meant x = the_predicate (lookup predicates (word_of x))

-- ---- the dimension that a word means: d, and its number in decimals without a 0 before them

abbrev pub leads : List ℕ → Bool
leads [] = false
leads (b ∷ []) = true
leads (b ∷ bs) = not (b == 48)

abbrev pub dimension_by : List ℕ → Option ℕ
dimension_by digits = if list_all is_digit digits && leads digits then Some (number_of digits) else None

abbrev pub dimension_of : List ℕ → Option ℕ
dimension_of [] = None
dimension_of (b ∷ digits) = if b == 100 then dimension_by digits else None

abbrev pub dimension_or : Option ℕ → ℕ
dimension_or None = 0
dimension_or (Some k) = k

abbrev pub dimension_meant : Terminal → ℕ
dimension_meant x = dimension_or (dimension_of (word_of x))

-- ---- the row that a token begins

abbrev pub row_begun : Terminal → Option Row
row_begun x = lookup words (word_of x)

abbrev pub the_row : Option Row → Row
the_row (Some r) = r
the_row None = row.Module

-- whether a row stands at a level
abbrev pub opens : Level → Option Row → Bool
opens l (Some r) = stands l r
opens l None = false
