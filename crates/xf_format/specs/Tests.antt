-- The tests of a token, and the machine of dense bodies.
use Rattle.std.specs.Prelude.{ℕ, ◌-◌, ◌^◌, List, ◌∷◌, map, length, drop, Option, Some, None, Bool, false, not, ◌&&◌}
use Rattle.std.specs.Prelude.{◌==◌, if◌then◌else◌, nat_le, nat_lt}
use Rattle.std.specs.List.{list_any}
use Rattle.std.specs.Str.{bytes_eq}
use Rattle.xf_lex.specs.declared.token.TokenKind.{TokenKind}
use Rattle.xf_lex.specs.declared.token.TokenKind.TheVariants as kind
use Rattle.xf_type.specs.declared.attribute.AffineMap.{AffineMap}
use Rattle.xf_type.specs.declared.payload_type.Shape.{Shape}
use Rattle.xf_type.specs.declared.payload_type.Width.{Width}
use Rattle.xf_type.specs.Integers.{bits_of}
use Rattle.xf_type.specs.Limits.{most_entries}
use Rattle.xf_grammar.specs.Tokens.{Terminal, the_end, digits_of, number_of, word_of, is_kind, is_word, is_index}
use Rattle.xf_grammar.specs.Grammar.{Step, ends, fails, goes}
use Rattle.xf_dense.specs.declared.expected.Due.{Due}
use Rattle.xf_dense.specs.declared.expected.Due.TheVariants as dense_due
use Rattle.xf_dense.specs.declared.state.State as dense
use Rattle.xf_dense.specs.Actions.{Action as BodyAction}
use Rattle.xf_dense.specs.Fits.{is_truth, says_truth, fits_by}
use Rattle.xf_dense.specs.Machine as body
use Rattle.xf_format.specs.declared.expected.Expected.{Expected}
use Rattle.xf_format.specs.declared.expected.Expected.TheVariants as due
use Rattle.xf_format.specs.declared.row.Level.{Level}
use Rattle.xf_format.specs.Actions.{Action, dense_is, Reading, Saying}
use Rattle.xf_format.specs.Parts.{text_of}
use Rattle.xf_format.specs.Rows.{has_operations}
use Rattle.xf_format.specs.Strings.{decoded}
use Rattle.xf_format.specs.Words.{is_width, width_meant, shape_meant, is_shape, is_predicate, row_begun, opens}
use Rattle.xf_format.specs.Words.{dimension_of, dimension_meant}

pub data Test : Type 0 where
  of_kind : (k : TokenKind) → Test
  of_word : (w : List ℕ) → Test
  -- a symbol, a word and a string that are short enough
  short_symbol : Test
  short_word : Test
  short_text : Test
  -- a # and digits
  an_index : Test
  a_width : Test
  -- the shape of a tensor type
  a_shape : Test
  a_predicate : Test
  -- an integer for which a width has room, and a width that has room for the integer that is held second
  integer_for : (negative : Bool) (w : Width) → Test
  width_for : (negative : Bool) → Test
  -- the word of an operation that stands at a level
  an_operation : (l : Level) → Test
  -- the name of results, where operations stand that have some
  a_result : (l : Level) → Test
  -- the integer 1
  a_one : Test
  -- a string that stands for these bytes
  of_text : (bytes : List ℕ) → Test
  -- the name of the next dimension of a map, of one that it has, and of one that it has and does not give yet
  next_dimension : Test
  a_dimension : Test
  a_selected : Test
  -- the shape of a tensor type for whose elements the body stands
  a_dense_shape : Test

-- names and strings are lists of bytes of the tree, and none has 2 ^ 32
abbrev pub is_short : List ℕ → Bool
is_short bytes = nat_le (length bytes) most_entries

-- the name of a symbol stands behind its @
abbrev pub is_symbol : Terminal → Bool
is_symbol x = is_kind kind.Symbol x && is_short (drop 1 (text_of x))

abbrev pub is_name : Terminal → Bool
is_name x = is_kind kind.Word x && is_short (text_of x)

abbrev pub is_string : Terminal → Bool
is_string x = is_kind kind.Text x && is_short (decoded (text_of x))

-- whether a width has room for a number: -2 ^ (bits - 1) <= n <= 2 ^ bits - 1
abbrev pub has_room : Width → Bool → ℕ → Bool
has_room w negative n = if negative then nat_le n (2 ^ (bits_of w - 1)) else nat_le n (2 ^ bits_of w - 1)

abbrev pub room_for : Width → Bool → Terminal → Bool
room_for w negative x = has_room w negative (number_of (digits_of x))

abbrev pub second_of : List Terminal → Terminal
second_of (x ∷ (y ∷ ys)) = y
second_of xs = the_end

-- ---- what is known of what was read: the tokens that are held; the map, and of a dense body the extents and which of
-- its literals are true or false

pub record Known : Type 0 where
  pub held : List Terminal
  pub map : AffineMap
  pub extents : Option (List ℕ)
  pub truths : List Bool

abbrev pub known : Reading → Known
known h = record {
  held = map (λ p. p.1) h.held;
  map = h.parts.map;
  extents = h.parts.dense.extents;
  truths = map is_truth h.parts.dense.literals;
}

abbrev pub known_said : Saying → Known
known_said t = record {
  held = t.held;
  map = t.said.map;
  extents = t.said.dense.extents;
  truths = map says_truth t.said.dense.literals;
}

abbrev pub is_one : Terminal → Bool
is_one x = is_kind kind.Integer x && number_of (digits_of x) == 1

abbrev pub stands_for : List ℕ → Terminal → Bool
stands_for bytes x = is_kind kind.Text x && bytes_eq (decoded (text_of x)) bytes

-- ---- dimensions

abbrev pub is_dimension : ℕ → Option ℕ → Bool
is_dimension n None = false
is_dimension n (Some k) = k == n

abbrev pub is_below : ℕ → Option ℕ → Bool
is_below n None = false
is_below n (Some k) = nat_lt k n

abbrev pub gives : List ℕ → ℕ → Bool
gives results k = list_any (λ j. j == k) results

-- one of the dimensions, and not among the results yet
abbrev pub is_new : AffineMap → Terminal → Bool
is_new m x = is_below m.dims (dimension_of (word_of x)) && not (gives m.results (dimension_meant x))

-- ---- shapes

abbrev pub shape_for : Option (List ℕ) → List Bool → Option Shape → Bool
shape_for extents truths None = false
shape_for extents truths (Some s) = fits_by extents truths s

abbrev pub tested : Test → Terminal → Known → Bool
tested (of_kind k) x s = is_kind k x
tested (of_word w) x s = is_word w x
tested short_symbol x s = is_symbol x
tested short_word x s = is_name x
tested short_text x s = is_string x
tested an_index x s = is_index x
tested a_width x s = is_width x
tested a_shape x s = is_shape x
tested a_predicate x s = is_predicate x
tested (integer_for negative w) x s = is_kind kind.Integer x && room_for w negative x
tested (width_for negative) x s = is_width x && room_for (width_meant x) negative (second_of s.held)
tested (an_operation l) x s = opens l (row_begun x)
tested (a_result l) x s = has_operations l && is_kind kind.Value x
tested a_one x s = is_one x
tested (of_text bytes) x s = stands_for bytes x
tested next_dimension x s = is_dimension s.map.dims (dimension_of (word_of x))
tested a_dimension x s = is_below s.map.dims (dimension_of (word_of x))
tested a_selected x s = is_new s.map x
tested a_dense_shape x s = shape_for s.extents s.truths (shape_meant x)

abbrev pub passes : Test → Terminal → Reading → Bool
passes x y h = tested x y (known h)

abbrev pub allows : Test → Terminal → Saying → Bool
allows x y t = tested x y (known_said t)

-- ---- machines

-- that of dense bodies
abbrev pub State : Type 0
State = dense.State

-- what is due in a body is due in the operation
abbrev pub due_in : Due → Expected
due_in dense_due.Item = due.DenseItem
due_in dense_due.End = due.ListEnd
due_in dense_due.Other = due.Other

abbrev pub due_if : Option Due → Option Expected
due_if None = None
due_if (Some d) = Some (due_in d)

abbrev pub action_if : Option BodyAction → Option Action
action_if None = None
action_if (Some k) = Some (dense_is k)

-- a step in a body, as one in the operation
abbrev pub lifted : Step BodyAction Due State → Step Action Expected State
lifted ends = ends
lifted (fails d) = fails (due_in d)
lifted (goes gap keep m k) = goes gap keep m (action_if k)

abbrev pub step : State → Terminal → Step Action Expected State
step m x = lifted (body.step m x)

abbrev pub close : State → Option Expected
close m = due_if (body.close m)
