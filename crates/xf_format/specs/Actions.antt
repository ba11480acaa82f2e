-- What the actions of the rules add to the parts of an operation, by the numbers of tokens, and what they say, by their
-- bytes.
use Rattle.std.specs.Prelude.{◌≡◌, ℕ, List, [], ◌∷◌, map, length, Option, Some, None, Bool, true, false, nat_lt, All}
use Rattle.std.specs.Prelude.{option_map}
use Rattle.xf_lex.specs.declared.token.Token.{Token}
use Rattle.xf_type.specs.declared.payload_type.PayloadType.TheVariants.{Scalar}
use Rattle.xf_type.specs.declared.payload_type.Width.{Width}
use Rattle.xf_type.specs.declared.payload_type.Width.TheVariants as width
use Rattle.xf_type.specs.Limits.{most_entries}
use Rattle.xf_grammar.specs.Tokens.{Terminal, terminal_at}
use Rattle.xf_dense.specs.Actions as dense
use Rattle.xf_dense.specs.Actions.{Action as BodyAction}
use Rattle.xf_ir.specs.declared.kind.IteratorKind.{IteratorKind}
use Rattle.xf_format.specs.declared.expected.Expected.{Expected}
use Rattle.xf_format.specs.declared.expected.Expected.TheVariants as due
use Rattle.xf_format.specs.declared.parts.EntryValue.TheVariants as value
use Rattle.xf_format.specs.declared.parts.Literal.TheVariants as literal
use Rattle.xf_format.specs.declared.parts.MapEntry.TheVariants as map_entry
use Rattle.xf_format.specs.declared.parts.Parts.{Parts}
use Rattle.xf_format.specs.declared.parts.PlaceEntry.{PlaceEntry}
use Rattle.xf_format.specs.declared.parts.PlaceEntry.TheVariants as place
use Rattle.xf_format.specs.declared.row.Side.{Side}
use Rattle.xf_format.specs.declared.row.Side.TheVariants.{Offsets, Sizes}
use Rattle.xf_format.specs.Parts.{ref, use_of, count_of, with_row, with_symbol, as_private, with_predicate}
use Rattle.xf_format.specs.Parts.{with_literal, with_entry, with_define, with_arg, with_use, with_type, with_result}
use Rattle.xf_format.specs.Parts.{text_of, truth, number, no_value, truth_value, number_value, text_value, Said, said}
use Rattle.xf_format.specs.Parts.{says_row, says_symbol, says_private, says_predicate, says_literal, says_entry}
use Rattle.xf_format.specs.Parts.{says_define, says_arg, says_use, says_type, says_result}
use Rattle.xf_format.specs.Parts.{with_body, with_place, widened, giving, with_map, with_maps, with_iterator}
use Rattle.xf_format.specs.Parts.{elements, PlaceSaid, place_number, place_value, written_map, alias_of, says_body}
use Rattle.xf_format.specs.Parts.{says_place, says_map, says_maps, says_iterator}
use Rattle.xf_format.specs.Words.{width_meant, type_meant, predicate_meant, dimension_meant, row_begun, the_row}

pub data Action : Type 0 where
  -- the word of an operation begins it
  begins : Action
  -- the name of results, and optionally how many there are
  defines : Action
  argument_is : Action
  -- the name of an operand, and optionally its number
  operand : Action
  symbol_is : Action
  private_is : Action
  predicate_is : Action
  -- an integer, behind a sign or not, and a truth value with its width
  literal_is : (negative : Bool) → Action
  truth_is : (b : Bool) → Action
  -- a type by the token that is held, and a width that is not written
  type_is : Action
  width_left_out : (w : Width) → Action
  result_is : Action
  -- an attribute: its name, and its value behind it
  unit_entry : Action
  truth_entry : (b : Bool) → Action
  text_entry : Action
  integer_entry : (negative : Bool) (w : Width) → Action
  typed_entry : (negative : Bool) → Action
  -- the body of a tensor begins, and what its machine does
  elements_follow : Action
  dense_is : (k : BodyAction) → Action
  -- an offset or a size: an integer, behind a sign or not, or the next operand
  place_is : (s : Side) (negative : Bool) → Action
  place_given : (s : Side) → Action
  -- a dimension of the map, the one that it gives next, and its end; and an alias of one
  dimension_is : Action
  gives_dimension : Action
  map_is : Action
  alias_is : Action
  iterator_is : (k : IteratorKind) → Action

-- ---- what is held

-- the first of the tokens that are held; nothing changes where none is
abbrev pub of_first : {B C : Type 0} → List B → C → (B → C) → C
of_first [] c f = c
of_first (x ∷ xs) c f = f x

-- the first, and the one behind it if there is one
abbrev pub of_one_or_two : {B C : Type 0} → List B → C → (B → Option B → C) → C
of_one_or_two [] c f = c
of_one_or_two (x ∷ []) c f = f x None
of_one_or_two (x ∷ (y ∷ ys)) c f = f x (Some y)

abbrev pub of_two : {B C : Type 0} → List B → C → (B → B → C) → C
of_two [] c f = c
of_two (x ∷ []) c f = c
of_two (x ∷ (y ∷ ys)) c f = f x y

abbrev pub of_three : {B C : Type 0} → List B → C → (B → B → B → C) → C
of_three [] c f = c
of_three (x ∷ []) c f = c
of_three (x ∷ (y ∷ [])) c f = c
of_three (x ∷ (y ∷ (z ∷ zs))) c f = f x y z

-- ---- by numbers

-- the tokens that are held, with their numbers, and the parts
pub record Reading : Type 0 where
  pub held : List (ℕ × Terminal)
  pub parts : Parts

abbrev pub free : Parts → Reading
free p = record { held = []; parts = p }

-- the number that a second token writes
abbrev pub count_in : Option Terminal → Option ℕ
count_in None = None
count_in (Some x) = Some (count_of x)

abbrev pub one_or : Option ℕ → ℕ
one_or None = 1
one_or (Some k) = k

abbrev pub parts_by : Action → List (ℕ × Terminal) → Parts → Parts
parts_by begins hs p = of_first hs p (λ x. with_row (the_row (row_begun x.1)) p)
parts_by defines hs p =
    of_one_or_two hs p (λ x k. with_define (ref x.0 (one_or (count_in (option_map (λ y. y.1) k)))) p)
parts_by argument_is hs p = of_first hs p (λ x. with_arg (ref x.0 1) p)
parts_by operand hs p = of_one_or_two hs p (λ x k. with_use (use_of x.0 (count_in (option_map (λ y. y.1) k))) p)
parts_by symbol_is hs p = of_first hs p (λ x. with_symbol x.0 p)
parts_by private_is hs p = as_private p
parts_by predicate_is hs p = of_first hs p (λ x. with_predicate (predicate_meant x.1) p)
parts_by (literal_is negative) hs p = of_first hs p (λ x. with_literal (literal.Integer negative x.0) p)
parts_by (truth_is b) hs p = with_type (Scalar width.I1) (with_literal (literal.Truth b) p)
parts_by type_is hs p = of_first hs p (λ x. with_type (type_meant x.1) p)
parts_by (width_left_out w) hs p = with_type (Scalar w) p
parts_by result_is hs p = of_first hs p (λ x. with_result (type_meant x.1) p)
parts_by unit_entry hs p = of_first hs p (λ x. with_entry x.0 value.Unit p)
parts_by (truth_entry b) hs p = of_first hs p (λ x. with_entry x.0 (value.Truth b) p)
parts_by text_entry hs p = of_two hs p (λ x y. with_entry x.0 (value.Text y.0) p)
parts_by (integer_entry negative w) hs p = of_two hs p (λ x y. with_entry x.0 (value.Integer negative y.0 w) p)
parts_by (typed_entry negative) hs p =
    of_three hs p (λ x y z. with_entry x.0 (value.Integer negative y.0 (width_meant z.1)) p)
parts_by elements_follow hs p = with_body dense.no_body (with_literal literal.Elements p)
parts_by (dense_is k) hs p = with_body (dense.body_by k hs p.dense) p
parts_by (place_is s negative) hs p = of_first hs p (λ x. with_place s (place.Number negative x.0) p)
parts_by (place_given s) hs p = with_place s place.Value p
parts_by dimension_is hs p = with_map (widened p.map) p
parts_by gives_dimension hs p = of_first hs p (λ x. with_map (giving (dimension_meant x.1) p.map) p)
parts_by map_is hs p = with_maps (map_entry.Written p.map) p
parts_by alias_is hs p = of_first hs p (λ x. with_maps (map_entry.Alias x.0) p)
parts_by (iterator_is k) hs p = with_iterator k p

abbrev pub add : Action → Reading → Reading
add k h = free (parts_by k h.held h.parts)

-- ---- by bytes

pub record Saying : Type 0 where
  pub held : List Terminal
  pub said : Said

abbrev pub free_said : Said → Saying
free_said t = record { held = []; said = t }

abbrev pub said_by : Action → List Terminal → Said → Said
said_by begins hs t = of_first hs t (λ x. says_row (the_row (row_begun x)) t)
said_by defines hs t = of_one_or_two hs t (λ x k. says_define (text_of x) (one_or (count_in k)) t)
said_by argument_is hs t = of_first hs t (λ x. says_arg (text_of x) t)
said_by operand hs t = of_one_or_two hs t (λ x k. says_use (text_of x) (count_in k) t)
said_by symbol_is hs t = of_first hs t (λ x. says_symbol (text_of x) t)
said_by private_is hs t = says_private t
said_by predicate_is hs t = of_first hs t (λ x. says_predicate (predicate_meant x) t)
said_by (literal_is negative) hs t = of_first hs t (λ x. says_literal (number negative (text_of x)) t)
said_by (truth_is b) hs t = says_type (Scalar width.I1) (says_literal (truth b) t)
said_by type_is hs t = of_first hs t (λ x. says_type (type_meant x) t)
said_by (width_left_out w) hs t = says_type (Scalar w) t
said_by result_is hs t = of_first hs t (λ x. says_result (type_meant x) t)
said_by unit_entry hs t = of_first hs t (λ x. says_entry (text_of x) no_value t)
said_by (truth_entry b) hs t = of_first hs t (λ x. says_entry (text_of x) (truth_value b) t)
said_by text_entry hs t = of_two hs t (λ x y. says_entry (text_of x) (text_value (text_of y)) t)
said_by (integer_entry negative w) hs t =
    of_two hs t (λ x y. says_entry (text_of x) (number_value negative (text_of y) w) t)
said_by (typed_entry negative) hs t =
    of_three hs t (λ x y z. says_entry (text_of x) (number_value negative (text_of y) (width_meant z)) t)
said_by elements_follow hs t = says_body dense.no_body_said (says_literal elements t)
said_by (dense_is k) hs t = says_body (dense.said_by k hs t.dense) t
said_by (place_is s negative) hs t = of_first hs t (λ x. says_place s (place_number negative (text_of x)) t)
said_by (place_given s) hs t = says_place s place_value t
said_by dimension_is hs t = says_map (widened t.map) t
said_by gives_dimension hs t = of_first hs t (λ x. says_map (giving (dimension_meant x) t.map) t)
said_by map_is hs t = says_maps (written_map t.map) t
said_by alias_is hs t = of_first hs t (λ x. says_maps (alias_of (text_of x)) t)
said_by (iterator_is k) hs t = says_iterator k t

abbrev pub tell : Action → Saying → Saying
tell k t = free_said (said_by k t.held t.said)

-- ---- room: no list of an operation has 2 ^ 32 entries

abbrev pub places_of : Side → Parts → List PlaceEntry
places_of Offsets p = p.offsets
places_of Sizes p = p.sizes

abbrev pub places_said : Side → Said → List PlaceSaid
places_said Offsets t = t.offsets
places_said Sizes t = t.sizes

-- the body that is read, with what is held, and what that says
abbrev pub body_read : Reading → dense.Reading
body_read h = record { held = h.held; body = h.parts.dense }

abbrev pub body_told : Saying → dense.Saying
body_told t = record { held = t.held; said = t.said.dense }

abbrev pub room : Action → Reading → Bool
room argument_is h = nat_lt (length h.parts.args) most_entries
room operand h = nat_lt (length h.parts.uses) most_entries
room (truth_is b) h = nat_lt (length h.parts.types) most_entries
room type_is h = nat_lt (length h.parts.types) most_entries
room (width_left_out w) h = nat_lt (length h.parts.types) most_entries
room result_is h = nat_lt (length h.parts.results) most_entries
room unit_entry h = nat_lt (length h.parts.entries) most_entries
room (truth_entry b) h = nat_lt (length h.parts.entries) most_entries
room text_entry h = nat_lt (length h.parts.entries) most_entries
room (integer_entry negative w) h = nat_lt (length h.parts.entries) most_entries
room (typed_entry negative) h = nat_lt (length h.parts.entries) most_entries
room (dense_is k) h = dense.room k (body_read h)
room (place_is s negative) h = nat_lt (length (places_of s h.parts)) most_entries
room (place_given s) h = nat_lt (length (places_of s h.parts)) most_entries
room dimension_is h = nat_lt h.parts.map.dims most_entries
room gives_dimension h = nat_lt (length h.parts.map.results) most_entries
room map_is h = nat_lt (length h.parts.maps) most_entries
room alias_is h = nat_lt (length h.parts.maps) most_entries
room (iterator_is k) h = nat_lt (length h.parts.iterators) most_entries
room k h = true

abbrev pub space : Action → Saying → Bool
space argument_is t = nat_lt (length t.said.args) most_entries
space operand t = nat_lt (length t.said.uses) most_entries
space (truth_is b) t = nat_lt (length t.said.types) most_entries
space type_is t = nat_lt (length t.said.types) most_entries
space (width_left_out w) t = nat_lt (length t.said.types) most_entries
space result_is t = nat_lt (length t.said.results) most_entries
space unit_entry t = nat_lt (length t.said.entries) most_entries
space (truth_entry b) t = nat_lt (length t.said.entries) most_entries
space text_entry t = nat_lt (length t.said.entries) most_entries
space (integer_entry negative w) t = nat_lt (length t.said.entries) most_entries
space (typed_entry negative) t = nat_lt (length t.said.entries) most_entries
space (dense_is k) t = dense.space k (body_told t)
space (place_is s negative) t = nat_lt (length (places_said s t.said)) most_entries
space (place_given s) t = nat_lt (length (places_said s t.said)) most_entries
space dimension_is t = nat_lt t.said.map.dims most_entries
space gives_dimension t = nat_lt (length t.said.map.results) most_entries
space map_is t = nat_lt (length t.said.maps) most_entries
space alias_is t = nat_lt (length t.said.maps) most_entries
space (iterator_is k) t = nat_lt (length t.said.iterators) most_entries
space k t = true

-- what is due where there is no room
abbrev pub full : Action → Expected
full k = due.ListEnd

-- ---- from numbers to bytes

-- the tokens that are held stand at their numbers
abbrev pub IsHeld : List Token → ℕ × Terminal → Type 0
IsHeld all x = terminal_at all x.0 ≡ x.1

-- what was read of a text says so much
pub record Says (all : List Token) (h : Reading) (t : Saying) : Type 0 where
  pub tokens : All (IsHeld all) h.held
  pub held : map (λ x. x.1) h.held ≡ t.held
  pub parts : said all h.parts ≡ t.said
