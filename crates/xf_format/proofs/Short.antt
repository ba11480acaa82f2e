-- No list of the parts of an operation has 2 ^ 32 entries: once, by the actions.
use Rattle.std.proofs.Common.{◌≡◌, ℕ, ◌<◌, ◌^◌, true, List, [], ◌∷◌, ◌++◌, length, arith}
use Rattle.std.specs.Prelude.{nat_lt}
use Rattle.std.proofs.lemmas.Bool.{ltb-true}
use Rattle.std.proofs.lemmas.List.{length_push}
use Rattle.xf_lex.specs.declared.token.Token.{Token}
use Rattle.xf_type.specs.Limits.{most_entries}
use Rattle.xf_type.specs.declared.payload_type.PayloadType.{PayloadType}
use Rattle.xf_type.specs.declared.payload_type.PayloadType.TheVariants.{Scalar}
use Rattle.xf_type.specs.declared.payload_type.Width.TheVariants as width
use Rattle.xf_grammar.specs.Tokens.{Terminal}
use Rattle.xf_grammar.proofs.Kept.{Keeps, confined_all}
use Rattle.xf_type.specs.declared.attribute.AffineMap.{AffineMap}
use Rattle.xf_dense.specs.declared.body.Body.{Body}
use Rattle.xf_dense.specs.Actions as dense
use Rattle.xf_dense.specs.Actions.{Action as BodyAction}
use Rattle.xf_ir.specs.declared.kind.IteratorKind.{IteratorKind}
use Rattle.xf_format.specs.declared.parts.EntryValue.{EntryValue}
use Rattle.xf_format.specs.declared.parts.Literal.{Literal}
use Rattle.xf_format.specs.declared.parts.Literal.TheVariants as literal
use Rattle.xf_format.specs.declared.parts.MapEntry.{MapEntry}
use Rattle.xf_format.specs.declared.parts.Parts.{Parts}
use Rattle.xf_format.specs.declared.parts.PlaceEntry.{PlaceEntry}
use Rattle.xf_format.specs.declared.parts.PlaceEntry.TheVariants as place
use Rattle.xf_format.specs.declared.parts.Ref.{Ref}
use Rattle.xf_format.specs.declared.parts.Use.{Use}
use Rattle.xf_format.specs.declared.row.Row.{Row}
use Rattle.xf_format.specs.declared.row.Side.{Side}
use Rattle.xf_format.specs.declared.row.Side.TheVariants.{Offsets, Sizes}
use Rattle.xf_format.specs.Actions.{Action, argument_is, operand, truth_is, type_is, width_left_out, result_is}
use Rattle.xf_format.specs.Actions.{unit_entry, truth_entry, text_entry, integer_entry, typed_entry, elements_follow}
use Rattle.xf_format.specs.Actions.{dense_is, place_is, place_given, dimension_is, gives_dimension, map_is, alias_is}
use Rattle.xf_format.specs.Actions.{iterator_is, places_of, parts_by, room}
use Rattle.xf_format.specs.Parts.{no_parts, with_literal, with_entry, with_arg, with_use, with_type, with_result}
use Rattle.xf_format.specs.Parts.{with_body, with_place, with_map, with_maps, with_iterator}
use Rattle.xf_format.specs.Rules.{language}
use Rattle.xf_format.specs.Tests.{known}
use Rattle.xf_format.specs.Short.{HasShortParts}
use Rattle.xf_format.proofs.Holding.{Any, all_any, of_first_has, of_one_or_two_has, of_two_has, of_three_has}
use Rattle.xf_format.proofs.Lawful.{no_end}

-- one more, where there is room
one_more : {B : Type 0} (xs : List B) (x : B) → nat_lt (length xs) most_entries ≡ true → length (xs ++ x ∷ []) < 2 ^ 32
one_more xs x e = let lt = ltb-true (length xs) most_entries e in let p = length_push xs x in omega (arith, lt, p)

-- by all that is said of them
short_by : {p : Parts} → length p.entries < 2 ^ 32 → length p.args < 2 ^ 32 → length p.uses < 2 ^ 32
    → length p.types < 2 ^ 32 → length p.results < 2 ^ 32 → length p.dense.literals < 2 ^ 32
    → length p.offsets < 2 ^ 32 → length p.sizes < 2 ^ 32 → length p.maps < 2 ^ 32 → length p.iterators < 2 ^ 32
    → HasShortParts p
short_by e a u t r d o z m i = record {
  entries = e;
  args = a;
  uses = u;
  types = t;
  results = r;
  literals = d;
  offsets = o;
  sizes = z;
  maps = m;
  iterators = i;
}

args_more : (r : Ref) (p : Parts) → nat_lt (length p.args) most_entries ≡ true → HasShortParts p
    → HasShortParts (with_arg r p)
args_more r p e s = short_by s.entries (one_more p.args r e) s.uses s.types s.results s.literals s.offsets s.sizes s.maps
    s.iterators

uses_more : (u : Use) (p : Parts) → nat_lt (length p.uses) most_entries ≡ true → HasShortParts p
    → HasShortParts (with_use u p)
uses_more u p e s = short_by s.entries s.args (one_more p.uses u e) s.types s.results s.literals s.offsets s.sizes s.maps
    s.iterators

types_more : (t : PayloadType) (p : Parts) → nat_lt (length p.types) most_entries ≡ true → HasShortParts p
    → HasShortParts (with_type t p)
types_more t p e s = short_by s.entries s.args s.uses (one_more p.types t e) s.results s.literals s.offsets s.sizes s.maps
    s.iterators

results_more : (t : PayloadType) (p : Parts) → nat_lt (length p.results) most_entries ≡ true → HasShortParts p
    → HasShortParts (with_result t p)
results_more t p e s = short_by s.entries s.args s.uses s.types (one_more p.results t e) s.literals s.offsets s.sizes
    s.maps s.iterators

entries_more : (n : ℕ) (v : EntryValue) (p : Parts) → nat_lt (length p.entries) most_entries ≡ true → HasShortParts p
    → HasShortParts (with_entry n v p)
entries_more n v p e s =
    short_by (one_more p.entries (record { name = n; value = v }) e) s.args s.uses s.types s.results s.literals s.offsets
    s.sizes s.maps s.iterators

literal_short : (l : Literal) (p : Parts) → HasShortParts p → HasShortParts (with_literal l p)
literal_short l p s = short_by s.entries s.args s.uses s.types s.results s.literals s.offsets s.sizes s.maps s.iterators

body_short : (b : Body) (p : Parts) → length b.literals < 2 ^ 32 → HasShortParts p → HasShortParts (with_body b p)
body_short b p e s = short_by s.entries s.args s.uses s.types s.results e s.offsets s.sizes s.maps s.iterators

places_more : (d : Side) (x : PlaceEntry) (p : Parts) → nat_lt (length (places_of d p)) most_entries ≡ true
    → HasShortParts p → HasShortParts (with_place d x p)
places_more Offsets x p e s = short_by s.entries s.args s.uses s.types s.results s.literals (one_more p.offsets x e)
    s.sizes s.maps s.iterators
places_more Sizes x p e s = short_by s.entries s.args s.uses s.types s.results s.literals s.offsets
    (one_more p.sizes x e) s.maps s.iterators

map_short : (m : AffineMap) (p : Parts) → HasShortParts p → HasShortParts (with_map m p)
map_short m p s = short_by s.entries s.args s.uses s.types s.results s.literals s.offsets s.sizes s.maps s.iterators

maps_more : (x : MapEntry) (p : Parts) → nat_lt (length p.maps) most_entries ≡ true → HasShortParts p
    → HasShortParts (with_maps x p)
maps_more x p e s = short_by s.entries s.args s.uses s.types s.results s.literals s.offsets s.sizes
    (one_more p.maps x e) s.iterators

iterators_more : (k : IteratorKind) (p : Parts) → nat_lt (length p.iterators) most_entries ≡ true → HasShortParts p
    → HasShortParts (with_iterator k p)
iterators_more k p e s = short_by s.entries s.args s.uses s.types s.results s.literals s.offsets s.sizes s.maps
    (one_more p.iterators k e)

-- what the machine of bodies adds
literals_more : (k : BodyAction) (hs : List (ℕ × Terminal)) (b : Body)
    → dense.room k (record { held = hs; body = b }) ≡ true → length b.literals < 2 ^ 32
    → length (dense.body_by k hs b).literals < 2 ^ 32
literals_more (dense.integer_is negative) [] b e s = s
literals_more (dense.integer_is negative) (x ∷ xs) b e s = one_more b.literals _ e
literals_more (dense.truth_is t) hs b e s = one_more b.literals _ e
literals_more (dense.shape_is extents) hs b e s = s

short_added : (k : Action) (hs : List (ℕ × Terminal)) (p : Parts) → room k (record { held = hs; parts = p }) ≡ true
    → HasShortParts p → HasShortParts (parts_by k hs p)
short_added argument_is hs p e s = of_first_has Any HasShortParts p _ s (λ x q. args_more _ p e s) hs (all_any hs)
short_added operand hs p e s = of_one_or_two_has Any HasShortParts p _ s (λ x k q. uses_more _ p e s) hs (all_any hs)
short_added (truth_is b) hs p e s =
    types_more (Scalar width.I1) (with_literal (literal.Truth b) p) e (literal_short (literal.Truth b) p s)
short_added type_is hs p e s = of_first_has Any HasShortParts p _ s (λ x q. types_more _ p e s) hs (all_any hs)
short_added (width_left_out w) hs p e s = types_more (Scalar w) p e s
short_added result_is hs p e s = of_first_has Any HasShortParts p _ s (λ x q. results_more _ p e s) hs (all_any hs)
short_added unit_entry hs p e s = of_first_has Any HasShortParts p _ s (λ x q. entries_more _ _ p e s) hs (all_any hs)
short_added (truth_entry b) hs p e s =
    of_first_has Any HasShortParts p _ s (λ x q. entries_more _ _ p e s) hs (all_any hs)
short_added text_entry hs p e s = of_two_has Any HasShortParts p _ s (λ x y q r. entries_more _ _ p e s) hs (all_any hs)
short_added (integer_entry negative w) hs p e s =
    of_two_has Any HasShortParts p _ s (λ x y q r. entries_more _ _ p e s) hs (all_any hs)
short_added (typed_entry negative) hs p e s =
    of_three_has Any HasShortParts p _ s (λ x y z q r. entries_more _ _ p e s) hs (all_any hs)
short_added elements_follow hs p e s =
    body_short dense.no_body (with_literal literal.Elements p) (omega arith) (literal_short literal.Elements p s)
short_added (dense_is k) hs p e s = body_short _ p (literals_more k hs p.dense e s.literals) s
short_added (place_is d negative) hs p e s =
    of_first_has Any HasShortParts p _ s (λ x q. places_more d _ p e s) hs (all_any hs)
short_added (place_given d) hs p e s = places_more d place.Value p e s
short_added dimension_is hs p e s = map_short _ p s
short_added gives_dimension hs p e s = of_first_has Any HasShortParts p _ s (λ x q. map_short _ p s) hs (all_any hs)
short_added map_is hs p e s = maps_more _ p e s
short_added alias_is hs p e s = of_first_has Any HasShortParts p _ s (λ x q. maps_more _ p e s) hs (all_any hs)
short_added (iterator_is k) hs p e s = iterators_more k p e s
short_added k [] p e s =
    short_by s.entries s.args s.uses s.types s.results s.literals s.offsets s.sizes s.maps s.iterators
short_added k (x ∷ []) p e s =
    short_by s.entries s.args s.uses s.types s.results s.literals s.offsets s.sizes s.maps s.iterators
short_added k (x ∷ (y ∷ [])) p e s =
    short_by s.entries s.args s.uses s.types s.results s.literals s.offsets s.sizes s.maps s.iterators
short_added k (x ∷ (y ∷ (z ∷ zs))) p e s =
    short_by s.entries s.args s.uses s.types s.results s.literals s.offsets s.sizes s.maps s.iterators

pub keeps_short : (all : List Token) → Keeps language all (λ k. true) (λ m. true) (λ n h. HasShortParts h.parts)
keeps_short all = record {
  ended = λ x h. no_end x (known h);
  confined = confined_all language;
  on = λ at h lt s. s;
  held = λ at h lt s. s;
  added = λ at k h o e s. short_added k h.held h.parts e s;
}

pub none_short : (r : Row) → HasShortParts (no_parts r)
none_short r =
    short_by (omega arith) (omega arith) (omega arith) (omega arith) (omega arith) (omega arith) (omega arith)
    (omega arith) (omega arith) (omega arith)
