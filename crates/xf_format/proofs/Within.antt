-- Each number in the parts of an operation is that of a token that was seen: once, by the actions.
use Rattle.std.proofs.Common.{ℕ, ◌+◌, ◌<◌, ◌≤◌, true, List, [], ◌∷◌, Option, Some, None, arith}
use Rattle.std.specs.Prelude.{All}
use Rattle.std.proofs.lemmas.List.Elements.{All-nil, All-head, All-push, All-weaker}
use Rattle.xf_lex.specs.declared.token.Token.{Token}
use Rattle.xf_grammar.specs.Tokens.{Terminal}
use Rattle.xf_grammar.proofs.Kept.{Keeps, confined_all}
use Rattle.xf_dense.specs.declared.body.Body.{Body}
use Rattle.xf_dense.specs.declared.body.Literal.{Literal as Element}
use Rattle.xf_dense.specs.declared.body.Literal.TheVariants as element
use Rattle.xf_dense.specs.Actions as dense
use Rattle.xf_dense.specs.Actions.{Action as BodyAction}
use Rattle.xf_format.specs.declared.parts.EntryValue.{EntryValue}
use Rattle.xf_format.specs.declared.parts.EntryValue.TheVariants as value
use Rattle.xf_format.specs.declared.parts.Literal.{Literal}
use Rattle.xf_format.specs.declared.parts.Literal.TheVariants as literal
use Rattle.xf_format.specs.declared.parts.MapEntry.{MapEntry}
use Rattle.xf_format.specs.declared.parts.MapEntry.TheVariants as map_entry
use Rattle.xf_format.specs.declared.parts.Parts.{Parts}
use Rattle.xf_format.specs.declared.parts.PlaceEntry.{PlaceEntry}
use Rattle.xf_format.specs.declared.parts.PlaceEntry.TheVariants as place
use Rattle.xf_format.specs.declared.parts.Ref.{Ref}
use Rattle.xf_format.specs.declared.parts.Use.{Use}
use Rattle.xf_format.specs.declared.row.Row.{Row}
use Rattle.xf_format.specs.declared.row.Side.{Side}
use Rattle.xf_format.specs.declared.row.Side.TheVariants.{Offsets, Sizes}
use Rattle.xf_format.specs.Actions.{Action, defines, argument_is, operand, symbol_is, literal_is, truth_is, unit_entry}
use Rattle.xf_format.specs.Actions.{truth_entry, text_entry, integer_entry, typed_entry, elements_follow, dense_is}
use Rattle.xf_format.specs.Actions.{place_is, place_given, map_is, alias_is, Reading, free, parts_by}
use Rattle.xf_format.specs.Parts.{no_parts, with_symbol, with_literal, with_entry, with_define, with_arg, with_use}
use Rattle.xf_format.specs.Parts.{with_body, with_place, with_maps}
use Rattle.xf_format.specs.Rules.{language}
use Rattle.xf_format.specs.Tests.{known}
use Rattle.xf_format.specs.Within.{RefWithin, UseWithin, SymbolWithin, LiteralWithin, ElementWithin, PlaceWithin}
use Rattle.xf_format.specs.Within.{MapWithin, ValueWithin, EntryWithin}
use Rattle.xf_format.specs.Within.{PartsWithin}
use Rattle.xf_format.proofs.Holding.{of_first_has, of_one_or_two_has, of_two_has, of_three_has}
use Rattle.xf_format.proofs.Lawful.{no_end}

abbrev pub HeldWithin : ℕ → ℕ × Terminal → Type 0
HeldWithin n x = x.0 < n

-- the tokens that are held, and the parts
pub record Within (n : ℕ) (h : Reading) : Type 0 where
  pub held : All (HeldWithin n) h.held
  pub parts : PartsWithin n h.parts

-- ---- further on

symbol_on : (m n : ℕ) (o : Option ℕ) → m ≤ n → SymbolWithin m o → SymbolWithin n o
symbol_on m n None le s = tt
symbol_on m n (Some at) le s = omega (arith, le, s)

literal_on : (m n : ℕ) (o : Option Literal) → m ≤ n → LiteralWithin m o → LiteralWithin n o
literal_on m n None le s = tt
literal_on m n (Some (literal.Truth b)) le s = tt
literal_on m n (Some (literal.Integer negative at)) le s = omega (arith, le, s)
literal_on m n (Some literal.Elements) le s = tt

element_on : (m n : ℕ) (e : Element) → m ≤ n → ElementWithin m e → ElementWithin n e
element_on m n (element.Truth b) le s = tt
element_on m n (element.Integer negative at) le s = omega (arith, le, s)

place_on : (m n : ℕ) (e : PlaceEntry) → m ≤ n → PlaceWithin m e → PlaceWithin n e
place_on m n (place.Number negative at) le s = omega (arith, le, s)
place_on m n place.Value le s = tt

map_on : (m n : ℕ) (e : MapEntry) → m ≤ n → MapWithin m e → MapWithin n e
map_on m n (map_entry.Written f) le s = tt
map_on m n (map_entry.Alias at) le s = omega (arith, le, s)

value_on : (m n : ℕ) (v : EntryValue) → m ≤ n → ValueWithin m v → ValueWithin n v
value_on m n value.Unit le s = tt
value_on m n (value.Truth b) le s = tt
value_on m n (value.Integer negative at width) le s = omega (arith, le, s)
value_on m n (value.Text at) le s = omega (arith, le, s)

pub parts_on : (m n : ℕ) (p : Parts) → m ≤ n → PartsWithin m p → PartsWithin n p
parts_on m n p le s = record {
  symbol = symbol_on m n p.symbol le s.symbol;
  literal = literal_on m n p.literal le s.literal;
  elements = All-weaker (ElementWithin m) (ElementWithin n) (λ e q. element_on m n e le q) p.dense.literals s.elements;
  offsets = All-weaker (PlaceWithin m) (PlaceWithin n) (λ e q. place_on m n e le q) p.offsets s.offsets;
  sizes = All-weaker (PlaceWithin m) (PlaceWithin n) (λ e q. place_on m n e le q) p.sizes s.sizes;
  maps = All-weaker (MapWithin m) (MapWithin n) (λ e q. map_on m n e le q) p.maps s.maps;
  entries = All-weaker (EntryWithin m) (EntryWithin n)
      (λ e q. (let a = q.0 in omega (arith, le, a), value_on m n e.value le q.1)) p.entries s.entries;
  defines = All-weaker (RefWithin m) (RefWithin n) (λ r q. omega (arith, le, q)) p.defines s.defines;
  args = All-weaker (RefWithin m) (RefWithin n) (λ r q. omega (arith, le, q)) p.args s.args;
  uses = All-weaker (UseWithin m) (UseWithin n) (λ u q. omega (arith, le, q)) p.uses s.uses;
}

module _ (n : ℕ) where
  on : (h : Reading) → Within n h → Within (n + 1) h
  on h s = record {
    held = All-weaker (HeldWithin n) (HeldWithin (n + 1)) (λ x q. omega (arith, q)) h.held s.held;
    parts = parts_on n (n + 1) h.parts (omega arith) s.parts;
  }

  pushed : (x : Terminal) (h : Reading) → Within n h → Within (n + 1) (language.push n x h)
  pushed x h s = let t = on h s in
      record { held = All-push (HeldWithin (n + 1)) h.held (n, x) t.held (omega arith); parts = t.parts }

  -- ---- one part more

  -- parts by all that is said of them
  parts_in : {p : Parts} → SymbolWithin n p.symbol → LiteralWithin n p.literal → All (ElementWithin n) p.dense.literals
      → All (PlaceWithin n) p.offsets → All (PlaceWithin n) p.sizes → All (MapWithin n) p.maps
      → All (EntryWithin n) p.entries → All (RefWithin n) p.defines → All (RefWithin n) p.args
      → All (UseWithin n) p.uses → PartsWithin n p
  parts_in s l b o z m e d a u = record {
    symbol = s;
    literal = l;
    elements = b;
    offsets = o;
    sizes = z;
    maps = m;
    entries = e;
    defines = d;
    args = a;
    uses = u;
  }

  symbol_in : (at : ℕ) (p : Parts) → at < n → PartsWithin n p → PartsWithin n (with_symbol at p)
  symbol_in at p lt s =
      parts_in lt s.literal s.elements s.offsets s.sizes s.maps s.entries s.defines s.args s.uses

  literal_in : (l : Literal) (p : Parts) → LiteralWithin n (Some l) → PartsWithin n p → PartsWithin n (with_literal l p)
  literal_in l p lt s =
      parts_in s.symbol lt s.elements s.offsets s.sizes s.maps s.entries s.defines s.args s.uses

  entry_in : (at : ℕ) (v : EntryValue) (p : Parts) → at < n → ValueWithin n v → PartsWithin n p
      → PartsWithin n (with_entry at v p)
  entry_in at v p lt q s =
      let more = All-push (EntryWithin n) p.entries (record { name = at; value = v }) s.entries (lt, q) in
      parts_in s.symbol s.literal s.elements s.offsets s.sizes s.maps more s.defines s.args s.uses

  define_in : (r : Ref) (p : Parts) → RefWithin n r → PartsWithin n p → PartsWithin n (with_define r p)
  define_in r p lt s =
      parts_in s.symbol s.literal s.elements s.offsets s.sizes s.maps s.entries
      (All-push (RefWithin n) p.defines r s.defines lt) s.args s.uses

  arg_in : (r : Ref) (p : Parts) → RefWithin n r → PartsWithin n p → PartsWithin n (with_arg r p)
  arg_in r p lt s =
      parts_in s.symbol s.literal s.elements s.offsets s.sizes s.maps s.entries s.defines
      (All-push (RefWithin n) p.args r s.args lt) s.uses

  use_in : (u : Use) (p : Parts) → UseWithin n u → PartsWithin n p → PartsWithin n (with_use u p)
  use_in u p lt s =
      parts_in s.symbol s.literal s.elements s.offsets s.sizes s.maps s.entries s.defines s.args
      (All-push (UseWithin n) p.uses u s.uses lt)

  body_in : (b : Body) (p : Parts) → All (ElementWithin n) b.literals → PartsWithin n p → PartsWithin n (with_body b p)
  body_in b p e s = parts_in s.symbol s.literal e s.offsets s.sizes s.maps s.entries s.defines s.args s.uses

  place_in : (d : Side) (e : PlaceEntry) (p : Parts) → PlaceWithin n e → PartsWithin n p
      → PartsWithin n (with_place d e p)
  place_in Offsets e p q s =
      parts_in s.symbol s.literal s.elements (All-push (PlaceWithin n) p.offsets e s.offsets q) s.sizes s.maps s.entries
      s.defines s.args s.uses
  place_in Sizes e p q s =
      parts_in s.symbol s.literal s.elements s.offsets (All-push (PlaceWithin n) p.sizes e s.sizes q) s.maps s.entries
      s.defines s.args s.uses

  maps_in : (e : MapEntry) (p : Parts) → MapWithin n e → PartsWithin n p → PartsWithin n (with_maps e p)
  maps_in e p q s =
      parts_in s.symbol s.literal s.elements s.offsets s.sizes (All-push (MapWithin n) p.maps e s.maps q) s.entries
      s.defines s.args s.uses

  -- ---- the actions

  elements_added : (k : BodyAction) (hs : List (ℕ × Terminal)) (b : Body) → All (HeldWithin n) hs
      → All (ElementWithin n) b.literals → All (ElementWithin n) (dense.body_by k hs b).literals
  elements_added (dense.integer_is negative) [] b q s = s
  elements_added (dense.integer_is negative) (x ∷ xs) b q s =
      All-push (ElementWithin n) b.literals (element.Integer negative x.0) s (All-head (HeldWithin n) x xs q)
  elements_added (dense.truth_is t) hs b q s = All-push (ElementWithin n) b.literals (element.Truth t) s tt
  elements_added (dense.shape_is extents) hs b q s = s

  within_added : (k : Action) (hs : List (ℕ × Terminal)) (p : Parts) → All (HeldWithin n) hs → PartsWithin n p
      → PartsWithin n (parts_by k hs p)
  within_added defines hs p q s =
      of_one_or_two_has (HeldWithin n) (PartsWithin n) p _ s (λ x k a. define_in _ p a s) hs q
  within_added argument_is hs p q s = of_first_has (HeldWithin n) (PartsWithin n) p _ s (λ x a. arg_in _ p a s) hs q
  within_added operand hs p q s = of_one_or_two_has (HeldWithin n) (PartsWithin n) p _ s (λ x k a. use_in _ p a s) hs q
  within_added symbol_is hs p q s = of_first_has (HeldWithin n) (PartsWithin n) p _ s (λ x a. symbol_in x.0 p a s) hs q
  within_added (literal_is negative) hs p q s =
      of_first_has (HeldWithin n) (PartsWithin n) p _ s (λ x a. literal_in _ p a s) hs q
  within_added unit_entry hs p q s =
      of_first_has (HeldWithin n) (PartsWithin n) p _ s (λ x a. entry_in x.0 value.Unit p a tt s) hs q
  within_added (truth_entry b) hs p q s =
      of_first_has (HeldWithin n) (PartsWithin n) p _ s (λ x a. entry_in x.0 (value.Truth b) p a tt s) hs q
  within_added text_entry hs p q s =
      of_two_has (HeldWithin n) (PartsWithin n) p _ s (λ x y a b. entry_in x.0 (value.Text y.0) p a b s) hs q
  within_added (integer_entry negative w) hs p q s =
      of_two_has (HeldWithin n) (PartsWithin n) p _ s (λ x y a b. entry_in x.0 _ p a b s) hs q
  within_added (typed_entry negative) hs p q s =
      of_three_has (HeldWithin n) (PartsWithin n) p _ s (λ x y z a b. entry_in x.0 _ p a b s) hs q
  within_added (truth_is b) hs p q s =
      parts_in s.symbol tt s.elements s.offsets s.sizes s.maps s.entries s.defines s.args s.uses
  within_added elements_follow hs p q s =
      body_in dense.no_body (with_literal literal.Elements p) (All-nil (ElementWithin n))
      (literal_in literal.Elements p tt s)
  within_added (dense_is k) hs p q s = body_in _ p (elements_added k hs p.dense q s.elements) s
  within_added (place_is d negative) hs p q s =
      of_first_has (HeldWithin n) (PartsWithin n) p _ s (λ x a. place_in d _ p a s) hs q
  within_added (place_given d) hs p q s = place_in d place.Value p tt s
  within_added map_is hs p q s = maps_in _ p tt s
  within_added alias_is hs p q s = of_first_has (HeldWithin n) (PartsWithin n) p _ s (λ x a. maps_in _ p a s) hs q
  within_added k [] p q s =
      parts_in s.symbol s.literal s.elements s.offsets s.sizes s.maps s.entries s.defines s.args s.uses
  within_added k (x ∷ []) p q s =
      parts_in s.symbol s.literal s.elements s.offsets s.sizes s.maps s.entries s.defines s.args s.uses
  within_added k (x ∷ (y ∷ [])) p q s =
      parts_in s.symbol s.literal s.elements s.offsets s.sizes s.maps s.entries s.defines s.args s.uses
  within_added k (x ∷ (y ∷ (z ∷ zs))) p q s =
      parts_in s.symbol s.literal s.elements s.offsets s.sizes s.maps s.entries s.defines s.args s.uses

  pub none_within : (r : Row) → Within n (free (no_parts r))
  none_within r = record {
    held = All-nil (HeldWithin n);
    parts = parts_in tt tt (All-nil (ElementWithin n)) (All-nil (PlaceWithin n)) (All-nil (PlaceWithin n))
        (All-nil (MapWithin n)) (All-nil (EntryWithin n)) (All-nil (RefWithin n)) (All-nil (RefWithin n))
        (All-nil (UseWithin n));
  }

pub keeps_within : (all : List Token) → Keeps language all (λ k. true) (λ m. true) Within
keeps_within all = record {
  ended = λ x h. no_end x (known h);
  confined = confined_all language;
  on = λ at h lt s. on at h s;
  held = λ at h lt s. pushed at _ h s;
  added = λ at k h o e s. record
      { held = All-nil (HeldWithin at); parts = within_added at k h.held h.parts s.held s.parts };
}
