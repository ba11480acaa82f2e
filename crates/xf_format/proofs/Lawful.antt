-- The two sides of the actions agree: once, by the actions.
use Rattle.std.proofs.Common.{◌≡◌, ℕ, true, false, List, [], ◌∷◌, ◌++◌, length, Option, Some, None, refl, sym, ap, ◌∙◌}
use Rattle.std.specs.Prelude.{map, option_map, nat_lt, All}
use Rattle.std.proofs.lemmas.List.{map-append, length-map}
use Rattle.std.proofs.lemmas.List.Elements.{All-nil, All-head, All-tail, All-push}
use Rattle.xf_lex.specs.declared.token.Token.{Token}
use Rattle.xf_type.specs.Limits.{most_entries}
use Rattle.xf_grammar.specs.Tokens.{Terminal, the_end, terminal_at}
use Rattle.xf_grammar.specs.Grammar.{Lawful}
use Rattle.xf_dense.specs.declared.body.Literal.{Literal as Element}
use Rattle.xf_dense.specs.declared.body.Literal.TheVariants as element
use Rattle.xf_dense.specs.Actions.{literal_said as element_said, Says as BodySays}
use Rattle.xf_dense.specs.Fits.{is_truth, says_truth}
use Rattle.xf_dense.proofs.Lawful.{acted as body_acted, roomy as body_roomy}
use Rattle.xf_format.specs.declared.parts.EntryValue.{EntryValue}
use Rattle.xf_format.specs.declared.parts.EntryValue.TheVariants as value
use Rattle.xf_format.specs.declared.parts.MapEntry.{MapEntry}
use Rattle.xf_format.specs.declared.parts.MapEntry.TheVariants as map_entry
use Rattle.xf_format.specs.declared.parts.Parts.{Parts}
use Rattle.xf_format.specs.declared.parts.PlaceEntry.{PlaceEntry}
use Rattle.xf_format.specs.declared.parts.PlaceEntry.TheVariants as place
use Rattle.xf_format.specs.declared.parts.Ref.{Ref}
use Rattle.xf_format.specs.declared.parts.Use.{Use}
use Rattle.xf_format.specs.declared.row.Level.{Level}
use Rattle.xf_format.specs.declared.row.Level.TheVariants as level
use Rattle.xf_format.specs.declared.row.Side.{Side}
use Rattle.xf_format.specs.declared.row.Side.TheVariants.{Offsets, Sizes}
use Rattle.xf_format.specs.Actions.{Action, begins, defines, argument_is, operand, symbol_is, private_is, predicate_is}
use Rattle.xf_format.specs.Actions.{literal_is, truth_is, type_is, width_left_out, result_is, unit_entry, truth_entry}
use Rattle.xf_format.specs.Actions.{text_entry, integer_entry, typed_entry, elements_follow, dense_is, place_is}
use Rattle.xf_format.specs.Actions.{place_given, dimension_is, gives_dimension, map_is, alias_is, iterator_is, of_first}
use Rattle.xf_format.specs.Actions.{places_of, places_said, body_read, body_told}
use Rattle.xf_format.specs.Actions.{of_one_or_two, of_two, of_three, Reading, Saying, count_in, one_or, parts_by}
use Rattle.xf_format.specs.Actions.{said_by, add, tell, room, space, IsHeld, Says}
use Rattle.xf_format.specs.Parts.{ref, use_of, with_entry, with_define, with_arg, with_use, text_of, text_at, number}
use Rattle.xf_format.specs.Parts.{no_value, truth_value, number_value, text_value, Said, said, entry_said, value_said}
use Rattle.xf_format.specs.Parts.{define_said, arg_said, use_said, says_symbol, says_literal, says_entry, says_define}
use Rattle.xf_format.specs.Parts.{says_arg, says_use, no_map, with_place, with_maps, place_said, map_said, says_body}
use Rattle.xf_format.specs.Parts.{says_place, says_maps, place_number, alias_of}
use Rattle.xf_format.specs.Rules.{language}
use Rattle.xf_format.specs.Tests.{Test, a_result, tested, Known, known, known_said}
use Rattle.xf_format.specs.Words.{width_meant}

-- ---- tests

no_result : (l : Level) (hs : Known) → tested (a_result l) the_end hs ≡ false
no_result level.File hs = refl
no_result level.Functions hs = refl
no_result level.Body hs = refl
no_result level.Any hs = refl

pub no_end : (x : Test) (s : Known) → tested x the_end s ≡ false
no_end (a_result l) s = no_result l s
no_end x s = refl

-- ---- what is held, on both sides

abbrev Held : Type 0
Held = ℕ × Terminal

module _ (all : List Token) where
  first_says : {C D : Type 0} (view : C → D) (f : Held → C) (g : Terminal → D) (c : C)
      → ((x : Held) → IsHeld all x → view (f x) ≡ g x.1) → (hs : List Held) → All (IsHeld all) hs
      → view (of_first hs c f) ≡ of_first (map (λ x. x.1) hs) (view c) g
  first_says view f g c e [] s = refl
  first_says view f g c e (x ∷ xs) s = e x (All-head (IsHeld all) x xs s)

  one_or_two_says : {C D : Type 0} (view : C → D) (f : Held → Option Held → C) (g : Terminal → Option Terminal → D)
      (c : C) → ((x : Held) (k : Option Held) → IsHeld all x → view (f x k) ≡ g x.1 (option_map (λ y. y.1) k))
      → (hs : List Held) → All (IsHeld all) hs
      → view (of_one_or_two hs c f) ≡ of_one_or_two (map (λ x. x.1) hs) (view c) g
  one_or_two_says view f g c e [] s = refl
  one_or_two_says view f g c e (x ∷ []) s = e x None (All-head (IsHeld all) x [] s)
  one_or_two_says view f g c e (x ∷ (y ∷ ys)) s = e x (Some y) (All-head (IsHeld all) x (y ∷ ys) s)

  two_says : {C D : Type 0} (view : C → D) (f : Held → Held → C) (g : Terminal → Terminal → D) (c : C)
      → ((x y : Held) → IsHeld all x → IsHeld all y → view (f x y) ≡ g x.1 y.1) → (hs : List Held) → All (IsHeld all) hs
      → view (of_two hs c f) ≡ of_two (map (λ x. x.1) hs) (view c) g
  two_says view f g c e [] s = refl
  two_says view f g c e (x ∷ []) s = refl
  two_says view f g c e (x ∷ (y ∷ ys)) s =
      e x y (All-head (IsHeld all) x (y ∷ ys) s) (All-head (IsHeld all) y ys (All-tail (IsHeld all) x (y ∷ ys) s))

  three_says : {C D : Type 0} (view : C → D) (f : Held → Held → Held → C) (g : Terminal → Terminal → Terminal → D)
      (c : C) → ((x y z : Held) → IsHeld all x → IsHeld all y → view (f x y z) ≡ g x.1 y.1 z.1) → (hs : List Held)
      → All (IsHeld all) hs → view (of_three hs c f) ≡ of_three (map (λ x. x.1) hs) (view c) g
  three_says view f g c e [] s = refl
  three_says view f g c e (x ∷ []) s = refl
  three_says view f g c e (x ∷ (y ∷ [])) s = refl
  three_says view f g c e (x ∷ (y ∷ (z ∷ zs))) s =
      e x y z (All-head (IsHeld all) x (y ∷ (z ∷ zs)) s)
      (All-head (IsHeld all) y (z ∷ zs) (All-tail (IsHeld all) x (y ∷ (z ∷ zs)) s))

  -- ---- what the parts say, where one is more

  entry_says : (n : ℕ) (v : EntryValue) (p : Parts)
      → said all (with_entry n v p) ≡ says_entry (text_at all n) (value_said all v) (said all p)
  entry_says n v p = ap (λ xs. let t : Said = record (said all p) { entries = xs } in t)
      (map-append (entry_said all) p.entries ((record { name = n; value = v }) ∷ []))

  define_says : (r : Ref) (p : Parts)
      → said all (with_define r p) ≡ says_define (text_at all r.token) r.count (said all p)
  define_says r p = ap (λ xs. let t : Said = record (said all p) { defines = xs } in t)
      (map-append (define_said all) p.defines (r ∷ []))

  arg_says : (r : Ref) (p : Parts) → said all (with_arg r p) ≡ says_arg (text_at all r.token) (said all p)
  arg_says r p = ap (λ xs. let t : Said = record (said all p) { args = xs } in t)
      (map-append (arg_said all) p.args (r ∷ []))

  use_says : (u : Use) (p : Parts) → said all (with_use u p) ≡ says_use (text_at all u.token) u.number (said all p)
  use_says u p = ap (λ xs. let t : Said = record (said all p) { uses = xs } in t)
      (map-append (use_said all) p.uses (u ∷ []))

  place_says : (d : Side) (e : PlaceEntry) (p : Parts)
      → said all (with_place d e p) ≡ says_place d (place_said all e) (said all p)
  place_says Offsets e p = ap (λ xs. let t : Said = record (said all p) { offsets = xs } in t)
      (map-append (place_said all) p.offsets (e ∷ []))
  place_says Sizes e p = ap (λ xs. let t : Said = record (said all p) { sizes = xs } in t)
      (map-append (place_said all) p.sizes (e ∷ []))

  maps_says : (e : MapEntry) (p : Parts) → said all (with_maps e p) ≡ says_maps (map_said all e) (said all p)
  maps_says e p = ap (λ xs. let t : Said = record (said all p) { maps = xs; map = no_map } in t)
      (map-append (map_said all) p.maps (e ∷ []))

  -- ---- the actions

  acted : (k : Action) (hs : List Held) (p : Parts) → All (IsHeld all) hs
      → said all (parts_by k hs p) ≡ said_by k (map (λ x. x.1) hs) (said all p)
  acted begins hs p s = first_says (said all) _ _ p (λ x q. refl) hs s
  acted defines hs p s =
      one_or_two_says (said all) _ _ p (λ x k q. define_says (ref x.0 (one_or (count_in (option_map (λ y. y.1) k)))) p
      ∙ ap (λ y. says_define (text_of y) (one_or (count_in (option_map (λ y. y.1) k))) (said all p)) q) hs s
  acted argument_is hs p s =
      first_says (said all) _ _ p (λ x q. arg_says (ref x.0 1) p ∙ ap (λ y. says_arg (text_of y) (said all p)) q) hs s
  acted operand hs p s =
      one_or_two_says (said all) _ _ p (λ x k q. use_says (use_of x.0 (count_in (option_map (λ y. y.1) k))) p
      ∙ ap (λ y. says_use (text_of y) (count_in (option_map (λ y. y.1) k)) (said all p)) q) hs s
  acted symbol_is hs p s = first_says (said all) _ _ p (λ x q. ap (λ y. says_symbol (text_of y) (said all p)) q) hs s
  acted private_is hs p s = refl
  acted predicate_is hs p s = first_says (said all) _ _ p (λ x q. refl) hs s
  acted (literal_is negative) hs p s =
      first_says (said all) _ _ p (λ x q. ap (λ y. says_literal (number negative (text_of y)) (said all p)) q) hs s
  acted (truth_is b) hs p s = refl
  acted type_is hs p s = first_says (said all) _ _ p (λ x q. refl) hs s
  acted (width_left_out w) hs p s = refl
  acted result_is hs p s = first_says (said all) _ _ p (λ x q. refl) hs s
  acted unit_entry hs p s =
      first_says (said all) _ _ p (λ x q. entry_says x.0 value.Unit p
      ∙ ap (λ y. says_entry (text_of y) no_value (said all p)) q) hs s
  acted (truth_entry b) hs p s =
      first_says (said all) _ _ p (λ x q. entry_says x.0 (value.Truth b) p
      ∙ ap (λ y. says_entry (text_of y) (truth_value b) (said all p)) q) hs s
  acted text_entry hs p s =
      two_says (said all) _ _ p (λ x y q r. entry_says x.0 (value.Text y.0) p
      ∙ (ap (λ z. says_entry (text_of z) (text_value (text_at all y.0)) (said all p)) q
      ∙ ap (λ z. says_entry (text_of x.1) (text_value (text_of z)) (said all p)) r)) hs s
  acted (integer_entry negative w) hs p s =
      two_says (said all) _ _ p (λ x y q r. entry_says x.0 (value.Integer negative y.0 w) p
      ∙ (ap (λ z. says_entry (text_of z) (number_value negative (text_at all y.0) w) (said all p)) q
      ∙ ap (λ z. says_entry (text_of x.1) (number_value negative (text_of z) w) (said all p)) r)) hs s
  acted (typed_entry negative) hs p s =
      three_says (said all) _ _ p (λ x y z q r. entry_says x.0 (value.Integer negative y.0 (width_meant z.1)) p
      ∙ (ap (λ c. says_entry (text_of c) (number_value negative (text_at all y.0) (width_meant z.1)) (said all p)) q
      ∙ ap (λ c. says_entry (text_of x.1) (number_value negative (text_of c) (width_meant z.1)) (said all p)) r)) hs s
  acted elements_follow hs p s = refl
  acted (dense_is k) hs p s = ap (λ b. says_body b (said all p)) (body_acted all k hs p.dense s)
  acted (place_is d negative) hs p s =
      first_says (said all) _ _ p (λ x q. place_says d (place.Number negative x.0) p
      ∙ ap (λ y. says_place d (place_number negative (text_of y)) (said all p)) q) hs s
  acted (place_given d) hs p s = place_says d place.Value p
  acted dimension_is hs p s = refl
  acted gives_dimension hs p s = first_says (said all) _ _ p (λ x q. refl) hs s
  acted map_is hs p s = maps_says (map_entry.Written p.map) p
  acted alias_is hs p s =
      first_says (said all) _ _ p (λ x q. maps_says (map_entry.Alias x.0) p
      ∙ ap (λ y. says_maps (alias_of (text_of y)) (said all p)) q) hs s
  acted (iterator_is k) hs p s = refl

  added : (k : Action) (h : Reading) (t : Saying) → Says all h t → Says all (add k h) (tell k t)
  added k h t s = record {
    tokens = All-nil (IsHeld all);
    held = refl;
    parts = acted k h.held h.parts s.tokens
        ∙ (ap (λ hs. said_by k hs (said all h.parts)) s.held ∙ ap (said_by k t.held) s.parts);
  }

  -- ---- room

  as_long : {A B : Type 0} (f : A → B) (xs : List A) (of : Said → List B) (s t : Said) → of s ≡ map f xs → s ≡ t
      → length xs ≡ length (of t)
  as_long f xs of s t e q = sym (length-map xs f) ∙ (ap length (sym e) ∙ ap (λ u. length (of u)) q)

  below_most : (m n : ℕ) → m ≡ n → nat_lt m most_entries ≡ nat_lt n most_entries
  below_most m n e = ap (λ k. nat_lt k most_entries) e

  args_room : (h : Reading) (t : Saying) → Says all h t
      → nat_lt (length h.parts.args) most_entries ≡ nat_lt (length t.said.args) most_entries
  args_room h t s = below_most _ _
      (as_long (arg_said all) h.parts.args (λ u. u.args) (said all h.parts) t.said refl s.parts)

  uses_room : (h : Reading) (t : Saying) → Says all h t
      → nat_lt (length h.parts.uses) most_entries ≡ nat_lt (length t.said.uses) most_entries
  uses_room h t s = below_most _ _
      (as_long (use_said all) h.parts.uses (λ u. u.uses) (said all h.parts) t.said refl s.parts)

  types_room : (h : Reading) (t : Saying) → Says all h t
      → nat_lt (length h.parts.types) most_entries ≡ nat_lt (length t.said.types) most_entries
  types_room h t s = below_most _ _ (ap (λ u. length u.types) s.parts)

  results_room : (h : Reading) (t : Saying) → Says all h t
      → nat_lt (length h.parts.results) most_entries ≡ nat_lt (length t.said.results) most_entries
  results_room h t s = below_most _ _ (ap (λ u. length u.results) s.parts)

  entries_room : (h : Reading) (t : Saying) → Says all h t
      → nat_lt (length h.parts.entries) most_entries ≡ nat_lt (length t.said.entries) most_entries
  entries_room h t s = below_most _ _
      (as_long (entry_said all) h.parts.entries (λ u. u.entries) (said all h.parts) t.said refl s.parts)

  places_room : (d : Side) (h : Reading) (t : Saying) → Says all h t
      → nat_lt (length (places_of d h.parts)) most_entries ≡ nat_lt (length (places_said d t.said)) most_entries
  places_room Offsets h t s = below_most _ _
      (as_long (place_said all) h.parts.offsets (λ u. u.offsets) (said all h.parts) t.said refl s.parts)
  places_room Sizes h t s = below_most _ _
      (as_long (place_said all) h.parts.sizes (λ u. u.sizes) (said all h.parts) t.said refl s.parts)

  maps_room : (h : Reading) (t : Saying) → Says all h t
      → nat_lt (length h.parts.maps) most_entries ≡ nat_lt (length t.said.maps) most_entries
  maps_room h t s = below_most _ _
      (as_long (map_said all) h.parts.maps (λ u. u.maps) (said all h.parts) t.said refl s.parts)

  -- the body of what says so
  body_says : (h : Reading) (t : Saying) → Says all h t → BodySays all (body_read h) (body_told t)
  body_says h t s = record { tokens = s.tokens; held = s.held; body = ap (λ u. u.dense) s.parts }

  roomy : (k : Action) (h : Reading) (t : Saying) → Says all h t → room k h ≡ space k t
  roomy argument_is h t s = args_room h t s
  roomy operand h t s = uses_room h t s
  roomy (truth_is b) h t s = types_room h t s
  roomy type_is h t s = types_room h t s
  roomy (width_left_out w) h t s = types_room h t s
  roomy result_is h t s = results_room h t s
  roomy unit_entry h t s = entries_room h t s
  roomy (truth_entry b) h t s = entries_room h t s
  roomy text_entry h t s = entries_room h t s
  roomy (integer_entry negative w) h t s = entries_room h t s
  roomy (typed_entry negative) h t s = entries_room h t s
  roomy (dense_is k) h t s = body_roomy all k (body_read h) (body_told t) (body_says h t s)
  roomy (place_is d negative) h t s = places_room d h t s
  roomy (place_given d) h t s = places_room d h t s
  roomy dimension_is h t s = ap (λ u. nat_lt u.map.dims most_entries) s.parts
  roomy gives_dimension h t s = ap (λ u. nat_lt (length u.map.results) most_entries) s.parts
  roomy map_is h t s = maps_room h t s
  roomy alias_is h t s = maps_room h t s
  roomy (iterator_is k) h t s = ap (λ u. nat_lt (length u.iterators) most_entries) s.parts
  roomy k h t s = refl

  pushed : (h : Reading) (t : Saying) (at : ℕ) → Says all h t
      → Says all (language.push at (terminal_at all at) h) (language.hold (terminal_at all at) t)
  pushed h t at s = record {
    tokens = All-push (IsHeld all) h.held (at, terminal_at all at) s.tokens refl;
    held = map-append (λ (x : Held). x.1) h.held ((at, terminal_at all at) ∷ [])
        ∙ ap (λ hs. hs ++ terminal_at all at ∷ []) s.held;
    parts = s.parts;
  }

  -- ---- what is known

  same_truths : (ls : List Element) → map is_truth ls ≡ map says_truth (map (element_said all) ls)
  same_truths [] = refl
  same_truths (element.Truth b ∷ ls) = ap (λ bs. true ∷ bs) (same_truths ls)
  same_truths (element.Integer negative at ∷ ls) = ap (λ bs. false ∷ bs) (same_truths ls)

  same_known : (h : Reading) (t : Saying) → Says all h t → known h ≡ known_said t
  same_known h t s =
      ap (λ bs. let k : Known = record (known h) { truths = bs } in k) (same_truths h.parts.dense.literals)
      ∙ (ap (λ hs. known_said (record { held = hs; said = said all h.parts })) s.held
      ∙ ap (λ u. known_said (record { held = t.held; said = u })) s.parts)

  pub lawful : Lawful language all (Says all)
  lawful = record {
    ended = λ x h. no_end x (known h);
    pushed = pushed;
    added = added;
    roomy = roomy;
    tested = λ x y h t s. ap (tested x y) (same_known h t s);
  }
