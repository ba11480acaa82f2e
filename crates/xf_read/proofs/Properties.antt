-- The properties of slices, of linalg.generic and of dense constants that a text spells are bounded.
use Rattle.std.proofs.Common.{◌≡◌, ℕ, zero, suc, ◌+◌, ◌<◌, ◌≤◌, ◌^◌, Bool, true, false, List, length, drop, [], ◌∷◌}
use Rattle.std.proofs.Common.{Option, Some, None, refl, ap, subst, arith}
use Rattle.std.specs.Prelude.{if◌then◌else◌, map}
use Rattle.std.specs.List.{list_all}
use Rattle.std.specs.Prelude.{◌==◌}
use Rattle.std.proofs.lemmas.Bool.{and_parts, leb-true}
use Rattle.std.proofs.lemmas.List.{length-map, length-drop}
use Rattle.xf_lex.specs.declared.token.Token.{Token}
use Rattle.xf_grammar.specs.Tokens.{number_of}
use Rattle.xf_format.specs.declared.parts.Parts.{Parts}
use Rattle.xf_format.specs.declared.row.Row.{Row}
use Rattle.xf_format.specs.declared.row.Row.TheVariants as row
use Rattle.xf_format.specs.Columns as columns
use Rattle.xf_format.specs.Parts.{Said, said, place_said, map_said, LiteralSaid, truth, number, elements}
use Rattle.xf_format.specs.Parts.{PlaceSaid, place_number, place_value}
use Rattle.xf_format.specs.Short.{HasShortParts}
use Rattle.xf_ir.specs.Calls.{first_args}
use Rattle.xf_ir.specs.Kinds.{is_generic}
use Rattle.xf_ir.specs.Lists.{Each}
use Rattle.xf_ir.specs.Placed.{Placed, placed}
use Rattle.xf_syntax.specs.Telling.{SaidBodies, no_bodies_said, body_said, bodies_said}
use Rattle.xf_read_base.specs.Elements.{element_bits, one_or, shape_at, shortened}
use Rattle.xf_read_base.specs.Numbers.{signed}
use Rattle.xf_read_base.specs.Structured.{no_aliases, place_meant, window_meant, map_meant}
use Rattle.xf_read_base.specs.Values.{constant_said, kind_said}
use Rattle.xf_read.specs.declared.faults.Faults.{Faults}
use Rattle.xf_read.specs.Meant.{regions_said, meant}
use Rattle.xf_read.specs.Names.{inside, types_agree}
use Rattle.xf_read.specs.Scopes.{Meanings, no_names, use_value}
use Rattle.xf_read.specs.Short.{IsShortNumber, IsShortIndex, IsShortWindow, IsShortKind, HasShortProperties}
use Rattle.xf_read.specs.Short.{SpeltHasShortProperties}
use Rattle.xf_read.specs.Types.{argument_types, is_counted}
use Rattle.xf_read.proofs.Earlier.{none_earlier, unless}
use Rattle.xf_read.proofs.Everywhere.{Gives, all_placed, bodies_have}
use Rattle.xf_read.proofs.Texts.{text_kept}

-- ---- windows

short_signed : (negative : Bool) (n : ℕ) → n < 2 ^ 64 → IsShortNumber (signed negative n)
short_signed false n lt = lt
short_signed true zero lt = lt
short_signed true (suc n) lt = lt

place_short : (p : PlaceSaid) → IsShortIndex (place_meant p)
place_short (place_number negative digits) = short_signed negative (number_of digits) (omega arith)
place_short place_value = tt

places_short : (ps : List PlaceSaid) → Each IsShortIndex (window_meant ps)
places_short [] = tt
places_short (p ∷ ps) = (place_short p, places_short ps)

window_short : (ps : List PlaceSaid) → length ps < 2 ^ 32 → IsShortWindow (window_meant ps)
window_short ps lt = let e = length-map ps place_meant in (omega (arith, e, lt), places_short ps)

-- ---- dense constants

one_at_most : (b : Bool) (n : ℕ) (ns : List ℕ) → length (one_or (n ∷ ns) (if b then Some n else None)) ≤ suc (length ns)
one_at_most true n ns = omega arith
one_at_most false n ns = omega arith

shorter : (ns : List ℕ) → length (shortened ns) ≤ length ns
shorter [] = omega arith
shorter (n ∷ ns) = one_at_most (list_all (λ k. k == n) ns) n ns

constant_kind : (t : Said) (l : Option LiteralSaid) → length t.dense.literals < 2 ^ 32
    → IsShortKind (constant_said t.types t.dense l)
constant_kind t None lt = tt
constant_kind t (Some (truth b)) lt = tt
constant_kind t (Some (number negative digits)) lt = tt
constant_kind t (Some elements) lt =
    let bits = element_bits (shape_at t.types 0).elem in
    let e = length-map t.dense.literals bits in
    let le = shorter (map bits t.dense.literals) in
    omega (arith, e, le, lt)

-- ---- kinds

kind_is_short : (all : List Token) (r : Row) (p : Parts) → HasShortParts p
    → IsShortKind (kind_said no_aliases r (said all p))
kind_is_short all row.Constant p s =
    let t : Said = said all p in
    let e : length t.dense.literals ≡ length p.dense.literals = length-map p.dense.literals _ in
    let lt = s.literals in
    constant_kind t t.literal (omega (arith, e, lt))
kind_is_short all row.ExtractSlice p s =
    let a = length-map p.offsets (place_said all) in
    let b = length-map p.sizes (place_said all) in
    let c = s.offsets in
    let d = s.sizes in (
      window_short (map (place_said all) p.offsets) (omega (arith, a, c)),
      window_short (map (place_said all) p.sizes) (omega (arith, b, d)),
    )
kind_is_short all row.InsertSlice p s =
    let a = length-map p.offsets (place_said all) in
    let b = length-map p.sizes (place_said all) in
    let c = s.offsets in
    let d = s.sizes in (
      window_short (map (place_said all) p.offsets) (omega (arith, a, c)),
      window_short (map (place_said all) p.sizes) (omega (arith, b, d)),
    )
kind_is_short all row.Generic p s =
    let a = length-map (map (map_said all) p.maps) (map_meant no_aliases) in
    let b = length-map p.maps (map_said all) in
    let c = s.maps in
    (omega (arith, a, b, c), s.iterators)
kind_is_short all r p s = tt

-- ---- the types in the head of a linalg.generic

no_constant : (t : Said) (l : Option LiteralSaid) → is_generic (constant_said t.types t.dense l) ≡ true → ⊥
no_constant t None e = absurd (let z : false ≡ true = e in cc)
no_constant t (Some (truth b)) e = absurd (let z : false ≡ true = e in cc)
no_constant t (Some (number negative digits)) e = absurd (let z : false ≡ true = e in cc)
no_constant t (Some elements) e = absurd (let z : false ≡ true = e in cc)

module _ (n : ℕ) (scope : Meanings) (t : Said) where
  arguments_first : (bs : SaidBodies) → length (first_args (regions_said n t scope bs)) ≤ length (argument_types t)
  arguments_first no_bodies_said = omega arith
  arguments_first (body_said ns rest) = omega arith

  types_short : (bs : SaidBodies) (r : Row) → t.row ≡ r → length t.types < 2 ^ 32 → is_counted t ≡ true
      → is_generic (kind_said no_aliases r t) ≡ true
      → length t.uses + length (first_args (regions_said n t scope bs)) < 2 ^ 32
  types_short bs row.Generic e lt counted g =
      let c : columns.is_counted (columns.operand_count row.Generic) t.types t.results (length t.uses) ≡ true =
      subst (λ q. columns.is_counted (columns.operand_count q) t.types t.results (length t.uses) ≡ true) e counted in
      let le = leb-true (length t.uses) (length t.types) c in
      let a : argument_types t ≡ drop (length t.uses) t.types =
      ap (λ q. columns.types_taken (columns.argument_types q) (length t.uses) t.types t.results) e in
      let b = ap length a in
      let d = length-drop (length t.uses) t.types in
      let f = arguments_first bs in
      omega (arith, le, b, d, f, lt)
  types_short bs row.Constant e lt counted g = absurd (no_constant t t.literal g)
  types_short bs r e lt counted g = absurd (let z : false ≡ true = g in cc)

-- ---- texts

properties : (all : List Token) → Gives HasShortProperties all
properties all = record {
  head = λ n scope p bs s e. record {
    kind = kind_is_short all p.row p s;
    types = λ g.
        let t : Said = said all p in
        let m = length-map t.uses (use_value scope) in
        let lt = types_short (n + 1) (inside n t scope) t bs p.row refl s.types (and_parts _ _ (and_parts _ _ e).0).0 g in
        omega (arith, m, lt);
  };
  yield = λ n. record { kind = tt; types = λ g. absurd (let z : false ≡ true = g in cc) };
}

pub spelt_properties : SpeltHasShortProperties
spelt_properties bytes m s =
    let all = s.tokens in
    let p : Parts = s.file.root.parts in
    let w = text_kept all s.file s.is_text in
    let f = none_earlier _ _ (ap (λ (f : Faults). f.mismatch) s.no_fault) in
    let g = properties all in
    subst (λ x. Each (λ (q : Placed). HasShortProperties q.tree) (placed x)) s.means
    (all_placed HasShortProperties (meant all s.file)
    (g.head 0 no_names p (bodies_said all s.file.root.bodies) w.1.0.0
    (unless (types_agree (said all p) no_names) s.file.root.first f.0))
    (bodies_have HasShortProperties all g (suc (length all)) 1 p (inside 0 (said all p) no_names) s.file.root.bodies
    w.1.1.0 f.1))
