-- A module that a text spells has no list of 2 ^ 32 entries.
use Rattle.std.proofs.Common.{◌≡◌, ℕ, suc, ◌+◌, ◌<◌, ◌≤◌, ◌^◌, Bool, true, false, List, [], ◌∷◌, length, Option, Some}
use Rattle.std.proofs.Common.{None, refl, ap, subst, arith}
use Rattle.std.specs.Prelude.{if◌then◌else◌, map, option_map, slice_get}
use Rattle.std.specs.Cmp.Lexicographic.{slice_cmp}
use Rattle.std.specs.Ordering.{nat_cmp}
use Rattle.std.proofs.lemmas.Bool.{and_parts, eqb-true}
use Rattle.std.proofs.lemmas.List.{length-map}
use Rattle.xf_type.specs.declared.payload_type.PayloadType.{PayloadType}
use Rattle.xf_lex.specs.declared.token.Token.{Token}
use Rattle.xf_format.specs.declared.parts.Parts.{Parts}
use Rattle.xf_format.specs.declared.row.Row.{Row}
use Rattle.xf_format.specs.declared.row.Row.TheVariants as row
use Rattle.xf_format.specs.declared.columns.ResultTypes.{ResultTypes}
use Rattle.xf_format.specs.declared.columns.ResultTypes.TheVariants as given
use Rattle.xf_format.specs.Columns.{result_types, types_given, element_of}
use Rattle.xf_format.specs.Short.{HasShortParts}
use Rattle.xf_format.specs.Parts.{EntrySaid, use_said, entry_said, arg_said, Said, said, LiteralSaid, truth, number}
use Rattle.xf_format.specs.Parts.{elements}
use Rattle.xf_read_base.specs.Structured.{no_aliases}
use Rattle.xf_read_base.specs.Values.{attr_said, with_attr, with_said, constant_said, kind_said}
use Rattle.xf_ir.specs.declared.kind.Attr.{Attr}
use Rattle.xf_ir.specs.declared.kind.Kind.TheVariants as kind
use Rattle.xf_ir.specs.Bounds.{regions_length, blocks_of, HasShortLists, OpsShort, RegionsShort, ListsAreShort}
use Rattle.xf_ir.specs.Kinds.{returned_types}
use Rattle.xf_ir.specs.Lists.{Each}
use Rattle.xf_ir.specs.RuleBlocks.{block_args}
use Rattle.xf_ir.specs.Spots.{ops_length}
use Rattle.xf_ir.specs.Count.{ops_count, regions_count}
use Rattle.xf_ir.specs.Tree.{Ops, no_ops, op, Regions, no_regions, region}
use Rattle.xf_read.specs.declared.faults.Faults.{Faults}
use Rattle.xf_read.specs.Meant.{joined, lacks_yield, yield_said, ops_said, regions_said, tree_said}
use Rattle.xf_read.specs.Names.{op_name, inside, behind, types_agree, nodes_faults, bodies_faults}
use Rattle.xf_read.specs.Scopes.{Meanings, no_names, use_value}
use Rattle.xf_read.specs.Short.{SpeltIsShort}
use Rattle.xf_grammar.specs.Holding.{NodesHave, BodiesHave}
use Rattle.xf_syntax.specs.Telling.{Nodes, no_nodes, node, Bodies, no_bodies, body, nodes_said, bodies_said, left_out}
use Rattle.xf_syntax.specs.Telling.{operations, operations_inside}
use Rattle.xf_syntax.specs.Telling.{SaidNodes, SaidBodies, no_bodies_said, body_said}
use Rattle.xf_grammar.proofs.TreesNest.{bodies_number, NodesNest, BodiesNest}
use Rattle.xf_format.specs.Format.{most_open}
use Rattle.xf_read.specs.Types.{one_type, argument_types}
use Rattle.xf_read.proofs.Counting.{few_operations}
use Rattle.xf_read.proofs.Earlier.{none_earlier, unless}
use Rattle.xf_read.proofs.Limits.{regions_counted}
use Rattle.xf_format.proofs.OfKind.{Inside}
use Rattle.xf_read.proofs.ShortNames.{by_order, entries_short, symbol_short}
use Rattle.xf_read.proofs.Texts.{Kept, text_kept, text_nests}

-- ---- the lists of one operation

-- an attribute takes a place of its own, or that of one of its name
one_attr : (a : Attr) (xs : List Attr) → length (with_attr a xs) ≤ length xs + 1
one_attr a [] = omega arith
one_attr a (b ∷ bs) =
    let r = one_attr a bs in
    by_order (λ xs. length xs ≤ suc (length bs) + 1) (slice_cmp nat_cmp a.name b.name) _ _ _ (omega arith) (omega arith)
    (omega (arith, r))

entries_grow : (es : List EntrySaid) (xs : List Attr) → length (with_said es xs) ≤ length xs + length es
entries_grow [] xs = omega arith
entries_grow (e ∷ es) xs = let r = entries_grow es (with_attr (attr_said e) xs) in let o =
    one_attr (attr_said e) xs in omega (arith, r, o)

one_at_most : (t : Option PayloadType) → length (one_type t) ≤ 1
one_at_most None = omega arith
one_at_most (Some t) = omega arith

results_short : (r : ResultTypes) (types results : List PayloadType) → length types < 2 ^ 32 → length results < 2 ^ 32
    → length (types_given r types results) < 2 ^ 32
results_short given.Listed types results t s = s
results_short (given.Stated k) types results t s = let o = one_at_most (slice_get types k) in omega (arith, o)
results_short given.Element types results t s =
    let o = one_at_most (option_map element_of (slice_get types 0)) in omega (arith, o)
results_short r types results t s = omega arith

constant_returns : (t : Said) (l : Option LiteralSaid)
    → length (returned_types (constant_said t.types t.dense l)) < 2 ^ 32
constant_returns t None = omega arith
constant_returns t (Some (truth b)) = omega arith
constant_returns t (Some (number negative digits)) = omega arith
constant_returns t (Some elements) = omega arith

returned_short : (r : Row) (t : Said) → length t.results < 2 ^ 32 → length (returned_types (kind_said no_aliases r t)) < 2 ^ 32
returned_short row.Function t s = s
returned_short row.Constant t s = constant_returns t t.literal
returned_short r t s = omega arith

arguments_short : (n : ℕ) (t : Said) (scope : Meanings) (bs : SaidBodies) → length (argument_types t) < 2 ^ 32
    → Each (λ (ts : List PayloadType). length ts < 2 ^ 32) (block_args (regions_said n t scope bs))
arguments_short n t scope no_bodies_said lt = tt
arguments_short n t scope (body_said ns rest) lt = (
  lt,
  arguments_short (n + (operations ns + left_out t ns)) t scope
      rest lt,
)

-- there are as many names of arguments as types of them
agreed : (t : Said) (scope : Meanings) → types_agree t scope ≡ true → length t.args ≡ length (argument_types t)
agreed t scope e = eqb-true (length t.args) (length (argument_types t)) (and_parts _ _ (and_parts _ _ e).1).1

-- ---- regions and blocks

regions_long : (n : ℕ) (t : Said) (scope : Meanings) (bs : SaidBodies)
    → regions_length (regions_said n t scope bs) ≡ bodies_number bs
regions_long n t scope no_bodies_said = refl
regions_long n t scope (body_said ns rest) = let e = regions_long (n + (operations ns + left_out t ns)) t scope rest in
    omega (arith, e)

ops_long : (us : Ops) → ops_length us ≤ ops_count us
ops_long no_ops = omega arith
ops_long (op n k ds os ts rs rest) = let e = ops_long rest in omega (arith, e)

blocks_short : (rs : Regions) → regions_count rs < 2 ^ 32 → Each (λ ops. ops_length ops < 2 ^ 32) (blocks_of rs)
blocks_short no_regions lt = tt
blocks_short (region args ops rest) lt =
    let e = ops_long ops in (omega (arith, e, lt), blocks_short rest (omega (arith, lt)))

-- operation n of a text, where it agrees with its types
head_lists : (all : List Token) (n : ℕ) (scope : Meanings) (p : Parts) (bs : SaidBodies) → HasShortParts p
    → Inside all p → bodies_number bs ≤ 2 → operations_inside (said all p) bs < 2 ^ 32
    → types_agree (said all p) scope ≡ true
    → HasShortLists (tree_said n scope (said all p) bs)
head_lists all n scope p bs s i two few e =
    let t : Said = said all p in
    let k = entries_grow t.entries [] in
    let m : length t.entries ≡ length p.entries = length-map p.entries (entry_said all) in
    let le = s.entries in
    let u : length (map (use_value scope) t.uses) ≡ length t.uses = length-map t.uses (use_value scope) in
    let v : length t.uses ≡ length p.uses = length-map p.uses (use_said all) in
    let us = s.uses in
    let a = agreed t scope e in
    let b : length t.args ≡ length p.args = length-map p.args (arg_said all) in
    let names = s.args in
    let lt : length (argument_types t) < 2 ^ 32 = omega (arith, a, b, names) in
    record {
      attributes = omega (arith, k, m, le);
      names = entries_short all p.entries [] i.entries tt;
      operands = omega (arith, u, v, us);
      results = results_short (result_types p.row) p.types p.results s.types s.results;
      regions = let r = regions_long (n + 1) t (inside n t scope) bs in omega (arith, r, two);
      arguments = arguments_short (n + 1) t (inside n t scope) bs lt;
      blocks = let r = regions_counted (n + 1) t (inside n t scope) bs in
          blocks_short (regions_said (n + 1) t (inside n t scope) bs) (omega (arith, r, few));
      symbol = symbol_short all p.row p i;
      returned = returned_short p.row t s.results;
    }

-- ---- all operations

joined_short : (us vs : Ops) → OpsShort us → OpsShort vs → OpsShort (joined us vs)
joined_short no_ops vs s t = t
joined_short (op n k ds os ts rs rest) vs s t = (s.0, (s.1.0, joined_short rest vs s.1.1 t))

yield_short : (b : Bool) (n : ℕ) → OpsShort (if b then op (op_name n) kind.Yield [] [] [] no_regions no_ops else no_ops)
yield_short true n = (
  record {
    attributes = omega arith;
    names = tt;
    operands = omega arith;
    results =
        omega arith;
    regions = omega arith;
    arguments = tt;
    blocks = tt;
    symbol = tt;
    returned = omega arith;
  },
  (tt, tt),
)
yield_short false n = tt

mutual
  nodes_lists : (all : List Token) (m depth n : ℕ) (scope : Meanings) (ns : Nodes) → NodesHave m (Kept all) ns
      → NodesNest most_open 2 depth (nodes_said all ns) → operations (nodes_said all ns) < 2 ^ 32
      → (nodes_faults all n scope ns).mismatch ≡ None → OpsShort (ops_said n scope (nodes_said all ns))
  nodes_lists all m depth n scope no_nodes w two few e = tt
  nodes_lists all m depth n scope (node first p bs rest) w two few e =
      let t : Said = said all p in
      let inner : SaidBodies = bodies_said all bs in
      let f = none_earlier _ _ e in
      let g = none_earlier _ _ f.0 in (
        head_lists all n scope p inner w.1.0.0 w.1.0.1 two.0 (omega (arith, few))
            (unless (types_agree t scope) first g.0),
        (
          bodies_lists all m depth (n + 1) p (inside n t scope) bs w.1.1.0 two.1.0 (omega (arith, few)) g.1,
          nodes_lists all m depth (n + (1 + operations_inside t inner)) (behind n t scope) rest w.1.1.1 two.1.1
              (omega (arith, few)) f.1,
        ),
      )

  bodies_lists : (all : List Token) (m depth n : ℕ) (p : Parts) (scope : Meanings) (bs : Bodies)
      → BodiesHave m (Kept all) bs → BodiesNest most_open 2 depth (bodies_said all bs)
      → operations_inside (said all p) (bodies_said all bs) < 2 ^ 32 → (bodies_faults all n p scope bs).mismatch ≡ None
      → RegionsShort (regions_said n (said all p) scope (bodies_said all bs))
  bodies_lists all m depth n p scope no_bodies w two few e = tt
  bodies_lists all m depth n p scope (body ns close rest) w two few e =
      let t : Said = said all p in
      let inner : SaidNodes = nodes_said all ns in
      let f = none_earlier _ _ e in (
        joined_short (ops_said n scope inner) (yield_said t inner (n + operations inner))
            (nodes_lists all m (depth + 1) n scope ns w.0 two.1.0 (omega (arith, few)) f.0)
            (yield_short (lacks_yield t inner) (n + operations inner)),
        bodies_lists all m depth (n + (operations inner + left_out t inner)) p scope rest w.1.1 two.1.1
            (omega (arith, few)) f.1,
      )

-- ---- texts

pub spelt_is_short : SpeltIsShort
spelt_is_short bytes m s =
    let all = s.tokens in
    let p : Parts = s.file.root.parts in
    let bs : SaidBodies = bodies_said all s.file.root.bodies in
    let few = few_operations all s.file s.is_text in
    let w = text_kept all s.file s.is_text in
    let two = text_nests all s.file s.is_text in
    let f = none_earlier _ _ (ap (λ (f : Faults). f.mismatch) s.no_fault) in
    let count : operations_inside (said all p) bs < 2 ^ 32 = omega (arith, few) in
    subst ListsAreShort s.means (record {
      lists = head_lists all 0 no_names p bs w.1.0.0 w.1.0.1 two.0 count
          (unless (types_agree (said all p) no_names) s.file.root.first f.0);
      inside = bodies_lists all (suc (length all)) 0 1 p (inside 0 (said all p) no_names) s.file.root.bodies w.1.1.0
          two.1.0 count f.1;
    })
