-- A module that a text spells is within the limits of payloads.
use Rattle.std.proofs.Common.{◌≡◌, ℕ, ◌+◌, Bool, true, false, List, refl, subst, arith}
use Rattle.std.specs.Prelude.{if◌then◌else◌}
use Rattle.xf_lex.specs.declared.token.Token.{Token}
use Rattle.xf_ir.specs.Count.{ops_count, regions_count}
use Rattle.xf_ir.specs.Limits.{OpsNest, RegionsNest, IsWithinLimits}
use Rattle.xf_ir.specs.Tree.{Ops, no_ops, op, cons}
use Rattle.xf_syntax.specs.declared.tree.File.{File}
use Rattle.xf_syntax.specs.Laws.{IsText}
use Rattle.xf_syntax.specs.Telling.{SaidNodes, no_nodes_said, node_said, SaidBodies, no_bodies_said, body_said}
use Rattle.xf_syntax.specs.Telling.{bodies_said, left_out, operations, operations_inside}
use Rattle.xf_read.specs.Meant.{joined, lacks_yield, yield_said, yield_tree, ops_said, regions_said, meant}
use Rattle.xf_read.specs.Names.{inside, behind}
use Rattle.xf_read.specs.Scopes.{Meanings, no_names}
use Rattle.xf_read.specs.Short.{SpeltIsWithinLimits}
use Rattle.xf_grammar.proofs.TreesNest.{NodesNest, BodiesNest}
use Rattle.xf_format.specs.Format.{most_open}
use Rattle.xf_format.specs.Parts.{Said, said}
use Rattle.xf_read.proofs.Counting.{few_operations}
use Rattle.xf_read.proofs.Texts.{text_nests}

-- ---- nesting

joined_nest : (depth : ℕ) (us vs : Ops) → OpsNest depth us → OpsNest depth vs → OpsNest depth (joined us vs)
joined_nest depth no_ops vs p q = q
joined_nest depth (op n k ds os ts rs rest) vs p q = (p.0, joined_nest depth rest vs p.1 q)

yield_nests : (b : Bool) (n depth : ℕ) → OpsNest depth (if b then cons (yield_tree n) no_ops else no_ops)
yield_nests true n depth = (tt, tt)
yield_nests false n depth = tt

mutual
  ops_nest : (n : ℕ) (scope : Meanings) (ns : SaidNodes) (depth : ℕ) → NodesNest most_open 2 depth ns
      → OpsNest depth (ops_said n scope ns)
  ops_nest n scope no_nodes_said depth h = tt
  ops_nest n scope (node_said t bs rest) depth h = (
    regions_nest (n + 1) t (inside n t scope) bs depth h.1.0,
    ops_nest (n + (1 + operations_inside t bs))
        (behind n t scope) rest depth h.1.1,
  )

  regions_nest : (n : ℕ) (t : Said) (scope : Meanings) (bs : SaidBodies) (depth : ℕ) → BodiesNest most_open 2 depth bs
      → RegionsNest depth (regions_said n t scope bs)
  regions_nest n t scope no_bodies_said depth h = tt
  regions_nest n t scope (body_said ns rest) depth h = (
    h.0,
    (
      joined_nest (depth + 1) (ops_said n scope ns) (yield_said t ns (n + operations ns))
          (ops_nest n scope ns (depth + 1) h.1.0) (yield_nests (lacks_yield t ns) (n + operations ns) (depth + 1)),
      regions_nest (n + (operations ns + left_out t ns)) t scope rest depth h.1.1,
    ),
  )

-- ---- the number of operations

joined_count : (us vs : Ops) → ops_count (joined us vs) ≡ ops_count us + ops_count vs
joined_count no_ops vs = omega arith
joined_count (op n k ds os ts rs rest) vs = let e = joined_count rest vs in omega (arith, e)

left_count : (b : Bool) (n : ℕ) → ops_count (if b then cons (yield_tree n) no_ops else no_ops) ≡ (if b then 1 else 0)
left_count true n = refl
left_count false n = refl

mutual
  ops_counted : (n : ℕ) (scope : Meanings) (ns : SaidNodes) → ops_count (ops_said n scope ns) ≡ operations ns
  ops_counted n scope no_nodes_said = refl
  ops_counted n scope (node_said t bs rest) =
      let a = regions_counted (n + 1) t (inside n t scope) bs in
      let b = ops_counted (n + (1 + operations_inside t bs)) (behind n t scope) rest in
      omega (arith, a, b)

  pub regions_counted : (n : ℕ) (t : Said) (scope : Meanings) (bs : SaidBodies)
      → regions_count (regions_said n t scope bs) ≡ operations_inside t bs
  regions_counted n t scope no_bodies_said = refl
  regions_counted n t scope (body_said ns rest) =
      let a = ops_counted n scope ns in
      let b = left_count (lacks_yield t ns) (n + operations ns) in
      let c = joined_count (ops_said n scope ns) (yield_said t ns (n + operations ns)) in
      let d = regions_counted (n + (operations ns + left_out t ns)) t scope rest in
      omega (arith, a, b, c, d)

-- ---- texts

text_within : (all : List Token) (file : File) → IsText all file → IsWithinLimits (meant all file)
text_within all file text =
    let t : Said = said all file.root.parts in
    let bs : SaidBodies = bodies_said all file.root.bodies in
    let few = few_operations all file text in
    let counted = regions_counted 1 t (inside 0 t no_names) bs in
    record {
      nesting = regions_nest 1 t (inside 0 t no_names) bs 0 (text_nests all file text).1.0;
      number =
          omega (arith, few, counted);
    }

pub spelt_is_within_limits : SpeltIsWithinLimits
spelt_is_within_limits bytes m s = subst IsWithinLimits s.means (text_within s.tokens s.file s.is_text)
