-- A module that a text spells names each of its operations once: in preorder, from 0 on.
use Rattle.std.proofs.Common.{◌≡◌, ℕ, ◌+◌, ◌<◌, ◌≤◌, Bool, true, false, cond, List, [], ◌∷◌, ◌++◌, refl, ap, subst}
use Rattle.std.proofs.Common.{arith, append_assoc}
use Rattle.std.proofs.lemmas.Bool.{ne_eqb, or_from}
use Rattle.xf_format.specs.Parts.{Said}
use Rattle.xf_ir.specs.declared.name.OpName.{OpName}
use Rattle.xf_ir.specs.Lists.{Each, Once, is_among}
use Rattle.xf_ir.specs.Tree.{Ops, no_ops, op, cons}
use Rattle.xf_ir.specs.Valid.{IsNamedOnce}
use Rattle.xf_ir.specs.Walk.{ops_names, regions_names}
use Rattle.xf_ir.proofs.Lists.{not_both, each_both, each_map}
use Rattle.xf_read.specs.Meant.{joined, yield_tree, yield_said, lacks_yield, ops_said, regions_said, root_said}
use Rattle.xf_read.specs.Names.{op_name, inside, behind}
use Rattle.xf_read.specs.Scopes.{Meanings, no_names}
use Rattle.xf_syntax.specs.Telling.{SaidNodes, no_nodes_said, node_said, SaidBodies, no_bodies_said, body_said}
use Rattle.xf_syntax.specs.Telling.{operations, left_out, operations_inside, bodies_said}
use Rattle.xf_format.specs.Parts.{said}
use Rattle.xf_roundtrip.specs.AgainLaws.{SpeltIsNamedOnce}

-- ---- names between two numbers

-- so many names from number a on
abbrev From : ℕ → ℕ → OpName → Type 0
From a c n = (a ≤ n.0) × (n.0 < a + c)

-- these names occur once, and are so many from number a on
record Ranges (a c : ℕ) (ns : List OpName) : Type 0 where
  once : Once ns
  from : Each (From a c) ns

not_among : (n : OpName) (a c : ℕ) (ns : List OpName) → n.0 < a → Each (From a c) ns → is_among n ns ≡ false
not_among n a c [] h e = refl
not_among n a c (m ∷ ns) h e =
    let l = e.0.0 in
    or_from _ _ (ne_eqb m.0 n.0 (λ q. omega (arith, q, l, h))) (not_among n a c ns h e.1)

once_both : (a c s d : ℕ) (xs ys : List OpName) → a + c ≡ s → Once xs → Each (From a c) xs → Once ys
    → Each (From s d) ys
    → Once (xs ++ ys)
once_both a c s d [] ys l o e p f = p
once_both a c s d (x ∷ xs) ys l o e p f =
    let m = e.0.1 in
    (not_both x xs ys o.0 (not_among x s d ys (omega (arith, l, m)) f), once_both a c s d xs ys l o.1 e.1 p f)

wider : (a c b d : ℕ) (ns : List OpName) → b ≤ a → a + c ≤ b + d → Each (From a c) ns → Each (From b d) ns
wider a c b d ns l h =
    each_map (From a c) (From b d) ns (λ n x. let y = x.0 in let z = x.1 in (omega arith, omega arith))

none_range : (a : ℕ) → Ranges a 0 []
none_range a = record { once = tt; from = tt }

-- what stands behind goes on where what stands before ends
ranges_both : (a c s d : ℕ) (xs ys : List OpName) → a + c ≡ s → Ranges a c xs → Ranges s d ys
    → Ranges a (c + d) (xs ++ ys)
ranges_both a c s d xs ys e r q = record {
  once = once_both a c s d xs ys e r.once r.from q.once q.from;
  from = each_both (From a (c + d)) xs ys (wider a c a (c + d) xs (omega arith) (omega arith) r.from)
      (wider s d a (c + d) ys (omega (arith, e)) (omega (arith, e)) q.from);
}

ranges_own : (n c : ℕ) (ns : List OpName) → Ranges (n + 1) c ns → Ranges n (1 + c) (op_name n ∷ ns)
ranges_own n c ns r = record {
  once = (not_among (op_name n) (n + 1) c ns (omega arith) r.from, r.once);
  from = ((omega arith, omega arith), wider (n + 1) c n (1 + c) ns (omega arith) (omega arith) r.from);
}

-- ---- operations

joined_names : (ops us : Ops) → ops_names (joined ops us) ≡ ops_names ops ++ ops_names us
joined_names no_ops us = refl
joined_names (op n k ds os ts rs rest) us = ap (λ ns. n ∷ ns) (rw (joined_names rest us, append_assoc))

yield_range : (b : Bool) (n : ℕ) → Ranges n (cond b 1 0) (ops_names (cond b (cons (yield_tree n) no_ops) no_ops))
yield_range true n = ranges_own n 0 [] (none_range (n + 1))
yield_range false n = none_range n

mutual
  ops_range : (ns : SaidNodes) (n : ℕ) (scope : Meanings) → Ranges n (operations ns) (ops_names (ops_said n scope ns))
  ops_range no_nodes_said n scope = none_range n
  ops_range (node_said t bs rest) n scope =
      let i : ℕ = operations_inside t bs in
      ranges_own n (i + operations rest) _ (ranges_both (n + 1) i (n + (1 + i)) (operations rest) _ _ (omega arith)
      (bodies_range bs (n + 1) t (inside n t scope)) (ops_range rest (n + (1 + i)) (behind n t scope)))

  bodies_range : (bs : SaidBodies) (n : ℕ) (t : Said) (scope : Meanings)
      → Ranges n (operations_inside t bs) (regions_names (regions_said n t scope bs))
  bodies_range no_bodies_said n t scope = none_range n
  bodies_range (body_said ns rest) n t scope =
      let i : ℕ = operations ns in
      let y : ℕ = left_out t ns in
      let names = joined_names (ops_said n scope ns) (yield_said t ns (n + i)) in
      rw (names, append_assoc) (ranges_both n i (n + i) (y + operations_inside t rest) _ _ refl (ops_range ns n scope)
      (ranges_both (n + i) y (n + (i + y)) (operations_inside t rest) _ _ (omega arith)
      (yield_range (lacks_yield t ns) (n + i)) (bodies_range rest (n + (i + y)) t scope)))

-- ---- modules

said_named : (t : Said) (bs : SaidBodies) → IsNamedOnce (root_said t bs)
said_named t bs =
    let r = ranges_own 0 _ _ (bodies_range bs 1 t (inside 0 t no_names)) in
    let d : ℕ = 1 + operations_inside t bs in
    let ns : List OpName = op_name 0 ∷ regions_names (regions_said 1 t (inside 0 t no_names) bs) in
    record { once = r.once; below = each_map (From 0 d) (λ n. n.0 < d) ns (λ n x. let y = x.1 in omega arith) r.from }

pub spelt_is_named : SpeltIsNamedOnce
spelt_is_named bytes m s =
    subst IsNamedOnce s.means (said_named (said s.tokens s.file.root.parts) (bodies_said s.tokens s.file.root.bodies))
