-- What each operation of a text has whose names and types agree, each operation of the module has that it spells.
use Rattle.std.proofs.Common.{◌≡◌, ℕ, suc, ◌+◌, Bool, true, false, List, length, [], ◌∷◌, None}
use Rattle.std.specs.Prelude.{map, if◌then◌else◌}
use Rattle.xf_lex.specs.declared.token.Token.{Token}
use Rattle.xf_format.specs.declared.parts.Parts.{Parts}
use Rattle.xf_format.specs.Parts.{Said, said}
use Rattle.xf_format.specs.Short.{HasShortParts}
use Rattle.xf_grammar.specs.Holding.{NodesHave, BodiesHave}
use Rattle.xf_ir.specs.declared.name.OpName.{OpName}
use Rattle.xf_ir.specs.declared.op.Module.{Module}
use Rattle.xf_ir.specs.Lists.{Each}
use Rattle.xf_ir.specs.Places.{done}
use Rattle.xf_ir.specs.Places.{inside as entered}
use Rattle.xf_ir.specs.Placed.{Typed, type_at, Holder, holder_of, Placed, ops_placed, regions_placed, functions_placed}
use Rattle.xf_ir.specs.Placed.{blocks_placed, placed, root_holder}
use Rattle.xf_ir.specs.Tree.{Ops, no_ops, op, Regions, no_regions, region, cons}
use Rattle.xf_ir.specs.Tree.{Tree as Op}
use Rattle.xf_ir.proofs.Lists.{each_both}
use Rattle.xf_syntax.specs.Telling.{Nodes, no_nodes, node, Bodies, no_bodies, body, nodes_said, bodies_said, left_out}
use Rattle.xf_syntax.specs.Telling.{operations, operations_inside, SaidNodes, SaidBodies}
use Rattle.xf_read.specs.Meant.{joined, lacks_yield, yield_said, yield_tree, ops_said, regions_said, tree_said}
use Rattle.xf_read.specs.Names.{inside, behind, types_agree, nodes_faults, bodies_faults}
use Rattle.xf_read.specs.Scopes.{Meanings}
use Rattle.xf_read.proofs.Earlier.{none_earlier, unless}
use Rattle.xf_read.proofs.Texts.{Kept}

-- ---- operations with all that they hold

abbrev mutual
  pub OpsHave : (Op → Type 0) → Ops → Type 0
  OpsHave P no_ops = Unit {0}
  OpsHave P (op n k ds os ts rs rest) =
      P (record { name = n; kind = k; attrs = ds; operands = os; results = ts; regions = rs })
      × (RegionsHave P rs × OpsHave P rest)

  pub RegionsHave : (Op → Type 0) → Regions → Type 0
  RegionsHave P no_regions = Unit {0}
  RegionsHave P (region args ops rest) = OpsHave P ops × RegionsHave P rest

module _ (P : Op → Type 0) where
  mutual
    ops_each : (h : Holder) (env : Typed) (ops : Ops) → OpsHave P ops
        → Each (λ (p : Placed). P p.tree) (ops_placed h env ops)
    ops_each h env no_ops s = tt
    ops_each h env (op n k ds os ts rs rest) s =
        let g = holder_of k (map (type_at env) os) ts in
        let x = (done n (length ts), ts) ∷ env in (
          s.0,
          each_both (λ (p : Placed). P p.tree) (regions_placed g env n 0 rs) (ops_placed h x rest)
              (regions_each g env n 0 rs s.1.0) (ops_each h x rest s.1.1),
        )

    regions_each : (h : Holder) (env : Typed) (n : OpName) (i : ℕ) (rs : Regions) → RegionsHave P rs
        → Each (λ (p : Placed). P p.tree) (regions_placed h env n i rs)
    regions_each h env n i no_regions s = tt
    regions_each h env n i (region args ops rest) s =
        let x = (entered n i (length args), args) ∷ env in
        each_both (λ (p : Placed). P p.tree) (ops_placed h x ops) (regions_placed h env n (suc i) rest)
        (ops_each h x ops s.0) (regions_each h env n (suc i) rest s.1)

  functions_each : (h : Holder) (fs : Ops) → OpsHave P fs → Each (λ (p : Placed). P p.tree) (functions_placed h fs)
  functions_each h no_ops s = tt
  functions_each h (op n k ds os ts rs rest) s =
      let g = holder_of k (map (type_at []) os) ts in (
        s.0,
        each_both (λ (p : Placed). P p.tree) (regions_placed g [] n 0 rs) (functions_placed h rest)
            (regions_each g [] n 0 rs s.1.0) (functions_each h rest s.1.1),
      )

  blocks_each : (h : Holder) (rs : Regions) → RegionsHave P rs → Each (λ (p : Placed). P p.tree) (blocks_placed h rs)
  blocks_each h no_regions s = tt
  blocks_each h (region args ops rest) s =
      each_both (λ (p : Placed). P p.tree) (functions_placed h ops) (blocks_placed h rest) (functions_each h ops s.0)
      (blocks_each h rest s.1)

  pub all_placed : (m : Module) → P m.root → RegionsHave P m.root.regions
      → Each (λ (p : Placed). P p.tree) (placed m)
  all_placed m p s = (p, blocks_each (root_holder m.root) m.root.regions s)

-- ---- texts

-- an operation of a text that agrees has it, and so has a yield that is left out
pub record Gives (P : Op → Type 0) (all : List Token) : Type 0 where
  pub head : (n : ℕ) (scope : Meanings) (p : Parts) (bs : SaidBodies) → HasShortParts p
      → types_agree (said all p) scope ≡ true → P (tree_said n scope (said all p) bs)
  pub yield : (n : ℕ) → P (yield_tree n)

module _ (P : Op → Type 0) (all : List Token) (g : Gives P all) where
  joined_have : (us vs : Ops) → OpsHave P us → OpsHave P vs → OpsHave P (joined us vs)
  joined_have no_ops vs s t = t
  joined_have (op n k ds os ts rs rest) vs s t = (s.0, (s.1.0, joined_have rest vs s.1.1 t))

  yield_has : (b : Bool) (n : ℕ) → OpsHave P (if b then cons (yield_tree n) no_ops else no_ops)
  yield_has true n = (g.yield n, (tt, tt))
  yield_has false n = tt

  mutual
    nodes_have : (m n : ℕ) (scope : Meanings) (ns : Nodes) → NodesHave m (Kept all) ns
        → (nodes_faults all n scope ns).mismatch ≡ None → OpsHave P (ops_said n scope (nodes_said all ns))
    nodes_have m n scope no_nodes w e = tt
    nodes_have m n scope (node first p bs rest) w e =
        let t : Said = said all p in
        let inner : SaidBodies = bodies_said all bs in
        let f = none_earlier _ _ e in
        let h = none_earlier _ _ f.0 in (
          g.head n scope p inner w.1.0.0 (unless (types_agree t scope) first h.0),
          (
            bodies_have m (n + 1) p (inside n t scope) bs w.1.1.0 h.1,
            nodes_have m (n + (1 + operations_inside t inner)) (behind n t scope) rest w.1.1.1 f.1,
          ),
        )

    pub bodies_have : (m n : ℕ) (p : Parts) (scope : Meanings) (bs : Bodies) → BodiesHave m (Kept all) bs
        → (bodies_faults all n p scope bs).mismatch ≡ None
        → RegionsHave P (regions_said n (said all p) scope (bodies_said all bs))
    bodies_have m n p scope no_bodies w e = tt
    bodies_have m n p scope (body ns close rest) w e =
        let t : Said = said all p in
        let inner : SaidNodes = nodes_said all ns in
        let f = none_earlier _ _ e in (
          joined_have (ops_said n scope inner) (yield_said t inner (n + operations inner))
              (nodes_have m n scope ns w.0 f.0) (yield_has (lacks_yield t inner) (n + operations inner)),
          bodies_have m (n + (operations inner + left_out t inner)) p scope rest w.1.1 f.1,
        )
