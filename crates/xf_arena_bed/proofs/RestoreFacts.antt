-- What a restored tree and its spot are, in the definitions' words.
use Rattle.std.proofs.Common.{◌≡◌, ℕ, List, [], ◌∷◌, sym, ◌∙◌, ap, subst, Bool, true, false, eqb}
use Rattle.std.proofs.Common.{inl, inr}
use Rattle.std.proofs.lemmas.Bool.{cases_Bool, eqb-true}
use Rattle.xf_ir.specs.declared.name.OpName.{OpName}
use Rattle.xf_ir.specs.declared.spot.Spot.{Spot}
use Rattle.xf_ir.specs.Lists.{Each, Once, is_among}
use Rattle.xf_ir.specs.Spots as spots
use Rattle.xf_ir.specs.Tree.{Tree, cons, no_ops}
use Rattle.xf_ir.specs.Walk.{tree_names}
use Rattle.xf_arena_tree.specs.Names.{ops_has, OpsDistinct}
use Rattle.xf_arena_tree.specs.Without.{OpsWhere}
use Rattle.xf_arena_tree.specs.Puts.{InRange, tree_put}
use Rattle.xf_arena_tree.proofs.BridgeLemmas.{spot_range, tree_put_is, among_is, once_distinct, tree_names_is}

pub spot_fits : (s : Spot) (p : OpName) (root : Tree) → p ≡ s.parent → OpsDistinct (cons root no_ops)
    → spots.IsSpot s root → OpsWhere p (InRange s.region s.at) (cons root no_ops)
spot_fits s p root e d w = rw e (spot_range s root d w)

pub put_is_put : (s : Spot) (p : OpName) (t u : Tree) → p ≡ s.parent → OpsDistinct (cons u no_ops)
    → tree_put p s.region s.at t u ≡ spots.tree_put s t u
put_is_put s p t u e d = rw e (tree_put_is s t u d)

each_among : (Q : OpName → Bool) (x : OpName) (ns : List OpName) → Each (λ n. Q n ≡ false) ns → is_among x ns ≡ true
    → Q x ≡ false
each_among Q x [] e h = cc
each_among Q x (n ∷ ns) e h = elim (cases_Bool (eqb n.0 x.0)) [
  | inl t ↦ (
      let mk : ℕ → OpName = λ i. record { 0 = i } in
      let q : n ≡ x = ap mk (eqb-true n.0 x.0 t) in
      rw q at e.0)
  | inr f ↦ each_among Q x ns e.1 (rw f at h)
]

among_tree : (x : OpName) (t : Tree) → is_among x (tree_names t) ≡ ops_has x (cons t no_ops)
among_tree x t = ap (is_among x) (sym (tree_names_is t)) ∙ among_is x (cons t no_ops)

pub all_new : (t root : Tree) → Each (λ n. is_among n (tree_names root) ≡ false) (tree_names t)
    → (x : OpName) → ops_has x (cons t no_ops) ≡ true → ops_has x (cons root no_ops) ≡ false
all_new t root e x h =
    sym (among_tree x root) ∙ each_among (λ n. is_among n (tree_names root)) x (tree_names t) e (among_tree x t ∙ h)

pub names_are : (t : Tree) → Once (tree_names t) → OpsDistinct (cons t no_ops)
names_are t o = once_distinct (cons t no_ops) (subst Once (sym (tree_names_is t)) o)
