-- The walk over the operations of a body and over the bodies of an operation, one step on.
use Rattle.std.proofs.Common.{◌≡◌, ℕ, ◌+◌, Bool, List, [], ◌∷◌, ◌++◌, length, refl, ap, sym, subst, ◌∙◌, append_assoc}
use Rattle.std.proofs.Common.{append-nil, arith}
use Rattle.std.specs.Prelude.{if◌then◌else◌}
use Rattle.xf_span.specs.declared.place.Place.{Place}
use Rattle.xf_lex.specs.declared.token.Token.{Token}
use Rattle.xf_format.specs.declared.parts.Parts.{Parts}
use Rattle.xf_format.specs.Parts.{said}
use Rattle.xf_grammar.specs.Tree.{Tree, Block}
use Rattle.xf_ir.specs.Tree.{Ops, no_ops, cons}
use Rattle.xf_ir.specs.Tree.{Tree as Op, Body as IrBlock}
use Rattle.xf_ir.specs.View.{ops_of, regions_of}
use Rattle.xf_syntax.specs.Telling.{SaidNodes, nodes_said, SaidBodies, bodies_said, left_out, operations}
use Rattle.xf_syntax.specs.Telling.{operations_inside}
use Rattle.xf_syntax.specs.View.{nodes_of, bodies_of}
use Rattle.xf_read.specs.declared.faults.Faults.{Faults}
use Rattle.xf_read.specs.declared.walk.Walk.{Walk}
use Rattle.xf_read.specs.Meant.{lacks_yield, yield_tree, yield_said}
use Rattle.xf_read.specs.Meant.{joined, ops_said, regions_said, tree_said, place_of, yield_places, nodes_places}
use Rattle.xf_read.specs.Meant.{bodies_places}
use Rattle.xf_read.specs.Names.{no_faults, with_faults, tree_count, behind, nodes_faults, bodies_faults, tree_faults}
use Rattle.xf_read.specs.Types.{argument_types}
use Rattle.xf_read.specs.Visible.{names_in, Grows}
use Rattle.xf_read.specs.Walks.{Moved, Same, block_said, joined_regions}
use Rattle.xf_read.proofs.Earlier.{faults_regrouped, faults_not}
use Rattle.xf_read.proofs.Joining.{ops_push, regions_push, joined_none, joined_regions_none}
use Rattle.xf_read.proofs.Scoping.{grows_on, same_on}

pub moved_on : (a b c : Walk) (m n : ℕ) (ps qs : List Place) (f g : Faults) → Moved a b m ps f → Moved b c n qs g
    → Moved a c (m + n) (ps ++ qs) (with_faults f g)
moved_on a b c m n ps qs f g x y = record {
  next = let p = x.next in let q = y.next in omega (arith, p, q);
  places_are = y.places_are ∙ ap (λ z. z ++ qs) x.places_are ∙ append_assoc a.places ps qs;
  faults_are = y.faults_are ∙ ap (λ z. with_faults z g) x.faults_are ∙ faults_regrouped a.faults f g;
}

-- ---- operations

abbrev pub trees_said : List Token → List (Tree Parts) → SaidNodes
trees_said all xs = nodes_said all (nodes_of xs)

-- what was built from these nodes on, with what is left, is what they all mean
pub record NodesLeft (all : List Token) (a : Walk) (ts : List (Tree Parts)) (w : Walk) (os : List Op)
    (rest : List (Tree Parts)) : Type 0 where
  pub next : w.next + operations (trees_said all rest) ≡ a.next + operations (trees_said all ts)
  pub ops : joined (ops_of os) (ops_said w.next (names_in w.scope) (trees_said all rest))
      ≡ ops_said a.next (names_in a.scope) (trees_said all ts)
  pub places : w.places ++ nodes_places all (nodes_of rest) ≡ a.places ++ nodes_places all (nodes_of ts)
  pub faults : with_faults w.faults (nodes_faults all w.next (names_in w.scope) (nodes_of rest))
      ≡ with_faults a.faults (nodes_faults all a.next (names_in a.scope) (nodes_of ts))
  pub grows : Grows a.scope w.scope

module _ (all : List Token) (a : Walk) (ts : List (Tree Parts)) (w : Walk) (os : List Op) where
  pub one_built : (this : Tree Parts) (rest : List (Tree Parts)) (v : Walk) (us : List Op) (o : Op)
      → NodesLeft all a ts w os (this ∷ rest)
      → o ≡ tree_said w.next (names_in w.scope) (said all this.parts) (bodies_said all this.bodies)
      → Moved w v (tree_count all this) (place_of all this.first ∷ bodies_places all this.parts this.bodies)
      (tree_faults all w.next (names_in w.scope) this)
      → names_in v.scope ≡ behind w.next (said all this.parts) (names_in w.scope) → Grows w.scope v.scope
      → us ≡ os ++ o ∷ [] → NodesLeft all a ts v us rest
  one_built this rest v us o h e m z g p = record {
    next = let x = m.next in let y = h.next in omega (arith, x, y);
    ops = rw (p, e, m.next, z) (ops_push os (tree_said w.next (names_in w.scope) (said all this.parts)
        (bodies_said all this.bodies)) _ ∙ h.ops);
    places = rw m.places_are (append_assoc w.places (place_of all this.first ∷ bodies_places all this.parts
        this.bodies) _ ∙ h.places);
    faults = rw (m.faults_are, m.next, z) (faults_regrouped w.faults (tree_faults all w.next (names_in w.scope) this) _
        ∙ h.faults);
    grows = grows_on a.scope w.scope v.scope h.grows g;
  }

  pub all_built : NodesLeft all a ts w os [] → (ops_of os ≡ ops_said a.next (names_in a.scope) (trees_said all ts))
      × Moved a w (operations (trees_said all ts)) (nodes_places all (nodes_of ts))
      (nodes_faults all a.next (names_in a.scope) (nodes_of ts))
  all_built h = (
    sym (joined_none (ops_of os)) ∙ h.ops,
    record {
      next = let x = h.next in omega (arith, x);
      places_are = sym (append-nil w.places) ∙ h.places;
      faults_are = sym (faults_not w.faults) ∙ h.faults;
    },
  )

-- ---- blocks

abbrev pub blocks_said : List Token → List (Block Parts) → SaidBodies
blocks_said all xs = bodies_said all (bodies_of xs)

-- how many operations a body has
abbrev pub body_count : List Token → Parts → Block Parts → ℕ
body_count all p b = operations (nodes_said all b.nodes) + left_out (said all p) (nodes_said all b.nodes)

-- what was built from these bodies on, with what is left, is what they all mean
pub record BodiesLeft (all : List Token) (p : Parts) (a : Walk) (bs : List (Block Parts)) (w : Walk)
    (made : List IrBlock) (rest : List (Block Parts)) : Type 0 where
  pub next : w.next + operations_inside (said all p) (blocks_said all rest) ≡ a.next + operations_inside (said all p)
      (blocks_said all bs)
  pub regions : joined_regions (regions_of made) (regions_said w.next (said all p) (names_in w.scope)
      (blocks_said all rest))
      ≡ regions_said a.next (said all p) (names_in a.scope) (blocks_said all bs)
  pub places : w.places ++ bodies_places all p (bodies_of rest) ≡ a.places ++ bodies_places all p (bodies_of bs)
  pub faults : with_faults w.faults (bodies_faults all w.next p (names_in w.scope) (bodies_of rest))
      ≡ with_faults a.faults (bodies_faults all a.next p (names_in a.scope) (bodies_of bs))
  pub scope : Same a.scope w.scope

module _ (all : List Token) (p : Parts) (a : Walk) (bs : List (Block Parts)) (w : Walk) (made : List IrBlock) where
  pub one_block : (this : Block Parts) (rest : List (Block Parts)) (v : Walk) (more : List IrBlock) (b : IrBlock)
      → BodiesLeft all p a bs w made (this ∷ rest)
      → b ≡ block_said w.next (said all p) (argument_types (said all p)) (names_in w.scope) (nodes_said all this.nodes)
      → Moved w v (body_count all p this) (nodes_places all this.nodes ++ yield_places all p this.nodes this.close)
      (nodes_faults all w.next (names_in w.scope) this.nodes)
      → Same w.scope v.scope → more ≡ made ++ b ∷ [] → BodiesLeft all p a bs v more rest
  one_block this rest v more b h e m s q = record {
    next = let x = m.next in let y = h.next in omega (arith, x, y);
    regions = rw (q, e, m.next, s.names) (regions_push made (block_said w.next (said all p)
        (argument_types (said all p)) (names_in w.scope) (nodes_said all this.nodes)) _ ∙ h.regions);
    places = rw m.places_are
        (append_assoc w.places (nodes_places all this.nodes ++ yield_places all p this.nodes this.close) _
        ∙ ap (λ x. w.places ++ x) (append_assoc (nodes_places all this.nodes)
        (yield_places all p this.nodes this.close) _) ∙ h.places);
    faults = rw (m.faults_are, m.next, s.names) (faults_regrouped w.faults
        (nodes_faults all w.next (names_in w.scope) this.nodes) _ ∙ h.faults);
    scope = same_on a.scope w.scope v.scope h.scope s;
  }

  pub all_blocks : BodiesLeft all p a bs w made [] → (regions_of made ≡ regions_said a.next (said all p)
      (names_in a.scope) (blocks_said all bs))
      × Moved a w (operations_inside (said all p) (blocks_said all bs)) (bodies_places all p (bodies_of bs))
      (bodies_faults all a.next p (names_in a.scope) (bodies_of bs))
  all_blocks h = (
    sym (joined_regions_none (regions_of made)) ∙ h.regions,
    record {
      next = let x = h.next in omega (arith, x);
      places_are = sym (append-nil w.places) ∙ h.places;
      faults_are = sym (faults_not w.faults) ∙ h.faults;
    },
  )

-- a block of its operations and of the yield that is left out
pub block_built : (all : List Token) (p : Parts) (b : Block Parts) (w v u : Walk) (os us : Ops) (lacks : Bool)
    → lacks ≡ lacks_yield (said all p) (nodes_said all b.nodes)
    → os ≡ ops_said w.next (names_in w.scope) (nodes_said all b.nodes)
    → Moved w v (operations (nodes_said all b.nodes)) (nodes_places all b.nodes)
    (nodes_faults all w.next (names_in w.scope) b.nodes)
    → us ≡ joined os (if lacks then cons (yield_tree v.next) no_ops else no_ops)
    → Moved v u (if lacks then 1 else 0) (if lacks then place_of all b.close ∷ [] else []) no_faults
    → (us ≡ joined (ops_said w.next (names_in w.scope) (nodes_said all b.nodes))
    (yield_said (said all p) (nodes_said all b.nodes) (w.next + operations (nodes_said all b.nodes))))
    × Moved w u (body_count all p b) (nodes_places all b.nodes ++ yield_places all p b.nodes b.close)
    (nodes_faults all w.next (names_in w.scope) b.nodes)
block_built all p b w v u os us lacks l e m q n =
    let ns : SaidNodes = nodes_said all b.nodes in
    let f : Faults = nodes_faults all w.next (names_in w.scope) b.nodes in
    let end : Moved v u (left_out (said all p) ns) (yield_places all p b.nodes b.close) no_faults =
    subst (λ x. Moved v u (if x then 1 else 0) (if x then place_of all b.close ∷ [] else []) no_faults) l n in (
      q ∙ ap (λ x. joined x (if lacks then cons (yield_tree v.next) no_ops else no_ops)) e
          ∙ (λ i. joined (ops_said w.next (names_in w.scope) ns)
          (if l i then cons (yield_tree (m.next i)) no_ops else no_ops)),
      subst (Moved w u (body_count all p b) (nodes_places all b.nodes ++ yield_places all p b.nodes b.close))
          (faults_not f)
          (moved_on w v u _ _ _ _ f no_faults m end),
    )

-- ---- what is left of a list

pub nothing_left : {X : Type 0} (xs : List X) → length xs ≡ 0 → xs ≡ []
nothing_left [] e = refl
nothing_left (x ∷ xs) e = absurd (omega arith)
