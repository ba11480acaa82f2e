-- The last child.
use Rattle.xf_type.specs.declared.payload_type.PayloadType.{PayloadType}
use Rattle.std.proofs.Common.{◌≡◌, ℕ, suc, ◌*◌, ◌<◌, List, [], ◌∷◌, ◌++◌, length, slice_index}
use Rattle.std.proofs.Common.{sym, ◌∙◌, arith, refl, true, eqb, ◌||◌}
use Rattle.std.specs.Prelude.{map, Option}
use Rattle.std.proofs.lemmas.Bool.{eq-eqb, or_left, or_right}
use Rattle.xf_ir.specs.declared.name.OpName.{OpName}
use Rattle.xf_ir.specs.Tree.{Ops, no_ops, op, Regions, no_regions, region}
use Rattle.xf_rings.specs.Ring.{Path, After}
use Rattle.xf_arena_bed.specs.Home.{Home}
use Rattle.xf_arena_tree.specs.Names.{heads, kids, ops_has, regions_has}
use Rattle.xf_arena_bed.specs.Sits.{Nodes, place, head, item_of, home_of, OpsSit}
use Rattle.xf_arena_bed.specs.Sits.{RegionsSit}
use Rattle.xf_arena_tree.specs.Without.{OpsLeaf, RegionsLeaf}
use Rattle.xf_arena_bed.proofs.PlaceLemmas.{Placed, AllPlaced, kids_placed, place_within}
use Rattle.xf_arena_bed.proofs.LeafLemmas.{same_name}
use Rattle.xf_arena_bed.proofs.PutLemmas.{last}

path_end : (next : List ℕ) (a : ℕ) (xs : List ℕ) (b : ℕ) → Path next a xs b → slice_index next (last a xs) ≡ b
path_end next a [] b p = p
path_end next a (x ∷ xs) b p = path_end next x xs b p.1

-- a sentinel that follows itself has no children
empty_row : (nodes : Nodes) (next : List ℕ) (s : ℕ) (ns : List OpName)
    → Path next (head s) (map (item_of nodes) ns) (head s) → slice_index next (head s) ≡ head s → ns ≡ []
empty_row nodes next s [] p e = refl
empty_row nodes next s (n ∷ ns) p e = let q : item_of nodes n ≡ head s = sym p.0 ∙ e in absurd (omega arith)

mutual
  pub ops_leaf : (nodes : Nodes) (next : List ℕ) (home : Option Home) (ops : Ops) (o : OpName)
      → OpsSit nodes next home ops → slice_index next (head (place o nodes)) ≡ head (place o nodes) → OpsLeaf o ops
  ops_leaf nodes next home no_ops o s e = tt
  ops_leaf nodes next home (op n k ds os ts rs rest) o s e = (
    (λ t. empty_row nodes next (place n nodes) (kids rs) s.0.row (rw (same_name n o t) e)),
    (regions_leaf nodes next n 0 rs o s.1.0 e, ops_leaf nodes next home rest o s.1.1 e),
  )

  regions_leaf : (nodes : Nodes) (next : List ℕ) (n : OpName) (r : ℕ) (rs : Regions) (o : OpName)
      → RegionsSit nodes next n r rs → slice_index next (head (place o nodes)) ≡ head (place o nodes) → RegionsLeaf o rs
  regions_leaf nodes next n r no_regions o s e = tt
  regions_leaf nodes next n r (region args ops rest) o s e =
      (ops_leaf nodes next (home_of nodes n r) ops o s.0 e, regions_leaf nodes next n (suc r) rest o s.1 e)

abbrev AllHave : Regions → List OpName → Type 0
AllHave rs [] = Unit {0}
AllHave rs (n ∷ ns) = (regions_has n rs ≡ true) × AllHave rs ns

have_append : (rs : Regions) (ns ms : List OpName) → AllHave rs ns → AllHave rs ms → AllHave rs (ns ++ ms)
have_append rs [] ms a b = b
have_append rs (n ∷ ns) ms a b = (a.0, have_append rs ns ms a.1 b)

heads_have : (args : List PayloadType) (ops rest_ : Ops) (rest : Regions)
    → ((x : OpName) → ops_has x rest_ ≡ true → ops_has x ops ≡ true) → AllHave (region args ops rest) (heads rest_)
heads_have args ops no_ops rest h = tt
heads_have args ops (op n k ds os ts rs more) rest h = (
  or_left (ops_has n ops) (regions_has n rest)
      (h n (or_left (eqb n.0 n.0) (regions_has n rs || ops_has n more) (eq-eqb n.0 n.0 refl))),
  heads_have args ops more rest (λ x q. h x
      (or_right (eqb n.0 x.0) (regions_has x rs || ops_has x more) (or_right (regions_has x rs) (ops_has x more) q))),
)

have_more : (args : List PayloadType) (ops : Ops) (rest : Regions) (ns : List OpName) → AllHave rest ns
    → AllHave (region args ops rest) ns
have_more args ops rest [] a = tt
have_more args ops rest (n ∷ ns) a = (or_right (ops_has n ops) (regions_has n rest) a.0, have_more args ops rest ns a.1)

kids_have : (rs : Regions) → AllHave rs (kids rs)
kids_have no_regions = tt
kids_have (region args ops rest) =
    have_append (region args ops rest) (heads ops) (kids rest) (heads_have args ops ops rest (λ x q. q))
    (have_more args ops rest (kids rest) (kids_have rest))

pub record Kid (nodes : Nodes) (rs : Regions) (v : ℕ) : Type 0 where
  pub name : OpName
  pub is : v ≡ item_of nodes name
  pub placed : Placed nodes name
  pub has : regions_has name rs ≡ true

final : (nodes : Nodes) (rs : Regions) (v : ℕ) (n : OpName) (ns : List OpName)
    → last (item_of nodes n) (map (item_of nodes) ns) ≡ v → Placed nodes n → regions_has n rs ≡ true
    → AllPlaced nodes ns → AllHave rs ns → Kid nodes rs v
final nodes rs v n [] e p h ps hs = record { name = n; is = sym e; placed = p; has = h }
final nodes rs v n (m ∷ ns) e p h ps hs = final nodes rs v m ns e ps.0 hs.0 ps.1 hs.1

last_kid_of : (nodes : Nodes) (rs : Regions) (a v : ℕ) (ns : List OpName) → last a (map (item_of nodes) ns) ≡ v
    → (v ≡ a → ⊥) → AllPlaced nodes ns → AllHave rs ns → Kid nodes rs v
last_kid_of nodes rs a v [] e ne ps hs = absurd (ne (sym e))
last_kid_of nodes rs a v (n ∷ ns) e ne ps hs = final nodes rs v n ns e ps.0 hs.0 ps.1 hs.1

last_below : (nodes : Nodes) (size a : ℕ) (ns : List OpName) → size ≡ 2 * length nodes → a < size
    → AllPlaced nodes ns → last a (map (item_of nodes) ns) < size
last_below nodes size a [] e l p = l
last_below nodes size a (n ∷ ns) e l p =
    last_below nodes size (item_of nodes n) ns e (omega (arith, place_within nodes n p.0)) p.1

-- what comes before a sentinel is the last child
pub row_last : (nodes : Nodes) (next : List ℕ) (n : OpName) (rs : Regions) (v : ℕ) → length next ≡ 2 * length nodes
    → Placed nodes n → Path next (head (place n nodes)) (map (item_of nodes) (kids rs)) (head (place n nodes))
    → RegionsSit nodes next n 0 rs → After next v (head (place n nodes)) → (v ≡ head (place n nodes) → ⊥)
    → Kid nodes rs v
row_last nodes next n rs v size pl row st w ne =
    let ps = kids_placed nodes next n 0 rs st in
    let b = last_below nodes (length next) (head (place n nodes)) (kids rs) size
    (omega (arith, place_within nodes n pl)) ps in
    let e = w.only (last (head (place n nodes)) (map (item_of nodes) (kids rs))) b
    (path_end next (head (place n nodes)) (map (item_of nodes) (kids rs)) (head (place n nodes)) row) in
    last_kid_of nodes rs (head (place n nodes)) v (kids rs) e ne ps (kids_have rs)
