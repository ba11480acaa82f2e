-- One operation taken out of the nodes and links.
use Rattle.xf_ir.specs.declared.kind.Attr.{Attr}
use Rattle.xf_type.specs.declared.payload_type.PayloadType.{PayloadType}
use Rattle.xf_ir.specs.RuleBlocks.{block_args}
use Rattle.std.proofs.Common.{◌≡◌, ℕ, suc, ◌*◌, ◌<◌, List, [], ◌∷◌, ◌++◌, length, slice_index}
use Rattle.std.proofs.Common.{sym, ◌∙◌, ap, arith, refl, true, false}
use Rattle.std.proofs.Common.{cond, eqb, not, inl, inr}
use Rattle.std.specs.Prelude.{map, Option}
use Rattle.std.specs.List.{filter}
use Rattle.std.proofs.lemmas.List.Elements.{filter-append}
use Rattle.std.proofs.lemmas.Bool.{eqb-true, eqb-false, cases_Bool, or_parts}
use Rattle.xf_ir.specs.declared.name.OpName.{OpName}
use Rattle.xf_ir.specs.declared.name.ValueName.{ValueName}
use Rattle.xf_ir.specs.declared.kind.Kind.{Kind}
use Rattle.xf_ir.specs.Tree.{Ops, no_ops, op, Regions, no_regions, region}
use Rattle.xf_rings.specs.Ring.{Path, unlinked, After}
use Rattle.xf_arena_bed.specs.Home.{Home}
use Rattle.xf_arena_tree.specs.Names.{heads, kids, ops_has, regions_has, OpsDistinct, RegionsDistinct}
use Rattle.xf_arena_bed.specs.Sits.{Nodes, node_at, place, head, item_of, Sits, home_of, OpsSit}
use Rattle.xf_arena_bed.specs.Sits.{RegionsSit}
use Rattle.xf_arena_tree.specs.Without.{is_not, ops_without, regions_without}
use Rattle.xf_rings.specs.Groups.{Lacks}
use Rattle.xf_rings.proofs.PathLemmas.{unlinked_other, path_other, path_joined}
use Rattle.xf_arena_bed.proofs.PlaceLemmas.{sits_placed, Placed, AllPlaced, kids_placed, apart_places}
use Rattle.xf_arena_bed.proofs.PlaceLemmas.{place_within}

abbrev pub NoneOf : OpName → List OpName → Type 0
NoneOf o [] = Unit {0}
NoneOf o (n ∷ ns) = (eqb n.0 o.0 ≡ false) × NoneOf o ns

abbrev pub Once : OpName → List OpName → Type 0
Once o [] = Unit {0}
Once o (n ∷ ns) = (eqb n.0 o.0 ≡ true → NoneOf o ns) × Once o ns

none_once : (o : OpName) (ns : List OpName) → NoneOf o ns → Once o ns
none_once o [] h = tt
none_once o (n ∷ ns) h = ((λ e. h.1), none_once o ns h.1)

none_append : (o : OpName) (ns ms : List OpName) → NoneOf o ns → NoneOf o ms → NoneOf o (ns ++ ms)
none_append o [] ms a b = b
none_append o (n ∷ ns) ms a b = (a.0, none_append o ns ms a.1 b)

once_left : (o : OpName) (ns ms : List OpName) → Once o ns → NoneOf o ms → Once o (ns ++ ms)
once_left o [] ms a b = none_once o ms b
once_left o (n ∷ ns) ms a b = ((λ e. none_append o ns ms (a.0 e) b), once_left o ns ms a.1 b)

once_right : (o : OpName) (ns ms : List OpName) → NoneOf o ns → Once o ms → Once o (ns ++ ms)
once_right o [] ms a b = b
once_right o (n ∷ ns) ms a b = ((λ e. let q : false ≡ true = sym a.0 ∙ e in cc), once_right o ns ms a.1 b)

pub none_heads : (o : OpName) (ops : Ops) → ops_has o ops ≡ false → NoneOf o (heads ops)
none_heads o no_ops h = tt
none_heads o (op n k ds os ts rs rest) h = let p = or_parts _ _ h in (p.0, none_heads o rest (or_parts _ _ p.1).1)

pub none_kids : (o : OpName) (rs : Regions) → regions_has o rs ≡ false → NoneOf o (kids rs)
none_kids o no_regions h = tt
none_kids o (region args ops rest) h = let p =
    or_parts _ _ h in none_append o (heads ops) (kids rest) (none_heads o ops p.0) (none_kids o rest p.1)

same_name : (n o : OpName) → eqb n.0 o.0 ≡ true → n ≡ o
same_name n o e = let mk : ℕ → OpName = λ x. record { 0 = x } in ap mk (eqb-true n.0 o.0 e)

heads_once : (o : OpName) (ops : Ops) → OpsDistinct ops → Once o (heads ops)
heads_once o no_ops d = tt
heads_once o (op n k ds os ts rs rest) d =
    ((λ e. none_heads o rest (rw (← same_name n o e) d.1.0)), heads_once o rest d.1.1.1.1)

pub kids_once : (o : OpName) (rs : Regions) → RegionsDistinct rs → Once o (kids rs)
kids_once o no_regions d = tt
kids_once o (region args ops rest) d =
    elim (cases_Bool (ops_has o ops)) [
      | inl e ↦ once_left o (heads ops) (kids rest) (heads_once o ops d.1.0) (none_kids o rest (d.0 o e))
      | inr e ↦ once_right o (heads ops) (kids rest) (none_heads o ops e) (kids_once o rest d.1.1)
    ]

heads_without : (o : OpName) (ops : Ops) → heads (ops_without o ops) ≡ filter (is_not o) (heads ops)
heads_without o no_ops = refl
heads_without o (op n k ds os ts rs rest) =
    elim (eqb n.0 o.0) as (λ b. heads
    (cond b (ops_without o rest) (op n k ds os ts (regions_without o rs) (ops_without o rest)))
    ≡ cond (not b) (n ∷ filter (is_not o) (heads rest)) (filter (is_not o) (heads rest)))
    [ true ↦ heads_without o rest | false ↦ ap (λ l. n ∷ l) (heads_without o rest) ]

kids_without : (o : OpName) (rs : Regions) → kids (regions_without o rs) ≡ filter (is_not o) (kids rs)
kids_without o no_regions = refl
kids_without o (region args ops rest) = rw (filter-append, heads_without o ops, kids_without o rest) refl

args_without : (o : OpName) (rs : Regions) → block_args (regions_without o rs) ≡ block_args rs
args_without o no_regions = refl
args_without o (region args ops rest) = ap (λ l. args ∷ l) (args_without o rest)

-- `o` was taken out
pub record Cut (nodes nodes2 : Nodes) (next next2 : List ℕ) (o : OpName) : Type 0 where
  pub before : ℕ
  pub size : length next ≡ 2 * length nodes
  pub placed : Placed nodes o
  pub after : After next before (item_of nodes o)
  pub links : next2 ≡ unlinked before (item_of nodes o) next
  pub places : (n : OpName) → eqb n.0 o.0 ≡ false → place n nodes2 ≡ place n nodes
  pub nodes_kept : (n : OpName) → Placed nodes n → eqb n.0 o.0 ≡ false
      → node_at nodes2 (place n nodes) ≡ node_at nodes (place n nodes)

pub lacks : (nodes : Nodes) (o : OpName) (ns : List OpName) → Placed nodes o → AllPlaced nodes ns → NoneOf o ns
    → Lacks (item_of nodes o) (map (item_of nodes) ns)
lacks nodes o [] p a h = tt
lacks nodes o (n ∷ ns) p a h = (apart_places nodes n o a.0 p (eqb-false n.0 o.0 h.0), lacks nodes o ns p a.1 h.1)

filter_none : (o : OpName) (ns : List OpName) → NoneOf o ns → filter (is_not o) ns ≡ ns
filter_none o [] h = refl
filter_none o (n ∷ ns) h = rw h.0 (ap (λ l. n ∷ l) (filter_none o ns h.1))

items_kept : (nodes nodes2 : Nodes) (o : OpName) (ns : List OpName)
    → ((n : OpName) → eqb n.0 o.0 ≡ false → place n nodes2 ≡ place n nodes)
    → map (item_of nodes2) (filter (is_not o) ns) ≡ map (item_of nodes) (filter (is_not o) ns)
items_kept nodes nodes2 o [] h = refl
items_kept nodes nodes2 o (n ∷ ns) h =
    elim (cases_Bool (eqb n.0 o.0)) [
      | inl e ↦ rw e (items_kept nodes nodes2 o ns h)
      | inr e ↦ rw (e, h n e) (ap (λ l. item_of nodes n ∷ l) (items_kept nodes nodes2 o ns h))
    ]

path_cut : (nodes nodes2 : Nodes) (next next2 : List ℕ) (o : OpName) (c : Cut nodes nodes2 next next2 o) (a : ℕ)
    (ns : List OpName) (b : ℕ) → AllPlaced nodes ns → Once o ns → a < length next → (a ≡ item_of nodes o → ⊥)
    → (b ≡ item_of nodes o → ⊥) → Path next a (map (item_of nodes) ns) b
    → Path (unlinked c.before (item_of nodes o) next) a (map (item_of nodes) (filter (is_not o) ns)) b
path_cut nodes nodes2 next next2 o c a [] b p h ha na nb q =
    path_other next c.before (item_of nodes o) a [] b c.after q na tt nb
path_cut nodes nodes2 next next2 o c a (n ∷ ns) b p h ha na nb q =
    let e = item_of nodes o in
    elim (cases_Bool (eqb n.0 o.0)) [
      | inl t ↦
          let same : item_of nodes n ≡ e = ap (item_of nodes) (same_name n o t) in
          let a_is : a ≡ c.before = c.after.only a ha (q.0 ∙ same) in
          let rest : Path next e (map (item_of nodes) ns) b = rw (← same) q.1 in
          let none = h.0 t in
          let nb2 : c.before ≡ e → ⊥ = λ i. na (a_is ∙ i) in
          let j = path_joined next c.before e (map (item_of nodes) ns) b c.after rest nb2
          (lacks nodes o ns c.placed p.1 none) nb in
          rw (t, filter_none o ns none, a_is) j
      | inr f ↦
          let ne : item_of nodes n ≡ e → ⊥ = apart_places nodes n o p.0 c.placed (eqb-false n.0 o.0 f) in
          let first = unlinked_other next c.before e a (λ i. ne (sym q.0 ∙ ap (slice_index next) i ∙ c.after.is)) na
          ∙ q.0 in
          rw f (
            first,
            path_cut nodes nodes2 next next2 o c (item_of nodes n) ns b p.1 h.1
                (omega (arith, place_within nodes n p.0, c.size)) ne nb q.1,
          )
    ]

home_cut : (nodes nodes2 : Nodes) (n : OpName) (r : ℕ) → place n nodes2 ≡ place n nodes
    → home_of nodes2 n r ≡ home_of nodes n r
home_cut nodes nodes2 n r e = rw e refl

sits_cut : (nodes nodes2 : Nodes) (next next2 : List ℕ) (o : OpName) (c : Cut nodes nodes2 next next2 o)
    (home : Option Home) (n : OpName) (k : Kind) (ds : List Attr) (os : List ValueName) (cs : List PayloadType)
    (rs : Regions) → Sits nodes next home n k ds os cs (block_args rs) (kids rs) → RegionsSit nodes next n 0 rs
    → RegionsDistinct rs → eqb n.0 o.0 ≡ false
    → Sits nodes2 next2 home n k ds os cs (block_args (regions_without o rs)) (kids (regions_without o rs))
sits_cut nodes nodes2 next next2 o c home n k ds os cs rs s rsit d f =
    let p2 : place n nodes2 ≡ place n nodes = c.places n f in
    let pl : Placed nodes n = sits_placed nodes next home n _ s.node refl in
    let w = place_within nodes n pl in
    let row = path_cut nodes nodes2 next next2 o c (head (place n nodes)) (kids rs) (head (place n nodes))
    (kids_placed nodes next n 0 rs rsit) (kids_once o rs d) (omega (arith, c.size)) (λ e. omega arith)
    (λ e. omega arith) s.row in
    record {
      node = rw (p2, args_without o rs, c.nodes_kept n pl f) s.node;
      row = rw (p2, kids_without o rs, items_kept nodes nodes2 o (kids rs) c.places, c.links) row;
    }

mutual
  pub ops_cut : (nodes nodes2 : Nodes) (next next2 : List ℕ) (o : OpName) (c : Cut nodes nodes2 next next2 o)
      (home : Option Home) (ops : Ops) → OpsSit nodes next home ops → OpsDistinct ops
      → OpsSit nodes2 next2 home (ops_without o ops)
  ops_cut nodes nodes2 next next2 o c home no_ops s d = tt
  ops_cut nodes nodes2 next next2 o c home (op n k ds os ts rs rest) s d =
      elim (cases_Bool (eqb n.0 o.0)) [
        | inl t ↦ rw t (ops_cut nodes nodes2 next next2 o c home rest s.1.1 d.1.1.1.1)
        | inr f ↦ rw f (
          sits_cut nodes nodes2 next next2 o c home n k ds os ts rs s.0 s.1.0 d.1.1.1.0 f,
          (
            regions_cut nodes nodes2 next next2 o c n 0 rs f s.1.0 d.1.1.1.0,
            ops_cut nodes nodes2 next next2 o c home rest s.1.1 d.1.1.1.1,
          ),
        )
      ]

  pub regions_cut : (nodes nodes2 : Nodes) (next next2 : List ℕ) (o : OpName) (c : Cut nodes nodes2 next next2 o)
      (n : OpName) (r : ℕ) (rs : Regions) → eqb n.0 o.0 ≡ false → RegionsSit nodes next n r rs → RegionsDistinct rs
      → RegionsSit nodes2 next2 n r (regions_without o rs)
  regions_cut nodes nodes2 next next2 o c n r no_regions f s d = tt
  regions_cut nodes nodes2 next next2 o c n r (region args ops rest) f s d =
      let p : place n nodes2 ≡ place n nodes = c.places n f in (
        rw p (ops_cut nodes nodes2 next next2 o c (home_of nodes n r) ops s.0 d.1.0),
        regions_cut nodes nodes2 next next2 o c n (suc r) rest f s.1 d.1.1,
      )
