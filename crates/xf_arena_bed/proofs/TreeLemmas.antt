-- Trees built from what the links have.
use Rattle.std.proofs.Common.{◌≡◌, ℕ, zero, suc, ◌+◌, ◌<◌, ◌≤◌, List, [], ◌∷◌, ◌++◌, length, take}
use Rattle.std.proofs.Common.{sym, ◌∙◌, ap, arith, refl, add-one}
use Rattle.std.specs.Prelude.{Option, Some, slice_get, slice_set, slice_index_or, option_map}
use Rattle.std.specs.Prelude.{Result, Ok, Err, IfOk}
use Rattle.xf_type.specs.declared.payload_type.PayloadType.{PayloadType}
use Rattle.xf_ir.specs.declared.name.OpName.{OpName}
use Rattle.xf_ir.specs.RuleBlocks.{block_args}
use Rattle.xf_ir.specs.Replaced.{append}
use Rattle.xf_ir.specs.Tree.{Ops, no_ops, op, Regions, region, Tree, Body, cons}
use Rattle.xf_ir.specs.View.{ops_of, regions_of, tree_size}
use Rattle.xf_ir.specs.Walk.{tree_find}
use Rattle.xf_arena_tree.specs.Names.{OpsDistinct}
use Rattle.xf_arena_tree.specs.Puts.{bare}
use Rattle.xf_arena_tree.specs.Kids.{Inner, inner_of}
use Rattle.xf_arena_tree.specs.Rebuilds.{Child, children, inner_names, regions_push, push_all}
use Rattle.xf_arena_tree.proofs.RebuildLemmas.{children_names, push_is, AllFound, children_found, AllSmaller}
use Rattle.xf_arena_tree.proofs.RebuildLemmas.{children_smaller}
use Rattle.xf_arena_bed.specs.declared.node.Node.{Node}
use Rattle.xf_arena_bed.specs.declared.kid.Kid.{Kid}
use Rattle.xf_arena_bed.specs.Finds.{Shown, shown_node, shown_tree}
use Rattle.xf_arena_bed.specs.Kids.{inner_kids}
use Rattle.xf_arena_bed.specs.Live.{name_of}

-- ---- blocks

blank_end : (bs : List Body) (a : List PayloadType) (xs : List (List PayloadType))
    → regions_of bs ≡ bare xs → regions_of (bs ++ record { args = a; ops = no_ops } ∷ []) ≡ bare (xs ++ a ∷ [])
blank_end [] a [] e = refl
blank_end [] a (x ∷ xs) e = cc
blank_end (b ∷ bs) a [] e = cc
blank_end (b ∷ bs) a (x ∷ xs) e =
    let p : b.args ≡ x = cc in
    let q : b.ops ≡ no_ops = cc in
    let r = blank_end bs a xs (cc) in
    rw (p, q, r) refl

take_end : (i : ℕ) (xs : List (List PayloadType)) (a : List PayloadType) → slice_get xs i ≡ Some a
    → take i xs ++ a ∷ [] ≡ take (suc i) xs
take_end zero [] a e = cc
take_end zero (x ∷ xs) a e = (let q : x ≡ a = cc in rw q refl)
take_end (suc i) [] a e = cc
take_end (suc i) (x ∷ xs) a e = ap (λ l. x ∷ l) (take_end i xs a e)

pub blank_next : (bs bs2 : List Body) (i : ℕ) (xs : List (List PayloadType)) (a b : List PayloadType) (ops : Ops)
    → regions_of bs ≡ bare (take i xs) → slice_get xs i ≡ Some a → b ≡ a → ops ≡ no_ops
    → bs2 ≡ bs ++ record { args = b; ops = ops } ∷ [] → regions_of bs2 ≡ bare (take (i + 1) xs)
blank_next bs bs2 i xs a b ops e g q z w =
    rw (w, q, z) (blank_end bs a (take i xs) e
    ∙ ap bare (take_end i xs a g ∙ ap (λ j. take j xs) (sym (add-one i))))

-- ---- a tree at the end of a block

pub ops_end : (ts : List Tree) (t : Tree) → ops_of (ts ++ t ∷ []) ≡ append (ops_of ts) (cons t no_ops)
ops_end [] t = refl
ops_end (x ∷ ts) t = ap (op x.name x.kind x.attrs x.operands x.results x.regions) (ops_end ts t)

pub pushed : (bs : List Body) (k : ℕ) (t : Tree) (b d : Body) → k < length bs
    → b ≡ record (slice_index_or bs k d) { ops = append (slice_index_or bs k d).ops (cons t no_ops) }
    → regions_of (slice_set bs k b) ≡ regions_push k t (regions_of bs)
pushed [] k t b d h e = absurd (omega arith)
pushed (x ∷ bs) zero t b d h e = ap (λ (y : Body). region y.args y.ops (regions_of bs)) e
pushed (x ∷ bs) (suc k) t b d h e = ap (region x.args x.ops) (pushed bs k t b d (omega arith) e)

pub not_pushed : (bs : List Body) (k : ℕ) (t : Tree) → length bs ≤ k
    → regions_of bs ≡ regions_push k t (regions_of bs)
not_pushed [] k t h = refl
not_pushed (x ∷ bs) zero t h = absurd (omega arith)
not_pushed (x ∷ bs) (suc k) t h = ap (region x.args x.ops) (not_pushed bs k t (omega arith))

-- ---- what is left to be put into the tree

pub record Left (root t : Tree) (kids : List Kid) (rs : Regions) : Type 0 where
  pub left : List Child
  pub names : inner_kids kids ≡ inner_names left
  pub found : AllFound (λ x. tree_find x root) left
  pub smaller : AllSmaller (tree_size t) left
  pub built : push_all left rs ≡ t.regions

pub left_all : (p : OpName) (root t : Tree) (kids : List Kid) (rs : Regions) → OpsDistinct (cons root no_ops)
    → tree_find p root ≡ Some t → inner_kids kids ≡ inner_of 0 t.regions → rs ≡ bare (block_args t.regions)
    → Left root t kids rs
left_all p root t kids rs d e n b = record {
  left = children 0 t.regions;
  names = n ∙ sym (children_names 0 t.regions);
  found = children_found p root t d e;
  smaller = children_smaller (tree_size t) 0 t.regions (omega arith);
  built = ap (push_all (children 0 t.regions)) b ∙ push_is t.regions;
}

-- the next of them
pub record Next (root t : Tree) (k : Kid) (kids : List Kid) (rs : Regions) : Type 0 where
  pub tree : Tree
  pub found : tree_find (name_of k.id) root ≡ Some tree
  pub small : tree_size tree < tree_size t
  pub rest : Left root t kids (regions_push k.region tree rs)

pub left_next : (root t : Tree) (k : Kid) (kids : List Kid) (rs : Regions) → Left root t (k ∷ kids) rs
    → Next root t k kids rs
left_next root t k kids rs l = next_of root t k kids rs l.left l.names l.found l.smaller l.built
  where
    next_of : (root t : Tree) (k : Kid) (kids : List Kid) (rs : Regions) (cs : List Child)
        → inner_kids (k ∷ kids) ≡ inner_names cs → AllFound (λ x. tree_find x root) cs → AllSmaller (tree_size t) cs
        → push_all cs rs ≡ t.regions → Next root t k kids rs
    next_of root t k kids rs [] n f s b = cc
    next_of root t k kids rs (c ∷ cs) n f s b =
        let me : Inner = record { name = name_of k.id; region = k.region } in
        let it : Inner = record { name = c.tree.name; region = c.region } in
        let q : me ≡ it = cc in
        let names : inner_kids kids ≡ inner_names cs = cc in
        record {
          tree = c.tree;
          found = ap (λ (i : Inner). tree_find i.name root) q ∙ f.0;
          small = s.0;
          rest = record {
            left = cs;
            names = names;
            found = f.1;
            smaller = s.1;
            built = ap (λ (i : Inner). push_all cs (regions_push i.region c.tree rs)) q ∙ b;
          };
        }

pub left_none : (root t : Tree) (kids : List Kid) (rs : Regions) → kids ≡ [] → Left root t kids rs → rs ≡ t.regions
left_none root t kids rs e l = none_of rs t l.left (sym (ap inner_kids e) ∙ l.names) l.built
  where
    none_of : (rs : Regions) (t : Tree) (cs : List Child) → inner_kids [] ≡ inner_names cs → push_all cs rs ≡ t.regions
        → rs ≡ t.regions
    none_of rs t [] n b = b
    none_of rs t (c ∷ cs) n b = cc

-- ---- what a node shows

pub shown_is : (x : Node) (o : Option Tree) (t : Tree) → Some (shown_node x) ≡ option_map shown_tree o → o ≡ Some t
    → shown_node x ≡ shown_tree t
shown_is x o t e q = some_shown (shown_node x) (shown_tree t) (e ∙ ap (option_map shown_tree) q)
  where
    some_shown : (a b : Shown) → Some a ≡ Some b → a ≡ b
    some_shown a b e = cc

pub same_found : (o : Option Tree) (a b : Tree) → o ≡ Some a → o ≡ Some b → a ≡ b
same_found o a b e f = some_same a b (sym e ∙ f)
  where
    some_same : (a b : Tree) → Some a ≡ Some b → a ≡ b
    some_same a b e = cc

pub left_pushed : (root t : Tree) (k : Kid) (kids : List Kid) (rs rs2 : Regions) (made : Tree)
    → Left root t (k ∷ kids) rs
    → tree_find (name_of k.id) root ≡ Some made → rs2 ≡ regions_push k.region made rs → Left root t kids rs2
left_pushed root t k kids rs rs2 made l e q =
    let n = left_next root t k kids rs l in
    let same : made ≡ n.tree = same_found (tree_find (name_of k.id) root) made n.tree e n.found in
    let z : rs2 ≡ regions_push k.region n.tree rs = q ∙ ap (λ (x : Tree). regions_push k.region x rs) same in
    rw z n.rest

pub made_found : {E : Type 0} (r : Result Tree E) (p : OpName) (root t : Tree) (rs : Regions)
    → IfOk r (λ made. (t : Tree) → tree_find p root ≡ Some t → rs ≡ t.regions → made ≡ t)
    → tree_find p root ≡ Some t → rs ≡ t.regions → IfOk r (λ made. tree_find p root ≡ Some made)
made_found (Ok made) p root t rs h e q = e ∙ ap Some (sym (h t e q))
made_found (Err e) p root t rs h f q = tt
