-- Trees that are built from the operations that one holds.
use Rattle.std.proofs.Common.{◌≡◌, ℕ, zero, suc, ◌<◌, ◌≤◌, List, [], ◌∷◌, sym, ◌∙◌, ap, arith, refl}
use Rattle.std.proofs.Common.{Bool, true, false, eqb, inl, inr}
use Rattle.std.specs.Prelude.{Option, Some}
use Rattle.std.proofs.lemmas.Bool.{cases_Bool, eq-eqb, eqb-true}
use Rattle.xf_type.specs.declared.payload_type.PayloadType.{PayloadType}
use Rattle.xf_ir.specs.declared.name.OpName.{OpName}
use Rattle.xf_ir.specs.RuleBlocks.{block_args}
use Rattle.xf_ir.specs.Replaced.{append}
use Rattle.xf_ir.specs.Tree.{Ops, no_ops, op, Regions, no_regions, region, Tree, cons}
use Rattle.xf_ir.specs.View.{tree_size, ops_size, regions_size}
use Rattle.xf_ir.specs.Walk.{ops_find, regions_find, tree_find}
use Rattle.xf_ir.proofs.Found.{first_cases}
use Rattle.xf_arena_tree.specs.Names.{ops_has, regions_has, OpsDistinct, RegionsDistinct}
use Rattle.xf_arena_tree.specs.Puts.{bare}
use Rattle.xf_arena_tree.specs.Kids.{block_inner, inner_of}
use Rattle.xf_arena_tree.specs.Rebuilds.{Child, block_children, children, inner_names, regions_push, push_all}
use Rattle.xf_arena_tree.proofs.SplitLemmas.{find_has, find_has_regions, ops_unfound, regions_unfound}
use Rattle.xf_arena_tree.proofs.BridgeLemmas.{found_is}

-- ---- names

block_names : (r : ℕ) (ops : Ops) (more : List Child)
    → inner_names (block_children r ops more) ≡ block_inner r ops (inner_names more)
block_names r no_ops more = refl
block_names r (op n k ds os ts rs rest) more = ap (λ l. record { name = n; region = r } ∷ l) (block_names r rest more)

pub children_names : (r : ℕ) (rs : Regions) → inner_names (children r rs) ≡ inner_of r rs
children_names r no_regions = refl
children_names r (region args ops rest) =
    block_names r ops (children (suc r) rest) ∙ ap (block_inner r ops) (children_names (suc r) rest)

-- ---- built again

append_one : (pre : Ops) (t : Tree) (rest : Ops) → append (append pre (cons t no_ops)) rest ≡ append pre (cons t rest)
append_one no_ops t rest = refl
append_one (op n k ds os ts rs more) t rest = ap (op n k ds os ts rs) (append_one more t rest)

append_none : (pre : Ops) → append pre no_ops ≡ pre
append_none no_ops = refl
append_none (op n k ds os ts rs rest) = ap (op n k ds os ts rs) (append_none rest)

-- behind so many blocks
abbrev behind : Regions → Regions → Regions
behind no_regions more = more
behind (region args ops rest) more = region args ops (behind rest more)

abbrev count : Regions → ℕ
count no_regions = 0
count (region args ops rest) = suc (count rest)

push_behind : (done : Regions) (t : Tree) (args : List PayloadType) (pre : Ops) (more : Regions) (r : ℕ)
    → r ≡ count done
    → regions_push r t (behind done (region args pre more))
    ≡ behind done (region args (append pre (cons t no_ops)) more)
push_behind no_regions t args pre more zero e = refl
push_behind no_regions t args pre more (suc r) e = absurd (omega arith)
push_behind (region a o rest) t args pre more zero e = absurd (omega arith)
push_behind (region a o rest) t args pre more (suc r) e =
    ap (region a o) (push_behind rest t args pre more r (omega arith))

push_block : (done : Regions) (ops : Ops) (args : List PayloadType) (pre : Ops) (more : Regions) (cs : List Child)
    (r : ℕ)
    → r ≡ count done → push_all (block_children r ops cs) (behind done (region args pre more))
    ≡ push_all cs (behind done (region args (append pre ops) more))
push_block done no_ops args pre more cs r e =
    ap (λ (o : Ops). push_all cs (behind done (region args o more))) (sym (append_none pre))
push_block done (op n k ds os ts rs rest) args pre more cs r e =
    let t : Tree = record { name = n; kind = k; attrs = ds; operands = os; results = ts; regions = rs } in
    ap (push_all (block_children r rest cs)) (push_behind done t args pre more r e)
    ∙ push_block done rest args (append pre (cons t no_ops)) more cs r e
    ∙ ap (λ (o : Ops). push_all cs (behind done (region args o more))) (append_one pre t rest)

behind_one : (done : Regions) (args : List PayloadType) (ops : Ops) (more : Regions)
    → behind done (region args ops more) ≡ behind (behind done (region args ops no_regions)) more
behind_one no_regions args ops more = refl
behind_one (region a o rest) args ops more = ap (region a o) (behind_one rest args ops more)

count_one : (done : Regions) (args : List PayloadType) (ops : Ops)
    → count (behind done (region args ops no_regions)) ≡ suc (count done)
count_one no_regions args ops = refl
count_one (region a o rest) args ops = ap suc (count_one rest args ops)

behind_none : (done : Regions) → behind done no_regions ≡ done
behind_none no_regions = refl
behind_none (region a o rest) = ap (region a o) (behind_none rest)

push_from : (done rs : Regions) (r : ℕ) → r ≡ count done
    → push_all (children r rs) (behind done (bare (block_args rs))) ≡ behind done rs
push_from done no_regions r e = refl
push_from done (region args ops rest) r e =
    let next = behind done (region args ops no_regions) in
    push_block done ops args no_ops (bare (block_args rest)) (children (suc r) rest) r e
    ∙ ap (push_all (children (suc r) rest)) (behind_one done args ops (bare (block_args rest)))
    ∙ push_from next rest (suc r) (ap suc e ∙ sym (count_one done args ops)) ∙ sym (behind_one done args ops rest)

pub push_is : (rs : Regions) → push_all (children 0 rs) (bare (block_args rs)) ≡ rs
push_is rs = push_from no_regions rs 0 refl

-- ---- each is found

not_both : (f g : OpName → Bool) (o : OpName) → ((x : OpName) → f x ≡ true → g x ≡ false) → g o ≡ true → f o ≡ false
not_both f g o d h = elim (cases_Bool (f o)) [
  | inl a ↦ (let z : true ≡ false = sym h ∙ d o a in cc)
  | inr a ↦ a
]

name_other : (f : OpName → Bool) (n o : OpName) → f n ≡ false → f o ≡ true → eqb n.0 o.0 ≡ false
name_other f n o a b = elim (cases_Bool (eqb n.0 o.0)) [
  | inl e ↦ (
      let mk : ℕ → OpName = λ j. record { 0 = j } in
      let q : n ≡ o = ap mk (eqb-true n.0 o.0 e) in
      let z : true ≡ false = sym b ∙ ap f (sym q) ∙ a in cc)
  | inr e ↦ e
]

same_regions : (t u : Tree) → Some t ≡ Some u → u.regions ≡ t.regions
same_regions t u e = let q : t ≡ u = cc in ap (λ (y : Tree). y.regions) (sym q)

mutual
  find_inside : (p x : OpName) (ops : Ops) (t c : Tree) → OpsDistinct ops → ops_find p ops ≡ Some t
      → regions_find x t.regions ≡ Some c → ops_find x ops ≡ Some c
  find_inside p x no_ops t c d e q = cc
  find_inside p x (op n k ds os ts rs rest) t c d e q =
      elim (cases_Bool (eqb n.0 p.0)) [
        | inl h ↦ (
            let here : Tree = record { name = n; kind = k; attrs = ds; operands = os; results = ts; regions = rs } in
            let w : regions_find x rs ≡ Some c = ap (regions_find x) (sym (same_regions here t (rw h at e))) ∙ q in
            let f = name_other (λ y. regions_has y rs) n x d.0 (find_has_regions x rs c w) in
            rw (f, w) refl)
        | inr h ↦ elim (first_cases (regions_find p rs) (ops_find p rest) t (rw h at e)) [
          | inl a ↦ (
              let w = find_inside_regions p x rs t c d.1.1.1.0 a q in
              let f = name_other (λ y. regions_has y rs) n x d.0 (find_has_regions x rs c w) in
              rw (f, w) refl)
          | inr a ↦ (
              let w = find_inside p x rest t c d.1.1.1.1 a.1 q in
              let b = find_has x rest c w in
              let f = name_other (λ y. ops_has y rest) n x d.1.0 b in
              let g = regions_unfound x rs (not_both (λ y. regions_has y rs) (λ y. ops_has y rest) x d.1.1.0 b) in
              rw (f, g, w) refl)
        ]
      ]

  find_inside_regions : (p x : OpName) (rs : Regions) (t c : Tree) → RegionsDistinct rs → regions_find p rs ≡ Some t
      → regions_find x t.regions ≡ Some c → regions_find x rs ≡ Some c
  find_inside_regions p x no_regions t c d e q = cc
  find_inside_regions p x (region args ops rest) t c d e q =
      elim (first_cases (ops_find p ops) (regions_find p rest) t e) [
        | inl a ↦ (let w = find_inside p x ops t c d.1.0 a q in rw w refl)
        | inr a ↦ (
            let w = find_inside_regions p x rest t c d.1.1 a.1 q in
            let b = find_has_regions x rest c w in
            let g = ops_unfound x ops (not_both (λ y. ops_has y ops) (λ y. regions_has y rest) x d.0 b) in
            rw (g, w) refl)
      ]

abbrev pub AllFound : (OpName → Option Tree) → List Child → Type 0
AllFound f [] = Unit {0}
AllFound f (c ∷ cs) = (f c.tree.name ≡ Some c.tree) × AllFound f cs

found_map : (f g : OpName → Option Tree) (cs : List Child)
    → ((x : OpName) (t : Tree) → f x ≡ Some t → g x ≡ Some t) → AllFound f cs → AllFound g cs
found_map f g [] h a = tt
found_map f g (c ∷ cs) h a = (h c.tree.name c.tree a.0, found_map f g cs h a.1)

-- what a block and then others hold
block_found : (r : ℕ) (ops : Ops) (g : OpName → Option Tree) (more : List Child) → OpsDistinct ops
    → ((x : OpName) (t : Tree) → ops_find x ops ≡ Some t → g x ≡ Some t) → AllFound g more
    → AllFound g (block_children r ops more)
block_found r no_ops g more d h a = a
block_found r (op n k ds os ts rs rest) g more d h a =
    let here : Tree = record { name = n; kind = k; attrs = ds; operands = os; results = ts; regions = rs } in
    let own : eqb n.0 n.0 ≡ true = eq-eqb n.0 n.0 refl in (
      h n here (rw own refl),
      block_found r rest g more d.1.1.1.1 (λ x t e. h x t (
          let b = find_has x rest t e in
          let f = name_other (λ y. ops_has y rest) n x d.1.0 b in
          let q = regions_unfound x rs (not_both (λ y. regions_has y rs) (λ y. ops_has y rest) x d.1.1.0 b) in
          rw (f, q, e) refl)) a,
    )

regions_found : (r : ℕ) (rs : Regions) (g : OpName → Option Tree) → RegionsDistinct rs
    → ((x : OpName) (t : Tree) → regions_find x rs ≡ Some t → g x ≡ Some t) → AllFound g (children r rs)
regions_found r no_regions g d h = tt
regions_found r (region args ops rest) g d h =
    block_found r ops g (children (suc r) rest) d.1.0 (λ x t e. h x t (rw e refl))
    (regions_found (suc r) rest g d.1.1 (λ x t e. h x t (
    let b = find_has_regions x rest t e in
    let q = ops_unfound x ops (not_both (λ y. ops_has y ops) (λ y. regions_has y rest) x d.0 b) in
    rw (q, e) refl)))

mutual
  inner_distinct : (p : OpName) (ops : Ops) (t : Tree) → OpsDistinct ops → ops_find p ops ≡ Some t
      → RegionsDistinct t.regions
  inner_distinct p no_ops t d e = cc
  inner_distinct p (op n k ds os ts rs rest) t d e =
      elim (cases_Bool (eqb n.0 p.0)) [
        | inl h ↦ (
            let here : Tree = record { name = n; kind = k; attrs = ds; operands = os; results = ts; regions = rs } in
            let w = same_regions here t (rw h at e) in
            rw w d.1.1.1.0)
        | inr h ↦ elim (first_cases (regions_find p rs) (ops_find p rest) t (rw h at e)) [
          | inl a ↦ inner_distinct_regions p rs t d.1.1.1.0 a
          | inr a ↦ inner_distinct p rest t d.1.1.1.1 a.1
        ]
      ]

  inner_distinct_regions : (p : OpName) (rs : Regions) (t : Tree) → RegionsDistinct rs → regions_find p rs ≡ Some t
      → RegionsDistinct t.regions
  inner_distinct_regions p no_regions t d e = cc
  inner_distinct_regions p (region args ops rest) t d e =
      elim (first_cases (ops_find p ops) (regions_find p rest) t e) [
        | inl a ↦ inner_distinct p ops t d.1.0 a
        | inr a ↦ inner_distinct_regions p rest t d.1.1 a.1
      ]

-- what a found operation holds is found
pub children_found : (p : OpName) (root t : Tree) → OpsDistinct (cons root no_ops) → tree_find p root ≡ Some t
    → AllFound (λ x. tree_find x root) (children 0 t.regions)
children_found p root t d e =
    let f = found_is p root ∙ e in
    regions_found 0 t.regions (λ x. tree_find x root) (inner_distinct p (cons root no_ops) t d f)
    (λ x c q. sym (found_is x root) ∙ find_inside p x (cons root no_ops) t c d f q)

-- ---- each is smaller

abbrev pub AllSmaller : ℕ → List Child → Type 0
AllSmaller n [] = Unit {0}
AllSmaller n (c ∷ cs) = (tree_size c.tree < n) × AllSmaller n cs

smaller_more : (n m : ℕ) (cs : List Child) → n ≤ m → AllSmaller n cs → AllSmaller m cs
smaller_more n m [] h a = tt
smaller_more n m (c ∷ cs) h a = ((let z = a.0 in omega arith), smaller_more n m cs h a.1)

block_smaller : (n r : ℕ) (ops : Ops) (more : List Child) → ops_size ops ≤ n → AllSmaller n more
    → AllSmaller n (block_children r ops more)
block_smaller n r no_ops more h a = a
block_smaller n r (op m k ds os ts rs rest) more h a = (omega arith, block_smaller n r rest more (omega arith) a)

pub children_smaller : (n r : ℕ) (rs : Regions) → regions_size rs ≤ n → AllSmaller n (children r rs)
children_smaller n r no_regions h = tt
children_smaller n r (region args ops rest) h =
    block_smaller n r ops (children (suc r) rest) (omega arith) (children_smaller n (suc r) rest (omega arith))
