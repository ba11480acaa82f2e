-- A body that is a reduction stays one under other names, no two of which become one.
use Rattle.std.proofs.Common.{◌≡◌, ◌+◌, ◌-◌, Bool, true, false, cond, not, eqb, List, [], ◌∷◌, ◌++◌, Option, None, Some}
use Rattle.std.proofs.Common.{inl, inr, refl, sym, ap, ◌∙◌}
use Rattle.std.specs.Prelude.{◌&&◌, ◌||◌, ◌==◌, map}
use Rattle.std.proofs.lemmas.Bool.{cases_Bool}
use Rattle.std.proofs.lemmas.List.{map-append, length-map}
use Rattle.xf_ir.specs.declared.kind.Kind.{Kind}
use Rattle.xf_ir.specs.declared.kind.Kind.TheVariants as kind
use Rattle.xf_ir.specs.declared.name.OpName.{OpName}
use Rattle.xf_ir.specs.declared.name.ValueName.{ValueName}
use Rattle.xf_ir.specs.declared.name.ValueName.TheVariants.{Result, Arg, Free}
use Rattle.xf_ir.specs.Lists.{Each, is_among, some}
use Rattle.xf_ir.specs.Placed.{Placed, block_of}
use Rattle.xf_ir.specs.RuleLinalg.{only_value, yielded, definer, depends, dependents, all_dependents, is_apart}
use Rattle.xf_ir.specs.RuleLinalg.{is_combiner, joins_out, combines, is_reduction, has_reduction, out_argument, reduces}
use Rattle.xf_ir.specs.RuleLinalg.{has_its_reduction}
use Rattle.xf_ir.specs.Tree.{Ops, no_ops, op, Regions, no_regions, region, Tree}
use Rattle.xf_ir.specs.Uses.{ops_operands, regions_operands, same_value, use_count}
use Rattle.xf_ir.specs.Walk.{ops_names, regions_names, first_of, ops_find, regions_find}
use Rattle.xf_ir.proofs.Found.{tree}
use Rattle.xf_ir.proofs.Lists.{at_cases, each_left, each_right}
use Rattle.xf_ir.specs.Renamed.{value_renamed, ops_renamed, regions_renamed, tree_renamed}
use Rattle.xf_ir_laws.proofs.RenamedPlaces.{StayApart, same_test, IsOf, placed_renamed}
use Rattle.xf_ir_laws.proofs.RenamedRules.{renamed_or, block_same}

-- the names of an operation and of what it holds are among these, and the values that it holds are of such operations
pub record IsKnown (all : List OpName) (p : Placed) : Type 0 where
  pub name : is_among p.tree.name all ≡ true
  pub names : Each (λ n. is_among n all ≡ true) (regions_names p.tree.regions)
  pub operands : Each (IsOf all) (regions_operands p.tree.regions)

block_names : (P : OpName → Type 0) (rs : Regions) → Each P (regions_names rs) → Each P (ops_names (block_of rs))
block_names P no_regions h = tt
block_names P (region args ops rest) h = each_left P (ops_names ops) (regions_names rest) h

block_operands : (P : ValueName → Type 0) (rs : Regions) → Each P (regions_operands rs)
    → Each P (ops_operands (block_of rs))
block_operands P no_regions h = tt
block_operands P (region args ops rest) h = each_left P (ops_operands ops) (regions_operands rest) h

-- ---- values

abbrev value_or : (OpName → OpName) → Option ValueName → Option ValueName
value_or f None = None
value_or f (Some v) = Some (value_renamed f v)

only_same : (f : OpName → OpName) (vs : List ValueName)
    → only_value (map (value_renamed f) vs) ≡ value_or f (only_value vs)
only_same f [] = refl
only_same f (v ∷ []) = refl
only_same f (v ∷ (w ∷ vs)) = refl

yielded_same : (f : OpName → OpName) (ops : Ops) → yielded (ops_renamed f ops) ≡ value_or f (yielded ops)
yielded_same f no_ops = refl
yielded_same f (op n k ds os ts rs no_ops) = only_same f os
yielded_same f (op n k ds os ts rs (op n' k' ds' os' ts' rs' rest)) = yielded_same f (op n' k' ds' os' ts' rs' rest)

mutual
  operands_same : (f : OpName → OpName) (ops : Ops)
      → ops_operands (ops_renamed f ops) ≡ map (value_renamed f) (ops_operands ops)
  operands_same f no_ops = refl
  operands_same f (op n k ds os ts rs rest) =
      let a = operands_in_same f rs in
      let b = operands_same f rest in
      let g = value_renamed f in
      (λ i. map g os ++ (a i ++ b i))
      ∙ ap (λ vs. map g os ++ vs) (sym (map-append g (regions_operands rs) (ops_operands rest)))
      ∙ sym (map-append g os (regions_operands rs ++ ops_operands rest))

  operands_in_same : (f : OpName → OpName) (rs : Regions)
      → regions_operands (regions_renamed f rs) ≡ map (value_renamed f) (regions_operands rs)
  operands_in_same f no_regions = refl
  operands_in_same f (region args ops rest) =
      let a = operands_same f ops in
      let b = operands_in_same f rest in
      (λ i. a i ++ b i) ∙ sym (map-append (value_renamed f) (ops_operands ops) (regions_operands rest))

first_same : (f : OpName → OpName) (a b : Option Tree)
    → first_of (renamed_or f a) (renamed_or f b) ≡ renamed_or f (first_of a b)
first_same f None b = refl
first_same f (Some t) b = refl

-- ---- the values of operations that are known

-- where there is a value, it is of one of these operations
abbrev ValueOf : List OpName → Option ValueName → Type 0
ValueOf all None = Unit {0}
ValueOf all (Some v) = IsOf all v

-- where there is an operation, its operands are of these operations
abbrev OperandsOf : List OpName → Option Tree → Type 0
OperandsOf all None = Unit {0}
OperandsOf all (Some t) = Each (IsOf all) t.operands

only_of : (all : List OpName) (vs : List ValueName) → Each (IsOf all) vs → ValueOf all (only_value vs)
only_of all [] h = tt
only_of all (v ∷ []) h = h.0
only_of all (v ∷ (w ∷ vs)) h = tt

yielded_of : (all : List OpName) (ops : Ops) → Each (IsOf all) (ops_operands ops) → ValueOf all (yielded ops)
yielded_of all no_ops h = tt
yielded_of all (op n k ds os ts rs no_ops) h = only_of all os (each_left (IsOf all) os (regions_operands rs ++ []) h)
yielded_of all (op n k ds os ts rs (op n' k' ds' os' ts' rs' rest)) h =
    let later = ops_operands (op n' k' ds' os' ts' rs' rest) in
    yielded_of all (op n' k' ds' os' ts' rs' rest)
    (each_right (IsOf all) (regions_operands rs) later (each_right (IsOf all) os (regions_operands rs ++ later) h))

first_operands : (all : List OpName) (a b : Option Tree) → OperandsOf all a → OperandsOf all b
    → OperandsOf all (first_of a b)
first_operands all None b h k = k
first_operands all (Some t) b h k = h

mutual
  found_of : (all : List OpName) (o : OpName) (ops : Ops) → Each (IsOf all) (ops_operands ops)
      → OperandsOf all (ops_find o ops)
  found_of all o no_ops h = tt
  found_of all o (op n k ds os ts rs rest) h =
      let inner = regions_operands rs in
      let later = ops_operands rest in
      let b = each_right (IsOf all) os (inner ++ later) h in
      let own = at_cases (eqb n.0 o.0) (Some (tree n k ds os ts rs)) (regions_find o rs) (OperandsOf all)
      (λ _. each_left (IsOf all) os (inner ++ later) h)
      (λ _. found_in_of all o rs (each_left (IsOf all) inner later b)) in
      first_operands all _ (ops_find o rest) own (found_of all o rest (each_right (IsOf all) inner later b))

  found_in_of : (all : List OpName) (o : OpName) (rs : Regions) → Each (IsOf all) (regions_operands rs)
      → OperandsOf all (regions_find o rs)
  found_in_of all o no_regions h = tt
  found_in_of all o (region args ops rest) h =
      first_operands all (ops_find o ops) (regions_find o rest)
      (found_of all o ops (each_left (IsOf all) (ops_operands ops) (regions_operands rest) h))
      (found_in_of all o rest (each_right (IsOf all) (ops_operands ops) (regions_operands rest) h))

definer_of : (all : List OpName) (body : Ops) (v : Option ValueName) → Each (IsOf all) (ops_operands body)
    → OperandsOf all (definer body v)
definer_of all body None h = tt
definer_of all body (Some (Result o num)) h = found_of all o body h
definer_of all body (Some (Arg o r num)) h = tt
definer_of all body (Some (Free num)) h = tt

-- ---- tests of names

module _ (f : OpName → OpName) (all : List OpName) (stay : StayApart f all) where
  abbrev In : OpName → Type 0
  In n = is_among n all ≡ true

  value_same : (v w : ValueName) → IsOf all v → IsOf all w
      → same_value (value_renamed f v) (value_renamed f w) ≡ same_value v w
  value_same (Result o num) (Result o' num') h k = ap (λ b. b && (num == num')) (same_test f all o o' stay h k)
  value_same (Result o num) (Arg o' r' num') h k = refl
  value_same (Result o num) (Free num') h k = refl
  value_same (Arg o r num) (Result o' num') h k = refl
  value_same (Arg o r num) (Arg o' r' num') h k =
      ap (λ b. b && ((r == r') && (num == num'))) (same_test f all o o' stay h k)
  value_same (Arg o r num) (Free num') h k = refl
  value_same (Free num) (Result o' num') h k = refl
  value_same (Free num) (Arg o' r' num') h k = refl
  value_same (Free num) (Free num') h k = refl

  among_same : (n : OpName) (ns : List OpName) → In n → Each In ns → is_among (f n) (map f ns) ≡ is_among n ns
  among_same n [] h k = refl
  among_same n (m ∷ ns) h k =
      let a = same_test f all m n stay k.0 h in
      let b = among_same n ns h k.1 in
      λ i. a i || b i

  count_same : (v : ValueName) (ws : List ValueName) → IsOf all v → Each (IsOf all) ws
      → use_count (value_renamed f v) (map (value_renamed f) ws) ≡ use_count v ws
  count_same v [] h k = refl
  count_same v (w ∷ ws) h k =
      let a = value_same w v k.0 h in
      let b = count_same v ws h k.1 in
      λ i. cond (a i) (b i + 1) (b i)

  mutual
    find_same : (o : OpName) (ops : Ops) → In o → Each In (ops_names ops)
        → ops_find (f o) (ops_renamed f ops) ≡ renamed_or f (ops_find o ops)
    find_same o no_ops h k = refl
    find_same o (op n kd ds os ts rs rest) h k =
        let e = same_test f all n o stay k.0 h in
        let a = find_in_same o rs h (each_left In (regions_names rs) (ops_names rest) k.1) in
        let b = find_same o rest h (each_right In (regions_names rs) (ops_names rest) k.1) in
        elim (cases_Bool (eqb n.0 o.0)) [
          | inl t ↦ (let e' = e ∙ t in rw (e', t) refl)
          | inr t ↦ (let e' = e ∙ t in rw (e', t, a, b) (first_same f (regions_find o rs) (ops_find o rest)))
        ]

    find_in_same : (o : OpName) (rs : Regions) → In o → Each In (regions_names rs)
        → regions_find (f o) (regions_renamed f rs) ≡ renamed_or f (regions_find o rs)
    find_in_same o no_regions h k = refl
    find_in_same o (region args ops rest) h k =
        let a = find_same o ops h (each_left In (ops_names ops) (regions_names rest) k) in
        let b = find_in_same o rest h (each_right In (ops_names ops) (regions_names rest) k) in
        (λ i. first_of (a i) (b i)) ∙ first_same f (ops_find o ops) (regions_find o rest)

  definer_same : (body : Ops) (v : Option ValueName) → ValueOf all v → Each In (ops_names body)
      → definer (ops_renamed f body) (value_or f v) ≡ renamed_or f (definer body v)
  definer_same body None h k = refl
  definer_same body (Some (Result o num)) h k = find_same o body h k
  definer_same body (Some (Arg o r num)) h k = refl
  definer_same body (Some (Free num)) h k = refl

  -- ---- what depends on the out argument

  depends_same : (out v : ValueName) (ns : List OpName) → IsOf all out → IsOf all v → Each In ns
      → depends (value_renamed f out) (map f ns) (value_renamed f v) ≡ depends out ns v
  depends_same out (Result o num) ns h k w =
      let a = value_same out (Result o num) h k in
      let b = among_same o ns k w in
      λ i. a i || b i
  depends_same out (Arg o r num) ns h k w = value_same out (Arg o r num) h k
  depends_same out (Free num) ns h k w = value_same out (Free num) h k

  some_same : (out : ValueName) (vs : List ValueName) (ns : List OpName)
      → IsOf all out → Each (IsOf all) vs → Each In ns
      → some (depends (value_renamed f out) (map f ns)) (map (value_renamed f) vs) ≡ some (depends out ns) vs
  some_same out [] ns h k w = refl
  some_same out (v ∷ vs) ns h k w =
      let a = depends_same out v ns h k.0 w in
      let b = some_same out vs ns h k.1 w in
      λ i. a i || b i

  added_same : (b : Bool) (n : OpName) (ns : List OpName)
      → cond b (f n ∷ map f ns) (map f ns) ≡ map f (cond b (n ∷ ns) ns)
  added_same true n ns = refl
  added_same false n ns = refl

  added_in : (b : Bool) (n : OpName) (ns : List OpName) → In n → Each In ns → Each In (cond b (n ∷ ns) ns)
  added_in true n ns h k = (h, k)
  added_in false n ns h k = k

  dependents_in : (out : ValueName) (ops : Ops) (ns : List OpName) → Each In (ops_names ops) → Each In ns
      → Each In (dependents out ops ns)
  dependents_in out no_ops ns k w = w
  dependents_in out (op n kd ds os ts rs rest) ns k w =
      dependents_in out rest (cond (some (depends out ns) os) (n ∷ ns) ns)
      (each_right In (regions_names rs) (ops_names rest) k.1) (added_in (some (depends out ns) os) n ns k.0 w)

  dependents_same : (out : ValueName) (ops : Ops) (ns : List OpName) → IsOf all out → Each (IsOf all) (ops_operands ops)
      → Each In (ops_names ops) → Each In ns
      → dependents (value_renamed f out) (ops_renamed f ops) (map f ns) ≡ map f (dependents out ops ns)
  dependents_same out no_ops ns h u k w = refl
  dependents_same out (op n kd ds os ts rs rest) ns h u k w =
      let inner = regions_operands rs in
      let later = ops_operands rest in
      let b : Bool = some (depends out ns) os in
      let e = some_same out os ns h (each_left (IsOf all) os (inner ++ later) u) w in
      let q = ap (λ x. cond x (f n ∷ map f ns) (map f ns)) e ∙ added_same b n ns in
      ap (dependents (value_renamed f out) (ops_renamed f rest)) q
      ∙ dependents_same out rest (cond b (n ∷ ns) ns) h (each_right (IsOf all) inner later (each_right (IsOf all) os
      (inner ++ later) u)) (each_right In (regions_names rs) (ops_names rest) k.1) (added_in b n ns k.0 w)

  all_dependents_in : (out : ValueName) (ops body : Ops) (ns : List OpName) → Each In (ops_names body) → Each In ns
      → Each In (all_dependents out ops body ns)
  all_dependents_in out no_ops body ns k w = w
  all_dependents_in out (op n kd ds os ts rs rest) body ns k w =
      all_dependents_in out rest body (dependents out body ns) k (dependents_in out body ns k w)

  all_dependents_same : (out : ValueName) (ops body : Ops) (ns : List OpName) → IsOf all out
      → Each (IsOf all) (ops_operands body) → Each In (ops_names body) → Each In ns
      → all_dependents (value_renamed f out) (ops_renamed f ops) (ops_renamed f body) (map f ns)
      ≡ map f (all_dependents out ops body ns)
  all_dependents_same out no_ops body ns h u k w = refl
  all_dependents_same out (op n kd ds os ts rs rest) body ns h u k w =
      ap (all_dependents (value_renamed f out) (ops_renamed f rest) (ops_renamed f body))
      (dependents_same out body ns h u k w)
      ∙ all_dependents_same out rest body (dependents out body ns) h u k (dependents_in out body ns k w)

  -- ---- reductions

  module _ (out : ValueName) (body : Ops) (h : IsOf all out) (u : Each (IsOf all) (ops_operands body))
      (k : Each In (ops_names body)) where
    apart_same : (v : ValueName) → IsOf all v
        → is_apart (value_renamed f out) (ops_renamed f body) (value_renamed f v) ≡ is_apart out body v
    apart_same v w =
        let a = all_dependents_same out body body [] h u k tt in
        ap not (ap (λ ns. depends (value_renamed f out) ns (value_renamed f v)) a
        ∙ depends_same out v (all_dependents out body body []) h w (all_dependents_in out body body [] k tt))

    joins_same : (vs : List ValueName) → Each (IsOf all) vs
        → joins_out (value_renamed f out) (ops_renamed f body) (map (value_renamed f) vs) ≡ joins_out out body vs
    joins_same [] w = refl
    joins_same (v ∷ []) w = refl
    joins_same (v ∷ (v' ∷ [])) w =
        let a = value_same v out w.0 h in
        let b = apart_same v' w.1.0 in
        let c = value_same v' out w.1.0 h in
        let d = apart_same v w.0 in
        λ i. (a i && b i) || (c i && d i)
    joins_same (v ∷ (v' ∷ (v'' ∷ vs))) w = refl

    combines_same : (o : Option Tree) → OperandsOf all o
        → combines (value_renamed f out) (ops_renamed f body) (renamed_or f o) ≡ combines out body o
    combines_same None w = refl
    combines_same (Some t) w = ap (λ b. is_combiner t.kind && b) (joins_same t.operands w)

    pub reduction_same : is_reduction (value_renamed f out) (ops_renamed f body) ≡ is_reduction out body
    reduction_same =
        let d = ap (definer (ops_renamed f body)) (yielded_same f body)
        ∙ definer_same body (yielded body) (yielded_of all body u) k in
        let a = ap (combines (value_renamed f out) (ops_renamed f body)) d
        ∙ combines_same (definer body (yielded body)) (definer_of all body (yielded body) u) in
        let b = ap (use_count (value_renamed f out)) (operands_same f body) ∙ count_same out (ops_operands body) h u in
        λ i. a i && (b i == 1)

  reduces_same : (k : Kind) (p : Placed) → IsKnown all p → reduces k (tree_renamed f p.tree) ≡ reduces k p.tree
  reduces_same (kind.Generic maps iterators) p w =
      let t : Tree = p.tree in
      let body : Ops = block_of t.regions in
      let count = length-map t.operands (value_renamed f) in
      let e = block_same f t.regions in
      let same = reduction_same (out_argument t) body w.name (block_operands (IsOf all) t.regions w.operands)
      (block_names In t.regions w.names) in
      ap (λ b. not (has_reduction iterators) || b) ((λ i. is_reduction (Arg (f t.name) 0 (count i - 1)) (e i)) ∙ same)
  reduces_same _ p w = refl

  pub reductions_same : (p : Placed) → IsKnown all p → has_its_reduction (placed_renamed f p) ≡ has_its_reduction p
  reductions_same p w = reduces_same p.tree.kind p w
