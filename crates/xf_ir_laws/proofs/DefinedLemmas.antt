-- What a tree defines, it defines with other operands, with a tree put into it, and without a tree that does not define
-- it.
use Rattle.std.proofs.Common.{◌≡◌, ℕ, zero, suc, List, ◌||◌, length, Bool, true, false, eqb, Some, is_some, refl}
use Rattle.std.proofs.lemmas.Bool.{or_parts}
use Rattle.xf_ir.specs.declared.name.OpName.{OpName}
use Rattle.xf_ir.specs.declared.name.ValueName.{ValueName}
use Rattle.xf_ir.specs.declared.change.Change.{Change}
use Rattle.xf_ir.specs.declared.spot.Spot.{Spot}
use Rattle.xf_ir.specs.Tree.{Ops, no_ops, op, Regions, no_regions, region, Tree}
use Rattle.xf_ir.specs.Walk.{tree_names, regions_find}
use Rattle.xf_ir.specs.Lists.{Once}
use Rattle.xf_ir.specs.Places.{results_of, args_of}
use Rattle.xf_ir.specs.Changes.{ops_changed, regions_changed, tree_changed}
use Rattle.xf_ir.specs.Spots.{ops_insert, regions_insert, ops_put, regions_put, tree_put}
use Rattle.xf_ir.specs.Defined.{ops_define, regions_define, is_defined_in}
use Rattle.xf_ir.specs.Edits.{ops_at, regions_at, tail, tree_erased}
use Rattle.xf_ir.proofs.Lists.{at_cases}
use Rattle.xf_ir.proofs.Found.{OpsWhere, RegionsWhere, where_found_regions}

or_behind : (a b b' : Bool) → (b ≡ true → b' ≡ true) → (a || b) ≡ true → (a || b') ≡ true
or_behind true b b' f h = refl
or_behind false b b' f h = f h

or_each : (a a' b b' : Bool) → (a ≡ true → a' ≡ true) → (b ≡ true → b' ≡ true) → (a || b) ≡ true → (a' || b') ≡ true
or_each true a' b b' f g h = (let z = f refl in rw z refl)
or_each false true b b' f g h = refl
or_each false false b b' f g h = g h

or_last : (a b c : Bool) → a ≡ false → b ≡ false → (a || (b || c)) ≡ true → c ≡ true
or_last false false c p q h = h
or_last false true c p q h = absurd (cc)
or_last true b c p q h = absurd (cc)

or_second : (a b : Bool) → b ≡ true → (a || b) ≡ true
or_second true b h = refl
or_second false b h = h

-- ---- other operands

mutual
  changed : (cs : List Change) (ops : Ops) (v : ValueName) → ops_define (ops_changed cs ops) v ≡ ops_define ops v
  changed cs no_ops v = refl
  changed cs (op n k ds os ts rs rest) v =
      (let a = changed_regions cs n 0 rs v in let b = changed cs rest v in rw (a, b) refl)

  changed_regions : (cs : List Change) (n : OpName) (i : ℕ) (rs : Regions) (v : ValueName)
      → regions_define n i (regions_changed cs rs) v ≡ regions_define n i rs v
  changed_regions cs n i no_regions v = refl
  changed_regions cs n i (region args ops rest) v =
      (let a = changed cs ops v in let b = changed_regions cs n (suc i) rest v in rw (a, b) refl)

pub defined_changed : (cs : List Change) (t : Tree) (v : ValueName)
    → is_defined_in (tree_changed cs t) v ≡ is_defined_in t v
defined_changed cs t v = (let a = changed_regions cs t.name 0 t.regions v in rw a refl)

-- ---- a tree more

inserted : (i : ℕ) (t : Tree) (ops : Ops) (v : ValueName) → ops_define ops v ≡ true
    → ops_define (ops_insert i t ops) v ≡ true
inserted zero t ops v h =
    or_second (is_some (results_of t.name (length t.results) v)) _ (or_second (regions_define t.name 0 t.regions v) _ h)
inserted (suc i) t no_ops v h = h
inserted (suc i) t (op n k ds os ts rs rest) v h =
    or_behind (is_some (results_of n (length ts) v)) _ _
    (or_behind (regions_define n 0 rs v) _ _ (inserted i t rest v)) h

inserted_regions : (r i : ℕ) (t : Tree) (n : OpName) (j : ℕ) (rs : Regions) (v : ValueName)
    → regions_define n j rs v ≡ true → regions_define n j (regions_insert r i t rs) v ≡ true
inserted_regions r i t n j no_regions v h = h
inserted_regions zero i t n j (region args ops rest) v h =
    or_behind (is_some (args_of n j (length args) v)) _ _
    (or_each (ops_define ops v) _ _ _ (inserted i t ops v) (λ d. d)) h
inserted_regions (suc r) i t n j (region args ops rest) v h =
    or_behind (is_some (args_of n j (length args) v)) _ _
    (or_behind (ops_define ops v) _ _ (inserted_regions r i t n (suc j) rest v)) h

mutual
  put : (s : Spot) (t : Tree) (ops : Ops) (v : ValueName) → ops_define ops v ≡ true
      → ops_define (ops_put s t ops) v ≡ true
  put s t no_ops v h = h
  put s t (op n k ds os ts rs rest) v h =
      let inner = at_cases (eqb n.0 s.parent.0) (regions_insert s.region s.at t rs) (regions_put s t rs)
      (λ x. regions_define n 0 rs v ≡ true → regions_define n 0 x v ≡ true)
      (λ _. inserted_regions s.region s.at t n 0 rs v) (λ _. put_regions s t n 0 rs v) in
      or_behind (is_some (results_of n (length ts) v)) _ _
      (or_each (regions_define n 0 rs v) _ (ops_define rest v) _ inner (put s t rest v)) h

  put_regions : (s : Spot) (t : Tree) (n : OpName) (i : ℕ) (rs : Regions) (v : ValueName)
      → regions_define n i rs v ≡ true → regions_define n i (regions_put s t rs) v ≡ true
  put_regions s t n i no_regions v h = h
  put_regions s t n i (region args ops rest) v h =
      or_behind (is_some (args_of n i (length args) v)) _ _
      (or_each (ops_define ops v) _ _ _ (put s t ops v) (put_regions s t n (suc i) rest v)) h

pub defined_put : (s : Spot) (t root : Tree) (v : ValueName) → is_defined_in root v ≡ true
    → is_defined_in (tree_put s t root) v ≡ true
defined_put s t root v h =
    let n = root.name in
    let rs = root.regions in
    let inner = at_cases (eqb n.0 s.parent.0) (regions_insert s.region s.at t rs) (regions_put s t rs)
    (λ x. regions_define n 0 rs v ≡ true → regions_define n 0 x v ≡ true)
    (λ _. inserted_regions s.region s.at t n 0 rs v) (λ _. put_regions s t n 0 rs v) in
    or_behind (is_some (results_of n (length root.results) v)) _ _ inner h

-- ---- a tree less

abbrev Lacks : ValueName → Tree → Type 0
Lacks v t = is_defined_in t v ≡ false

mutual
  left : (name : OpName) (ops : Ops) (v : ValueName) → OpsWhere name (Lacks v) ops → ops_define ops v ≡ true
      → ops_define (ops_at name tail ops) v ≡ true
  left name no_ops v w h = h
  left name (op n k ds os ts rs rest) v w h =
      at_cases (eqb n.0 name.0) rest (op n k ds os ts (regions_at name tail rs) (ops_at name tail rest))
      (λ o. ops_define o v ≡ true)
      (λ e. let p = or_parts (is_some (results_of n (length ts) v)) (regions_define n 0 rs v) (w.0 e) in
      or_last _ _ (ops_define rest v) p.0 p.1 h)
      (λ _. or_behind (is_some (results_of n (length ts) v)) _ _
      (or_each (regions_define n 0 rs v) _ _ _ (left_regions name n 0 rs v w.1.0) (left name rest v w.1.1)) h)

  left_regions : (name n : OpName) (i : ℕ) (rs : Regions) (v : ValueName) → RegionsWhere name (Lacks v) rs
      → regions_define n i rs v ≡ true → regions_define n i (regions_at name tail rs) v ≡ true
  left_regions name n i no_regions v w h = h
  left_regions name n i (region args ops rest) v w h =
      or_behind (is_some (args_of n i (length args) v)) _ _
      (or_each (ops_define ops v) _ _ _ (left name ops v w.0) (left_regions name n (suc i) rest v w.1)) h

-- where names occur once, what the erased operation does not define is still defined
pub defined_left : (name : OpName) (root t : Tree) (v : ValueName) → Once (tree_names root)
    → regions_find name root.regions ≡ Some t → is_defined_in t v ≡ false → is_defined_in root v ≡ true
    → is_defined_in (tree_erased name root) v ≡ true
defined_left name root t v o f g h =
    let w = where_found_regions name (Lacks v) t root.regions o.1 f g in
    or_behind (is_some (results_of root.name (length root.results) v)) _ _
    (left_regions name root.name 0 root.regions v w) h
