-- What an erasing walk over lists leaves.
use Rattle.std.proofs.Common.{◌≡◌, ℕ, zero, suc, ◌+◌, ◌<◌, ◌≤◌, List, [], ◌∷◌, ◌++◌, length, get_or, take, drop, refl}
use Rattle.std.proofs.Common.{ap, arith, ◌∙◌, append-nil, true, false, eqb}
use Rattle.std.specs.Prelude.{map}
use Rattle.std.specs.List.{remove}
use Rattle.std.proofs.lemmas.List.{take_all, drop_all}
use denote.Param.Weighed.{at_most}
use Rattle.xf_ir.specs.declared.name.OpName.{OpName}
use Rattle.xf_ir.specs.Tree.{region, Tree, Body, cons}
use Rattle.xf_ir.specs.View.{ops_of, regions_of, tree_size, ops_size, regions_size, body_size, trees_fall, bodies_fall}
use Rattle.xf_ir.specs.Edits.{ops_at, regions_at, tail, tree_erased}

abbrev pub body_erased : OpName → Body → Body
body_erased name b = record b { ops = ops_at name tail b.ops }

pub regions_of-map : (name : OpName) (bs : List Body)
    → regions_of (map (body_erased name) bs) ≡ regions_at name tail (regions_of bs)
regions_of-map name [] = refl
regions_of-map name (b ∷ bs) = ap (region b.args (ops_at name tail b.ops)) (regions_of-map name bs)

pub size_at : (ts : List Tree) (i : ℕ) (d : Tree) → i < length ts → tree_size (get_or ts i d) < ops_size (ops_of ts)
size_at ts i d h = omega (arith, at_most (λ t. tree_size t + 1) ts i d h, trees_fall ts)

pub body_size_at : (bs : List Body) (i : ℕ) (d : Body) → i < length bs
    → body_size (get_or bs i d) < regions_size (regions_of bs)
body_size_at bs i d h = omega (arith, at_most (λ b. body_size b + 1) bs i d h, bodies_fall bs)

pub map_done : {X : Type 0} (f : X → X) (xs ys : List X) (i : ℕ) → length xs ≤ i → ys ≡ map f (take i xs) ++ drop i xs
    → ys ≡ map f xs
map_done f xs ys i h e = e ∙ (let a = take_all i xs h in let b = drop_all i xs h in rw (a, b, append-nil) refl)

get_at : {X : Type 0} (f : X → X) (xs : List X) (i : ℕ) (d : X) → i < length xs
    → get_or (map f (take i xs) ++ drop i xs) i d ≡ get_or xs i d
get_at f [] i d h = absurd (omega arith)
get_at f (x ∷ xs) zero d h = refl
get_at f (x ∷ xs) (suc i) d h = get_at f xs i d (omega arith)

pub get-mapped : {X : Type 0} (f : X → X) (xs ys : List X) (i : ℕ) (d : X) → i < length xs
    → ys ≡ map f (take i xs) ++ drop i xs → get_or ys i d ≡ get_or xs i d
get-mapped f xs ys i d h e = ap (λ l. get_or l i d) e ∙ get_at f xs i d h

-- ---- a walk that stops at the first of a name

-- none of the first i has the name
abbrev pub NoneBefore : OpName → List Tree → ℕ → Type 0
NoneBefore name ts zero = Unit {0}
NoneBefore name [] (suc i) = Unit {0}
NoneBefore name (t ∷ ts) (suc i) = (eqb t.name.0 name.0 ≡ false) × NoneBefore name ts i

pub none_more : (name : OpName) (ts : List Tree) (i : ℕ) (d : Tree) → i < length ts → NoneBefore name ts i
    → eqb (get_or ts i d).name.0 name.0 ≡ false → NoneBefore name ts (suc i)
none_more name [] i d h p q = absurd (omega arith)
none_more name (t ∷ ts) zero d h p q = (q, tt)
none_more name (t ∷ ts) (suc i) d h p q = (p.0, none_more name ts i d (omega arith) p.1 q)

pub erased_none : (name : OpName) (ts : List Tree) (i : ℕ) → length ts ≤ i → NoneBefore name ts i
    → ops_of (map (tree_erased name) ts) ≡ ops_at name tail (ops_of ts)
erased_none name [] i h p = refl
erased_none name (t ∷ ts) zero h p = absurd (omega arith)
erased_none name (t ∷ ts) (suc i) h p =
    rw p.0 (ap (cons (tree_erased name t)) (erased_none name ts i (omega arith) p.1))

erased_here : (name : OpName) (ts : List Tree) (i : ℕ) (d : Tree) → i < length ts → NoneBefore name ts i
    → eqb (get_or ts i d).name.0 name.0 ≡ true
    → ops_of (remove (map (tree_erased name) (take i ts) ++ drop i ts) i) ≡ ops_at name tail (ops_of ts)
erased_here name [] i d h p q = absurd (omega arith)
erased_here name (t ∷ ts) zero d h p q = rw q refl
erased_here name (t ∷ ts) (suc i) d h p q =
    rw p.0 (ap (cons (tree_erased name t)) (erased_here name ts i d (omega arith) p.1 q))

pub erased_at : (name : OpName) (ts us : List Tree) (i : ℕ) (d : Tree) → i < length ts → NoneBefore name ts i
    → eqb (get_or ts i d).name.0 name.0 ≡ true → us ≡ map (tree_erased name) (take i ts) ++ drop i ts
    → ops_of (remove us i) ≡ ops_at name tail (ops_of ts)
erased_at name ts us i d h p q e = ap (λ l. ops_of (remove l i)) e ∙ erased_here name ts i d h p q
