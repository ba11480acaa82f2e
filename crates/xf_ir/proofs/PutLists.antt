-- Trees put into lists of operations and of blocks.
use Rattle.std.proofs.Common.{◌≡◌, ℕ, zero, suc, ◌<◌, ◌≤◌, List, [], ◌∷◌, length, get_or, refl, ap, ◌∙◌, arith, eqb}
use Rattle.std.proofs.Common.{false}
use Rattle.std.specs.Prelude.{map, slice_set}
use Rattle.std.specs.List.{insert}
use Rattle.xf_ir.specs.declared.spot.Spot.{Spot}
use Rattle.xf_ir.specs.Tree.{region, Tree, Body, cons}
use Rattle.xf_ir.specs.View.{ops_of, regions_of}
use Rattle.xf_ir.specs.Spots.{ops_insert, regions_insert, ops_put, regions_put, tree_put, body_put}

pub ops_of-insert : (ts : List Tree) (i : ℕ) (t : Tree) → i ≤ length ts
    → ops_of (insert ts i t) ≡ ops_insert i t (ops_of ts)
ops_of-insert ts zero t h = refl
ops_of-insert [] (suc i) t h = absurd (omega arith)
ops_of-insert (u ∷ ts) (suc i) t h = ap (cons u) (ops_of-insert ts i t (omega arith))

pub ops_insert-past : (ts : List Tree) (i : ℕ) (t : Tree) → length ts < i → ops_of ts ≡ ops_insert i t (ops_of ts)
ops_insert-past ts zero t h = absurd (omega arith)
ops_insert-past [] (suc i) t h = refl
ops_insert-past (u ∷ ts) (suc i) t h = ap (cons u) (ops_insert-past ts i t (omega arith))

pub regions_of-insert : (bs : List Body) (r i : ℕ) (t : Tree) (b d : Body)
    → r < length bs → b ≡ record (get_or bs r d) { ops = ops_insert i t (get_or bs r d).ops }
    → regions_of (slice_set bs r b) ≡ regions_insert r i t (regions_of bs)
regions_of-insert [] r i t b d h e = absurd (omega arith)
regions_of-insert (c ∷ bs) zero i t b d h e = ap (λ (x : Body). region x.args x.ops (regions_of bs)) e
regions_of-insert (c ∷ bs) (suc r) i t b d h e =
    ap (region c.args c.ops) (regions_of-insert bs r i t b d (omega arith) e)

pub regions_insert-past : (bs : List Body) (r i : ℕ) (t : Tree) → length bs ≤ r
    → regions_of bs ≡ regions_insert r i t (regions_of bs)
regions_insert-past [] r i t h = refl
regions_insert-past (c ∷ bs) zero i t h = absurd (omega arith)
regions_insert-past (c ∷ bs) (suc r) i t h = ap (region c.args c.ops) (regions_insert-past bs r i t (omega arith))

pub ops_of-put : (s : Spot) (t : Tree) (ts : List Tree) → ops_of (map (tree_put s t) ts) ≡ ops_put s t (ops_of ts)
ops_of-put s t [] = refl
ops_of-put s t (u ∷ ts) = ap (cons (tree_put s t u)) (ops_of-put s t ts)

pub regions_of-put : (s : Spot) (t : Tree) (bs : List Body)
    → regions_of (map (body_put s t) bs) ≡ regions_put s t (regions_of bs)
regions_of-put s t [] = refl
regions_of-put s t (b ∷ bs) = ap (region b.args (ops_put s t b.ops)) (regions_of-put s t bs)

-- an operation that is not the spot's parent, with the tree put into what it holds
pub put_deeper : (s : Spot) (t u : Tree) (bs cs : List Body) → eqb u.name.0 s.parent.0 ≡ false
    → regions_of bs ≡ u.regions → cs ≡ map (body_put s t) bs → record u { regions = regions_of cs } ≡ tree_put s t u
put_deeper s t u bs cs h k e =
    rw e (rw h (ap (λ r. record u { regions = r }) (regions_of-put s t bs ∙ ap (regions_put s t) k)))
