-- Lists of operations and of blocks that are changed one by one, seen as a block and as regions.
use Rattle.std.proofs.Common.{◌≡◌, List, [], ◌∷◌, refl, ap}
use Rattle.std.specs.Prelude.{map}
use Rattle.xf_ir.specs.declared.name.OpName.{OpName}
use Rattle.xf_ir.specs.declared.kind.Attr.{Attr}
use Rattle.xf_ir.specs.declared.change.Change.{Change}
use Rattle.xf_ir.specs.Tree.{region, Tree, Body, cons}
use Rattle.xf_ir.specs.View.{ops_of, regions_of}
use Rattle.xf_ir.specs.Changes.{ops_changed, regions_changed, tree_changed, body_changed, ops_attributed}
use Rattle.xf_ir.specs.Changes.{regions_attributed, tree_attributed, body_attributed}

pub ops_of-changed : (cs : List Change) (ts : List Tree)
    → ops_of (map (tree_changed cs) ts) ≡ ops_changed cs (ops_of ts)
ops_of-changed cs [] = refl
ops_of-changed cs (t ∷ ts) = ap (cons (tree_changed cs t)) (ops_of-changed cs ts)

pub regions_of-changed : (cs : List Change) (bs : List Body)
    → regions_of (map (body_changed cs) bs) ≡ regions_changed cs (regions_of bs)
regions_of-changed cs [] = refl
regions_of-changed cs (b ∷ bs) = ap (region b.args (ops_changed cs b.ops)) (regions_of-changed cs bs)

pub ops_of-attributed : (name : OpName) (f : List Attr → List Attr) (ts : List Tree)
    → ops_of (map (tree_attributed name f) ts) ≡ ops_attributed name f (ops_of ts)
ops_of-attributed name f [] = refl
ops_of-attributed name f (t ∷ ts) = ap (cons (tree_attributed name f t)) (ops_of-attributed name f ts)

pub regions_of-attributed : (name : OpName) (f : List Attr → List Attr) (bs : List Body)
    → regions_of (map (body_attributed name f) bs) ≡ regions_attributed name f (regions_of bs)
regions_of-attributed name f [] = refl
regions_of-attributed name f (b ∷ bs) =
    ap (region b.args (ops_attributed name f b.ops)) (regions_of-attributed name f bs)
