-- Operations and regions that are put behind others.
use Rattle.std.specs.Prelude.{if◌then◌else◌}
use Rattle.std.proofs.Common.{◌≡◌, ℕ, Bool, true, false, List, [], ◌∷◌, ◌++◌, refl, sym, ap, ◌∙◌}
use Rattle.xf_ir.specs.Tree.{Ops, no_ops, op, Regions, no_regions, region, Tree, Body, cons}
use Rattle.xf_ir.specs.View.{ops_of, regions_of}
use Rattle.xf_read.specs.Meant.{joined, yield_tree}
use Rattle.xf_read.specs.Walks.{joined_regions}

pub ops_push : (os : List Tree) (o : Tree) (us : Ops) → joined (ops_of (os ++ o ∷ [])) us ≡ joined (ops_of os)
    (cons o us)
ops_push [] o us = refl
ops_push (x ∷ os) o us = ap (cons x) (ops_push os o us)

pub joined_none : (us : Ops) → joined us no_ops ≡ us
joined_none no_ops = refl
joined_none (op n k ds os ts rs rest) = ap (op n k ds os ts rs) (joined_none rest)

pub ops_more_one : (os : List Tree) (o : Tree) → ops_of (os ++ o ∷ []) ≡ joined (ops_of os) (cons o no_ops)
ops_more_one os o = sym (joined_none (ops_of (os ++ o ∷ []))) ∙ ops_push os o no_ops

pub regions_push : (bs : List Body) (b : Body) (us : Regions)
    → joined_regions (regions_of (bs ++ b ∷ [])) us ≡ joined_regions (regions_of bs) (region b.args b.ops us)
regions_push [] b us = refl
regions_push (x ∷ bs) b us = ap (region x.args x.ops) (regions_push bs b us)

pub joined_regions_none : (us : Regions) → joined_regions us no_regions ≡ us
joined_regions_none no_regions = refl
joined_regions_none (region args ops rest) = ap (region args ops) (joined_regions_none rest)

pub ended : (os us : List Tree) (n : ℕ) (b : Bool) → b ≡ true → us ≡ os ++ yield_tree n ∷ []
    → ops_of us ≡ joined (ops_of os) (if b then cons (yield_tree n) no_ops else no_ops)
ended os us n true e p = ap ops_of p ∙ ops_more_one os (yield_tree n)
ended os us n false e p = absurd (cc)

pub not_ended : (os : List Tree) (n : ℕ) (b : Bool) → b ≡ false
    → ops_of os ≡ joined (ops_of os) (if b then cons (yield_tree n) no_ops else no_ops)
not_ended os n true e = absurd (cc)
not_ended os n false e = sym (joined_none (ops_of os))
