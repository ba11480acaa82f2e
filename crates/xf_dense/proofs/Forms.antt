-- Whether a form fits does not depend on what its literals are.
use Rattle.std.proofs.Common.{◌≡◌, ℕ, List, [], ◌∷◌, Option, Some, None, refl}
use Rattle.std.specs.Prelude.{map}
use Rattle.xf_type.specs.declared.payload_type.Dim.{Dim}
use Rattle.xf_dense.specs.declared.body.Literal.{Literal}
use Rattle.xf_dense.specs.Fits.{form_fits, is_truth}

pub same_form : (extents : Option (List ℕ)) (ls : List Literal) (ds : List Dim)
    → form_fits extents (map is_truth ls) ds ≡ form_fits extents ls ds
same_form (Some extents) ls ds = refl
same_form None [] ds = refl
same_form None (l ∷ ls) ds = refl
