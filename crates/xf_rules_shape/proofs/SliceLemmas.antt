-- Sizes of slices.
use Rattle.std.proofs.Common.{◌≡◌, ◌≢◌, suc, List, [], ◌∷◌, length, false, refl, ap}
use Rattle.xf_type.specs.declared.payload_type.Dim.{Dim}
use Rattle.xf_ir.specs.declared.kind.SliceIndex.{SliceIndex}
use Rattle.xf_ir.specs.RuleSlices.{size_fits, sizes_fit}
use Rattle.xf_type.proofs.EqualTypes.{unequal_behind}

pub unequal_sizes : (xs : List SliceIndex) (ds : List Dim) → length xs ≢ length ds → sizes_fit xs ds ≡ false
unequal_sizes [] [] n = absurd (n refl)
unequal_sizes [] (d ∷ ds) n = refl
unequal_sizes (x ∷ xs) [] n = refl
unequal_sizes (x ∷ xs) (d ∷ ds) n =
    unequal_behind (size_fits x d) (sizes_fit xs ds) (unequal_sizes xs ds (λ e. n (ap (λ k. suc k) e)))
