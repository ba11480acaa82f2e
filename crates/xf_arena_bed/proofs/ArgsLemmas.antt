-- The arguments of blocks, by number.
use Rattle.std.proofs.Common.{◌≡◌, ℕ, zero, suc, List, [], ◌∷◌, length, ◌<◌, arith, refl, ap}
use Rattle.std.specs.Prelude.{Some, slice_get, slice_index_or}
use Rattle.xf_ir.specs.Tree.{Body}
use Rattle.xf_arena_bed.specs.Blocks.{args_in}

pub length_args : (bs : List Body) → length (args_in bs) ≡ length bs
length_args [] = refl
length_args (b ∷ bs) = ap suc (length_args bs)

pub get_args : (bs : List Body) (i : ℕ) (d : Body) → i < length bs
    → slice_get (args_in bs) i ≡ Some (slice_index_or bs i d).args
get_args [] i d h = absurd (omega arith)
get_args (b ∷ bs) zero d h = refl
get_args (b ∷ bs) (suc i) d h = get_args bs i d (omega arith)
