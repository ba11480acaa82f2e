-- Numbers of dimensions, gathered in sets.
use Rattle.std.specs.Prelude.{ℕ, ◌+◌, List, [], ◌∷◌, Option, Bool, true, false, not, ◌&&◌}
use Rattle.std.specs.Ordering.{nat_cmp}
use Rattle.std.specs.FinSet as set
use Rattle.xf_type.specs.declared.attribute.AffineMap.{AffineMap}
use Rattle.xf_type.specs.declared.payload_type.PayloadType.{PayloadType}
use Rattle.xf_ir.specs.declared.kind.NamedKind.{NamedKind}
use Rattle.xf_ir.specs.declared.kind.NamedKind.TheVariants.{Matmul, BatchMatmul, Matvec, Dot, Fill}
use Rattle.xf_ir.specs.declared.kind.IteratorKind.{IteratorKind}
use Rattle.xf_ir.specs.RuleLinalg.{is_parallel, same_truth, has_rank}

abbrev pub Dims : Type 0
Dims = set.FinSet nat_cmp

-- with these numbers
abbrev pub with_dims : Dims → List ℕ → Dims
with_dims s [] = s
with_dims s (d ∷ ds) = with_dims (set.insert s d) ds

-- with the results of these maps
abbrev pub with_results : Dims → List AffineMap → Dims
with_results s [] = s
with_results s (map ∷ maps) = with_results (with_dims s map.results) maps

-- whether none of the numbers is in the set or stands twice
abbrev pub are_new : Dims → List ℕ → Bool
are_new s [] = true
are_new s (d ∷ ds) = not (set.contains s d) && are_new (set.insert s d) ds

-- whether the iterators from dimension d on are parallel exactly where the set has their dimension
abbrev pub iterators_fit_set : Dims → ℕ → List IteratorKind → Bool
iterators_fit_set out d [] = true
iterators_fit_set out d (i ∷ is) = same_truth (is_parallel i) (set.contains out d) && iterators_fit_set out (d + 1) is

-- the ranks of the operands of a structured operation with a name, whose out has a rank
abbrev pub named_ranks : NamedKind → ℕ → List ℕ
named_ranks Matmul rank = 2 ∷ (2 ∷ (2 ∷ []))
named_ranks BatchMatmul rank = 3 ∷ (3 ∷ (3 ∷ []))
named_ranks Matvec rank = 2 ∷ (1 ∷ (1 ∷ []))
named_ranks Dot rank = 1 ∷ (1 ∷ (0 ∷ []))
named_ranks Fill rank = 0 ∷ (rank ∷ [])

-- whether the operands have these ranks
abbrev pub are_ranks : List ℕ → List (Option PayloadType) → Bool
are_ranks [] [] = true
are_ranks [] (o ∷ os) = false
are_ranks (n ∷ ns) [] = false
are_ranks (n ∷ ns) (o ∷ os) = has_rank n o && are_ranks ns os
