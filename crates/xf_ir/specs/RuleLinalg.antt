-- V10 to V14: structured operations, by their maps, iterators and bodies (MLIR: the linalg dialect).
use Rattle.std.specs.Prelude.{ℕ, zero, suc, ◌+◌, ◌-◌, List, [], ◌∷◌, ◌++◌, length, Option, Some, None}
use Rattle.std.specs.Prelude.{Bool, true, false, not, ◌==◌, ◌&&◌, ◌||◌, nat_lt, if◌then◌else◌}
use Rattle.xf_type.specs.declared.payload_type.PayloadType.{PayloadType}
use Rattle.xf_type.specs.declared.payload_type.Dim.{Dim}
use Rattle.xf_type.specs.declared.payload_type.Dim.TheVariants.{Fixed, Dynamic}
use Rattle.xf_type.specs.declared.attribute.AffineMap.{AffineMap}
use Rattle.xf_type.specs.declared.kind.BinKind.TheVariants as bin
use Rattle.xf_ir.specs.declared.name.OpName.{OpName}
use Rattle.xf_ir.specs.declared.name.ValueName.{ValueName}
use Rattle.xf_ir.specs.declared.name.ValueName.TheVariants.{Result, Arg, Free}
use Rattle.xf_ir.specs.declared.kind.Kind.{Kind}
use Rattle.xf_ir.specs.declared.kind.Kind.TheVariants as kind
use Rattle.xf_ir.specs.declared.kind.NamedKind.{NamedKind}
use Rattle.xf_ir.specs.declared.kind.NamedKind.TheVariants.{Matmul, BatchMatmul, Matvec, Dot, Fill}
use Rattle.xf_ir.specs.declared.kind.IteratorKind.{IteratorKind}
use Rattle.xf_ir.specs.declared.kind.IteratorKind.TheVariants.{Parallel, Reduction}
use Rattle.xf_ir.specs.Kinds.{is_generic, is_arith, is_linalg_yield}
use Rattle.xf_ir.specs.Tree.{Ops, no_ops, op, Tree}
use Rattle.xf_ir.specs.Walk.{ops_find}
use Rattle.xf_ir.specs.Lists.{every, some, is_among}
use Rattle.xf_ir.specs.Types.{last_type, rank_of, dims_of}
use Rattle.xf_ir.specs.Uses.{same_value, use_count, ops_operands}
use Rattle.xf_ir.specs.Placed.{Placed, block_of}

-- ---- the maps and iterators of a structured operation

-- a map from so many dimensions to those with these numbers
abbrev pub to_dims : ℕ → List ℕ → AffineMap
to_dims count results = record { dims = count; results = results }

-- the numbers from one on, so many
abbrev pub counted : ℕ → ℕ → List ℕ
counted from zero = []
counted from (suc k) = from ∷ counted (from + 1) k

-- the maps of the operands; a fill's out has all dimensions in order
abbrev pub named_maps : NamedKind → ℕ → List AffineMap
named_maps Matmul rank = to_dims 3 (0 ∷ (2 ∷ [])) ∷ (to_dims 3 (2 ∷ (1 ∷ [])) ∷ (to_dims 3 (0 ∷ (1 ∷ [])) ∷ []))
named_maps BatchMatmul rank =
    to_dims 4 (0 ∷ (1 ∷ (3 ∷ []))) ∷ (to_dims 4 (0 ∷ (3 ∷ (2 ∷ []))) ∷ (to_dims 4 (0 ∷ (1 ∷ (2 ∷ []))) ∷ []))
named_maps Matvec rank = to_dims 2 (0 ∷ (1 ∷ [])) ∷ (to_dims 2 (1 ∷ []) ∷ (to_dims 2 (0 ∷ []) ∷ []))
named_maps Dot rank = to_dims 1 (0 ∷ []) ∷ (to_dims 1 (0 ∷ []) ∷ (to_dims 1 [] ∷ []))
named_maps Fill rank = to_dims rank [] ∷ (to_dims rank (counted 0 rank) ∷ [])

abbrev pub parallels : ℕ → List IteratorKind
parallels zero = []
parallels (suc k) = Parallel ∷ parallels k

abbrev pub named_iterators : NamedKind → ℕ → List IteratorKind
named_iterators Matmul rank = Parallel ∷ (Parallel ∷ (Reduction ∷ []))
named_iterators BatchMatmul rank = Parallel ∷ (Parallel ∷ (Parallel ∷ (Reduction ∷ [])))
named_iterators Matvec rank = Parallel ∷ (Reduction ∷ [])
named_iterators Dot rank = Reduction ∷ []
named_iterators Fill rank = parallels rank

abbrev pub rank_or_none : Option PayloadType → ℕ
rank_or_none None = 0
rank_or_none (Some t) = rank_of t

abbrev pub is_structured : Kind → Bool
is_structured (kind.Named which) = true
is_structured (kind.Generic maps iterators) = true
is_structured _ = false

abbrev pub maps_of : Kind → List (Option PayloadType) → List AffineMap
maps_of (kind.Named which) os = named_maps which (rank_or_none (last_type os))
maps_of (kind.Generic maps iterators) os = maps
maps_of _ os = []

abbrev pub iterators_of : Kind → List (Option PayloadType) → List IteratorKind
iterators_of (kind.Named which) os = named_iterators which (rank_or_none (last_type os))
iterators_of (kind.Generic maps iterators) os = iterators
iterators_of _ os = []

-- ---- V10: maps are projected permutations over as many dimensions as iterators, with as many results as the operand's
-- ---- rank (0 for a scalar), and each dimension is in some map

abbrev pub is_number_among : ℕ → List ℕ → Bool
is_number_among d ds = some (λ e. e == d) ds

abbrev pub numbers_once : List ℕ → Bool
numbers_once [] = true
numbers_once (d ∷ ds) = not (is_number_among d ds) && numbers_once ds

-- a projected permutation of so many dimensions
abbrev pub is_projection : ℕ → AffineMap → Bool
is_projection count map = (map.dims == count) && (every (λ d. nat_lt d count) map.results && numbers_once map.results)

abbrev pub has_rank : ℕ → Option PayloadType → Bool
has_rank rank None = false
has_rank rank (Some t) = rank_of t == rank

-- one map for each operand, with as many results as its rank
abbrev pub have_ranks : List AffineMap → List (Option PayloadType) → Bool
have_ranks [] [] = true
have_ranks [] (o ∷ os) = false
have_ranks (map ∷ maps) [] = false
have_ranks (map ∷ maps) (o ∷ os) = has_rank (length map.results) o && have_ranks maps os

-- each of so many dimensions is in some map
abbrev pub are_covered : List AffineMap → ℕ → Bool
are_covered maps count = every (λ d. some (λ (map : AffineMap). is_number_among d map.results) maps) (counted 0 count)

abbrev pub maps_fit : List AffineMap → ℕ → List (Option PayloadType) → Bool
maps_fit maps count os = every (is_projection count) maps && (have_ranks maps os && are_covered maps count)

abbrev pub has_its_maps : Placed → Bool
has_its_maps p =
    not (is_structured p.tree.kind)
    || maps_fit (maps_of p.tree.kind p.types) (length (iterators_of p.tree.kind p.types)) p.types

-- ---- V11: a dimension is parallel exactly where the out map has it, else reduction

abbrev pub is_parallel : IteratorKind → Bool
is_parallel Parallel = true
is_parallel Reduction = false

abbrev pub last_results : List AffineMap → List ℕ
last_results [] = []
last_results (map ∷ []) = map.results
last_results (map ∷ (map' ∷ maps)) = last_results (map' ∷ maps)

abbrev pub same_truth : Bool → Bool → Bool
same_truth true b = b
same_truth false b = not b

-- the iterators from dimension d on, where the out has these dimensions
abbrev pub iterators_fit : List ℕ → ℕ → List IteratorKind → Bool
iterators_fit out d [] = true
iterators_fit out d (i ∷ is) = same_truth (is_parallel i) (is_number_among d out) && iterators_fit out (d + 1) is

abbrev pub has_its_iterators : Placed → Bool
has_its_iterators p = iterators_fit (last_results (maps_of p.tree.kind p.types)) 0 (iterators_of p.tree.kind p.types)

-- ---- V12: with a reduction the body yields c(out, e) in either operand order, the out argument used nowhere else and
-- ---- e not depending on it

abbrev pub is_combiner : Kind → Bool
is_combiner (kind.Binary bin.Addi width) = true
is_combiner (kind.Binary bin.Muli width) = true
is_combiner (kind.Binary bin.Andi width) = true
is_combiner (kind.Binary bin.Ori width) = true
is_combiner (kind.Binary bin.Xori width) = true
is_combiner (kind.Binary bin.Minsi width) = true
is_combiner (kind.Binary bin.Maxsi width) = true
is_combiner (kind.Binary bin.Minui width) = true
is_combiner (kind.Binary bin.Maxui width) = true
is_combiner _ = false

abbrev pub only_value : List ValueName → Option ValueName
only_value [] = None
only_value (v ∷ []) = Some v
only_value (v ∷ (w ∷ vs)) = None

-- the one operand of the last operation
abbrev pub yielded : Ops → Option ValueName
yielded no_ops = None
yielded (op n k ds os ts rs no_ops) = only_value os
yielded (op n k ds os ts rs (op n' k' ds' os' ts' rs' rest)) = yielded (op n' k' ds' os' ts' rs' rest)

-- the operation of which a value is a result
abbrev pub definer : Ops → Option ValueName → Option Tree
definer body None = None
definer body (Some (Result o num)) = ops_find o body
definer body (Some (Arg o r num)) = None
definer body (Some (Free num)) = None

-- whether a value is the out argument or a result of one of the operations
abbrev pub depends : ValueName → List OpName → ValueName → Bool
depends out ns (Result o num) = same_value out (Result o num) || is_among o ns
depends out ns v = same_value out v

-- with the operations that use such a value
abbrev pub dependents : ValueName → Ops → List OpName → List OpName
dependents out no_ops ns = ns
dependents out (op n k ds os ts rs rest) ns = dependents out rest (if some (depends out ns) os then n ∷ ns else ns)

-- the same once for each of the operations, which comes to all that depend on the out
abbrev pub all_dependents : ValueName → Ops → Ops → List OpName → List OpName
all_dependents out no_ops body ns = ns
all_dependents out (op n k ds os ts rs rest) body ns = all_dependents out rest body (dependents out body ns)

abbrev pub is_apart : ValueName → Ops → ValueName → Bool
is_apart out body e = not (depends out (all_dependents out body body []) e)

-- the out argument and another value that does not depend on it, in either order
abbrev pub joins_out : ValueName → Ops → List ValueName → Bool
joins_out out body (a ∷ (b ∷ [])) =
    (same_value a out && is_apart out body b) || (same_value b out && is_apart out body a)
joins_out out body _ = false

abbrev pub combines : ValueName → Ops → Option Tree → Bool
combines out body None = false
combines out body (Some t) = is_combiner t.kind && joins_out out body t.operands

abbrev pub is_reduction : ValueName → Ops → Bool
is_reduction out body = combines out body (definer body (yielded body)) && (use_count out (ops_operands body) == 1)

abbrev pub has_reduction : List IteratorKind → Bool
has_reduction is = some (λ i. not (is_parallel i)) is

-- the argument of a body that stands for the out: the last
abbrev pub out_argument : Tree → ValueName
out_argument t = Arg t.name 0 (length t.operands - 1)

abbrev pub reduces : Kind → Tree → Bool
reduces (kind.Generic maps iterators) t =
    not (has_reduction iterators) || is_reduction (out_argument t) (block_of t.regions)
reduces _ t = true

abbrev pub has_its_reduction : Placed → Bool
has_its_reduction p = reduces p.tree.kind p.tree

-- ---- V13: fixed extents of one dimension agree

abbrev pub dims_or_none : Option PayloadType → List Dim
dims_or_none None = []
dims_or_none (Some t) = dims_of t

-- the extents of an operand, by the dimensions of its map
abbrev pub by_dims : List ℕ → List Dim → List (ℕ × Dim)
by_dims [] es = []
by_dims (d ∷ ds) [] = []
by_dims (d ∷ ds) (e ∷ es) = (d, e) ∷ by_dims ds es

abbrev pub extents : List AffineMap → List (Option PayloadType) → List (ℕ × Dim)
extents [] os = []
extents (map ∷ maps) [] = []
extents (map ∷ maps) (o ∷ os) = by_dims map.results (dims_or_none o) ++ extents maps os

abbrev pub may_agree : Dim → Dim → Bool
may_agree (Fixed a) (Fixed b) = a == b
may_agree (Fixed a) Dynamic = true
may_agree Dynamic b = true

abbrev pub extents_agree : List (ℕ × Dim) → Bool
extents_agree [] = true
extents_agree (x ∷ xs) = every (λ (y : ℕ × Dim). not (y.0 == x.0) || may_agree x.1 y.1) xs && extents_agree xs

abbrev pub has_its_extents : Placed → Bool
has_its_extents p = extents_agree (extents (maps_of p.tree.kind p.types) p.types)

-- ---- V14: a linalg body holds arith operations and its yield alone

abbrev pub fits_its_body : Placed → Bool
fits_its_body p = not (is_generic p.holder.kind) || (is_arith p.tree.kind || is_linalg_yield p.tree.kind)
