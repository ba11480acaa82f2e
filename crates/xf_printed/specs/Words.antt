-- Words of the printed form: iterators and dimensions of maps (MLIR: linalg, affine maps).
use Rattle.std.specs.Prelude.{ℕ, List, ◌++◌, codes}
use Rattle.std.specs.Fmt.{decimal}
pub use Rattle.xf_shape.specs.Written.{dim_text}
use Rattle.xf_ir.specs.declared.kind.IteratorKind.{IteratorKind}
use Rattle.xf_ir.specs.declared.kind.IteratorKind.TheVariants.{Parallel, Reduction}

-- with its quotes
abbrev pub iterator_text : IteratorKind → List ℕ
iterator_text Parallel = codes "\"parallel\""
iterator_text Reduction = codes "\"reduction\""

abbrev pub dimension_text : ℕ → List ℕ
dimension_text i = codes "d" ++ decimal i
