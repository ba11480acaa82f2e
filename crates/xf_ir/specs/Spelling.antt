-- How kinds are spelt: the names of MLIR's operations.
use Rattle.std.specs.Prelude.{ℕ, List, codes}
use Rattle.xf_type.specs.Spelling.{binary_spelling, conversion_spelling}
use Rattle.xf_ir.specs.declared.kind.Kind.{Kind}
use Rattle.xf_ir.specs.declared.kind.Kind.TheVariants as kind
use Rattle.xf_ir.specs.declared.kind.NamedKind.{NamedKind}
use Rattle.xf_ir.specs.declared.kind.NamedKind.TheVariants.{Matmul, BatchMatmul, Matvec, Dot, Fill}

abbrev pub named_spelling : NamedKind → List ℕ
named_spelling Matmul = codes "linalg.matmul"
named_spelling BatchMatmul = codes "linalg.batch_matmul"
named_spelling Matvec = codes "linalg.matvec"
named_spelling Dot = codes "linalg.dot"
named_spelling Fill = codes "linalg.fill"

-- the bytes of a kind's name
abbrev pub spelling : Kind → List ℕ
spelling (kind.Module symbol) = codes "builtin.module"
spelling (kind.Func symbol private results) = codes "func.func"
spelling kind.Return = codes "func.return"
spelling (kind.Call callee) = codes "func.call"
spelling (kind.Constant width bits) = codes "arith.constant"
spelling (kind.Dense shape numbers) = codes "arith.constant"
spelling (kind.Binary which width) = binary_spelling which
spelling (kind.Compare which width) = codes "arith.cmpi"
spelling (kind.Select width) = codes "arith.select"
spelling (kind.Convert which from to) = conversion_spelling which
spelling (kind.For width) = codes "scf.for"
spelling kind.If = codes "scf.if"
spelling kind.Yield = codes "scf.yield"
spelling kind.Empty = codes "tensor.empty"
spelling kind.Dim = codes "tensor.dim"
spelling kind.Extract = codes "tensor.extract"
spelling kind.Insert = codes "tensor.insert"
spelling (kind.ExtractSlice offsets sizes) = codes "tensor.extract_slice"
spelling (kind.InsertSlice offsets sizes) = codes "tensor.insert_slice"
spelling kind.Cast = codes "tensor.cast"
spelling (kind.Named which) = named_spelling which
spelling (kind.Generic maps iterators) = codes "linalg.generic"
spelling kind.LinalgYield = codes "linalg.yield"
