-- Small modules, each of which breaks one rule, beside modules that keep it: structured operations, ranges and slices.
use Rattle.std.proofs.Common.{ℕ, List, [], ◌∷◌, refl}
use Rattle.std.specs.Prelude.{pos, negsuc}
use Rattle.xf_type.specs.declared.payload_type.PayloadType.{PayloadType}
use Rattle.xf_type.specs.declared.payload_type.PayloadType.TheVariants.{Scalar, Tensor}
use Rattle.xf_type.specs.declared.payload_type.Dim.{Dim}
use Rattle.xf_type.specs.declared.payload_type.Dim.TheVariants.{Fixed, Dynamic}
use Rattle.xf_type.specs.declared.payload_type.Width.TheVariants.{I32, I64, Index}
use Rattle.xf_type.specs.declared.attribute.AffineMap.{AffineMap}
use Rattle.xf_type.specs.declared.kind.BinKind.TheVariants.{Addi, Subi, Muli}
use Rattle.xf_ir.specs.declared.name.ValueName.{ValueName}
use Rattle.xf_ir.specs.declared.kind.Kind.TheVariants as kind
use Rattle.xf_ir.specs.declared.kind.NamedKind.TheVariants.{Matmul, Fill}
use Rattle.xf_ir.specs.declared.kind.IteratorKind.{IteratorKind}
use Rattle.xf_ir.specs.declared.kind.IteratorKind.TheVariants.{Parallel, Reduction}
use Rattle.xf_ir.specs.declared.kind.SliceIndex.{SliceIndex}
use Rattle.xf_ir.specs.declared.kind.SliceIndex.TheVariants as index
use Rattle.xf_ir.specs.declared.op.Module.{Module}
use Rattle.xf_ir.specs.declared.rule.Rule.TheVariants as rule
use Rattle.xf_ir.specs.Tree.{Ops, no_ops}
use Rattle.xf_ir.specs.RuleLinalg.{to_dims}
use Rattle.xf_ir_laws.proofs.RuleSamples.{res, arg, leaf, holder, of_body, ret, i32, shape, Keeps, Breaks}

abbrev tensor : List Dim → PayloadType
tensor ds = Tensor (shape ds)

abbrev matrix : ℕ → ℕ → PayloadType
matrix a b = tensor (Fixed a ∷ (Fixed b ∷ []))

abbrev three : List ValueName
three = arg 1 0 ∷ (arg 1 1 ∷ (arg 1 2 ∷ []))

-- a matmul of these types
abbrev product : PayloadType → PayloadType → PayloadType → Module
product a b c = of_body (a ∷ (b ∷ (c ∷ []))) [] (leaf 2 (kind.Named Matmul) three (c ∷ []) ret)

product_fits : Keeps (product (matrix 2 3) (matrix 3 4) (matrix 2 4))
product_fits = refl

product_of_dynamic : Keeps (product (tensor (Dynamic ∷ (Fixed 3 ∷ []))) (matrix 3 4) (matrix 2 4))
product_of_dynamic = refl

abbrev filled : PayloadType → Module
filled value =
    of_body (value ∷ (matrix 2 3 ∷ [])) [] (leaf 2 (kind.Named Fill) (arg 1 0 ∷ (arg 1 1 ∷ [])) (matrix 2 3 ∷ []) ret)

fill_fits : Keeps (filled (Scalar I32))
fill_fits = refl

fill_of_other_width : Breaks rule.Types 2 (filled (Scalar I64))
fill_of_other_width = refl

fill_of_tensor : Breaks rule.Types 2 (filled (tensor []))
fill_of_tensor = refl

-- ---- V10

product_of_other_rank : Breaks rule.Maps 2 (product (tensor (Fixed 2 ∷ [])) (matrix 3 4) (matrix 2 4))
product_of_other_rank = refl

-- ---- V13

product_of_other_extents : Breaks rule.Extents 2 (product (matrix 2 3) (matrix 5 4) (matrix 2 4))
product_of_other_extents = refl

-- ---- generic operations: the sum of the rows of a matrix

abbrev to_rows : List AffineMap
to_rows = to_dims 2 (0 ∷ (1 ∷ [])) ∷ (to_dims 2 (0 ∷ []) ∷ [])

abbrev rows : List IteratorKind
rows = Parallel ∷ (Reduction ∷ [])

-- the body adds its arguments, as operation 3, and yields
abbrev summed : Ops
summed = leaf 3 (kind.Binary Addi I32) (arg 2 0 ∷ (arg 2 1 ∷ [])) i32 (leaf 4 kind.LinalgYield (res 3 ∷ []) [] no_ops)

abbrev generic : List AffineMap → List IteratorKind → List PayloadType → Ops → Module
generic maps iterators args body =
    of_body (matrix 2 3 ∷ (tensor (Fixed 2 ∷ []) ∷ [])) []
    (holder 2 (kind.Generic maps iterators) (arg 1 0 ∷ (arg 1 1 ∷ [])) (tensor (Fixed 2 ∷ []) ∷ []) args body ret)

abbrev args : List PayloadType
args = Scalar I32 ∷ (Scalar I32 ∷ [])

generic_fits : Keeps (generic to_rows rows args summed)
generic_fits = refl

argument_missing : Breaks rule.Regions 2 (generic to_rows rows (Scalar I32 ∷ []) summed)
argument_missing = refl

map_missing : Breaks rule.Maps 2 (generic (to_dims 2 (0 ∷ (1 ∷ [])) ∷ []) rows args summed)
map_missing = refl

dimension_twice : Breaks rule.Maps 2 (generic (to_dims 2 (0 ∷ (0 ∷ [])) ∷ (to_dims 2 (0 ∷ []) ∷ [])) rows args summed)
dimension_twice = refl

dimension_in_no_map : Breaks rule.Maps 2 (generic (to_dims 3 (0 ∷ (1 ∷ [])) ∷ (to_dims 3 (0 ∷ []) ∷ [])) (Parallel
    ∷ (Reduction ∷ (Reduction ∷ []))) args summed)
dimension_in_no_map = refl

-- ---- V11

parallel_outside_the_out : Breaks rule.Iterators 2 (generic to_rows (Parallel ∷ (Parallel ∷ [])) args summed)
parallel_outside_the_out = refl

reduction_in_the_out : Breaks rule.Iterators 2 (generic to_rows (Reduction ∷ (Reduction ∷ [])) args summed)
reduction_in_the_out = refl

-- ---- V12

out_unused : Breaks rule.Reductions 2 (generic to_rows rows args (leaf 4 kind.LinalgYield (arg 2 0 ∷ []) [] no_ops))
out_unused = refl

no_combiner : Breaks rule.Reductions 2 (generic to_rows rows args
    (leaf 3 (kind.Binary Subi I32) (arg 2 1 ∷ (arg 2 0 ∷ [])) i32 (leaf 4 kind.LinalgYield (res 3 ∷ []) [] no_ops)))
no_combiner = refl

out_twice : Breaks rule.Reductions 2 (generic to_rows rows args
    (leaf 3 (kind.Binary Addi I32) (arg 2 1 ∷ (arg 2 1 ∷ [])) i32 (leaf 4 kind.LinalgYield (res 3 ∷ []) [] no_ops)))
out_twice = refl

out_used_elsewhere : Breaks rule.Reductions 2 (generic to_rows rows args
    (leaf 5 (kind.Binary Muli I32) (arg 2 0 ∷ (arg 2 1 ∷ [])) i32 (leaf 3 (kind.Binary Addi I32) (res 5
    ∷ (arg 2 1 ∷ [])) i32 (leaf 4 kind.LinalgYield (res 3 ∷ []) [] no_ops))))
out_used_elsewhere = refl

value_of_its_own : Keeps (generic to_rows rows args
    (leaf 5 (kind.Binary Muli I32) (arg 2 0 ∷ (arg 2 0 ∷ [])) i32 (leaf 3 (kind.Binary Addi I32) (res 5
    ∷ (arg 2 1 ∷ [])) i32 (leaf 4 kind.LinalgYield (res 3 ∷ []) [] no_ops))))
value_of_its_own = refl

-- ---- V14

tensor_in_a_body : Breaks rule.Bodies 5 (generic to_rows rows args (leaf 5 kind.Empty [] (tensor [] ∷ []) summed))
tensor_in_a_body = refl

-- ---- V15

abbrev taken : PayloadType → Module
taken t = of_body (t ∷ []) [] ret

ranks_up_to_8 : Keeps
    (taken (tensor (Fixed 1 ∷ (Fixed 1 ∷ (Fixed 1 ∷ (Fixed 1 ∷ (Fixed 1 ∷ (Fixed 1 ∷ (Fixed 1 ∷ (Dynamic ∷ []))))))))))
ranks_up_to_8 = refl

rank_of_9 : Breaks rule.Ranges 1 (taken (tensor (Fixed 1
    ∷ (Fixed 1 ∷ (Fixed 1 ∷ (Fixed 1 ∷ (Fixed 1 ∷ (Fixed 1 ∷ (Fixed 1 ∷ (Fixed 1 ∷ (Dynamic ∷ [])))))))))))
rank_of_9 = refl

largest_extent : Keeps (taken (tensor (Fixed 2147483647 ∷ [])))
largest_extent = refl

extent_too_large : Breaks rule.Ranges 1 (taken (tensor (Fixed 2147483648 ∷ [])))
extent_too_large = refl

-- ---- V16

abbrev at : List SliceIndex
at = index.Fixed (pos 0) ∷ (index.Fixed (pos 1) ∷ [])

-- a slice of a matrix of 4 rows and 5 columns, with one size of 2 and one that is an index
abbrev sliced : List SliceIndex → PayloadType → Module
sliced offsets t = of_body (matrix 4 5 ∷ (Scalar Index ∷ [])) [] (leaf 2
    (kind.ExtractSlice offsets (index.Fixed (pos 2) ∷ (index.Dynamic ∷ []))) (arg 1 0 ∷ (arg 1 1 ∷ [])) (t ∷ []) ret)

slice_fits : Keeps (sliced at (tensor (Fixed 2 ∷ (Dynamic ∷ []))))
slice_fits = refl

offset_missing : Breaks rule.Types 2 (sliced (index.Fixed (pos 0) ∷ []) (tensor (Fixed 2 ∷ (Dynamic ∷ []))))
offset_missing = refl

slice_of_lower_rank : Breaks rule.Slices 2 (sliced at (tensor (Fixed 2 ∷ [])))
slice_of_lower_rank = refl

slice_of_other_size : Breaks rule.Slices 2 (sliced at (matrix 2 5))
slice_of_other_size = refl

offset_below_zero : Breaks rule.Slices 2
    (sliced (index.Fixed (negsuc 0) ∷ (index.Fixed (pos 1) ∷ [])) (tensor (Fixed 2 ∷ (Dynamic ∷ []))))
offset_below_zero = refl
