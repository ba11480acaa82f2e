-- The printed form of worked modules.
use Rattle.std.specs.Prelude.{◌≡◌, ℕ, pos, negsuc, List, [], ◌∷◌, ◌++◌, codes, None, Some, true, false}
use Rattle.std.specs.Fmt.{digits}
use Rattle.std.proofs.Common.{refl}
use Rattle.xf_type.specs.declared.payload_type.Width.TheVariants.{I1, I8, I32, I64, Index}
use Rattle.xf_type.specs.declared.payload_type.Dim.TheVariants.{Fixed, Dynamic}
use Rattle.xf_type.specs.declared.attribute.AttrValue.TheVariants.{Unit as unit_attr, Int, Text}
use Rattle.xf_type.specs.declared.payload_type.PayloadType.{PayloadType}
use Rattle.xf_type.specs.declared.payload_type.PayloadType.TheVariants.{Scalar, Tensor}
use Rattle.xf_type.specs.declared.kind.BinKind.TheVariants.{Addi}
use Rattle.xf_type.specs.declared.kind.ConvKind.TheVariants.{IndexCast}
use Rattle.xf_ir.specs.declared.name.OpName.{OpName}
use Rattle.xf_ir.specs.declared.name.ValueName.{ValueName}
use Rattle.xf_ir.specs.declared.name.ValueName.TheVariants.{Result, Arg}
use Rattle.xf_ir.specs.declared.kind.IteratorKind.TheVariants.{Parallel, Reduction}
use Rattle.xf_ir.specs.declared.kind.NamedKind.TheVariants.{Fill}
use Rattle.xf_ir.specs.declared.kind.SliceIndex.TheVariants.{Fixed as At, Dynamic as Next}
use Rattle.xf_ir.specs.declared.kind.Kind.{Kind}
use Rattle.xf_ir.specs.declared.kind.Kind.TheVariants as kind
use Rattle.xf_ir.specs.declared.op.Module.{Module}
use Rattle.xf_ir.specs.Tree.{Ops, no_ops, op, no_regions, region}
use Rattle.xf_format.specs.Rules.{kind_rule, word_rule, symbol_rule, module_name_rule, function_name_rule}
use Rattle.xf_format.specs.Rules.{argument_rule, use_rule, width_rule, type_rule, result_rule, predicate_rule}
use Rattle.xf_format.specs.Rules.{block_name_rule, number_rule, literal_rule, entry_width_rule, entry_number_rule}
use Rattle.xf_format.specs.Rules.{entry_value_rule, entry_rule, param_rule, pair_rule, until_rule, dictionary_rule}
use Rattle.xf_format.specs.Rules.{attributes_rule, result_types_rule, call_results_rule, function_results_rule}
use Rattle.xf_format.specs.Rules.{listed_results_rule, if_results_rule, operands_rule, iter_args_rule, loop_width_rule}
use Rattle.xf_format.specs.Rules.{tensor_rule, result_tensor_rule, typed_rule, ins_rule, outs_rule, row_rule}
use Rattle.xf_format.specs.Rules.{defines_rule, head_rule, dense_type_rule, dense_rule, place_rule, stride_rule}
use Rattle.xf_format.specs.Rules.{iterator_rule, dimension_rule, given_rule, map_form_rule, map_rule, maps_rule}
use Rattle.xf_format.specs.Rules.{marked_rule, some_ins_rule}
use Rattle.xf_printed.specs.PrintedForm.{printed_form}

abbrev op_name : ℕ → OpName
op_name n = record { 0 = n }

abbrev i32 : PayloadType
i32 = Scalar I32

abbrev index : PayloadType
index = Scalar Index

abbrev module_of : Ops → Module
module_of functions = record {
  root = record {
    name = op_name 0;
    kind = kind.Module None;
    attrs = [];
    operands = [];
    results = [];
    regions = region [] functions no_regions;
  };
  next = 100;
}

abbrev constant : ℕ → ℕ → Ops → Ops
constant n bits rest = op (op_name n) (kind.Constant Index bits) [] [] (index ∷ []) no_regions rest

abbrev result : ℕ → ValueName
result n = Result (op_name n) 0

abbrev argument : ℕ → ℕ → ValueName
argument n i = Arg (op_name n) 0 i

-- a text by its lines
abbrev lines : List (List ℕ) → List ℕ
lines [] = []
lines (l ∷ ls) = l ++ 10 ∷ lines ls

abbrev turns : Module
turns = module_of (op (op_name 1) (kind.Func (codes "u") false (i32 ∷ [])) [] [] [] (region (i32 ∷ [])
    (constant 2 0 (constant 3 10 (constant 4 3
    (op (op_name 5) (kind.For Index) [] (result 2 ∷ result 3 ∷ result 4 ∷ argument 1 0 ∷ []) (i32 ∷ [])
    (region (index ∷ i32 ∷ [])
    (op (op_name 6) (kind.Convert IndexCast Index I32) [] (argument 5 0 ∷ []) (i32 ∷ []) no_regions
    (op (op_name 7) (kind.Binary Addi I32) [] (argument 5 1 ∷ result 6 ∷ []) (i32 ∷ []) no_regions
    (op (op_name 8) kind.Yield [] (result 7 ∷ []) [] no_regions no_ops)))
    no_regions)
    (op (op_name 9) kind.Return [] (result 5 ∷ []) [] no_regions no_ops)))))
    no_regions) no_ops)

turns_printed : printed_form turns
    ≡ lines (codes "module {"
    ∷ codes "  func.func @u(%arg0: i32) -> i32 {"
    ∷ codes "    %0 = arith.constant 0 : index"
    ∷ codes "    %1 = arith.constant 10 : index"
    ∷ codes "    %2 = arith.constant 3 : index"
    ∷ codes "    %3 = scf.for %arg1 = %0 to %1 step %2 iter_args(%arg2 = %arg0) -> (i32) {"
    ∷ codes "      %4 = arith.index_cast %arg1 : index to i32"
    ∷ codes "      %5 = arith.addi %arg2, %4 : i32"
    ∷ codes "      scf.yield %5 : i32"
    ∷ codes "    }"
    ∷ codes "    func.return %3 : i32"
    ∷ codes "  }"
    ∷ codes "}"
    ∷ [])
unfolding digits kind_rule word_rule symbol_rule module_name_rule function_name_rule argument_rule use_rule width_rule
    type_rule result_rule predicate_rule block_name_rule number_rule literal_rule entry_width_rule entry_number_rule
    entry_value_rule entry_rule param_rule pair_rule until_rule dictionary_rule attributes_rule result_types_rule
    call_results_rule function_results_rule listed_results_rule if_results_rule operands_rule iter_args_rule
    loop_width_rule tensor_rule result_tensor_rule typed_rule ins_rule outs_rule row_rule defines_rule head_rule
    dense_type_rule dense_rule place_rule stride_rule iterator_rule dimension_rule given_rule map_form_rule map_rule
    maps_rule marked_rule some_ins_rule
turns_printed = refl

abbrev pair : PayloadType
pair = Tensor (record { dims = Fixed 2 ∷ []; elem = I32 })

abbrev plain : ℕ → Kind → List ValueName → List PayloadType → Ops → Ops
plain n k os ts rest = op (op_name n) k [] os ts no_regions rest

abbrev structured : Module
structured = module_of (op (op_name 1) (kind.Func (codes "p") false (i32 ∷ i32 ∷ [])) [] [] [] (region (pair ∷ [])
    (plain 2 (kind.Dense (record { dims = Fixed 2 ∷ []; elem = I32 }) (1 ∷ 4294967294 ∷ [])) [] (pair ∷ [])
    (plain 3 (kind.Constant Index 0) [] (index ∷ [])
    (plain 4 (kind.Constant I1 1) [] (Scalar I1 ∷ [])
    (op (op_name 5) (kind.Generic (record { dims = 1; results = 0 ∷ [] } ∷ record { dims = 1; results = 0 ∷ [] } ∷ [])
    (Parallel ∷ [])) [] (argument 1 0 ∷ result 2 ∷ []) (pair ∷ []) (region (i32 ∷ i32 ∷ [])
    (plain 6 (kind.Binary Addi I32) (argument 5 0 ∷ argument 5 1 ∷ []) (i32 ∷ [])
    (plain 7 kind.LinalgYield (result 6 ∷ []) [] no_ops))
    no_regions)
    (plain 8 kind.Extract (result 5 ∷ result 3 ∷ []) (i32 ∷ [])
    (op (op_name 9) kind.If [] (result 4 ∷ []) (i32 ∷ i32 ∷ [])
    (region [] (plain 10 kind.Yield (result 8 ∷ result 8 ∷ []) [] no_ops)
    (region [] (plain 11 kind.Yield (result 8 ∷ result 8 ∷ []) [] no_ops) no_regions))
    (plain 12 kind.Return (result 9 ∷ Result (op_name 9) 1 ∷ []) [] no_ops)))))))
    no_regions) no_ops)

structured_printed : printed_form structured
    ≡ lines (codes "module {"
    ∷ codes "  func.func @p(%arg0: tensor<2xi32>) -> (i32, i32) {"
    ∷ codes "    %0 = arith.constant dense<[1, -2]> : tensor<2xi32>"
    ∷ codes "    %1 = arith.constant 0 : index"
    ∷ codes "    %2 = arith.constant true"
    ∷ (codes "    %3 = linalg.generic {indexing_maps = [affine_map<(d0) -> (d0)>, affine_map<(d0) -> "
    ++ codes "(d0)>], iterator_types = [\"parallel\"]} ins(%arg0 : tensor<2xi32>) outs(%0 : tensor<2xi32>) {")
    ∷ codes "    ^bb0(%arg1: i32, %arg2: i32):"
    ∷ codes "      %4 = arith.addi %arg1, %arg2 : i32"
    ∷ codes "      linalg.yield %4 : i32"
    ∷ codes "    } -> tensor<2xi32>"
    ∷ codes "    %5 = tensor.extract %3[%1] : tensor<2xi32>"
    ∷ codes "    %6:2 = scf.if %2 -> (i32, i32) {"
    ∷ codes "      scf.yield %5, %5 : i32, i32"
    ∷ codes "    } else {"
    ∷ codes "      scf.yield %5, %5 : i32, i32"
    ∷ codes "    }"
    ∷ codes "    func.return %6#0, %6#1 : i32, i32"
    ∷ codes "  }"
    ∷ codes "}"
    ∷ [])
unfolding digits kind_rule word_rule symbol_rule module_name_rule function_name_rule argument_rule use_rule width_rule
    type_rule result_rule predicate_rule block_name_rule number_rule literal_rule entry_width_rule entry_number_rule
    entry_value_rule entry_rule param_rule pair_rule until_rule dictionary_rule attributes_rule result_types_rule
    call_results_rule function_results_rule listed_results_rule if_results_rule operands_rule iter_args_rule
    loop_width_rule tensor_rule result_tensor_rule typed_rule ins_rule outs_rule row_rule defines_rule head_rule
    dense_type_rule dense_rule place_rule stride_rule iterator_rule dimension_rule given_rule map_form_rule map_rule
    maps_rule marked_rule some_ins_rule
structured_printed = refl

-- a function with attributes, a call of it, and an empty yield
abbrev called : Module
called =
    module_of (op (op_name 1) (kind.Func (codes "s") true (i32 ∷ i32 ∷ []))
    (record { name = codes "n"; value = Int I64 2 } ∷ []) [] [] (region (i32 ∷ [])
    (op (op_name 2) (kind.Binary Addi I32) (record { name = codes "x"; value = unit_attr } ∷ [])
    (argument 1 0 ∷ argument 1 0 ∷ []) (i32 ∷ []) no_regions
    (plain 3 kind.Return (result 2 ∷ result 2 ∷ []) [] no_ops))
    no_regions)
    (op (op_name 4) (kind.Func (codes "t") false []) [] [] [] (region (i32 ∷ Scalar I1 ∷ [])
    (op (op_name 5) kind.If (record { name = codes "k"; value = Text (codes "a\"b") } ∷ []) (argument 4 1 ∷ []) []
    (region [] (plain 6 (kind.Call (codes "s")) (argument 4 0 ∷ []) (i32 ∷ i32 ∷ [])
    (plain 7 kind.Yield [] [] no_ops)) no_regions)
    (plain 8 kind.Return [] [] no_ops))
    no_regions) no_ops))

called_printed : printed_form called
    ≡ lines (codes "module {"
    ∷ codes "  func.func private @s(%arg0: i32) -> (i32, i32) attributes {n = 2 : i64} {"
    ∷ codes "    %0 = arith.addi %arg0, %arg0 {x} : i32"
    ∷ codes "    func.return %0, %0 : i32, i32"
    ∷ codes "  }"
    ∷ codes "  func.func @t(%arg0: i32, %arg1: i1) {"
    ∷ codes "    scf.if %arg1 {"
    ∷ codes "      %0:2 = func.call @s(%arg0) : (i32) -> (i32, i32)"
    ∷ codes "    } {k = \"a\\22b\"}"
    ∷ codes "    func.return"
    ∷ codes "  }"
    ∷ codes "}"
    ∷ [])
unfolding digits kind_rule word_rule symbol_rule module_name_rule function_name_rule argument_rule use_rule width_rule
    type_rule result_rule predicate_rule block_name_rule number_rule literal_rule entry_width_rule entry_number_rule
    entry_value_rule entry_rule param_rule pair_rule until_rule dictionary_rule attributes_rule result_types_rule
    call_results_rule function_results_rule listed_results_rule if_results_rule operands_rule iter_args_rule
    loop_width_rule tensor_rule result_tensor_rule typed_rule ins_rule outs_rule row_rule defines_rule head_rule
    dense_type_rule dense_rule place_rule stride_rule iterator_rule dimension_rule given_rule map_form_rule map_rule
    maps_rule marked_rule some_ins_rule
called_printed = refl

abbrev grid : PayloadType
grid = Tensor (record { dims = Dynamic ∷ Fixed 4 ∷ []; elem = I32 })

abbrev square : PayloadType
square = Tensor (record { dims = Fixed 2 ∷ Fixed 2 ∷ []; elem = I32 })

-- slices, a tensor of one number, and numbers below 0
abbrev tensors : Module
tensors = record {
  root = record {
    name = op_name 0;
    kind = kind.Module (Some (codes "m"));
    attrs = (record { name = codes "v"; value = unit_attr }) ∷ [];
    operands = [];
    results = [];
    regions = region []
        (op (op_name 1) (kind.Func (codes "f") false (grid ∷ [])) [] [] [] (region (grid ∷ index ∷ [])
        (plain 2 (kind.Dense (record { dims = Fixed 2 ∷ Fixed 2 ∷ []; elem = I32 }) (7 ∷ [])) [] (square ∷ [])
        (plain 3 (kind.Constant I8 255) [] (Scalar I8 ∷ [])
        (plain 4 kind.Empty (argument 1 1 ∷ []) (grid ∷ [])
        (op (op_name 5) kind.Dim
        ((record { name = codes "a"; value = Int I8 255 }) ∷ (record { name = codes "b"; value = Int I1 1 }) ∷ [])
        (argument 1 0 ∷ argument 1 1 ∷ []) (index ∷ []) no_regions
        (plain 6 (kind.ExtractSlice (At (pos 0) ∷ Next ∷ []) (At (pos 2) ∷ At (pos 2) ∷ []))
        (argument 1 0 ∷ argument 1 1 ∷ []) (square ∷ [])
        (plain 7 (kind.InsertSlice (Next ∷ At (pos 0) ∷ []) (At (pos 2) ∷ At (pos 2) ∷ []))
        (result 6 ∷ result 4 ∷ result 5 ∷ []) (grid ∷ [])
        (plain 8 (kind.Named Fill) (result 3 ∷ result 7 ∷ []) (grid ∷ [])
        (plain 9 kind.Cast (result 8 ∷ []) (grid ∷ [])
        (plain 10 kind.Return (result 9 ∷ []) [] no_ops)))))))))
        no_regions) no_ops) no_regions;
  };
  next = 100;
}

tensors_printed : printed_form tensors
    ≡ lines (codes "module @m attributes {v} {"
    ∷ codes "  func.func @f(%arg0: tensor<?x4xi32>, %arg1: index) -> tensor<?x4xi32> {"
    ∷ codes "    %0 = arith.constant dense<7> : tensor<2x2xi32>"
    ∷ codes "    %1 = arith.constant -1 : i8"
    ∷ codes "    %2 = tensor.empty(%arg1) : tensor<?x4xi32>"
    ∷ codes "    %3 = tensor.dim {a = -1 : i8, b = true} %arg0, %arg1 : tensor<?x4xi32>"
    ∷ codes "    %4 = tensor.extract_slice %arg0[0, %arg1] [2, 2] [1, 1] : tensor<?x4xi32> to tensor<2x2xi32>"
    ∷ codes "    %5 = tensor.insert_slice %4 into %2[%3, 0] [2, 2] [1, 1] : tensor<2x2xi32> into tensor<?x4xi32>"
    ∷ codes "    %6 = linalg.fill ins(%1 : i8) outs(%5 : tensor<?x4xi32>) -> tensor<?x4xi32>"
    ∷ codes "    %7 = tensor.cast %6 : tensor<?x4xi32> to tensor<?x4xi32>"
    ∷ codes "    func.return %7 : tensor<?x4xi32>"
    ∷ codes "  }"
    ∷ codes "}"
    ∷ [])
unfolding digits kind_rule word_rule symbol_rule module_name_rule function_name_rule argument_rule use_rule width_rule
    type_rule result_rule predicate_rule block_name_rule number_rule literal_rule entry_width_rule entry_number_rule
    entry_value_rule entry_rule param_rule pair_rule until_rule dictionary_rule attributes_rule result_types_rule
    call_results_rule function_results_rule listed_results_rule if_results_rule operands_rule iter_args_rule
    loop_width_rule tensor_rule result_tensor_rule typed_rule ins_rule outs_rule row_rule defines_rule head_rule
    dense_type_rule dense_rule place_rule stride_rule iterator_rule dimension_rule given_rule map_form_rule map_rule
    maps_rule marked_rule some_ins_rule
tensors_printed = refl

abbrev one_number : PayloadType
one_number = Tensor (record { dims = []; elem = I32 })

abbrev truths : PayloadType
truths = Tensor (record { dims = Fixed 2 ∷ Fixed 1 ∷ []; elem = I1 })

abbrev no_truths : PayloadType
no_truths = Tensor (record { dims = Fixed 0 ∷ []; elem = I1 })

-- nested lists, none and truth values; a sum over the columns, with attributes; a body that reads nothing; and a window
-- with a number below 0
abbrev sums : Module
sums = module_of (op (op_name 1) (kind.Func (codes "r") false []) [] [] [] (region (pair ∷ one_number ∷ [])
    (plain 2 (kind.Dense (record { dims = Fixed 2 ∷ Fixed 2 ∷ []; elem = I32 }) (1 ∷ 2 ∷ 3 ∷ 4 ∷ [])) [] (square ∷ [])
    (plain 3 (kind.Dense (record { dims = Fixed 2 ∷ Fixed 1 ∷ []; elem = I1 }) (1 ∷ 0 ∷ [])) [] (truths ∷ [])
    (plain 4 (kind.Dense (record { dims = Fixed 0 ∷ []; elem = I1 }) []) [] (no_truths ∷ [])
    (op (op_name 5)
    (kind.Generic (record { dims = 2; results = 0 ∷ 1 ∷ [] } ∷ record { dims = 2; results = 0 ∷ [] } ∷ [])
    (Parallel ∷ Reduction ∷ []))
    (record { name = codes "n"; value = Int I64 5 } ∷ record { name = codes "x"; value = unit_attr } ∷ [])
    (result 2 ∷ argument 1 0 ∷ []) (pair ∷ []) (region (i32 ∷ i32 ∷ [])
    (plain 6 (kind.Binary Addi I32) (argument 5 1 ∷ argument 5 0 ∷ []) (i32 ∷ [])
    (plain 7 kind.LinalgYield (result 6 ∷ []) [] no_ops))
    no_regions)
    (op (op_name 8) (kind.Generic (record { dims = 0; results = [] } ∷ []) []) [] (argument 1 1 ∷ [])
    (one_number ∷ []) (region (i32 ∷ [])
    (plain 9 kind.LinalgYield (argument 8 0 ∷ []) [] no_ops)
    no_regions)
    (plain 10 (kind.ExtractSlice (At (negsuc 0) ∷ []) (At (pos 2) ∷ [])) (result 5 ∷ []) (pair ∷ [])
    (plain 11 kind.Return [] [] no_ops)))))))
    no_regions) no_ops)

sums_printed : printed_form sums
    ≡ lines (codes "module {"
    ∷ codes "  func.func @r(%arg0: tensor<2xi32>, %arg1: tensor<i32>) {"
    ∷ codes "    %0 = arith.constant dense<[[1, 2], [3, 4]]> : tensor<2x2xi32>"
    ∷ codes "    %1 = arith.constant dense<[[true], [false]]> : tensor<2x1xi1>"
    ∷ codes "    %2 = arith.constant dense<> : tensor<0xi1>"
    ∷ (codes "    %3 = linalg.generic {indexing_maps = [affine_map<(d0, d1) -> (d0, d1)>, affine_map<(d0, d1) -> "
    ++ (codes "(d0)>], iterator_types = [\"parallel\", \"reduction\"]} ins(%0 : tensor<2x2xi32>) "
    ++ codes "outs(%arg0 : tensor<2xi32>) attrs = {n = 5 : i64, x} {"))
    ∷ codes "    ^bb0(%arg2: i32, %arg3: i32):"
    ∷ codes "      %4 = arith.addi %arg3, %arg2 : i32"
    ∷ codes "      linalg.yield %4 : i32"
    ∷ codes "    } -> tensor<2xi32>"
    ∷ (codes "    %5 = linalg.generic {indexing_maps = [affine_map<() -> ()>], iterator_types = []} "
    ++ codes "outs(%arg1 : tensor<i32>) {")
    ∷ codes "    ^bb0(%arg4: i32):"
    ∷ codes "      linalg.yield %arg4 : i32"
    ∷ codes "    } -> tensor<i32>"
    ∷ codes "    %6 = tensor.extract_slice %3[-1] [2] [1] : tensor<2xi32> to tensor<2xi32>"
    ∷ codes "    func.return"
    ∷ codes "  }"
    ∷ codes "}"
    ∷ [])
unfolding digits kind_rule word_rule symbol_rule module_name_rule function_name_rule argument_rule use_rule width_rule
    type_rule result_rule predicate_rule block_name_rule number_rule literal_rule entry_width_rule entry_number_rule
    entry_value_rule entry_rule param_rule pair_rule until_rule dictionary_rule attributes_rule result_types_rule
    call_results_rule function_results_rule listed_results_rule if_results_rule operands_rule iter_args_rule
    loop_width_rule tensor_rule result_tensor_rule typed_rule ins_rule outs_rule row_rule defines_rule head_rule
    dense_type_rule dense_rule place_rule stride_rule iterator_rule dimension_rule given_rule map_form_rule map_rule
    maps_rule marked_rule some_ins_rule
sums_printed = refl
