-- Small modules of each kind of operation, with what they return and in how many units, or where they are undefined.
use Rattle.std.proofs.Common.{◌≡◌, ℕ, ◌+◌, List, [], ◌∷◌, None, false, refl}
use Rattle.std.specs.Prelude.{length, map, pos}
use Rattle.xf_type.specs.declared.payload_type.PayloadType.{PayloadType}
use Rattle.xf_type.specs.declared.payload_type.PayloadType.TheVariants as type_of
use Rattle.xf_type.specs.declared.payload_type.Dim.{Dim}
use Rattle.xf_type.specs.declared.payload_type.Dim.TheVariants.{Fixed, Dynamic}
use Rattle.xf_type.specs.declared.payload_type.Width.{Width}
use Rattle.xf_type.specs.declared.payload_type.Width.TheVariants.{I1, I8, I32, Index}
use Rattle.xf_type.specs.declared.payload_type.Elem.{Elem}
use Rattle.xf_type.specs.declared.payload_type.Elem.TheVariants.{Num, NoNumber}
use Rattle.xf_type.specs.declared.kind.BinKind.TheVariants.{Addi, Shli, Maxsi}
use Rattle.xf_type.specs.declared.kind.CmpKind.TheVariants.{Slt}
use Rattle.xf_type.specs.declared.kind.ConvKind.TheVariants.{IndexCast}
use Rattle.xf_ir.specs.declared.name.OpName.{OpName}
use Rattle.xf_ir.specs.declared.name.ValueName.{ValueName}
use Rattle.xf_ir.specs.declared.name.ValueName.TheVariants.{Result, Arg}
use Rattle.xf_ir.specs.declared.kind.Kind.{Kind}
use Rattle.xf_ir.specs.declared.kind.Kind.TheVariants as kind
use Rattle.xf_ir.specs.declared.kind.NamedKind.{NamedKind}
use Rattle.xf_ir.specs.declared.kind.NamedKind.TheVariants.{Matmul, BatchMatmul, Matvec, Dot, Fill}
use Rattle.xf_ir.specs.declared.kind.IteratorKind.TheVariants.{Parallel, Reduction}
use Rattle.xf_ir.specs.declared.kind.SliceIndex.TheVariants as index
use Rattle.xf_ir.specs.declared.op.Module.{Module}
use Rattle.xf_ir.specs.Tree.{Ops, no_ops, op, no_regions, region}
use Rattle.xf_points.specs.Points.{counted}
use Rattle.xf_sem.specs.declared.value.Value.{Value}
use Rattle.xf_sem.specs.declared.value.Value.TheVariants.{Scalar, Tensor}
use Rattle.xf_sem.specs.Meaning.{Run, gives, fails, meaning}

-- ---- words for trees and values

abbrev pub named : ℕ → OpName
named n = record { 0 = n }

abbrev pub res : ℕ → ValueName
res n = Result (named n) 0

abbrev pub arg : ℕ → ℕ → ValueName
arg n i = Arg (named n) 0 i

-- an operation that holds nothing
abbrev pub leaf : ℕ → Kind → List ValueName → List PayloadType → Ops → Ops
leaf n k os ts rest = op (named n) k [] os ts no_regions rest

-- an operation that holds one block
abbrev pub holder : ℕ → Kind → List ValueName → List PayloadType → List PayloadType → Ops → Ops → Ops
holder n k os ts args ops rest = op (named n) k [] os ts (region args ops no_regions) rest

-- a function whose symbol is one byte
abbrev pub func : ℕ → ℕ → List PayloadType → List PayloadType → Ops → Ops → Ops
func n letter args results ops rest = holder n (kind.Func (letter ∷ []) false results) [] [] args ops rest

abbrev pub module_of : Ops → Module
module_of fs = record {
  root = record {
    name = named 0;
    kind = kind.Module None;
    attrs = [];
    operands = [];
    results = [];
    regions = region [] fs no_regions;
  };
  next = 1000;
}

abbrev pub scalar : Width → List PayloadType
scalar width = type_of.Scalar width ∷ []

abbrev pub shaped : Width → List Dim → List PayloadType
shaped width dims = type_of.Tensor (record { dims = dims; elem = width }) ∷ []

-- the return of these values, which is operation 99
abbrev pub ret : List ValueName → Ops
ret vs = leaf 99 kind.Return vs [] no_ops

-- what the function f returns, of which this is the body
abbrev pub run : List PayloadType → List PayloadType → Ops → List Value → Run (List Value)
run args results ops vs = meaning (module_of (func 1 102 args results ops no_ops)) (102 ∷ []) vs

abbrev pub in_units : ℕ → List Value → Run (List Value)
in_units u vs = record { units = u; answer = gives vs }

abbrev pub stops_at : ℕ → ℕ → Run (List Value)
stops_at u n = record { units = u; answer = fails (named n) }

abbrev pub int : ℕ → Value
int n = Scalar I32 (Num n)

abbrev pub place : ℕ → Value
place n = Scalar Index (Num n)

abbrev pub list : List Elem → Value
list elems = Tensor I32 (length elems ∷ []) elems

abbrev pub matrix : ℕ → ℕ → List Elem → Value
matrix rows columns elems = Tensor I32 (rows ∷ (columns ∷ [])) elems

abbrev pub constant : ℕ → Width → ℕ → Ops → Ops
constant n width bits rest = leaf n (kind.Constant width bits) [] (scalar width) rest

-- ---- arith

-- a shift by as many places as there are bits gives no number, and so does what uses it
shifted_out : run [] (scalar I32) (constant 2 I32 32 (leaf 3 (kind.Binary Shli I32) (res 2 ∷ (res 2 ∷ [])) (scalar I32)
    (leaf 4 (kind.Binary Addi I32) (res 3 ∷ (res 2 ∷ [])) (scalar I32) (ret (res 4 ∷ []))))) []
    ≡ in_units 4 (Scalar I32 NoNumber ∷ [])
shifted_out = refl

-- -1 is less than 0, where numbers of one bit have signs; and what is not chosen may be no number
one_bit : run (scalar I1) (scalar I1)
    (constant 2 I1 0 (leaf 3 (kind.Compare Slt I1) (arg 1 0 ∷ (res 2 ∷ [])) (scalar I1)
    (leaf 4 (kind.Select I1) (res 3 ∷ (res 3 ∷ (arg 1 0 ∷ []))) (scalar I1) (ret (res 4 ∷ [])))))
    (Scalar I1 (Num 1) ∷ [])
    ≡ in_units 4 (Scalar I1 (Num 1) ∷ [])
one_bit = refl

-- an index wraps at 2^64
wrapped_index : run [] (scalar Index) (constant 2 Index 18446744073709551615 (leaf 3 (kind.Binary Addi Index)
    (res 2 ∷ (res 2 ∷ [])) (scalar Index) (ret (res 3 ∷ [])))) [] ≡ in_units 3 (place 18446744073709551614 ∷ [])
wrapped_index = refl

-- a constant tensor, with a unit for each element
dense_list : run [] (shaped I32 (Fixed 2 ∷ [])) (leaf 2 (kind.Dense (record { dims = Fixed 2 ∷ []; elem = I32 })
    (1 ∷ (4294967294 ∷ []))) [] (shaped I32 (Fixed 2 ∷ [])) (ret (res 2 ∷ []))) []
    ≡ in_units 4 (list (Num 1 ∷ (Num 4294967294 ∷ [])) ∷ [])
dense_list = refl

dense_splat : run [] (shaped I32 (Fixed 3 ∷ [])) (leaf 2 (kind.Dense (record { dims = Fixed 3 ∷ []; elem = I32 })
    (7 ∷ [])) [] (shaped I32 (Fixed 3 ∷ [])) (ret (res 2 ∷ []))) []
    ≡ in_units 5 (list (Num 7 ∷ (Num 7 ∷ (Num 7 ∷ []))) ∷ [])
dense_splat = refl

-- ---- calls

-- the caller's result is the callee's
called_twice : meaning (module_of (func 1 102 (scalar I32) (scalar I32)
    (leaf 2 (kind.Call (103 ∷ [])) (arg 1 0 ∷ []) (scalar I32) (leaf 3 (kind.Call (103 ∷ [])) (res 2 ∷ []) (scalar I32)
    (leaf 4 kind.Return (res 3 ∷ []) [] no_ops)))
    (func 5 103 (scalar I32) (scalar I32)
    (leaf 6 (kind.Binary Addi I32) (arg 5 0 ∷ (arg 5 0 ∷ [])) (scalar I32) (leaf 7 kind.Return (res 6 ∷ []) [] no_ops))
    no_ops))) (102 ∷ []) (int 5 ∷ []) ≡ in_units 7 (int 20 ∷ [])
called_twice = refl

-- ---- loops and branches

-- the sum of an argument with 0, 3, 6 and 9, by the turns from one bound to another
sum_of_turns : ℕ → ℕ → Ops
sum_of_turns lower upper =
    constant 2 Index lower (constant 3 Index upper (constant 4 Index 3 (holder 5 (kind.For Index)
    (res 2 ∷ (res 3 ∷ (res 4 ∷ (arg 1 0 ∷ [])))) (scalar I32) (type_of.Scalar Index ∷ scalar I32)
    (leaf 6 (kind.Convert IndexCast Index I32) (arg 5 0 ∷ []) (scalar I32)
    (leaf 7 (kind.Binary Addi I32) (arg 5 1 ∷ (res 6 ∷ [])) (scalar I32) (leaf 8 kind.Yield (res 7 ∷ []) [] no_ops)))
    (ret (res 5 ∷ [])))))

-- four turns of three operations
four_turns : run (scalar I32) (scalar I32) (sum_of_turns 0 10) (int 5 ∷ []) ≡ in_units 17 (int 23 ∷ [])
unfolding sum_of_turns
four_turns = refl

no_turns : run (scalar I32) (scalar I32) (sum_of_turns 5 5) (int 5 ∷ []) ≡ in_units 5 (int 5 ∷ [])
unfolding sum_of_turns
no_turns = refl

-- bounds have signs: from -3 to 1 there are two turns
signed_bounds : run (scalar I32) (scalar I32) (sum_of_turns 18446744073709551613 1) (int 5 ∷ [])
    ≡ in_units 11 (int 2 ∷ [])
unfolding sum_of_turns
signed_bounds = refl

-- a step of 0 is undefined
no_step : run (scalar Index) [] (constant 2 Index 0 (holder 3 (kind.For Index) (res 2 ∷ (arg 1 0 ∷ (res 2 ∷ []))) []
    (scalar Index) (leaf 4 kind.Yield [] [] no_ops) (ret []))) (place 9 ∷ []) ≡ stops_at 2 3
no_step = refl

-- an if with two regions, of which each gives its constant
branch : Ops
branch =
    op (named 2) kind.If [] (arg 1 0 ∷ []) (scalar I32)
    (region [] (constant 3 I32 7 (leaf 4 kind.Yield (res 3 ∷ []) [] no_ops))
    (region [] (constant 5 I32 8 (leaf 6 kind.Yield (res 5 ∷ []) [] no_ops)) no_regions)) (ret (res 2 ∷ []))

first_branch : run (scalar I1) (scalar I32) branch (Scalar I1 (Num 1) ∷ []) ≡ in_units 4 (int 7 ∷ [])
unfolding branch
first_branch = refl

second_branch : run (scalar I1) (scalar I32) branch (Scalar I1 (Num 0) ∷ []) ≡ in_units 4 (int 8 ∷ [])
unfolding branch
second_branch = refl

no_branch : run (scalar I1) (scalar I32) branch (Scalar I1 NoNumber ∷ []) ≡ stops_at 1 2
unfolding branch
no_branch = refl

-- an if without else, whose block is not entered
absent_else : run (scalar I1) [] (holder 2 kind.If (arg 1 0 ∷ []) [] [] (leaf 3 kind.Yield [] [] no_ops) (ret []))
    (Scalar I1 (Num 0) ∷ []) ≡ in_units 2 []
absent_else = refl

-- ---- tensors

-- elements that are no number
empty_list : run [] (shaped I32 (Fixed 2 ∷ [])) (leaf 2 kind.Empty [] (shaped I32 (Fixed 2 ∷ [])) (ret (res 2 ∷ [])))
    []
    ≡ in_units 4 (list (NoNumber ∷ (NoNumber ∷ [])) ∷ [])
empty_list = refl

-- a size of 0
nothing : run [] (shaped I32 (Dynamic ∷ (Fixed 3 ∷ []))) (constant 2 Index 0 (leaf 3 kind.Empty (res 2 ∷ [])
    (shaped I32 (Dynamic ∷ (Fixed 3 ∷ []))) (ret (res 3 ∷ [])))) [] ≡ in_units 3 (matrix 0 3 [] ∷ [])
nothing = refl

-- a size of 2^31
too_large : run [] (shaped I32 (Dynamic ∷ [])) (constant 2 Index 2147483648 (leaf 3 kind.Empty (res 2 ∷ [])
    (shaped I32 (Dynamic ∷ [])) (ret (res 3 ∷ [])))) [] ≡ stops_at 2 3
too_large = refl

-- the size of a dimension
size_of : ℕ → Run (List Value)
size_of d =
    run (shaped I32 (Dynamic ∷ (Fixed 3 ∷ []))) (scalar Index) (constant 2 Index d (leaf 3 kind.Dim
    (arg 1 0 ∷ (res 2 ∷ [])) (scalar Index) (ret (res 3 ∷ [])))) (matrix 2 3 (Num 1 ∷ (Num 2 ∷ (Num 3 ∷ (Num 4 ∷ (Num 5
    ∷ (Num 6 ∷ [])))))) ∷ [])

second_size : size_of 1 ≡ in_units 3 (place 3 ∷ [])
unfolding size_of
second_size = refl

no_size : size_of 2 ≡ stops_at 2 3
unfolding size_of
no_size = refl

-- the element at an index of two numbers
element_of : ℕ → Run (List Value)
element_of i =
    run (shaped I32 (Fixed 2 ∷ [])) (scalar I32) (constant 2 Index i (leaf 3 kind.Extract (arg 1 0 ∷ (res 2 ∷ []))
    (scalar I32) (ret (res 3 ∷ [])))) (list (Num 10 ∷ (Num 20 ∷ [])) ∷ [])

last_element : element_of 1 ≡ in_units 3 (int 20 ∷ [])
unfolding element_of
last_element = refl

no_element : element_of 2 ≡ stops_at 2 3
unfolding element_of
no_element = refl

put : run (shaped I32 (Fixed 2 ∷ [])) (shaped I32 (Fixed 2 ∷ [])) (constant 2 Index 1 (constant 3 I32 9
    (leaf 4 kind.Insert (res 3 ∷ (arg 1 0 ∷ (res 2 ∷ []))) (shaped I32 (Fixed 2 ∷ [])) (ret (res 4 ∷ [])))))
    (list (Num 10 ∷ (Num 20 ∷ [])) ∷ []) ≡ in_units 6 (list (Num 10 ∷ (Num 9 ∷ [])) ∷ [])
put = refl

-- a slice of one row and two columns, from an offset that is an operand
row_from : ℕ → Run (List Value)
row_from offset =
    run (shaped I32 (Fixed 2 ∷ (Fixed 3 ∷ []))) (shaped I32 (Fixed 1 ∷ (Fixed 2 ∷ []))) (constant 2 Index offset
    (leaf 3 (kind.ExtractSlice (index.Fixed (pos 1) ∷ (index.Dynamic ∷ [])) (index.Fixed (pos 1) ∷ (index.Fixed (pos 2)
    ∷ []))) (arg 1 0 ∷ (res 2 ∷ [])) (shaped I32 (Fixed 1 ∷ (Fixed 2 ∷ []))) (ret (res 3 ∷ []))))
    (matrix 2 3 (Num 1 ∷ (Num 2 ∷ (Num 3 ∷ (Num 4 ∷ (Num 5 ∷ (Num 6 ∷ [])))))) ∷ [])

to_the_border : row_from 1 ≡ in_units 5 (matrix 1 2 (Num 5 ∷ (Num 6 ∷ [])) ∷ [])
unfolding row_from
to_the_border = refl

past_the_border : row_from 2 ≡ stops_at 2 3
unfolding row_from
past_the_border = refl

-- a window overwritten, and the rest of the target as it was
window_put : run (shaped I32 (Fixed 1 ∷ [])) (shaped I32 (Fixed 3 ∷ [])) (leaf 2 (kind.Dense
    (record { dims = Fixed 3 ∷ []; elem = I32 }) (7 ∷ [])) [] (shaped I32 (Fixed 3 ∷ []))
    (leaf 3 (kind.InsertSlice (index.Fixed (pos 1) ∷ []) (index.Fixed (pos 1) ∷ [])) (arg 1 0 ∷ (res 2 ∷ []))
    (shaped I32 (Fixed 3 ∷ [])) (ret (res 3 ∷ [])))) (list (Num 5 ∷ []) ∷ [])
    ≡ in_units 9 (list (Num 7 ∷ (Num 5 ∷ (Num 7 ∷ []))) ∷ [])
window_put = refl

-- a cast to a type of two elements
cast_of : Value → Run (List Value)
cast_of v =
    run (shaped I32 (Dynamic ∷ [])) (shaped I32 (Fixed 2 ∷ [])) (leaf 2 kind.Cast (arg 1 0 ∷ [])
    (shaped I32 (Fixed 2 ∷ [])) (ret (res 2 ∷ []))) (v ∷ [])

cast_fits : cast_of (list (Num 1 ∷ (Num 2 ∷ []))) ≡ in_units 4 (list (Num 1 ∷ (Num 2 ∷ [])) ∷ [])
unfolding cast_of
cast_fits = refl

cast_fails : cast_of (list (Num 1 ∷ [])) ≡ stops_at 1 2
unfolding cast_of
cast_fails = refl

-- ---- structured operations

-- the sum of two lists, an element of which is taken where the condition holds: the operation as MLIR prints it
elementwise : run (shaped I32 (Fixed 2 ∷ [])) (type_of.Scalar I32 ∷ scalar I32)
    (leaf 2 (kind.Dense (record { dims = Fixed 2 ∷ []; elem = I32 }) (1 ∷ (4294967294 ∷ []))) []
    (shaped I32 (Fixed 2 ∷ []))
    (constant 3 Index 0 (constant 4 I1 1
    (holder 5 (kind.Generic (record { dims = 1; results = 0 ∷ [] } ∷ (record { dims = 1; results = 0 ∷ [] } ∷ []))
    (Parallel ∷ [])) (arg 1 0 ∷ (res 2 ∷ [])) (shaped I32 (Fixed 2 ∷ [])) (type_of.Scalar I32 ∷ scalar I32)
    (leaf 6 (kind.Binary Addi I32) (arg 5 0 ∷ (arg 5 1 ∷ [])) (scalar I32)
    (leaf 7 kind.LinalgYield (res 6 ∷ []) [] no_ops))
    (leaf 8 kind.Extract (res 5 ∷ (res 3 ∷ [])) (scalar I32)
    (op (named 9) kind.If [] (res 4 ∷ []) (type_of.Scalar I32 ∷ scalar I32)
    (region [] (leaf 10 kind.Yield (res 8 ∷ (res 8 ∷ [])) [] no_ops)
    (region [] (leaf 11 kind.Yield (res 8 ∷ (res 8 ∷ [])) [] no_ops) no_regions))
    (ret (res 9 ∷ (Result (named 9) 1 ∷ []))))))))) (list (Num 10 ∷ (Num 20 ∷ [])) ∷ [])
    ≡ in_units 18 (int 11 ∷ (int 11 ∷ []))
elementwise = refl

-- the greatest of the numbers from 0 to 23 and -128, by two reductions
greatest : run (type_of.Tensor (record { dims = Fixed 4 ∷ (Fixed 6 ∷ []); elem = I8 }) ∷ shaped I8 []) (shaped I8 [])
    (holder 3 (kind.Generic (record { dims = 2; results = 0 ∷ (1 ∷ []) } ∷ (record { dims = 2; results = [] } ∷ []))
    (Reduction ∷ (Reduction ∷ []))) (arg 1 0 ∷ (arg 1 1 ∷ [])) (shaped I8 []) (type_of.Scalar I8 ∷ scalar I8)
    (leaf 4 (kind.Binary Maxsi I8) (arg 3 1 ∷ (arg 3 0 ∷ [])) (scalar I8)
    (leaf 5 kind.LinalgYield (res 4 ∷ []) [] no_ops)) (ret (res 3 ∷ [])))
    (Tensor I8 (4 ∷ (6 ∷ [])) (map (λ n. Num n) (counted 0 24)) ∷ (Tensor I8 [] (Num 128 ∷ []) ∷ []))
    ≡ in_units 75 (Tensor I8 [] (Num 23 ∷ []) ∷ [])
greatest = refl

-- an operation with a name, on values of these types
of_name : NamedKind → List PayloadType → List PayloadType → List Value → Run (List Value)
of_name which args result vs = run args result (leaf 2 (kind.Named which) (names_to 0 vs) result (ret (res 2 ∷ []))) vs
  where
    names_to : ℕ → List Value → List ValueName
    names_to i [] = []
    names_to i (v ∷ vs) = arg 1 i ∷ names_to (i + 1) vs

-- (1 2 3; 4 5 6) by (1 0; 0 1; 1 1) onto (0 100; 200 250): twelve points
matmul : of_name Matmul
    (type_of.Tensor (record { dims = Fixed 2 ∷ (Fixed 3 ∷ []); elem = I32 })
    ∷ (type_of.Tensor (record { dims = Fixed 3 ∷ (Fixed 2 ∷ []); elem = I32 })
    ∷ (type_of.Tensor (record { dims = Fixed 2 ∷ (Fixed 2 ∷ []); elem = I32 }) ∷ [])))
    (shaped I32 (Fixed 2 ∷ (Fixed 2 ∷ [])))
    (matrix 2 3 (Num 1 ∷ (Num 2 ∷ (Num 3 ∷ (Num 4 ∷ (Num 5 ∷ (Num 6 ∷ []))))))
    ∷ (matrix 3 2 (Num 1 ∷ (Num 0 ∷ (Num 0 ∷ (Num 1 ∷ (Num 1 ∷ (Num 1 ∷ []))))))
    ∷ (matrix 2 2 (Num 0 ∷ (Num 100 ∷ (Num 200 ∷ (Num 250 ∷ [])))) ∷ [])))
    ≡ in_units 18 (matrix 2 2 (Num 4 ∷ (Num 105 ∷ (Num 210 ∷ (Num 261 ∷ [])))) ∷ [])
unfolding of_name
matmul = refl

-- extents that disagree
disagreeing : of_name Matvec
    (type_of.Tensor (record { dims = Dynamic ∷ (Dynamic ∷ []); elem = I32 })
    ∷ (type_of.Tensor (record { dims = Dynamic ∷ []; elem = I32 }) ∷ shaped I32 (Dynamic ∷ [])))
    (shaped I32 (Dynamic ∷ []))
    (matrix 1 2 (Num 1 ∷ (Num 2 ∷ [])) ∷ (list (Num 1 ∷ []) ∷ (list (Num 0 ∷ []) ∷ []))) ≡ stops_at 1 2
unfolding of_name
disagreeing = refl

-- the product of two lists, in a width where it wraps
dot : of_name Dot
    (type_of.Tensor (record { dims = Fixed 3 ∷ []; elem = I8 })
    ∷ (type_of.Tensor (record { dims = Fixed 3 ∷ []; elem = I8 }) ∷ shaped I8 [])) (shaped I8 [])
    (Tensor I8 (3 ∷ []) (Num 1 ∷ (Num 2 ∷ (Num 3 ∷ [])))
    ∷ (Tensor I8 (3 ∷ []) (Num 100 ∷ (Num 1 ∷ (Num 60 ∷ []))) ∷ (Tensor I8 [] (Num 4 ∷ []) ∷ [])))
    ≡ in_units 6 (Tensor I8 [] (Num 30 ∷ []) ∷ [])
unfolding of_name
dot = refl

-- a matrix by a list: no number in one makes none of each element
matvec : of_name Matvec
    (type_of.Tensor (record { dims = Fixed 2 ∷ (Fixed 2 ∷ []); elem = I32 })
    ∷ (type_of.Tensor (record { dims = Fixed 2 ∷ []; elem = I32 }) ∷ shaped I32 (Fixed 2 ∷ [])))
    (shaped I32 (Fixed 2 ∷ []))
    (matrix 2 2 (Num 1 ∷ (Num 2 ∷ (Num 3 ∷ (Num 4 ∷ []))))
    ∷ (list (Num 1 ∷ (NoNumber ∷ [])) ∷ (list (Num 0 ∷ (Num 0 ∷ [])) ∷ [])))
    ≡ in_units 8 (list (NoNumber ∷ (NoNumber ∷ [])) ∷ [])
unfolding of_name
matvec = refl

-- two products of one element each
batch_matmul : of_name BatchMatmul
    (type_of.Tensor (record { dims = Fixed 2 ∷ (Fixed 1 ∷ (Fixed 1 ∷ [])); elem = I32 })
    ∷ (type_of.Tensor (record { dims = Fixed 2 ∷ (Fixed 1 ∷ (Fixed 1 ∷ [])); elem = I32 })
    ∷ shaped I32 (Fixed 2 ∷ (Fixed 1 ∷ (Fixed 1 ∷ []))))) (shaped I32 (Fixed 2 ∷ (Fixed 1 ∷ (Fixed 1 ∷ []))))
    (Tensor I32 (2 ∷ (1 ∷ (1 ∷ []))) (Num 3 ∷ (Num 4 ∷ []))
    ∷ (Tensor I32 (2 ∷ (1 ∷ (1 ∷ []))) (Num 5 ∷ (Num 6 ∷ []))
    ∷ (Tensor I32 (2 ∷ (1 ∷ (1 ∷ []))) (Num 1 ∷ (Num 1 ∷ [])) ∷ [])))
    ≡ in_units 6 (Tensor I32 (2 ∷ (1 ∷ (1 ∷ []))) (Num 16 ∷ (Num 25 ∷ [])) ∷ [])
unfolding of_name
batch_matmul = refl

-- the scalar at each index
fill : of_name Fill (type_of.Scalar I32 ∷ shaped I32 (Fixed 1 ∷ (Fixed 2 ∷ [])))
    (shaped I32 (Fixed 1 ∷ (Fixed 2 ∷ [])))
    (int 7 ∷ (matrix 1 2 (NoNumber ∷ (Num 3 ∷ [])) ∷ []))
    ≡ in_units 6 (matrix 1 2 (Num 7 ∷ (Num 7 ∷ [])) ∷ [])
unfolding of_name
fill = refl
