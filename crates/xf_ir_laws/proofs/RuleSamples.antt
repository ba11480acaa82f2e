-- Small modules, each of which breaks one rule, beside modules that keep it: the rules of the tree, of values and of
-- attributes.
use Rattle.std.proofs.Common.{◌≡◌, ℕ, zero, suc, ◌+◌, ◌*◌, List, [], ◌∷◌, None, Some, false, refl}
use Rattle.std.specs.Prelude.{if◌then◌else◌, nat_lt}
use Rattle.xf_type.specs.declared.payload_type.PayloadType.{PayloadType}
use Rattle.xf_type.specs.declared.payload_type.PayloadType.TheVariants.{Scalar, Tensor}
use Rattle.xf_type.specs.declared.payload_type.Shape.{Shape}
use Rattle.xf_type.specs.declared.payload_type.Dim.{Dim}
use Rattle.xf_type.specs.declared.payload_type.Dim.TheVariants.{Fixed, Dynamic}
use Rattle.xf_type.specs.declared.payload_type.Width.TheVariants.{I1, I8, I32, I64, Index}
use Rattle.xf_type.specs.declared.attribute.AttrValue.TheVariants.{Int}
use Rattle.xf_type.specs.declared.kind.BinKind.TheVariants.{Addi}
use Rattle.xf_type.specs.declared.kind.ConvKind.TheVariants.{Trunci, IndexCast}
use Rattle.xf_ir.specs.declared.name.OpName.{OpName}
use Rattle.xf_ir.specs.declared.name.ValueName.{ValueName}
use Rattle.xf_ir.specs.declared.name.ValueName.TheVariants.{Result, Arg}
use Rattle.xf_ir.specs.declared.kind.Kind.{Kind}
use Rattle.xf_ir.specs.declared.kind.Kind.TheVariants as kind
use Rattle.xf_ir.specs.declared.kind.Attr.{Attr}
use Rattle.xf_ir.specs.declared.op.Module.{Module}
use Rattle.xf_ir.specs.declared.rule.Rule.{Rule}
use Rattle.xf_ir.specs.declared.rule.Rule.TheVariants as rule
use Rattle.xf_ir.specs.Tree.{Ops, no_ops, op, Regions, no_regions, region}
use Rattle.xf_ir.specs.Violations.{Violation, first_violation}

-- ---- words for trees

abbrev pub named : ℕ → OpName
named n = record { 0 = n }

abbrev pub res : ℕ → ValueName
res n = Result (named n) 0

abbrev pub arg : ℕ → ℕ → ValueName
arg n i = Arg (named n) 0 i

-- an operation that holds nothing
abbrev pub leaf : ℕ → Kind → List ValueName → List PayloadType → Ops → Ops
leaf n k os ts rest = op (named n) k [] os ts no_regions rest

-- an operation that holds one block
abbrev pub holder : ℕ → Kind → List ValueName → List PayloadType → List PayloadType → Ops → Ops → Ops
holder n k os ts args ops rest = op (named n) k [] os ts (region args ops no_regions) rest

-- a function whose symbol is one byte
abbrev pub func : ℕ → ℕ → List PayloadType → List PayloadType → Ops → Ops → Ops
func n letter args results ops rest = holder n (kind.Func (letter ∷ []) false results) [] [] args ops rest

abbrev pub module_of : Ops → Module
module_of fs = record {
  root = record {
    name = named 0;
    kind = kind.Module None;
    attrs = [];
    operands = [];
    results = [];
    regions = region [] fs no_regions;
  };
  next = 1000;
}

-- a module of one function, which is operation 1
abbrev pub of_body : List PayloadType → List PayloadType → Ops → Module
of_body args results ops = module_of (func 1 102 args results ops no_ops)

-- the return of nothing, which is operation 99
abbrev pub ret : Ops
ret = leaf 99 kind.Return [] [] no_ops

abbrev pub i32 : List PayloadType
i32 = Scalar I32 ∷ []

abbrev pub constant : ℕ → Ops → Ops
constant n rest = leaf n (kind.Constant I32 7) [] i32 rest

abbrev pub add : ℕ → ValueName → ValueName → Ops → Ops
add n a b rest = leaf n (kind.Binary Addi I32) (a ∷ (b ∷ [])) i32 rest

abbrev pub Keeps : Module → Type 0
Keeps m = first_violation m ≡ None

abbrev pub Breaks : Rule → ℕ → Module → Type 0
Breaks r n m = first_violation m ≡ Some (let v : Violation = record { rule = r; op = named n } in v)

-- ---- V1

distinct : Keeps (of_body [] [] (constant 2 (constant 3 ret)))
distinct = refl

repeated : Breaks rule.Names 2 (of_body [] [] (constant 2 (constant 3 (constant 2 ret))))
repeated = refl

too_high : Breaks rule.Names 1000 (of_body [] [] (constant 1000 ret))
too_high = refl

-- ---- V2

two_functions : Keeps (module_of
    (func 1 102 [] [] (leaf 2 kind.Return [] [] no_ops) (func 3 103 [] [] (leaf 4 kind.Return [] [] no_ops) no_ops)))
two_functions = refl

same_symbol : Breaks rule.Functions 0 (module_of
    (func 1 102 [] [] (leaf 2 kind.Return [] [] no_ops) (func 3 102 [] [] (leaf 4 kind.Return [] [] no_ops) no_ops)))
same_symbol = refl

stray_operation : Breaks rule.Functions 0 (module_of (constant 1 no_ops))
stray_operation = refl

inner_function : Breaks rule.Functions 0 (of_body [] [] (func 2 103 [] [] (leaf 3 kind.Return [] [] no_ops) ret))
inner_function = refl

-- ---- V3

abbrev condition : List PayloadType
condition = Scalar I1 ∷ []

abbrev two_regions : Ops → Ops → Regions
two_regions a b = region [] a (region [] b no_regions)

abbrev yield : ℕ → List ValueName → Ops
yield n os = leaf n kind.Yield os [] no_ops

with_both : Keeps (of_body condition i32 (op (named 2) kind.If [] (arg 1 0 ∷ []) i32 (two_regions (constant 3
    (yield 4 (res 3 ∷ []))) (constant 5 (yield 6 (res 5 ∷ [])))) (leaf 9 kind.Return (res 2 ∷ []) [] no_ops)))
with_both = refl

with_one : Breaks rule.Regions 2 (of_body condition i32 (op (named 2) kind.If [] (arg 1 0 ∷ []) i32
    (region [] (constant 3 (yield 4 (res 3 ∷ []))) no_regions) (leaf 9 kind.Return (res 2 ∷ []) [] no_ops)))
with_one = refl

no_body : Breaks rule.Regions 1 (module_of (leaf 1 (kind.Func (102 ∷ []) false []) [] [] no_ops))
no_body = refl

abbrev bounds : List ValueName
bounds = arg 1 0 ∷ (arg 1 1 ∷ (arg 1 2 ∷ []))

abbrev three : List PayloadType
three = Scalar Index ∷ (Scalar Index ∷ (Scalar Index ∷ []))

loop_induction : Keeps (of_body three [] (holder 2 (kind.For Index) bounds [] (Scalar Index ∷ []) (yield 3 []) ret))
loop_induction = refl

loop_without_induction : Breaks rule.Regions 2
    (of_body three [] (holder 2 (kind.For Index) bounds [] [] (yield 3 []) ret))
loop_without_induction = refl

-- ---- V4

no_terminator : Breaks rule.Blocks 1 (of_body [] [] (constant 2 no_ops))
no_terminator = refl

no_operation : Breaks rule.Blocks 1 (of_body [] [] no_ops)
no_operation = refl

return_before_the_end : Breaks rule.Blocks 2 (of_body [] [] (leaf 2 kind.Return [] [] ret))
return_before_the_end = refl

other_terminator : Breaks rule.Blocks 2
    (of_body three [] (holder 2 (kind.For Index) bounds [] (Scalar Index ∷ []) (leaf 3 kind.Return [] [] no_ops) ret))
other_terminator = refl

-- ---- V5

later_value : Breaks rule.Uses 2 (of_body [] [] (add 2 (res 3) (res 3) (constant 3 ret)))
later_value = refl

inner_value : Breaks rule.Uses 4
    (of_body condition [] (holder 2 kind.If (arg 1 0 ∷ []) [] [] (constant 3 (yield 5 [])) (add 4 (res 3) (res 3) ret)))
inner_value = refl

outer_value : Keeps
    (of_body condition [] (constant 3 (holder 2 kind.If (arg 1 0 ∷ []) [] [] (add 4 (res 3) (res 3) (yield 5 [])) ret)))
outer_value = refl

of_another_function : Breaks rule.Uses 4 (module_of (func 1 102 i32 [] (leaf 2 kind.Return [] [] no_ops)
    (func 3 103 [] [] (add 4 (arg 1 0) (arg 1 0) (leaf 5 kind.Return [] [] no_ops)) no_ops)))
of_another_function = refl

-- ---- V6

other_width : Breaks rule.Types 2 (of_body (Scalar I64 ∷ []) [] (add 2 (arg 1 0) (arg 1 0) ret))
other_width = refl

other_return : Breaks rule.Types 9 (of_body (Scalar I64 ∷ []) i32 (leaf 9 kind.Return (arg 1 0 ∷ []) [] no_ops))
other_return = refl

abbrev called : List PayloadType → List ValueName → Module
called results os = module_of (func 1 102 [] [] (constant 2 (leaf 3 (kind.Call (103 ∷ [])) os results ret))
    (func 4 103 i32 i32 (leaf 5 kind.Return (arg 4 0 ∷ []) [] no_ops) no_ops))

call_fits : Keeps (called i32 (res 2 ∷ []))
call_fits = refl

call_without_operand : Breaks rule.Types 3 (called i32 [])
call_without_operand = refl

call_of_other_width : Breaks rule.Types 4 (module_of (func 1 102 (Scalar I64 ∷ []) [] (leaf 4 (kind.Call (103 ∷ []))
    (arg 1 0 ∷ []) [] ret) (func 2 103 i32 [] (leaf 3 kind.Return [] [] no_ops) no_ops)))
call_of_other_width = refl

-- ---- V7

literal_fits : Keeps (of_body [] [] (leaf 2 (kind.Constant I8 255) [] (Scalar I8 ∷ []) ret))
literal_fits = refl

literal_too_great : Breaks rule.Attributes 2 (of_body [] [] (leaf 2 (kind.Constant I8 256) [] (Scalar I8 ∷ []) ret))
literal_too_great = refl

abbrev noted : List Attr → Module
noted ds = of_body [] [] (op (named 2) (kind.Constant I32 7) ds [] i32 no_regions ret)

abbrev note : ℕ → Attr
note letter = record { name = letter ∷ []; value = Int I8 3 }

attributes_sorted : Keeps (noted (note 97 ∷ (note 98 ∷ [])))
attributes_sorted = refl

attributes_unsorted : Breaks rule.Attributes 2 (noted (note 98 ∷ (note 97 ∷ [])))
attributes_unsorted = refl

attribute_twice : Breaks rule.Attributes 2 (noted (note 97 ∷ (note 97 ∷ [])))
attribute_twice = refl

digit_first : Breaks rule.Attributes 2 (noted (note 48 ∷ []))
digit_first = refl

abbrev pub shape : List Dim → Shape
shape ds = record { dims = ds; elem = I32 }

abbrev dense : List Dim → List ℕ → Module
dense ds ns = of_body [] [] (leaf 2 (kind.Dense (shape ds) ns) [] (Tensor (shape ds) ∷ []) ret)

splat : Keeps (dense (Fixed 2 ∷ (Fixed 3 ∷ [])) (5 ∷ []))
splat = refl

each_number : Keeps (dense (Fixed 3 ∷ []) (5 ∷ (5 ∷ (6 ∷ []))))
each_number = refl

no_number : Keeps (dense (Fixed 0 ∷ []) [])
no_number = refl

equal_numbers : Breaks rule.Attributes 2 (dense (Fixed 3 ∷ []) (5 ∷ (5 ∷ (5 ∷ []))))
equal_numbers = refl

too_few_numbers : Breaks rule.Attributes 2 (dense (Fixed 3 ∷ []) (5 ∷ (6 ∷ [])))
too_few_numbers = refl

dynamic_constant : Breaks rule.Attributes 2 (dense (Dynamic ∷ []) (5 ∷ []))
dynamic_constant = refl

largest_constant : Keeps (dense (Fixed 1024 ∷ (Fixed 1024 ∷ [])) (5 ∷ []))
largest_constant = refl

too_large_constant : Breaks rule.Attributes 2 (dense (Fixed 1048577 ∷ []) (5 ∷ []))
too_large_constant = refl

narrowing : Keeps (of_body (Scalar I64 ∷ []) [] (leaf 2 (kind.Convert Trunci I64 I32) (arg 1 0 ∷ []) i32 ret))
narrowing = refl

index_truncated : Breaks rule.Attributes 2
    (of_body (Scalar Index ∷ []) [] (leaf 2 (kind.Convert Trunci Index I32) (arg 1 0 ∷ []) i32 ret))
index_truncated = refl

index_to_index : Breaks rule.Attributes 2 (of_body (Scalar Index
    ∷ []) [] (leaf 2 (kind.Convert IndexCast Index Index) (arg 1 0 ∷ []) (Scalar Index ∷ []) ret))
index_to_index = refl

-- ---- V8

no_callee : Breaks rule.Callees 2 (of_body [] [] (leaf 2 (kind.Call (103 ∷ [])) [] [] ret))
no_callee = refl

call_of_nothing : Breaks rule.Callees 3 (called [] (res 2 ∷ []))
call_of_nothing = refl

call_of_other_result : Breaks rule.Callees 3 (called (Scalar I64 ∷ []) (res 2 ∷ []))
call_of_other_result = refl

call_of_two : Breaks rule.Callees 3 (called (Scalar I32 ∷ (Scalar I32 ∷ [])) (res 2 ∷ []))
call_of_two = refl

-- ---- V9

calls_itself : Breaks rule.Chains 2 (of_body [] [] (leaf 2 (kind.Call (102 ∷ [])) [] [] ret))
calls_itself = refl

-- a letter for each of 52 numbers
abbrev letter : ℕ → ℕ
letter k = if nat_lt k 26 then k + 97 else k + 39

-- functions, each of which calls the one behind it
abbrev chain : ℕ → Ops
chain zero = func 1 (letter 0) [] [] (leaf 2 kind.Return [] [] no_ops) no_ops
chain (suc k) = func (k * 3 + 10) (letter (k + 1)) [] []
    (leaf (k * 3 + 11) (kind.Call (letter k ∷ [])) [] [] (leaf (k * 3 + 12) kind.Return [] [] no_ops)) (chain k)

chain_of_32 : Keeps (module_of (chain 31))
chain_of_32 = refl

chain_of_33 : Breaks rule.Chains 104 (module_of (chain 32))
chain_of_33 = refl
