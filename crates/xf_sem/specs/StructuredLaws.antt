-- Laws of structured operations: results are over sets of points, and entering a block once a point gives them.
use Rattle.std.specs.Prelude.{◌≡◌, ℕ, ◌<◌, List, [], ◌∷◌, map, fold, filter, length, Bool, true, false}
use Rattle.xf_type.specs.declared.payload_type.PayloadType.TheVariants as type_of
use Rattle.xf_type.specs.declared.payload_type.Width.{Width}
use Rattle.xf_type.specs.declared.payload_type.Elem.{Elem}
use Rattle.xf_type.specs.declared.kind.Combiner.{Combiner}
use Rattle.xf_type.specs.declared.kind.Combiner.TheVariants as by
use Rattle.xf_type.specs.declared.kind.BinKind.TheVariants as bin
use Rattle.xf_type.specs.Integers.{FitsWidth, binary, combined}
use Rattle.xf_ir.specs.declared.name.OpName.{OpName}
use Rattle.xf_ir.specs.declared.name.ValueName.TheVariants.{Result, Arg}
use Rattle.xf_ir.specs.declared.kind.Kind.TheVariants as kind
use Rattle.xf_ir.specs.declared.kind.NamedKind.{NamedKind}
use Rattle.xf_ir.specs.declared.kind.NamedKind.TheVariants.{Fill}
use Rattle.xf_ir.specs.RuleLinalg.{named_maps, named_iterators}
use Rattle.xf_ir.specs.Tree.{no_ops, op, Regions, no_regions, region}
use Rattle.xf_points.specs.Points.{Point, Each, Below, points, at}
use Rattle.xf_points.specs.Folds.{Step, folded, onto, result, OrderIsFree}
use Rattle.xf_points.specs.Operands.{BodyOf, AllParallel, OnceEach, step_of}
use Rattle.xf_points.specs.Orders.{Lists}
use Rattle.xf_sem.specs.declared.value.Value.{Value}
use Rattle.xf_sem.specs.declared.value.Value.TheVariants.{Scalar, Tensor}
use Rattle.xf_sem.specs.Actions.{answered}
use Rattle.xf_sem.specs.Values.{IsValue}
use Rattle.xf_sem.specs.Tensors.{width_of, shape_of}
use Rattle.xf_sem.specs.Structured.{Frame, extents_of, operands, given, arguments, on_points, on_generic, named_given}
use Rattle.xf_sem.specs.Meaning.{Env, gives, Bodies, Calls, performed, bodies_of}

-- ---- results are over sets

-- what a body brings at points is joined to the element of the out by an operation of reductions
pub record JoinsBy (c : Combiner) (w : Width) (es : List ℕ) (e : Point → Elem) (step : Step Elem) : Type 0 where
  pub fits : (p : Point) → Below p es → FitsWidth w (e p)
  pub joins : (p : Point) (a : Elem) → Below p es → FitsWidth w a → step p a ≡ combined c w a (e p)

-- then, or without reductions, the order of the points is free
abbrev pub ReductionsAreFree : Type 0
ReductionsAreFree = (c : Combiner) (w : Width) (es out : List ℕ) (e : Point → Elem) (step : Step Elem)
    → JoinsBy c w es e step → OrderIsFree (FitsWidth w) es out step

abbrev pub ParallelsAreFree : Type 0
ParallelsAreFree = (w : Width) (es out : List ℕ) (step : Step Elem) → AllParallel (length es) out
    → ((p : Point) (a : Elem) → Below p es → FitsWidth w a → FitsWidth w (step p a))
    → OrderIsFree (FitsWidth w) es out step

-- where the order is free, the points in any order give the result
abbrev pub AnyOrderGives : Type 0
AnyOrderGives = (w : Width) (es out : List ℕ) (step : Step Elem) (x : Point → Elem) (j : Point) (l : List Point)
    → OrderIsFree (FitsWidth w) es out step → FitsWidth w (x j) → Lists es l
    → folded (onto out j) step l (x j) ≡ result es out step x j

-- with reductions an element is the fold of the operation of the reduction, from the element of the out on, over what
-- the body brings at the points that lead to it
abbrev pub FoldGives : Type 0
FoldGives = (c : Combiner) (w : Width) (es out : List ℕ) (e : Point → Elem) (step : Step Elem) (x : Point → Elem)
    (j : Point)
    → JoinsBy c w es e step → FitsWidth w (x j)
    → result es out step x j ≡ fold (combined c w) (x j) (map e (filter (onto out j) (points es)))

-- without reductions it is what the body makes at the one point that leads to it
abbrev pub OnePointGives : Type 0
OnePointGives = (es out : List ℕ) (step : Step Elem) (x : Point → Elem) (p : Point)
    → AllParallel (length es) out → Below p es → result es out step x (at out p) ≡ step p (x (at out p))

-- and each index has such a point
abbrev pub IndicesHavePoints : Type 0
IndicesHavePoints = (out es : List ℕ) (j : Point) → OnceEach out → Each (λ d. d < length es) out
    → AllParallel (length es) out → Below j (at out es) → (p : Point) × (Below p es × (at out p ≡ j))

-- ---- a block that is entered once a point

-- the block gives at each point what the body makes, for each element of the out
pub record Computes (f : Frame) (body : BodyOf Elem) (ins : List Value) (w : Width) (out : Value) (bodies : Bodies)
    : Type 0 where
  pub fits : (p : Point) (a : Elem) → Below p (extents_of f ins out) → FitsWidth w a
      → FitsWidth w (step_of body (operands f.maps ins) p a)
  pub makes : (p : Point) (a : Elem) → Below p (extents_of f ins out) → FitsWidth w a
      → (bodies.block 0 (arguments f.maps ins out p a)).answer
      ≡ gives (Scalar w (step_of body (operands f.maps ins) p a) ∷ [])

-- then entering it once a point gives what the operation gives, and is defined where that is
abbrev pub PointsGive : Type 0
PointsGive = (f : Frame) (body : BodyOf Elem) (ins : List Value) (w : Width) (shape : List ℕ) (elems : List Elem)
    (c : Calls) (n : OpName) (bodies : Bodies)
    → Each (FitsWidth w) elems → Computes f body ins w (Tensor w shape elems) bodies
    → (performed c n bodies (on_points f ins (Tensor w shape elems))).answer
    ≡ (performed c n bodies (answered (given f body ins (Tensor w shape elems)))).answer

-- ---- the block of a generic that stands for a product

-- the product of the first and the second argument, the sum of the out argument and that, and the yield
abbrev pub product_block : Width → OpName → OpName → OpName → OpName → Regions
product_block w holder product sum yield =
    region (type_of.Scalar w ∷ (type_of.Scalar w ∷ (type_of.Scalar w ∷ [])))
    (op product (kind.Binary bin.Muli w) [] (Arg holder 0 0 ∷ (Arg holder 0 1 ∷ [])) (type_of.Scalar w ∷ []) no_regions
    (op sum (kind.Binary bin.Addi w) [] (Arg holder 0 2 ∷ (Result product 0 ∷ [])) (type_of.Scalar w ∷ []) no_regions
    (op yield kind.LinalgYield [] (Result sum 0 ∷ []) [] no_regions no_ops)))
    no_regions

-- it gives what the body of a product makes
abbrev pub ProductBlockGives : Type 0
ProductBlockGives = (w : Width) (holder product sum yield : OpName) (c : Calls) (e : Env) (x y a : Elem)
    → FitsWidth w x → FitsWidth w y → FitsWidth w a
    → ((bodies_of c holder 0 (product_block w holder product sum yield) e).block 0
    (Scalar w x ∷ (Scalar w y ∷ (Scalar w a ∷ [])))).answer
    ≡ gives (Scalar w (combined by.Addi w a (binary bin.Muli w x y)) ∷ [])

-- ---- an operation with a name and the generic of its maps and product

-- a product: all operations with a name but fill
abbrev pub is_product : NamedKind → Bool
is_product Fill = false
is_product _ = true

-- an operand, or the out, of elements of a width
pub record HasWidth (w : Width) (v : Value) : Type 0 where
  pub width : width_of v ≡ w
  pub value : IsValue v

-- both ways give the same, and are undefined for the same operands
abbrev pub NamedIsGeneric : Type 0
NamedIsGeneric = (which : NamedKind) (w : Width) (x y out : Value) (holder product sum yield : OpName) (c : Calls)
    (e : Env)
    → is_product which ≡ true → HasWidth w x → HasWidth w y → HasWidth w out
    → (performed c holder (bodies_of c holder 0 (product_block w holder product sum yield) e)
    (on_generic (named_maps which (length (shape_of out))) (named_iterators which (length (shape_of out)))
    (x ∷ (y ∷ (out ∷ []))))).answer
    ≡ (performed c holder (bodies_of c holder 0 (product_block w holder product sum yield) e)
    (answered (named_given which (x ∷ (y ∷ (out ∷ [])))))).answer
