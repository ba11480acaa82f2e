-- The operations of a module where they stand, in preorder: what each rule looks at.
use Rattle.std.specs.Prelude.{◌≡◌, ℕ, suc, List, [], ◌∷◌, ◌++◌, length, map}
use Rattle.std.specs.Prelude.{slice_get, Option, Some, None, Bool, true}
use Rattle.xf_type.specs.declared.payload_type.PayloadType.{PayloadType}
use Rattle.xf_type.specs.declared.payload_type.PayloadType.TheVariants.{Scalar}
use Rattle.xf_ir.specs.declared.name.OpName.{OpName}
use Rattle.xf_ir.specs.declared.name.ValueName.{ValueName}
use Rattle.xf_ir.specs.declared.kind.Kind.{Kind}
use Rattle.xf_ir.specs.declared.kind.Kind.TheVariants as kind
use Rattle.xf_ir.specs.declared.op.Module.{Module}
use Rattle.xf_ir.specs.Tree.{Ops, no_ops, op, Regions, no_regions, region, Tree}
use Rattle.xf_ir.specs.Lists.{Each}
use Rattle.xf_ir.specs.Places.{Seen, done, inside, numbering_of}
use Rattle.xf_ir.specs.Types.{element_of, last_type}

-- ---- the types of visible values

-- the types of the values that places define
abbrev pub Typed : Type 0
Typed = List (Seen × List PayloadType)

abbrev pub type_or : Option ℕ → List PayloadType → Option PayloadType → Option PayloadType
type_or None ts later = later
type_or (Some i) ts later = slice_get ts i

-- the type of a visible value, none where the value is not visible
abbrev pub type_at : Typed → ValueName → Option PayloadType
type_at [] v = None
type_at (x ∷ xs) v = type_or (numbering_of x.0 v) x.1 (type_at xs v)

-- ---- where an operation stands

-- the operation that holds a block, with the types of the values that the block's terminator gives to it
pub record Holder : Type 0 where
  pub kind : Kind
  pub gives : List PayloadType

abbrev pub body_gives : Option PayloadType → List PayloadType
body_gives None = []
body_gives (Some t) = Scalar (element_of t) ∷ []

-- a function is given the values that it returns, a loop and a condition their results, a body of linalg one element of
-- the out
abbrev pub gives_of : Kind → List (Option PayloadType) → List PayloadType → List PayloadType
gives_of (kind.Func symbol private results) os ts = results
gives_of (kind.For width) os ts = ts
gives_of kind.If os ts = ts
gives_of (kind.Generic maps iterators) os ts = body_gives (last_type os)
gives_of _ os ts = []

abbrev pub holder_of : Kind → List (Option PayloadType) → List PayloadType → Holder
holder_of k os ts = record { kind = k; gives = gives_of k os ts }

-- an operation with what holds its block, the types of its operands where it stands, and what stands behind it in the
-- block
pub record Placed : Type 0 where
  pub holder : Holder
  pub types : List (Option PayloadType)
  pub tree : Tree
  pub after : Ops

abbrev pub place : Holder → Typed → Tree → Ops → Placed
place h env t after = record { holder = h; types = map (type_at env) t.operands; tree = t; after = after }

abbrev mutual
  -- the operations of a block, and of what they hold
  pub ops_placed : Holder → Typed → Ops → List Placed
  ops_placed h env no_ops = []
  ops_placed h env (op n k ds os ts rs rest) =
      place h env (record { name = n; kind = k; attrs = ds; operands = os; results = ts; regions = rs }) rest
      ∷ (regions_placed (holder_of k (map (type_at env) os) ts) env n 0 rs
      ++ ops_placed h ((done n (length ts), ts) ∷ env) rest)

  pub regions_placed : Holder → Typed → OpName → ℕ → Regions → List Placed
  regions_placed h env n i no_regions = []
  regions_placed h env n i (region args ops rest) =
      ops_placed h ((inside n i (length args), args) ∷ env) ops ++ regions_placed h env n (suc i) rest

-- functions, each of which sees its own values alone
abbrev pub functions_placed : Holder → Ops → List Placed
functions_placed h no_ops = []
functions_placed h (op n k ds os ts rs rest) =
    place h [] (record { name = n; kind = k; attrs = ds; operands = os; results = ts; regions = rs }) rest
    ∷ (regions_placed (holder_of k (map (type_at []) os) ts) [] n 0 rs ++ functions_placed h rest)

abbrev pub blocks_placed : Holder → Regions → List Placed
blocks_placed h no_regions = []
blocks_placed h (region args ops rest) = functions_placed h ops ++ blocks_placed h rest

-- what holds the root: nothing, as if a module did
abbrev pub top : Holder
top = record { kind = kind.Module None; gives = [] }

abbrev pub root_holder : Tree → Holder
root_holder t = holder_of t.kind (map (type_at []) t.operands) t.results

-- all operations of a module, in preorder
abbrev pub placed : Module → List Placed
placed m = place top [] m.root no_ops ∷ blocks_placed (root_holder m.root) m.root.regions

-- each operation of the module passes where it stands
abbrev pub Everywhere : (Placed → Bool) → Module → Type 0
Everywhere passes m = Each (λ p. passes p ≡ true) (placed m)

-- ---- functions

-- the operations of the one block of a module
abbrev pub block_of : Regions → Ops
block_of no_regions = no_ops
block_of (region args ops rest) = ops

abbrev pub functions_of : Module → Ops
functions_of m = block_of m.root.regions
