-- The bound on the lists of a module: none has 2 ^ 32 entries, so each place in them has a number of 32 bits.
use Rattle.std.specs.Prelude.{ℕ, ◌+◌, ◌<◌, ◌^◌, List, [], ◌∷◌, length, Some}
use Rattle.xf_type.specs.declared.attribute.AttrValue.{AttrValue}
use Rattle.xf_type.specs.declared.attribute.AttrValue.TheVariants as attr
use Rattle.xf_ir.specs.declared.kind.Attr.{Attr}
use Rattle.xf_ir.specs.declared.kind.Kind.{Kind}
use Rattle.xf_ir.specs.declared.kind.Kind.TheVariants as kind
use Rattle.xf_ir.specs.declared.op.Module.{Module}
use Rattle.xf_ir.specs.Kinds.{returned_types}
use Rattle.xf_ir.specs.Lists.{Each}
use Rattle.xf_ir.specs.RuleBlocks.{block_args}
use Rattle.xf_ir.specs.Spots.{ops_length}
use Rattle.xf_ir.specs.Tree.{Ops, no_ops, op, Regions, no_regions, region, Tree}

-- ---- lists of bytes

abbrev pub HasShortText : AttrValue → Type 0
HasShortText attr.Unit = Unit {0}
HasShortText (attr.Int width bits) = Unit {0}
HasShortText (attr.Text bytes) = length bytes < 2 ^ 32

-- the name of an attribute, and its string
abbrev pub IsShortAttr : Attr → Type 0
IsShortAttr d = (length d.name < 2 ^ 32) × HasShortText d.value

-- the symbol of a module, a function or a call
abbrev pub HasShortSymbol : Kind → Type 0
HasShortSymbol (kind.Module (Some symbol)) = length symbol < 2 ^ 32
HasShortSymbol (kind.Func symbol private results) = length symbol < 2 ^ 32
HasShortSymbol (kind.Call callee) = length callee < 2 ^ 32
HasShortSymbol k = Unit {0}

-- ---- lists of an operation

abbrev pub regions_length : Regions → ℕ
regions_length no_regions = 0
regions_length (region args ops rest) = regions_length rest + 1

-- the operations of each region's block
abbrev pub blocks_of : Regions → List Ops
blocks_of no_regions = []
blocks_of (region args ops rest) = ops ∷ blocks_of rest

-- the attributes with their names and strings, operands, results and regions of an operation, the arguments and the
-- operations of each block, its symbol, and the types that a function returns
pub record HasShortLists (t : Tree) : Type 0 where
  pub attributes : length t.attrs < 2 ^ 32
  pub names : Each IsShortAttr t.attrs
  pub operands : length t.operands < 2 ^ 32
  pub results : length t.results < 2 ^ 32
  pub regions : regions_length t.regions < 2 ^ 32
  pub arguments : Each (λ ts. length ts < 2 ^ 32) (block_args t.regions)
  pub blocks : Each (λ ops. ops_length ops < 2 ^ 32) (blocks_of t.regions)
  pub symbol : HasShortSymbol t.kind
  pub returned : length (returned_types t.kind) < 2 ^ 32

-- ---- all lists

abbrev mutual
  pub OpsShort : Ops → Type 0
  OpsShort no_ops = Unit {0}
  OpsShort (op n k ds os ts rs rest) =
      HasShortLists (record { name = n; kind = k; attrs = ds; operands = os; results = ts; regions = rs })
      × (RegionsShort rs × OpsShort rest)

  pub RegionsShort : Regions → Type 0
  RegionsShort no_regions = Unit {0}
  RegionsShort (region args ops rest) = OpsShort ops × RegionsShort rest

-- the lists of an operation and of all that it holds
pub record TreeIsShort (t : Tree) : Type 0 where
  pub lists : HasShortLists t
  pub inside : RegionsShort t.regions

-- no list of the module has 2 ^ 32 entries
abbrev pub ListsAreShort : Module → Type 0
ListsAreShort m = TreeIsShort m.root
