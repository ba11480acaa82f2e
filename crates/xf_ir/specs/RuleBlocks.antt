-- Regions, the arguments of their blocks, and the ends of blocks.
use Rattle.std.specs.Prelude.{List, [], ◌∷◌, map, Option, Some, None, Bool, true}
use Rattle.std.specs.Prelude.{false, not, ◌&&◌, ◌||◌, if◌then◌else◌}
use Rattle.xf_type.specs.declared.payload_type.PayloadType.{PayloadType}
use Rattle.xf_type.specs.declared.payload_type.PayloadType.TheVariants.{Scalar}
use Rattle.xf_ir.specs.declared.kind.Kind.{Kind}
use Rattle.xf_ir.specs.declared.kind.Kind.TheVariants as kind
use Rattle.xf_ir.specs.Tree.{Ops, no_ops, op, Regions, no_regions, region}
use Rattle.xf_ir.specs.Kinds.{has_body, has_else, is_terminator, ends_for, is_endless}
use Rattle.xf_ir.specs.Lists.{every, is_empty}
use Rattle.xf_type.specs.Equal.{same_types}
use Rattle.xf_ir.specs.Types.{element_of, known, have_types}
use Rattle.xf_ir.specs.Placed.{Placed}

-- ---- V3: each operation has the regions of its row, and each region the block arguments of its row and their types

-- the types of the arguments of each region's block
abbrev pub block_args : Regions → List (List PayloadType)
block_args no_regions = []
block_args (region args ops rest) = args ∷ block_args rest

-- one element of an operand
abbrev pub element_type : Option PayloadType → Option PayloadType
element_type None = None
element_type (Some t) = Some (Scalar (element_of t))

-- the types of the arguments of the first block, where operands and results have these types: those of a loop are its
-- induction value and one value for each result, those of a body of linalg one element of each operand; where an
-- operand is not visible, its visibility alone is asked for
abbrev pub args_fit : Kind → List (Option PayloadType) → List PayloadType → List PayloadType → Bool
args_fit (kind.Func symbol private results) os ts args = true
args_fit (kind.For width) os ts args = same_types args (Scalar width ∷ ts)
args_fit (kind.Generic maps iterators) os ts args = not (every known os) || have_types (map element_type os) args
args_fit _ os ts args = is_empty args

-- what stands behind the first block: the block of else, without arguments, where there may be one
abbrev pub else_fits : Kind → List PayloadType → List (List PayloadType) → Bool
else_fits k ts [] = not (has_else k) || is_empty ts
else_fits k ts (args ∷ more) = has_else k && (is_empty args && is_empty more)

-- the blocks that belong to a kind, by the types of their arguments
abbrev pub blocks_fit : Kind → List (Option PayloadType) → List PayloadType → List (List PayloadType) → Bool
blocks_fit k os ts [] = not (has_body k)
blocks_fit k os ts (args ∷ more) = has_body k && (args_fit k os ts args && else_fits k ts more)

abbrev pub has_its_regions : Placed → Bool
has_its_regions p = blocks_fit p.tree.kind p.types p.tree.results (block_args p.tree.regions)

-- ---- V4: each block ends in its row's terminator, and none stands elsewhere

abbrev pub is_end : Ops → Bool
is_end no_ops = true
is_end (op n k ds os ts rs rest) = false

-- whether a block of the holder ends in the holder's terminator; a module's block ends in none
abbrev pub block_ends : Kind → Ops → Bool
block_ends holder no_ops = is_endless holder
block_ends holder (op n k ds os ts rs rest) =
    if is_end rest then (is_endless holder || ends_for holder k) else block_ends holder rest

abbrev pub blocks_end : Kind → Regions → Bool
blocks_end holder no_regions = true
blocks_end holder (region args ops rest) = block_ends holder ops && blocks_end holder rest

-- whether a terminator stands at the end of a block that it ends
abbrev pub stands_at_end : Kind → Kind → Ops → Bool
stands_at_end holder k after = not (is_terminator k) || (is_end after && ends_for holder k)

abbrev pub ends_its_blocks : Placed → Bool
ends_its_blocks p = blocks_end p.tree.kind p.tree.regions && stands_at_end p.holder.kind p.tree.kind p.after
