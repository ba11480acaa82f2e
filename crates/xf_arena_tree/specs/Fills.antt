-- Trees that are filled block by block.
use Rattle.std.specs.Prelude.{ℕ, zero, suc, ◌<◌, ◌^◌}
use Rattle.xf_ir.specs.declared.name.OpName.{OpName}
use Rattle.xf_ir.specs.Tree.{Ops, no_ops, op, Regions, no_regions, region, Tree}
use Rattle.xf_ir.specs.Spots.{regions_insert, ops_length}
use Rattle.xf_ir.specs.Bounds.{RegionsShort, blocks_of}
use Rattle.xf_ir.specs.Lists.{Each}
use Rattle.xf_arena_tree.specs.Puts.{tree_put}

-- with the first blocks empty
abbrev pub hollow : ℕ → Regions → Regions
hollow zero rs = rs
hollow (suc k) no_regions = no_regions
hollow (suc k) (region args ops rest) = region args no_ops (hollow k rest)

-- with these operations put into region k of an operation, one after another from place j on
abbrev pub puts_in : OpName → ℕ → ℕ → Ops → Tree → Tree
puts_in n k j no_ops u = u
puts_in n k j (op m kd ds os ts rs rest) u =
    puts_in n k (suc j) rest
    (tree_put n k j (record { name = m; kind = kd; attrs = ds; operands = os; results = ts; regions = rs }) u)

abbrev pub insert_all : ℕ → ℕ → Ops → Regions → Regions
insert_all k j no_ops rs = rs
insert_all k j (op m kd ds os ts qs rest) rs =
    insert_all k (suc j) rest
    (regions_insert k j (record { name = m; kind = kd; attrs = ds; operands = os; results = ts; regions = qs }) rs)

-- no list in the regions has 2 ^ 32 entries
pub record AreShort (rs : Regions) : Type 0 where
  pub blocks : Each (λ ops. ops_length ops < 2 ^ 32) (blocks_of rs)
  pub inside : RegionsShort rs
