-- Trees that are built from the operations that one holds.
use Rattle.std.specs.Prelude.{ℕ, zero, suc, List, [], ◌∷◌, Option, Some, None}
use Rattle.xf_ir.specs.Replaced.{append}
use Rattle.xf_ir.specs.Tree.{Ops, no_ops, op, Regions, no_regions, region, Tree, cons}
use Rattle.xf_ir.specs.View.{tree_size}
use Rattle.xf_arena_tree.specs.Kids.{Inner}

-- an operation that another one holds, with the number of its region
pub record Child : Type 0 where
  pub region : ℕ
  pub tree : Tree

abbrev pub block_children : ℕ → Ops → List Child → List Child
block_children r no_ops more = more
block_children r (op n k ds os ts rs rest) more =
    record {
      region = r;
      tree = record { name = n; kind = k; attrs = ds; operands = os; results = ts; regions = rs };
    } ∷ block_children r rest more

abbrev pub children : ℕ → Regions → List Child
children r no_regions = []
children r (region args ops rest) = block_children r ops (children (suc r) rest)

abbrev pub inner_names : List Child → List Inner
inner_names [] = []
inner_names (c ∷ cs) = record { name = c.tree.name; region = c.region } ∷ inner_names cs

-- with a tree at the end of a region's block
abbrev pub regions_push : ℕ → Tree → Regions → Regions
regions_push r t no_regions = no_regions
regions_push zero t (region args ops rest) = region args (append ops (cons t no_ops)) rest
regions_push (suc r) t (region args ops rest) = region args ops (regions_push r t rest)

abbrev pub push_all : List Child → Regions → Regions
push_all [] rs = rs
push_all (c ∷ cs) rs = push_all cs (regions_push c.region c.tree rs)

-- how much the tree that is found holds
abbrev pub found_size : Option Tree → ℕ
found_size None = 0
found_size (Some t) = tree_size t
