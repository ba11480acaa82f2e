-- Modules that differ in the names of operations alone.
use Rattle.std.specs.Prelude.{◌≡◌, map, true}
use Rattle.xf_ir.specs.declared.name.OpName.{OpName}
use Rattle.xf_ir.specs.declared.name.ValueName.{ValueName}
use Rattle.xf_ir.specs.declared.name.ValueName.TheVariants.{Result, Arg, Free}
use Rattle.xf_ir.specs.declared.op.Module.{Module}
use Rattle.xf_ir.specs.Tree.{Ops, no_ops, op, Regions, no_regions, region, Tree}
use Rattle.xf_ir.specs.Lists.{is_among}
use Rattle.xf_ir.specs.Walk.{tree_names}

abbrev pub value_renamed : (OpName → OpName) → ValueName → ValueName
value_renamed f (Result o num) = Result (f o) num
value_renamed f (Arg o r num) = Arg (f o) r num
value_renamed f (Free num) = Free num

abbrev mutual
  pub ops_renamed : (OpName → OpName) → Ops → Ops
  ops_renamed f no_ops = no_ops
  ops_renamed f (op n k ds os ts rs rest) =
      op (f n) k ds (map (value_renamed f) os) ts (regions_renamed f rs) (ops_renamed f rest)

  pub regions_renamed : (OpName → OpName) → Regions → Regions
  regions_renamed f no_regions = no_regions
  regions_renamed f (region args ops rest) = region args (ops_renamed f ops) (regions_renamed f rest)

abbrev pub tree_renamed : (OpName → OpName) → Tree → Tree
tree_renamed f t =
    record {
      name = f t.name;
      kind = t.kind;
      attrs = t.attrs;
      operands = map (value_renamed f) t.operands;
      results = t.results;
      regions = regions_renamed f t.regions;
    }

-- the second is the first with other names, and different names stay different
pub record IsRenamed (m m' : Module) : Type 0 where
  pub names : OpName → OpName
  pub root : m'.root ≡ tree_renamed names m.root
  pub apart : (a b : OpName) → is_among a (tree_names m.root) ≡ true → is_among b (tree_names m.root) ≡ true
      → names a ≡ names b → a ≡ b
