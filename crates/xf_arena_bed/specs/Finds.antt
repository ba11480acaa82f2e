-- The operation of a name, and what a node shows of it.
use Rattle.xf_type.specs.declared.payload_type.PayloadType.{PayloadType}
use Rattle.xf_ir.specs.declared.kind.Attr.{Attr}
use Rattle.xf_ir.specs.RuleBlocks.{block_args}
use Rattle.std.specs.Prelude.{List}
use Rattle.xf_ir.specs.declared.name.OpName.{OpName}
use Rattle.xf_ir.specs.declared.name.ValueName.{ValueName}
use Rattle.xf_ir.specs.declared.kind.Kind.{Kind}
use Rattle.xf_ir.specs.Tree.{Tree}
use Rattle.xf_arena_bed.specs.declared.node.Node.{Node}

pub record Shown : Type 0 where
  pub name : OpName
  pub kind : Kind
  pub attrs : List Attr
  pub operands : List ValueName
  pub results : List PayloadType
  pub args : List (List PayloadType)

abbrev pub shown_node : Node → Shown
shown_node x = record {
  name = x.name;
  kind = x.kind;
  attrs = x.attrs;
  operands = x.operands;
  results =
      x.results;
  args = x.regions;
}

abbrev pub shown_tree : Tree → Shown
shown_tree t = record {
  name = t.name;
  kind = t.kind;
  attrs = t.attrs;
  operands = t.operands;
  results =
      t.results;
  args = block_args t.regions;
}
