use Rattle.std.specs.Prelude.{Option, Some, None}
use Rattle.xf_ir.specs.declared.name.OpName.{OpName}
use Rattle.xf_arena_bed.specs.declared.node.Node.{Node}

abbrev pub seat_of : Option Node → Option OpName
seat_of None = None
seat_of (Some x) = Some x.name
