-- The operations that one holds, without one of them.
use Rattle.std.specs.Prelude.{List, [], ◌∷◌, ◌==◌, if◌then◌else◌}
use Rattle.xf_ir.specs.declared.name.OpName.{OpName}
use Rattle.xf_arena_tree.specs.Kids.{Inner}

abbrev pub inner_without : OpName → List Inner → List Inner
inner_without o [] = []
inner_without o (k ∷ ks) = if k.name.0 == o.0 then inner_without o ks else k ∷ inner_without o ks
