-- Bodies of operations with a name.
use Rattle.std.specs.Prelude.{Bool, true, false}
use Rattle.xf_ir.specs.declared.kind.NamedKind.{NamedKind}
use Rattle.xf_ir.specs.declared.kind.NamedKind.TheVariants.{Fill}

abbrev pub fills : NamedKind → Bool
fills Fill = true
fills _ = false
