-- The operations of a body that depend on its out argument, gathered in a set.
use Rattle.std.specs.Prelude.{List, [], ◌∷◌, Bool, false, not, ◌&&◌, ◌||◌, if◌then◌else◌}
use Rattle.std.specs.Ordering.{nat_cmp}
use Rattle.std.specs.FinSet as set
use Rattle.xf_ir.specs.declared.name.OpName.{OpName}
use Rattle.xf_ir.specs.declared.name.ValueName.{ValueName}
use Rattle.xf_ir.specs.declared.name.ValueName.TheVariants.{Result, Arg, Free}
use Rattle.xf_ir.specs.Tree.{Ops, no_ops, op}
use Rattle.xf_ir.specs.Lists.{some}
use Rattle.xf_ir.specs.Uses.{same_value}
use Rattle.xf_rules_shape.specs.declared.reduction.OutArgument.{OutArgument}

abbrev pub Names : Type 0
Names = set.FinSet nat_cmp

abbrev pub out_value : OutArgument → ValueName
out_value o = Arg o.op 0 o.num

-- whether a value is the out argument or a result of one of the operations
abbrev pub depends_on : ValueName → Names → ValueName → Bool
depends_on out s (Result o num) = same_value out (Result o num) || set.contains s o.0
depends_on out s (Arg o r num) = same_value out (Arg o r num)
depends_on out s (Free num) = same_value out (Free num)

-- with an operation where it uses such a value
abbrev pub with_dependent : ValueName → List ValueName → OpName → Names → Names
with_dependent out os n s = if some (depends_on out s) os then set.insert s n.0 else s

-- with the operations that use such a value
abbrev pub with_dependents : ValueName → Ops → Names → Names
with_dependents out no_ops s = s
with_dependents out (op n k ds os ts rs rest) s = with_dependents out rest (with_dependent out os n s)

-- the same once for each of the operations
abbrev pub all_with : ValueName → Ops → Ops → Names → Names
all_with out no_ops body s = s
all_with out (op n k ds os ts rs rest) body s = all_with out rest body (with_dependents out body s)

-- the out argument and another value that does not depend on it, in either order
abbrev pub joins_apart : ValueName → Names → List ValueName → Bool
joins_apart out s (a ∷ (b ∷ [])) =
    (same_value a out && not (depends_on out s b)) || (same_value b out && not (depends_on out s a))
joins_apart out s _ = false
