-- The numbers of the rules of a valid module, V1 to V16.
use Rattle.std.specs.Prelude.{ℕ, ◌==◌, if◌then◌else◌}
use Rattle.xf_ir.specs.declared.rule.Rule.{Rule}
use Rattle.xf_ir.specs.declared.rule.Rule.TheVariants as rule

abbrev pub number : Rule → ℕ
number rule.Names = 1
number rule.Functions = 2
number rule.Regions = 3
number rule.Blocks = 4
number rule.Uses = 5
number rule.Types = 6
number rule.Attributes = 7
number rule.Callees = 8
number rule.Chains = 9
number rule.Maps = 10
number rule.Iterators = 11
number rule.Reductions = 12
number rule.Extents = 13
number rule.Bodies = 14
number rule.Ranges = 15
number rule.Slices = 16

-- the rule of a number; the last, where no rule has it
abbrev pub numbered : ℕ → Rule
numbered n =
    if n == 1 then rule.Names
    else if n == 2 then rule.Functions
    else if n == 3 then rule.Regions
    else if n == 4 then rule.Blocks
    else if n == 5 then rule.Uses
    else if n == 6 then rule.Types
    else if n == 7 then rule.Attributes
    else if n == 8 then rule.Callees
    else if n == 9 then rule.Chains
    else if n == 10 then rule.Maps
    else if n == 11 then rule.Iterators
    else if n == 12 then rule.Reductions
    else if n == 13 then rule.Extents
    else if n == 14 then rule.Bodies
    else if n == 15 then rule.Ranges
    else rule.Slices
