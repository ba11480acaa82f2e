-- The arguments of blocks.
use Rattle.std.specs.Prelude.{List, [], ◌∷◌}
use Rattle.xf_type.specs.declared.payload_type.PayloadType.{PayloadType}
use Rattle.xf_ir.specs.Tree.{Body}

-- the arguments of each block
abbrev pub args_in : List Body → List (List PayloadType)
args_in [] = []
args_in (b ∷ bs) = b.args ∷ args_in bs
