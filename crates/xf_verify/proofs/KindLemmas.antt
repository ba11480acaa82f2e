-- What one operation adds to symbols and to callees.
use Rattle.std.proofs.Common.{◌≡◌, List, [], ◌++◌, Option, None, Some, refl}
use Rattle.xf_ir.specs.Lists.{item_before}

pub item_first : {A : Type 0} (o : Option A) (more : List A) → item_before o more ≡ item_before o [] ++ more
item_first None more = refl
item_first (Some x) more = refl
