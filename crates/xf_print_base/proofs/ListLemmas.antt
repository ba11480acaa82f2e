-- Lists cut at their ends.
use Rattle.std.proofs.Common.{◌≡◌, ℕ, List, length, drop}
use Rattle.std.specs.Prelude.{min}
use Rattle.std.proofs.lemmas.List.{drop_min}
use Rattle.xf_ir.specs.declared.name.ValueName.{ValueName}

pub drop_least : (n : ℕ) (vs : List ValueName) → drop (min n (length vs)) vs ≡ drop n vs
drop_least n vs = drop_min n vs
