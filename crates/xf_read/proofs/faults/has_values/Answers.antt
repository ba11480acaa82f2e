use Rattle.std.proofs.Common.{◌≡◌, ℕ, zero, suc, refl, arith}
use Rattle.std.specs.Prelude.{nat_lt}
use Rattle.std.proofs.lemmas.Bool.{lt-ltb}
use Rattle.xf_read.specs.Scopes.{has_values}
use Rattle.xf_read.proofs.faults.has_values.Goals as goal

some : (k : ℕ) → nat_lt 0 k ≡ has_values k
some zero = refl
some (suc k) = lt-ltb 0 (suc k) (omega arith)

pub returns : goal.returns
returns c = some c.args.count
