-- Blocks and operations as the code sees them, by their numbers.
use Rattle.std.proofs.Common.{◌≡◌, ℕ, suc, ◌<◌, List, [], ◌∷◌, length, false, refl, arith}
use Rattle.std.specs.Prelude.{◌==◌}
use Rattle.std.proofs.lemmas.Bool.Decides.{nat_tests}
use Rattle.xf_ir.specs.RuleBlocks.{is_end}
use Rattle.xf_ir.specs.Tree.{Tree, Body}
use Rattle.xf_ir.specs.View.{ops_of, regions_of}
use Rattle.xf_opt.specs.Form.{has_no_regions}

unequal : (m n : ℕ) → n < m → (m == n) ≡ false
unequal m n h = grind (arith, nat_tests)

pub no_blocks : (bs : List Body) → (length bs == 0) ≡ has_no_regions (regions_of bs)
no_blocks [] = refl
no_blocks (b ∷ bs) = unequal (suc (length bs)) 0 (omega arith)

pub no_operations : (ts : List Tree) → (length ts == 0) ≡ is_end (ops_of ts)
no_operations [] = refl
no_operations (t ∷ ts) = unequal (suc (length ts)) 0 (omega arith)
