-- Blocks by their numbers, and their ends.
use Rattle.std.proofs.Common.{◌≡◌, ℕ, zero, suc, ◌-◌, ◌<◌, ◌≤◌, ◌||◌, List, [], ◌∷◌, length, get_or, false}
use Rattle.std.proofs.Common.{refl, sym, ap, ◌∙◌, arith}
use Rattle.std.specs.Prelude.{◌==◌}
use Rattle.std.proofs.lemmas.Bool.Decides.{nat_tests}
use Rattle.xf_ir.specs.declared.kind.Kind.{Kind}
use Rattle.xf_ir.specs.Tree.{Tree, Body}
use Rattle.xf_ir.specs.View.{ops_of, regions_of}
use Rattle.xf_ir.specs.Kinds.{is_endless, ends_for}
use Rattle.xf_ir.specs.Lists.{is_empty}
use Rattle.xf_ir.specs.RuleBlocks.{block_args, block_ends}

unequal_test : (m n : ℕ) → n < m → (m == n) ≡ false
unequal_test m n h = grind (arith, nat_tests)

pub no_blocks : (bs : List Body) → (length bs == 0) ≡ is_empty (block_args (regions_of bs))
no_blocks [] = refl
no_blocks (b ∷ bs) = unequal_test (suc (length bs)) 0 (omega arith)

-- ---- the last operation of a block

last_at : (holder : Kind) (ts : List Tree) (t : Tree) (k : ℕ) → length ts ≡ suc k → t ≡ get_or ts k t
    → block_ends holder (ops_of ts) ≡ (is_endless holder || ends_for holder t.kind)
last_at holder [] t k e g = absurd (cc)
last_at holder (x ∷ []) t zero e g = ap (λ (z : Tree). is_endless holder || ends_for holder z.kind) (sym g)
last_at holder (x ∷ []) t (suc k) e g = absurd (omega arith)
last_at holder (x ∷ (y ∷ ts)) t zero e g = absurd (omega arith)
last_at holder (x ∷ (y ∷ ts)) t (suc k) e g = last_at holder (y ∷ ts) t k (omega arith) g

pub by_last : (holder : Kind) (ts : List Tree) (t : Tree) (k : Kind) → 1 ≤ length ts → t ≡ get_or ts (length ts - 1) t
    → t.kind ≡ k → block_ends holder (ops_of ts) ≡ (is_endless holder || ends_for holder k)
by_last holder ts t k h g e =
    last_at holder ts t (length ts - 1) (omega arith) g ∙ ap (λ z. is_endless holder || ends_for holder z) e
