-- The rows of a dense constant, one behind the other.
use Rattle.std.proofs.Common.{◌≡◌, ℕ, suc, ◌+◌, ◌-◌, ◌<◌, List, ◌++◌, length, take, drop, codes, subst, ◌∙◌}
use Rattle.std.proofs.Common.{arith, append_assoc}
use Rattle.std.specs.Prelude.{◌/◌, min}
use Rattle.std.proofs.Math.Nat.{div-zero}
use Rattle.std.proofs.lemmas.List.{take_min, drop_min}
use Rattle.xf_dense.specs.Nests.{Nest}
use Rattle.xf_dense.specs.Printed.{row_nests}
use Rattle.xf_print.specs.Bodies.{nest_text, nests_text}

-- one row was written, behind which a comma stands
pub rows_go : (item : List ℕ → Nest) (rows at size : ℕ) (ns left line row line' all : List ℕ) → at < rows
    → line ++ nests_text (row_nests item (rows - at) size ns) ≡ all
    → row ≡ line ++ nest_text (item (take size ns)) → left ≡ drop size ns → line' ≡ row ++ codes ", "
    → line' ++ nests_text (row_nests item (rows - (at + 1)) size left) ≡ all
rows_go item rows at size ns left line row line' all lt e r l f =
    let d : rows - at ≡ suc (rows - (at + 1)) = omega (arith, lt) in
    let rest : List ℕ = nests_text (row_nests item (rows - (at + 1)) size (drop size ns)) in
    rw (f, r, l) (append_assoc (line ++ nest_text (item (take size ns))) (codes ", ") rest
    ∙ (append_assoc line (nest_text (item (take size ns))) (codes ", " ++ rest)
    ∙ subst (λ k. line ++ nests_text (row_nests item k size ns) ≡ all) d e))

pub take_least : (size : ℕ) (ns : List ℕ) → take (min size (length ns)) ns ≡ take size ns
take_least size ns = take_min size ns

pub drop_least : (size : ℕ) (ns : List ℕ) → drop (min size (length ns)) ns ≡ drop size ns
drop_least size ns = drop_min size ns

pub none_shared : (n : ℕ) → n / 0 ≡ 0
none_shared n = div-zero n
