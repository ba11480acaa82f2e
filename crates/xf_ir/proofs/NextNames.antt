-- The next name above names.
use Rattle.std.proofs.Common.{◌≡◌, ℕ, zero, suc, ◌<◌, List, [], ◌∷◌, ◌++◌, ◌+◌, length, get_or, drop, add-one, refl}
use Rattle.std.proofs.Common.{sym, ap, ◌∙◌, append_assoc, arith}
use Rattle.xf_ir.specs.declared.name.OpName.{OpName}
use Rattle.xf_ir.specs.Tree.{Tree}
use Rattle.xf_ir.specs.View.{ops_of}
use Rattle.xf_ir.specs.Walk.{ops_names, tree_names}
use Rattle.xf_ir.specs.Edits.{next_above}

-- one part of the names after the other
pub next_parts : (ms ns : List OpName) (next : ℕ) → next_above next (ms ++ ns) ≡ next_above (next_above next ms) ns
next_parts [] ns next = refl
next_parts (m ∷ ms) ns next = next_parts ms ns _

-- one tree before what stands behind it
pub next_turn : (next : ℕ) (t : Tree) (ts : List Tree) (ns : List OpName)
    → next_above (next_above next (tree_names t)) (ops_names (ops_of ts) ++ ns)
    ≡ next_above next (ops_names (ops_of (t ∷ ts)) ++ ns)
next_turn next t ts ns = sym (next_parts (tree_names t) (ops_names (ops_of ts) ++ ns) next)
    ∙ ap (next_above next) (sym (append_assoc (tree_names t) (ops_names (ops_of ts)) ns))

next_turn_from : (next : ℕ) (ts : List Tree) (i : ℕ) (t : Tree) (ns : List OpName) → i < length ts
    → t ≡ get_or ts i t → next_above (next_above next (tree_names t)) (ops_names (ops_of (drop (suc i) ts)) ++ ns)
    ≡ next_above next (ops_names (ops_of (drop i ts)) ++ ns)
next_turn_from next [] i t ns h e = absurd (omega arith)
next_turn_from next (x ∷ xs) zero t ns h e = rw e (next_turn next x xs ns)
next_turn_from next (x ∷ xs) (suc i) t ns h e = next_turn_from next xs i t ns (omega arith) e

-- the item i of trees before those behind it
pub next_turn_at : (next : ℕ) (ts : List Tree) (i : ℕ) (t : Tree) (ns : List OpName) → i < length ts
    → t ≡ get_or ts i t → next_above (next_above next (tree_names t)) (ops_names (ops_of (drop (i + 1) ts)) ++ ns)
    ≡ next_above next (ops_names (ops_of (drop i ts)) ++ ns)
next_turn_at next ts i t ns h e = rw add-one (next_turn_from next ts i t ns h e)
