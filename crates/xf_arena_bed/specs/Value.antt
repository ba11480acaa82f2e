-- What contracts see: a tree, and the slots.
use Rattle.std.specs.Prelude.{ℕ, List, Option, None, slice_index_or, refl}
use Rattle.std.specs.Coded.{Coded, code_by, coded×, coded_list, coded_option}
use Rattle.xf_ir.specs.Tree.{Tree, tree_code}
use Rattle.xf_ir.specs.declared.name.OpName.{OpName}
use Rattle.xf_ir.specs.contracts.name.OpName as name_type

-- the tree, and the name of the operation in each slot
pub record Layout : Type 0 where
  pub root : Tree
  pub seats : List (Option OpName)

abbrev pub layout_code : Coded Layout
layout_code =
    code_by (Tree × List (Option OpName)) (coded× tree_code (coded_list (coded_option name_type.the_row.coded)))
    (λ m. (m.root, m.seats)) (λ p. record { root = p.0; seats = p.1 }) (λ _. refl)

-- the name of the operation in a slot
abbrev pub seat_at : List (Option OpName) → ℕ → Option OpName
seat_at seats s = slice_index_or seats s None
