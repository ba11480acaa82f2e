-- The operands of a tree and the values that it defines, as lists.
use Rattle.std.specs.Prelude.{◌≡◌, ℕ, zero, suc, ◌+◌, List, [], ◌∷◌, ◌++◌, length, Option, Some, None}
use Rattle.std.specs.Prelude.{Bool, false, ◌==◌, ◌&&◌, ◌||◌, if◌then◌else◌}
use Rattle.xf_type.specs.declared.payload_type.PayloadType.{PayloadType}
use Rattle.xf_ir.specs.declared.name.OpName.{OpName}
use Rattle.xf_ir.specs.declared.name.ValueName.{ValueName}
use Rattle.xf_ir.specs.declared.name.ValueName.TheVariants as value
use Rattle.xf_ir.specs.Tree.{Ops, no_ops, op, Regions, no_regions, region, Tree}
use Rattle.xf_uses.specs.declared.cell.Definition.{Definition}
use Rattle.xf_uses.specs.declared.cell.Definition.TheVariants.{Result, Argument}
use Rattle.xf_uses.specs.Uses.{Operands, Values, with_operand, with_value, same_value}

-- what defines a value; no module defines one from outside a snippet
abbrev pub definition_of : ValueName → Option Definition
definition_of (value.Result o num) = Some (Result o.0 num)
definition_of (value.Arg o r num) = Some (Argument o.0 r num)
definition_of (value.Free num) = None

-- ---- what is gathered from operations and the arguments of blocks, in preorder

abbrev pub FromOp : Type 0 → Type 0
FromOp A = OpName → List ValueName → List PayloadType → List A

abbrev pub FromBlock : Type 0 → Type 0
FromBlock A = OpName → ℕ → List PayloadType → List A

abbrev mutual
  pub ops_gathered : {A : Type 0} → FromOp A → FromBlock A → Ops → List A
  ops_gathered g h no_ops = []
  ops_gathered g h (op n k ds os ts rs rest) = g n os ts ++ (regions_gathered g h n 0 rs ++ ops_gathered g h rest)

  pub regions_gathered : {A : Type 0} → FromOp A → FromBlock A → OpName → ℕ → Regions → List A
  regions_gathered g h n r no_regions = []
  regions_gathered g h n r (region args ops rest) =
      h n r args ++ (ops_gathered g h ops ++ regions_gathered g h n (suc r) rest)

abbrev pub tree_gathered : {A : Type 0} → FromOp A → FromBlock A → Tree → List A
tree_gathered g h t = g t.name t.operands t.results ++ regions_gathered g h t.name 0 t.regions

-- ---- operands

-- operand num of an operation has the value
pub record Entry : Type 0 where
  pub op : ℕ
  pub num : ℕ
  pub value : Definition

abbrev pub entry_before : ℕ → ℕ → Option Definition → List Entry → List Entry
entry_before o i None more = more
entry_before o i (Some v) more = record { op = o; num = i; value = v } ∷ more

-- the operands of an operation from operand i on
abbrev pub numbered : ℕ → ℕ → List ValueName → List Entry
numbered o i [] = []
numbered o i (v ∷ vs) = entry_before o i (definition_of v) (numbered o (i + 1) vs)

abbrev pub op_entries : FromOp Entry
op_entries n os ts = numbered n.0 0 os

abbrev pub no_entries : FromBlock Entry
no_entries n r args = []

abbrev pub ops_entries : Ops → List Entry
ops_entries ops = ops_gathered op_entries no_entries ops

abbrev pub regions_entries : OpName → ℕ → Regions → List Entry
regions_entries n r rs = regions_gathered op_entries no_entries n r rs

-- the operands of a tree
abbrev pub tree_entries : Tree → List Entry
tree_entries t = tree_gathered op_entries no_entries t

-- ---- values

abbrev pub results_from : ℕ → ℕ → ℕ → List Definition
results_from o i zero = []
results_from o i (suc count) = Result o i ∷ results_from o (i + 1) count

abbrev pub arguments_from : ℕ → ℕ → ℕ → ℕ → List Definition
arguments_from o r i zero = []
arguments_from o r i (suc count) = Argument o r i ∷ arguments_from o r (i + 1) count

abbrev pub op_values : FromOp Definition
op_values n os ts = results_from n.0 0 (length ts)

abbrev pub block_values : FromBlock Definition
block_values n r args = arguments_from n.0 r 0 (length args)

abbrev pub ops_values : Ops → List Definition
ops_values ops = ops_gathered op_values block_values ops

abbrev pub regions_values : OpName → ℕ → Regions → List Definition
regions_values n r rs = regions_gathered op_values block_values n r rs

-- the values that a tree defines
abbrev pub tree_values : Tree → List Definition
tree_values t = tree_gathered op_values block_values t

-- how many cells a tree takes: one for each operand and each value
abbrev pub cells_of : Tree → ℕ
cells_of t = length (tree_entries t) + length (tree_values t)

-- ---- as functions

-- with these operands, and without
abbrev pub with_entries : List Entry → Operands → Operands
with_entries [] u = u
with_entries (e ∷ es) u = with_entries es (with_operand e.op e.num (Some e.value) u)

abbrev pub without_entries : List Entry → Operands → Operands
without_entries [] u = u
without_entries (e ∷ es) u = without_entries es (with_operand e.op e.num None u)

-- with these values defined, or not
abbrev pub with_values : Bool → List Definition → Values → Values
with_values b [] d = d
with_values b (v ∷ vs) d = with_values b vs (with_value v b d)

-- the value at an operand
abbrev pub entry_at : List Entry → Operands
entry_at [] n k = None
entry_at (e ∷ es) n k = if (e.op == n) && (e.num == k) then Some e.value else entry_at es n k

abbrev pub is_value_among : List Definition → Values
is_value_among [] v = false
is_value_among (w ∷ ws) v = same_value w v || is_value_among ws v

abbrev pub is_key_among : ℕ → ℕ → List Entry → Bool
is_key_among n k [] = false
is_key_among n k (e ∷ es) = ((e.op == n) && (e.num == k)) || is_key_among n k es

-- no operand stands twice
abbrev pub KeysOnce : List Entry → Type 0
KeysOnce [] = Unit {0}
KeysOnce (e ∷ es) = (is_key_among e.op e.num es ≡ false) × KeysOnce es

-- no value stands twice
abbrev pub ValuesOnce : List Definition → Type 0
ValuesOnce [] = Unit {0}
ValuesOnce (v ∷ vs) = (is_value_among vs v ≡ false) × ValuesOnce vs

-- some items before, between or behind others
pub record Splits {A : Type 0} (xs ys zs : List A) : Type 0 where
  pub pre : List A
  pub post : List A
  pub lacking : ys ≡ pre ++ post
  pub having : zs ≡ pre ++ (xs ++ post)
