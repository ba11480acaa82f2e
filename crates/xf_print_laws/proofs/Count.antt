-- As many operations are said as there are, but for terminators that are left out, which count too.
use Rattle.std.proofs.Common.{◌≡◌, ℕ, ◌+◌, ◌≤◌, Bool, true, false, List, refl, sym, ap, ◌∙◌, arith}
use Rattle.std.specs.Prelude.{not, ◌&&◌, ◌||◌, if◌then◌else◌}
use Rattle.xf_grammar.proofs.Basics.{both_true}
use Rattle.xf_type.specs.declared.payload_type.PayloadType.{PayloadType}
use Rattle.xf_grammar.specs.Tree.{SaidNodes, no_nodes_said, node_said, SaidBodies}
use Rattle.xf_grammar.specs.Tree.{said_ends_in, operations, operations_inside}
use Rattle.xf_format.specs.Format.{ends_open, format}
use Rattle.xf_format.specs.Parts.{Said}
use Rattle.xf_format.specs.Rows.{is_yield}
use Rattle.xf_ir.specs.declared.kind.Kind.{Kind}
use Rattle.xf_ir.specs.declared.kind.Kind.TheVariants as kind
use Rattle.xf_ir.specs.declared.op.Module.{Module}
use Rattle.xf_ir.specs.Count.{ops_count, regions_count, tree_count}
use Rattle.xf_ir.specs.Kinds.{is_endless, is_module, ends_for}
use Rattle.xf_ir.specs.Kinds.{is_yield as is_yield_kind}
use Rattle.xf_ir.specs.Limits.{most_operations}
use Rattle.xf_ir.specs.Placed.{functions_of}
use Rattle.xf_ir.specs.RuleBlocks.{block_ends, blocks_end}
use Rattle.xf_ir.specs.Tree.{Ops, no_ops, op, Regions, no_regions, region}
use Rattle.xf_printed.specs.Names.{Names, no_names}
use Rattle.xf_printed.specs.PrintedForm.{is_empty_yield}
use Rattle.xf_print_laws.specs.SaidPrinted.{row_of, head_printed, ops_printed, regions_printed, functions_printed}
use Rattle.xf_print_laws.specs.SaidPrinted.{printed_said}
use Rattle.xf_print_laws.proofs.Needs.{tree, names_in, OpsFit, RegionsFit, FunctionsFit, ModuleFits}

-- ---- blocks

-- whether a yield is left out of a block that may lack it
abbrev left : Bool → SaidNodes Said → ℕ
left b ns = if b && not (said_ends_in (λ (t : Said). t.row) is_yield ns) then 1 else 0

-- what is said of a block, with the yield that is left out
abbrev all_of : Bool → SaidNodes Said → ℕ
all_of b ns = operations format ns + left b ns

one_at_most : (c : Bool) → (if c then 1 else 0) ≤ 1
one_at_most true = omega arith
one_at_most false = omega arith

left_less : (b : Bool) (t : Said) (bs : SaidBodies Said) (ns : SaidNodes Said) → left b (node_said t bs ns) ≤ left b ns
left_less false t bs ns = omega arith
left_less true t bs no_nodes_said = one_at_most (not (is_yield t.row))
left_less true t bs (node_said u cs ns) = omega arith

-- an operation that is left out or not, before others, and at the end of a block
first_few : (out b : Bool) (t : Said) (bs : SaidBodies Said) (ns : SaidNodes Said) (inner rest : ℕ)
    → operations_inside format t bs ≤ inner → all_of b ns ≤ rest
    → all_of b (if out then ns else node_said t bs ns) ≤ 1 + inner + rest
first_few true b t bs ns inner rest le e = omega (arith, e)
first_few false b t bs ns inner rest le e = omega (arith, e, le, left_less b t bs ns)

last_few : (out b : Bool) (t : Said) (bs : SaidBodies Said) (inner : ℕ) → operations_inside format t bs ≤ inner
    → (b ≡ true → is_yield t.row ≡ true)
    → all_of b (if out then no_nodes_said else node_said t bs no_nodes_said) ≤ 1 + inner + 0
last_few true b t bs inner le y = omega (arith, one_at_most (b && true))
last_few false false t bs inner le y = omega (arith, le)
last_few false true t bs inner le y = let z = y refl in rw z (omega (arith, le))

-- ---- operations

-- the row of a kind that ends a block of scf
yield_row : (k : Kind) → is_yield_kind k ≡ true → is_yield (row_of k) ≡ true
yield_row kind.Yield e = refl
yield_row k e = absurd cc

-- a kind whose blocks end in a yield
record EndsInYield (holder : Kind) : Type 0 where
  some : is_endless holder ≡ false
  yields : (k : Kind) → (is_endless holder || ends_for holder k) ≡ true → is_yield (row_of k) ≡ true

ends_in_yield : (k : Kind) (ts : List PayloadType) → ends_open (row_of k) ts ≡ true → EndsInYield k
ends_in_yield (kind.For width) ts e = record { some = refl; yields = λ k y. yield_row k y }
ends_in_yield kind.If ts e = record { some = refl; yields = λ k y. yield_row k y }
ends_in_yield k ts e = absurd cc

mutual
  ops_few : (names : Names) (holder : Kind) (b : Bool) (ops : Ops) → (b ≡ true → EndsInYield holder)
      → OpsFit names ops → block_ends holder ops ≡ true → all_of b (ops_printed names ops) ≤ ops_count ops
  ops_few names holder true no_ops h f e = absurd (let z = sym (h refl).some ∙ e in cc)
  ops_few names holder false no_ops h f e = omega arith
  ops_few names holder b (op n k ds os ts rs no_ops) h f e =
      last_few (is_empty_yield k ds os) b (head_printed names (tree n k ds os ts rs)) (regions_printed names rs)
      (regions_count rs) (regions_few names _ k rs refl (f.1.0).ends f.1.1.0) (λ t. (h t).yields k e)
  ops_few names holder b (op n k ds os ts rs (op n' k' ds' os' ts' rs' rest)) h f e =
      first_few (is_empty_yield k ds os) b (head_printed names (tree n k ds os ts rs)) (regions_printed names rs) _
      (regions_count rs) _ (regions_few names _ k rs refl (f.1.0).ends f.1.1.0)
      (ops_few names holder b (op n' k' ds' os' ts' rs' rest) h f.1.1.1 e)

  regions_few : (names : Names) (t : Said) (k : Kind) (rs : Regions) → t.row ≡ row_of k → blocks_end k rs ≡ true
      → RegionsFit names rs → operations_inside format t (regions_printed names rs) ≤ regions_count rs
  regions_few names t k no_regions r e f = omega arith
  regions_few names t k (region args ops rest) r e f =
      let p = both_true (block_ends k ops) _ e in
      let may = ends_open t.row t.results in
      let open_ends = λ (o : may ≡ true). ends_in_yield k t.results (ap (λ x. ends_open x t.results) (sym r) ∙ o) in
      omega (arith, ops_few names k may ops open_ends f.0 p.0, regions_few names t k rest r p.1 f.1)

-- ---- functions and the module

functions_few : (fs : Ops) → FunctionsFit fs → operations format (functions_printed fs) ≤ ops_count fs
functions_few no_ops f = omega arith
functions_few (op n k ds os ts rs rest) f =
    let names = names_in n k ds os ts rs in
    let t = head_printed names (tree n k ds os ts rs) in
    omega (arith, regions_few names t k rs refl (f.1.1.0).ends f.1.1.1.0, functions_few rest f.1.1.1.1)

-- a module leaves no terminator out
closed : (k : Kind) (ts : List PayloadType) → is_module k ≡ true → ends_open (row_of k) ts ≡ false
closed (kind.Module symbol) ts e = refl
closed k ts e = absurd cc

pub module_few : (m : Module) → ModuleFits m → tree_count m.root ≤ most_operations
    → operations format (printed_said m) ≤ most_operations
module_few m w le =
    let a = functions_few (functions_of m) w.functions in
    let c = ap regions_count w.one in
    let o = closed m.root.kind (head_printed no_names m.root).results w.is_root in
    rw o (omega arith)
