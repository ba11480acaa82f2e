-- The yields that are left out of a printed block are those that a reader takes as left out.
use Rattle.std.proofs.Common.{◌≡◌, suc, Bool, true, false, not, cond, List, [], ◌∷◌, length, Option, refl, sym, ap}
use Rattle.std.proofs.Common.{◌∙◌, arith}
use Rattle.std.specs.Prelude.{◌&&◌, ◌||◌, ◌==◌, map}
use Rattle.std.proofs.lemmas.Bool.Decides.{nat_tests}
use Rattle.std.proofs.lemmas.Bool.{and_parts, or_from}
use Rattle.xf_type.specs.declared.payload_type.PayloadType.{PayloadType}
use Rattle.xf_format.specs.declared.row.Row.TheVariants as row
use Rattle.xf_format.specs.Parts.{Said}
use Rattle.xf_ir.specs.declared.kind.Attr.{Attr}
use Rattle.xf_ir.specs.declared.kind.Kind.{Kind}
use Rattle.xf_ir.specs.declared.kind.Kind.TheVariants as kind
use Rattle.xf_ir.specs.declared.name.OpName.{OpName}
use Rattle.xf_ir.specs.declared.name.ValueName.{ValueName}
use Rattle.xf_ir.specs.Calls.{Signatures}
use Rattle.xf_ir.specs.Kinds.{is_terminator, ends_for, is_endless}
use Rattle.xf_ir.specs.Placed.{Typed, type_at, Holder, holder_of, Placed}
use Rattle.xf_ir.specs.RuleBlocks.{block_args, blocks_fit, is_end, block_ends, blocks_end, stands_at_end}
use Rattle.xf_ir.specs.RuleTypes.{row_of as type_row}
use Rattle.xf_ir.specs.Tree.{Ops, no_ops, op, Regions, no_regions}
use Rattle.xf_type.specs.Equal.{same_types}
use Rattle.xf_ir.specs.Types.{have_types}
use Rattle.xf_ir_laws.proofs.Obeys.{OpsObey}
use Rattle.xf_format.specs.Format.{ends_open}
use Rattle.xf_format.specs.Rows.{is_yield}
use Rattle.xf_syntax.specs.Telling.{SaidNodes, no_nodes_said, node_said, SaidBodies, says_yield_last}
use Rattle.xf_printed.specs.Names.{Names}
use Rattle.xf_printed.specs.PrintedForm.{is_empty_yield}
use Rattle.xf_print_laws.specs.SaidPrinted.{row_of, results_printed, ops_printed}
use Rattle.xf_roundtrip.proofs.Says.{Good}

pub stands_there : (sigs : Signatures) (p : Placed) → Good sigs p
    → stands_at_end p.holder.kind p.tree.kind p.after ≡ true
stands_there sigs p g = (and_parts (blocks_end p.tree.kind p.tree.regions) _ g.blocks).1

-- ---- empty yields

abbrev pub ends_empty : Ops → Bool
ends_empty no_ops = false
ends_empty (op m k ds os ts rs rest) = is_empty_yield k ds os || ends_empty rest

-- an empty yield stands at the end, and gives nothing
pub yield_is : (sigs : Signatures) (h : Holder) (m : OpName) (k : Kind) (ds : List Attr) (os : List ValueName)
    (types : List (Option PayloadType)) (ts : List PayloadType) (rs : Regions) (rest : Ops)
    → is_empty_yield k ds os ≡ true → type_row sigs h.gives k types ts ≡ true
    → blocks_fit k types ts (block_args rs) ≡ true
    → stands_at_end h.kind k rest ≡ true → op m kind.Yield [] [] [] no_regions no_ops ≡ op m k ds os ts rs rest
yield_is sigs h m kind.Yield [] [] types ts rs rest e f b s =
    plain ts rs rest (and_parts (have_types types h.gives) (same_types ts []) f).1 b (and_parts (is_end rest) _ s).0
  where
    plain : (ts : List PayloadType) (rs : Regions) (rest : Ops) → same_types ts [] ≡ true
        → blocks_fit kind.Yield types ts (block_args rs) ≡ true → is_end rest ≡ true
        → op m kind.Yield [] [] [] no_regions no_ops ≡ op m kind.Yield [] [] ts rs rest
    plain [] no_regions no_ops f b e = refl
    plain ts rs rest f b e = absurd cc
yield_is sigs h m k ds os types ts rs rest e f b s = absurd cc

-- ---- blocks that end in a yield

behind_other : (t : Said) (bs : SaidBodies) (ns : SaidNodes) → is_yield t.row ≡ false
    → says_yield_last (node_said t bs ns) ≡ says_yield_last ns
behind_other t bs no_nodes_said e = e
behind_other t bs (node_said u cs ns) e = refl

last_printed : (b : Bool) (t : Said) (bs : SaidBodies) → is_yield t.row ≡ true
    → says_yield_last (cond b no_nodes_said (node_said t bs no_nodes_said)) ≡ not (b || false)
last_printed true t bs e = refl
last_printed false t bs e = e

more_printed : (k : Kind) (ds : List Attr) (os : List ValueName) (t : Said) (bs : SaidBodies) (ns : SaidNodes)
    (c : Bool)
    → t.row ≡ row_of k → is_terminator k ≡ false → says_yield_last ns ≡ not c
    → says_yield_last (cond (is_empty_yield k ds os) ns (node_said t bs ns)) ≡ not (is_empty_yield k ds os || c)
more_printed kind.Yield ds os t bs ns c r e g = absurd cc
more_printed k ds os t bs ns c r e g = behind_other t bs ns (ap is_yield r) ∙ g

not_end_before : (a b : Bool) → (not a || (false && b)) ≡ true → a ≡ false
not_end_before true b e = absurd cc
not_end_before false b e = refl

module _ (sigs : Signatures) (names : Names) (h : Holder) where
  -- in a block that ends in a yield, the last operation that is printed is a yield unless an empty one is left out
  yields_last : (env : Typed) (ops : Ops) → is_endless h.kind ≡ false
      → ((k : Kind) → ends_for h.kind k ≡ true → is_yield (row_of k) ≡ true) → OpsObey (Good sigs) h env ops
      → block_ends h.kind ops ≡ true → says_yield_last (ops_printed names ops) ≡ not (ends_empty ops)
  yields_last env no_ops e f g b = absurd cc
  yields_last env (op m k ds os ts rs no_ops) e f g b = last_printed (is_empty_yield k ds os) _ _ (f k (rw e at b))
  yields_last env (op m k ds os ts rs (op m' k' ds' os' ts' rs' rest)) e f g b =
      more_printed k ds os _ _ _ _ refl (not_end_before (is_terminator k) (ends_for h.kind k) (stands_there sigs _ g.0))
      (yields_last _ (op m' k' ds' os' ts' rs' rest) e f g.1.1 b)

  abbrev NoneEmpty : Type 0
  NoneEmpty = (k : Kind) (ds : List Attr) (os : List ValueName) (env : Typed) (ts : List PayloadType) (rest : Ops)
      → type_row sigs h.gives k (map (type_at env) os) ts ≡ true → stands_at_end h.kind k rest ≡ true
      → is_empty_yield k ds os ≡ false

  -- where no operation is an empty yield
  none_empty : NoneEmpty → (env : Typed) (ops : Ops) → OpsObey (Good sigs) h env ops → ends_empty ops ≡ false
  none_empty f env no_ops g = refl
  none_empty f env (op m k ds os ts rs rest) g =
      or_from _ _ (f k ds os env ts rest g.0.types (stands_there sigs _ g.0)) (none_empty f _ rest g.1.1)

  -- where the block gives values, its yield has operands
  gives_some : (t : PayloadType) (ts : List PayloadType) → h.gives ≡ t ∷ ts → NoneEmpty
  gives_some t ts e kind.Yield [] [] env us rest f s = absurd (let z = rw e at f in cc)
  gives_some t ts e k ds os env us rest f s = refl

  -- where a yield does not end the block, none stands in it
  ends_otherwise : ends_for h.kind kind.Yield ≡ false → NoneEmpty
  ends_otherwise e kind.Yield [] [] env us rest f s = absurd (let z = (and_parts (is_end rest) _ s).1 in cc)
  ends_otherwise e k ds os env us rest f s = refl

  open_block : (env : Typed) (ts : List PayloadType) (ops : Ops) → h.gives ≡ ts → is_endless h.kind ≡ false
      → ((k : Kind) → ends_for h.kind k ≡ true → is_yield (row_of k) ≡ true) → OpsObey (Good sigs) h env ops
      → block_ends h.kind ops ≡ true
      → (ends_open row.For ts && not (says_yield_last (ops_printed names ops))) ≡ ends_empty ops
  open_block env [] ops e n f g b = ap not (yields_last env ops n f g b) ∙ not_not (ends_empty ops)
    where
      not_not : (b : Bool) → not (not b) ≡ b
      not_not true = refl
      not_not false = refl
  open_block env (t ∷ ts) ops e n f g b =
      let z : (suc (length ts) == 0) ≡ false = grind (arith, nat_tests) in
      ap (λ c. c && not (says_yield_last (ops_printed names ops))) z ∙ sym (none_empty (gives_some t ts e) env ops g)

yield_ends : (k : Kind) → ends_for kind.If k ≡ true → is_yield (row_of k) ≡ true
yield_ends kind.Yield e = refl
yield_ends k e = absurd cc

pub block_yields : (names : Names) (sigs : Signatures) (k : Kind) (types : List (Option PayloadType))
    (ts : List PayloadType) (env : Typed) (ops : Ops) → OpsObey (Good sigs) (holder_of k types ts) env ops
    → block_ends k ops ≡ true
    → (ends_open (row_of k) (results_printed k ts) && not (says_yield_last (ops_printed names ops))) ≡ ends_empty ops
block_yields names sigs (kind.For width) types ts env ops g b =
    open_block sigs names (holder_of (kind.For width) types ts) env ts ops refl refl yield_ends g b
block_yields names sigs kind.If types ts env ops g b =
    open_block sigs names (holder_of kind.If types ts) env ts ops refl refl yield_ends g b
block_yields names sigs k types ts env ops g b =
    sym (none_empty sigs names (holder_of k types ts) (ends_otherwise sigs names (holder_of k types ts) refl) env ops g)
