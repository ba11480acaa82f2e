-- In a valid module each operation names its own operations alone, and uses values of these.
use Rattle.std.proofs.Common.{◌≡◌, ℕ, suc, true, List, [], ◌∷◌, ◌++◌, length, sym, subst}
use Rattle.std.specs.Prelude.{map}
use Rattle.xf_ir.specs.declared.name.OpName.{OpName}
use Rattle.xf_ir.specs.declared.op.Module.{Module}
use Rattle.xf_ir.specs.Lists.{Each, is_among}
use Rattle.xf_ir.specs.Placed.{Typed, type_at, Holder, holder_of, placed, root_holder, functions_of}
use Rattle.xf_ir.specs.Places.{Seen, done, inside}
use Rattle.xf_ir.specs.Tree.{Ops, no_ops, op, Regions, no_regions, region}
use Rattle.xf_ir.specs.Uses.{ops_operands, regions_operands}
use Rattle.xf_ir.specs.Valid.{OpsSee, RegionsSee, FunctionsSee}
use Rattle.xf_ir.specs.Walk.{ops_names, regions_names, tree_names}
use Rattle.xf_ir.proofs.Lists.{each_left, each_right, each_both}
use Rattle.xf_ir_laws.proofs.Obeys.{OpsObey, RegionsObey, FunctionsObey, BlocksObey, each_blocks}
use Rattle.xf_ir_laws.proofs.RenamedPlaces.{IsOf, Owned, all_of, each_among}
use Rattle.xf_ir_laws.proofs.RenamedReductions.{IsKnown}

module _ (all : List OpName) where
  abbrev In : OpName → Type 0
  In n = is_among n all ≡ true

  -- ---- visible values are of operations that are known

  mutual
    ops_of : (ss : List Seen) (ops : Ops) → Owned all ss → Each In (ops_names ops) → OpsSee ss ops
        → Each (IsOf all) (ops_operands ops)
    ops_of ss no_ops w e see = tt
    ops_of ss (op n k ds os ts rs rest) w e see =
        let inner = regions_of ss n 0 rs w e.0 (each_left In (regions_names rs) (ops_names rest) e.1) see.1.0 in
        let later = ops_of (done n (length ts) ∷ ss) rest (
          e.0,
          w,
        ) (each_right In (regions_names rs) (ops_names rest) e.1) see.1.1 in
        each_both (IsOf all) os (regions_operands rs ++ ops_operands rest) (all_of all ss os w see.0)
        (each_both (IsOf all) (regions_operands rs) (ops_operands rest) inner later)

    regions_of : (ss : List Seen) (n : OpName) (i : ℕ) (rs : Regions) → Owned all ss → In n → Each In (regions_names rs)
        → RegionsSee ss n i rs → Each (IsOf all) (regions_operands rs)
    regions_of ss n i no_regions w o e see = tt
    regions_of ss n i (region args ops rest) w o e see =
        each_both (IsOf all) (ops_operands ops) (regions_operands rest) (ops_of (inside n i (length args) ∷ ss) ops (
          o,
          w,
        ) (each_left In (ops_names ops) (regions_names rest) e) see.0)
        (regions_of ss n (suc i) rest w o (each_right In (ops_names ops) (regions_names rest) e) see.1)

  functions_operands : (fs : Ops) → Each In (ops_names fs) → FunctionsSee fs → Each (IsOf all) (ops_operands fs)
  functions_operands no_ops e see = tt
  functions_operands (op n k ds os ts rs rest) e see =
      let inner = regions_of [] n 0 rs tt e.0 (each_left In (regions_names rs) (ops_names rest) e.1) see.1.0 in
      let later = functions_operands rest (each_right In (regions_names rs) (ops_names rest) e.1) see.1.1 in
      each_both (IsOf all) os (regions_operands rs ++ ops_operands rest) (all_of all [] os tt see.0)
      (each_both (IsOf all) (regions_operands rs) (ops_operands rest) inner later)

  -- ---- each operation where it stands

  mutual
    ops_known : (h : Holder) (env : Typed) (ops : Ops) → Each In (ops_names ops) → Each (IsOf all) (ops_operands ops)
        → OpsObey (IsKnown all) h env ops
    ops_known h env no_ops e u = tt
    ops_known h env (op n k ds os ts rs rest) e u =
        let ns = each_left In (regions_names rs) (ops_names rest) e.1 in
        let b = each_right (IsOf all) os (regions_operands rs ++ ops_operands rest) u in
        let vs = each_left (IsOf all) (regions_operands rs) (ops_operands rest) b in (
          record { name = e.0; names = ns; operands = vs },
          (
            regions_known (holder_of k (map (type_at env) os) ts) env n 0 rs ns vs,
            ops_known h ((done n (length ts), ts) ∷ env) rest (each_right In (regions_names rs) (ops_names rest) e.1)
                (each_right (IsOf all) (regions_operands rs) (ops_operands rest) b),
          ),
        )

    regions_known : (h : Holder) (env : Typed) (n : OpName) (i : ℕ) (rs : Regions) → Each In (regions_names rs)
        → Each (IsOf all) (regions_operands rs) → RegionsObey (IsKnown all) h env n i rs
    regions_known h env n i no_regions e u = tt
    regions_known h env n i (region args ops rest) e u = (
      ops_known h ((inside n i (length args), args) ∷ env) ops (each_left In (ops_names ops) (regions_names rest) e)
          (each_left (IsOf all) (ops_operands ops) (regions_operands rest) u),
      regions_known h env n (suc i) rest (each_right In (ops_names ops) (regions_names rest) e)
          (each_right (IsOf all) (ops_operands ops) (regions_operands rest) u),
    )

  functions_known : (h : Holder) (fs : Ops) → Each In (ops_names fs) → Each (IsOf all) (ops_operands fs)
      → FunctionsObey (IsKnown all) h fs
  functions_known h no_ops e u = tt
  functions_known h (op n k ds os ts rs rest) e u =
      let ns = each_left In (regions_names rs) (ops_names rest) e.1 in
      let b = each_right (IsOf all) os (regions_operands rs ++ ops_operands rest) u in
      let vs = each_left (IsOf all) (regions_operands rs) (ops_operands rest) b in (
        record { name = e.0; names = ns; operands = vs },
        (
          regions_known (holder_of k (map (type_at []) os) ts) [] n 0 rs ns vs,
          functions_known h rest (each_right In (regions_names rs) (ops_names rest) e.1)
              (each_right (IsOf all) (regions_operands rs) (ops_operands rest) b),
        ),
      )

-- all operations of a module are known by their names
pub module_known : (m : Module) → m.root.regions ≡ region [] (functions_of m) no_regions → FunctionsSee (functions_of m)
    → Each (IsKnown (tree_names m.root)) (placed m)
module_known m one see =
    let all : List OpName = tree_names m.root in
    let P : OpName → Type 0 = λ n. is_among n all ≡ true in
    let K = IsKnown all in
    let h = root_holder m.root in
    let fs : Ops = functions_of m in
    let among = each_among all in
    let each : Each P (ops_names fs ++ []) = subst (λ rs. Each P (regions_names rs)) one among.1 in
    let names = each_left P (ops_names fs) [] each in
    let values = functions_operands all fs names see in
    let held : Each (IsOf all) (regions_operands m.root.regions) = subst (λ rs. Each (IsOf all) (regions_operands rs))
    (sym one) (each_both (IsOf all) (ops_operands fs) [] values tt) in
    let blocks : BlocksObey K h m.root.regions =
    subst (BlocksObey K h) (sym one) (functions_known all h fs names values, tt) in
    (record { name = among.0; names = among.1; operands = held }, each_blocks K h m.root.regions blocks)
