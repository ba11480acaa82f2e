-- A module under other names of operations keeps the meaning.
use Rattle.std.proofs.Common.{◌≡◌, ℕ, suc, ◌+◌, ◌<◌, List, [], ◌∷◌, length, Option, Some, None, Bool, true, false}
use Rattle.std.proofs.Common.{◌==◌}
use Rattle.std.proofs.Common.{◌&&◌, refl, ap, sym, subst, ◌∙◌, arith, eq-eqb}
use Rattle.std.proofs.lemmas.Bool.{eqb-true}
use Rattle.std.specs.Prelude.{if◌then◌else◌}
use Rattle.xf_ir.specs.declared.name.OpName.{OpName}
use Rattle.xf_ir.specs.declared.name.ValueName.TheVariants.{Result, Arg, Free}
use Rattle.xf_ir.specs.declared.op.Module.{Module}
use Rattle.xf_ir.specs.Lists.{Each}
use Rattle.xf_ir.specs.Tree.{Ops, no_ops, op, Regions, no_regions, region}
use Rattle.xf_ir.specs.Places.{below, results_of, args_of, FunctionsScoped}
use Rattle.xf_ir.specs.Valid.{IsValid, functions_of, block_of}
use Rattle.xf_ir.specs.Renamed.{value_renamed, ops_renamed, regions_renamed, IsRenamed}
use Rattle.xf_ir.specs.Walk.{tree_names}
use Rattle.xf_ir.proofs.Lists.{each_map}
use Rattle.xf_ir_laws.proofs.RenamedValid.{renaming_keeps_valid}
use Rattle.xf_ir_laws.proofs.Scopes.{scoped}
use Rattle.xf_sem.specs.Copying.{Follows, OpsCopy, RegionsCopy, FunctionsCopy}
use Rattle.xf_sem.specs.Laws.{RenamingKeeps}
use Rattle.xf_sem.proofs.Copying.{copying_keeps}

same_name : (o n : OpName) → (o.0 == n.0) ≡ true → o ≡ n
same_name o n h = ap (λ z. let r : OpName = record { 0 = z } in r) (eqb-true o.0 n.0 h)

own_name : (f : OpName → OpName) (o n : OpName) → (o.0 == n.0) ≡ true → ((f o).0 == (f n).0) ≡ true
own_name f o n h = eq-eqb (f o).0 (f n).0 (ap (λ z. (f z).0) (same_name o n h))

some_if : (b b' : Bool) (o : Option ℕ) (i : ℕ) → (b ≡ true → b' ≡ true) → (if b then o else None) ≡ Some i
    → (if b' then o else None) ≡ Some i
some_if true b' o i h e = let t = h refl in rw t e
some_if false b' o i h e = cc

both : (b c b' : Bool) → (b ≡ true → b' ≡ true) → (b && c) ≡ true → (b' && c) ≡ true
both true c b' h e = let t = h refl in rw t e
both false c b' h e = cc

pub results_follow : (f : OpName → OpName) (n : OpName) (count : ℕ)
    → Follows (value_renamed f) (results_of n count) (results_of (f n) count)
results_follow f n count (Result o num) i e =
    some_if (o.0 == n.0) ((f o).0 == (f n).0) (below num count) i (own_name f o n) e
results_follow f n count (Arg o r num) i e = cc
results_follow f n count (Free num) i e = cc

pub args_follow : (f : OpName → OpName) (n : OpName) (number count : ℕ)
    → Follows (value_renamed f) (args_of n number count) (args_of (f n) number count)
args_follow f n number count (Result o num) i e = cc
args_follow f n number count (Arg o r num) i e =
    some_if ((o.0 == n.0) && (r == number)) (((f o).0 == (f n).0) && (r == number)) (below num count) i
    (both (o.0 == n.0) (r == number) ((f o).0 == (f n).0) (own_name f o n)) e
args_follow f n number count (Free num) i e = cc

mutual
  ops_copy : (f : OpName → OpName) (ops : Ops) → OpsCopy (value_renamed f) ops (ops_renamed f ops)
  ops_copy f no_ops = tt
  ops_copy f (op n k ds os ts rs rest) =
      ((refl, refl), (refl, (results_follow f n (length ts), (regions_copy f n 0 rs, ops_copy f rest))))

  regions_copy : (f : OpName → OpName) (n : OpName) (i : ℕ) (rs : Regions)
      → RegionsCopy (value_renamed f) n (f n) i rs (regions_renamed f rs)
  regions_copy f n i no_regions = tt
  regions_copy f n i (region args ops rest) =
      (refl, (args_follow f n i (length args), (ops_copy f ops, regions_copy f n (suc i) rest)))

functions_copy : (f : OpName → OpName) (fs : Ops) → FunctionsCopy (value_renamed f) fs (ops_renamed f fs)
functions_copy f no_ops = tt
functions_copy f (op n k ds os ts rs rest) = (refl, (regions_copy f n 0 rs, functions_copy f rest))

pub block_renamed : (f : OpName → OpName) (rs : Regions)
    → block_of (regions_renamed f rs) ≡ ops_renamed f (block_of rs)
block_renamed f no_regions = refl
block_renamed f (region args ops rest) = refl

-- ---- names below a number

abbrev above : List OpName → ℕ
above [] = 0
above (n ∷ ns) = (n.0 + above ns) + 1

all_below : (ns : List OpName) → Each (λ n. n.0 < above ns) ns
all_below [] = tt
all_below (m ∷ ns) = (
  omega arith,
  each_map (λ n. n.0 < above ns) (λ n. n.0 < above (m ∷ ns)) ns (λ n l. omega (arith, l)) (all_below ns),
)

-- with a next name above its own a renamed module is valid, so its values are scoped
pub renamed_scoped : (m m' : Module) → IsValid m → IsRenamed m m' → FunctionsScoped (functions_of m')
renamed_scoped m m' v r =
    let again : Module = record { root = m'.root; next = above (tree_names m'.root) } in
    let same : IsRenamed m again = record { names = r.names; root = r.root; apart = r.apart } in
    scoped again (renaming_keeps_valid m again v same (all_below (tree_names m'.root)))

pub functions_renamed : (m m' : Module) (r : IsRenamed m m') → functions_of m' ≡ ops_renamed r.names (functions_of m)
functions_renamed m m' r = ap (λ t. block_of t.regions) r.root ∙ block_renamed r.names m.root.regions

-- a renamed module keeps the meaning
pub renaming_keeps : RenamingKeeps
renaming_keeps m m' v r =
    copying_keeps m m' (value_renamed r.names) (scoped m v) (renamed_scoped m m' v r)
    (subst (λ fs. FunctionsCopy (value_renamed r.names) (functions_of m) fs) (sym (functions_renamed m m' r))
    (functions_copy r.names (functions_of m)))
