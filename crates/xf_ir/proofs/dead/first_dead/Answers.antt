use Rattle.std.proofs.Common.{◌≡◌, Option, None, Some, IfSome, IsNone, refl, sym, ap, ◌∙◌}
use Rattle.std.specs.FinSet as set
use Rattle.std.specs.Ordering.{nat_cmp}
use Rattle.xf_ir.specs.declared.name.OpName.{OpName}
use Rattle.xf_ir.specs.declared.op.Module.{Module}
use Rattle.xf_ir.specs.Tree.{Tree}
use Rattle.xf_ir.specs.Walk.{tree_find}
use Rattle.xf_ir.specs.Choices.{scope_of, scope_at, bare, MayErase, IsFirstDead}
use Rattle.xf_ir.specs.Uses.{tree_operands}
use Rattle.xf_ir.specs.Used.{with_uses, goes_unused, regions_first}
use Rattle.xf_ir.proofs.DeadLemmas.{used_of, first_may, first_is, none_may}
use Rattle.xf_ir.proofs.dead.first_dead.Goals as goal

if_some : (o x : Option OpName) (P : OpName → Type 0) → o ≡ x → ((n : OpName) → x ≡ Some n → P n) → IfSome o P
if_some None x P e f = tt
if_some (Some n) x P e f = f n (sym e)

if_none : {A : Type 0} (o : Option A) → IsNone o → o ≡ None
if_none None h = refl
if_none (Some x) h = absurd (cc)

-- the first by the set of the operations that are used is the first of the scope
first_by_set : (m : Module) (target : OpName) (empty used : set.FinSet nat_cmp) (t : Tree) (first : Option OpName)
    → empty ≡ set.empty → used ≡ with_uses empty (tree_operands m.root) → Some t ≡ tree_find target (bare m.root)
    → first ≡ regions_first (goes_unused used) t.regions
    → first ≡ regions_first (goes_unused (used_of m)) (scope_at m target)
first_by_set m target empty used t first new u found is =
    is ∙ ap (λ s. regions_first (goes_unused s) t.regions) (u ∙ ap (λ s. with_uses s (tree_operands m.root)) new)
    ∙ ap (λ (o : Option Tree). regions_first (goes_unused (used_of m)) (scope_of o)) found

pub returns-clause-found : goal.returns-clause-found
returns-clause-found c =
    let m = c.args.m.now in
    let e = first_by_set m c.args.target _ _ (bare c.in-Some.op.now) _
    c.new-used.ensures c.in_ok-add_uses_inside.ensures c.in-Some.ensures c.first_inside.ensures in
    if_some _ _ (λ name. MayErase m c.args.target name) e (first_may m c.args.target c.requires)

pub returns-clause-first : goal.returns-clause-first
returns-clause-first c =
    let m = c.args.m.now in
    let e = first_by_set m c.args.target _ _ (bare c.in-Some.op.now) _
    c.new-used.ensures c.in_ok-add_uses_inside.ensures c.in-Some.ensures c.first_inside.ensures in
    if_some _ _ (λ name. IsFirstDead m c.args.target name) e (first_is m c.args.target c.requires)

pub returns-clause-none : goal.returns-clause-none
returns-clause-none c h =
    let m = c.args.m.now in
    let e = first_by_set m c.args.target _ _ (bare c.in-Some.op.now) _
    c.new-used.ensures c.in_ok-add_uses_inside.ensures c.in-Some.ensures c.first_inside.ensures in
    none_may m c.args.target c.requires (sym e ∙ if_none c.first_inside.result h)
