-- Erasing what may be erased leaves a module of the first form.
use Rattle.std.proofs.Common.{◌≡◌, ◌⊎◌, List, Option, Some, None, Bool, true, false, refl, ap, ◌==◌, inl, inr}
use Rattle.std.specs.Prelude.{◌&&◌}
use Rattle.std.proofs.lemmas.Bool.{and_parts, and_from}
use Rattle.xf_type.specs.declared.payload_type.PayloadType.{PayloadType}
use Rattle.xf_ir.specs.declared.name.OpName.{OpName}
use Rattle.xf_ir.specs.declared.kind.Attr.{Attr}
use Rattle.xf_ir.specs.declared.kind.Kind.{Kind}
use Rattle.xf_ir.specs.declared.kind.Kind.TheVariants as kind
use Rattle.xf_ir.specs.declared.edit.Edit.TheVariants.{Erase}
use Rattle.xf_ir.specs.declared.op.Module.{Module}
use Rattle.xf_ir.specs.Lists.{every, is_empty}
use Rattle.xf_ir.specs.RuleBlocks.{is_end}
use Rattle.xf_ir.specs.Tree.{Ops, no_ops, op, Regions, no_regions, region, Tree}
use Rattle.xf_ir.specs.Walk.{regions_find}
use Rattle.xf_ir.specs.Kinds.{is_container}
use Rattle.xf_ir.specs.Edits.{edited, ops_at, regions_at, tail}
use Rattle.xf_ir.specs.Choices.{MayErase}
use Rattle.xf_ir_laws.proofs.ErasedBounds.{short_kept, limits_kept}
use Rattle.xf_ir_laws.proofs.ErasingLaws.{valid_kept}
use Rattle.xf_opt.specs.Form.{is_i32, is_step, are_steps, is_plain_block, has_no_regions, is_one_block, is_plain_head}
use Rattle.xf_opt.specs.Form.{is_plain_function, is_one_function, is_plain_module, holds_one_function, is_first_form}
use Rattle.xf_opt.specs.Form.{IsFirstForm}

true_or_false : (b : Bool) → (b ≡ true) ⊎ (b ≡ false)
true_or_false true = inl refl
true_or_false false = inr refl

-- ---- the block of the function

none_kept : (name : OpName) (rs : Regions) → has_no_regions (regions_at name tail rs) ≡ has_no_regions rs
none_kept name no_regions = refl
none_kept name (region args ops rest) = refl

step_kept : (name : OpName) (k : Kind) (ds : List Attr) (ts : List PayloadType) (rs : Regions)
    → is_step k ds ts (regions_at name tail rs) ≡ is_step k ds ts rs
step_kept name k ds ts no_regions = refl
step_kept name k ds ts (region args ops rest) = refl

steps_kept : (name : OpName) (ops : Ops) → are_steps ops ≡ true → are_steps (ops_at name tail ops) ≡ true
steps_kept name no_ops h = refl
steps_kept name (op n k ds os ts rs rest) h =
    let p = and_parts (is_step k ds ts rs) (are_steps rest) h in
    elim (true_or_false (n.0 == name.0)) [
      | inl e ↦ rw e p.1
      | inr e ↦ rw e (and_from (is_step k ds ts (regions_at name tail rs)) (are_steps (ops_at name tail rest))
          (rw (step_kept name k ds ts rs) p.0) (steps_kept name rest p.1))
    ]

block_kept : (name : OpName) (rs : Regions) → is_one_block rs ≡ true → is_one_block (regions_at name tail rs) ≡ true
block_kept name no_regions h = h
block_kept name (region args ops rest) h =
    let p = and_parts (is_plain_block args ops) (has_no_regions rest) h in
    let q = and_parts (every is_i32 args) (are_steps ops) p.0 in
    let after = ops_at name tail ops in
    and_from (is_plain_block args after) (has_no_regions (regions_at name tail rest))
    (and_from (every is_i32 args) (are_steps after) q.0 (steps_kept name ops q.1))
    (rw (none_kept name rest) p.1)

-- ---- the function, which is not erased

end_kept : (name : OpName) (ops : Ops) → is_end ops ≡ true → is_end (ops_at name tail ops) ≡ true
end_kept name no_ops h = refl
end_kept name (op n k ds os ts rs rest) h = absurd cc

head_is_container : (k : Kind) → is_plain_head k ≡ true → is_container k ≡ true
head_is_container (kind.Func symbol private results) h = refl
head_is_container _ h = absurd cc

kind_or : Kind → Option Tree → Kind
kind_or k None = k
kind_or k (Some t) = t.kind

function_kept : (name : OpName) (k : Kind) (ds : List Attr) (rs : Regions) → is_plain_function k ds rs ≡ true
    → is_plain_function k ds (regions_at name tail rs) ≡ true
function_kept name k ds rs h =
    let p = and_parts (is_plain_head k) (is_empty ds && is_one_block rs) h in
    let q = and_parts (is_empty ds) (is_one_block rs) p.1 in
    and_from (is_plain_head k) _ p.0
    (and_from (is_empty ds) (is_one_block (regions_at name tail rs)) q.0 (block_kept name rs q.1))

functions_kept : (name : OpName) (rs : Regions) (t : Tree) → regions_find name rs ≡ Some t → is_container t.kind ≡ false
    → holds_one_function rs ≡ true → holds_one_function (regions_at name tail rs) ≡ true
unfolding kind_or
functions_kept name no_regions t f i h = h
functions_kept name (region args no_ops more) t f i h =
    absurd (let p = (and_parts (is_empty args && false) (has_no_regions more) h).0 in
    let q = (and_parts (is_empty args) false p).1 in cc)
functions_kept name (region args (op n k ds os ts rs rest) more) t f i h =
    let p = and_parts (is_empty args && is_one_function (op n k ds os ts rs rest)) (has_no_regions more) h in
    let q = and_parts (is_empty args) (is_plain_function k ds rs && is_end rest) p.0 in
    let s = and_parts (is_plain_function k ds rs) (is_end rest) q.1 in
    elim (true_or_false (n.0 == name.0)) [
      | inl e ↦ absurd (
          let found = rw e at f in
          let same : k ≡ t.kind = ap (kind_or k) found in
          let c = head_is_container k (and_parts (is_plain_head k) (is_empty ds && is_one_block rs) s.0).0 in cc)
      | inr e ↦ rw e (
          let one = and_from (is_plain_function k ds (regions_at name tail rs)) (is_end (ops_at name tail rest))
          (function_kept name k ds rs s.0) (end_kept name rest s.1) in
          and_from (is_empty args && (is_plain_function k ds (regions_at name tail rs)
          && is_end (ops_at name tail rest))) (has_no_regions (regions_at name tail more))
          (and_from (is_empty args) (is_plain_function k ds (regions_at name tail rs)
          && is_end (ops_at name tail rest)) q.0 one)
          (rw (none_kept name more) p.1))
    ]

-- ---- the module

shape_kept : (m : Module) (target name : OpName) → IsFirstForm m → MayErase m target name
    → is_first_form (edited m (Erase name)) ≡ true
shape_kept m target name f e =
    let p = and_parts (is_plain_module m.root.kind) (is_empty m.root.attrs
    && holds_one_function m.root.regions) f.shape in
    let q = and_parts (is_empty m.root.attrs) (holds_one_function m.root.regions) p.1 in
    let after = functions_kept name m.root.regions e.tree e.inside e.suits.inner q.1 in
    and_from (is_plain_module m.root.kind) (is_empty m.root.attrs
    && holds_one_function (regions_at name tail m.root.regions)) p.0
    (and_from (is_empty m.root.attrs) (holds_one_function (regions_at name tail m.root.regions)) q.0 after)

pub form_kept : (m : Module) (target name : OpName) → IsFirstForm m → MayErase m target name
    → IsFirstForm (edited m (Erase name))
form_kept m target name f e = record {
  valid = valid_kept m target name f.valid e;
  shape = shape_kept m target name f e;
  lists = short_kept m name f.lists;
  limits = limits_kept m name f.limits;
}
