use Rattle.std.proofs.Common.{◌≤◌, ℕ, List, length, None, sym, ap, ◌∙◌, arith}
use Rattle.std.proofs.lemmas.List.{at_drop_all}
use Rattle.std.specs.Prelude.{if◌then◌else◌}
use Rattle.xf_type.specs.declared.payload_type.PayloadType.{PayloadType}
use Rattle.xf_ir.specs.Tree.{Tree}
use Rattle.xf_verify.specs.Visible.{Definitions, definitions_in, with_definition, without, has_types}
use Rattle.xf_verify.proofs.Defining.{leave_on}
use Rattle.xf_verify.proofs.scope.VisibleValues.leave_all.Goals as goal

pub loop-op-preserved : goal.loop-op-preserved
loop-op-preserved c =
    let ds = definitions_in c.loop-op.self in
    let left : List PayloadType → ℕ → Definitions = (λ ts n. if has_types ts then with_definition n None ds else ds) in
    leave_on c.args.ops.now c.loop-op.op-index c.op-item.result c.op-item.is c.loop-op-test.true (definitions_in
    c.loop-op.self) (definitions_in c.leave.new.self) (without c.args.ops.now (definitions_in c.args.self.now))
    (c.leave.ensures ∙ ap (λ ts. left ts c.op.inside.name.0) c.as_slice.ensures
    ∙ ap (λ (t : Tree). left t.results t.name.0) c.op.view_is)
    c.loop-op.invariant

pub returns : goal.returns
returns c =
    let le : length c.args.ops.now ≤ c.loop-op.op-index = omega (arith, c.loop-op-test.false) in
    sym (at_drop_all (λ ts. without ts (definitions_in c.loop-op.self)) c.args.ops.now c.loop-op.op-index le)
    ∙ c.loop-op.invariant
