use Rattle.std.proofs.Common.{Some, sym, ap, ◌∙◌}
use Rattle.xf_ir.specs.Spots.{tree_locate}
use Rattle.xf_ir.proofs.SpotLemmas.{both_found, no_tree, spot_none, located_tree}
use Rattle.xf_ir.proofs.spot.locate.Goals.{in_default-via-in-Some+in_default, in_default-via-in_default}
use Rattle.xf_ir.proofs.spot.locate.Goals as goal

pub returns-in_ok-copy-in-Some-Some : goal.returns-in_ok-copy-in-Some-Some
returns-in_ok-copy-in-Some-Some c =
    let op = c.args.op.now in
    let tree = located_tree c.args.name op.name 0 op.regions ∙ sym c.in-Some-Some.ensures'
    ∙ ap Some (sym c.in_ok-copy-in-Some-Some.ensures) in
    both_found (tree_locate c.args.name op) c.in-Some-Some.spot c.in_ok-copy-in-Some-Some.field-0
    (sym c.in-Some-Some.ensures) tree

pub returns-in_default : goal.returns-in_default
returns-in_default c =
    let op = c.args.op.now in
    elim c.in_default.branch [
      | in_default-via-in-Some+in_default w ↦ sym (no_tree (tree_locate c.args.name op)
          (located_tree c.args.name op.name 0 op.regions ∙ sym w.in_default.ensures'))
      | in_default-via-in_default w ↦
          sym (spot_none (tree_locate c.args.name op) (sym c.spot_of.ensures ∙ w.in_default.is-0))
    ]
