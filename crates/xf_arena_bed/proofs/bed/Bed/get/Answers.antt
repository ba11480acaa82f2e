use Rattle.std.proofs.Common.{◌∙◌, ap, arith}
use Rattle.std.specs.Prelude.{option_map}
use Rattle.xf_arena_bed.specs.Live.{name_of}
use Rattle.xf_arena_bed.specs.Finds.{shown_tree}
use Rattle.xf_arena_bed.proofs.FindLemmas.{get_shows}
use Rattle.xf_arena_bed.proofs.KidRows.{find_is}
use Rattle.xf_arena_bed.proofs.bed.Bed.get.Goals as goal

pub returns-then-node-id-clause-shown : goal.returns-then-node-id-clause-shown
returns-then-node-id-clause-shown c =
    (get_shows c.self.inside c.args.self.now c.args.id.slot c.args.id.serial c.index.result.now c.in-Some.node
    c.self.invariant c.self.view_is (omega arith) c.index.ensures c.in-Some.is c.if-node-id.true).1
    ∙ ap (option_map shown_tree) (find_is (name_of c.args.id) c.args.self.now.root)
