use Rattle.std.proofs.Common.{◌∙◌}
use Rattle.xf_arena_bed.specs.Live.{name_of}
use Rattle.xf_arena_bed.proofs.RestoreFacts.{spot_fits, all_new, names_are, put_is_put}
use Rattle.xf_arena_bed.proofs.bed.Bed.restore.Goals as goal

pub sibling-sibling-requires-clause-range : goal.sibling-sibling-requires-clause-range
sibling-sibling-requires-clause-range c =
    spot_fits c.args.at (name_of c.in-Some.parent) c.args.self.now.root c.in-Some.ensures.name
    c.in-Some.ensures.distinct
    c.requires.spot

pub put_tree-requires-clause-fresh : goal.put_tree-requires-clause-fresh
put_tree-requires-clause-fresh c = all_new c.args.tree c.args.self.now.root c.requires.fresh

pub put_tree-requires-clause-distinct : goal.put_tree-requires-clause-distinct
put_tree-requires-clause-distinct c = names_are c.args.tree c.requires.once

pub returns-clause-root : goal.returns-clause-root
returns-clause-root c =
    c.put_tree.ensures.root
    ∙ put_is_put c.args.at (name_of c.in-Some.parent) c.args.tree c.args.self.now.root c.in-Some.ensures.name
    c.in-Some.ensures.distinct
