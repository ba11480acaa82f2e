use Rattle.xf_arena_bed.specs.Live.{name_of, names_of}
use Rattle.xf_arena_bed.proofs.MoveWalk.{place_out, move_is}
use Rattle.xf_arena_bed.proofs.bed.Bed.move_op.Goals as goal

pub relink-requires-clause-place : goal.relink-requires-clause-place
relink-requires-clause-place c =
    place_out (name_of c.parent_at-parent.result) (name_of c.args.id) c.args.to.region c.args.to.at
    (names_of c.sibling_beside-sibling.result) c.args.self.now.root c.requires.low
    c.sibling_beside-sibling.ensures.place

pub returns-clause-root : goal.returns-clause-root
returns-clause-root c =
    let f = c.parent_at-parent.ensures.found in
    move_is c.args.self.now.root (name_of c.args.id) (name_of c.parent_at-parent.result) c.args.to f.0
    c.relink.new.self.root c.parent_at-parent.ensures.names c.requires.low f.1 c.parent_at-parent.ensures.name
    (c.relink.ensures.root f.0 f.1)
