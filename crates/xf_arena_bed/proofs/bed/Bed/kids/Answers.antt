use Rattle.xf_arena_bed.proofs.KidRows.{whole, live_found, kids_are, kids_live, kids_inner, names_distinct}
use Rattle.xf_arena_bed.proofs.bed.Bed.kids.Goals as goal

pub of-requires : goal.of-requires
of-requires c =
    let f = live_found c.self.inside c.args.self.now c.args.id c.self.invariant c.self.view_is c.requires in
    (whole c.self.inside c.args.self.now c.args.id f.0 c.self.invariant c.self.view_is c.requires f.1).left

pub invariant_of-result : goal.invariant_of-result
invariant_of-result c =
    let f = live_found c.self.inside c.args.self.now c.args.id c.self.invariant c.self.view_is c.requires in
    let w = whole c.self.inside c.args.self.now c.args.id f.0 c.self.invariant c.self.view_is c.requires f.1 in
    kids_are _ _ c.args.id.slot _ _ _ _ w c.as_slice.ensures.value c.of.ensures

pub returns-clause-live : goal.returns-clause-live
returns-clause-live c = kids_live c.self.inside c.args.self.now c.as_slice.result.now c.of.result c.self.view_is
    c.as_slice.ensures.value

pub returns-clause-all : goal.returns-clause-all
returns-clause-all c = λ t e.
    kids_inner c.self.inside c.args.self.now c.args.id _ _ t c.self.invariant c.self.view_is c.requires e
    c.as_slice.ensures.value c.of.ensures

pub returns-clause-found : goal.returns-clause-found
returns-clause-found c = live_found c.self.inside c.args.self.now c.args.id c.self.invariant c.self.view_is c.requires

pub returns-clause-names : goal.returns-clause-names
returns-clause-names c = names_distinct c.self.inside c.args.self.now c.self.invariant c.self.view_is
