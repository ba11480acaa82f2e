use Rattle.std.proofs.Common.{◌∙◌, ap, arith, length}
use Rattle.std.specs.Prelude.{Some}
use Rattle.std.proofs.lemmas.List.{length-set}
use Rattle.xf_ir.specs.Changes.{tree_attributed}
use Rattle.xf_ir.specs.Count.{tree_count}
use Rattle.xf_arena_bed.specs.Value.{Layout}
use Rattle.xf_arena_bed.specs.Live.{name_of}
use Rattle.xf_arena_bed.proofs.CloseLemmas.{closed, rebuilt_is}
use Rattle.xf_arena_bed.proofs.SpotLemmas.{stands}
use Rattle.xf_arena_bed.proofs.FieldLemmas.{field_of, field_attrs, holds_set, count_set, free_ok_set, indexed_set}
use Rattle.xf_arena_bed.proofs.FieldLemmas.{seats_set}
use Rattle.xf_arena_bed.proofs.bed.Bed.exchange_attrs.Goals as goal

pub invariant_of-self : goal.invariant_of-self
invariant_of-self c =
    let a = c.self.inside in
    let i = c.self.invariant in
    let v = c.args.self.now in
    let o = name_of c.args.id in
    let s = stands a v c.args.id i c.self.view_is c.requires in
    let f = field_of a v c.args.id c.exchange.new.nodes.items c.args.attrs i c.self.view_is c.requires
    c.exchange.ensures.new
    in
    let h = holds_set _ _ a.links a.root v.root c.args.id.slot o f.0 c.args.attrs f.1 s.holds in
    let count = count_set o c.args.attrs v.root in
    let was = ap (λ (m : Layout). tree_count m.root) c.self.view_is in
    let len = ap length f.1.set
    ∙ length-set a.nodes.items c.args.id.slot (Some (record f.0 { attrs = c.args.attrs }))
    in
    closed _ (tree_attributed o (λ ds. c.args.attrs) v.root) h (omega (arith, count, was, i.count))
    (free_ok_set _ _ a.links _ _ c.args.id.slot o f.0 c.args.attrs f.1 i.free) (omega (arith, len, i.room))
    (omega (arith, len, i.few)) (indexed_set _ _ _ c.args.id.slot o f.0 c.args.attrs f.1 i.indexed)

pub returns-clause-root : goal.returns-clause-root
returns-clause-root c =
    let a = c.self.inside in
    let i = c.self.invariant in
    let v = c.args.self.now in
    let o = name_of c.args.id in
    let s = stands a v c.args.id i c.self.view_is c.requires in
    let f = field_of a v c.args.id c.exchange.new.nodes.items c.args.attrs i c.self.view_is c.requires
    c.exchange.ensures.new
    in
    let h = holds_set _ _ a.links a.root v.root c.args.id.slot o f.0 c.args.attrs f.1 s.holds in
    let count = count_set o c.args.attrs v.root in
    let was = ap (λ (m : Layout). tree_count m.root) c.self.view_is in
    rebuilt_is _ _ _ _ _ h (omega (arith, count, was, i.count))

pub returns-clause-seats : goal.returns-clause-seats
returns-clause-seats c =
    let a = c.self.inside in
    let f = field_of a c.args.self.now c.args.id c.exchange.new.nodes.items c.args.attrs c.self.invariant c.self.view_is
    c.requires c.exchange.ensures.new
    in
    seats_set _ _ c.args.id.slot (name_of c.args.id) f.0 c.args.attrs f.1
    ∙ ap (λ (m : Layout). m.seats) c.self.view_is

pub returns-clause-old : goal.returns-clause-old
returns-clause-old c = λ t e.
    field_attrs c.self.inside c.args.self.now c.args.id c.exchange.result t c.self.invariant c.self.view_is c.requires
    c.exchange.ensures.old e
