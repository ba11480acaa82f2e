use Rattle.std.proofs.Common.{◌≡◌, ◌+◌, ◌≤◌, ◌<◌, get_or, List, [], ◌∷◌, Err, None, length, drop, sym, ap, subst}
use Rattle.std.proofs.Common.{◌∙◌, arith}
use Rattle.std.specs.Prelude.{map, if◌then◌else◌}
use Rattle.std.specs.FinSet as set
use Rattle.std.proofs.lemmas.List.{at_drop_all, take_all}
use Rattle.std.proofs.lemmas.Result.{err_from_is_err_and}
use Rattle.xf_ir.specs.Tree.{Tree, Body}
use Rattle.xf_ir.specs.Placed.{holder_of}
use Rattle.xf_ir.specs.View.{ops_of, regions_of, tree_size, body_size, ops_size, regions_size}
use Rattle.xf_verify.specs.declared.stand.Holder.{Holder}
use Rattle.xf_verify.specs.declared.scope.Definition.TheVariants.{Results, Arguments}
use Rattle.xf_verify.specs.Visible.{Definitions, definitions_in, types_in, type_among, with_definition, without}
use Rattle.xf_verify.specs.Visible.{has_types, definition_of}
use Rattle.xf_verify.specs.Judged.{Answers, Judged, holder_seen, first_behind, names_behind, stands, tree_stands}
use Rattle.xf_verify.specs.Judged.{ops_stand, regions_stand}
use Rattle.xf_ir.proofs.EraseLemmas.{size_at, body_size_at}
use Rattle.xf_verify.proofs.Defining.{entered_left}
use Rattle.xf_verify.proofs.Naming.{Named, own_inserted, named_kept, new_undefined, kept_behind, entered_named}
use Rattle.xf_verify.proofs.Naming.{without_named, left_named}
use Rattle.xf_verify.proofs.Walking.{stops, on_ok}
use Rattle.xf_verify.proofs.Stepping.{tree_judged, tree_named, own_there, see_results, see_arguments, ops_stop}
use Rattle.xf_verify.proofs.Stepping.{ops_judged, ops_named, scope_on, regions_stop, regions_judged, regions_named}
use Rattle.xf_verify.proofs.walk.+walk.Goals as goal

-- ---- an operation

pub operation-returns-in_err-inner-clause-judged : goal.operation-returns-in_err-inner-clause-judged
operation-returns-in_err-inner-clause-judged t c =
    let p = err_from_is_err_and c.from_residual.result c.from_residual.ensures.1 in
    let see = types_in c.args.walk.now.scope in
    let o = c.args.op.now in
    let h = holder_seen c.args.holder in
    let a = stops Holder (Unit {0}) c.args.facts.now c.args.walk.now.names (stands h see o (ops_of c.args.after.now)
    ∷ []) (regions_stand (holder_of o.kind (map see o.operands) o.results) see o.name 0 o.regions)
    c.in_err-inner.field-0.0 c.in_err-inner.ensures.judged in
    rw (p.1, p.2) a

pub operation-regions-requires : goal.operation-regions-requires
operation-regions-requires t c =
    let olds = definitions_in c.args.walk.now.scope in
    let names = c.args.walk.now.names in
    let n = c.args.op.now.name.0 in
    let e = c.in_ok-inner.ensures in
    let named : Named (definitions_in c.enter.new.walk.scope) c.enter.new.walk.names =
    subst (λ d. Named d c.enter.new.walk.names) (sym e.scope)
    (subst (Named olds) (sym e.names) (named_kept olds names n c.requires.named)) in (
      omega arith,
      (
        record { named = named },
        (
          ap (λ s. set.contains s n) e.names ∙ own_inserted names n,
          ap (λ (d : Definitions). d n) e.scope ∙ new_undefined olds names n c.requires.named e.new,
        ),
      ),
    )

pub operation-returns-clause-judged : goal.operation-returns-clause-judged
operation-returns-clause-judged t c =
    let e = c.in_ok-inner.ensures in
    let h = holder_seen c.args.holder in
    let see = types_in c.args.walk.now.scope in
    let same : types_in c.enter.new.walk.scope ≡ see = ap type_among e.scope in
    subst (Answers {A = Unit {0}} c.regions.result)
    (sym (tree_judged c.args.facts.now h
    (holder_seen c.in_ok-inner.inner) see (types_in c.enter.new.walk.scope) c.args.op.now
    (ops_of c.args.after.now) c.args.walk.now.names c.enter.new.walk.names e.holder same e.names e.judged))
    c.regions.ensures.judged

pub operation-returns-clause-moved : goal.operation-returns-clause-moved
operation-returns-clause-moved t c =
    let e = c.in_ok-inner.ensures in
    let h = holder_seen c.args.holder in
    let see = types_in c.args.walk.now.scope in
    let o = c.args.op.now in
    let w = c.enter.new.walk in
    let inner = holder_seen c.in_ok-inner.inner in
    let same : types_in w.scope ≡ see = ap type_among e.scope in
    on_ok c.regions.result (Judged w c.regions.new.walk (regions_stand inner (types_in w.scope) o.name 0 o.regions))
    (Judged c.args.walk.now c.regions.new.walk (tree_stands h see o (ops_of c.args.after.now)))
    (λ j. record {
      names = j.names ∙ tree_named c.args.facts.now h inner see (types_in w.scope) o
          (ops_of c.args.after.now) c.args.walk.now.names w.names e.holder same e.names;
      scope = j.scope ∙ e.scope;
      named = j.named;
    })
    c.regions.ensures.moved

-- ---- the operations of a block

pub operations-returns-in_err-operation-clause-judged : goal.operations-returns-in_err-operation-clause-judged
operations-returns-in_err-operation-clause-judged t c =
    let p = err_from_is_err_and c.from_residual.result c.from_residual.ensures.1 in
    let w = c.loop-number.walk in
    let see = types_in w.scope in
    let h = holder_seen c.args.holder in
    let judged = subst (λ us. Answers {A = Unit {0}} (Err c.in_err-operation.field-0.0)
    (first_behind c.args.facts.now w.names (tree_stands h see c.index-ops-number.result (ops_of us))))
    c.behind.ensures c.in_err-operation.ensures.judged in
    let a = ops_stop c.args.facts.now h c.args.ops.now
    c.loop-number.number c.index-ops-number.result c.index-ops-number.is c.loop-number-test.true (Unit {0})
    (Unit {0}) see w.names c.in_err-operation.field-0.0 _ c.loop-number.invariant.judged judged in
    rw (p.1, p.2) a

pub operations-operation-requires : goal.operations-operation-requires
operations-operation-requires t c =
    let ts = c.args.ops.now in
    let i = c.loop-number.number in
    let x = c.index-ops-number.result in
    let least : tree_size x < ops_size (ops_of ts) = subst (λ (y : Tree). tree_size y < ops_size (ops_of ts))
    (sym c.index-ops-number.is) (size_at ts i x c.loop-number-test.true) in
    (omega (arith, least), c.loop-number.invariant.named)

pub operations-enter-requires : goal.operations-enter-requires
operations-enter-requires t c =
    let w = c.loop-number.walk in
    let n = c.index-ops-number.result.name.0 in
    let e = c.in_ok-operation.ensures in
    ap (λ (y : Tree). definitions_in c.operation.new.walk.scope y.name.0) c.op.view_is
    ∙ ap (λ (d : Definitions). d n) e.moved.scope
    ∙ new_undefined (definitions_in w.scope) w.names n c.loop-number.invariant.named.named e.new

pub operations-loop-number-preserved : goal.operations-loop-number-preserved
operations-loop-number-preserved t c =
    let f = c.args.facts.now in
    let h = holder_seen c.args.holder in
    let ts = c.args.ops.now in
    let i = c.loop-number.number in
    let x = c.index-ops-number.result in
    let w = c.loop-number.walk in
    let u = c.operation.new.walk in
    let olds = definitions_in w.scope in
    let ds = definitions_in u.scope in
    let news = definitions_in c.enter.new.self in
    let see = types_in w.scope in
    let e = c.in_ok-operation.ensures in
    let inv = c.loop-number.invariant in
    let rest = ops_of (drop (i + 1) ts) in
    let new : olds x.name.0 ≡ None = new_undefined olds w.names x.name.0 inv.named.named e.new in
    let b = c.as_slice-types.result in
    let entered : news ≡ with_definition x.name.0 (definition_of b.now (Results b)) ds = c.in_ok-enter.ensures
    ∙ ap (λ (y : Tree). with_definition y.name.0 (definition_of b.now (Results b)) ds) c.op.view_is in
    let results = c.as_slice-types.ensures ∙ ap (λ (y : Tree). y.results) c.op.view_is in
    let shown = entered ∙ ap (λ ts. with_definition x.name.0 (definition_of ts (Results b)) ds) results in
    let seen = see_results olds ds news x b e.moved.scope results new entered in
    let judged : first_behind f w.names (tree_stands h see x rest) ≡ None =
    ap (λ us. first_behind f w.names (tree_stands h see x (ops_of us))) (sym c.behind.ensures) ∙ e.judged in
    let names : u.names ≡ names_behind w.names (tree_stands h see x rest) = e.moved.names
    ∙ ap (λ us. names_behind w.names (tree_stands h see x (ops_of us))) c.behind.ensures in
    let there = ap (λ s. set.contains s x.name.0) names ∙ own_there w.names h see x rest in
    record {
      judged = ops_judged f h ts i x c.index-ops-number.is c.loop-number-test.true see
          (types_in c.enter.new.self) w.names u.names _ judged names seen inv.judged;
      names = ops_named f h ts i x c.index-ops-number.is c.loop-number-test.true see
          (types_in c.enter.new.self) w.names u.names _ names seen inv.names;
      scope = scope_on f h ts i x c.index-ops-number.is c.loop-number-test.true (Results b)
          olds ds news (definitions_in c.args.walk.now.scope) e.moved.scope new shown inv.scope;
      named = record {
        named = subst (λ d. Named d u.names) (sym entered)
            (entered_named ds u.names x.name.0 (definition_of b.now (Results b)) e.moved.named.named there);
      };
    }

pub operations-returns-clause-moved : goal.operations-returns-clause-moved
operations-returns-clause-moved t c =
    let ts = c.args.ops.now in
    let i = c.loop-number.number in
    let w = c.loop-number.walk in
    let h = holder_seen c.args.holder in
    let inv = c.loop-number.invariant in
    let le : length ts ≤ i = omega (arith, c.loop-number-test.false) in
    record {
      names = sym (at_drop_all (λ xs. names_behind w.names (ops_stand h (types_in w.scope) (ops_of xs))) ts i le)
          ∙ inv.names;
      scope = c.leave_all.ensures ∙ ap (λ xs. without xs (definitions_in w.scope)) (sym (take_all i ts le)) ∙ inv.scope;
      named = record {
        named = subst (λ d. Named d w.names) (sym c.leave_all.ensures)
            (without_named ts (definitions_in w.scope) w.names inv.named.named);
      };
    }

-- ---- the regions of an operation

pub regions-enter-requires : goal.regions-enter-requires
regions-enter-requires t c =
    ap (λ (y : Tree). definitions_in c.loop-number.walk.scope y.name.0) c.op.view_is
    ∙ ap (λ (d : Definitions). d c.args.op.now.name.0) c.loop-number.invariant.scope ∙ c.requires.new

pub regions-operations-requires : goal.regions-operations-requires
regions-operations-requires t c =
    let w = c.loop-number.walk in
    let n = c.args.op.now.name.0 in
    let d = definition_of c.as_slice-types.result.now (Arguments c.loop-number.number c.as_slice-types.result) in
    let inv = c.loop-number.invariant in
    let entered : definitions_in c.enter.new.self ≡ with_definition n d (definitions_in w.scope) = c.in_ok-enter.ensures
    ∙ ap (λ (y : Tree). with_definition y.name.0 d (definitions_in w.scope)) c.op.view_is in
    let bs = c.op.inside.regions.items in
    let b = c.block-item.result in
    let i = c.loop-number.number in
    let is : get_or bs i b ≡ b =
    sym (c.block-item.is ∙ ap (λ (xs : List Body). get_or xs i b) c.deref-block-items.ensures.value) in
    let smaller : body_size b < regions_size (regions_of bs) = subst (λ (x : Body). body_size x < regions_size
    (regions_of bs)) is (body_size_at bs i b (omega (arith, ap length c.deref-block-items.ensures.value))) in
    let ops : ops_size (ops_of c.deref.result.now) ≡ body_size b = ap (λ os. ops_size (ops_of os)) c.deref.ensures.value
    ∙ ap body_size c.block.view_is in
    let whole : regions_size (regions_of bs) ≡ tree_size c.args.op.now = ap tree_size c.op.view_is in (
      omega (arith, smaller, ops, whole),
      record {
        named = subst (λ x. Named x w.names) (sym entered)
            (entered_named (definitions_in w.scope) w.names n d inv.named.named inv.here);
      },
    )

pub regions-returns-in_err-operations-clause-judged : goal.regions-returns-in_err-operations-clause-judged
regions-returns-in_err-operations-clause-judged t c =
    let p = err_from_is_err_and c.from_residual-in_err-operations.result c.from_residual-in_err-operations.ensures.1 in
    let f = c.args.facts.now in
    let h = holder_seen c.args.holder in
    let w = c.loop-number.walk in
    let ds = definitions_in w.scope in
    let n = c.args.op.now.name in
    let i = c.loop-number.number in
    let b = c.block-item.result in
    let d = definition_of c.as_slice-types.result.now (Arguments i c.as_slice-types.result) in
    let inv = c.loop-number.invariant in
    let new : ds n.0 ≡ None = ap (λ (x : Definitions). x n.0) inv.scope ∙ c.requires.new in
    let entered : definitions_in c.enter.new.self ≡ with_definition n.0 d ds = c.in_ok-enter.ensures
    ∙ ap (λ (y : Tree). with_definition y.name.0 d ds) c.op.view_is in
    let args = c.as_slice-types.ensures ∙ ap (λ (x : Body). x.args) c.block.view_is in
    let ops : ops_of c.deref.result.now ≡ b.ops = ap ops_of c.deref.ensures.value
    ∙ ap (λ (x : Body). x.ops) c.block.view_is in
    let seen = see_arguments ds (definitions_in c.enter.new.self) n i b.args c.as_slice-types.result args new entered in
    let a = regions_stop f h n c.deref-block-items.result.now i b c.block-item.is c.loop-number-test.true
    (Unit {0}) (Unit {0}) (types_in w.scope) (types_in c.enter.new.self) (ops_of c.deref.result.now)
    seen ops w.names c.in_err-operations.field-0.0 _ inv.judged c.in_err-operations.ensures.judged in
    rw (p.1, p.2) a

pub regions-loop-number-preserved : goal.regions-loop-number-preserved
regions-loop-number-preserved t c =
    let f = c.args.facts.now in
    let h = holder_seen c.args.holder in
    let w = c.loop-number.walk in
    let u = c.operations.new.walk in
    let ds = definitions_in w.scope in
    let n = c.args.op.now.name in
    let i = c.loop-number.number in
    let bs = c.deref-block-items.result.now in
    let b = c.block-item.result in
    let d = definition_of c.as_slice-types.result.now (Arguments i c.as_slice-types.result) in
    let inv = c.loop-number.invariant in
    let e = c.in_ok-operations.ensures in
    let new : ds n.0 ≡ None = ap (λ (x : Definitions). x n.0) inv.scope ∙ c.requires.new in
    let entered : definitions_in c.enter.new.self ≡ with_definition n.0 d ds = c.in_ok-enter.ensures
    ∙ ap (λ (y : Tree). with_definition y.name.0 d ds) c.op.view_is in
    let args = c.as_slice-types.ensures ∙ ap (λ (x : Body). x.args) c.block.view_is in
    let ops : ops_of c.deref.result.now ≡ b.ops = ap ops_of c.deref.ensures.value
    ∙ ap (λ (x : Body). x.ops) c.block.view_is in
    let seen = see_arguments ds (definitions_in c.enter.new.self) n i b.args c.as_slice-types.result args new entered in
    let any = has_types c.as_slice-types.result.now in
    let left : definitions_in c.leave.new.self
    ≡ (if any then with_definition n.0 None (definitions_in u.scope) else definitions_in u.scope) = c.leave.ensures
    ∙ ap (λ (y : Tree). if any then with_definition y.name.0 None (definitions_in u.scope) else definitions_in u.scope)
    c.op.view_is in
    let back : definitions_in c.leave.new.self ≡ ds = left
    ∙ ap (λ x. if any then with_definition n.0 None x else x) (e.moved.scope ∙ entered)
    ∙ entered_left any n.0 (Arguments i c.as_slice-types.result) ds new in
    let again : types_in c.leave.new.self ≡ types_in w.scope = ap type_among back in
    record {
      judged = regions_judged f h n bs i b c.block-item.is c.loop-number-test.true
          (types_in w.scope) (types_in c.enter.new.self) (types_in c.leave.new.self)
          (ops_of c.deref.result.now) seen ops again w.names u.names _ e.judged e.moved.names inv.judged;
      names = regions_named f h n bs i b c.block-item.is c.loop-number-test.true
          (types_in w.scope) (types_in c.enter.new.self) (types_in c.leave.new.self)
          (ops_of c.deref.result.now) seen ops again w.names u.names _ e.moved.names inv.names;
      scope = back ∙ inv.scope;
      named = record {
        named = subst (λ x. Named x u.names) (sym left)
            (left_named any (definitions_in u.scope) u.names n.0 e.moved.named.named);
      };
      here = ap (λ s. set.contains s n.0) e.moved.names
          ∙ kept_behind w.names (ops_stand h (types_in c.enter.new.self) (ops_of c.deref.result.now)) n.0 inv.here;
    }
