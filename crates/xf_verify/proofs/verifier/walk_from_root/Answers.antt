use Rattle.std.proofs.Common.{◌≡◌, [], ◌∷◌, Err, ap, sym, subst, ◌∙◌}
use Rattle.std.specs.Prelude.{map}
use Rattle.std.specs.FinSet as set
use Rattle.std.proofs.lemmas.Result.{err_from_is_err_and}
use Rattle.xf_ir.specs.declared.kind.Kind.{Kind}
use Rattle.xf_ir.specs.Tree.{no_ops, Tree}
use Rattle.xf_ir.specs.Placed.{Holder, type_at, top, holder_of}
use Rattle.xf_verify.specs.declared.stand.Holder.{Holder as HolderSeen}
use Rattle.xf_verify.specs.declared.facts.Facts.{Facts}
use Rattle.xf_verify.specs.Visible.{types_in, type_among}
use Rattle.xf_verify.specs.Judged.{Answers, Names, Sees, holder_seen, first_behind, stands, blocks_stand, all_stand}
use Rattle.xf_verify.proofs.Defining.{nothing_seen}
use Rattle.xf_verify.proofs.Naming.{Named, none_named}
use Rattle.xf_verify.proofs.Walking.{stops}
use Rattle.xf_verify.proofs.Stepping.{root_judged}
use Rattle.xf_verify.proofs.verifier.walk_from_root.Goals as goal

-- what the empty scope sees from below nothing
at_first : (f : Facts) (h : Holder) (see : Sees) (names : Names) (t : Tree) → h ≡ top
    → see ≡ type_at [] → names ≡ set.empty
    → first_behind f names (all_stand h see t) ≡ first_behind f set.empty (all_stand top (type_at []) t)
at_first f h see names t a b d = ap (λ x. first_behind f names (all_stand x see t)) a
    ∙ ap (λ x. first_behind f names (all_stand top x t)) b ∙ ap (λ x. first_behind f x (all_stand top (type_at []) t)) d

holding : (k : Kind) → k ≡ top.kind → (let h : Holder = record { kind = k; gives = [] } in h) ≡ top
holding k e = ap (λ (x : Kind). let h : Holder = record { kind = x; gives = [] } in h) e

pub returns-in_err-inner : goal.returns-in_err-inner
returns-in_err-inner c =
    let p = err_from_is_err_and c.from_residual.result c.from_residual.ensures.1 in
    let f = c.args.facts.now in
    let h : Holder = record { kind = c.args.nothing.now; gives = [] } in
    let see = types_in c.new-2.result in
    let o = c.args.root.now in
    let a = stops HolderSeen (Unit {0}) f c.new.result (stands h see o no_ops ∷ []) (blocks_stand (holder_of o.kind
    (map see o.operands) o.results) see o.regions) c.in_err-inner.field-0.0 c.in_err-inner.ensures.judged in
    rw (p.1, p.2) (subst (Answers {A = Unit {0}} (Err c.in_err-inner.field-0.0)) (at_first f h see c.new.result o
    (holding c.args.nothing.now c.requires) (ap type_among c.new-2.ensures ∙ nothing_seen) c.new.ensures) a)

pub blocks-requires : goal.blocks-requires
blocks-requires c =
    let names = c.enter.new.walk.names in
    record {
      named =
          subst (λ d. Named d names) (sym (c.in_ok-inner.ensures.scope ∙ c.new-2.ensures)) (none_named names);
    }

pub returns : goal.returns
returns c =
    let f = c.args.facts.now in
    let h : Holder = record { kind = c.args.nothing.now; gives = [] } in
    let see = types_in c.new-2.result in
    let o = c.args.root.now in
    let e = c.in_ok-inner.ensures in
    let w = c.enter.new.walk in
    let judged = root_judged f h (holder_seen c.in_ok-inner.inner) see
    (types_in w.scope) o no_ops c.new.result w.names e.holder (ap type_among e.scope) e.names e.judged in
    let first = at_first f h see c.new.result o (holding c.args.nothing.now c.requires) (ap type_among c.new-2.ensures
    ∙ nothing_seen) c.new.ensures in
    subst (Answers {A = Unit {0}} c.blocks-2.result) (sym judged ∙ first) c.blocks-2.ensures
