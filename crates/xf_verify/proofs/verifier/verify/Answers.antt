use Rattle.std.proofs.Common.{◌≡◌, true, refl, sym, subst, ◌∙◌}
use Rattle.std.specs.FinSet as set
use Rattle.xf_ir.specs.Valid.{IsValid}
use Rattle.xf_ir.specs.Violations.{holds_functions, first_violation}
use Rattle.xf_verify.specs.declared.facts.Facts.{Facts}
use Rattle.xf_verify.specs.Judged.{Answers}
use Rattle.xf_verify.proofs.Standing.{IsOf, walk_finds}
use Rattle.xf_verify.proofs.Walking.{ok_is}
use Rattle.xf_verify.proofs.verifier.verify.Goals as goal

pub returns-clause-valid : goal.returns-clause-valid
returns-clause-valid c =
    let m = c.args.m.now in
    let f : Facts = record { next = m.next; calls = c.in_ok-new.field-0 } in
    let o : IsOf m f =
    record { next = refl; signatures_are = c.in_ok-new.ensures.signatures; ends_are = c.in_ok-new.ensures.ends } in
    let holds : holds_functions m ≡ true = sym c.in_ok-holds_functions.ensures ∙ c.if-not-branch.false in
    ok_is c.walk_from_root.result
    (first_violation m) (IsValid m) (subst (Answers {A = Unit {0}} c.walk_from_root.result)
    (walk_finds m f o holds set.empty refl) c.walk_from_root.ensures) (c.valid_has_no_violation.ensures m).1

pub returns-clause-first : goal.returns-clause-first
returns-clause-first c =
    let m = c.args.m.now in
    let f : Facts = record { next = m.next; calls = c.in_ok-new.field-0 } in
    let o : IsOf m f =
    record { next = refl; signatures_are = c.in_ok-new.ensures.signatures; ends_are = c.in_ok-new.ensures.ends } in
    let holds : holds_functions m ≡ true = sym c.in_ok-holds_functions.ensures ∙ c.if-not-branch.false in
    subst (Answers {A = Unit {0}} c.walk_from_root.result)
    (walk_finds m f o holds set.empty refl) c.walk_from_root.ensures
