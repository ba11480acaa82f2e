use Rattle.std.proofs.Common.{◌≡◌, ◌≤◌, ◌+◌, ◌∷◌, ◌++◌, [], length, take, drop, sym, ap, ◌∙◌, arith}
use Rattle.std.proofs.lemmas.List.{length-append, take-append-le}
use Rattle.xf_read.specs.Visible.{names_in, before}
use Rattle.xf_read.proofs.Scoping.{one_back}
use Rattle.xf_read.proofs.scope.VisibleNames.leave.Goals as goal

pub changes-preserved : goal.changes-preserved
changes-preserved c =
    let old = c.changes.self.changes.items in
    let new = c.put_back.new.self.changes.items in
    let change = c.in-Some.change in
    let parted : old ≡ new ++ change ∷ [] = c.in-Some.ensures.items
    ∙ ap (λ v. v.items ++ change ∷ []) (sym c.in_ok-put_back-in-Some.ensures.changes) in
    let long : length old ≡ length new + 1 = ap length parted ∙ length-append new (change ∷ []) in
    let le : c.args.height ≤ length new = omega (arith, c.changes-test.true, c.len.ensures) in
    record {
      longer = le;
      names = one_back c.args.height new old change (names_in c.changes.self) (names_in c.put_back.new.self)
          (before (drop c.args.height c.args.self.now.changes.items) (names_in c.args.self.now)) parted le
          c.in_ok-put_back-in-Some.ensures.names c.changes.invariant.names;
      changes = sym (take-append-le c.args.height new (change ∷ []) le) ∙ ap (take c.args.height) (sym parted)
          ∙ c.changes.invariant.changes;
    }
