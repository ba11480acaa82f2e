use Rattle.std.proofs.Common.{◌≡◌, OnOk, ap, subst, ◌∙◌}
use Rattle.std.specs.List.{insert}
use Rattle.xf_ir.specs.Attributes.{names_before}
use Rattle.xf_ir.proofs.AttributeLemmas.{insert_placed}
use Rattle.xf_ir.proofs.attributes.place.Goals as goal

pub returns : goal.returns
returns c =
    let d = c.args.attr in
    let ds = c.args.attrs.now in
    let e : c.names_before-at.result ≡ names_before d.name ds =
    rw (c.as_slice.ensures, c.as_slice-2.ensures) at c.names_before-at.ensures in
    subst (λ xs. OnOk c.insert.result (c.insert.new.self ≡ xs)) (ap (λ i. insert ds i d) e
    ∙ insert_placed d ds) c.insert.ensures.ok
