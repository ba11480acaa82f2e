use Rattle.std.proofs.Common.{◌≡◌, Some, Ok, sym, subst, ◌∙◌}
use Rattle.xf_format.specs.Actions.{free}
use Rattle.xf_read_base.specs.Spelt.{head_spelt}
use Rattle.xf_read_base.proofs.Told.{told}
use Rattle.xf_read_base.proofs.spelt.head.Goals as goal

pub returns-in_ok-head_of-in-Ok-clause-answers : goal.returns-in_ok-head_of-in-Ok-clause-answers
returns-in_ok-head_of-in-Ok-clause-answers c =
    let p = c.in-Ok.parts in
    let h = c.in_ok-head_of-in-Ok.field-0 in
    subst (λ ts. head_spelt ts c.args.at ≡ Ok (Some h)) c.as_slice-tokens.ensures
    (told c.as_slice-tokens.result.now c.args.at ((p.row, free p), c.in-Ok.next) h
    (sym c.is_other.ensures ∙ c.if-is_other.false) c.in-Ok.ensures.gives c.in_ok-head_of-in-Ok.ensures)
