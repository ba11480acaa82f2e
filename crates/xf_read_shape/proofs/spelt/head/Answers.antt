use Rattle.std.proofs.Common.{◌≡◌, Some, Ok, sym, ap, subst, ◌∙◌}
use Rattle.xf_format.specs.Actions.{free}
use Rattle.xf_read_base.specs.Spelt.{head_of}
use Rattle.xf_read_base.specs.Structured.{aliases_in}
use Rattle.xf_read_shape.specs.Shaped.{head_spelt}
use Rattle.xf_read_shape.proofs.Told.{told}
use Rattle.xf_read_shape.proofs.spelt.head.Goals as goal

pub returns-in_ok-head_of-in-Ok-clause-answers : goal.returns-in_ok-head_of-in-Ok-clause-answers
returns-in_ok-head_of-in-Ok-clause-answers c =
    let aliases = aliases_in c.args.aliases.now in
    let all = c.as_slice-tokens.result.now in
    let p = c.in-Ok.parts in
    let h = c.in_ok-head_of-in-Ok.field-0 in
    subst (λ ts. head_spelt aliases ts c.args.at ≡ Ok (Some h)) c.as_slice-tokens.ensures
    (told aliases all c.args.at ((p.row, free p), c.in-Ok.next) h
    (sym c.is_other.ensures ∙ c.if-not-is_other.false) c.in-Ok.ensures.gives
    (c.in_ok-head_of-in-Ok.ensures ∙ ap (λ xs. head_of (aliases_in xs) all p c.in-Ok.next) c.as_slice.ensures))
