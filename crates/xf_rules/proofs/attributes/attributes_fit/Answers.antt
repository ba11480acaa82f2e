use Rattle.std.proofs.Common.{◌≡◌, true, false, sym, ◌∙◌}
use Rattle.xf_ir.specs.Lists.{every}
use Rattle.xf_rules.specs.Attributes.{attribute_fits}
use Rattle.xf_rules.proofs.Ascending.{fit_by_neighbours}
use Rattle.xf_rules.proofs.attributes.attributes_fit.Goals as goal

pub returns-then-each_fits : goal.returns-then-each_fits
returns-then-each_fits c =
    let e : every attribute_fits c.args.attrs.now ≡ true = sym c.each_fits.ensures ∙ c.if-each_fits.true in
    c.names_ascend.ensures ∙ (rw e at (fit_by_neighbours c.args.attrs.now))

pub returns-else-each_fits : goal.returns-else-each_fits
returns-else-each_fits c =
    let e : every attribute_fits c.args.attrs.now ≡ false = sym c.each_fits.ensures ∙ c.if-each_fits.false in
    c.if-each_fits.false ∙ (rw e at (fit_by_neighbours c.args.attrs.now))
