use Rattle.std.proofs.Common.{◌≡◌, ◌∙◌, sym, ap}
use Rattle.xf_ir.specs.Lists.{every}
use Rattle.xf_sem.specs.Values.{fits_width}
use Rattle.xf_eval_values.proofs.Values.{all_fit_says}
use Rattle.xf_eval_values.proofs.admission.admit_made.Goals as goal

pub tensor-requires : goal.tensor-requires
tensor-requires c = (
  c.requires.sizes,
  (
    c.requires.elems,
    all_fit_says c.args.made.width c.args.made.elems
        (ap (every (fits_width c.args.made.width)) (sym c.as_slice.ensures) ∙ sym c.all_fit.ensures ∙ c.if-not-all_fit.false),
  ),
)
