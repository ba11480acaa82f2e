use Rattle.std.proofs.Common.{◌∙◌, sym, ap, subst, []}
use Rattle.xf_eval_values.specs.Given.{given_run, listed_one}
use Rattle.xf_eval_values.specs.Meets.{Meets}
use Rattle.xf_eval_tensors.specs.Sizes.{sizes_in}
use Rattle.xf_eval_tensors.proofs.DenseLemmas.{no_sizes, its_sizes}
use Rattle.xf_eval_tensors.proofs.constant.dense.Goals as goal

pub returns-in-None : goal.returns-in-None
returns-in-None c =
    no_sizes c.args.op c.args.types.now c.args.shape.now c.args.numbers.now c.args.budget.now
    (sym c.in-None.is ∙ c.in_ok-sizes_with.ensures ∙ ap (λ d. sizes_in d []) c.as_slice.ensures)

pub returns-in-Some : goal.returns-in-Some
returns-in-Some c =
    subst (λ o. Meets (given_run c.args.op c.args.types.now 0 o) c.args.budget.now c.dense_of.new.budget
    (listed_one c.dense_of.result))
    (its_sizes c.args.shape.now c.args.numbers.now c.in-Some.sizes
    (sym c.in-Some.is ∙ c.in_ok-sizes_with.ensures ∙ ap (λ d. sizes_in d []) c.as_slice.ensures))
    c.dense_of.ensures
