use Rattle.xf_sem.proofs.Points.{reductions_are_free, parallels_are_free, any_order_gives, fold_gives, one_point_gives}
use Rattle.xf_sem.proofs.Points.{indices_have_points}
use Rattle.xf_sem.proofs.laws.results_are_over_sets.Goals as goal

pub returns-clause-reductions : goal.returns-clause-reductions
returns-clause-reductions c = reductions_are_free

pub returns-clause-parallels : goal.returns-clause-parallels
returns-clause-parallels c = parallels_are_free

pub returns-clause-any_order : goal.returns-clause-any_order
returns-clause-any_order c = any_order_gives

pub returns-clause-fold : goal.returns-clause-fold
returns-clause-fold c = fold_gives

pub returns-clause-one_point : goal.returns-clause-one_point
returns-clause-one_point c = one_point_gives

pub returns-clause-has_point : goal.returns-clause-has_point
returns-clause-has_point c = indices_have_points
