use Rattle.xf_shape.proofs.Again.{shapes_are_read_again, shapes_stay, shapes_are_ascii}
use Rattle.xf_shape.proofs.law.written_shapes_are_read.Goals as goal

pub returns-clause-again : goal.returns-clause-again
returns-clause-again c = shapes_are_read_again

pub returns-clause-stays : goal.returns-clause-stays
returns-clause-stays c = shapes_stay

pub returns-clause-ascii : goal.returns-clause-ascii
returns-clause-ascii c = shapes_are_ascii
