use Rattle.std.proofs.Common.{arith}
use Rattle.xf_print_base.proofs.Results.{one_type, other_types, single}
use Rattle.xf_print_base.proofs.slots.write_result_types.Goals as goal

pub returns-in-empty : goal.returns-in-empty
returns-in-empty c = rw (other_types _ c.args.types.now (λ q. omega (arith, q))) c.write_listed_results.ensures

pub returns-in-len1 : goal.returns-in-len1
returns-in-len1 c =
    rw (one_type _ c.args.types.now c.of-item.result
    (single c.args.types.now c.of-item.result (omega arith) c.of-item.is)) c.write_result.ensures

pub returns-in-len2-up : goal.returns-in-len2-up
returns-in-len2-up c =
    rw (other_types _ c.args.types.now (λ q. omega (arith, q))) c.write_listed_results-in-len2-up.ensures
