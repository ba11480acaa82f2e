use Rattle.xf_args.proofs.ListLemmas.{lists_of, lists_none}
use Rattle.xf_args.proofs.list.arguments.Goals as goal

pub returns-in-Ok : goal.returns-in-Ok
returns-in-Ok c =
    lists_of c.args.text.now c.in-Ok.tokens c.as_slice.result.now c.arguments_at.result c.in-Ok.ensures.found
    c.as_slice.ensures c.arguments_at.ensures

pub returns-in-Err-At : goal.returns-in-Err-At
returns-in-Err-At c =
    lists_none c.args.text.now c.in-Err-At.field-0 c.in-Err-At.field-0-0 c.in-Err-At.field-0-is
    c.in-Err-At.ensures.fault
