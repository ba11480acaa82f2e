use Rattle.std.proofs.lemmas.Result.{err_from_is_err_and}
use Rattle.xf_host.proofs.WriteLemmas.{prefix-append, writes-append}
use Rattle.xf_span.proofs.line.write_coded.Goals as goal

pub returns-in_err-write_start-clause-text : goal.returns-in_err-write_start-clause-text
returns-in_err-write_start-clause-text g c =
    let p = err_from_is_err_and c.from_residual.result c.from_residual.ensures.1 in
    rw p.1 (prefix-append _ _ _ _ c.in_err-write_start.ensures.text)

pub returns-clause-text : goal.returns-clause-text
returns-clause-text g c = writes-append _ _ _ _ _ _ c.in_ok-write_start.ensures.text c.write_pieces.ensures.text
