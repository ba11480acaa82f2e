use Rattle.std.proofs.Common.{append_assoc}
use Rattle.xf_host.proofs.WriteLemmas.{writes_same}
use Rattle.xf_span.proofs.line.write_fault.Goals as goal

pub returns-in-Read-clause-text : goal.returns-in-Read-clause-text
returns-in-Read-clause-text g c =
    writes_same _ _ _ _ _ (rw (
      ← c.in-Read.ensures,
      c.as_bytes.ensures.value,
    ) (simp append_assoc)) c.write_pieces.ensures.text
