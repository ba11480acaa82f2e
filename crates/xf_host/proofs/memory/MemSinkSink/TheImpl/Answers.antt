use Rattle.std.proofs.Common.{Some, ap}
use Rattle.xf_host.proofs.MemoryLemmas.{writes_text, write_fails_by_count, write_keeps_count}
use Rattle.xf_host.proofs.memory.MemSinkSink.TheImpl.Goals as goal

pub write-tells : goal.write-tells
write-tells c = record {
  text = writes_text c.result _ _ _ _ c.ensures.ok c.ensures.memory c.ensures.failed;
  count = write_fails_by_count c.result _ _ c.ensures.faults c.ensures.grows;
  memory = λ refused. ap Some (c.ensures.memory refused);
  memory_count = write_keeps_count c.result _ _ c.ensures.faults;
}
