use Rattle.xf_host.proofs.MemoryLemmas.{reads_at_most, reads_prefix, read_fails_by_count, read_keeps_count}
use Rattle.xf_host.proofs.memory.MemFilesFiles.TheImpl.Goals as goal

pub read-tells : goal.read-tells
read-tells c = record {
  ok = c.ensures.ok;
  err = reads_prefix c.result _ _ _ c.ensures.err;
  bounded = reads_at_most c.result _ _ _ _ c.ensures.present c.ensures.ok c.ensures.err;
  told = c.ensures.told;
  failed = read_fails_by_count c.result _ _ c.ensures.faults;
  memory = read_keeps_count c.result _ _ c.ensures.faults;
  grows = c.ensures.grows;
  others = c.ensures.others;
}
