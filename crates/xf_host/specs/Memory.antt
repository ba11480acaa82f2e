use Rattle.std.specs.Prelude.{ℕ, List, Option, Result, Ok, Err, Contains}
use Rattle.std.specs.Option.{option_map}
use Rattle.std.specs.Ordering.{nat_cmp}
use Rattle.std.specs.BTreeMap.{get, get_by_text}
use Rattle.xf_host.specs.Count.{count_at, one_more}
use Rattle.xf_host.specs.declared.files.FileFail.{FileFail}
use Rattle.xf_host.specs.declared.files.FileFail.TheVariants as file
use Rattle.xf_host.specs.declared.memory.MemFiles.{MemFiles}
use Rattle.xf_host.specs.declared.memory.MemSink.{MemSink}
use Rattle.xf_host.specs.declared.sink.SinkFail.{SinkFail}
use Rattle.xf_host.specs.declared.sink.SinkFail.TheVariants as stream

-- ---- files in memory

-- the bytes of the file at a path
abbrev pub file_at : MemFiles → List ℕ → Option (List ℕ)
file_at files path = option_map (λ v. v.items) (get_by_text files.files path)

-- how many reads of a path failed
abbrev pub read_faults : MemFiles → List ℕ → ℕ
read_faults files path = count_at files.faults.counts path

-- how many reads were made, which is the number of the next one
abbrev pub reads_made : MemFiles → ℕ
reads_made files = files.calls

-- the numbers of the reads that are to fail
abbrev pub planned_reads : MemFiles → List ℕ
planned_reads files = files.planned.items

-- the next read is to fail
abbrev pub IsPlannedRead : MemFiles → Type 0
IsPlannedRead files = Contains (planned_reads files) (reads_made files)

-- the count of reads after one: what memory stopped is not counted
abbrev pub reads_after : {T : Type 0} → Result T FileFail → ℕ → ℕ
reads_after (Ok _) n = one_more n
reads_after (Err file.Failed) n = one_more n
reads_after (Err file.NoMemory) n = n

-- the count of a path's faults after a read of it
abbrev pub read_faults_after : {T : Type 0} → Result T FileFail → ℕ → ℕ
read_faults_after (Ok _) n = n
read_faults_after (Err file.Failed) n = one_more n
read_faults_after (Err file.NoMemory) n = n

-- ---- a sink in memory

-- the bytes that were taken
abbrev pub taken_bytes : MemSink → List ℕ
taken_bytes sink = sink.bytes.items

-- how many writes failed
abbrev pub write_faults : MemSink → ℕ
write_faults sink = sink.faults

-- how many writes were made, which is the number of the next one
abbrev pub writes_made : MemSink → ℕ
writes_made sink = sink.calls

-- how many bytes the write of this number takes before it fails, if it is to fail
abbrev pub planned_write : MemSink → ℕ → Option ℕ
planned_write sink call = get nat_cmp sink.planned call

-- the count of writes after one: what memory stopped is not counted
abbrev pub writes_after : {T : Type 0} → Result T SinkFail → ℕ → ℕ
writes_after (Ok _) n = one_more n
writes_after (Err stream.Failed) n = one_more n
writes_after (Err stream.NoMemory) n = n

-- the count of faults after a write
abbrev pub write_faults_after : {T : Type 0} → Result T SinkFail → ℕ → ℕ
write_faults_after (Ok _) n = n
write_faults_after (Err stream.Failed) n = one_more n
write_faults_after (Err stream.NoMemory) n = n
