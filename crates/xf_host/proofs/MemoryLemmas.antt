use Rattle.std.proofs.Common.{◌≡◌, ◌≤◌, ℕ, List, [], ◌++◌, Option, Some, None, Result, Ok, Err, OnOk, OnErr, IsSome}
use Rattle.std.proofs.Common.{IfSome, IsErrOf, IsSomeAnd, take, refl, sym, ap, ◌∙◌, append-nil, arith}
use Rattle.std.proofs.lemmas.Grind.{common_steps}
use Rattle.xf_host.proofs.WriteLemmas.{prefix_nothing, gains_taken}
use Rattle.xf_host.specs.Count.{HasRisen}
use Rattle.xf_host.specs.Memory.{read_faults_after, write_faults_after}
use Rattle.xf_host.specs.Reads.{AppendsAtMost, AppendsPrefix}
use Rattle.xf_host.specs.Writes.{WritesText, FailsByCount}
use Rattle.xf_host.specs.declared.files.FileFail.{FileFail}
use Rattle.xf_host.specs.declared.files.FileFail.TheVariants as file
use Rattle.xf_host.specs.declared.sink.SinkFail.{SinkFail}
use Rattle.xf_host.specs.declared.sink.SinkFail.TheVariants as stream

module _ {T : Type 0} where
  -- a read of a file that is there, or of nothing, appends at most max bytes
  pub reads_at_most : (r : Result T FileFail) (bytes : Option (List ℕ)) (max : ℕ) (old new : List ℕ)
      → OnOk r (IsSome bytes) → OnOk r (IfSome bytes (λ b. new ≡ old ++ take max b)) → OnErr r (new ≡ old)
      → AppendsAtMost max old new
  reads_at_most (Ok x) None max old new there is same = cc
  reads_at_most (Ok x) (Some b) max old new there is same =
      record { text = take max b; fits = grind (arith, common_steps); is = is }
  reads_at_most (Err e) bytes max old new there is same =
      record { text = []; fits = omega arith; is = same ∙ sym (append-nil old) }

  -- what appends nothing appends a prefix
  pub reads_prefix : (r : Result T FileFail) (bytes : Option (List ℕ)) (old new : List ℕ) → OnErr r (new ≡ old)
      → OnErr r (IfSome bytes (λ b. AppendsPrefix b old new))
  reads_prefix (Ok x) bytes old new same = tt
  reads_prefix (Err e) None old new same = tt
  reads_prefix (Err e) (Some b) old new same = (0, same ∙ sym (append-nil old))

  -- the count of a path rose where a read failed
  pub read_fails_by_count : (r : Result T FileFail) (old new : ℕ) → new ≡ read_faults_after r old
      → IsErrOf r file.Failed → HasRisen old new
  read_fails_by_count (Ok x) old new is failed = cc
  read_fails_by_count (Err file.Failed) old new is failed = grind (arith, common_steps)
  read_fails_by_count (Err file.NoMemory) old new is failed = cc

  -- the count of a path stays where memory was refused
  pub read_keeps_count : (r : Result T FileFail) (old new : ℕ) → new ≡ read_faults_after r old
      → IsErrOf r file.NoMemory → new ≡ old
  read_keeps_count (Ok x) old new is refused = cc
  read_keeps_count (Err file.Failed) old new is refused = cc
  read_keeps_count (Err file.NoMemory) old new is refused = is

  -- a write that takes the planned bytes where it fails writes a prefix
  pub writes_text : (r : Result T SinkFail) (planned : Option ℕ) (old new piece : List ℕ) → OnOk r (new ≡ old ++ piece)
      → (IsErrOf r stream.NoMemory → new ≡ old)
      → (IsErrOf r stream.Failed → IsSomeAnd planned (λ kept. new ≡ old ++ take kept piece))
      → WritesText r piece (Some old) (Some new)
  writes_text (Ok x) planned old new piece ok memory failed = ap Some ok
  writes_text (Err stream.Failed) None old new piece ok memory failed = absurd (failed refl)
  writes_text (Err stream.Failed) (Some kept) old new piece ok memory failed =
      gains_taken old new piece kept (failed refl)
  writes_text (Err stream.NoMemory) planned old new piece ok memory failed =
      rw (memory refl) (prefix_nothing (Some old) piece)

  -- the count rose where a write failed
  pub write_fails_by_count : (r : Result T SinkFail) (old new : ℕ) → new ≡ write_faults_after r old → old ≤ new
      → FailsByCount r old new
  write_fails_by_count (Ok x) old new is grows = (grows, tt)
  write_fails_by_count (Err stream.Failed) old new is grows = (grows, λ failed. grind (arith, common_steps))
  write_fails_by_count (Err stream.NoMemory) old new is grows = (grows, λ failed. cc)

  -- the count stays where memory was refused
  pub write_keeps_count : (r : Result T SinkFail) (old new : ℕ) → new ≡ write_faults_after r old
      → IsErrOf r stream.NoMemory → new ≡ old
  write_keeps_count (Ok x) old new is refused = cc
  write_keeps_count (Err stream.Failed) old new is refused = cc
  write_keeps_count (Err stream.NoMemory) old new is refused = is
