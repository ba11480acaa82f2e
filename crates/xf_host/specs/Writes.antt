use Rattle.std.specs.Prelude.{◌≡◌, ◌≤◌, ℕ, List, ◌++◌, Option, Some, None, Result, MatchResult, IfErr}
use Rattle.xf_host.specs.Count.{HasRisen}
use Rattle.xf_host.specs.declared.sink.SinkFail.{SinkFail}
use Rattle.xf_host.specs.declared.sink.SinkFail.TheVariants.{Failed}

-- what was written, where it is told, gained these bytes at its end
abbrev pub Gains : Option (List ℕ) → List ℕ → Option (List ℕ) → Type 0
Gains None text new = new ≡ None
Gains (Some old) text new = new ≡ Some (old ++ text)

-- what was written, where it is told, gained a prefix of these bytes
pub record GainsPrefix (old : Option (List ℕ)) (text : List ℕ) (new : Option (List ℕ)) : Type 0 where
  pub got : List ℕ
  pub rest : List ℕ
  pub is : text ≡ got ++ rest
  pub gains : Gains old got new

-- a call that is to write this text wrote it, or a prefix of it where the call failed
abbrev pub WritesText : {T : Type 0} → Result T SinkFail → List ℕ → Option (List ℕ) → Option (List ℕ) → Type 0
WritesText result text old new = MatchResult result (λ _. Gains old text new) (λ _. GainsPrefix old text new)

-- the count of faults does not fall, and rose where a write failed
abbrev pub FailsByCount : {T : Type 0} → Result T SinkFail → ℕ → ℕ → Type 0
FailsByCount result old new = (old ≤ new) × IfErr result (λ e. e ≡ Failed → HasRisen old new)
