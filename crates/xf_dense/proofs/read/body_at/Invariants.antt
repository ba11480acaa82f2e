use Rattle.std.proofs.Common.{◌≡◌, ◌≤◌, ◌+◌, ◌-◌, ℕ, length}
use Rattle.xf_grammar.specs.Grammar.{scan_at}
use Rattle.xf_dense.specs.Actions.{free}
use Rattle.xf_dense.specs.Machine.{language}
use Rattle.xf_dense.specs.Reading.{body_at, Within}
use Rattle.xf_dense.proofs.read.body_at.Given as goal

-- what is left to read gives what all gives
abbrev pub invariant-scan : goal.invariant-scan
invariant-scan l = record {
  rest : (f : ℕ) × (length l.tokens ≤ f + l.next)
      × (scan_at language f l.tokens l.state (free l.body) l.next ≡ body_at l.fn.tokens l.fn.at);
  begin : l.fn.at ≤ l.next;
  within : Within l.next l.state;
}

abbrev pub decreases-scan : goal.decreases-scan
decreases-scan l = length l.tokens - l.next
