use Rattle.std.proofs.Common.{◌≡◌, ◌≤◌, ◌+◌, ◌-◌, ℕ, length}
use Rattle.xf_grammar.specs.Grammar.{more, read, listed}
use Rattle.xf_format.specs.Actions.{free}
use Rattle.xf_format.specs.Rules.{language, map_rule, by}
use Rattle.xf_format.proofs.maps.map_list_at.Given as goal

-- what is left to read gives what all gives
abbrev pub invariant-list : goal.invariant-list
invariant-list l = record {
  rest : (f : ℕ) × (length l.tokens ≤ f + l.at)
      × (more f l.tokens (read language (length l.tokens) map_rule l.tokens) (free l.parts) l.at ≡ by
      (listed map_rule) l.tokens l.fn.parts l.fn.at);
  begin : l.fn.at ≤ l.at;
  within : l.at ≤ length l.tokens;
}

abbrev pub decreases-list : goal.decreases-list
decreases-list l = length l.tokens - l.at
