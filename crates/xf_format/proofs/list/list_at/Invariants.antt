use Rattle.std.proofs.Common.{◌≡◌, ◌≤◌, ◌+◌, ◌-◌, ℕ, length}
use Rattle.xf_grammar.specs.Grammar.{more, read, listed}
use Rattle.xf_format.specs.Actions.{free}
use Rattle.xf_format.specs.Rules.{language, item_rule, by}
use Rattle.xf_format.proofs.list.list_at.Given as goal

-- what is left to read gives what all gives
abbrev pub invariant-list : goal.invariant-list
invariant-list l = record {
  rest : (f : ℕ) × (length l.tokens ≤ f + l.at)
      × (more f l.tokens (read language (length l.tokens) (item_rule l.item) l.tokens) (free l.parts) l.at ≡ by
      (listed (item_rule l.item)) l.tokens l.fn.parts l.fn.at);
  begin : l.fn.at ≤ l.at;
  within : l.at ≤ length l.tokens;
}

abbrev pub decreases-list : goal.decreases-list
decreases-list l = length l.tokens - l.at
