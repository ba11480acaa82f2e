-- What an evaluation within a budget answers.
use Rattle.std.specs.Prelude.{◌≡◌, ℕ, ◌+◌, ◌<◌, ◌≤◌, List, Result, Ok, Err}
use Rattle.xf_sem.specs.declared.value.Value.{Value}
use Rattle.xf_sem.specs.Meaning.{Run, gives, fails}
use Rattle.xf_eval_values.specs.declared.stop.Stop.{Stop}
use Rattle.xf_eval_values.specs.declared.stop.Stop.TheVariants.{Undefined, Budget, NoMemory}

-- the values that the run gives, or the operation that is undefined in it, where its units do not pass the budget, and
-- else that they do; what is left of the budget is what the run leaves of it
abbrev pub Meets : Run (List Value) → ℕ → ℕ → Result (List Value) Stop → Type 0
Meets run before after (Ok vs) = (run.answer ≡ gives vs) × (before ≡ run.units + after)
Meets run before after (Err (Undefined n)) = (run.answer ≡ fails n) × (run.units ≤ before)
Meets run before after (Err Budget) = before < run.units
Meets run before after (Err NoMemory) = Unit {0}
