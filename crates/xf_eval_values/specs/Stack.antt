-- What each value holds that the entries of a stack define.
use Rattle.std.specs.Prelude.{ℕ, List, [], ◌∷◌, length, Option, Some, None}
use Rattle.xf_ir.specs.declared.name.OpName.{OpName}
use Rattle.xf_ir.specs.Places.{Numbering, results_of, args_of}
use Rattle.xf_sem.specs.Meaning.{Env, extend, nowhere}
use Rattle.xf_eval_values.specs.declared.stack.Entry.{Entry}

-- the results of an operation, or the arguments of the block of a region
abbrev pub numbering_by : OpName → Option ℕ → ℕ → Numbering
numbering_by n None count = results_of n count
numbering_by n (Some region) count = args_of n region count

abbrev pub numbering : Entry → Numbering
numbering e = numbering_by e.op e.region (length e.values)

abbrev pub env_from : Env → List Entry → Env
env_from env [] = env
env_from env (e ∷ es) = env_from (extend (numbering e) e.values env) es

abbrev pub env_of : List Entry → Env
env_of es = env_from nowhere es
