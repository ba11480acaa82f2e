-- The functions of a module by their numbers, what each calls, and how deep the calls from each go.
use Rattle.std.specs.Prelude.{ℕ, zero, suc, ◌+◌, List, [], ◌∷◌, map, slice_get, Option, Some, None, Bool, true, false}
use Rattle.std.specs.Prelude.{if◌then◌else◌, unwrap_or}
use Rattle.std.specs.BTreeMap.{BTreeMap, get_by}
use Rattle.std.specs.Cmp.Lexicographic.{slice_cmp}
use Rattle.std.specs.Ordering.{nat_cmp}
use denote.Ref.{Bor}
use Rattle.xf_ir.specs.declared.kind.Kind.{Kind}
use Rattle.xf_ir.specs.Tree.{Tree}
use Rattle.xf_ir.specs.Lists.{every}
use Rattle.xf_ir.specs.Walk.{first_of}
use Rattle.xf_ir.specs.Calls.{has_symbol, Signatures, signature, regions_callees}
use Rattle.xf_verify.specs.declared.calls.CallGraph.{CallGraph}

-- ---- the numbers of functions

-- the number of the function of each symbol
abbrev pub Numbers : Type 0
Numbers = List ℕ → Option ℕ

abbrev pub no_numbers : Numbers
no_numbers s = None

abbrev pub numbers_in : BTreeMap (Bor (List ℕ)) ℕ → Numbers
numbers_in m s = get_by (λ k. slice_cmp nat_cmp s k.now) m

-- with the function of that number, where no earlier one has its symbol
abbrev pub with_number : Kind → ℕ → Numbers → Numbers
with_number k i numbers s = first_of (numbers s) (if has_symbol s k then Some i else None)

-- the first of the functions has this number
abbrev pub number_from : ℕ → List Tree → Numbers
number_from i [] s = None
number_from i (t ∷ ts) s = if has_symbol s t.kind then Some i else number_from (i + 1) ts s

-- the item of a number
abbrev pub pick : {A : Type 0} → List A → Option ℕ → Option A
pick xs None = None
pick xs (Some i) = slice_get xs i

-- ---- calls

abbrev pub number_before : Option ℕ → List ℕ → List ℕ
number_before None more = more
number_before (Some i) more = i ∷ more

-- the numbers of the functions that these symbols name
abbrev pub numbers_called : Numbers → List (List ℕ) → List ℕ
numbers_called numbers [] = []
numbers_called numbers (s ∷ ss) = number_before (numbers s) (numbers_called numbers ss)

-- the functions that a function calls
abbrev pub tree_calls : Numbers → Tree → List ℕ
tree_calls numbers t = numbers_called numbers (regions_callees t.regions)

-- ---- chains of calls

-- whether the chains from a function end, where there is one
abbrev pub ends_at : List Bool → ℕ → Bool
ends_at ends i = unwrap_or (slice_get ends i) true

abbrev pub ends_there : List Bool → Option ℕ → Bool
ends_there ends o = unwrap_or (pick ends o) true

-- whether the chains from each function pass at most so many functions
abbrev pub ends_after : ℕ → List (List ℕ) → List Bool
ends_after zero calls = map (λ c. false) calls
ends_after (suc k) calls = map (every (ends_at (ends_after k calls))) calls

-- ---- what a call asks for

abbrev pub signatures_in : CallGraph → Signatures
signatures_in c s = signature (pick c.functions.now (numbers_in c.numbers s))

abbrev pub ends_in : CallGraph → List ℕ → Bool
ends_in c s = ends_there c.ends.items (numbers_in c.numbers s)
