-- Calls: what a symbol names, and how deep calls go.
use Rattle.std.specs.Prelude.{ℕ, zero, suc, List, [], ◌++◌, Option, Some, None}
use Rattle.std.specs.Prelude.{Bool, true, false, is_none, if◌then◌else◌}
use Rattle.xf_type.specs.declared.payload_type.PayloadType.{PayloadType}
use Rattle.xf_ir.specs.declared.kind.Kind.{Kind}
use Rattle.xf_ir.specs.declared.kind.Kind.TheVariants as kind
use Rattle.xf_ir.specs.declared.op.Module.{Module}
use Rattle.xf_ir.specs.Tree.{Ops, no_ops, op, Regions, no_regions, region, Tree}
use Rattle.xf_ir.specs.Kinds.{symbol_of, callee_of, returned_types}
use Rattle.xf_ir.specs.Lists.{every, is_text, option_passes, item_before}
use Rattle.xf_type.specs.Equal.{same_types}
use Rattle.xf_ir.specs.Placed.{Placed, functions_of}

-- ---- what a symbol names

abbrev pub has_symbol : List ℕ → Kind → Bool
has_symbol s k = is_text s (symbol_of k)

-- the function of a symbol
abbrev pub function_of : List ℕ → Ops → Option Tree
function_of s no_ops = None
function_of s (op n k ds os ts rs rest) =
    if has_symbol s k
    then Some (record { name = n; kind = k; attrs = ds; operands = os; results = ts; regions = rs })
    else function_of s rest

-- the types of a function's arguments and of what it returns (MLIR: FunctionType)
pub record Signature : Type 0 where
  pub inputs : List PayloadType
  pub results : List PayloadType

-- the signature of each symbol that names a function
abbrev pub Signatures : Type 0
Signatures = List ℕ → Option Signature

-- the types of the arguments of the first block
abbrev pub first_args : Regions → List PayloadType
first_args no_regions = []
first_args (region args ops rest) = args

abbrev pub signature : Option Tree → Option Signature
signature None = None
signature (Some t) = Some (record { inputs = first_args t.regions; results = returned_types t.kind })

abbrev pub signatures : Module → Signatures
signatures m s = signature (function_of s (functions_of m))

-- ---- V8: a callee exists, and the results of its call are what it returns; that the operands are its arguments is V6

abbrev pub agrees : Option Signature → List PayloadType → Bool
agrees None ts = false
agrees (Some s) ts = same_types ts s.results

abbrev pub callee_agrees : Signatures → Kind → List PayloadType → Bool
callee_agrees sigs (kind.Call callee) ts = agrees (sigs callee) ts
callee_agrees sigs _ ts = true

abbrev pub has_its_callee : Signatures → Placed → Bool
has_its_callee sigs p = callee_agrees sigs p.tree.kind p.tree.results

-- ---- V9: no call lies on a cycle of calls, and no chain of calls passes 32 functions

abbrev pub callee_before : Kind → List (List ℕ) → List (List ℕ)
callee_before k more = item_before (callee_of k) more

-- the symbols that operations call, in preorder
abbrev mutual
  pub ops_callees : Ops → List (List ℕ)
  ops_callees no_ops = []
  ops_callees (op n k ds os ts rs rest) = callee_before k (regions_callees rs ++ ops_callees rest)

  pub regions_callees : Regions → List (List ℕ)
  regions_callees no_regions = []
  regions_callees (region args ops rest) = ops_callees ops ++ regions_callees rest

abbrev pub callees_of : Option Tree → List (List ℕ)
callees_of None = []
callees_of (Some t) = regions_callees t.regions

-- whether each chain of calls that begins at the function of a symbol passes at most so many functions, repeats
-- counted; a chain that comes to a cycle passes any number
abbrev pub chains_end : Ops → ℕ → List ℕ → Bool
chains_end fs zero s = is_none (function_of s fs)
chains_end fs (suc k) s = every (chains_end fs k) (callees_of (function_of s fs))

-- whether the callee's chains end, where it is a call
abbrev pub callee_ends : (List ℕ → Bool) → Kind → Bool
callee_ends ends k = option_passes ends (callee_of k)

-- a chain of calls passes at most 32 functions: the caller, and 31 from the callee on. So no call lies on a cycle or
-- leads to one, since from there a chain passes any number, and a call of a function that is not there ends its chain.
abbrev pub chain_ends : Ops → Kind → Bool
chain_ends fs k = callee_ends (chains_end fs 31) k

abbrev pub has_short_chains : Ops → Placed → Bool
has_short_chains fs p = chain_ends fs p.tree.kind
