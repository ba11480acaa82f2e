-- What the kinds of operations are among one another (MLIR: the pages of builtin, func, arith, scf, tensor and linalg).
use Rattle.std.specs.Prelude.{ℕ, List, [], Option, Some, None, Bool, true, false, ◌||◌, is_some}
use Rattle.xf_type.specs.declared.payload_type.PayloadType.{PayloadType}
use Rattle.xf_ir.specs.declared.kind.Kind.{Kind}
use Rattle.xf_ir.specs.declared.kind.Kind.TheVariants as kind

-- ---- projections: rules and laws go by these, so that a kind stands only in the tables of the facts that it has

-- the symbol of a function
abbrev pub symbol_of : Kind → Option (List ℕ)
symbol_of (kind.Func symbol private results) = Some symbol
symbol_of _ = None

-- the symbol that a call names
abbrev pub callee_of : Kind → Option (List ℕ)
callee_of (kind.Call callee) = Some callee
callee_of _ = None

abbrev pub is_module : Kind → Bool
is_module (kind.Module symbol) = true
is_module _ = false

abbrev pub is_function : Kind → Bool
is_function k = is_some (symbol_of k)

-- a module or a function
abbrev pub is_container : Kind → Bool
is_container k = is_module k || is_function k

-- whether an operation has a region
abbrev pub has_body : Kind → Bool
has_body (kind.Module symbol) = true
has_body (kind.Func symbol private results) = true
has_body (kind.For width) = true
has_body kind.If = true
has_body (kind.Generic maps iterators) = true
has_body _ = false

-- whether it has a second region, that of else, which it may lack where it has no results
abbrev pub has_else : Kind → Bool
has_else kind.If = true
has_else _ = false

-- whether an operation ends a block
abbrev pub is_terminator : Kind → Bool
is_terminator kind.Return = true
is_terminator kind.Yield = true
is_terminator kind.LinalgYield = true
is_terminator _ = false

-- whether an operation ends a function, a block of scf, or the body of a linalg.generic
abbrev pub is_return : Kind → Bool
is_return kind.Return = true
is_return _ = false

abbrev pub is_yield : Kind → Bool
is_yield kind.Yield = true
is_yield _ = false

abbrev pub is_linalg_yield : Kind → Bool
is_linalg_yield kind.LinalgYield = true
is_linalg_yield _ = false

-- whether an operation ends a block of the holder
abbrev pub ends_for : Kind → Kind → Bool
ends_for (kind.Func symbol private results) k = is_return k
ends_for (kind.For width) k = is_yield k
ends_for kind.If k = is_yield k
ends_for (kind.Generic maps iterators) k = is_linalg_yield k
ends_for _ k = false

-- whether a block of the holder goes without a terminator
abbrev pub is_endless : Kind → Bool
is_endless k = is_module k

-- whether its block is a body of linalg, which belongs to no scope
abbrev pub is_generic : Kind → Bool
is_generic (kind.Generic maps iterators) = true
is_generic _ = false

-- the types that a function returns
abbrev pub returned_types : Kind → List PayloadType
returned_types (kind.Func symbol private results) = results
returned_types _ = []

-- whether it is an operation of the arith dialect
abbrev pub is_arith : Kind → Bool
is_arith (kind.Constant width bits) = true
is_arith (kind.Dense shape numbers) = true
is_arith (kind.Binary which width) = true
is_arith (kind.Compare which width) = true
is_arith (kind.Select width) = true
is_arith (kind.Convert which from to) = true
is_arith _ = false
