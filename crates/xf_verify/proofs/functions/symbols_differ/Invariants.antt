use Rattle.std.proofs.Common.{◌≡◌, drop}
use Rattle.xf_ir.specs.Valid.{symbols_in}
use Rattle.xf_ir.specs.View.{regions_of}
use Rattle.xf_verify.specs.Symbols.{symbols_seen, no_symbols, new_symbols}
use Rattle.xf_verify.proofs.functions.symbols_differ.Given as goal

-- what is left decides
abbrev pub invariant-loop-block : goal.invariant-loop-block
invariant-loop-block l = new_symbols (symbols_seen l.symbols) (symbols_in (regions_of (drop l.block-index l.blocks)))
    ≡ new_symbols no_symbols (symbols_in (regions_of l.blocks))
