use Rattle.std.proofs.Common.{◌≡◌, drop}
use Rattle.xf_ir.specs.Valid.{symbols_of}
use Rattle.xf_ir.specs.View.{ops_of}
use Rattle.xf_verify.specs.Symbols.{symbols_seen, new_symbols, with_symbols}
use Rattle.xf_verify.proofs.functions.add_symbols.Given as goal

-- what is left from here gives what all gives
abbrev pub invariant-loop-op : goal.invariant-loop-op
invariant-loop-op l = record {
  new : new_symbols (symbols_seen l.symbols) (symbols_of (ops_of (drop l.op-index l.ops)))
      ≡ new_symbols (symbols_seen l.fn.symbols) (symbols_of (ops_of l.ops));
  symbols : with_symbols (symbols_of (ops_of (drop l.op-index l.ops))) (symbols_seen l.symbols)
      ≡ with_symbols (symbols_of (ops_of l.ops)) (symbols_seen l.fn.symbols);
}
