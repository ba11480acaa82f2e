use Rattle.std.proofs.Common.{◌≡◌, drop}
use Rattle.xf_ir.specs.View.{ops_of}
use Rattle.xf_verify.specs.Judged.{IsNamed, first_behind, names_behind, functions_stand, holder_seen}
use Rattle.xf_verify.specs.Visible.{definitions_in, types_in}
use Rattle.xf_verify.proofs.walk.functions.Given as goal

-- what is left from here gives what all gives
abbrev pub invariant-loop-number : goal.invariant-loop-number
invariant-loop-number l = record {
  judged : first_behind l.facts l.walk.names (functions_stand (holder_seen l.holder)
      (types_in l.walk.scope) (ops_of (drop l.number l.ops))) ≡ first_behind l.facts l.fn.walk.names
      (functions_stand (holder_seen l.holder) (types_in l.fn.walk.scope) (ops_of l.ops));
  names : names_behind l.walk.names
      (functions_stand (holder_seen l.holder) (types_in l.walk.scope) (ops_of (drop l.number l.ops)))
      ≡ names_behind l.fn.walk.names (functions_stand (holder_seen l.holder) (types_in l.fn.walk.scope) (ops_of l.ops));
  scope : definitions_in l.walk.scope ≡ definitions_in l.fn.walk.scope;
  named : IsNamed l.walk;
}
