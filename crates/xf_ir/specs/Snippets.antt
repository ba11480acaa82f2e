-- Snippets, as definitions see them.
use Rattle.std.specs.Prelude.{List}
use Rattle.std.specs.Coded.{Coded, code_by, coded×, coded_list}
use Rattle.std.proofs.Common.{refl}
use Rattle.xf_ir.specs.contracts.name.ValueName as value_type
use Rattle.xf_ir.specs.declared.name.ValueName.{ValueName}
use Rattle.xf_ir.specs.Tree.{Ops, ops_code, ops_inj}
use Rattle.xf_ir.specs.View.{ops_of}
use Rattle.xf_ir.specs.declared.snippet.Snippet.TheInside.{Inside}

-- operations, and the values that take the place of an operation's results
pub record Fragment : Type 0 where
  pub ops : Ops
  pub results : List ValueName

abbrev pub fragment_code : Coded Fragment
fragment_code =
    code_by (Ops × List ValueName)
    (coded× (record { code = ops_code; inj = ops_inj }) (coded_list value_type.the_row.coded))
    (λ f. (f.ops, f.results)) (λ p. record { ops = p.0; results = p.1 }) (λ _. refl)

abbrev pub fragment_of : Inside → Fragment
fragment_of s = record { ops = ops_of s.ops.items; results = s.results }
