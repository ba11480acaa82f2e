use Rattle.xf_print.proofs.Rows.{binary_kind, conversion_kind, named_kind}
use Rattle.xf_print.proofs.row.row_of.Goals as goal

pub returns-in-Binary : goal.returns-in-Binary
returns-in-Binary c = binary_kind c.args.kind.now _ _ c.in-Binary.is

pub returns-in-Convert : goal.returns-in-Convert
returns-in-Convert c = conversion_kind c.args.kind.now _ _ _ c.in-Convert.is

pub returns-in-Named : goal.returns-in-Named
returns-in-Named c = named_kind c.args.kind.now _ c.in-Named.is
