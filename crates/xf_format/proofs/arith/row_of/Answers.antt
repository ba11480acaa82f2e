use Rattle.std.proofs.Common.{◌++◌}
use Rattle.xf_format.specs.Arith.{singles, binaries, conversions}
use Rattle.xf_format.proofs.Lookups.{found_here, found_there}
use Rattle.xf_format.proofs.arith.row_of.Goals as goal

pub returns-in-Some : goal.returns-in-Some
returns-in-Some c = found_here singles (binaries ++ conversions) c.args.word.now _ c.in-Some.ensures

pub returns-in-Some-binary_of : goal.returns-in-Some-binary_of
returns-in-Some-binary_of c =
    found_there singles (binaries ++ conversions) c.args.word.now _ c.in_default.ensures
    (found_here binaries conversions c.args.word.now _ c.in-Some-binary_of.ensures)

pub returns : goal.returns
returns c =
    found_there singles (binaries ++ conversions) c.args.word.now _ c.in_default.ensures
    (found_there binaries conversions c.args.word.now _ c.in_default-binary_of.ensures c.conversion_of.ensures)
