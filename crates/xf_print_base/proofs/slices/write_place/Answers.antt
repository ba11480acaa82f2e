use Rattle.std.proofs.Common.{rules, ◌≡◌, ◌++◌}
use Rattle.std.specs.Fmt.{signed_decimal}
use Rattle.xf_print_base.specs.Index.{names_of}
use Rattle.xf_print_base.proofs.PlaceTexts.{number_goes}
use Rattle.xf_print_base.proofs.slices.write_place.Goals as goal

pub returns-in_ok-write_integer-in-Fixed : goal.returns-in_ok-write_integer-in-Fixed
returns-in_ok-write_integer-in-Fixed c =
    let e : c.write_integer.new.line.items ≡ c.write_gap.new.line.items ++ signed_decimal c.in-Fixed.number =
    search rules in
    number_goes c.args.side c.args.gap (names_of c.args.names.now) c.args.place c.in-Fixed.number c.args.values.now
    _ _ _ c.in-Fixed.is c.in_ok-write_gap-in-Fixed.ensures e
