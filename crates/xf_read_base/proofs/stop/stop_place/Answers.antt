use Rattle.std.proofs.Common.{◌≡◌, ◌≤◌, ◌-◌, length, ap, ◌∙◌, arith, slice_index_or}
use Rattle.xf_span.specs.Place.{place_after}
use Rattle.xf_read_base.proofs.Stops.{stop_behind}
use Rattle.xf_read_base.proofs.stop.stop_place.Goals as goal

pub returns-in-len1-up : goal.returns-in-len1-up
returns-in-len1-up c =
    let past : length c.args.tokens.now ≤ c.args.at = omega (arith, c.if-at-tokens.false) in
    let last : c.last-item.result ≡ slice_index_or c.args.tokens.now (length c.args.tokens.now - 1) c.last-item.result = cc (c.last-item.is) in
    c.place_after.ensures ∙ ap (place_after c.last-item.result.place) c.as_slice.ensures ∙ stop_behind c.args.tokens.now c.args.at c.last-item.result past c.in-len1-up.len_at_least last
