use Rattle.std.proofs.Common.{append_assoc}
use Rattle.xf_print_base.proofs.MapTexts.{map_text}
use Rattle.xf_print_base.proofs.maps.write_map.Goals as goal

pub returns : goal.returns
returns c =
    rw (
      map_text,
      c.in_ok-extend_from_slice-2.ensures.items,
      c.in_ok-write_given.ensures,
      c.as_slice.ensures,
      c.in_ok-extend_from_slice.ensures.items,
      c.in_ok-write_dimensions.ensures,
      c.in_ok-write_word.ensures,
    ) (simp append_assoc)
