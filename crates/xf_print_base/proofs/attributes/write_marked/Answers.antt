use Rattle.std.proofs.Common.{append_assoc}
use Rattle.xf_print_base.proofs.Texts.{marked_text}
use Rattle.xf_print_base.proofs.attributes.write_marked.Goals as goal

pub returns-in_ok-write_dictionary-in-len1-up : goal.returns-in_ok-write_dictionary-in-len1-up
returns-in_ok-write_dictionary-in-len1-up c =
    rw (marked_text _ c.in-len1-up.len_at_least, c.in_ok-write_dictionary-in-len1-up.ensures)
    (rw c.in_ok-extend_from_slice-in-len1-up.ensures.items (simp append_assoc))
