use Rattle.std.proofs.Common.{append_assoc}
use Rattle.xf_print_base.proofs.Texts.{pair_text}
use Rattle.xf_print_base.proofs.values.write_pair.Goals as goal

pub returns : goal.returns
returns c =
    rw (pair_text, c.in_ok-write_use.ensures, c.in_ok-extend_from_slice.ensures.items)
    (rw c.in_ok-write_argument.ensures (simp append_assoc))
