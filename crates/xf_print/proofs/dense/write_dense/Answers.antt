use Rattle.std.proofs.Common.{append_assoc}
use Rattle.xf_print.proofs.SlotTexts.{dense_text}
use Rattle.xf_print.proofs.dense.write_dense.Goals as goal

pub returns : goal.returns
returns c =
    rw (
      dense_text,
      c.in_ok-write_tensor.ensures,
      c.in_ok-extend_from_slice-2.ensures.items,
      c.in_ok-write_body.ensures,
      c.in_ok-extend_from_slice.ensures.items,
    ) (simp append_assoc)
