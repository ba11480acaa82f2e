use Rattle.std.proofs.Common.{append_assoc}
use Rattle.xf_print_base.proofs.Texts.{param_text}
use Rattle.xf_print_base.proofs.values.write_param.Goals as goal

pub returns : goal.returns
returns c =
    rw (param_text, c.in_ok-write_type.ensures, c.in_ok-push.ensures.items)
    (rw c.in_ok-write_argument.ensures (simp append_assoc))
