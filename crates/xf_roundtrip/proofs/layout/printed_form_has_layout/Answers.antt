use Rattle.xf_roundtrip.proofs.PrintedLayout.{printed_has_layout}
use Rattle.xf_roundtrip.proofs.layout.printed_form_has_layout.Goals as goal

pub returns : goal.returns
returns c = printed_has_layout
