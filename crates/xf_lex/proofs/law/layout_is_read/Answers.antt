use Rattle.xf_lex.proofs.LayoutLemmas.{layout_is_read}
use Rattle.xf_lex.proofs.law.layout_is_read.Goals as goal

pub returns : goal.returns
returns c = layout_is_read
