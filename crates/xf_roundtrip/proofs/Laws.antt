-- A text means what it says.
use Rattle.std.proofs.Common.{sym, ap, ◌∙◌}
use Rattle.std.specs.Prelude.{map}
use Rattle.xf_lex.proofs.LayoutLemmas.{layout_is_read}
use Rattle.xf_grammar.specs.Layout.{terminals_plain}
use Rattle.xf_grammar.proofs.LayoutLemmas.{laid_stand}
use Rattle.xf_syntax.proofs.Texts.{texts_read_again}
use Rattle.xf_read.specs.Meant.{file_faults, said_meant}
use Rattle.xf_roundtrip.specs.Laws.{TokensAreRightAsTheySay, TextsMeanWhatTheySay}
use Rattle.xf_roundtrip.specs.SaidWell.{said_well}
use Rattle.xf_roundtrip.proofs.Right.{file_faultless, faultless, nothing_faultless, none_of}

pub tokens_are_right : TokensAreRightAsTheySay
tokens_are_right all file =
    let e = file_faultless all file in
    (λ none. sym e ∙ ap faultless none ∙ nothing_faultless, λ well. none_of (file_faults all file) (e ∙ well))

pub texts_mean : TextsMeanWhatTheySay
texts_mean ws tail ns stay utf8 written well =
    let l = layout_is_read ws tail stay utf8 in
    let r = texts_read_again l.0 (terminals_plain (map (λ w. w.token) ws)) ns
    (laid_stand l.0 (map (λ w. w.token) ws) l.2) written in
    record {
      tokens = l.0;
      file = r.0;
      lexes = l.1;
      is_text = r.1.0;
      no_fault = (tokens_are_right l.0 r.0).1 (ap said_well r.1.1 ∙ well);
      means = ap said_meant r.1.1;
    }
