use Rattle.std.proofs.Common.{sym, ◌∙◌}
use Rattle.xf_lex.proofs.Lexing.{never_both}
use Rattle.xf_text.proofs.Scripts.{taken_is, refused_is_not}
use Rattle.xf_text.proofs.script.is_script.Goals as goal

pub returns-in-Ok-clause-yes : goal.returns-in-Ok-clause-yes
returns-in-Ok-clause-yes c = λ taken.
    let read = rw c.as_slice.ensures at c.argument.ensures in
    taken_is (λ n. n.now) c.argument.result c.args.bytes.now c.in-Ok.tokens c.in-Ok.ensures.found read
    (sym c.is_some.ensures ∙ taken)

pub returns-in-Ok-clause-no : goal.returns-in-Ok-clause-no
returns-in-Ok-clause-no c = λ refused script.
    let read = rw c.as_slice.ensures at c.argument.ensures in
    refused_is_not (λ n. n.now) c.argument.result c.args.bytes.now c.in-Ok.tokens c.in-Ok.ensures.found read
    (sym c.is_some.ensures ∙ refused) script

pub returns-in-Err-At-clause-no : goal.returns-in-Err-At-clause-no
returns-in-Err-At-clause-no c = λ _ script.
    let refused = rw c.in-Err-At.field-0-is at c.in-Err-At.ensures.fault in
    never_both c.args.bytes.now script.tokens c.in-Err-At.field-0-0 script.lexes refused
