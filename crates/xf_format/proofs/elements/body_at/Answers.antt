use Rattle.std.proofs.Common.{◌≡◌, ℕ, List, length, Ok, Err, sym, ap, subst, ◌∙◌}
use Rattle.xf_lex.specs.declared.token.Token.{Token}
use Rattle.xf_grammar.specs.Grammar.{scan}
use Rattle.xf_grammar.specs.Reading.{Out}
use Rattle.xf_dense.specs.declared.body.Body.{Body}
use Rattle.xf_dense.specs.declared.expected.Due.{Due}
use Rattle.xf_dense.specs.Actions as dense
use Rattle.xf_dense.specs.Machine.{start}
use Rattle.xf_dense.specs.Reading.{body_at, Fails}
use Rattle.xf_format.specs.declared.parts.Parts.{Parts}
use Rattle.xf_format.specs.declared.expected.Expected.{Expected}
use Rattle.xf_format.specs.Actions.{Reading, free}
use Rattle.xf_format.specs.Tests.{due_in}
use Rattle.xf_format.specs.Parts.{with_body}
use Rattle.xf_format.specs.Rules.{by}
use Rattle.xf_format.proofs.Bodies.{told, scan_told}
use Rattle.xf_format.proofs.elements.body_at.Goals as goal

-- what is read of the body that begins there
reads : (all : List Token) (p : Parts) (at : ℕ) (r : Out dense.Reading Due) → p.dense ≡ dense.no_body
    → body_at all at ≡ r → by (scan start) all p at ≡ told p r
reads all p at r none e =
    ap (λ b. by (scan start) all (with_body b p) at) none ∙ (scan_told all p (length all) start (dense.free dense.no_body) at
    ∙ ap (told p) e)

refused : (all : List Token) (p : Parts) (at i : ℕ) (d : Due) (e : Expected) → p.dense ≡ dense.no_body
    → body_at all at ≡ Err (i, d) → e ≡ due_in d → by (scan start) all p at ≡ Err (i, e)
refused all p at i d e none q same =
    let r : Out dense.Reading Due = Err (i, d) in
    reads all p at r none q ∙ ap (λ x. let o : Out Reading Expected = Err (i, x) in o) (sym same)

pub returns-in-Ok-clause-gives : goal.returns-in-Ok-clause-gives
returns-in-Ok-clause-gives c =
    let r : Out dense.Reading Due = Ok (dense.free c.in-Ok.body, c.in-Ok.next) in
    reads c.args.tokens.now c.args.parts.now c.args.at r c.requires c.in-Ok.ensures.gives

pub returns-in-Err-At-clause-gives : goal.returns-in-Err-At-clause-gives
returns-in-Err-At-clause-gives c =
    refused c.args.tokens.now c.args.parts.now c.args.at c.in-Err-At.place c.in-Err-At.due c.due_in.result c.requires
    (subst (λ e. Fails e (body_at c.args.tokens.now c.args.at)) c.in-Err-At.field-0-is c.in-Err-At.ensures.gives)
    c.due_in.ensures
