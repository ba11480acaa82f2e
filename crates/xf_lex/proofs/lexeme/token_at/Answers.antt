use Rattle.std.proofs.Common.{sym, ◌∙◌, arith}
use Rattle.xf_lex.proofs.Lexemes.{digit_front}
use Rattle.xf_lex.proofs.lexeme.token_at.Goals as goal

pub returns-then-is_digit-clause-value : goal.returns-then-is_digit-clause-value
returns-then-is_digit-clause-value c =
    c.integer_of.ensures.value ∙ digit_front c.args.after_tensor c.args.bytes.now c.run-then-is_digit.result
    (omega arith) (sym c.is_letter.ensures ∙ c.if-is_letter.false) (sym c.is_digit.ensures ∙ c.if-is_digit.true)
    c.run-then-is_digit.ensures.value
