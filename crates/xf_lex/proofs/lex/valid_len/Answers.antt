use Rattle.std.proofs.Common.{arith, sym}
use Rattle.std.proofs.lemmas.Str.{utf8_valid_len-IsUtf8}
use Rattle.xf_lex.proofs.lex.valid_len.Goals as goal

pub returns-in-Ok : goal.returns-in-Ok
returns-in-Ok c =
    let is = (c.in-Ok.ensures).cases in
    record { value = sym (utf8_valid_len-IsUtf8 c.args.bytes.now is.1); within = omega arith; whole = λ e. is.1 }
