use Rattle.std.proofs.Common.{◌≡◌, length, take, drop, sym, ap, ◌∙◌, inl, inr, arith}
use Rattle.xf_lex.specs.declared.token.Token.{Token}
use Rattle.xf_lex.specs.Lexemes.{token_at}
use Rattle.xf_lex.specs.Lexes.{Position, start, text_at, front_of}
use Rattle.xf_lex.proofs.Lexing.{turn, ill_formed}
use Rattle.xf_lex.proofs.lex.tokens.Goals as goal
use Rattle.xf_lex.proofs.lex.tokens.Goals.{in_default-via-in-End+else-valid-bytes}
use Rattle.xf_lex.proofs.lex.tokens.Goals.{in_default-via-in-Fault+else-bytes-text}

pub returns-in_default-clause-fault : goal.returns-in_default-clause-fault
returns-in_default-clause-fault c =
    let last : Position = record {
      after_tensor = c.tokens.after_tensor;
      place = c.tokens.place;
      rest = c.tokens.rest.now;
    } in
    let at : c.split_at.result.1.now ≡ text_at c.tokens.rest.now =
    c.split_at.ensures.back ∙ ap (λ n. drop n c.tokens.rest.now) c.gap.ensures.value in
    let size = ap length at in
    let valid = c.valid_len-valid.ensures.value in
    let same : front_of last ≡ c.token_at.result =
    ap (token_at c.tokens.after_tensor) (sym at) ∙ sym c.token_at.ensures.value in
    rw c.into-in_default.ensures (elim c.in_default.branch [
      | in_default-via-in-End+else-valid-bytes w ↦ inr
          (ill_formed c.args.bytes.now c.tokens.tokens last c.ill_formed.result c.tokens.invariant.read
          (inl (same ∙ w.in-End.is)) (omega (arith, w.if-valid-bytes.false)) (rw valid at c.ill_formed.ensures))
      | in_default-via-in-Fault+else-bytes-text w ↦
          inr (ill_formed c.args.bytes.now c.tokens.tokens last c.ill_formed.result c.tokens.invariant.read
          (inr (record {
            code = w.in-Fault.code;
            inside = w.in-Fault.inside;
            broken = same ∙ w.in-Fault.is;
            late = omega (arith, w.if-bytes-text.false);
          }))
          (omega (arith, w.in-Fault.ensures.within, c.split_at.ensures.back_len)) (rw valid at c.ill_formed.ensures))
    ])

pub tokens-preserved : goal.tokens-preserved
tokens-preserved c =
    let last : Position = record {
      after_tensor = c.tokens.after_tensor;
      place = c.tokens.place;
      rest = c.tokens.rest.now;
    } in
    let at : c.split_at.result.1.now ≡ text_at c.tokens.rest.now =
    c.split_at.ensures.back ∙ ap (λ n. drop n c.tokens.rest.now) c.gap.ensures.value in
    let blanks = c.split_at.ensures.front ∙ ap (λ n. take n c.tokens.rest.now) c.gap.ensures.value in
    let t : Token = record { kind = c.in-Token.kind; bytes = c.new.result; place = c.place_after-at.result } in
    record {
      read = rw c.in_ok-push.ensures.ok
          (turn c.tokens.tokens (start c.args.bytes.now) last t c.split_at.result.0.now c.split_at.result.1.now
          c.split_at-in-tokens.result.0.now c.split_at-in-tokens.result.1.now c.in-Token.length
          c.is_tensor-after_tensor.result c.place_after-place.result
          c.tokens.invariant.read blanks at c.place_after-at.ensures (sym c.token_at.ensures.value ∙ c.in-Token.is)
          c.new.ensures c.split_at-in-tokens.ensures.front c.split_at-in-tokens.ensures.front_len
          c.split_at-in-tokens.ensures.back c.is_tensor-after_tensor.ensures c.place_after-place.ensures);
      within = omega (
        arith,
        c.tokens.invariant.within,
        c.split_at.ensures.back_len,
        c.split_at-in-tokens.ensures.back_len,
      );
    }
