-- A text that is laid out has the tokens of its pieces.
use Rattle.std.proofs.Common.{◌≡◌, ℕ, ◌+◌, Bool, false, List, [], ◌∷◌, ◌++◌, length, take, drop, refl, sym, ap, subst}
use Rattle.std.proofs.Common.{◌∙◌, arith, append-nil}
use Rattle.std.specs.Prelude.{map}
use Rattle.std.proofs.lemmas.List.{take_at, drop_at}
use Rattle.xf_span.specs.declared.place.Place.{Place}
use Rattle.xf_lex.specs.declared.token.Token.{Token}
use Rattle.xf_lex.specs.declared.lexeme.Lexeme.TheVariants as front
use Rattle.xf_lex.specs.Bytes.{gap}
use Rattle.xf_lex.specs.Lexemes.{token_at}
use Rattle.xf_span.specs.Place.{place_after, first_place}
use Rattle.xf_lex.specs.Lexes.{Position, text_at, place_at, front_of, is_tensor, IsFirst, behind, Tokens}
use Rattle.xf_lex.specs.Layout.{plain, SpacedToken, AllBlank, layout, AllStay}
use Rattle.xf_lex.specs.Laws.{LayoutIsRead}

gap_blanks : (bs more : List ℕ) → AllBlank bs → gap (bs ++ more) ≡ length bs + gap more
gap_blanks [] more h = omega arith
gap_blanks (b ∷ bs) more h = let e = h.0 in rw e (let r = gap_blanks bs more h.1 in omega arith)

text_blanks : (bs more : List ℕ) → AllBlank bs → gap more ≡ 0 → text_at (bs ++ more) ≡ more
text_blanks bs more h z = let n : gap (bs ++ more) ≡ length bs = (let r = gap_blanks bs more h in omega arith) in
    rw n (drop_at bs more (length bs) refl)

text_tail : (bs : List ℕ) → AllBlank bs → text_at bs ≡ []
text_tail bs h = ap text_at (sym (append-nil bs)) ∙ text_blanks bs [] h refl

-- the tokens of the pieces, from a position on
record Again (ws : List SpacedToken) (tail : List ℕ) (tensor : Bool) (p : Place) : Type 0 where
  tokens : List Token
  last : Position
  read : Tokens (record { after_tensor = tensor; place = p; rest = layout ws tail }) tokens last
  ends : front_of last ≡ front.End
  plain_is : map plain tokens ≡ map (λ w. w.token) ws

again : (ws : List SpacedToken) (tail : List ℕ) (tensor : Bool) (p : Place) → AllStay tensor ws tail
    → Again ws tail tensor p
again [] tail tensor p h = record {
  tokens = [];
  last = record { after_tensor = tensor; place = p; rest = tail };
  read = refl;
  ends = ap (token_at tensor) (text_tail tail h);
  plain_is = refl;
}
again (w ∷ ws) tail tensor p h =
    let bytes = w.token.bytes in
    let bs : List ℕ = layout (w ∷ ws) tail in
    let here : Position = record { after_tensor = tensor; place = p; rest = bs } in
    let t : Token = record { kind = w.token.kind; bytes = bytes; place = place_at p bs } in
    let text : text_at bs ≡ bytes ++ layout ws tail = text_blanks w.blanks (bytes ++ layout ws tail) h.0 h.1.no_gap in
    let first : IsFirst here t = record {
      longest = ap (token_at tensor) text ∙ h.1.longest;
      bytes = sym (ap (take (length bytes)) text ∙ take_at bytes (layout ws tail) (length bytes) refl);
      place = refl;
    } in
    let left : drop (length bytes) (text_at bs) ≡ layout ws tail =
    ap (drop (length bytes)) text ∙ drop_at bytes (layout ws tail) (length bytes) refl in
    let more = again ws tail (is_tensor w.token.kind bytes) (place_after t.place bytes) h.2 in
    let others = more.plain_is in
    let read : Tokens (behind here t) more.tokens more.last =
    subst (λ x. Tokens (record {
      after_tensor = is_tensor w.token.kind bytes;
      place = place_after t.place bytes;
      rest = x;
    }) more.tokens more.last) (sym left) more.read in
    record {
      tokens = t ∷ more.tokens;
      last = more.last;
      read = (first, read);
      ends = more.ends;
      plain_is = ap (λ x. w.token ∷ x) others;
    }

pub layout_is_read : LayoutIsRead
layout_is_read ws tail h utf8 =
    let all = again ws tail false first_place h in
    (all.tokens, record { utf8 = utf8; last = all.last; read = all.read; ends = all.ends }, all.plain_is)
