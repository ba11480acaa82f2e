-- A text that is laid out: blanks and tokens, none of which goes on in what follows.
use Rattle.std.specs.Prelude.{◌≡◌, ℕ, List, [], ◌∷◌, ◌++◌, length, Bool, true}
use Rattle.xf_lex.specs.declared.token.TokenKind.{TokenKind}
use Rattle.xf_lex.specs.declared.token.Token.{Token}
use Rattle.xf_lex.specs.declared.lexeme.Lexeme.TheVariants as front
use Rattle.xf_lex.specs.Bytes.{is_blank, gap}
use Rattle.xf_lex.specs.Lexemes.{token_at}
use Rattle.xf_lex.specs.Lexes.{is_tensor}

-- a token without its place
pub record Plain : Type 0 where
  pub kind : TokenKind
  pub bytes : List ℕ

abbrev pub plain : Token → Plain
plain t = record { kind = t.kind; bytes = t.bytes }

-- a token and the blanks before it
pub record SpacedToken : Type 0 where
  pub blanks : List ℕ
  pub token : Plain

abbrev pub AllBlank : List ℕ → Type 0
AllBlank [] = Unit {0}
AllBlank (b ∷ bs) = (is_blank b ≡ true) × AllBlank bs

-- the bytes of pieces, and what stands behind them
abbrev pub layout : List SpacedToken → List ℕ → List ℕ
layout [] tail = tail
layout (w ∷ ws) tail = w.blanks ++ (w.token.bytes ++ layout ws tail)

-- a token is the longest at its place, with this behind it, where the token before is the word tensor or not
pub record Stays (after_tensor : Bool) (t : Plain) (rest : List ℕ) : Type 0 where
  pub no_gap : gap (t.bytes ++ rest) ≡ 0
  pub longest : token_at after_tensor (t.bytes ++ rest) ≡ front.Token t.kind (length t.bytes)

abbrev pub AllStay : Bool → List SpacedToken → List ℕ → Type 0
AllStay after_tensor [] tail = AllBlank tail
AllStay after_tensor (w ∷ ws) tail = AllBlank w.blanks × Stays after_tensor w.token (layout ws tail)
    × AllStay (is_tensor w.token.kind w.token.bytes) ws tail
