-- The tokens of a text, in order, with their bytes and places; or its first fault.
use Rattle.std.specs.Prelude.{◌≡◌, ◌⊎◌, ⊤, ℕ, ◌+◌, ◌-◌, ◌<◌, ◌≤◌, List, [], ◌∷◌, length, take, drop, Bool, false, codes}
use Rattle.std.specs.Str.{IsUtf8, bytes_eq}
use Rattle.std.specs.Str.Lossy.{utf8_valid_len}
use Rattle.xf_span.specs.declared.place.Place.{Place}
use Rattle.xf_span.specs.declared.code.Code.{Code}
use Rattle.xf_span.specs.declared.code.Code.TheVariants.{L4}
use Rattle.xf_span.specs.declared.fault.Fault.{Fault}
use Rattle.xf_span.specs.declared.fault.TextFault.{TextFault}
use Rattle.xf_span.specs.declared.fault.TextFault.TheVariants as text_fault
use Rattle.xf_span.specs.Fault.{fault_at}
use Rattle.xf_span.specs.Place.{place_after, first_place}
use Rattle.xf_lex.specs.declared.token.TokenKind.{TokenKind}
use Rattle.xf_lex.specs.declared.token.TokenKind.TheVariants as kind
use Rattle.xf_lex.specs.declared.token.Token.{Token}
use Rattle.xf_lex.specs.declared.lexeme.Lexeme.{Lexeme}
use Rattle.xf_lex.specs.declared.lexeme.Lexeme.TheVariants as front
use Rattle.xf_lex.specs.Bytes.{gap}
use Rattle.xf_lex.specs.Lexemes.{token_at}

-- ---- tokens

-- a position between tokens: whether the token before is the word tensor, and what is left from a place on
pub record Position : Type 0 where
  pub after_tensor : Bool
  pub place : Place
  pub rest : List ℕ

-- the position before a text
abbrev pub start : List ℕ → Position
start bs = record { after_tensor = false; place = first_place; rest = bs }

-- what is left behind blanks and comments, and its place
abbrev pub text_at : List ℕ → List ℕ
text_at bs = drop (gap bs) bs

abbrev pub place_at : Place → List ℕ → Place
place_at p bs = place_after p (take (gap bs) bs)

-- what stands first behind a position
abbrev pub front_of : Position → Lexeme
front_of p = token_at p.after_tensor (text_at p.rest)

-- the word tensor
abbrev pub is_tensor : TokenKind → List ℕ → Bool
is_tensor kind.Word bytes = bytes_eq bytes (codes "tensor")
is_tensor k bytes = false

-- the first token behind a position: the longest that begins there, its bytes and its place
pub record IsFirst (p : Position) (t : Token) : Type 0 where
  pub longest : front_of p ≡ front.Token t.kind (length t.bytes)
  pub bytes : t.bytes ≡ take (length t.bytes) (text_at p.rest)
  pub place : t.place ≡ place_at p.place p.rest

-- the position behind a token that is the first behind another position
abbrev pub behind : Position → Token → Position
behind p t = record {
  after_tensor = is_tensor t.kind t.bytes;
  place = place_after t.place t.bytes;
  rest = drop (length t.bytes) (text_at p.rest);
}

-- these are the tokens between two positions
abbrev pub Tokens : Position → List Token → Position → Type 0
Tokens p [] q = p ≡ q
Tokens p (t ∷ ts) q = IsFirst p t × Tokens (behind p t) ts q

-- a text is UTF-8 and made of these tokens, with blanks and comments before, between and behind them
pub record Lexes (bs : List ℕ) (ts : List Token) : Type 0 where
  pub utf8 : IsUtf8 bs
  pub last : Position
  pub read : Tokens (start bs) ts last
  pub ends : front_of last ≡ front.End

-- ---- faults

-- how many bytes of a text stand before the byte that follows so many behind a position's blanks and comments
abbrev pub bytes_before : List ℕ → Position → ℕ → ℕ
bytes_before bs p inside = (length bs - length (text_at p.rest)) + inside

-- the place of that byte
abbrev pub place_inside : Position → ℕ → Place
place_inside p inside = place_after (place_at p.place p.rest) (take inside (text_at p.rest))

-- tokens, and then what makes no token, in front of which all is UTF-8, its own first byte included
pub record BreaksAt (bs : List ℕ) (f : Fault) : Type 0 where
  pub before : List Token
  pub last : Position
  pub code : Code
  pub inside : ℕ
  pub read : Tokens (start bs) before last
  pub broken : front_of last ≡ front.Fault code inside
  pub in_utf8 : bytes_before bs last inside < utf8_valid_len bs
  pub fault : f ≡ fault_at code (place_inside last inside)

-- bytes that are not UTF-8, and no other fault before them
pub record IsIllFormed (bs : List ℕ) (f : Fault) : Type 0 where
  pub no_utf8 : ¬ IsUtf8 bs
  pub first : (before : List Token) (last : Position) (code : Code) (inside : ℕ) → Tokens (start bs) before last
      → front_of last ≡ front.Fault code inside → utf8_valid_len bs ≤ bytes_before bs last inside
  pub fault : f ≡ fault_at L4 (place_after first_place (take (utf8_valid_len bs) bs))

-- the first fault of a text
abbrev pub HasFault : List ℕ → Fault → Type 0
HasFault bs f = BreaksAt bs f ⊎ IsIllFormed bs f

-- why the tokens of a text are not answered: it has this fault, or memory was refused
abbrev pub IsRefused : List ℕ → TextFault → Type 0
IsRefused bs (text_fault.At f) = HasFault bs f
IsRefused bs text_fault.NoMemory = ⊤
