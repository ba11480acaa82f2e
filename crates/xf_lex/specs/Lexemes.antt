-- What stands first in a text that begins with no blank and no comment: the longest token there, or what is wrong.
use Rattle.std.specs.Prelude.{ℕ, suc, ◌^◌, ◌<◌, ◌≤◌, ⊤, List, [], ◌∷◌, length, take, drop, Bool, false, not, ◌==◌, ◌&&◌}
use Rattle.std.specs.Prelude.{◌||◌, if◌then◌else◌, nat_lt}
use Rattle.std.specs.Str.Parse.{digits_value}
use Rattle.xf_span.specs.declared.code.Code.TheVariants.{L1, L2, L3}
use Rattle.xf_lex.specs.declared.token.TokenKind.{TokenKind}
use Rattle.xf_lex.specs.declared.token.TokenKind.TheVariants as kind
use Rattle.xf_lex.specs.declared.lexeme.Lexeme.{Lexeme}
use Rattle.xf_lex.specs.declared.lexeme.Lexeme.TheVariants.{End, Token, Fault}
use Rattle.xf_type.specs.Bytes.{is_digit, is_letter, is_word_byte, is_hex}
use Rattle.xf_lex.specs.Bytes.{is_name_start, is_name_byte, is_shape_byte, is_mark, run, starts}

-- ---- strings

-- how many bytes stand before the " that no \ escapes, before the end of the line, or else in all
abbrev pub quoted_in : Bool → List ℕ → ℕ
quoted_in escaped [] = 0
quoted_in escaped (b ∷ bs) =
    if (b == 10) || (not escaped && (b == 34)) then 0 else suc (quoted_in (not escaped && (b == 92)) bs)

-- whether what stands behind a \ is an escape: ", \, n, t or two hexadecimal digits
abbrev pub starts_hex : List ℕ → Bool
starts_hex [] = false
starts_hex (b ∷ bs) = is_hex b

abbrev pub is_escape : List ℕ → Bool
is_escape [] = false
is_escape (b ∷ bs) = (((b == 34) || (b == 92)) || ((b == 110) || (b == 116))) || (is_hex b && starts_hex bs)

-- how many bytes stand before the first \ that begins no escape, or else in all
abbrev pub escaped_in : Bool → List ℕ → ℕ
escaped_in escaped [] = 0
escaped_in escaped (b ∷ bs) =
    if (not escaped && (b == 92)) && not (is_escape bs)
    then 0
    else suc (escaped_in (not escaped && (b == 92)) bs)

-- the string with these bytes behind its first quote, and a second quote behind them or none
abbrev pub string_of : List ℕ → Bool → Lexeme
string_of bytes closed =
    if closed
    then (if nat_lt (escaped_in false bytes) (length bytes)
    then Fault L1 (suc (escaped_in false bytes))
    else Token kind.Text (suc (suc (length bytes))))
    else Fault L2 0

-- behind a quote
abbrev pub string_at : List ℕ → Lexeme
string_at bs = string_of (take (quoted_in false bs) bs) (starts 34 (drop (quoted_in false bs) bs))

-- ---- other tokens

-- behind a % : digits, or a name
abbrev pub value_at : List ℕ → Lexeme
value_at [] = Fault L1 0
value_at (b ∷ bs) =
    if is_digit b then Token kind.Value (suc (suc (run is_digit bs)))
    else (if is_name_start b then Token kind.Value (suc (suc (run is_name_byte bs))) else Fault L1 0)

-- behind an @, a ^ or a ! : a word
abbrev pub named_at : TokenKind → List ℕ → Lexeme
named_at k [] = Fault L1 0
named_at k (b ∷ bs) = if is_letter b then Token k (suc (suc (run is_word_byte bs))) else Fault L1 0

-- behind a # : a word or digits
abbrev pub hash_at : List ℕ → Lexeme
hash_at [] = Fault L1 0
hash_at (b ∷ bs) = if is_digit b then Token kind.Hash (suc (suc (run is_digit bs))) else named_at kind.Hash (b ∷ bs)

-- behind the < of a shape: up to the next > of the line
abbrev pub shape_at : List ℕ → Lexeme
shape_at bs =
    if starts 62 (drop (run is_shape_byte bs) bs)
    then Token kind.Shape (suc (suc (run is_shape_byte bs)))
    else Fault L1 0

-- these digits
abbrev pub integer_of : List ℕ → Lexeme
integer_of digits = if nat_lt (digits_value 10 digits) (2 ^ 64) then Token kind.Integer (length digits) else Fault L3 0

-- a byte that is no letter, no digit and no quote, and what stands behind it
abbrev pub sign_at : ℕ → List ℕ → Lexeme
sign_at b bs =
    if b == 37 then value_at bs
    else (if b == 64 then named_at kind.Symbol bs
    else (if b == 94 then named_at kind.BlockName bs
    else (if b == 33 then named_at kind.DialectType bs
    else (if b == 35 then hash_at bs
    else (if (b == 45) && starts 62 bs then Token kind.Arrow 2
    else (if is_mark b then Token (kind.Mark b) 1 else Fault L1 0))))))

-- the longest token first in a text, with its length; or a fault, and how many bytes in front of it belong to a token
-- that is broken there. The truth value tells whether the token before is the word tensor.
abbrev pub token_at : Bool → List ℕ → Lexeme
token_at after_tensor [] = End
token_at after_tensor (b ∷ bs) =
    if is_letter b then Token kind.Word (suc (run is_word_byte bs))
    else (if is_digit b then integer_of (b ∷ take (run is_digit bs) bs)
    else (if b == 34 then string_at bs
    else (if (b == 60) && after_tensor then shape_at bs
    else sign_at b bs)))

-- what a front speaks of is within so many bytes
abbrev pub IsWithin : Lexeme → ℕ → Type 0
IsWithin End n = ⊤
IsWithin (Token k count) n = (0 < count) × (count ≤ n)
IsWithin (Fault code inside) n = inside < n
