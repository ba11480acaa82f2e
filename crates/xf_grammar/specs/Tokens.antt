-- What a grammar sees of the tokens of a text.
use Rattle.std.specs.Prelude.{ℕ, ◌-◌, ◌^◌, min, List, [], ◌∷◌, Option, Some, None, Bool, false, slice_get}
use Rattle.std.specs.Str.{bytes_eq}
use Rattle.std.specs.Str.Parse.{digits_value}
use Rattle.xf_lex.specs.contracts.token.TokenKindPartialEq.TheImpl as kind_eq
use Rattle.xf_lex.specs.declared.token.TokenKind.{TokenKind}
use Rattle.xf_lex.specs.declared.token.TokenKind.TheVariants as kind
use Rattle.xf_lex.specs.declared.token.Token.{Token}
use Rattle.xf_type.specs.Bytes.{is_digit}

-- a token by its kind, and by its bytes where they tell more than the kind; or the end of the text
pub data Terminal : Type 0 where
  the_end : Terminal
  terminal : (kind : TokenKind) (bytes : List ℕ) → Terminal

-- an arrow and a mark are told by their kinds
abbrev pub telling : TokenKind → List ℕ → List ℕ
telling kind.Arrow bytes = []
telling (kind.Mark b) bytes = []
telling k bytes = bytes

abbrev pub terminal_of : Option Token → Terminal
terminal_of None = the_end
terminal_of (Some t) = terminal t.kind (telling t.kind t.bytes)

-- what stands at a number in a list of tokens; behind the last token the end
abbrev pub terminal_at : List Token → ℕ → Terminal
terminal_at all at = terminal_of (slice_get all at)

-- ---- tests

abbrev pub same_kind : TokenKind → TokenKind → Bool
same_kind = (kind_eq.ghosts).eq

abbrev pub is_kind : TokenKind → Terminal → Bool
is_kind k the_end = false
is_kind k (terminal j bytes) = same_kind j k

-- the bytes of a word; none where it is no word
abbrev pub word_of : Terminal → List ℕ
word_of (terminal kind.Word bytes) = bytes
word_of x = []

abbrev pub is_word : List ℕ → Terminal → Bool
is_word w (terminal kind.Word bytes) = bytes_eq bytes w
is_word w x = false

-- whether a token of a kind stands there
abbrev pub looks : List Token → ℕ → TokenKind → Bool
looks all at k = is_kind k (terminal_at all at)

-- whether a word stands there
abbrev pub says : List Token → ℕ → List ℕ → Bool
says all at w = is_word w (terminal_at all at)

-- the bytes of the word that stands there
abbrev pub word_at : List Token → ℕ → List ℕ
word_at all at = word_of (terminal_at all at)

-- ---- marks

abbrev pub open_paren : TokenKind
open_paren = kind.Mark 40

abbrev pub close_paren : TokenKind
close_paren = kind.Mark 41

abbrev pub comma : TokenKind
comma = kind.Mark 44

abbrev pub minus : TokenKind
minus = kind.Mark 45

abbrev pub colon : TokenKind
colon = kind.Mark 58

abbrev pub less : TokenKind
less = kind.Mark 60

abbrev pub equals : TokenKind
equals = kind.Mark 61

abbrev pub open_bracket : TokenKind
open_bracket = kind.Mark 91

abbrev pub open_brace : TokenKind
open_brace = kind.Mark 123

abbrev pub close_brace : TokenKind
close_brace = kind.Mark 125

-- ---- numbers

-- the number that digits write; no integer token writes one above 2 ^ 64 - 1
abbrev pub number_of : List ℕ → ℕ
number_of digits = min (digits_value 10 digits) (2 ^ 64 - 1)

abbrev pub digits_of : Terminal → List ℕ
digits_of (terminal kind.Integer bytes) = bytes
digits_of (terminal kind.Hash (b ∷ bytes)) = bytes
digits_of x = []

-- the number that an integer, or a # and digits, writes there
abbrev pub number_at : List Token → ℕ → ℕ
number_at all at = number_of (digits_of (terminal_at all at))

-- a # and digits, as behind a value's name
abbrev pub starts_digit : List ℕ → Bool
starts_digit [] = false
starts_digit (b ∷ bs) = is_digit b

abbrev pub is_index : Terminal → Bool
is_index (terminal kind.Hash (b ∷ bytes)) = starts_digit bytes
is_index x = false

abbrev pub is_index_at : List Token → ℕ → Bool
is_index_at all at = is_index (terminal_at all at)
