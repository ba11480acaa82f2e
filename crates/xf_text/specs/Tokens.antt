-- Tokens by what they are made of.
use Rattle.std.specs.Prelude.{ℕ, List, [], ◌∷◌}
use Rattle.xf_lex.specs.declared.token.TokenKind.{TokenKind}
use Rattle.xf_lex.specs.declared.token.TokenKind.TheVariants as kind
use Rattle.xf_lex.specs.Layout.{Plain}

-- the bytes of a token, as of `%a`
abbrev pub Name : Type 0
Name = List ℕ

abbrev pub token : TokenKind → List ℕ → Plain
token k bs = record { kind = k; bytes = bs }

abbrev pub word : List ℕ → Plain
word bs = token kind.Word bs

abbrev pub value : Name → Plain
value bs = token kind.Value bs

abbrev pub mark : ℕ → Plain
mark b = token (kind.Mark b) (b ∷ [])

abbrev pub colon : Plain
colon = mark 58
