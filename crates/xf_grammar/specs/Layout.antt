-- The bytes of tokens with what stands before them, and the tokens of a text that is laid out, as a grammar sees them.
use Rattle.std.specs.Prelude.{ℕ, ◌*◌, List, [], ◌∷◌, ◌++◌, map, codes, replicate}
use Rattle.std.specs.List.{flat_map}
use Rattle.xf_lex.specs.declared.token.TokenKind.TheVariants as kind
use Rattle.xf_lex.specs.Layout.{Plain}
use Rattle.xf_grammar.specs.Tokens.{Terminal, the_end, terminal, telling}
use Rattle.xf_grammar.specs.Grammar.{Gap, none, blank, line, Spaced}

-- ---- from bytes

abbrev pub terminal_plain : Plain → Terminal
terminal_plain p = terminal p.kind (telling p.kind p.bytes)

abbrev pub terminals_plain : List Plain → List Terminal
terminals_plain ps = map terminal_plain ps

-- ---- to bytes

-- a line begins with two blanks for each level
abbrev pub gap_text : Gap → List ℕ
gap_text none = []
gap_text blank = codes " "
gap_text (line level) = 10 ∷ replicate (2 * level) 32

-- an arrow and a mark are told by their kinds
abbrev pub token_text : Terminal → List ℕ
token_text the_end = []
token_text (terminal kind.Arrow bytes) = codes "->"
token_text (terminal (kind.Mark b) bytes) = b ∷ []
token_text (terminal k bytes) = bytes

abbrev pub spaced_text : Spaced → List ℕ
spaced_text p = gap_text p.gap ++ token_text p.token

abbrev pub text : List Spaced → List ℕ
text ps = flat_map spaced_text ps
