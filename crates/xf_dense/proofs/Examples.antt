-- Bodies of small texts, each before a >.
use Rattle.std.proofs.Common.{◌≡◌, ℕ, List, [], ◌∷◌, ◌++◌, Option, Some, None, Ok, Err, true, false, refl}
use Rattle.std.specs.Prelude.{codes, length}
use Rattle.xf_lex.specs.declared.token.Token.{Token}
use Rattle.xf_lex.specs.declared.token.TokenKind.{TokenKind}
use Rattle.xf_lex.specs.declared.token.TokenKind.TheVariants as kind
use Rattle.xf_grammar.specs.Grammar.{scan_at}
use Rattle.xf_grammar.specs.Reading.{Out}
use Rattle.xf_dense.specs.declared.body.Literal.{Literal}
use Rattle.xf_dense.specs.declared.body.Literal.TheVariants.{Truth, Integer}
use Rattle.xf_dense.specs.declared.expected.Due.{Due}
use Rattle.xf_dense.specs.declared.expected.Due.TheVariants as due
use Rattle.xf_dense.specs.Actions.{Reading, free, no_body}
use Rattle.xf_dense.specs.Machine.{language, start}

abbrev of : TokenKind → List ℕ → Token
of k bytes = record { kind = k; bytes = bytes; place = record { line = 1; col = 1 } }

abbrev mark : ℕ → Token
mark b = of (kind.Mark b) (b ∷ [])

abbrev digit : ℕ → Token
digit b = of kind.Integer (b ∷ [])

abbrev word : List ℕ → Token
word bytes = of kind.Word bytes

-- what is read of these tokens before a >
abbrev read_of : List Token → Out Reading Due
read_of ts = scan_at language (length (ts ++ mark 62 ∷ [])) (ts ++ mark 62 ∷ []) start (free no_body) 0

abbrev gives : List Token → List Literal → Option (List ℕ) → ℕ → Type 0
gives ts ls es next = let o : Out Reading Due = Ok
    (free (record { literals = ls; extents = es }), next) in read_of ts ≡ o

abbrev refused : List Token → ℕ → Due → Type 0
refused ts i d = let o : Out Reading Due = Err (i, d) in read_of ts ≡ o

nothing_is_read : gives [] [] None 0
nothing_is_read = refl

-- 7
one_literal : gives (digit 55 ∷ []) (Integer false 0 ∷ []) None 1
one_literal = refl

-- [-1]
one_item : gives (mark 91 ∷ mark 45 ∷ digit 49 ∷ mark 93 ∷ []) (Integer true 2 ∷ []) (Some (1 ∷ [])) 4
one_item = refl

-- [true, false]
truths : gives (mark 91 ∷ word (codes "true") ∷ mark 44 ∷ word (codes "false") ∷ mark 93 ∷ []) (Truth true ∷ Truth false ∷ []) (Some (2 ∷ [])) 5
truths = refl

-- [[1, 2, 3], [4, 5, 6]]
rows : gives (mark 91 ∷ mark 91 ∷ digit 49 ∷ mark 44 ∷ digit 50 ∷ mark 44 ∷ digit 51 ∷ mark 93 ∷ mark 44 ∷ mark 91 ∷ digit 52 ∷ mark 44 ∷ digit 53 ∷ mark 44 ∷ digit 54 ∷ mark 93 ∷ mark 93 ∷ [])
    (Integer false 2 ∷ Integer false 4 ∷ Integer false 6 ∷ Integer false 10 ∷ Integer false 12 ∷ Integer false 14 ∷ [])
    (Some (2 ∷ 3 ∷ [])) 17
rows = refl

-- ---- refusals, at the first token that does not fit

-- []
no_item : refused (mark 91 ∷ mark 93 ∷ []) 1 due.Item
no_item = refl

-- [1,]
no_item_behind_comma : refused (mark 91 ∷ digit 49 ∷ mark 44 ∷ mark 93 ∷ []) 3 due.Item
no_item_behind_comma = refl

-- [[1, 2], [3]]
too_few : refused (mark 91 ∷ mark 91 ∷ digit 49 ∷ mark 44 ∷ digit 50 ∷ mark 93 ∷ mark 44 ∷ mark 91 ∷ digit 51 ∷ mark 93 ∷ mark 93 ∷ []) 9 due.Other
too_few = refl

-- [[1], [2, 3]]
too_many : refused (mark 91 ∷ mark 91 ∷ digit 49 ∷ mark 93 ∷ mark 44 ∷ mark 91 ∷ digit 50 ∷ mark 44 ∷ digit 51 ∷ mark 93 ∷ mark 93 ∷ []) 7 due.Other
too_many = refl

-- [1, [2]] and [[1], 2]
too_deep : refused (mark 91 ∷ digit 49 ∷ mark 44 ∷ mark 91 ∷ digit 50 ∷ mark 93 ∷ mark 93 ∷ []) 3 due.Other
too_deep = refl

too_flat : refused (mark 91 ∷ mark 91 ∷ digit 49 ∷ mark 93 ∷ mark 44 ∷ digit 50 ∷ mark 93 ∷ []) 5 due.Other
too_flat = refl

-- [1 2] and 1 2
no_comma : refused (mark 91 ∷ digit 49 ∷ digit 50 ∷ mark 93 ∷ []) 2 due.Other
no_comma = refl

two_literals : refused (digit 49 ∷ digit 50 ∷ []) 1 due.Other
two_literals = refl

-- - [
no_digits : refused (mark 45 ∷ mark 91 ∷ []) 1 due.Other
no_digits = refl
