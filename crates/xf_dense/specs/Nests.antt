-- The body of a dense constant (MLIR: DenseIntOrFPElementsAttr), as it is written: nothing, one literal, or nested
-- lists.
use Rattle.std.specs.Prelude.{◌≡◌, ⊤, ℕ, suc, List, [], ◌∷◌, ◌++◌, Option, Some, None, Bool, true, false, codes}
use Rattle.xf_lex.specs.declared.token.TokenKind.{TokenKind}
use Rattle.xf_lex.specs.declared.token.TokenKind.TheVariants as kind
use Rattle.xf_grammar.specs.Tokens.{Terminal, terminal, comma, minus, open_bracket}

abbrev pub close_bracket : TokenKind
close_bracket = kind.Mark 93

abbrev pub close_angle : TokenKind
close_angle = kind.Mark 62

-- ---- literals

-- true or false, or an integer by its decimal digits, with a - before them or not
pub data LiteralToken : Type 0 where
  truth : (b : Bool) → LiteralToken
  integer : (negative : Bool) (digits : List ℕ) → LiteralToken

abbrev pub truth_word : Bool → List ℕ
truth_word true = codes "true"
truth_word false = codes "false"

abbrev pub literal_tokens : LiteralToken → List Terminal
literal_tokens (truth b) = terminal kind.Word (truth_word b) ∷ []
literal_tokens (integer false digits) = terminal kind.Integer digits ∷ []
literal_tokens (integer true digits) = terminal minus [] ∷ terminal kind.Integer digits ∷ []

-- ---- nested lists

mutual
  -- an item: a literal, or a list of items
  pub data Nest : Type 0 where
    leaf : (x : LiteralToken) → Nest
    list : (items : Nests) → Nest

  -- one item, or one before others
  pub data Nests : Type 0 where
    last : (item : Nest) → Nests
    next : (item : Nest) (rest : Nests) → Nests

abbrev mutual
  pub nest_tokens : Nest → List Terminal
  nest_tokens (leaf x) = literal_tokens x
  nest_tokens (list items) = terminal open_bracket [] ∷ (nests_tokens items ++ terminal close_bracket [] ∷ [])

  pub nests_tokens : Nests → List Terminal
  nests_tokens (last t) = nest_tokens t
  nests_tokens (next t ts) = nest_tokens t ++ terminal comma [] ∷ nests_tokens ts

-- the literals in the order of the text
abbrev mutual
  pub leaves : Nest → List LiteralToken
  leaves (leaf x) = x ∷ []
  leaves (list items) = nests_leaves items

  pub nests_leaves : Nests → List LiteralToken
  nests_leaves (last t) = leaves t
  nests_leaves (next t ts) = leaves t ++ nests_leaves ts

abbrev pub count : Nests → ℕ
count (last t) = 1
count (next t ts) = suc (count ts)

-- the shape of a literal is (), and that of a list of n items of one shape is n and then that shape; a ragged list
-- has none
abbrev mutual
  pub HasShape : Nest → List ℕ → Type 0
  HasShape (leaf x) [] = ⊤
  HasShape (leaf x) (n ∷ extents) = ⊥
  HasShape (list items) [] = ⊥
  HasShape (list items) (n ∷ extents) = (count items ≡ n) × AllHaveShape items extents

  pub AllHaveShape : Nests → List ℕ → Type 0
  AllHaveShape (last t) extents = HasShape t extents
  AllHaveShape (next t ts) extents = HasShape t extents × AllHaveShape ts extents

-- ---- bodies

-- nothing, or an item
abbrev pub body_tokens : Option Nest → List Terminal
body_tokens None = []
body_tokens (Some t) = nest_tokens t

-- one literal stands for elements of any shape
abbrev pub extents_said : Nest → List ℕ → Option (List ℕ)
extents_said (leaf x) extents = None
extents_said (list items) extents = Some extents
