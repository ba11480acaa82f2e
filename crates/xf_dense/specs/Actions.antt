-- What the actions of the machine add to a body, by the numbers of tokens, and what they say, by their bytes.
use Rattle.std.specs.Prelude.{◌≡◌, ℕ, List, [], ◌∷◌, ◌++◌, map, length, Option, Some, None, Bool, true, nat_lt, All}
use Rattle.xf_lex.specs.declared.token.Token.{Token}
use Rattle.xf_type.specs.Limits.{most_entries}
use Rattle.xf_grammar.specs.Tokens.{Terminal, terminal_at, digits_of}
use Rattle.xf_dense.specs.declared.body.Body.{Body}
use Rattle.xf_dense.specs.declared.body.Literal.{Literal}
use Rattle.xf_dense.specs.declared.body.Literal.TheVariants as read
use Rattle.xf_dense.specs.Nests.{LiteralToken, truth, integer}

pub data Action : Type 0 where
  -- the integer that is held, behind a sign or not
  integer_is : (negative : Bool) → Action
  truth_is : (b : Bool) → Action
  -- the extents of the nested lists, the outermost first
  shape_is : (extents : List ℕ) → Action

-- the first of the tokens that are held; nothing changes where none is
abbrev pub of_first : {B C : Type 0} → List B → C → (B → C) → C
of_first [] c f = c
of_first (x ∷ xs) c f = f x

-- ---- by numbers

abbrev pub no_body : Body
no_body = record { literals = []; extents = None }

abbrev pub with_literal : Literal → Body → Body
with_literal l b = record b { literals = b.literals ++ l ∷ [] }

-- the tokens that are held, with their numbers, and the body so far
pub record Reading : Type 0 where
  pub held : List (ℕ × Terminal)
  pub body : Body

abbrev pub free : Body → Reading
free b = record { held = []; body = b }

abbrev pub body_by : Action → List (ℕ × Terminal) → Body → Body
body_by (integer_is negative) hs b = of_first hs b (λ x. with_literal (read.Integer negative x.0) b)
body_by (truth_is t) hs b = with_literal (read.Truth t) b
body_by (shape_is extents) hs b = record b { extents = Some extents }

abbrev pub add : Action → Reading → Reading
add k h = free (body_by k h.held h.body)

-- ---- by bytes

pub record SaidBody : Type 0 where
  pub literals : List LiteralToken
  pub extents : Option (List ℕ)

abbrev pub no_body_said : SaidBody
no_body_said = record { literals = []; extents = None }

abbrev pub says_literal : LiteralToken → SaidBody → SaidBody
says_literal l b = record b { literals = b.literals ++ l ∷ [] }

pub record Saying : Type 0 where
  pub held : List Terminal
  pub said : SaidBody

abbrev pub free_said : SaidBody → Saying
free_said b = record { held = []; said = b }

abbrev pub nothing_said : Saying
nothing_said = free_said no_body_said

abbrev pub said_by : Action → List Terminal → SaidBody → SaidBody
said_by (integer_is negative) hs b = of_first hs b (λ x. says_literal (integer negative (digits_of x)) b)
said_by (truth_is t) hs b = says_literal (truth t) b
said_by (shape_is extents) hs b = record b { extents = Some extents }

abbrev pub tell : Action → Saying → Saying
tell k t = free_said (said_by k t.held t.said)

-- ---- room: no body has 2 ^ 32 literals

abbrev pub room : Action → Reading → Bool
room (shape_is extents) h = true
room k h = nat_lt (length h.body.literals) most_entries

abbrev pub space : Action → Saying → Bool
space (shape_is extents) t = true
space k t = nat_lt (length t.said.literals) most_entries

-- ---- from numbers to bytes

abbrev pub literal_said : List Token → Literal → LiteralToken
literal_said all (read.Truth t) = truth t
literal_said all (read.Integer negative token) = integer negative (digits_of (terminal_at all token))

abbrev pub said : List Token → Body → SaidBody
said all b = record { literals = map (literal_said all) b.literals; extents = b.extents }

-- the tokens that are held stand at their numbers
abbrev pub IsHeld : List Token → ℕ × Terminal → Type 0
IsHeld all x = terminal_at all x.0 ≡ x.1

-- what was read of a text says so much
pub record Says (all : List Token) (h : Reading) (t : Saying) : Type 0 where
  pub tokens : All (IsHeld all) h.held
  pub held : map (λ x. x.1) h.held ≡ t.held
  pub body : said all h.body ≡ t.said
