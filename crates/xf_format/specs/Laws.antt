-- What holds of the heads of all lists of tokens.
use Rattle.std.specs.Prelude.{◌≡◌, ℕ, suc, List, Ok, Err}
use Rattle.xf_lex.specs.declared.token.Token.{Token}
use Rattle.xf_grammar.specs.Lookahead.{Agree}
use Rattle.xf_grammar.specs.Grammar.{Fill}
use Rattle.xf_grammar.specs.Heads.{HeadStands}
use Rattle.xf_grammar.specs.Tree.{row_of, slots_say}
use Rattle.xf_format.specs.declared.expected.Expected.{Expected}
use Rattle.xf_format.specs.declared.row.Level.{Level}
use Rattle.xf_format.specs.declared.row.Row.{Row}
use Rattle.xf_format.specs.Actions.{Reading}
use Rattle.xf_format.specs.Format.{format, payload_head_at}
use Rattle.xf_format.specs.Parts.{Said, said}
use Rattle.xf_format.specs.Short.{HasShortParts}
use Rattle.xf_format.specs.Within.{PartsWithin}

-- what a head and the slots of its row say, so filled
abbrev pub head_says : Level → Fill → Fill → Said
head_says l p s = (slots_say format l p s).said

-- at this number the head of an operation of a row is read, and this is what is read of it, up to another number
abbrev pub HeadIsRead : List Token → Level → ℕ → Row → Reading → ℕ → Type 0
HeadIsRead all l at r h next = payload_head_at all l at ≡ Ok ((r, h), next)

-- reading stops at a token, and this was due there
abbrev pub HeadStops : List Token → Level → ℕ → ℕ → Expected → Type 0
HeadStops all l at i d = payload_head_at all l at ≡ Err (i, d)

-- a head that is read is written there, and says what was read
abbrev pub HeadsAreWritten : Type 0
HeadsAreWritten = (all : List Token) (l : Level) (at next : ℕ) (r : Row) (h : Reading) → HeadIsRead all l at r h next
    → (p s : Fill) × (HeadStands format all l p s at next
    × ((row_of format l p ≡ r) × (said all h.parts ≡ head_says l p s)))

-- a head that is written is read there, as what it says
abbrev pub HeadsReadAgain : Type 0
HeadsReadAgain = (all : List Token) (l : Level) (at next : ℕ) (p s : Fill) → HeadStands format all l p s at next
    → (h : Reading) × (HeadIsRead all l at (row_of format l p) h next × (said all h.parts ≡ head_says l p s))

-- the parts of a head have its row
abbrev pub HeadsHaveRows : Type 0
HeadsHaveRows = (all : List Token) (l : Level) (at next : ℕ) (r : Row) (h : Reading) → HeadIsRead all l at r h next
    → h.parts.row ≡ r

-- where reading stops at a token, no text that agrees through that token has a head there
abbrev pub NoHeadGoesOn : Type 0
NoHeadGoesOn = (all us : List Token) (l : Level) (at i : ℕ) (d : Expected) → HeadStops all l at i d
    → Agree (suc i) all us → (next : ℕ) (p s : Fill) → HeadStands format us l p s at next → ⊥

-- and reading stops there in each of them
abbrev pub StopsAgain : Type 0
StopsAgain = (all us : List Token) (l : Level) (at i : ℕ) (d : Expected) → HeadStops all l at i d
    → Agree (suc i) all us → HeadStops us l at i d

-- what is read does not depend on tokens behind the one that follows it
abbrev pub HeadsStay : Type 0
HeadsStay = (all us : List Token) (l : Level) (at next : ℕ) (r : Row) (h : Reading) → HeadIsRead all l at r h next
    → Agree (suc next) all us → HeadIsRead us l at r h next

-- no list of a head has 2 ^ 32 entries
abbrev pub HeadsAreShort : Type 0
HeadsAreShort = (all : List Token) (l : Level) (at next : ℕ) (r : Row) (h : Reading) → HeadIsRead all l at r h next
    → HasShortParts h.parts

-- each number in a head is that of a token before the one that follows it
abbrev pub HeadsAreWithin : Type 0
HeadsAreWithin = (all : List Token) (l : Level) (at next : ℕ) (r : Row) (h : Reading) → HeadIsRead all l at r h next
    → PartsWithin next h.parts
