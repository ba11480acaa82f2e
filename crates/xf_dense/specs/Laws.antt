-- What holds of the tokens that the machine reads before a >.
use Rattle.std.specs.Prelude.{◌≡◌, ℕ, ◌≤◌, List, [], ◌∷◌, map, length, Some, Ok, true}
use Rattle.xf_type.specs.declared.payload_type.Dim.TheVariants.{Fixed}
use Rattle.xf_type.specs.declared.payload_type.Width.{Width}
use Rattle.xf_type.specs.Limits.{most_entries}
use Rattle.xf_lex.specs.declared.token.Token.{Token}
use Rattle.xf_grammar.specs.Tokens.{Terminal, terminal, terminal_at}
use Rattle.xf_grammar.specs.Grammar.{run_fits, run_tells, AllStand}
use Rattle.xf_dense.specs.declared.body.Body.{Body}
use Rattle.xf_dense.specs.Actions.{SaidBody, free, free_said, nothing_said, said}
use Rattle.xf_dense.specs.Machine.{language, start}
use Rattle.xf_dense.specs.Nests.{Nest, nest_tokens, leaves, HasShape, extents_said, close_angle}
use Rattle.xf_dense.specs.Reading.{body_at}
use Rattle.xf_dense.specs.Printed.{literal_of, nest_of, element_count, AllPositive}

-- an item that is a whole body says its literals, and its extents where it is a list
abbrev pub nest_said : Nest → List ℕ → SaidBody
nest_said t extents = record { literals = leaves t; extents = extents_said t extents }

-- the machine takes these tokens before a >, and they say so much
abbrev pub Accepts : List Terminal → SaidBody → Type 0
Accepts xs b = (run_fits language start xs (terminal close_angle []) nothing_said ≡ true)
    × (run_tells language start xs nothing_said ≡ free_said b)

-- an item of one shape is read, as what it says
abbrev pub NestsAreRead : Type 0
NestsAreRead = (t : Nest) (extents : List ℕ) → HasShape t extents → length (leaves t) ≤ most_entries
    → Accepts (nest_tokens t) (nest_said t extents)

-- where its tokens stand in a text before a >, the body that is read there says so
abbrev pub NestsAreReadInTexts : Type 0
NestsAreReadInTexts = (all : List Token) (at next : ℕ) (t : Nest) (extents : List ℕ) → HasShape t extents
    → length (leaves t) ≤ most_entries
    → AllStand all at (nest_tokens t) next → terminal_at all next ≡ terminal close_angle []
    → (b : Body) × ((body_at all at ≡ Ok (free b, next)) × (said all b ≡ nest_said t extents))

-- for positive extents and as many numbers as there are elements: the nested lists have these extents, and the
-- numbers in order
abbrev pub PrintedListsAreEven : Type 0
PrintedListsAreEven = (width : Width) (extents ns : List ℕ) → AllPositive extents → length ns ≡ element_count extents
    → HasShape (nest_of width (map Fixed extents) ns) extents
    × (leaves (nest_of width (map Fixed extents) ns) ≡ map (literal_of width) ns)

-- and they are read
abbrev pub PrintedListsAreRead : Type 0
PrintedListsAreRead = (width : Width) (n : ℕ) (extents ns : List ℕ) → AllPositive (n ∷ extents)
    → length ns ≡ element_count (n ∷ extents) → length ns ≤ most_entries
    → Accepts (nest_tokens (nest_of width (map Fixed (n ∷ extents)) ns))
    (record { literals = map (literal_of width) ns; extents = Some (n ∷ extents) })
