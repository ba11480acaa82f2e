-- The schedule of a run: one step that erases dead code.
use Rattle.std.specs.Prelude.{◌≡◌, ℕ, List, [], ◌∷◌, ◌++◌, map, Bool, true, false, codes}
use Rattle.xf_lex.specs.declared.token.Token.{Token}
use Rattle.xf_lex.specs.declared.token.TokenKind.TheVariants as kind
use Rattle.xf_lex.specs.Layout.{Plain, plain}
use Rattle.xf_lex.specs.Lexes.{Lexes}
use Rattle.xf_text.specs.Tokens.{Name, token, word, value, mark, colon}

-- `!transform.any_op`
abbrev pub any_op : Plain
any_op = token kind.DialectType (codes "!transform.any_op")

-- `transform.yield`, or nothing
abbrev pub yield_tokens : Bool → List Plain
yield_tokens true = word (codes "transform.yield") ∷ []
yield_tokens false = []

-- the main sequence, its argument of this name, and `transform.apply_dce to` it
abbrev pub script_tokens : Name → Bool → List Plain
script_tokens argument yields =
    word (codes "module") ∷ word (codes "attributes")
    ∷ mark 123 ∷ word (codes "transform.with_named_sequence") ∷ mark 125 ∷ mark 123
    ∷ word (codes "transform.named_sequence") ∷ token kind.Symbol (codes "@__transform_main")
    ∷ mark 40 ∷ value argument ∷ colon ∷ any_op ∷ mark 41 ∷ mark 123
    ∷ word (codes "transform.apply_dce") ∷ word (codes "to") ∷ value argument ∷ colon ∷ any_op
    ∷ (yield_tokens yields ++ (mark 125 ∷ mark 125 ∷ []))

-- a text is the schedule that erases the dead code of its argument
pub record IsScript (bytes : List ℕ) : Type 0 where
  pub argument : Name
  pub yields : Bool
  pub tokens : List Token
  pub lexes : Lexes bytes tokens
  pub are : map plain tokens ≡ script_tokens argument yields
