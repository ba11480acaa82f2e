-- How the reader of schedules goes over tokens, from the front on: what it reads, and the tokens that are left.
-- Contracts of private functions cite it; what is read is exactly what `script_tokens` writes, which is proved beside
-- it.
use Rattle.std.specs.Prelude.{◌≡◌, List, [], ◌∷◌, Option, Some, None, Bool, false, ◌&&◌, if◌then◌else◌, codes}
use Rattle.std.specs.Str.{bytes_eq}
use Rattle.xf_lex.specs.contracts.token.TokenKindPartialEq.TheImpl as kind_eq
use Rattle.xf_lex.specs.declared.token.TokenKind.{TokenKind}
use Rattle.xf_lex.specs.declared.token.TokenKind.TheVariants as kind
use Rattle.xf_lex.specs.Layout.{Plain}
use Rattle.xf_text.specs.Tokens.{Name, token, word, mark, colon}
use Rattle.xf_text.specs.Script.{any_op}

-- ---- readings

-- what is read, and the tokens behind it
abbrev pub Front : Type 0 → Type 0
Front A = Option (A × List Plain)

infixl 10 ◌>>=◌
abbrev pub ◌>>=◌ : {A B : Type 0} → Option A → (A → Option B) → Option B
None >>= f = None
(Some x) >>= f = f x

-- what a call returned is what reading gives
abbrev pub Gives : {A B : Type 0} → (A → B) → Option A → Option B → Type 0
Gives view None read = read ≡ None
Gives view (Some x) read = read ≡ Some (view x)

-- ---- tokens

abbrev pub same_kind : TokenKind → TokenKind → Bool
same_kind = (kind_eq.ghosts).eq

abbrev pub same_token : Plain → Plain → Bool
same_token t u = same_kind t.kind u.kind && bytes_eq t.bytes u.bytes

-- what is left behind a token that stands first
abbrev pub behind : Plain → List Plain → Option (List Plain)
behind w [] = None
behind w (t ∷ ts) = if same_token t w then Some ts else None

abbrev pub behind_all : List Plain → List Plain → Option (List Plain)
behind_all [] ts = Some ts
behind_all (w ∷ ws) ts = behind w ts >>= behind_all ws

-- whether a token stands first
abbrev pub begins : Plain → List Plain → Bool
begins w [] = false
begins w (t ∷ ts) = same_token t w

-- the bytes of the first token, which is of a kind
abbrev pub bytes_front : TokenKind → List Plain → Front Name
bytes_front k [] = None
bytes_front k (t ∷ ts) = if same_kind t.kind k then Some (t.bytes, ts) else None

abbrev pub at_end : {A : Type 0} → A → List Plain → Option A
at_end x [] = Some x
at_end x (t ∷ ts) = None

-- ---- the script

-- the module and the main sequence, up to its `{`: the name of the argument
unfoldable pub sequence_front : List Plain → Front Name
sequence_front ts = do
  module_body ← behind_all
      (word (codes "module") ∷ word (codes "attributes")
      ∷ mark 123 ∷ word (codes "transform.with_named_sequence") ∷ mark 125 ∷ mark 123 ∷ []) ts
  params ← behind_all
      (word (codes "transform.named_sequence")
      ∷ token kind.Symbol (codes "@__transform_main") ∷ mark 40 ∷ []) module_body
  argument ← bytes_front kind.Value params
  after ← behind_all (colon ∷ any_op ∷ mark 41 ∷ mark 123 ∷ []) argument.1
  Some (argument.0, after)

-- the step: the name of its target
unfoldable pub step_front : List Plain → Front Name
step_front ts = do
  rest ← behind_all (word (codes "transform.apply_dce") ∷ word (codes "to") ∷ []) ts
  target ← bytes_front kind.Value rest
  after ← behind_all (colon ∷ any_op ∷ []) target.1
  Some (target.0, after)

-- the optional end of the sequence
unfoldable pub yield_front : List Plain → Option (List Plain)
yield_front ts =
    if begins (word (codes "transform.yield")) ts then behind (word (codes "transform.yield")) ts else Some ts

unfoldable pub script_front : List Plain → Front Name
script_front ts = do
  argument ← sequence_front ts
  target ← step_front argument.1
  rest ← if bytes_eq argument.0 target.0 then yield_front target.1 else None
  after ← behind_all (mark 125 ∷ mark 125 ∷ []) rest
  Some (argument.0, after)

-- a whole script: the name of its argument
unfoldable pub script_read : List Plain → Option Name
script_read ts = script_front ts >>= λ name. at_end name.0 name.1
