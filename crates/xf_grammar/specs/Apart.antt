-- Which tokens may stand behind one another without a blank, and the test that no way through a grammar lets two
-- of them run together.
use Rattle.std.specs.Prelude.{◌≡◌, ◌⊎◌, ℕ, List, [], ◌∷◌, ◌++◌, length, map, Option, Some, None, Bool, true, false, not}
use Rattle.std.specs.Prelude.{◌==◌, ◌&&◌, ◌||◌, if◌then◌else◌, is_some, option_and_then, nat_lt}
use Rattle.std.specs.List.{list_all}
use Rattle.std.specs.Str.{IsUtf8}
use Rattle.xf_type.specs.Bytes.{is_digit, is_word_byte}
use Rattle.xf_lex.specs.declared.token.TokenKind.{TokenKind}
use Rattle.xf_lex.specs.declared.token.TokenKind.TheVariants as kind
use Rattle.xf_lex.specs.declared.lexeme.Lexeme.TheVariants as front
use Rattle.xf_lex.specs.Bytes.{is_name_byte}
use Rattle.xf_lex.specs.Lexemes.{token_at}
use Rattle.xf_lex.specs.Lexes.{is_tensor}
use Rattle.xf_lex.specs.Layout.{SpacedToken, layout, AllStay}
use Rattle.xf_grammar.specs.Tokens.{Terminal, the_end, terminal, telling, same_kind, comma, open_brace, close_brace}
use Rattle.xf_grammar.specs.Grammar.{Grammar, skip, refuse, take, peek, need, act, both, listed, scan, Language, Gap}
use Rattle.xf_grammar.specs.Grammar.{none, Spaced, Fill, nothing, yes, here, other, two, list, run, run_written}
use Rattle.xf_grammar.specs.Grammar.{run_fits}
use Rattle.xf_grammar.specs.Layout.{token_text, terminals_plain}
use Rattle.xf_grammar.specs.Tree.{Shape, bare, regions, Format, Docs, no_docs, doc, Blocks, no_blocks, a_block}

-- ---- tokens

-- the bytes that would go on with a token of a kind
abbrev pub goes_on : TokenKind → ℕ → Bool
goes_on kind.Value b = is_name_byte b
goes_on kind.Integer b = is_digit b
goes_on kind.Text b = false
goes_on kind.Shape b = false
goes_on kind.Arrow b = false
goes_on (kind.Mark c) b = (b == 62) && (c == 45)
goes_on k b = is_word_byte b

-- a byte that a token of a kind may begin with. All letters go on with the same tokens, and so do all digits
abbrev pub first_byte : TokenKind → ℕ
first_byte kind.Word = 97
first_byte kind.Value = 37
first_byte kind.Symbol = 64
first_byte kind.BlockName = 94
first_byte kind.Hash = 35
first_byte kind.DialectType = 33
first_byte kind.Integer = 48
first_byte kind.Text = 34
first_byte kind.Shape = 60
first_byte kind.Arrow = 45
first_byte (kind.Mark b) = b

-- behind the word tensor < begins a shape, and elsewhere it is a mark
abbrev pub in_mode : Bool → TokenKind → Bool
in_mode after_tensor kind.Shape = after_tensor
in_mode after_tensor (kind.Mark b) = not ((b == 60) && after_tensor)
in_mode after_tensor k = true

abbrev pub is_low : ℕ → Bool
is_low b = nat_lt b 128

-- a token that the lexer reads as itself where nothing else stands
pub record IsToken (k : TokenKind) (bytes : List ℕ) : Type 0 where
  pub alone :
      let text = token_text (terminal k bytes) in token_at (same_kind k kind.Shape) text ≡ front.Token k (length text)
  pub told : telling k (token_text (terminal k bytes)) ≡ bytes
  pub utf8 : IsUtf8 (token_text (terminal k bytes))

abbrev pub IsLexeme : Terminal → Type 0
IsLexeme the_end = ⊥
IsLexeme (terminal k bytes) = IsToken k bytes

abbrev pub Lexemes : List Terminal → Type 0
Lexemes [] = Unit {0}
Lexemes (x ∷ xs) = IsLexeme x × Lexemes xs

-- ---- lists of tokens

-- what stands before a place: a gap behind any token or none, or a token of a kind, which is the word tensor or not
pub data Before : Type 0 where
  a_gap : Before
  a_token : (kind : TokenKind) (tensor : Bool) → Before

abbrev pub before : Terminal → Before
before the_end = a_gap
before (terminal k bytes) = a_token k (is_tensor k bytes)

-- whether a token of a kind may stand there, behind a blank or not
abbrev pub may_stand : Before → Bool → TokenKind → Bool
may_stand a_gap gap k = in_mode true k && in_mode false k
may_stand (a_token j tensor) gap k = in_mode tensor k && (gap || not (goes_on j (first_byte k)))

abbrev pub stands : Before → Bool → Before → Bool
stands b gap a_gap = false
stands b gap (a_token k tensor) = may_stand b gap k

abbrev pub is_gap : Gap → Bool
is_gap none = false
is_gap g = true

-- no token goes on in what stands behind it
abbrev pub apart : Before → List Spaced → Bool
apart b [] = true
apart b (p ∷ ps) = stands b (is_gap p.gap) (before p.token) && apart (before p.token) ps

-- what stands before the place behind them
abbrev pub last : Before → List Spaced → Before
last b [] = b
last b (p ∷ ps) = last (before p.token) ps

-- a text is laid out of these tokens
abbrev pub IsLaidOut : List ℕ → List Terminal → Type 0
IsLaidOut text xs =
    (ws : List SpacedToken) × ((tail : List ℕ) × ((layout ws tail ≡ text)
    × (AllStay false ws tail × (IsUtf8 (layout ws tail) × (terminals_plain (map (λ w. w.token) ws) ≡ xs)))))

-- ---- grammars

-- what is known of a language: what stands before a place behind a token that passes a test, for which actions
-- there is never space, and what may stand behind the tokens of a machine
pub record Classes (K X M : Type 0) : Type 0 where
  pub class : X → List Before
  pub never : K → Bool
  pub scanned : M → List Before → Option (List Before)

abbrev pub all_stand : List Before → Bool → List Before → Bool
all_stand bs gap cs = list_all (λ b. list_all (λ c. stands b gap c) cs) bs

abbrev pub joined : Option (List Before) → Option (List Before) → Option (List Before)
joined (Some a) (Some b) = Some (a ++ b)
joined a b = None

-- what may stand before the place behind a grammar, where one of these stands before the place in front of it;
-- None where two tokens may run together
abbrev pub way : {K D X M : Type 0} → Classes K X M → Grammar K D X M → List Before → Option (List Before)
way C skip bs = Some bs
way C (refuse d) bs = Some []
way C (take gap keep x on off) bs =
    if all_stand bs gap (C.class x) then joined (way C on (C.class x)) (way C off bs) else None
way C (peek x on off) bs = joined (way C on bs) (way C off bs)
way C (need k on) bs = if C.never k then Some [] else way C on bs
way C (act k) bs = if C.never k then Some [] else Some bs
way C (both g k) bs = option_and_then (way C k) (way C g bs)
way C (listed g) bs = joined (way C g bs) (way C g (a_token comma false ∷ []))
way C (scan m) bs = C.scanned m bs

abbrev pub Among : Before → List Before → Type 0
Among b [] = ⊥
Among b (c ∷ cs) = (b ≡ c) ⊎ Among b cs

-- tokens that stand apart behind one of several, and what stands behind them
pub record StandApart (b : Before) (ps : List Spaced) (es : List Before) : Type 0 where
  pub apart : apart b ps ≡ true
  pub behind : Among (last b ps) es

-- it is known rightly
pub record Classed {A T K D X M : Type 0} (L : Language A T K D X M) (C : Classes K X M) : Type 0 where
  pub classed : (x : X) (y : Terminal) (t : T) → L.allows x y t ≡ true → Among (before y) (C.class x)
  pub never : (k : K) (t : T) → C.never k ≡ true → L.space k t ≡ false
  pub scanned : (m : M) (xs : List Terminal) (y : Terminal) (t : T) (b : Before) (bs es : List Before)
      → run_fits L m xs y t ≡ true → C.scanned m bs ≡ Some es → Among b bs → StandApart b (run_written L m xs) es

-- ---- trees

-- behind the blocks of a row, or the slots where it has none
abbrev pub tail_from : {X : Type 0} → Shape X → List Before → List Before
tail_from bare bs = bs
tail_from (regions gap x t o) bs = a_token close_brace false ∷ []

abbrev pub between_apart : {X : Type 0} → Shape X → Bool
between_apart bare = true
between_apart (regions gap x t o) = stands (a_token close_brace false) gap (before t)

-- no tokens of an operation at this level with this row may run together
abbrev pub row_apart : {A T K D X M R V P S : Type 0} → Format A T K D X M R V P S → Classes K X M → V → R → Bool
row_apart F C l r =
    is_some
    (option_and_then (λ es. way C (F.tail r) (tail_from (F.shape r) es))
    (option_and_then (way C (F.slots r)) (way C (F.head l) (a_gap ∷ []))))
    && (is_some (way C (F.header r) (a_token open_brace false ∷ [])) && between_apart (F.shape r))

abbrev pub RowsApart : {A T K D X M R V P S : Type 0} → Format A T K D X M R V P S → Classes K X M → Type 0
RowsApart {R = R} {V = V} F C = (l : V) (r : R) → row_apart F C l r ≡ true

-- ---- the tokens of fillings

abbrev pub FillLexes : Fill → Type 0
FillLexes nothing = Unit {0}
FillLexes (yes x f) = IsLexeme x × FillLexes f
FillLexes (here f) = FillLexes f
FillLexes (other f) = FillLexes f
FillLexes (two f e) = FillLexes f × FillLexes e
FillLexes (list f r) = FillLexes f × FillLexes r
FillLexes (run xs) = Lexemes xs

abbrev mutual
  pub DocsLex : Docs → Type 0
  DocsLex no_docs = Unit {0}
  DocsLex (doc p s bs q rest) = FillLexes p × (FillLexes s × (BlocksLex bs × (FillLexes q × DocsLex rest)))

  pub BlocksLex : Blocks → Type 0
  BlocksLex no_blocks = Unit {0}
  BlocksLex (a_block h ds rest) = FillLexes h × (DocsLex ds × BlocksLex rest)

abbrev pub ShapeLexes : {X : Type 0} → Shape X → Type 0
ShapeLexes bare = Unit {0}
ShapeLexes (regions gap x t o) = IsLexeme t
