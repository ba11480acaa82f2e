-- Trees of operations by a table of rows: a head, the slots of its row, blocks in braces with headers, regions behind
-- one another, and what stands behind them; within limits of nesting and number, and with terminators that may be left
-- out.
use Rattle.std.specs.Prelude.{◌≡◌, ℕ, zero, suc, ◌+◌, List, [], ◌∷◌, ◌++◌, Ok, Err, Bool, true, false, not, ◌&&◌}
use Rattle.std.specs.Prelude.{if◌then◌else◌, nat_lt}
use Rattle.xf_lex.specs.declared.token.Token.{Token}
use Rattle.xf_grammar.specs.Tokens.{Terminal, the_end, terminal, terminal_at, is_kind, open_brace, close_brace}
use Rattle.xf_grammar.specs.Reading.{Out, ◌>>=◌, one_too_many}
use Rattle.xf_grammar.specs.Grammar.{Grammar, Language, read, blank, line, gap_of, Spaced, spaced, tokens_of, begun}
use Rattle.xf_grammar.specs.Grammar.{Fill, written, tells, fits, first_seen, Lawful}

-- the regions of an operation: none; or one and so many others at most, each behind a token that passes this test and
-- is written so
pub data Shape (X : Type 0) : Type 0 where
  bare : Shape X
  regions : (gap : Bool) (test : X) (between : Terminal) (others : ℕ) → Shape X

-- R are the rows, V the levels; P is what is kept of an operation that was read, and S what it says
pub record Format (A T K D X M R V P S : Type 0) : Type 0 where
  pub language : Language A T K D X M
  pub empty : A
  pub nothing : T
  pub parts : A → P
  pub says : T → S
  -- the head of an operation of a level, and which row it is
  pub head : V → Grammar K D X M
  pub row : P → R
  pub row_said : S → R
  -- what each row has: its slots, its regions, what begins each of them, and what stands behind them
  pub slots : R → Grammar K D X M
  pub shape : R → Shape X
  pub header : R → Grammar K D X M
  pub tail : R → Grammar K D X M
  -- the level inside its regions, and behind an operation of a level
  pub inside : R → V
  pub behind : V → V
  -- whether the terminator of its blocks may be left out, and which rows are terminators
  pub ends_open : P → Bool
  pub ends_open_said : S → Bool
  pub is_terminator : R → Bool
  -- how many regions may be open, and how many operations there may be
  pub most_open : ℕ
  pub most_nodes : ℕ
  -- what is due where a block of a row begins, where one ends, where one is too deep, and where an operation is one too
  -- many
  pub due_open : R → D
  pub due_close : D
  pub due_nest : D
  pub due_many : D

mutual
  -- operations in order, each with the number of its first token
  pub data Nodes (P : Type 0) : Type 0 where
    no_nodes : Nodes P
    node : (first : ℕ) (parts : P) (bodies : Bodies P) (rest : Nodes P) → Nodes P

  -- the blocks of an operation in order, each with the number of the token that closes it
  pub data Bodies (P : Type 0) : Type 0 where
    no_bodies : Bodies P
    body : (nodes : Nodes P) (close : ℕ) (rest : Bodies P) → Bodies P

-- one operation, with all that it holds, and one block
pub record Tree (P : Type 0) : Type 0 where
  pub first : ℕ
  pub parts : P
  pub bodies : Bodies P

pub record Block (P : Type 0) : Type 0 where
  pub nodes : Nodes P
  pub close : ℕ

abbrev pub tree : {P : Type 0} → ℕ → P → Bodies P → Tree P
tree first p bs = record { first = first; parts = p; bodies = bs }

abbrev pub block : {P : Type 0} → Nodes P → ℕ → Block P
block ns close = record { nodes = ns; close = close }

-- an operation before others
abbrev pub cons : {P : Type 0} → Tree P → Nodes P → Nodes P
cons t rest = node t.first t.parts t.bodies rest

-- ---- reading

-- a brace that closes, or the end
abbrev pub closes : Terminal → Bool
closes the_end = true
closes (terminal k bytes) = is_kind close_brace (terminal k bytes)

abbrev pub ends_in : {R P : Type 0} → (P → R) → (R → Bool) → Nodes P → Bool
ends_in row ends no_nodes = false
ends_in row ends (node first p bs no_nodes) = ends (row p)
ends_in row ends (node first p bs (node first' p' bs' rest)) = ends_in row ends (node first' p' bs' rest)

-- whether a block of an operation lacks the terminator that it is to end in
abbrev pub lacks : {A T K D X M R V P S : Type 0} → Format A T K D X M R V P S → P → Nodes P → Bool
lacks F p ns = F.ends_open p && not (ends_in F.row F.is_terminator ns)

-- what is read, how many operations begin up to its end, and the number of the token behind it
abbrev pub Counted : Type 0 → Type 0 → Type 0
Counted B D = Out (B × ℕ) D

-- a reading from a number of operations and a token on
abbrev pub From : Type 0 → Type 0 → Type 0
From B D = ℕ → ℕ → Counted B D

-- an operation begins at this token; one too many is refused there, unless it has another fault at this very token
abbrev pub limited : {B D : Type 0} → ℕ → D → ℕ → ℕ → Out B D → Out B D
limited most full count at r = if nat_lt count most then r else one_too_many at full r

-- the brace that closes a block, with the terminator that is left out before it
abbrev pub ended : {P D : Type 0} → ℕ → D → Bool → Nodes P → ℕ → ℕ → Counted (Block P) D
ended most full lacking ns count at =
    if lacking
    then (if nat_lt count most then Ok ((block ns at, count + 1), at + 1) else Err (at, full))
    else Ok ((block ns at, count), at + 1)

abbrev pub shut : {A T K D X M R V P S : Type 0} → Format A T K D X M R V P S → List Token → P → Nodes P → ℕ → ℕ
    → Counted (Block P) D
shut F all p ns count at =
    if is_kind close_brace (terminal_at all at)
    then ended F.most_nodes F.due_many (lacks F p ns) ns count at
    else Err (at, F.due_close)

-- a block in braces, inside so many open regions: what its header adds to what was read of the operation, and its
-- operations
abbrev pub block_at : {A T K D X M R V P S : Type 0} → Format A T K D X M R V P S → ℕ → List Token
    → (V → ℕ → From (Nodes P) D) → R → ℕ → A → From (A × Block P) D
block_at F n all inner r depth h count at =
    if is_kind open_brace (terminal_at all at)
    then (if nat_lt depth F.most_open
    then (read F.language n (F.header r) all h (at + 1)
    >>= λ k. inner (F.inside r) (depth + 1) count k.1
    >>= λ x. shut F all (F.parts k.0) x.0.0 x.0.1 x.1
    >>= λ b. Ok (((k.0, b.0.0), b.0.1), b.1))
    else Err (at, F.due_nest))
    else Err (at, F.due_open r)

-- further blocks, each behind a token that passes the test
abbrev pub others_at : {A P D : Type 0} → ℕ → (Terminal → A → Bool) → List Token → (A → From (A × Block P) D) → A
    → From (A × Bodies P) D
others_at zero test all one h count at = Ok (((h, no_bodies), count), at)
others_at (suc o) test all one h count at =
    if test (terminal_at all at) h
    then (one h count (at + 1)
    >>= λ x. others_at o test all one x.0.0.0 x.0.1 x.1
    >>= λ r. Ok (((r.0.0.0, body x.0.0.1.nodes x.0.0.1.close r.0.0.1), r.0.1), r.1))
    else Ok (((h, no_bodies), count), at)

abbrev pub bodies_at : {A P D X : Type 0} → (X → Terminal → A → Bool) → Shape X → List Token
    → (A → From (A × Block P) D) → A → From (A × Bodies P) D
bodies_at passes bare all one h count at = Ok (((h, no_bodies), count), at)
bodies_at passes (regions gap x t o) all one h count at =
    one h count at
    >>= λ b. others_at o (passes x) all one b.0.0.0 b.0.1 b.1
    >>= λ r. Ok (((r.0.0.0, body b.0.0.1.nodes b.0.0.1.close r.0.0.1), r.0.1), r.1)

-- the head of an operation and its slots: the row, and what is read
abbrev pub head_at : {A T K D X M R V P S : Type 0} → Format A T K D X M R V P S → ℕ → List Token → V → ℕ
    → Out (R × A) D
head_at F n all l at =
    read F.language n (F.head l) all F.empty at
    >>= λ h. read F.language n (F.slots (F.row (F.parts h.0))) all h.0 h.1
    >>= λ s. Ok ((F.row (F.parts h.0), s.0), s.1)

-- an operation, the operations of its blocks read by inner
abbrev pub node_at : {A T K D X M R V P S : Type 0} → Format A T K D X M R V P S → ℕ → List Token
    → (V → ℕ → From (Nodes P) D) → V → ℕ → From (Tree P) D
node_at F n all inner l depth count at =
    limited F.most_nodes F.due_many count at (head_at F n all l at)
    >>= λ h. bodies_at F.language.passes (F.shape h.0.0) all (block_at F n all inner h.0.0 depth) h.0.1 (count + 1) h.1
    >>= λ bs. read F.language n (F.tail h.0.0) all bs.0.0.0 bs.1
    >>= λ t. Ok ((tree at (F.parts t.0) bs.0.0.1, bs.0.1), t.1)

-- operations up to a brace or the end; f is more than the tokens that are left, n at least all
abbrev pub nodes_at : {A T K D X M R V P S : Type 0} → Format A T K D X M R V P S → ℕ → ℕ → List Token → V → ℕ
    → From (Nodes P) D
nodes_at F n zero all l depth count at = Err (at, F.due_close)
nodes_at F n (suc f) all l depth count at =
    if closes (terminal_at all at) then Ok ((no_nodes, count), at)
    else (node_at F n all (nodes_at F n f all) l depth count at
    >>= λ x. nodes_at F n f all (F.behind l) depth x.0.1 x.1
    >>= λ rest. Ok ((cons x.0.0 rest.0.0, rest.0.1), rest.1))

-- ---- writing

mutual
  -- operations in order: how the head, the slots, the blocks and the tail of each are filled
  pub data Docs : Type 0 where
    no_docs : Docs
    doc : (head slots : Fill) (blocks : Blocks) (tail : Fill) (rest : Docs) → Docs

  -- the header and the operations of each block
  pub data Blocks : Type 0 where
    no_blocks : Blocks
    a_block : (header : Fill) (docs : Docs) (rest : Blocks) → Blocks

-- what a filled head says, and its row
abbrev pub head_says : {A T K D X M R V P S : Type 0} → Format A T K D X M R V P S → V → Fill → T
head_says F l p = tells F.language (F.head l) p F.nothing

abbrev pub row_of : {A T K D X M R V P S : Type 0} → Format A T K D X M R V P S → V → Fill → R
row_of F l p = F.row_said (F.says (head_says F l p))

abbrev pub slots_say : {A T K D X M R V P S : Type 0} → Format A T K D X M R V P S → V → Fill → Fill → T
slots_say F l p s = tells F.language (F.slots (row_of F l p)) s (head_says F l p)

-- and its headers
abbrev pub headers_say : {A T K D X M R V P S : Type 0} → Format A T K D X M R V P S → R → Blocks → T → T
headers_say F r no_blocks t = t
headers_say F r (a_block h ds rest) t = headers_say F r rest (tells F.language (F.header r) h t)

abbrev pub tail_says : {A T K D X M R V P S : Type 0} → Format A T K D X M R V P S → R → Blocks → Fill → T → T
tail_says F r bs q t = tells F.language (F.tail r) q (headers_say F r bs t)

-- what stands before a region: nothing before the first one
abbrev pub between : {X : Type 0} → Shape X → Bool → List Spaced
between bare b = []
between (regions gap x t o) true = []
between (regions gap x t o) false = spaced (gap_of gap) t ∷ []

-- each operation begins a line, and so do the header of a block and the brace that closes it
abbrev mutual
  pub docs_written : {A T K D X M R V P S : Type 0} → Format A T K D X M R V P S → V → ℕ → Docs → List Spaced
  docs_written F l margin no_docs = []
  docs_written F l margin (doc p s bs q rest) =
      begun (line margin) (written F.language (F.head l) p)
      ++ (written F.language (F.slots (row_of F l p)) s
      ++ (blocks_written F (row_of F l p) margin true bs
      ++ (written F.language (F.tail (row_of F l p)) q ++ docs_written F (F.behind l) margin rest)))

  pub blocks_written : {A T K D X M R V P S : Type 0} → Format A T K D X M R V P S → R → ℕ → Bool → Blocks → List Spaced
  blocks_written F r margin first no_blocks = []
  blocks_written F r margin first (a_block h ds rest) =
      between (F.shape r) first
      ++ (spaced blank (terminal open_brace [])
      ∷ (begun (line margin) (written F.language (F.header r) h)
      ++ (docs_written F (F.inside r) (margin + 1) ds
      ++ (spaced (line margin) (terminal close_brace []) ∷ blocks_written F r margin false rest))))

-- ---- which fillings fit

-- tokens that begin an operation
abbrev pub begins : List Spaced → Bool
begins [] = false
begins (p ∷ ps) = not (closes p.token)

abbrev pub follow : List Spaced → Terminal → Terminal
follow ps y = first_seen (tokens_of ps) y

-- whether another region may stand there, or none
abbrev pub may_go : {T X : Type 0} → (X → Terminal → T → Bool) → Shape X → ℕ → Bool → T → Bool
may_go allows bare k first t = false
may_go allows (regions gap x b o) k true t = true
may_go allows (regions gap x b o) zero false t = false
may_go allows (regions gap x b o) (suc k) false t = allows x b t

abbrev pub may_end : {T X : Type 0} → (X → Terminal → T → Bool) → Shape X → ℕ → Bool → Terminal → T → Bool
may_end allows bare k first y t = true
may_end allows (regions gap x b o) k true y t = false
may_end allows (regions gap x b o) zero false y t = true
may_end allows (regions gap x b o) (suc k) false y t = not (allows x y t)

abbrev pub others_of : {X : Type 0} → Shape X → ℕ
others_of bare = 0
others_of (regions gap x t o) = o

-- how many others may stand behind a region
abbrev pub fewer : Bool → ℕ → ℕ
fewer true k = k
fewer false zero = zero
fewer false (suc k) = k

abbrev mutual
  pub docs_fit : {A T K D X M R V P S : Type 0} → Format A T K D X M R V P S → V → ℕ → Docs → Terminal → Bool
  docs_fit F l depth no_docs y = closes y
  docs_fit F l depth (doc p s bs q rest) y =
      begins (written F.language (F.head l) p)
      && (fits F.language (F.head l) p
      (follow (written F.language (F.slots (row_of F l p)) s
      ++ (blocks_written F (row_of F l p) 0 true bs
      ++ (written F.language (F.tail (row_of F l p)) q ++ docs_written F (F.behind l) 0 rest))) y)
      F.nothing
      && (fits F.language (F.slots (row_of F l p)) s
      (follow (blocks_written F (row_of F l p) 0 true bs
      ++ (written F.language (F.tail (row_of F l p)) q ++ docs_written F (F.behind l) 0 rest)) y)
      (head_says F l p)
      && (blocks_fit F (row_of F l p) depth (others_of (F.shape (row_of F l p))) true bs
      (follow (written F.language (F.tail (row_of F l p)) q ++ docs_written F (F.behind l) 0 rest) y)
      (slots_say F l p s)
      && (fits F.language (F.tail (row_of F l p)) q (follow (docs_written F (F.behind l) 0 rest) y)
      (headers_say F (row_of F l p) bs (slots_say F l p s))
      && docs_fit F (F.behind l) depth rest y))))

  pub blocks_fit : {A T K D X M R V P S : Type 0} → Format A T K D X M R V P S → R → ℕ → ℕ → Bool → Blocks → Terminal
      → T → Bool
  blocks_fit F r depth k first no_blocks y t = may_end F.language.allows (F.shape r) k first y t
  blocks_fit F r depth k first (a_block h ds rest) y t =
      may_go F.language.allows (F.shape r) k first t
      && (nat_lt depth F.most_open
      && (fits F.language (F.header r) h (follow (docs_written F (F.inside r) 0 ds) (terminal close_brace [])) t
      && (docs_fit F (F.inside r) (depth + 1) ds (terminal close_brace [])
      && blocks_fit F r depth (fewer first k) false rest y (tells F.language (F.header r) h t))))

-- ---- what is said

mutual
  -- operations in order, each by what its own tokens say
  pub data SaidNodes (S : Type 0) : Type 0 where
    no_nodes_said : SaidNodes S
    node_said : (says : S) (bodies : SaidBodies S) (rest : SaidNodes S) → SaidNodes S

  pub data SaidBodies (S : Type 0) : Type 0 where
    no_bodies_said : SaidBodies S
    body_said : (nodes : SaidNodes S) (rest : SaidBodies S) → SaidBodies S

abbrev mutual
  pub nodes_said : {P S : Type 0} → (P → S) → Nodes P → SaidNodes S
  nodes_said said no_nodes = no_nodes_said
  nodes_said said (node first p bs rest) = node_said (said p) (bodies_said said bs) (nodes_said said rest)

  pub bodies_said : {P S : Type 0} → (P → S) → Bodies P → SaidBodies S
  bodies_said said no_bodies = no_bodies_said
  bodies_said said (body ns close rest) = body_said (nodes_said said ns) (bodies_said said rest)

abbrev mutual
  pub docs_say : {A T K D X M R V P S : Type 0} → Format A T K D X M R V P S → V → Docs → SaidNodes S
  docs_say F l no_docs = no_nodes_said
  docs_say F l (doc p s bs q rest) =
      node_said (F.says (tail_says F (row_of F l p) bs q (slots_say F l p s))) (blocks_say F (row_of F l p) bs)
      (docs_say F (F.behind l) rest)

  pub blocks_say : {A T K D X M R V P S : Type 0} → Format A T K D X M R V P S → R → Blocks → SaidBodies S
  blocks_say F r no_blocks = no_bodies_said
  blocks_say F r (a_block h ds rest) = body_said (docs_say F (F.inside r) ds) (blocks_say F r rest)

-- ---- how many operations there are, with the terminators that are left out

abbrev pub said_ends_in : {R S : Type 0} → (S → R) → (R → Bool) → SaidNodes S → Bool
said_ends_in row ends no_nodes_said = false
said_ends_in row ends (node_said t bs no_nodes_said) = ends (row t)
said_ends_in row ends (node_said t bs (node_said t' bs' rest)) = said_ends_in row ends (node_said t' bs' rest)

-- one or none
abbrev pub left_out : {A T K D X M R V P S : Type 0} → Format A T K D X M R V P S → S → SaidNodes S → ℕ
left_out F t ns = if F.ends_open_said t && not (said_ends_in F.row_said F.is_terminator ns) then 1 else 0

abbrev mutual
  pub operations : {A T K D X M R V P S : Type 0} → Format A T K D X M R V P S → SaidNodes S → ℕ
  operations F no_nodes_said = 0
  operations F (node_said t bs rest) = 1 + (operations_inside F t bs + operations F rest)

  pub operations_inside : {A T K D X M R V P S : Type 0} → Format A T K D X M R V P S → S → SaidBodies S → ℕ
  operations_inside F t no_bodies_said = 0
  operations_inside F t (body_said ns rest) = operations F ns + (left_out F t ns + operations_inside F t rest)

-- ---- a format whose two sides agree on a text

-- a token that passes the test between regions is the one that is written there
abbrev pub Parted : {A T K D X M : Type 0} → Language A T K D X M → List Token → Shape X → Type 0
Parted {T = T} L all bare = Unit {0}
Parted {T = T} L all (regions gap x b o) =
    (at : ℕ) (t : T) → L.allows x (terminal_at all at) t ≡ true → terminal_at all at ≡ b

-- what a grammar adds leaves the row of an operation, and whether the terminator of its blocks may be left out
abbrev pub LeavesRow : {A T K D X M R V P S : Type 0} → Format A T K D X M R V P S → R
    → Grammar K D X M → Type 0
LeavesRow {T = T} F r g =
    (p : Fill) (t : T) → F.row_said (F.says t) ≡ r → F.row_said (F.says (tells F.language g p t)) ≡ r

abbrev pub LeavesOpen : {A T K D X M R V P S : Type 0} → Format A T K D X M R V P S → R
    → Grammar K D X M → Type 0
LeavesOpen {T = T} F r g =
    (p : Fill) (t : T) → F.row_said (F.says t) ≡ r
    → F.ends_open_said (F.says (tells F.language g p t)) ≡ F.ends_open_said (F.says t)

-- the first token of what a grammar writes does not close
abbrev pub Opens : {A T K D X M R V P S : Type 0} → Format A T K D X M R V P S → Grammar K D X M → Type 0
Opens F g = (p : Fill) (y : Terminal) → fits F.language g p y F.nothing ≡ true → begins (written F.language g p) ≡ true

-- `said`: what is kept of an operation says so much
pub record Fitting {A T K D X M R V P S : Type 0} (F : Format A T K D X M R V P S) (all : List Token)
    (Says : A → T → Type 0) (said : P → S) : Type 0 where
  pub lawful : Lawful F.language all Says
  pub said_empty : Says F.empty F.nothing
  pub kept : (h : A) (t : T) → Says h t → said (F.parts h) ≡ F.says t
  pub row_kept : (p : P) → F.row_said (said p) ≡ F.row p
  pub open_kept : (p : P) → F.ends_open_said (said p) ≡ F.ends_open p
  pub head_opens : (l : V) → Opens F (F.head l)
  pub slots_row : (r : R) → LeavesRow F r (F.slots r)
  pub header_row : (r : R) → LeavesRow F r (F.header r)
  pub header_open : (r : R) → LeavesOpen F r (F.header r)
  pub tail_open : (r : R) → LeavesOpen F r (F.tail r)
  pub parted : (r : R) → Parted F.language all (F.shape r)
