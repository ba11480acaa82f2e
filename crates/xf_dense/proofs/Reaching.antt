-- The tokens of an even nest take the machine from where an item is due to behind it.
use Rattle.std.proofs.Common.{◌≡◌, ℕ, suc, ◌+◌, ◌<◌, ◌≤◌, List, [], ◌∷◌, ◌++◌, length, Option, Some, None, Bool, true, false, refl, sym, ap, subst, ◌∙◌, arith, append_assoc}
use Rattle.std.specs.Prelude.{slice_get, reverse, nat_lt}
use Rattle.std.proofs.lemmas.Bool.{lt-ltb}
use Rattle.std.proofs.lemmas.List.{append-nil, length-append, length-reverse, reverse-append, reverse-reverse}
use Rattle.std.proofs.lemmas.Option.{slice_get_past}
use Rattle.xf_lex.specs.declared.token.TokenKind.{TokenKind}
use Rattle.xf_type.specs.Limits.{most_entries}
use Rattle.xf_grammar.specs.Tokens.{Terminal, terminal, comma, open_bracket}
use Rattle.xf_grammar.specs.Grammar.{goes, run_fits, run_tells}
use Rattle.xf_dense.specs.declared.state.Stage.TheVariants as stage
use Rattle.xf_dense.specs.declared.state.State.{State}
use Rattle.xf_dense.specs.Actions.{shape_is, SaidBody, free_said, nothing_said}
use Rattle.xf_dense.specs.Laws.{NestsAreRead, nest_said}
use Rattle.xf_dense.specs.Machine.{language, step, start, over, gap_before, takes_literals, takes_lists, behind_literal, inner, outer, wanted, may_go_on, may_end, grown}
use Rattle.xf_dense.specs.Nests.{LiteralToken, truth, integer, literal_tokens, Nest, Nests, leaf, list, last, next, nest_tokens, nests_tokens, leaves, nests_leaves, count, HasShape, AllHaveShape, close_bracket, close_angle}

-- from a state and what is said, some tokens lead to another state, where so much is said
abbrev pub Reaches : State → SaidBody → List Terminal → State → SaidBody → Type 0
Reaches s a xs m b = (rest : List Terminal) (y : Terminal)
    → (run_fits language s (xs ++ rest) y (free_said a) ≡ run_fits language m rest y (free_said b))
    × (run_tells language s (xs ++ rest) (free_said a) ≡ run_tells language m rest (free_said b))

pub chain : (xs ys : List Terminal) (s m n : State) (a b c : SaidBody) → Reaches s a xs m b → Reaches m b ys n c
    → Reaches s a (xs ++ ys) n c
chain xs ys s m n a b c f g rest y =
    rw (append_assoc xs ys rest)
    ((f (ys ++ rest) y).0 ∙ (g rest y).0, (f (ys ++ rest) y).1 ∙ (g rest y).1)

abbrev body : List LiteralToken → SaidBody
body ls = record { literals = ls; extents = None }

abbrev pub due : List ℕ → Option ℕ → List ℕ → State
due counts rank known = record { stage = stage.Item; counts = counts; rank = rank; known = known }

abbrev pub behind : List ℕ → Option ℕ → List ℕ → State
behind counts rank known = record { stage = stage.Behind; counts = counts; rank = rank; known = known }

-- a literal
literal_goes : (x : LiteralToken) (counts : List ℕ) (rank : Option ℕ) (known : List ℕ) (ls : List LiteralToken)
    → takes_literals rank ≡ true → nat_lt (length ls) most_entries ≡ true
    → Reaches (due counts rank known) (body ls) (literal_tokens x) (behind_literal counts (due counts rank known))
    (body (ls ++ x ∷ []))
literal_goes (truth true) counts rank known ls e r rest y = rw (e, r) (refl, refl)
literal_goes (truth false) counts rank known ls e r rest y = rw (e, r) (refl, refl)
literal_goes (integer false ds) counts rank known ls e r rest y = rw (e, r) (refl, refl)
literal_goes (integer true ds) [] rank known ls e r rest y = rw (e, r) (refl, refl)
literal_goes (integer true ds) (c ∷ counts) rank known ls e r rest y = rw (e, r) (refl, refl)

-- one token, by a step that says nothing, and by one that does
step_goes : (k : TokenKind) (gap : Bool) (s m : State) (b : SaidBody) → step s (terminal k []) ≡ goes gap false m None
    → Reaches s b (terminal k [] ∷ []) m b
step_goes k gap s m b e rest y = (rw e refl, rw (run_tells, e) refl)

comma_goes : (c : ℕ) (counts : List ℕ) (rank : Option ℕ) (known : List ℕ) (b : SaidBody)
    → may_go_on (wanted rank known) c ≡ true
    → Reaches (behind (c ∷ counts) rank known) b (terminal comma [] ∷ []) (due (c ∷ counts) rank known) b
comma_goes c counts rank known b e = step_goes comma false (behind (c ∷ counts) rank known)
    (due (c ∷ counts) rank known) b (rw e refl)

open_goes : (counts : List ℕ) (rank : Option ℕ) (known : List ℕ) (b : SaidBody) → takes_lists rank ≡ true
    → Reaches (due counts rank known) b (terminal open_bracket [] ∷ []) (due (0 ∷ counts) (inner rank) known) b
open_goes counts rank known b e = step_goes open_bracket (gap_before counts) (due counts rank known)
    (due (0 ∷ counts) (inner rank) known) b (rw e refl)

close_goes : (n c : ℕ) (counts : List ℕ) (rank : Option ℕ) (known m : List ℕ) (b : SaidBody)
    → may_end (wanted rank known) n ≡ true → grown (wanted rank known) n known ≡ m
    → Reaches (behind (n ∷ c ∷ counts) rank known) b (terminal close_bracket [] ∷ [])
    (behind (suc c ∷ counts) (outer rank) m) b
close_goes n c counts rank known m b e g =
    step_goes close_bracket false (behind (n ∷ c ∷ counts) rank known) (behind (suc c ∷ counts) (outer rank) m) b
    (rw (e, g) refl)

-- the outermost list
close_last : (n : ℕ) (rank : Option ℕ) (known m : List ℕ) (ls : List LiteralToken)
    → may_end (wanted rank known) n ≡ true → grown (wanted rank known) n known ≡ m
    → Reaches (behind (n ∷ []) rank known) (body ls) (terminal close_bracket [] ∷ []) over
    (record { literals = ls; extents = Some (reverse m) })
close_last n rank known m ls e g rest y =
    let s : step (behind (n ∷ []) rank known) (terminal close_bracket []) ≡ goes false false over
    (Some (shape_is (reverse m))) = rw (e, g) refl in
    (rw s refl, rw (run_tells, s) refl)

-- ---- what is known before and behind an item

-- before an item of some extents: nothing is known, or these extents are; and what is known behind it
pub data Ready (extents : List ℕ) (rank : Option ℕ) (known after : List ℕ) : Type 0 where
  fresh : rank ≡ None → known ≡ [] → after ≡ reverse extents → Ready extents rank known after
  again : (more : List ℕ) → rank ≡ Some (length extents) → known ≡ reverse extents ++ more → after ≡ known
      → Ready extents rank known after

-- before the next item
pub next_ready : (es : List ℕ) (r : Option ℕ) (k m : List ℕ) → Ready es r k m → Ready es (Some (length es)) m m
next_ready es r k m (fresh er ek em) = again [] refl (em ∙ sym (append-nil (reverse es))) refl
next_ready es r k m (again more er ek em) = again more refl (em ∙ ek) refl

pub leaf_ready : (r : Option ℕ) (k m : List ℕ) → Ready [] r k m → (takes_literals r ≡ true) × (k ≡ m)
leaf_ready r k m (fresh er ek em) = (rw er refl, ek ∙ sym em)
leaf_ready r k m (again more er ek em) = (rw er refl, sym em)

pub list_ready : (n : ℕ) (es : List ℕ) (r : Option ℕ) (k m : List ℕ) → Ready (n ∷ es) r k m → takes_lists r ≡ true
list_ready n es r k m (fresh er ek em) = rw er refl
list_ready n es r k m (again more er ek em) = rw er refl

-- a list of n items, behind which j is known, may go on up to n items and then end, and then m is known
pub record Level (n : ℕ) (es j m : List ℕ) : Type 0 where
  pub on : (c : ℕ) → c < n → may_go_on (wanted (Some (length es)) j) c ≡ true
  pub end : may_end (wanted (Some (length es)) j) n ≡ true
  pub grows : grown (wanted (Some (length es)) j) n j ≡ m

slice_get_at : (p : List ℕ) (x : ℕ) (q : List ℕ) → slice_get (p ++ x ∷ q) (length p) ≡ Some x
slice_get_at [] x q = refl
slice_get_at (y ∷ p) x q = slice_get_at p x q

reverse_cons : (n : ℕ) (es : List ℕ) → reverse (n ∷ es) ≡ reverse es ++ n ∷ []
reverse_cons n es = reverse-append (n ∷ []) es

fresh_level : (n : ℕ) (es m : List ℕ) → m ≡ reverse (n ∷ es) → Level n es (reverse es) m
fresh_level n es m e =
    let w : wanted (Some (length es)) (reverse es) ≡ None = slice_get_past (reverse es) (length es)
    (omega (arith, length-reverse es)) in
    record { on = λ c lt. rw w refl; end = rw w refl; grows = rw w (sym (e ∙ reverse_cons n es)) }

known_level : (n : ℕ) (es more j m : List ℕ) → j ≡ reverse es ++ n ∷ more → m ≡ j → Level n es j m
known_level n es more j m e f =
    let w : wanted (Some (length es)) j ≡ Some n = rw (e, sym (length-reverse es))
    (slice_get_at (reverse es) n more) in
    record { on = λ c lt. rw w (lt-ltb c n lt); end = rw w (grind arith); grows = rw w (sym f) }

-- inside a list
pub inner_ready : (n : ℕ) (es : List ℕ) (r : Option ℕ) (k m : List ℕ) → Ready (n ∷ es) r k m
    → (j : List ℕ) × (Ready es (inner r) k j × Level n es j m)
inner_ready n es r k m (fresh er ek em) = (reverse es, (fresh (rw er refl) ek refl, fresh_level n es m em))
inner_ready n es r k m (again more er ek em) =
    let e : k ≡ reverse es ++ n ∷ more = ek
    ∙ (ap (λ xs. xs ++ more) (reverse_cons n es) ∙ append_assoc (reverse es) (n ∷ []) more) in
    (k, (again (n ∷ more) (rw er refl) e refl, known_level n es more k m e em))

-- ---- nests

pub count_above : (ts : Nests) → 0 < count ts
count_above (last t) = omega arith
count_above (next t ts) = omega arith

mutual
  nest_goes : (t : Nest) (es counts : List ℕ) (c : ℕ) (r : Option ℕ) (k m : List ℕ) (ls : List LiteralToken)
      → HasShape t es → Ready es r k m → length ls + length (leaves t) ≤ most_entries
      → Reaches (due (c ∷ counts) r k) (body ls) (nest_tokens t) (behind (suc c ∷ counts) (Some (length es)) m)
      (body (ls ++ leaves t))
  nest_goes (leaf x) [] counts c r k m ls h q room =
      let l = leaf_ready r k m q in
      subst (λ m. Reaches (due (c ∷ counts) r k) (body ls) (literal_tokens x) (behind (suc c ∷ counts) (Some 0) m) (body (ls ++ x ∷ []))) l.1
      (literal_goes x (c ∷ counts) r k ls l.0 (lt-ltb (length ls) most_entries (omega (arith, room))))
  nest_goes (leaf x) (n ∷ es) counts c r k m ls h q room = absurd h
  nest_goes (list items) [] counts c r k m ls h q room = absurd h
  nest_goes (list items) (n ∷ es) counts c r k m ls h q room =
      let i = inner_ready n es r k m q in
      let b = body (ls ++ nests_leaves items) in
      chain (terminal open_bracket [] ∷ []) (nests_tokens items ++ terminal close_bracket [] ∷ [])
      (due (c ∷ counts) r k) (due (0 ∷ c ∷ counts) (inner r) k)
      (behind (suc c ∷ counts) (Some (suc (length es))) m) (body ls) (body ls) b
      (open_goes (c ∷ counts) r k (body ls) (list_ready n es r k m q))
      (chain (nests_tokens items) (terminal close_bracket [] ∷ []) (due (0 ∷ c ∷ counts) (inner r) k) (behind (n ∷ c ∷ counts) (Some (length es)) i.0) (behind (suc c ∷ counts) (Some (suc (length es))) m) (body ls) b b
      (nests_go items es (c ∷ counts) 0 n (inner r) k i.0 ls h.1 (omega (arith, h.0)) i.1.0 i.1.1.on room)
      (close_goes n c counts (Some (length es)) i.0 m b i.1.1.end i.1.1.grows))

  nests_go : (ts : Nests) (es counts : List ℕ) (c n : ℕ) (r : Option ℕ) (k m : List ℕ) (ls : List LiteralToken)
      → AllHaveShape ts es → c + count ts ≡ n → Ready es r k m
      → ((i : ℕ) → i < n → may_go_on (wanted (Some (length es)) m) i ≡ true)
      → length ls + length (nests_leaves ts) ≤ most_entries
      → Reaches (due (c ∷ counts) r k) (body ls) (nests_tokens ts) (behind (n ∷ counts) (Some (length es)) m)
      (body (ls ++ nests_leaves ts))
  nests_go (last t) es counts c n r k m ls h e q on room =
      subst (λ n. Reaches (due (c ∷ counts) r k) (body ls) (nest_tokens t) (behind (n ∷ counts) (Some (length es)) m) (body (ls ++ leaves t))) (omega (arith, e))
      (nest_goes t es counts c r k m ls h q room)
  nests_go (next t ts) es counts c n r k m ls h e q on room =
      let s = behind (suc c ∷ counts) (Some (length es)) m in
      let u = due (suc c ∷ counts) (Some (length es)) m in
      let a = body (ls ++ leaves t) in
      let l = length-append ls (leaves t) in
      let all = length-append (leaves t) (nests_leaves ts) in
      let rest = nests_go ts es counts (suc c) n (Some (length es)) m m (ls ++ leaves t) h.1 (omega (arith, e))
      (next_ready es r k m q) on (omega (arith, room, l, all)) in
      let b = subst (λ zs. Reaches u a (nests_tokens ts) (behind (n ∷ counts) (Some (length es)) m) (body zs))
      (append_assoc ls (leaves t) (nests_leaves ts)) rest in
      let z = body (ls ++ (leaves t ++ nests_leaves ts)) in
      chain (nest_tokens t) (terminal comma [] ∷ nests_tokens ts) (due (c ∷ counts) r k) s
      (behind (n ∷ counts) (Some (length es)) m) (body ls) a z
      (nest_goes t es counts c r k m ls h.0 q (omega (arith, room, all)))
      (chain (terminal comma [] ∷ []) (nests_tokens ts) s u (behind (n ∷ counts) (Some (length es)) m) a a z
      (comma_goes (suc c) counts (Some (length es)) m a (on (suc c) (omega (arith, e, count_above ts)))) b)

-- ---- bodies

-- the first token of a body is read as that of an item
from_start : (t : Nest) (m : State) (b : SaidBody) → Reaches (due [] None []) (body []) (nest_tokens t) m b
    → Reaches start (body []) (nest_tokens t) m b
from_start (leaf (truth true)) m b f = f
from_start (leaf (truth false)) m b f = f
from_start (leaf (integer false ds)) m b f = f
from_start (leaf (integer true ds)) m b f = f
from_start (list items) m b f = f

body_goes : (t : Nest) (es : List ℕ) → HasShape t es → length (leaves t) ≤ most_entries
    → Reaches (due [] None []) (body []) (nest_tokens t) over (nest_said t es)
body_goes (leaf x) [] h room = literal_goes x [] None [] [] refl refl
body_goes (leaf x) (n ∷ es) h room = absurd h
body_goes (list items) [] h room = absurd h
body_goes (list items) (n ∷ es) h room =
    let i = inner_ready n es None [] (reverse (n ∷ es)) (fresh refl refl refl) in
    let b = body (nests_leaves items) in
    let z : SaidBody = record { literals = nests_leaves items; extents = Some (n ∷ es) } in
    let s = behind (n ∷ []) (Some (length es)) i.0 in
    let done = close_last n (Some (length es)) i.0 (reverse (n ∷ es)) (nests_leaves items) i.1.1.end i.1.1.grows in
    let whole = subst (λ es. Reaches s b (terminal close_bracket [] ∷ []) over (record { literals = nests_leaves items; extents = Some es })) (reverse-reverse (n ∷ es)) done in
    chain (terminal open_bracket [] ∷ []) (nests_tokens items ++ terminal close_bracket [] ∷ []) (due [] None [])
    (due (0 ∷ []) None []) over (body []) (body []) z
    (open_goes [] None [] (body []) refl)
    (chain (nests_tokens items) (terminal close_bracket [] ∷ []) (due (0 ∷ []) None []) s over (body []) b z
    (nests_go items es [] 0 n None [] i.0 [] h.1 (omega (arith, h.0)) i.1.0 i.1.1.on (omega (arith, room))) whole)

-- the tokens of an even nest before a > are those of a body, and say its literals and its extents
pub nest_is_read : NestsAreRead
nest_is_read t es h room =
    let r = from_start t over (nest_said t es) (body_goes t es h room) [] (terminal close_angle []) in
    let e = append-nil (nest_tokens t) in
    (ap (λ xs. run_fits language start xs (terminal close_angle []) nothing_said) (sym e) ∙ r.0, ap (λ xs. run_tells language start xs nothing_said) (sym e) ∙ r.1)
