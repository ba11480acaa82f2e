-- The machine of dense bodies writes nested lists with a comma and a blank between each two items.
use Rattle.std.proofs.Common.{◌≡◌, ℕ, zero, suc, ◌+◌, ◌-◌, ◌<◌, List, [], ◌∷◌, ◌++◌, length, take, drop, get_or, Some}
use Rattle.std.proofs.Common.{None, Option, Bool, true, false, refl, sym, ap, subst, ◌∙◌, arith, append_assoc}
use Rattle.std.proofs.Common.{append-nil}
use Rattle.std.specs.Fmt.{signed_decimal}
use Rattle.std.specs.Prelude.{reverse, not, ◌==◌, ◌/◌, ℤ, pos, negsuc, codes}
use Rattle.xf_lex.specs.declared.token.TokenKind.{TokenKind}
use Rattle.xf_type.specs.declared.payload_type.Dim.{Dim}
use Rattle.xf_type.specs.declared.payload_type.Dim.TheVariants.{Fixed, Dynamic}
use Rattle.xf_type.specs.declared.payload_type.Shape.{Shape}
use Rattle.xf_type.specs.declared.payload_type.Width.{Width}
use Rattle.xf_type.specs.declared.payload_type.Width.TheVariants.{I1}
use Rattle.xf_type.specs.Integers.{signed_value}
use Rattle.xf_grammar.specs.Tokens.{Terminal, terminal, comma, open_bracket}
use Rattle.xf_grammar.specs.Grammar.{gap_of, goes, run_written}
use Rattle.xf_grammar.specs.Layout.{gap_text, text, token_text}
use Rattle.xf_dense.specs.declared.state.State.{State}
use Rattle.xf_dense.specs.Actions.{Action, shape_is}
use Rattle.xf_dense.specs.Machine.{step, start, over, gap_before, takes_literals, behind_literal, inner, wanted}
use Rattle.xf_dense.specs.Machine.{may_go_on}
use Rattle.xf_dense.specs.Nests.{LiteralToken, truth, integer, literal_tokens, Nest, Nests, leaf, list, last, next}
use Rattle.xf_dense.specs.Nests.{nest_tokens, nests_tokens, count, HasShape, AllHaveShape, close_bracket}
use Rattle.xf_dense.specs.Printed.{literal_of, signed_literal, row_nests, nest_of}
use Rattle.xf_dense.proofs.Reaching.{due, behind, Ready, fresh, next_ready, leaf_ready, list_ready, inner_ready}
use Rattle.xf_dense.proofs.Reaching.{count_above}
use Rattle.xf_format.specs.Rules.{language}
use Rattle.xf_printed.specs.Numbers.{number_text, truth_word}
use Rattle.xf_print.specs.Bodies.{body_text, literal_text, nest_text, nests_text}

-- from a state, some tokens are written so, and lead to another state
abbrev Writes : State → List Terminal → State → List ℕ → Type 0
Writes s xs m b = (rest : List Terminal)
    → text (run_written language s (xs ++ rest)) ≡ b ++ text (run_written language m rest)

chain : (xs ys : List Terminal) (s m n : State) (a b : List ℕ) → Writes s xs m a → Writes m ys n b
    → Writes s (xs ++ ys) n (a ++ b)
chain xs ys s m n a b f g rest =
    rw (append_assoc xs ys rest)
    (f (ys ++ rest) ∙ (ap (λ x. a ++ x) (g rest) ∙ sym (append_assoc a b (text (run_written language n rest)))))

one : (k : TokenKind) (gap keep : Bool) (s m : State) (act : Option Action)
    → step s (terminal k []) ≡ goes gap keep m act
    → Writes s (terminal k [] ∷ []) m (gap_text (gap_of gap) ++ token_text (terminal k []))
one k gap keep s m act e rest = rw e refl

-- a literal
literal_writes : (x : LiteralToken) (counts : List ℕ) (rank : Option ℕ) (known : List ℕ) → takes_literals rank ≡ true
    → Writes (due counts rank known) (literal_tokens x) (behind_literal counts (due counts rank known))
    (gap_text (gap_of (gap_before counts)) ++ literal_text x)
literal_writes (truth true) counts rank known e rest = rw e refl
literal_writes (truth false) counts rank known e rest = rw e refl
literal_writes (integer false ds) counts rank known e rest = rw e refl
literal_writes (integer true ds) [] rank known e rest = rw e refl
literal_writes (integer true ds) (c ∷ counts) rank known e rest = rw e (simp append_assoc)

-- ---- nests

mutual
  nest_writes : (t : Nest) (es counts : List ℕ) (c : ℕ) (r : Option ℕ) (k m : List ℕ) → HasShape t es → Ready es r k m
      → Writes (due (c ∷ counts) r k) (nest_tokens t) (behind (suc c ∷ counts) (Some (length es)) m)
      (gap_text (gap_of (gap_before (c ∷ counts))) ++ nest_text t)
  nest_writes (leaf x) [] counts c r k m h q =
      let l = leaf_ready r k m q in
      let g : List ℕ = gap_text (gap_of (gap_before (c ∷ counts))) in
      let s = due (c ∷ counts) r k in
      subst (λ m. Writes s (literal_tokens x) (behind (suc c ∷ counts) (Some 0) m) (g ++ literal_text x)) l.1
      (literal_writes x (c ∷ counts) r k l.0)
  nest_writes (leaf x) (n ∷ es) counts c r k m h q = absurd h
  nest_writes (list items) [] counts c r k m h q = absurd h
  nest_writes (list items) (n ∷ es) counts c r k m h q =
      let i = inner_ready n es r k m q in
      let g : List ℕ = gap_text (gap_of (gap_before (c ∷ counts))) in
      let s = due (0 ∷ c ∷ counts) (inner r) k in
      let u = behind (n ∷ c ∷ counts) (Some (length es)) i.0 in
      let z = behind (suc c ∷ counts) (Some (suc (length es))) m in
      subst (λ b. Writes (due (c ∷ counts) r k) (nest_tokens (list items)) z b)
      (append_assoc g (codes "[") (nests_text items ++ codes "]"))
      (chain (terminal open_bracket [] ∷ []) (nests_tokens items ++ terminal close_bracket [] ∷ [])
      (due (c ∷ counts) r k) s z (g ++ codes "[") (nests_text items ++ codes "]")
      (one open_bracket (gap_before (c ∷ counts)) false (due (c ∷ counts) r k) s None
      (rw (list_ready n es r k m q) refl))
      (chain (nests_tokens items) (terminal close_bracket [] ∷ []) s u z (nests_text items) (codes "]")
      (nests_write items es (c ∷ counts) 0 n (inner r) k i.0 h.1 (omega (arith, h.0)) i.1.0 i.1.1.on)
      (one close_bracket false false u z None (rw (i.1.1.end, i.1.1.grows) refl))))

  nests_write : (ts : Nests) (es counts : List ℕ) (c n : ℕ) (r : Option ℕ) (k m : List ℕ) → AllHaveShape ts es
      → c + count ts ≡ n → Ready es r k m
      → ((i : ℕ) → i < n → may_go_on (wanted (Some (length es)) m) i ≡ true)
      → Writes (due (c ∷ counts) r k) (nests_tokens ts) (behind (n ∷ counts) (Some (length es)) m)
      (gap_text (gap_of (gap_before (c ∷ counts))) ++ nests_text ts)
  nests_write (last t) es counts c n r k m h e q on =
      let g : List ℕ = gap_text (gap_of (gap_before (c ∷ counts))) in
      let s = due (c ∷ counts) r k in
      let u : ℕ → State = λ n. behind (n ∷ counts) (Some (length es)) m in
      subst (λ n. Writes s (nest_tokens t) (u n) (g ++ nest_text t)) (omega (arith, e))
      (nest_writes t es counts c r k m h q)
  nests_write (next t ts) es counts c n r k m h e q on =
      let g : List ℕ = gap_text (gap_of (gap_before (c ∷ counts))) in
      let s = behind (suc c ∷ counts) (Some (length es)) m in
      let u = due (suc c ∷ counts) (Some (length es)) m in
      let z = behind (n ∷ counts) (Some (length es)) m in
      subst (λ b. Writes (due (c ∷ counts) r k) (nests_tokens (next t ts)) z b)
      (append_assoc g (nest_text t) (codes ", " ++ nests_text ts))
      (chain (nest_tokens t) (terminal comma [] ∷ nests_tokens ts) (due (c ∷ counts) r k) s z (g ++ nest_text t)
      (codes ", " ++ nests_text ts) (nest_writes t es counts c r k m h.0 q)
      (chain (terminal comma [] ∷ []) (nests_tokens ts) s u z (codes ",") (codes " " ++ nests_text ts)
      (one comma false false s u None (rw (on (suc c) (omega (arith, e, count_above ts))) refl))
      (nests_write ts es counts (suc c) n (Some (length es)) m m h.1 (omega (arith, e)) (next_ready es r k m q) on)))

-- ---- bodies

-- the first token of a body is written as that of an item
from_start : (t : Nest) (m : State) (b : List ℕ) → Writes (due [] None []) (nest_tokens t) m b
    → Writes start (nest_tokens t) m b
from_start (leaf (truth true)) m b f = f
from_start (leaf (truth false)) m b f = f
from_start (leaf (integer false ds)) m b f = f
from_start (leaf (integer true ds)) m b f = f
from_start (list items) m b f = f

body_writes : (t : Nest) (es : List ℕ) → HasShape t es → Writes (due [] None []) (nest_tokens t) over (nest_text t)
body_writes (leaf x) [] h = literal_writes x [] None [] refl
body_writes (leaf x) (n ∷ es) h = absurd h
body_writes (list items) [] h = absurd h
body_writes (list items) (n ∷ es) h =
    let i = inner_ready n es None [] (reverse (n ∷ es)) (fresh refl refl refl) in
    let s = due (0 ∷ []) None [] in
    let u = behind (n ∷ []) (Some (length es)) i.0 in
    chain (terminal open_bracket [] ∷ []) (nests_tokens items ++ terminal close_bracket [] ∷ []) (due [] None []) s over
    (codes "[") (nests_text items ++ codes "]")
    (one open_bracket false false (due [] None []) s None refl)
    (chain (nests_tokens items) (terminal close_bracket [] ∷ []) s u over (nests_text items) (codes "]")
    (nests_write items es [] 0 n None [] i.0 h.1 (omega (arith, h.0)) i.1.0 i.1.1.on)
    (one close_bracket false false u over (Some (shape_is (reverse (reverse (n ∷ es)))))
    (rw (i.1.1.end, i.1.1.grows) refl)))

-- an item all of whose lists of a level are as long
even_text : (t : Nest) (es : List ℕ) → HasShape t es → text (run_written language start (nest_tokens t)) ≡ nest_text t
even_text t es h =
    ap (λ xs. text (run_written language start xs)) (sym (append-nil (nest_tokens t)))
    ∙ (from_start t over (nest_text t) (body_writes t es h) [] ∙ append-nil (nest_text t))

-- ---- printed bodies

-- a list that has no extent has one item
abbrev extents_of : List Dim → List ℕ
extents_of [] = []
extents_of (Fixed n ∷ ds) = suc (n - 1) ∷ extents_of ds
extents_of (Dynamic ∷ ds) = extents_of ds

count_rows : (item : List ℕ → Nest) (rows size : ℕ) (ns : List ℕ) → count (row_nests item rows size ns) ≡ suc rows
count_rows item zero size ns = refl
count_rows item (suc rows) size ns = ap suc (count_rows item rows size (drop size ns))

rows_even : (item : List ℕ → Nest) (es : List ℕ) → ((ns : List ℕ) → HasShape (item ns) es) → (rows size : ℕ)
    (ns : List ℕ) → AllHaveShape (row_nests item rows size ns) es
rows_even item es f zero size ns = f ns
rows_even item es f (suc rows) size ns = (f (take size ns), rows_even item es f rows size (drop size ns))

printed_even : (w : Width) (ds : List Dim) (ns : List ℕ) → HasShape (nest_of w ds ns) (extents_of ds)
printed_even w [] ns = tt
printed_even w (Fixed n ∷ ds) ns =
    let item = nest_of w ds in
    let size = length ns / n in
    (count_rows item (n - 1) size ns, rows_even item (extents_of ds) (printed_even w ds) (n - 1) size ns)
printed_even w (Dynamic ∷ ds) ns = printed_even w ds ns

lists_text : (w : Width) (ds : List Dim) (ns : List ℕ)
    → text (run_written language start (nest_tokens (nest_of w ds ns))) ≡ nest_text (nest_of w ds ns)
lists_text w ds ns = even_text (nest_of w ds ns) (extents_of ds) (printed_even w ds ns)

truth_text : (b : Bool) → literal_text (truth b) ≡ truth_word b
truth_text true = refl
truth_text false = refl

signed_text : (z : ℤ) → literal_text (signed_literal z) ≡ signed_decimal z
signed_text (pos n) = refl
signed_text (negsuc n) = refl

pub number_printed : (w : Width) (n : ℕ) → literal_text (literal_of w n) ≡ number_text w n
number_printed I1 n = truth_text (not (n == 0))
number_printed w n = signed_text (signed_value w n)

pub no_number : (shape : Shape) (ns : List ℕ) → length ns ≡ 0 → body_text shape ns ≡ []
unfolding body_text
no_number shape [] e = refl
no_number shape (n ∷ ns) e = absurd (omega (arith, e))

pub one_number : (shape : Shape) (ns : List ℕ) (d : ℕ) → length ns ≡ 1
    → body_text shape ns ≡ number_text shape.elem (get_or ns 0 d)
unfolding body_text
one_number shape [] d e = absurd (omega (arith, e))
one_number shape (n ∷ []) d e =
    even_text (leaf (literal_of shape.elem n)) [] tt ∙ number_printed shape.elem n
one_number shape (n ∷ (m ∷ ns)) d e = absurd (omega (arith, e))

pub numbers : (shape : Shape) (ns : List ℕ) → 1 < length ns
    → body_text shape ns ≡ nest_text (nest_of shape.elem shape.dims ns)
unfolding body_text
numbers shape [] lt = absurd (omega (arith, lt))
numbers shape (n ∷ []) lt = absurd (omega (arith, lt))
numbers shape (n ∷ (m ∷ ns)) lt = lists_text shape.elem shape.dims (n ∷ (m ∷ ns))
