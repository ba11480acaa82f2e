-- Operations one behind the other.
use Rattle.std.proofs.Common.{◌≡◌, ℕ, zero, suc, ◌+◌, ◌-◌, ◌<◌, ◌≤◌, true, false, List, [], ◌∷◌, ◌++◌, length, Ok, Err}
use Rattle.std.proofs.Common.{refl, sym, ap, ◌∙◌, arith, slice_index_or}
use Rattle.xf_lex.specs.declared.token.Token.{Token}
use Rattle.xf_grammar.specs.Tokens.{terminal_at}
use Rattle.xf_grammar.specs.Reading.{◌>>=◌}
use Rattle.xf_grammar.specs.Tree.{Nodes, no_nodes, node, Tree, cons, ends_in, Counted, closes}
use Rattle.xf_format.specs.declared.expected.Expected.{Expected}
use Rattle.xf_format.specs.declared.expected.Stopped.{Stopped}
use Rattle.xf_format.specs.declared.expected.Stopped.TheVariants as fault
use Rattle.xf_format.specs.declared.parts.Parts.{Parts}
use Rattle.xf_format.specs.declared.row.Level.{Level}
use Rattle.xf_format.specs.Format.{format}
use Rattle.xf_format.specs.Reading.{Fails}
use Rattle.xf_format.specs.Rows.{behind, is_yield}
use Rattle.xf_syntax.specs.File.{payload_node_at, payload_nodes_at}
use Rattle.xf_syntax.specs.View.{nodes_of}

-- ---- the state of the loop: what is read from here, behind what was read, is what is read from the start

abbrev pub append : {P : Type 0} → Nodes P → Nodes P → Nodes P
append no_nodes more = more
append (node first p bs rest) more = node first p bs (append rest more)

abbrev pub joined : {P D : Type 0} → Nodes P → Counted (Nodes P) D → Counted (Nodes P) D
joined front (Ok x) = Ok ((append front x.0.0, x.0.1), x.1)
joined front (Err e) = Err e

joined_none : {P D : Type 0} (r : Counted (Nodes P) D) → joined no_nodes r ≡ r
joined_none (Ok x) = refl
joined_none (Err e) = refl

append_none : {P : Type 0} (xs : Nodes P) → append xs no_nodes ≡ xs
append_none no_nodes = refl
append_none (node first p bs rest) = ap (node first p bs) (append_none rest)

append_push : {P : Type 0} (ts : List (Tree P)) (t : Tree P) (more : Nodes P)
    → append (nodes_of (ts ++ t ∷ [])) more ≡ append (nodes_of ts) (cons t more)
append_push [] t more = refl
append_push (x ∷ ts) t more = ap (cons x) (append_push ts t more)

joined_push : {P D : Type 0} (ts : List (Tree P)) (t : Tree P) (r : Counted (Nodes P) D)
    → joined (nodes_of (ts ++ t ∷ [])) r ≡ joined (nodes_of ts) (r >>= λ rest. Ok ((cons t rest.0.0, rest.0.1), rest.1))
joined_push ts t (Ok x) = ap (λ n. Ok ((n, x.0.1), x.1)) (append_push ts t x.0.0)
joined_push ts t (Err e) = refl

last_at : (ts : List (Tree Parts)) (n : ℕ) (t : Tree Parts) → length ts ≡ suc n → t ≡ slice_index_or ts n t
    → is_yield t.parts.row ≡ ends_in format.row format.is_terminator (nodes_of ts)
last_at [] n t le e = absurd (omega arith)
last_at (x ∷ []) zero t le e = ap (λ u. is_yield u.parts.row) e
last_at (x ∷ []) (suc n) t le e = absurd (omega arith)
last_at (x ∷ y ∷ ts) zero t le e = absurd (omega arith)
last_at (x ∷ y ∷ ts) (suc n) t le e = last_at (y ∷ ts) n t (omega arith) e

pub last_ends : (ts : List (Tree Parts)) (t : Tree Parts) → 1 ≤ length ts → t ≡ slice_index_or ts (length ts - 1) t
    → is_yield t.parts.row ≡ ends_in format.row format.is_terminator (nodes_of ts)
last_ends ts t le e = last_at ts (length ts - 1) t (omega arith) e

-- a fault in an operation
stops_at : (i : ℕ) (x : Expected) (all : List Token) (depth : ℕ) (ts : List (Tree Parts)) (l : Level) (count at : ℕ)
    → closes (terminal_at all at) ≡ false → at ≤ length all
    → ((f : ℕ) → length all ≤ f + at → payload_node_at f all l depth count at ≡ Err (i, x))
    → (r : Counted (Nodes Parts) Expected) (f : ℕ) → length all < f + at
    → joined (nodes_of ts) (payload_nodes_at f all l depth count at) ≡ r → r ≡ Err (i, x)
unfolding payload_node_at
stops_at i x all depth ts l count at c le p r zero room e = absurd (omega arith)
stops_at i x all depth ts l count at c le p r (suc f) room e = sym e ∙ (let q = p f (omega arith) in rw (c, q) refl)

module _ (all : List Token) (depth : ℕ) where
  abbrev pub Going : Nodes Parts → Level → ℕ → ℕ → Level → ℕ → ℕ → Type 0
  Going front first count0 start l count at =
      (f0 : ℕ) → length all < f0 + start → (f : ℕ) × (length all < f + at)
      × (joined front (payload_nodes_at f all l depth count at) ≡ payload_nodes_at f0 all first depth count0 start)

  pub goes_first : (l : Level) (count at : ℕ) → Going no_nodes l count at l count at
  goes_first l count at f0 lt = (f0, lt, joined_none (payload_nodes_at f0 all l depth count at))

  -- one more operation
  one_is : (f : ℕ) (l : Level) (count at : ℕ) (t : Tree Parts) (count' n : ℕ) → closes (terminal_at all at) ≡ false
      → payload_node_at f all l depth count at ≡ Ok ((t, count'), n)
      → payload_nodes_at (suc f) all l depth count at
      ≡ (payload_nodes_at f all (behind l) depth count' n >>= λ rest. Ok ((cons t rest.0.0, rest.0.1), rest.1))
  unfolding payload_node_at
  one_is f l count at t count' n c p = rw (c, p) refl

  goes_from : (ts : List (Tree Parts)) (l : Level) (count at : ℕ) (t : Tree Parts) (count' n : ℕ)
      → closes (terminal_at all at) ≡ false → at < n → at ≤ length all
      → ((f : ℕ) → length all ≤ f + at → payload_node_at f all l depth count at ≡ Ok ((t, count'), n))
      → (r : Counted (Nodes Parts) Expected) (f : ℕ) → length all < f + at
      → joined (nodes_of ts) (payload_nodes_at f all l depth count at) ≡ r
      → (f : ℕ) × (length all < f + n) × (joined (nodes_of (ts ++ t ∷ []))
      (payload_nodes_at f all (behind l) depth count' n) ≡ r)
  goes_from ts l count at t count' n c lt le p r zero room e = absurd (omega arith)
  goes_from ts l count at t count' n c lt le p r (suc f) room e = (
    f,
    omega arith,
    joined_push ts t (payload_nodes_at f all (behind l) depth count' n)
        ∙ ap (joined (nodes_of ts)) (sym (one_is f l count at t count' n c (p f (omega arith)))) ∙ e,
  )

  pub goes_on : (ts : List (Tree Parts)) (first : Level) (count0 start : ℕ) (l : Level) (count at : ℕ) (t : Tree Parts)
      (count' n : ℕ) → closes (terminal_at all at) ≡ false → at < n → at ≤ length all
      → ((f : ℕ) → length all ≤ f + at → payload_node_at f all l depth count at ≡ Ok ((t, count'), n))
      → Going (nodes_of ts) first count0 start l count at
      → Going (nodes_of (ts ++ t ∷ [])) first count0 start (behind l) count' n
  goes_on ts first count0 start l count at t count' n c lt le p going f0 room =
      let g = going f0 room in
      goes_from ts l count at t count' n c lt le p (payload_nodes_at f0 all first depth count0 start) g.0 g.1 g.2

  -- a brace or the end
  ends_at : (ts : List (Tree Parts)) (l : Level) (count at : ℕ) → closes (terminal_at all at) ≡ true → at ≤ length all
      → (r : Counted (Nodes Parts) Expected) (f : ℕ) → length all < f + at
      → joined (nodes_of ts) (payload_nodes_at f all l depth count at) ≡ r → r ≡ Ok ((nodes_of ts, count), at)
  ends_at ts l count at c le r zero room e = absurd (omega arith)
  ends_at ts l count at c le r (suc f) room e = sym e ∙ rw c (ap (λ n. Ok ((n, count), at)) (append_none (nodes_of ts)))

  pub ends : (ts : List (Tree Parts)) (first : Level) (count0 start : ℕ) (l : Level) (count at : ℕ)
      → closes (terminal_at all at) ≡ true → at ≤ length all → Going (nodes_of ts) first count0 start l count at
      → (f0 : ℕ) → length all < f0 + start
      → payload_nodes_at f0 all first depth count0 start ≡ Ok ((nodes_of ts, count), at)
  ends ts first count0 start l count at c le going f0 room = let g = going f0 room in
      ends_at ts l count at c le _ g.0 g.1 g.2

pub fails : (e : Stopped) (all : List Token) (depth : ℕ) (ts : List (Tree Parts)) (first : Level) (count0 start : ℕ)
    (l : Level) (count at : ℕ) → closes (terminal_at all at) ≡ false → at ≤ length all
    → ((f : ℕ) → length all ≤ f + at → Fails e (payload_node_at f all l depth count at))
    → Going all depth (nodes_of ts) first count0 start l count at → (f0 : ℕ) → length all < f0 + start
    → Fails e (payload_nodes_at f0 all first depth count0 start)
fails fault.NoMemory all depth ts first count0 start l count at c le p going f0 room = tt
fails (fault.At i x) all depth ts first count0 start l count at c le p going f0 room = let g = going f0 room in
    stops_at i x all depth ts l count at c le p _ g.0 g.1 g.2
