-- The next name above others: it stays where they are below it, rises where they are below what comes of it, and keeps
-- an order.
use Rattle.std.proofs.Common.{◌≡◌, ℕ, ◌+◌, ◌-◌, ◌^◌, ◌<◌, ◌≤◌, List, [], ◌∷◌, Bool, true, false, min, nat_lt, inl, inr}
use Rattle.std.proofs.Common.{refl, arith}
use Rattle.std.specs.Prelude.{if◌then◌else◌}
use Rattle.std.proofs.Math.Nat.{min-le_left}
use Rattle.std.proofs.lemmas.Bool.{cases_Bool, ltb-true, ltb-false, lt-ltb, le-ltb}
use Rattle.xf_ir.specs.declared.name.OpName.{OpName}
use Rattle.xf_ir.specs.Lists.{Each}
use Rattle.xf_ir.specs.Edits.{next_above}

pub next_same : (next : ℕ) (ns : List OpName) → Each (λ n. n.0 < next) ns → next_above next ns ≡ next
next_same next [] h = refl
next_same next (n ∷ ns) h = (let l = lt-ltb n.0 next h.0 in rw l (next_same next ns h.1))

pub next_rises : (next : ℕ) (ns : List OpName) → Each (λ n. n.0 < next_above next ns) ns → next ≤ next_above next ns
next_rises next [] h = omega arith
next_rises next (n ∷ ns) h = rises (nat_lt n.0 next) refl (next_rises next ns) h.0 h.1
  where
    rises : (b : Bool)
        → nat_lt n.0 next ≡ b → (Each (λ (k : OpName). k.0 < next_above next ns) ns → next ≤ next_above next ns)
        → n.0 < next_above (if b then next else min (n.0 + 1) (2 ^ 64 - 1)) ns
        → Each (λ (k : OpName). k.0 < next_above (if b then next else min (n.0 + 1) (2 ^ 64 - 1)) ns) ns
        → next ≤ next_above (if b then next else min (n.0 + 1) (2 ^ 64 - 1)) ns
    rises true l more h k = more k
    rises false l more h k = omega (arith, ltb-false n.0 next l, h)

-- the next name above one
abbrev above : OpName → ℕ → ℕ
above n next = if nat_lt n.0 next then next else min (n.0 + 1) (2 ^ 64 - 1)

above_grows : (n : OpName) (a b : ℕ) → a ≤ b → above n a ≤ above n b
above_grows n a b h =
    elim (cases_Bool (nat_lt n.0 b)) [
      | inl l ↦ elim (cases_Bool (nat_lt n.0 a)) [
        | inl k ↦ rw (l, k) h
        | inr k ↦ rw (l, k) (omega (arith, ltb-true n.0 b l, min-le_left (n.0 + 1) (2 ^ 64 - 1)))
      ]
      | inr l ↦ (
          let k = le-ltb n.0 a (omega (arith, h, ltb-false n.0 b l)) in
          rw (l, k) (omega arith))
    ]

pub next_grows : (a b : ℕ) (ns : List OpName) → a ≤ b → next_above a ns ≤ next_above b ns
next_grows a b [] h = h
next_grows a b (n ∷ ns) h = next_grows (above n a) (above n b) ns (above_grows n a b h)
