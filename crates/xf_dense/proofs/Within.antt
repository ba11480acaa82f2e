-- Numbers that are not above one are not above the next.
use Rattle.std.proofs.Common.{◌≡◌, ◌+◌, ℕ, zero, suc, List, [], ◌∷◌, Option, Some, None, refl, subst, arith}
use Rattle.xf_dense.specs.Machine.{inner, outer}
use Rattle.xf_dense.specs.Reading.{AtMost, RankAtMost}

pub at_most_next : (at : ℕ) (ns : List ℕ) → AtMost at ns → AtMost (at + 1) ns
at_most_next at [] h = h
at_most_next at (n ∷ ns) h = (omega (arith, h.0), at_most_next at ns h.1)

pub rank_next : (at : ℕ) (r : Option ℕ) → RankAtMost at r → RankAtMost (at + 1) r
rank_next at None h = h
rank_next at (Some r) h = omega (arith, h)

pub rank_inner : (at : ℕ) (r q : Option ℕ) → RankAtMost at r → q ≡ inner r → RankAtMost (at + 1) q
rank_inner at None q h e = rw e h
rank_inner at (Some zero) q h e = rw e tt
rank_inner at (Some (suc r)) q h e = rw e (omega (arith, h))

pub rank_outer : (at : ℕ) (r q : Option ℕ) → RankAtMost at r → q ≡ outer r → RankAtMost (at + 1) q
rank_outer at None q h e = rw e h
rank_outer at (Some r) q h e = rw e (omega (arith, h))

-- a list is opened, stays as it is, and has one item more
pub opened : (at : ℕ) (ns ms : List ℕ) → AtMost at ns → ms ≡ 0 ∷ ns → AtMost (at + 1) ms
opened at ns ms h e = rw e (omega arith, at_most_next at ns h)

pub kept : (at n : ℕ) (ns ms os : List ℕ) → AtMost at ns → ns ≡ n ∷ os → ms ≡ n ∷ os → AtMost (at + 1) ms
kept at n ns ms os h e f = at_most_next at ms (subst (AtMost at) (rw (e, f) refl) h)

pub one_more : (at n : ℕ) (ns ms os : List ℕ) → AtMost at ns → ns ≡ n ∷ os → ms ≡ (n + 1) ∷ os → AtMost (at + 1) ms
one_more at n ns ms os h e f = let g = subst (AtMost at) e h in rw f (omega (arith, g.0), at_most_next at os g.1)
