-- The earlier of tokens, and of faults.
use Rattle.std.proofs.Common.{◌≡◌, ℕ, min, Bool, true, false, Option, Some, None, refl, ap, arith}
use Rattle.std.specs.Prelude.{if◌then◌else◌}
use Rattle.xf_read.specs.declared.faults.Faults.{Faults}
use Rattle.xf_read.specs.Names.{earlier, with_faults, no_faults}

min_regrouped : (i j k : ℕ) → min (min i j) k ≡ min i (min j k)
min_regrouped i j k = grind (arith)

pub earlier_regrouped : (a b c : Option ℕ) → earlier (earlier a b) c ≡ earlier a (earlier b c)
earlier_regrouped None b c = refl
earlier_regrouped (Some i) None c = refl
earlier_regrouped (Some i) (Some j) None = refl
earlier_regrouped (Some i) (Some j) (Some k) = ap Some (min_regrouped i j k)

pub earlier_none : (a : Option ℕ) → earlier a None ≡ a
earlier_none None = refl
earlier_none (Some i) = refl

pub same_faults : (f g : Faults) → f.undefined ≡ g.undefined → f.twice ≡ g.twice → f.mismatch ≡ g.mismatch → f ≡ g
same_faults f g p q r = λ i. record { undefined = p i; twice = q i; mismatch = r i }

pub faults_regrouped : (a b c : Faults) → with_faults (with_faults a b) c ≡ with_faults a (with_faults b c)
faults_regrouped a b c =
    same_faults (with_faults (with_faults a b) c) (with_faults a (with_faults b c))
    (earlier_regrouped a.undefined b.undefined c.undefined) (earlier_regrouped a.twice b.twice c.twice)
    (earlier_regrouped a.mismatch b.mismatch c.mismatch)

pub faults_not : (a : Faults) → with_faults a no_faults ≡ a
faults_not a = same_faults (with_faults a no_faults) a (earlier_none a.undefined) (earlier_none a.twice)
    (earlier_none a.mismatch)

-- ---- faults of types and numbers

pub none_earlier : (a b : Option ℕ) → earlier a b ≡ None → (a ≡ None) × (b ≡ None)
none_earlier None b e = (refl, e)
none_earlier (Some i) None e = absurd cc
none_earlier (Some i) (Some j) e = absurd cc

pub unless : (b : Bool) (n : ℕ) → (let f : Option ℕ = if b then None else Some n in f ≡ None) → b ≡ true
unless true n e = refl
unless false n e = absurd cc
