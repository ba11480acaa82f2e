-- What gives the same values replaces an operation, whatever stands behind it.
use Rattle.std.proofs.Common.{◌≡◌, ℕ, zero, suc, List, [], ◌∷◌, Some, None, Bool, true, false, refl, sym}
use Rattle.std.proofs.Common.{arith}
use Rattle.std.proofs.Common.{eqb}
use Rattle.std.proofs.lemmas.Bool.{ltb-true}
use Rattle.std.specs.Prelude.{◌<◌, length, map, slice_get, nat_lt, if◌then◌else◌, unwrap_or}
use Rattle.xf_ir.specs.declared.name.OpName.{OpName}
use Rattle.xf_ir.specs.declared.name.ValueName.{ValueName}
use Rattle.xf_ir.specs.declared.name.ValueName.TheVariants.{Result, Arg, Free}
use Rattle.xf_ir.specs.Lists.{Each}
use Rattle.xf_ir.specs.Places.{below, results_of, Seen, sees, AllSeen}
use Rattle.xf_ir.specs.Uses.{ops_operands}
use Rattle.xf_ir.specs.Replaced.{in_place_of}
use Rattle.xf_sem.specs.declared.value.Value.{Value}
use Rattle.xf_sem.specs.Meaning.{Env, item}
use Rattle.xf_sem.specs.Surroundings.{visible}
use Rattle.xf_sem.specs.Replacing.{visible_after, SameReplaces}

-- ---- results and what stands for them

below_is : (b : Bool) (num count i : ℕ) → b ≡ nat_lt num count → (if b then Some num else None) ≡ Some i → i < count
below_is true num count i q h = let r : num ≡ i = cc in rw (← r) (ltb-true num count (sym q))
below_is false num count i q h = cc

pub result_below : (n : OpName) (count : ℕ) (v : ValueName) (i : ℕ) → results_of n count v ≡ Some i → i < count
result_below n count (Result o num) i h = named (eqb o.0 n.0) h
  where
    named : (b : Bool) → (if b then below num count else None) ≡ Some i → i < count
    named true p = below_is (nat_lt num count) num count i refl p
    named false p = cc
result_below n count (Arg o r num) i h = cc
result_below n count (Free num) i h = cc

pub seen_at : (ss : List Seen) (by : List ValueName) (i : ℕ) (v : ValueName) → AllSeen ss by → i < length by
    → sees ss (unwrap_or (slice_get by i) v) ≡ true
seen_at ss [] i v a h = absurd (omega (arith, h))
seen_at ss (b ∷ by) zero v a h = a.0
seen_at ss (b ∷ by) (suc i) v a h = seen_at ss by i v a.1 (omega (arith, h))

held_at : (e : Env) (by : List ValueName) (i : ℕ) (v : ValueName) → i < length by → item (map e by) i
    ≡ e (unwrap_or (slice_get by i) v)
held_at e [] i v h = absurd (omega (arith, h))
held_at e (b ∷ by) zero v h = refl
held_at e (b ∷ by) (suc i) v h = held_at e by i v (omega (arith, h))

each_of : (P : ValueName → Type 0) (vs : List ValueName) → ((v : ValueName) → P v) → Each P vs
each_of P [] f = tt
each_of P (v ∷ vs) f = (f v, each_of P vs f)

pub same_replaces : SameReplaces
same_replaces new by s n k ds os ts rs rest g = record {
  goes = g.goes;
  plain = g.plain;
  shown = λ q. each_of _ (ops_operands rest) (λ v i h. shown_one v i (g.shown q) h);
  same = λ c c' e vs h h' q l given p.
      let w = g.same c c' e vs h.0 h.1.1.0 h' q l given p in
      (w.0, (w.1.0, each_of _ (ops_operands rest) (λ v i r. held_one w.0 vs v i w.1.1 r)));
}
  where
    inside : (v : ValueName) (i : ℕ) → results_of n (length ts) v ≡ Some i → i < length by
    inside v i h = rw g.many (result_below n (length ts) v i h)

    shown_one : (v : ValueName) (i : ℕ) → AllSeen (visible_after new (visible s)) by → results_of n (length ts) v
        ≡ Some i → sees (visible_after new (visible s)) (in_place_of (results_of n (length ts)) by v) ≡ true
    shown_one v i a h = rw h (seen_at (visible_after new (visible s)) by i v a (inside v i h))

    held_one : (e : Env) (vs : List Value) (v : ValueName) (i : ℕ) → vs ≡ map e by → results_of n (length ts) v
        ≡ Some i → item vs i ≡ e (in_place_of (results_of n (length ts)) by v)
    held_one e vs v i p h = rw (p, h) (held_at e by i v (inside v i h))
