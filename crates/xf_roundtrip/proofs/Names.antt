-- Printed names stand for the values that they were printed for.
use Rattle.std.proofs.Common.{◌≡◌, ◌≢◌, ◌⊎◌, inl, inr, ℕ, zero, suc, ◌+◌, ◌^◌, ◌<◌, ◌≤◌, Bool, true, false, cond, List}
use Rattle.std.proofs.Common.{[], ◌∷◌, length, Option, Some, None, refl, sym, ap, subst, ◌∙◌, arith, slice_get}
use Rattle.std.specs.Prelude.{◌&&◌, ◌||◌, ◌==◌, is_some, nat_lt, map, not}
use Rattle.std.specs.Fmt.{decimal}
use Rattle.std.specs.Str.{bytes_eq}
use Rattle.std.proofs.lemmas.Bool.{cases_Bool, and_parts, eqb-true, ltb-true, lt-ltb}
use Rattle.std.proofs.lemmas.Fmt.{decimal_injective}
use Rattle.std.proofs.lemmas.Slice.Eq.{bytes_eq-Decides}
use Rattle.xf_type.specs.declared.payload_type.PayloadType.{PayloadType}
use Rattle.xf_lex.proofs.Stays.{Digits, decimal_digits}
use Rattle.xf_grammar.proofs.Basics.{and_is}
use Rattle.xf_format.specs.Parts.{UseSaid}
use Rattle.xf_ir.specs.declared.name.OpName.{OpName}
use Rattle.xf_ir.specs.declared.name.ValueName.{ValueName}
use Rattle.xf_ir.specs.declared.name.ValueName.TheVariants.{Result, Arg, Free}
use Rattle.xf_ir.specs.Lists.{every}
use Rattle.xf_ir.specs.Placed.{Typed, type_or, type_at}
use Rattle.xf_ir.specs.Places.{done, inside, sees, AllSeen}
use Rattle.xf_ir.specs.Renamed.{value_renamed}
use Rattle.xf_ir.proofs.Lists.{name_is}
use Rattle.xf_ir_laws.proofs.SeenTypes.{seen_of}
use Rattle.xf_read.specs.declared.scope.Named.{Named}
use Rattle.xf_read.specs.Names.{op_name, argument_number, argument_named, results_named, with_arguments, with_defines}
use Rattle.xf_read_base.specs.Spelt.{count_used}
use Rattle.xf_read.specs.Scopes.{Meanings, with_name, has_value, has_use, value_in, type_in}
use Rattle.xf_read.specs.Scopes.{use_means, use_value, use_type}
use Rattle.xf_read.specs.Types.{one_type}
use Rattle.xf_printed.specs.Names.{Names, argument_text, next_number, type_of}
use Rattle.xf_print_laws.proofs.Entries.{HasEntry}
use Rattle.xf_roundtrip.specs.SaidWell.{defines_new, arguments_new}
use Rattle.xf_print_laws.specs.Naming.{number_name, part_said, use_printed}
use Rattle.xf_print_laws.specs.Naming.{defines_printed, arguments_printed}

-- ---- names that differ

pub with_other : (b name : List ℕ) (x : Named) (scope : Meanings) → b ≢ name → with_name b x scope name ≡ scope name
with_other b name x scope n = elim (cases_Bool (bytes_eq b name)) [
  | inl e ↦ absurd (n ((bytes_eq-Decides b name).0 e))
  | inr e ↦ rw e
]

this_name : (b : List ℕ) (x : Named) (scope : Meanings) → scope b ≡ None → with_name b x scope b ≡ Some x
this_name b x scope free = let e = (bytes_eq-Decides b b).1 refl in rw (e, free)

number_argument : (j k : ℕ) → j < 2 ^ 64 → number_name j ≢ argument_text k
number_argument j k h e =
    let d : decimal j ≡ 97 ∷ (114 ∷ (103 ∷ decimal k)) = cc in
    let z : false ≡ true = (subst Digits d (decimal_digits j h)).all.0 in
    absurd cc

-- ---- what is visible

-- what stands for something goes on to stand for it
abbrev Grows : Meanings → Meanings → Type 0
Grows scope scope' = (name : List ℕ) → scope name ≢ None → scope' name ≡ scope name

grows_by : (b : List ℕ) (x : Named) (scope : Meanings) → scope b ≡ None → Grows scope (with_name b x scope)
grows_by b x scope free name some = with_other b name x scope (λ e. some (ap scope (sym e) ∙ free))

-- the numbers from here on are free, of results and of arguments
pub record Clear (k a : ℕ) (scope : Meanings) : Type 0 where
  pub numbers : (j : ℕ) → k ≤ j → j < 2 ^ 64 → scope (number_name j) ≡ None
  pub arguments : (j : ℕ) → a ≤ j → j < 2 ^ 64 → scope (argument_text j) ≡ None

pub clear_more : {k a k' a' : ℕ} {scope : Meanings} → k ≤ k' → a ≤ a' → Clear k a scope → Clear k' a' scope
clear_more p q c =
    record { numbers = λ j l. c.numbers j (omega arith); arguments = λ j l. c.arguments j (omega arith) }

-- ---- the names of results

pub record ResultsIn (n k a : ℕ) (ts : List PayloadType) (scope scope' : Meanings) : Type 0 where
  pub grows : Grows scope scope'
  pub clear : Clear (next_number k ts) a scope'
  pub new : defines_new scope (defines_printed k ts) ≡ true
  pub stand : (num : ℕ) → num < length ts → scope' (number_name k) ≡ Some (results_named n (length ts) ts)

pub results_in : (n k a : ℕ) (ts : List PayloadType) (scope : Meanings) → k < 2 ^ 64 → Clear k a scope
    → ResultsIn n k a ts scope (with_defines n ts (defines_printed k ts) scope)
results_in n k a [] scope lt c =
    record { grows = λ name s. refl; clear = c; new = refl; stand = λ num l. absurd (omega (arith, l)) }
results_in n k a (t ∷ ts) scope lt c =
    let free = c.numbers k (omega arith) lt in
    record {
      grows = grows_by (number_name k) _ scope free;
      clear = record {
        numbers = λ j le l. with_other (number_name k) (number_name j) _ scope
            (λ e. let f = decimal_injective k j lt l cc in omega arith) ∙ c.numbers j (omega arith) l;
        arguments = λ j le l. with_other (number_name k) (argument_text j) _ scope (number_argument k j lt)
            ∙ c.arguments j le l;
      };
      new = ap (λ o. not (is_some o)) free;
      stand = λ num l. this_name (number_name k) _ scope free;
    }

-- ---- the names of arguments

pub record ArgumentsIn (n j k a : ℕ) (us ts : List PayloadType) (scope scope' : Meanings) : Type 0 where
  pub grows : Grows scope scope'
  pub clear : Clear k (a + length ts) scope'
  pub new : arguments_new n j us (arguments_printed a ts) scope ≡ true
  pub stand : (x i q : ℕ) → x < length ts → i ≡ a + x → q ≡ j + x
      → scope' (argument_text i) ≡ Some (argument_named n q (slice_get us q))

pub arguments_in : (n j k a : ℕ) (us ts : List PayloadType) (scope : Meanings) → a + length ts < 2 ^ 64
    → Clear k a scope → ArgumentsIn n j k a us ts scope (with_arguments n j us (arguments_printed a ts) scope)
arguments_in n j k a us [] scope lt c = record {
  grows = λ name s. refl;
  clear = clear_more (omega arith) (omega arith) c;
  new = refl;
  stand = λ x i q l. absurd (omega (arith, l));
}
arguments_in n j k a us (t ∷ ts) scope lt c =
    let y : Named = argument_named n j (slice_get us j) in
    let one : Meanings = with_name (argument_text a) y scope in
    let room : a < 2 ^ 64 = omega (arith, lt) in
    let free = c.arguments a (omega arith) room in
    let grows = grows_by (argument_text a) y scope free in
    let here = this_name (argument_text a) y scope free in
    let clear : Clear k (suc a) one = record {
      numbers = λ i le l. with_other (argument_text a) (number_name i) y scope (λ e. number_argument i a l (sym e))
          ∙ c.numbers i le l;
      arguments = λ i le l. with_other (argument_text a) (argument_text i) y scope
          (λ e. let f = decimal_injective a i room l cc in omega arith) ∙ c.arguments i (omega arith) l;
    } in
    let more = arguments_in n (j + 1) k (suc a) us ts one (omega (arith, lt)) clear in
    record {
      grows = λ name s. more.grows name (λ e. s (sym (grows name s) ∙ e)) ∙ grows name s;
      clear = clear_more (omega arith) (omega arith) more.clear;
      new = and_is _ _ (ap (λ o. not (is_some o)) free) more.new;
      stand = elim [
        | zero ↦ λ i q l e f. let p : i ≡ a = omega (arith, e) in
            let r : q ≡ j = omega (arith, f) in
            rw (p, r) (more.grows (argument_text a) (λ e. let z = sym here ∙ e in absurd cc) ∙ here)
        | suc x ↦ λ i q l e f. more.stand x i q (omega (arith, l)) (omega (arith, e)) (omega (arith, f))
      ];
    }

-- ---- values

-- a use stands for a value of a type, which is also known by what defines it
pub record Stands (scope : Meanings) (u : UseSaid) (v : ValueName) (t known : Option PayloadType) : Type 0 where
  pub means : use_means scope u ≡ true
  pub value : use_value scope u ≡ v
  pub type_is : use_type scope u ≡ t
  pub known_is : known ≡ t

still : {scope scope' : Meanings} {u : UseSaid} {v : ValueName} {t known : Option PayloadType}
    → Grows scope scope' → Stands scope u v t known → Stands scope' u v t known
still {u = u} f s =
    let e = f u.name (λ e. let p : false ≡ true = sym (ap (has_use u.number) e) ∙ s.means in absurd cc) in
    record {
      means = ap (has_use u.number) e ∙ s.means;
      value = ap (λ o. value_in o (count_used u.number)) e ∙ s.value;
      type_is = ap (λ o. type_in o (count_used u.number)) e ∙ s.type_is;
      known_is = s.known_is;
    }

-- where a place defines a value or an older one is visible, it has the type that it has there
at_place : (P : Option PayloadType → Type 0) (a b : Bool) (i : ℕ) (ts : List PayloadType) (older : Option PayloadType)
    (old : Bool) → (a ≡ true → b ≡ true → P (slice_get ts i)) → (old ≡ true → P older)
    → (is_some (cond a (cond b (Some i) None) None) || old) ≡ true
    → P (type_or (cond a (cond b (Some i) None) None) ts older)
at_place P true true i ts older old f g s = f refl refl
at_place P a b i ts older old f g s = g s

part_is : (n num : ℕ) (ts : List PayloadType) → num < length ts
    → (has_value (part_said ts num) (results_named n (length ts) ts) ≡ true) × (count_used (part_said ts num) ≡ num)
part_is n num [] lt = absurd (omega (arith, lt))
part_is n num (t ∷ []) lt = (refl, omega (arith, lt))
part_is n num (t ∷ (s ∷ ts)) lt = (lt-ltb num _ lt, refl)

one_of : (o : Option PayloadType) → slice_get (one_type o) 0 ≡ o
one_of None = refl
one_of (Some t) = refl

-- only the first block of an operation has arguments
abbrev pub IsFirst : ℕ → List PayloadType → Type 0
IsFirst i ts = (i ≡ 0) ⊎ (ts ≡ [])

abbrev pub named_by : (OpName → ℕ) → OpName → OpName
named_by g o = op_name (g o)

module _ (names : Names) (g : OpName → ℕ) where
  abbrev Visible : Meanings → ValueName → Option PayloadType → Type 0
  Visible scope v t = Stands scope (use_printed names v) (value_renamed (named_by g) v) t (type_of names v)

  -- each visible value is what its printed name stands for
  pub record Knows (env : Typed) (scope : Meanings) : Type 0 where
    pub by : (v : ValueName) → sees (seen_of env) v ≡ true → Visible scope v (type_at env v)

  pub knows_nothing : (scope : Meanings) → Knows [] scope
  knows_nothing scope = record { by = λ v s. absurd (let z : false ≡ true = s in cc) }

  module _ (m : OpName) (n k a : ℕ) (ts args : List PayloadType) (env : Typed) (scope scope' : Meanings)
      (h : HasEntry names m k a ts args) (c : g m ≡ n) (w : Knows env scope) where
    at_entry : names.entry m.0 ≡ Some (record { number = k; results = ts; first = a; args = args })
    at_entry =
        let p = h.number in
        let q = h.results in
        let r = h.first in
        let s = h.arguments in
        h.is ∙ (λ i. Some (record { number = p i; results = q i; first = r i; args = s i }))

    new_result : (num : ℕ) → num < length ts → ResultsIn n k a ts scope scope'
        → Visible scope' (Result m num) (slice_get ts num)
    new_result num lt r =
        let s = r.stand num lt in
        let p = part_is n num ts lt in
        let x = sym c in
        let y = p.1 in
        rw at_entry (record {
          means = rw s p.0;
          value = rw s (λ i. Result (op_name (x i)) (y i));
          type_is = rw s (ap (slice_get ts) y);
          known_is = refl;
        })

    pub knows_results : ResultsIn n k a ts scope scope' → Knows ((done m (length ts), ts) ∷ env) scope'
    knows_results r = record {
      by = elim [
        | Result o num ↦ λ s. at_place (Visible scope' (Result o num)) (o.0 == m.0) (nat_lt num (length ts)) num ts
            (type_at env (Result o num)) (sees (seen_of env) (Result o num))
            (λ p q. rw (name_is o m p) (new_result num (ltb-true num _ q) r))
            (λ old. still r.grows (w.by (Result o num) old)) s
        | Arg o q num ↦ λ s. still r.grows (w.by (Arg o q num) s)
        | Free num ↦ λ s. still r.grows (w.by (Free num) s)
      ];
    }

    new_argument : (num : ℕ) → num < length args → length args < 2 ^ 32 → ArgumentsIn n 0 k a args args scope scope'
        → Visible scope' (Arg m 0 num) (slice_get args num)
    new_argument num lt small r =
        let s = r.stand num (a + num) num lt refl (omega arith) in
        let x = sym c in
        let y : argument_number num ≡ num = omega (arith, lt, small) in
        rw at_entry (record {
          means = rw s;
          value = rw s (λ i. Arg (op_name (x i)) 0 (y i));
          type_is = rw s (one_of (slice_get args num));
          known_is = refl;
        })

    pub knows_arguments : (i : ℕ) → IsFirst i args → length args < 2 ^ 32 → ArgumentsIn n 0 k a args args scope scope'
        → Knows ((inside m i (length args), args) ∷ env) scope'
    knows_arguments i first small r = record {
      by = elim [
        | Result o num ↦ λ s. still r.grows (w.by (Result o num) s)
        | Arg o q num ↦ λ s. at_place (Visible scope' (Arg o q num)) ((o.0 == m.0) && (q == i))
            (nat_lt num (length args)) num args (type_at env (Arg o q num)) (sees (seen_of env) (Arg o q num))
            (λ p l. let b = and_parts (o.0 == m.0) (q == i) p in
            let lt = ltb-true num _ l in
            let z : q ≡ 0 = elim first [
              | inl z ↦ eqb-true q i b.1 ∙ z
              | inr z ↦ absurd (let e : length args ≡ 0 = ap length z in omega (arith, e, lt))
            ] in
            rw (name_is o m b.0, z) (new_argument num lt small r)) (λ old. still r.grows (w.by (Arg o q num) old)) s
        | Free num ↦ λ s. still r.grows (w.by (Free num) s)
      ];
    }

  -- ---- uses

  -- the uses of an operation stand for its operands
  pub record UsesAgain (env : Typed) (scope : Meanings) (os : List ValueName) : Type 0 where
    pub mean : every (use_means scope) (map (use_printed names) os) ≡ true
    pub values : map (use_value scope) (map (use_printed names) os) ≡ map (value_renamed (named_by g)) os
    pub types : map (use_type scope) (map (use_printed names) os) ≡ map (type_at env) os
    pub known : map (type_of names) os ≡ map (type_at env) os

  pub uses_again : (env : Typed) (scope : Meanings) (os : List ValueName) → Knows env scope → AllSeen (seen_of env) os
      → UsesAgain env scope os
  uses_again env scope [] w h = record { mean = refl; values = refl; types = refl; known = refl }
  uses_again env scope (v ∷ os) w h =
      let s = w.by v h.0 in
      let r = uses_again env scope os w h.1 in
      let a = s.value in
      let b = s.type_is in
      let c = s.known_is in
      let d = r.values in
      let e = r.types in
      let f = r.known in
      record {
        mean = and_is _ _ s.means r.mean;
        values = λ i. a i ∷ d i;
        types = λ i. b i ∷ e i;
        known = λ i. c i ∷ f i;
      }
