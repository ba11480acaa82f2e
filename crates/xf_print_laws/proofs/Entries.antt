-- The numbers that the names of operations are printed with, and their entries.
use Rattle.std.proofs.Common.{◌≡◌, ℕ, ◌+◌, ◌≤◌, true, false, List, [], ◌∷◌, ◌++◌, length, Some, refl}
use Rattle.std.proofs.Common.{◌∙◌, arith, ◌^◌, ◌<◌}
use Rattle.std.specs.Prelude.{◌==◌}
use Rattle.std.proofs.lemmas.Bool.{or_parts}
use Rattle.xf_type.specs.declared.payload_type.PayloadType.{PayloadType}
use Rattle.xf_ir.specs.declared.name.OpName.{OpName}
use Rattle.xf_ir.specs.Lists.{Each, same_name, is_among, Once}
use Rattle.xf_ir.specs.Tree.{Ops, no_ops, op, Regions, no_regions, region}
use Rattle.xf_ir.specs.Walk.{ops_names, regions_names}
use Rattle.xf_ir.proofs.Lists.{own_name, other_way, not_left, not_right, once_left, once_right}
use Rattle.xf_printed.specs.Names.{DefinedValues, Names, first_args, next_number, with_op, with_ops, with_regions}

-- ---- numbers

-- the next number, by how many an operation with such results and block arguments takes
module _ (step : ℕ → List PayloadType → List PayloadType → ℕ) where
  abbrev mutual
    pub ops_next : ℕ → Ops → ℕ
    ops_next k no_ops = k
    ops_next k (op n kd ds os ts rs rest) = ops_next (regions_next (step k ts (first_args rs)) rs) rest

    pub regions_next : ℕ → Regions → ℕ
    regions_next k no_regions = k
    regions_next k (region args ops rest) = regions_next (ops_next k ops) rest

-- a number of names that rises so; by less than 2 ^ 32 where there are fewer arguments
pub record Rises (get : Names → ℕ) (step : ℕ → List PayloadType → List PayloadType → ℕ) : Type 0 where
  pub takes : (n : OpName) (ts args : List PayloadType) (names : Names)
      → get (with_op n ts args names) ≡ step (get names) ts args
  pub more : (k : ℕ) (ts args : List PayloadType) → k ≤ step k ts args
  pub few : (k : ℕ) (ts args : List PayloadType) → length args < 2 ^ 32 → step k ts args ≤ k + 2 ^ 32

module _ {get : Names → ℕ} {step : ℕ → List PayloadType → List PayloadType → ℕ} (s : Rises get step) where
  mutual
    pub ops_more : (k : ℕ) (ops : Ops) → k ≤ ops_next step k ops
    ops_more k no_ops = omega arith
    ops_more k (op n kd ds os ts rs rest) =
        let next = step k ts (first_args rs) in
        omega (arith, s.more k ts (first_args rs), regions_more next rs, ops_more (regions_next step next rs) rest)

    pub regions_more : (k : ℕ) (rs : Regions) → k ≤ regions_next step k rs
    regions_more k no_regions = omega arith
    regions_more k (region args ops rest) = omega (arith, ops_more k ops, regions_more (ops_next step k ops) rest)

  mutual
    pub ops_after : (names : Names) (ops : Ops) → get (with_ops names ops) ≡ ops_next step (get names) ops
    ops_after names no_ops = refl
    ops_after names (op n k ds os ts rs rest) =
        let one : Names = with_op n ts (first_args rs) names in
        rw (ops_after (with_regions one rs) rest, regions_after one rs, s.takes n ts (first_args rs) names) refl

    pub regions_after : (names : Names) (rs : Regions)
        → get (with_regions names rs) ≡ regions_next step (get names) rs
    regions_after names no_regions = refl
    regions_after names (region args ops rest) =
        rw (regions_after (with_ops names ops) rest, ops_after names ops) refl

-- of results, and of arguments
abbrev result_step : ℕ → List PayloadType → List PayloadType → ℕ
result_step k ts args = next_number k ts

abbrev argument_step : ℕ → List PayloadType → List PayloadType → ℕ
argument_step a ts args = a + length args

pub number_more : (k : ℕ) (ts : List PayloadType) → k ≤ next_number k ts
number_more k [] = omega arith
number_more k (t ∷ ts) = omega arith

pub results_rise : Rises (λ names. names.number) result_step
results_rise = record { takes = λ n ts args names. refl; more = λ k ts args. number_more k ts; few = few }
  where
    few : (k : ℕ) (ts args : List PayloadType) → length args < 2 ^ 32 → next_number k ts ≤ k + 2 ^ 32
    few k [] args e = omega arith
    few k (t ∷ ts) args e = omega arith

pub arguments_rise : Rises (λ names. names.argument) argument_step
arguments_rise = record {
  takes = λ n ts args names. refl;
  more = λ a ts args. omega arith;
  few = λ a ts args e. omega arith;
}

abbrev pub ops_number : ℕ → Ops → ℕ
ops_number k ops = ops_next result_step k ops

abbrev pub regions_number : ℕ → Regions → ℕ
regions_number k rs = regions_next result_step k rs

abbrev pub ops_argument : ℕ → Ops → ℕ
ops_argument a ops = ops_next argument_step a ops

abbrev pub regions_argument : ℕ → Regions → ℕ
regions_argument a rs = regions_next argument_step a rs

pub ops_number_more : (k : ℕ) (ops : Ops) → k ≤ ops_number k ops
ops_number_more k ops = ops_more results_rise k ops

pub regions_number_more : (k : ℕ) (rs : Regions) → k ≤ regions_number k rs
regions_number_more k rs = regions_more results_rise k rs

pub ops_argument_more : (a : ℕ) (ops : Ops) → a ≤ ops_argument a ops
ops_argument_more a ops = ops_more arguments_rise a ops

pub regions_argument_more : (a : ℕ) (rs : Regions) → a ≤ regions_argument a rs
regions_argument_more a rs = regions_more arguments_rise a rs

pub number_after : (names : Names) (ops : Ops) → (with_ops names ops).number ≡ ops_number names.number ops
number_after names ops = ops_after results_rise names ops

pub argument_after : (names : Names) (ops : Ops) → (with_ops names ops).argument ≡ ops_argument names.argument ops
argument_after names ops = ops_after arguments_rise names ops

-- ---- entries

-- what the numbers of an operation are
pub record HasEntry (names : Names) (m : OpName) (k a : ℕ) (ts args : List PayloadType) : Type 0 where
  pub entry : DefinedValues
  pub is : names.entry m.0 ≡ Some entry
  pub number : entry.number ≡ k
  pub results : entry.results ≡ ts
  pub first : entry.first ≡ a
  pub arguments : entry.args ≡ args

-- a name that is not among these keeps its entry
mutual
  ops_absent : (x : OpName) (ops : Ops) (names : Names) → is_among x (ops_names ops) ≡ false
      → (with_ops names ops).entry x.0 ≡ names.entry x.0
  ops_absent x no_ops names h = refl
  ops_absent x (op n k ds os ts rs rest) names h =
      let p = or_parts (same_name n x) (is_among x (regions_names rs ++ ops_names rest)) h in
      let one : Names = with_op n ts (first_args rs) names in
      let e : (x.0 == n.0) ≡ false = other_way n x p.0 in
      rw (
        ops_absent x rest (with_regions one rs) (not_right x (regions_names rs) (ops_names rest) p.1),
        regions_absent x rs one (not_left x (regions_names rs) (ops_names rest) p.1),
        e,
      ) refl

  regions_absent : (x : OpName) (rs : Regions) (names : Names) → is_among x (regions_names rs) ≡ false
      → (with_regions names rs).entry x.0 ≡ names.entry x.0
  regions_absent x no_regions names h = refl
  regions_absent x (region args ops rest) names h =
      regions_absent x rest (with_ops names ops) (not_right x (ops_names ops) (regions_names rest) h)
      ∙ ops_absent x ops names (not_left x (ops_names ops) (regions_names rest) h)

-- each operation has its numbers, from these on
abbrev mutual
  pub Entered : Names → ℕ → ℕ → Ops → Type 0
  Entered names k a no_ops = Unit {0}
  Entered names k a (op n kd ds os ts rs rest) =
      HasEntry names n k a ts (first_args rs)
      × (RegionsEntered names (next_number k ts) (a + length (first_args rs)) rs × Entered names
      (regions_number (next_number k ts) rs) (regions_argument (a + length (first_args rs)) rs) rest)

  pub RegionsEntered : Names → ℕ → ℕ → Regions → Type 0
  RegionsEntered names k a no_regions = Unit {0}
  RegionsEntered names k a (region args ops rest) =
      Entered names k a ops × RegionsEntered names (ops_number k ops) (ops_argument a ops) rest

-- the same entries for these names
abbrev Agree : Names → Names → List OpName → Type 0
Agree all names ns = Each (λ m. all.entry m.0 ≡ names.entry m.0) ns

-- among the first of some names stand the entries that were there before the later ones
agree_before : (names before after : Names) (inner outer : List OpName) → Once (inner ++ outer)
    → ((m : OpName) → is_among m outer ≡ false → after.entry m.0 ≡ before.entry m.0)
    → Agree names after (inner ++ outer) → Agree names before inner × Agree names after outer
agree_before names before after [] outer o f e = (tt, e)
agree_before names before after (m ∷ inner) outer o f e =
    let p = agree_before names before after inner outer o.1 f e.1 in
    ((e.0 ∙ f m (not_right m inner outer o.0), p.0), p.1)

mutual
  pub ops_entered : (ops : Ops) (names all : Names) → Once (ops_names ops)
      → Agree all (with_ops names ops) (ops_names ops) → Entered all names.number names.argument ops
  ops_entered no_ops names all o e = tt
  ops_entered (op n k ds os ts rs rest) names all o e =
      let one : Names = with_op n ts (first_args rs) names in
      let two : Names = with_regions one rs in
      let inner = regions_names rs in
      let outer = ops_names rest in
      let entry : DefinedValues = record {
        number = names.number;
        results = ts;
        first = names.argument;
        args = first_args rs;
      } in
      let own : (n.0 == n.0) ≡ true = own_name n in
      let a = ops_absent n rest two (not_right n inner outer o.0) in
      let b = regions_absent n rs one (not_left n inner outer o.0) in
      let is : all.entry n.0 ≡ Some entry = rw (e.0, a, b, own) refl in
      let agree = agree_before all two (with_ops two rest) inner outer o.1 (λ m a. ops_absent m rest two a) e.1 in
      let later = ops_entered rest two all (once_right inner outer o.1) agree.1 in
      let k' = regions_after results_rise one rs in
      let a' = regions_after arguments_rise one rs in (
        record { entry = entry; is = is; number = refl; results = refl; first = refl; arguments = refl },
        (regions_entered rs one all (once_left inner outer o.1) agree.0, rw (k', a') at later),
      )

  pub regions_entered : (rs : Regions) (names all : Names) → Once (regions_names rs)
      → Agree all (with_regions names rs) (regions_names rs) → RegionsEntered all names.number names.argument rs
  regions_entered no_regions names all o e = tt
  regions_entered (region args ops rest) names all o e =
      let two : Names = with_ops names ops in
      let inner = ops_names ops in
      let outer = regions_names rest in
      let agree = agree_before all two (with_regions two rest) inner outer o (λ m a. regions_absent m rest two a) e in
      let later = regions_entered rest two all (once_right inner outer o) agree.1 in
      let k' = ops_after results_rise names ops in
      let a' = ops_after arguments_rise names ops in
      (ops_entered ops names all (once_left inner outer o) agree.0, rw (k', a') at later)
