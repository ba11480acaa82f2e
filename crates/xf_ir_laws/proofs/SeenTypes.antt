-- A value has a type exactly where it is visible.
use Rattle.std.proofs.Common.{◌≡◌, ℕ, zero, suc, List, [], ◌∷◌, length, Option, None, Some, Bool, true, false, eqb}
use Rattle.std.proofs.Common.{is_some, ◌||◌, ◌&&◌, inl, inr, refl, sym, ap, subst, ◌∙◌, arith}
use Rattle.std.specs.Prelude.{map, slice_get, nat_lt, if◌then◌else◌}
use Rattle.std.proofs.lemmas.Bool.{cases_Bool, and_from, and_parts, ltb-true, lt-ltb}
use Rattle.xf_type.specs.declared.payload_type.PayloadType.{PayloadType}
use Rattle.xf_ir.specs.declared.name.OpName.{OpName}
use Rattle.xf_ir.specs.declared.name.ValueName.{ValueName}
use Rattle.xf_ir.specs.declared.name.ValueName.TheVariants.{Result, Arg, Free}
use Rattle.xf_ir.specs.Tree.{Ops, no_ops, op, Regions, no_regions, region}
use Rattle.xf_ir.specs.Lists.{Each, every}
use Rattle.xf_ir.specs.Types.{known}
use Rattle.xf_ir.specs.Places.{Seen, done, inside, below, numbering_of, sees, AllSeen}
use Rattle.xf_ir.specs.Placed.{Typed, type_or, type_at, Holder, holder_of, Placed}
use Rattle.xf_ir.specs.Valid.{OpsSee, RegionsSee, FunctionsSee}
use Rattle.xf_ir_laws.proofs.Obeys.{OpsObey, RegionsObey, FunctionsObey}

abbrev pub Known : Placed → Type 0
Known p = every known p.types ≡ true

-- ---- one value

abbrev pub seen_of : Typed → List Seen
seen_of [] = []
seen_of (x ∷ env) = x.0 ∷ seen_of env

abbrev size : Seen → ℕ
size (done n count) = count
size (inside n i count) = count

-- each place has as many types as values
abbrev pub Aligned : Typed → Type 0
Aligned env = Each (λ (x : Seen × List PayloadType). size x.0 ≡ length x.1) env

below_is : (num count i : ℕ) → below num count ≡ Some i → nat_lt i count ≡ true
below_is num count i h =
    elim (cases_Bool (nat_lt num count)) [
      | inl e ↦ (let h' = rw e at h in let q : num ≡ i = cc in subst (λ k. nat_lt k count ≡ true) q e)
      | inr e ↦ absurd (let h' = rw e at h in cc)
    ]

if_below : (b : Bool) (num count i : ℕ) → (if b then below num count else None) ≡ Some i → nat_lt i count ≡ true
if_below true num count i h = below_is num count i h
if_below false num count i h = absurd (cc)

place_below : (s : Seen) (v : ValueName) (i : ℕ) → numbering_of s v ≡ Some i → nat_lt i (size s) ≡ true
place_below (done n count) (Result o num) i h = if_below (eqb o.0 n.0) num count i h
place_below (done n count) (Arg o r num) i h = absurd (cc)
place_below (done n count) (Free num) i h = absurd (cc)
place_below (inside n r' count) (Result o num) i h = absurd (cc)
place_below (inside n r' count) (Arg o r num) i h = if_below (eqb o.0 n.0 && eqb r r') num count i h
place_below (inside n r' count) (Free num) i h = absurd (cc)

get_known : {A : Type 0} (ts : List A) (i : ℕ) → nat_lt i (length ts) ≡ true → is_some (slice_get ts i) ≡ true
get_known [] i h = absurd (omega (arith, ltb-true i 0 h))
get_known (t ∷ ts) zero h = refl
get_known (t ∷ ts) (suc i) h =
    get_known ts i (lt-ltb i (length ts) (omega (arith, ltb-true (suc i) (length (t ∷ ts)) h)))

or_known : (o : Option ℕ) (ts : List PayloadType) (later : Option PayloadType)
    → ((i : ℕ) → o ≡ Some i → nat_lt i (length ts) ≡ true) → is_some (type_or o ts later) ≡ (is_some o || is_some later)
or_known None ts later f = refl
or_known (Some i) ts later f = get_known ts i (f i refl)

pub known_seen : (env : Typed) (v : ValueName) → Aligned env → known (type_at env v) ≡ sees (seen_of env) v
known_seen [] v a = refl
known_seen (x ∷ env) v a =
    or_known (numbering_of x.0 v) x.1 (type_at env v) (λ i h. subst (λ k. nat_lt i k
    ≡ true) a.0 (place_below x.0 v i h)) ∙ ap (λ b. is_some (numbering_of x.0 v) || b) (known_seen env v a.1)

-- ---- all operands

all_seen : (env : Typed) (vs : List ValueName) → Aligned env → every known (map (type_at env) vs) ≡ true
    → AllSeen (seen_of env) vs
all_seen env [] a h = tt
all_seen env (v ∷ vs) a h =
    let p = and_parts (known (type_at env v)) (every known (map (type_at env) vs)) h in
    (sym (known_seen env v a) ∙ p.0, all_seen env vs a p.1)

all_known : (env : Typed) (vs : List ValueName) → Aligned env → AllSeen (seen_of env) vs
    → every known (map (type_at env) vs) ≡ true
all_known env [] a h = refl
all_known env (v ∷ vs) a h = and_from _ _ (known_seen env v a ∙ h.0) (all_known env vs a h.1)

mutual
  ops_see : (h : Holder) (env : Typed) (ops : Ops) → Aligned env → OpsObey Known h env ops → OpsSee (seen_of env) ops
  ops_see h env no_ops a e = tt
  ops_see h env (op n k ds os ts rs rest) a e = (
    all_seen env os a e.0,
    (
      regions_see (holder_of k (map (type_at env) os) ts) env n 0 rs a e.1.0,
      ops_see h ((done n (length ts), ts) ∷ env) rest (refl, a) e.1.1,
    ),
  )

  regions_see : (h : Holder) (env : Typed) (n : OpName) (i : ℕ) (rs : Regions) → Aligned env
      → RegionsObey Known h env n i rs → RegionsSee (seen_of env) n i rs
  regions_see h env n i no_regions a e = tt
  regions_see h env n i (region args ops rest) a e =
      (ops_see h ((inside n i (length args), args) ∷ env) ops (refl, a) e.0, regions_see h env n (suc i) rest a e.1)

pub functions_see : (h : Holder) (fs : Ops) → FunctionsObey Known h fs → FunctionsSee fs
functions_see h no_ops e = tt
functions_see h (op n k ds os ts rs rest) e = (
  all_seen [] os tt e.0,
  (regions_see (holder_of k (map (type_at []) os) ts) [] n 0 rs tt e.1.0, functions_see h rest e.1.1),
)

mutual
  ops_known : (h : Holder) (env : Typed) (ops : Ops) → Aligned env → OpsSee (seen_of env) ops → OpsObey Known h env ops
  ops_known h env no_ops a e = tt
  ops_known h env (op n k ds os ts rs rest) a e = (
    all_known env os a e.0,
    (
      regions_known (holder_of k (map (type_at env) os) ts) env n 0 rs a e.1.0,
      ops_known h ((done n (length ts), ts) ∷ env) rest (refl, a) e.1.1,
    ),
  )

  regions_known : (h : Holder) (env : Typed) (n : OpName) (i : ℕ) (rs : Regions) → Aligned env
      → RegionsSee (seen_of env) n i rs → RegionsObey Known h env n i rs
  regions_known h env n i no_regions a e = tt
  regions_known h env n i (region args ops rest) a e =
      (ops_known h ((inside n i (length args), args) ∷ env) ops (refl, a) e.0, regions_known h env n (suc i) rest a e.1)

pub functions_known : (h : Holder) (fs : Ops) → FunctionsSee fs → FunctionsObey Known h fs
functions_known h no_ops e = tt
functions_known h (op n k ds os ts rs rest) e = (
  all_known [] os tt e.0,
  (regions_known (holder_of k (map (type_at []) os) ts) [] n 0 rs tt e.1.0, functions_known h rest e.1.1),
)

pub root_seen : (vs : List ValueName) → every known (map (type_at []) vs) ≡ true → AllSeen [] vs
root_seen vs h = all_seen [] vs tt h

pub root_known : (vs : List ValueName) → AllSeen [] vs → every known (map (type_at []) vs) ≡ true
root_known vs h = all_known [] vs tt h
