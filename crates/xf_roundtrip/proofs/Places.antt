-- Operations by their places in preorder.
use Rattle.std.proofs.Common.{◌≡◌, ◌⊎◌, ℕ, suc, ◌+◌, Bool, true, false, List, [], ◌∷◌, ◌++◌, length, inl, inr, refl}
use Rattle.std.proofs.Common.{sym, ◌∙◌, arith, length-append}
use Rattle.std.specs.Prelude.{if◌then◌else◌}
use Rattle.std.proofs.lemmas.Bool.{or_parts}
use Rattle.xf_ir.specs.declared.name.OpName.{OpName}
use Rattle.xf_ir.specs.Lists.{Each, same_name, is_among, Once}
use Rattle.xf_ir.specs.Tree.{Ops, no_ops, op, Regions, no_regions, region}
use Rattle.xf_ir.specs.Walk.{ops_names, regions_names}
use Rattle.xf_ir.proofs.Lists.{name_is, own_name, other_way}
use Rattle.xf_ir.specs.Count.{ops_count, regions_count}

-- ---- places in preorder

-- the place of a name among others
pub index_of : OpName → List OpName → ℕ
index_of n [] = 0
index_of n (m ∷ ms) = if same_name m n then 0 else suc (index_of n ms)

same_head : (x y : Bool) (i j : ℕ) → (if x then 0 else suc i) ≡ (if y then 0 else suc j)
    → ((x ≡ true) × (y ≡ true)) ⊎ ((x ≡ false) × ((y ≡ false) × (i ≡ j)))
same_head true true i j e = inl (refl, refl)
same_head true false i j e = absurd (omega (arith, e))
same_head false true i j e = absurd (omega (arith, e))
same_head false false i j e = inr (refl, (refl, omega (arith, e)))

-- names with one place are one name
pub same_place : (ns : List OpName) (a b : OpName) → is_among a ns ≡ true → is_among b ns ≡ true
    → index_of a ns ≡ index_of b ns → a ≡ b
unfolding index_of
same_place [] a b h k e = absurd cc
same_place (m ∷ ns) a b h k e =
    elim (same_head (same_name m a) (same_name m b) (index_of a ns) (index_of b ns) e) [
      | inl t ↦ sym (name_is m a t.0) ∙ name_is m b t.1
      | inr f ↦ same_place ns a b (rw f.0 at h) (rw f.1.0 at k) f.1.1
    ]

-- these names have numbers from here on
abbrev pub Counts : (OpName → ℕ) → ℕ → List OpName → Type 0
Counts g i [] = Unit {0}
Counts g i (n ∷ ns) = (g n ≡ i) × Counts g (i + 1) ns

counts_more : (g h : OpName → ℕ) (i : ℕ) (ns : List OpName) → Each (λ m. h m ≡ suc (g m)) ns → Counts g i ns
    → Counts h (i + 1) ns
counts_more g h i [] e c = tt
counts_more g h i (n ∷ ns) e c = (omega (arith, e.0, c.0), counts_more g h (i + 1) ns e.1 c.1)

later : (n : OpName) (ms ns : List OpName) → is_among n ns ≡ false
    → Each (λ m. index_of m (n ∷ ms) ≡ suc (index_of m ms)) ns
unfolding index_of
later n ms [] h = tt
later n ms (m ∷ ns) h =
    let p = or_parts (same_name m n) (is_among n ns) h in
    let e : same_name n m ≡ false = other_way m n p.0 in
    (rw e refl, later n ms ns p.1)

pub all_counted : (ns : List OpName) → Once ns → Counts (λ m. index_of m ns) 0 ns
unfolding index_of
all_counted [] o = tt
all_counted (n ∷ ns) o =
    let e : same_name n n ≡ true = own_name n in
    let first : index_of n (n ∷ ns) ≡ 0 = rw e refl in
    (first, counts_more (λ m. index_of m ns) (λ m. index_of m (n ∷ ns)) 0 ns (later n ns ns o.0) (all_counted ns o.1))

pub counts_split : (g : OpName → ℕ) (xs ys : List OpName) (i j : ℕ) → j ≡ i + length xs → Counts g i (xs ++ ys)
    → Counts g i xs × Counts g j ys
counts_split g [] ys i j e c = (tt, let p : j ≡ i = omega (arith, e) in rw p c)
counts_split g (x ∷ xs) ys i j e c =
    let r = counts_split g xs ys (i + 1) j (omega (arith, e)) c.1 in
    ((c.0, r.0), r.1)

mutual
  pub ops_names_count : (ops : Ops) → length (ops_names ops) ≡ ops_count ops
  ops_names_count no_ops = refl
  ops_names_count (op n k ds os ts rs rest) =
      let a = regions_names_count rs in
      let b = ops_names_count rest in
      let c = length-append (regions_names rs) (ops_names rest) in
      omega (arith, a, b, c)

  pub regions_names_count : (rs : Regions) → length (regions_names rs) ≡ regions_count rs
  regions_names_count no_regions = refl
  regions_names_count (region args ops rest) =
      let a = ops_names_count ops in
      let b = regions_names_count rest in
      let c = length-append (ops_names ops) (regions_names rest) in
      omega (arith, a, b, c)
