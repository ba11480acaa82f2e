-- Cells after one of them has changed.
use Rattle.std.proofs.Common.{◌≡◌, ℕ, zero, suc, ◌+◌, ◌<◌, List, [], ◌∷◌, length, slice_index, slice_set, sym, ◌∙◌}
use Rattle.std.proofs.Common.{ap, arith, refl, inl, inr}
use Rattle.std.specs.Prelude.{Option, Some, None}
use Rattle.std.proofs.lemmas.Bool.{cases_eq, cases_lt}
use Rattle.xf_index.specs.Index.{name_at}
use Rattle.xf_uses.specs.declared.cell.Definition.{Definition}
use Rattle.xf_uses.specs.declared.cell.CellName.{CellName}
use Rattle.xf_uses.specs.declared.cell.CellName.TheVariants.{Operand, Value}
use Rattle.xf_uses.specs.Cells.{cell_at, empties, number_of, AreCells, Cells, room}
use Rattle.xf_uses.specs.Stores.{IsLoose}

-- one cell stands for something else, or has another owner
pub record OneCell (names names2 : List (Option CellName)) (owner owner2 : List ℕ) (c : ℕ) (x : Option CellName)
    (o : ℕ) : Type 0 where
  pub c_in : c < length names
  pub len : length names2 ≡ length names
  pub owners : length owner2 ≡ length owner
  pub name : cell_at names2 c ≡ x
  pub names_other : (e : ℕ) → (e ≡ c → ⊥) → cell_at names2 e ≡ cell_at names e
  pub own : slice_index owner2 c ≡ o
  pub own_other : (e : ℕ) → (e ≡ c → ⊥) → slice_index owner2 e ≡ slice_index owner e

-- the owner that a cell has by what it stands for
abbrev pub Owned : List (Option CellName) → ℕ → ℕ → Option CellName → Type 0
Owned names c o None = o ≡ 0
Owned names c o (Some (Value v)) = o ≡ c
Owned names c o (Some (Operand n k)) = (v : Definition) × (cell_at names o ≡ Some (Value v))

-- no operand of another cell has this one as its value's
abbrev pub Alone : List (Option CellName) → List ℕ → ℕ → Type 0
Alone names owner c = (e n k : ℕ) → (e ≡ c → ⊥) → cell_at names e ≡ Some (Operand n k) → slice_index owner e ≡ c → ⊥

-- no other cell stands for it
abbrev pub Fresh : List (Option CellName) → ℕ → Option CellName → Type 0
Fresh names c x = (e : ℕ) (y : CellName) → (e ≡ c → ⊥) → x ≡ Some y → cell_at names e ≡ Some y → ⊥

-- the index has that cell's new number
pub record Indexed (index index2 : List (Option ℕ)) (c : ℕ) (x : Option CellName) : Type 0 where
  pub len : length index2 ≡ length index
  pub at : name_at index2 c ≡ number_of x
  pub other : (e : ℕ) → (e ≡ c → ⊥) → name_at index2 e ≡ name_at index e

owned_at : (names : List (Option CellName)) (c o : ℕ) (x y : Option CellName) → x ≡ y → Owned names c o x
    → Owned names c o y
owned_at names c o x y e q = rw (← e) q

used_still : (names names2 : List (Option CellName)) (owner owner2 : List ℕ) (c e n k : ℕ) (x : Option CellName)
    (o : ℕ) → OneCell names names2 owner owner2 c x o → Alone names owner c → (e ≡ c → ⊥)
    → cell_at names e ≡ Some (Operand n k) → (v : Definition)
    × (cell_at names (slice_index owner e) ≡ Some (Value v)) → (v : Definition)
    × (cell_at names2 (slice_index owner2 e) ≡ Some (Value v))
used_still names names2 owner owner2 c e n k x o one al ne en t = (
  t.0,
  ap (cell_at names2) (one.own_other e ne) ∙ one.names_other (slice_index owner e) (λ q. al e n k ne en q)
      ∙ t.1,
)

pub kept : (names names2 : List (Option CellName)) (owner owner2 : List ℕ) (index index2 : List (Option ℕ)) (c : ℕ)
    (x : Option CellName) (o : ℕ) → AreCells names owner index → OneCell names names2 owner owner2 c x o
    → Indexed index index2 c x → (c ≡ 0 → ⊥) → Fresh names c x → Owned names2 c o x → Alone names owner c
    → AreCells names2 owner2 index2
kept names names2 owner owner2 index index2 c x o a one ix nz fr ow al = record {
  size = omega (arith, a.size, one.len, one.owners);
  some = omega (arith, a.some, one.len);
  within = omega (arith, a.within, one.len, ix.len);
  first = one.names_other 0 (λ q. nz (sym q)) ∙ a.first;
  indexed = λ e. elim (cases_eq e c) [
    | inl q ↦ ap (name_at index2) q ∙ ix.at ∙ ap number_of (sym one.name ∙ ap (cell_at names2) (sym q))
    | inr q ↦ ix.other e q ∙ a.indexed e ∙ ap number_of (sym (one.names_other e q))
  ];
  apart = λ e f y qe qf. elim (cases_eq e c) [
    | inl p ↦ elim (cases_eq f c) [
      | inl r ↦ p ∙ sym r
      | inr r ↦ absurd (fr f y r (sym one.name ∙ ap (cell_at names2) (sym p) ∙ qe) (sym (one.names_other f r) ∙ qf))
    ]
    | inr p ↦ elim (cases_eq f c) [
      | inl r ↦ absurd (fr e y p (sym one.name ∙ ap (cell_at names2) (sym r) ∙ qf) (sym (one.names_other e p) ∙ qe))
      | inr r ↦ a.apart e f y (sym (one.names_other e p) ∙ qe) (sym (one.names_other f r) ∙ qf)
    ]
  ];
  free = λ e h q. elim (cases_eq e c) [
    | inl p ↦ ap (slice_index owner2) p ∙ one.own
        ∙ owned_at names2 c o x None (sym one.name ∙ ap (cell_at names2) (sym p) ∙ q) ow
    | inr p ↦ one.own_other e p ∙ a.free e (omega (arith, one.len)) (sym (one.names_other e p) ∙ q)
  ];
  heads = λ e v q. elim (cases_eq e c) [
    | inl p ↦ ap (slice_index owner2) p ∙ one.own
        ∙ owned_at names2 c o x (Some (Value v)) (sym one.name ∙ ap (cell_at names2) (sym p) ∙ q) ow ∙ sym p
    | inr p ↦ one.own_other e p ∙ a.heads e v (sym (one.names_other e p) ∙ q)
  ];
  used = λ e n k q. elim (cases_eq e c) [
    | inl p ↦
        let w = owned_at names2 c o x (Some (Operand n k)) (sym one.name ∙ ap (cell_at names2) (sym p) ∙ q) ow in
        (w.0, ap (cell_at names2) (ap (slice_index owner2) p ∙ one.own) ∙ w.1)
    | inr p ↦
        let en = sym (one.names_other e p) ∙ q in
        used_still names names2 owner owner2 c e n k x o one al p en (a.used e n k en)
  ];
}

-- ---- room

pub empties_taken : (names : List (Option CellName)) (c : ℕ) (y : CellName) → c < length names
    → cell_at names c ≡ None → empties (slice_set names c (Some y)) + 1 ≡ empties names
empties_taken [] c y h e = absurd (omega arith)
empties_taken (None ∷ xs) zero y h e = refl
empties_taken (Some x ∷ xs) zero y h e = absurd (let q : Some x ≡ None = e in cc)
empties_taken (None ∷ xs) (suc c) y h e = omega (arith, empties_taken xs c y (omega arith) e)
empties_taken (Some x ∷ xs) (suc c) y h e = empties_taken xs c y (omega arith) e

pub empties_given : (names : List (Option CellName)) (c : ℕ) (y : CellName) → c < length names
    → cell_at names c ≡ Some y → empties (slice_set names c None) ≡ empties names + 1
empties_given [] c y h e = absurd (omega arith)
empties_given (None ∷ xs) zero y h e = absurd (let q : Some y ≡ None = sym e in cc)
empties_given (Some x ∷ xs) zero y h e = refl
empties_given (None ∷ xs) (suc c) y h e = omega (arith, empties_given xs c y (omega arith) e)
empties_given (Some x ∷ xs) (suc c) y h e = empties_given xs c y (omega arith) e

-- there is a cell that stands for nothing
empty_one : (names : List (Option CellName)) → 0 < empties names
    → (c : ℕ) × ((c < length names) × (cell_at names c ≡ None))
empty_one [] h = absurd (omega arith)
empty_one (None ∷ xs) h = (0, (omega arith, refl))
empty_one (Some x ∷ xs) h = let t = empty_one xs h in (suc t.0, (omega (arith, t.1.0), t.1.1))

empty_two : (names : List (Option CellName)) → 1 < empties names
    → (c : ℕ) × ((c < length names) × ((cell_at names c ≡ None) × (c ≡ 0 → ⊥)))
empty_two [] h = absurd (omega arith)
empty_two (None ∷ xs) h = let t = empty_one xs (omega arith) in
    (suc t.0, (omega (arith, t.1.0), (t.1.1, λ q. omega arith)))
empty_two (Some x ∷ xs) h = let t = empty_one xs (omega arith) in
    (suc t.0, (omega (arith, t.1.0), (t.1.1, λ q. omega arith)))

pub loose_one : (names : List (Option CellName)) (owner : List ℕ) (index : List (Option ℕ))
    → AreCells names owner index → 1 < empties names → (c : ℕ) × IsLoose owner c
loose_one names owner index a h =
    let t = empty_two names h in
    (t.0, record { within = omega (arith, a.size, t.1.0); owned = a.free t.0 t.1.0 t.1.1.0; other = t.1.1.1 })

-- a loose number stands for nothing
loose_in : (names : List (Option CellName)) (owner : List ℕ) (index : List (Option ℕ)) (c : ℕ)
    → AreCells names owner index → IsLoose owner c → (x : Option CellName) → cell_at names c ≡ x → x ≡ None
loose_in names owner index c a l None e = refl
loose_in names owner index c a l (Some (Value v)) e = absurd (l.other (sym (a.heads c v e) ∙ l.owned))
loose_in names owner index c a l (Some (Operand n k)) e =
    let t = a.used c n k e in
    let q : Some (Value t.0) ≡ None = sym t.1 ∙ ap (cell_at names) l.owned ∙ a.first in
    absurd (let z : ⊥ = cc in z)

pub loose_none : (names : List (Option CellName)) (owner : List ℕ) (index : List (Option ℕ)) (c : ℕ)
    → AreCells names owner index → IsLoose owner c → cell_at names c ≡ None
loose_none names owner index c a l = loose_in names owner index c a l (cell_at names c) refl

-- ---- whether there is room

one_empty : (names : List (Option CellName)) (c : ℕ) → c < length names → cell_at names c ≡ None → 0 < empties names
one_empty [] c h e = absurd (omega arith)
one_empty (None ∷ xs) c h e = omega arith
one_empty (Some x ∷ xs) zero h e = absurd (let q : Some x ≡ None = e in cc)
one_empty (Some x ∷ xs) (suc c) h e = one_empty xs c (omega arith) e

two_empty : (names : List (Option CellName)) (c : ℕ) → cell_at names 0 ≡ None → c < length names → (c ≡ 0 → ⊥)
    → cell_at names c ≡ None → 1 < empties names
two_empty [] c z h n e = absurd (omega arith)
two_empty (Some x ∷ xs) c z h n e = absurd (let q : Some x ≡ None = z in cc)
two_empty (None ∷ xs) zero z h n e = absurd (n refl)
two_empty (None ∷ xs) (suc c) z h n e = omega (arith, one_empty xs c (omega arith) e)

pub loose_room : (names : List (Option CellName)) (owner : List ℕ) (index : List (Option ℕ)) (v : Cells) (c : ℕ)
    → AreCells names owner index → record { names = names; owner = owner } ≡ v → IsLoose owner c → 0 < room v
loose_room names owner index v c a e l =
    let q = two_empty names c a.first (omega (arith, l.within, a.size)) l.other
    (loose_none names owner index c a l) in
    let w : empties v.names ≡ empties names = ap (λ (x : Cells). empties x.names) (sym e) in
    omega arith

pub loose_full : (names : List (Option CellName)) (owner : List ℕ) (index : List (Option ℕ)) (v : Cells)
    → AreCells names owner index → record { names = names; owner = owner } ≡ v → ((c : ℕ) → IsLoose owner c → ⊥)
    → room v ≡ 0
loose_full names owner index v a e n =
    let w : empties v.names ≡ empties names = ap (λ (x : Cells). empties x.names) (sym e) in
    elim (cases_lt 1 (empties names)) [
      | inl l ↦ let t = loose_one names owner index a l in absurd (n t.0 t.1)
      | inr l ↦ omega arith
    ]
