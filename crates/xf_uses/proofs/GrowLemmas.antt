-- Cells with one more.
use Rattle.std.proofs.Common.{◌≡◌, ℕ, zero, suc, ◌+◌, ◌<◌, List, [], ◌∷◌, ◌++◌, length, slice_index, slice_set, sym}
use Rattle.std.proofs.Common.{◌∙◌, ap, arith, refl, inl, inr, length-append}
use Rattle.std.specs.Prelude.{Option, Some, None}
use Rattle.std.proofs.lemmas.List.{get_or-set_same, get_or-set_other, length-set, get_or_append_left}
use Rattle.std.proofs.lemmas.Bool.{cases_lt}
use Rattle.xf_index.specs.Index.{name_at}
use Rattle.xf_uses.specs.declared.cell.Definition.{Definition}
use Rattle.xf_uses.specs.declared.cell.CellName.{CellName}
use Rattle.xf_uses.specs.declared.cell.CellName.TheVariants.{Operand, Value}
use Rattle.xf_uses.specs.Cells.{Cells, cell_at, empties, number_of, AreCells}
use Rattle.xf_uses.specs.Uses.{Has, Links, Operands, Values, AreUses}
use Rattle.xf_uses.specs.Stores.{IsRoomier}
use Rattle.xf_uses.proofs.MoveLemmas.{cells, named_in, some_empty}

more_names : (names : List (Option CellName)) (e : ℕ) → cell_at (names ++ None ∷ []) e ≡ cell_at names e
more_names [] zero = refl
more_names [] (suc e) = refl
more_names (x ∷ xs) zero = refl
more_names (x ∷ xs) (suc e) = more_names xs e

more_empties : (names : List (Option CellName)) → empties (names ++ None ∷ []) ≡ empties names + 1
more_empties [] = refl
more_empties (None ∷ xs) = omega (arith, more_empties xs)
more_empties (Some x ∷ xs) = more_empties xs

-- the owners, with the first one's of the new cell
more_owners : (owner : List ℕ) (e : ℕ) → e < length owner
    → slice_index (slice_set (owner ++ length owner ∷ []) (length owner) 0) e ≡ slice_index owner e
more_owners owner e h = get_or-set_other (owner ++ length owner ∷ []) (length owner) e 0 0 (λ q. omega arith)
    ∙ get_or_append_left owner (length owner ∷ []) 0 e h

new_owner : (owner : List ℕ) → slice_index (slice_set (owner ++ length owner ∷ []) (length owner) 0) (length owner)
    ≡ 0
new_owner owner = get_or-set_same (owner ++ length owner ∷ []) (length owner) 0 0
    (omega (arith, length-append owner (length owner ∷ [])))

more_length : (owner : List ℕ) → length (slice_set (owner ++ length owner ∷ []) (length owner) 0) ≡ length owner + 1
more_length owner = length-set (owner ++ length owner ∷ []) (length owner) 0
    ∙ length-append owner (length owner ∷ [])

owner_in : (names : List (Option CellName)) (owner : List ℕ) (index : List (Option ℕ)) (e : ℕ)
    → AreCells names owner index → e < length owner → (x : Option CellName) → cell_at names e ≡ x
    → slice_index owner e < length owner
owner_in names owner index e a h None z = omega (arith, a.free e (omega (arith, a.size)) z)
owner_in names owner index e a h (Some (Value v)) z = omega (arith, a.heads e v z)
owner_in names owner index e a h (Some (Operand n k)) z = let t = a.used e n k z in
    omega (arith, a.size, named_in names (slice_index owner e) (Value t.0) t.1)

-- no other cell has the new one as its owner
pub grown_alone : (names : List (Option CellName)) (owner owner2 : List ℕ) (index : List (Option ℕ)) (c : ℕ)
    → AreCells names owner index → owner2 ≡ owner ++ length owner ∷ [] → c ≡ length names → (e : ℕ)
    → e < length owner2 → slice_index owner2 e ≡ c → e ≡ c
grown_alone names owner owner2 index c a q i e h w = elim (cases_lt e (length owner)) [
  | inl l ↦
      let o = owner_in names owner index e a l (cell_at names e) refl in
      let z : slice_index owner2 e ≡ slice_index owner e = ap (λ y. slice_index y e) q
      ∙ get_or_append_left owner (length owner ∷ []) 0 e l in
      absurd (omega (arith, a.size))
  | inr l ↦ let z = ap length q ∙ length-append owner (length owner ∷ []) in omega (arith, a.size)
]

grown_at : (names : List (Option CellName)) (owner : List ℕ) (index index2 : List (Option ℕ))
    → AreCells names owner index → length names < length index2 → ((s : ℕ) → name_at index2 s ≡ name_at index s)
    → AreCells (names ++ None ∷ []) (slice_set (owner ++ length owner ∷ []) (length owner) 0) index2
grown_at names owner index index2 a w i =
    let ln = length-append names (None ∷ []) in
    let lo = more_length owner in
    record {
      size = omega (arith, a.size);
      some = omega arith;
      within = omega arith;
      first = more_names names 0 ∙ a.first;
      indexed = λ c. i c ∙ a.indexed c ∙ ap number_of (sym (more_names names c));
      apart = λ c e x p q. a.apart c e x (sym (more_names names c) ∙ p) (sym (more_names names e) ∙ q);
      free = λ c h q. elim (cases_lt c (length owner)) [
        | inl l ↦ more_owners owner c l ∙ a.free c (omega (arith, a.size)) (sym (more_names names c) ∙ q)
        | inr l ↦ let z : c ≡ length owner = omega (arith, a.size) in rw z (new_owner owner)
      ];
      heads = λ h v q.
          let z = sym (more_names names h) ∙ q in
          more_owners owner h (omega (arith, a.size, named_in names h (Value v) z)) ∙ a.heads h v z;
      used = λ c n k q.
          let z = sym (more_names names c) ∙ q in
          let t = a.used c n k z in (
            t.0,
            ap (cell_at (names ++ None ∷ [])) (more_owners owner c
                (omega (arith, a.size, named_in names c (Operand n k) z))) ∙ more_names names (slice_index owner c)
                ∙ t.1,
          );
    }

pub grown_cells : (names names2 names3 : List (Option CellName)) (owner owner2 owner3 : List ℕ)
    (index index2 : List (Option ℕ)) (c : ℕ) → AreCells names owner index → length names < length index2
    → ((s : ℕ) → name_at index2 s ≡ name_at index s) → c ≡ length names → names2 ≡ names
    → names3 ≡ names2 ++ None ∷ [] → owner2 ≡ owner ++ length owner ∷ [] → owner3 ≡ slice_set owner2 c 0
    → AreCells names3 owner3 index2
grown_cells names names2 names3 owner owner2 owner3 index index2 c a w i e n m q r =
    let z : c ≡ length owner = e ∙ sym a.size in
    rw (m, n, r, q, z) (grown_at names owner index index2 a w i)

links_more : (names : List (Option CellName)) (owner : List ℕ) (n k : ℕ) (v : Definition)
    → length owner ≡ length names → Links (cells names owner) n k v
    → Links (cells (names ++ None ∷ []) (slice_set (owner ++ length owner ∷ []) (length owner) 0)) n k v
links_more names owner n k v s l = record {
  c = l.c;
  h = l.h;
  operand = more_names names l.c ∙ l.operand;
  value = more_names names l.h ∙ l.value;
  owner = more_owners owner l.c (omega (arith, named_in names l.c (Operand n k) l.operand)) ∙ l.owner;
}

has_less : (names : List (Option CellName)) (owner owner2 : List ℕ) (x : CellName)
    → Has (cells (names ++ None ∷ []) owner2) x → Has (cells names owner) x
has_less names owner owner2 x h = (h.0, sym (more_names names h.0) ∙ h.1)

uses_more : (names : List (Option CellName)) (owner : List ℕ) (u : Operands) (d : Values)
    → length owner ≡ length names → AreUses (cells names owner) u d
    → AreUses (cells (names ++ None ∷ []) (slice_set (owner ++ length owner ∷ []) (length owner) 0)) u d
uses_more names owner u d s t = record {
  linked = λ n k v q. links_more names owner n k v s (t.linked n k v q);
  operands = λ n k h. t.operands n k (has_less names owner
      (slice_set (owner ++ length owner ∷ []) (length owner) 0) (Operand n k) h);
  defined = λ v q. let h = t.defined v q in (h.0, more_names names h.0 ∙ h.1);
  values = λ v h. t.values v (has_less names owner (slice_set (owner ++ length owner ∷ []) (length owner) 0)
      (Value v) h);
}

roomier_at : (names : List (Option CellName)) (owner : List ℕ) (index : List (Option ℕ))
    → AreCells names owner index → 0 < empties names
    → IsRoomier (cells names owner) (cells (names ++ None ∷ [])
    (slice_set (owner ++ length owner ∷ []) (length owner) 0))
roomier_at names owner index a e =
    let ln = length-append names (None ∷ []) in
    let me = more_empties names in
    record { cells = omega (arith, a.some); more = omega arith; same = λ u d t. uses_more names owner u d a.size t }

pub roomier : (names names2 names3 : List (Option CellName)) (owner owner2 owner3 : List ℕ)
    (index : List (Option ℕ)) (c : ℕ) (v : Cells) → AreCells names owner index → cells names owner ≡ v
    → c ≡ length names → names2 ≡ names → names3 ≡ names2 ++ None ∷ [] → owner2 ≡ owner ++ length owner ∷ []
    → owner3 ≡ slice_set owner2 c 0 → IsRoomier v (cells names3 owner3)
roomier names names2 names3 owner owner2 owner3 index c v a e i n m q r =
    let w : c ≡ length owner = i ∙ sym a.size in
    rw (← e, m, n, r, q, w) (roomier_at names owner index a (some_empty names a.first a.some))
