-- The members of a value's group are its uses.
use Rattle.std.proofs.Common.{◌≡◌, ℕ, ◌<◌, List, [], ◌∷◌, length, slice_index, sym, ◌∙◌, ap, arith, refl, inl, inr}
use Rattle.std.specs.Prelude.{Option, Some, None}
use Rattle.std.proofs.Common.{Bool, true, false}
use Rattle.std.specs.Bool.{OnTrue, OnFalse}
use Rattle.std.proofs.lemmas.Bool.{cases_lt}
use Rattle.xf_uses.specs.Stores.{HasOwner}
use Rattle.std.proofs.lemmas.List.{get_or_past}
use Rattle.xf_rings.specs.Groups.{In, Lacks, AllOnce, AllOf, AreMembers}
use Rattle.xf_uses.specs.declared.cell.Definition.{Definition}
use Rattle.xf_uses.specs.declared.cell.CellName.{CellName}
use Rattle.xf_uses.specs.declared.cell.CellName.TheVariants.{Operand, Value}
use Rattle.xf_uses.specs.Cells.{Cells, cell_at, AreCells}
use Rattle.xf_uses.specs.Uses.{Has, Operands, Values, AreUses, AreUsesOf, InUses, EachUses, UsesOnce, Links}
use Rattle.xf_uses.specs.Walks.{uses_left, use_before, AreOperands}
use Rattle.xf_uses.proofs.UseLemmas.{value_is, value_no_operand}
use Rattle.xf_uses.proofs.MoveLemmas.{cells, named_at, links_in}

-- a member of a value's group stands for an operand
member_in : (names : List (Option CellName)) (owner : List ℕ) (index : List (Option ℕ)) (h : ℕ) (v : Definition)
    (c : ℕ) → AreCells names owner index → cell_at names h ≡ Some (Value v) → c < length owner
    → slice_index owner c ≡ h → (c ≡ h → ⊥) → (x : Option CellName) → cell_at names c ≡ x → (n : ℕ)
    × ((k : ℕ) × (cell_at names c ≡ Some (Operand n k)))
member_in names owner index h v c a e l q n None w =
    let z : h ≡ 0 = sym q ∙ a.free c (omega (arith, a.size)) w in
    let y : Some (Value v) ≡ None = sym e ∙ ap (cell_at names) z ∙ a.first in
    absurd (let f : ⊥ = cc in f)
member_in names owner index h v c a e l q n (Some (Value x)) w = absurd (n (sym (a.heads c x w) ∙ q))
member_in names owner index h v c a e l q n (Some (Operand m k)) w = (m, (k, w))

pub members_operands : (names : List (Option CellName)) (owner : List ℕ) (index : List (Option ℕ)) (h : ℕ)
    (v : Definition) (xs : List ℕ) → AreCells names owner index → cell_at names h ≡ Some (Value v)
    → AllOf owner (length owner) h xs → AreOperands names xs
members_operands names owner index h v [] a e o = tt
members_operands names owner index h v (c ∷ cs) a e o = (
  (
    omega (arith, o.0.0, a.size),
    member_in names owner index h v c a e o.0.0 o.0.1.0 o.0.1.1 (cell_at names c)
        refl,
  ),
  members_operands names owner index h v cs a e o.1,
)

left_of : (names : List (Option CellName)) (c n k : ℕ) (cs : List ℕ) → cell_at names c ≡ Some (Operand n k)
    → uses_left names (c ∷ cs) ≡ record { op = n; operand = k } ∷ uses_left names cs
left_of names c n k cs e = ap (λ x. use_before x (uses_left names cs)) e

some_value : (v w : Definition) → Some v ≡ Some w → v ≡ w
some_value v w e = cc

-- an operand whose cell is owned by the value's uses it
uses_it : (a : Cells) (index : List (Option ℕ)) (u : Operands) (d : Values) (h : ℕ) (v : Definition) (c n k : ℕ)
    → AreCells a.names a.owner index → AreUses a u d → cell_at a.names h ≡ Some (Value v)
    → cell_at a.names c ≡ Some (Operand n k) → slice_index a.owner c ≡ h → u n k ≡ Some v
uses_it a index u d h v c n k cells s e w q =
    let t = s.operands n k (c, w) in
    let l = s.linked n k t.0 t.1 in
    let same : l.c ≡ c = cells.apart l.c c (Operand n k) l.operand w in
    let lh : l.h ≡ h = sym l.owner ∙ ap (slice_index a.owner) same ∙ q in
    t.1 ∙ ap Some (value_is t.0 v (sym l.value ∙ ap (cell_at a.names) lh ∙ e))

each_uses : (a : Cells) (index : List (Option ℕ)) (u : Operands) (d : Values) (h : ℕ) (v : Definition)
    (xs : List ℕ) → AreCells a.names a.owner index → AreUses a u d → cell_at a.names h ≡ Some (Value v)
    → AllOf a.owner (length a.owner) h xs → AreOperands a.names xs → EachUses u v (uses_left a.names xs)
each_uses a index u d h v [] cells s e o p = tt
each_uses a index u d h v (c ∷ cs) cells s e o p =
    rw (left_of a.names c p.0.1.0 p.0.1.1.0 cs p.0.1.1.1) (
      uses_it a index u d h v c p.0.1.0 p.0.1.1.0 cells s e p.0.1.1.1 o.0.1.0,
      each_uses a index u d h v cs cells s e o.1 p.1,
    )

in_left : (names : List (Option CellName)) (c n k : ℕ) (xs : List ℕ) → cell_at names c ≡ Some (Operand n k)
    → AreOperands names xs → In c xs → InUses n k (uses_left names xs)
in_left names c n k [] e p i = i
in_left names c n k (x ∷ xs) e p i =
    rw (left_of names x p.0.1.0 p.0.1.1.0 xs p.0.1.1.1) (elim i [
      | inl q ↦
          let w : Some (Operand p.0.1.0 p.0.1.1.0) ≡ Some (Operand n k) = sym p.0.1.1.1
          ∙ ap (cell_at names) (sym q) ∙ e in
          inl (cc, cc)
      | inr j ↦ inr (in_left names c n k xs e p.1 j)
    ])

-- a use that is left has its cell among those that are left
from_left : (names : List (Option CellName)) (n k : ℕ) (xs : List ℕ) → AreOperands names xs
    → InUses n k (uses_left names xs) → (c : ℕ) × (In c xs × (cell_at names c ≡ Some (Operand n k)))
from_left names n k [] p i = absurd i
from_left names n k (x ∷ xs) p i =
    elim (rw (left_of names x p.0.1.0 p.0.1.1.0 xs p.0.1.1.1) at i) [
      | inl q ↦ (
        x,
        (
          inl refl,
          p.0.1.1.1 ∙ ap (λ m. Some (Operand m p.0.1.1.0)) q.0
              ∙ ap (λ j. Some (Operand n j)) q.1,
        ),
      )
      | inr j ↦ let t = from_left names n k xs p.1 j in (t.0, (inr t.1.0, t.1.1))
    ]

in_lacks : (c d : ℕ) (xs : List ℕ) → c ≡ d → In c xs → Lacks d xs → ⊥
in_lacks c d [] e i l = i
in_lacks c d (x ∷ xs) e i l = elim i [ inl q ↦ l.0 (sym q ∙ e) | inr j ↦ in_lacks c d xs e j l.1 ]

once_left : (names : List (Option CellName)) (owner : List ℕ) (index : List (Option ℕ)) (xs : List ℕ)
    → AreCells names owner index → AreOperands names xs → AllOnce xs → UsesOnce (uses_left names xs)
once_left names owner index [] a p o = tt
once_left names owner index (x ∷ xs) a p o =
    rw (left_of names x p.0.1.0 p.0.1.1.0 xs p.0.1.1.1) (
      (λ i.
          let t = from_left names p.0.1.0 p.0.1.1.0 xs p.1 i in
          in_lacks t.0 x xs (a.apart t.0 x (Operand p.0.1.0 p.0.1.1.0) t.1.1 p.0.1.1.1) t.1.0 o.0),
      once_left names owner index xs a p.1 o.1,
    )

-- a cell that stands for something is one of the cells
owned_in : (a : Cells) (index : List (Option ℕ)) (c n k : ℕ) → AreCells a.names a.owner index
    → cell_at a.names c ≡ Some (Operand n k) → c < length a.owner
owned_in a index c n k cells e = elim (cases_lt c (length a.names)) [
  | inl l ↦ omega (arith, l, cells.size)
  | inr l ↦ let q : Some (Operand n k) ≡ None = sym e ∙ get_or_past a.names c None l in absurd (let f : ⊥ = cc in f)
]

pub members_uses : (a : Cells) (index : List (Option ℕ)) (u : Operands) (d : Values) (h : ℕ) (v : Definition)
    (xs : List ℕ) → AreCells a.names a.owner index → AreUses a u d → cell_at a.names h ≡ Some (Value v)
    → AreMembers a.owner h xs → AreUsesOf u v (uses_left a.names xs)
members_uses a index u d h v xs cells s e m =
    let p = members_operands a.names a.owner index h v xs cells e m.own in
    record {
      each = each_uses a index u d h v xs cells s e m.own p;
      all = λ n k q.
          let l = s.linked n k v q in
          let lh : l.h ≡ h = cells.apart l.h h (Value v) l.value e in
          in_left a.names l.c n k xs l.operand p (m.all l.c (owned_in a index l.c n k cells l.operand) (l.owner
          ∙ lh) (λ i. value_no_operand v n k (sym e ∙ ap (cell_at a.names) (sym i) ∙ l.operand)));
      once = once_left a.names a.owner index xs cells p m.once;
    }

-- a value that no cell stands for has no uses
pub no_uses : (a : Cells) (u : Operands) (d : Values) (v : Definition) → AreUses a u d → (Has a (Value v) → ⊥)
    → AreUsesOf u v []
no_uses a u d v s n = record {
  each = tt;
  all = λ m k q. let l = s.linked m k v q in n (l.h, l.value);
  once = tt;
}

-- ---- the same, of the value that contracts see

pub operands_view : (names : List (Option CellName)) (owner : List ℕ) (index : List (Option ℕ)) (h : ℕ)
    (v : Definition) (xs : List ℕ) (w : Cells) → AreCells names owner index → cells names owner ≡ w
    → cell_at w.names h ≡ Some (Value v) → AreMembers owner h xs → AreOperands names xs
operands_view names owner index h v xs w a e q m =
    members_operands names owner index h v xs a (named_at (cells names owner) w h (Value v) e q) m.own

pub uses_view : (names : List (Option CellName)) (owner : List ℕ) (index : List (Option ℕ)) (h : ℕ)
    (v : Definition) (xs : List ℕ) (w : Cells) (u : Operands) (d : Values) → AreCells names owner index
    → cells names owner ≡ w → cell_at w.names h ≡ Some (Value v) → AreMembers owner h xs → AreUses w u d
    → AreUsesOf u v (uses_left names xs)
uses_view names owner index h v xs w u d a e q m s =
    members_uses (cells names owner) index u d h v xs a (rw (← e) at s)
    (named_at (cells names owner) w h (Value v) e q) m

-- a value whose group has no members is not used
pub unused_of : (names : List (Option CellName)) (owner : List ℕ) (index : List (Option ℕ)) (h : ℕ)
    (v : Definition) (xs : List ℕ) (w : Cells) → AreCells names owner index → cells names owner ≡ w
    → cell_at w.names h ≡ Some (Value v) → AreMembers owner h xs → xs ≡ [] → (n k : ℕ) → Links w n k v → ⊥
unused_of names owner index h v xs w a e q m z n k l =
    let t : Links (cells names owner) n k v = rw (← e) at l in
    let lh : t.h ≡ h = a.apart t.h h (Value v) t.value (named_at (cells names owner) w h (Value v) e q) in
    rw z at (m.all t.c (owned_in (cells names owner) index t.c n k a t.operand) (t.owner
    ∙ lh) (λ i. value_no_operand v n k (sym t.value ∙ ap (cell_at names) (lh ∙ sym i) ∙ t.operand)))

pub owner_of : (owner : List ℕ) (h c : ℕ) (xs ys : List ℕ) → AreMembers owner h xs → xs ≡ c ∷ ys
    → HasOwner owner c h
owner_of owner h c xs ys m e = let o = rw e at m.own in record { within = o.0.0; owned = o.0.1.0; other = o.0.1.1 }

pub used_of : (names : List (Option CellName)) (owner : List ℕ) (index : List (Option ℕ)) (h : ℕ) (v : Definition)
    (w : Cells) → AreCells names owner index → cells names owner ≡ w → cell_at w.names h ≡ Some (Value v) → (c : ℕ)
    × HasOwner owner c h → (n : ℕ) × ((k : ℕ) × Links w n k v)
used_of names owner index h v w a e q t =
    let z = named_at (cells names owner) w h (Value v) e q in
    let o = member_in names owner index h v t.0 a z t.1.within t.1.owned t.1.other (cell_at names t.0) refl in (
      o.0,
      (
        o.1.0,
        links_in (cells names owner) w o.0 o.1.0 v e
            (record { c = t.0; h = h; operand = o.1.1; value = z; owner = t.1.owned }),
      ),
    )

pub on_false : {A B : Type 0} (b : Bool) → (A → B) → OnFalse b A → OnFalse b B
on_false true f x = tt
on_false false f x = f x

pub on_true : {A B : Type 0} (b : Bool) → (A → B) → OnTrue b A → OnTrue b B
on_true true f x = f x
on_true false f x = tt
