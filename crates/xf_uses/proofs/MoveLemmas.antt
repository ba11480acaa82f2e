-- The five changes of cells: what each leaves.
use Rattle.std.proofs.Common.{◌≡◌, ℕ, ◌<◌, List, [], ◌∷◌, length, slice_index, slice_set, sym, ◌∙◌, ap, arith, refl}
use Rattle.std.proofs.Common.{Bool, true, false, inl, inr}
use Rattle.std.specs.Prelude.{Option, Some, None}
use Rattle.std.proofs.lemmas.List.{get_or-set_same, get_or-set_other, length-set, get_or_past}
use Rattle.std.proofs.lemmas.Bool.{cases_lt}
use Rattle.xf_uses.specs.declared.cell.Definition.{Definition}
use Rattle.xf_uses.specs.declared.cell.CellName.{CellName}
use Rattle.xf_uses.specs.declared.cell.CellName.TheVariants.{Operand, Value}
use Rattle.xf_uses.specs.Cells.{Cells, cell_at, empties, room, cell_number, number_of, AreCells}
use Rattle.xf_uses.specs.Uses.{Has, Links, ChangesOperand, ChangesValue}
use Rattle.xf_uses.specs.Stores.{IsLoose, Takes}
use Rattle.xf_uses.proofs.CellLemmas.{OneCell, Alone, Fresh, Indexed, kept, loose_none, loose_one, empties_taken}
use Rattle.xf_uses.proofs.CellLemmas.{empties_given}
use Rattle.xf_uses.proofs.UseLemmas.{WasOperand, operand_changed, value_changed, value_no_operand, operand_is}
use Rattle.xf_uses.proofs.UseLemmas.{some_same}

abbrev pub cells : List (Option CellName) → List ℕ → Cells
cells names owner = record { names = names; owner = owner }

-- a cell that stands for something is one of the cells
pub named_in : (names : List (Option CellName)) (c : ℕ) (x : CellName) → cell_at names c ≡ Some x → c < length names
named_in names c x e = elim (cases_lt c (length names)) [
  | inl l ↦ l
  | inr l ↦ let q : Some x ≡ None = sym e ∙ get_or_past names c None l in absurd (let f : ⊥ = cc in f)
]

pub not_first : (names : List (Option CellName)) (owner : List ℕ) (index : List (Option ℕ)) (c : ℕ) (x : CellName)
    → AreCells names owner index → cell_at names c ≡ Some x → c ≡ 0 → ⊥
not_first names owner index c x a e q =
    let w : Some x ≡ None = sym e ∙ ap (cell_at names) q ∙ a.first in
    let f : ⊥ = cc in f

-- ---- one cell at a time

one_of : (names : List (Option CellName)) (owner owner2 owner3 : List ℕ) (c : ℕ) (x : Option CellName) (o : ℕ)
    → c < length names → length owner ≡ length names → length owner3 ≡ length owner
    → ((e : ℕ) → (e ≡ c → ⊥) → slice_index owner3 e ≡ slice_index owner e) → owner2 ≡ slice_set owner3 c o
    → OneCell names (slice_set names c x) owner owner2 c x o
one_of names owner owner2 owner3 c x o h s l f q = rw q record {
  c_in = h;
  len = length-set names c x;
  owners = length-set owner3 c o ∙ l;
  name = get_or-set_same names c x None h;
  names_other = λ e n. get_or-set_other names c e x None n;
  own = get_or-set_same owner3 c o 0 (omega arith);
  own_other = λ e n. get_or-set_other owner3 c e o 0 n ∙ f e n;
}

one_owned : (names : List (Option CellName)) (owner owner2 : List ℕ) (c : ℕ) (x : Option CellName) (o : ℕ)
    → c < length names → length owner ≡ length names → owner2 ≡ slice_set owner c o
    → OneCell names (slice_set names c x) owner owner2 c x o
one_owned names owner owner2 c x o h s q = one_of names owner owner2 owner c x o h s refl (λ e n. refl) q

one_moved : (names : List (Option CellName)) (owner owner2 : List ℕ) (c : ℕ) (x : Option CellName) (o : ℕ)
    → c < length names → length owner ≡ length names → owner2 ≡ slice_set (slice_set owner c c) c o
    → OneCell names (slice_set names c x) owner owner2 c x o
one_moved names owner owner2 c x o h s q =
    one_of names owner owner2 (slice_set owner c c) c x o h s (length-set owner c c)
    (λ e n. get_or-set_other owner c e c 0 n) q

indexed_set : (index index2 : List (Option ℕ)) (c : ℕ) (x : Option CellName) → c < length index
    → index2 ≡ slice_set index c (number_of x) → Indexed index index2 c x
indexed_set index index2 c x h q = rw q record {
  len = length-set index c (number_of x);
  at = get_or-set_same index c (number_of x) None h;
  other = λ e n. get_or-set_other index c e (number_of x) None n;
}

-- ---- who is alone

-- nobody has a loose cell as its value's
loose_alone : (names : List (Option CellName)) (owner : List ℕ) (index : List (Option ℕ)) (c : ℕ)
    → AreCells names owner index → cell_at names c ≡ None → Alone names owner c
loose_alone names owner index c a z e n k ne q w =
    let t = a.used e n k q in
    let y : Some (Value t.0) ≡ None = sym t.1 ∙ ap (cell_at names) w ∙ z in
    let f : ⊥ = cc in f

-- nor an operand's cell
operand_alone : (names : List (Option CellName)) (owner : List ℕ) (index : List (Option ℕ)) (c m j : ℕ)
    → AreCells names owner index → cell_at names c ≡ Some (Operand m j) → Alone names owner c
operand_alone names owner index c m j a z e n k ne q w =
    let t = a.used e n k q in
    value_no_operand t.0 m j (sym t.1 ∙ ap (cell_at names) w ∙ z)

-- nor that of a value that nothing uses
unused_alone : (names : List (Option CellName)) (owner : List ℕ) (c : ℕ) (v : Definition)
    → cell_at names c ≡ Some (Value v) → ((n k : ℕ) → Links (cells names owner) n k v → ⊥) → Alone names owner c
unused_alone names owner c v z u e n k ne q w = u n k (record { c = e; h = c; operand = q; value = z; owner = w })

fresh_none : (names : List (Option CellName)) (c : ℕ) → Fresh names c None
fresh_none names c e y ne q w = let f : ⊥ = cc in f

fresh_new : (names : List (Option CellName)) (owner : List ℕ) (c : ℕ) (x : CellName)
    → (Has (cells names owner) x → ⊥) → Fresh names c (Some x)
fresh_new names owner c x n e y ne q w = n (e, w ∙ ap Some (sym (some_same x y q)))

fresh_same : (names : List (Option CellName)) (owner : List ℕ) (index : List (Option ℕ)) (c : ℕ) (x : CellName)
    → AreCells names owner index → cell_at names c ≡ Some x → Fresh names c (Some x)
fresh_same names owner index c x a z e y ne q w = ne (a.apart e c x (w ∙ ap Some (sym (some_same x y q))) z)

-- ---- room

pub takes_of : (names : List (Option CellName)) (owner owner2 : List ℕ) (c : ℕ) (x : CellName) → c < length names
    → cell_at names c ≡ None → 1 < empties names
    → Takes (cells names owner) (cells (slice_set names c (Some x)) owner2)
takes_of names owner owner2 c x h e r =
    let l = length-set names c (Some x) in
    let q = empties_taken names c x h e in
    record { cells = omega arith; less = omega arith }

pub gives_of : (names : List (Option CellName)) (owner owner2 : List ℕ) (c : ℕ) (x : CellName) → c < length names
    → cell_at names c ≡ Some x → 0 < empties names
    → Takes (cells (slice_set names c None) owner2) (cells names owner)
gives_of names owner owner2 c x h e r =
    let l = length-set names c None in
    let q = empties_given names c x h e in
    record { cells = omega arith; less = omega arith }

pub some_empty : (names : List (Option CellName)) → cell_at names 0 ≡ None → 0 < length names → 0 < empties names
some_empty [] e h = absurd (omega arith)
some_empty (None ∷ xs) e h = omega arith
some_empty (Some x ∷ xs) e h = absurd (let q : Some x ≡ None = e in cc)

-- ---- the changes

-- what a change of an operand leaves
pub record OperandMoved (a b : Cells) (index2 : List (Option ℕ)) (n k : ℕ) (y : Option Definition) : Type 0 where
  pub kept_cells : AreCells b.names b.owner index2
  pub changes : ChangesOperand a b n k y

-- what a change of a value leaves
pub record ValueMoved (a b : Cells) (index2 : List (Option ℕ)) (v : Definition) (t : Bool) : Type 0 where
  pub kept_cells : AreCells b.names b.owner index2
  pub changes : ChangesValue a b v t

pub value_defined : (names : List (Option CellName)) (owner owner2 : List ℕ) (index index2 : List (Option ℕ))
    (c : ℕ) (v : Definition) → AreCells names owner index → IsLoose owner c
    → (Has (cells names owner) (Value v) → ⊥) → owner2 ≡ slice_set owner c c
    → index2 ≡ slice_set index c (Some (cell_number (Value v)))
    → ValueMoved (cells names owner) (cells (slice_set names c (Some (Value v))) owner2) index2 v true
value_defined names owner owner2 index index2 c v a l n eo ei =
    let z = loose_none names owner index c a l in
    let x : Option CellName = Some (Value v) in
    let one = one_owned names owner owner2 c x c (omega (arith, l.within, a.size)) a.size eo in
    let ix = indexed_set index index2 c x (omega (arith, l.within, a.size, a.within)) ei in
    let al = loose_alone names owner index c a z in
    record {
      kept_cells = kept names (slice_set names c x) owner owner2 index index2 c x c a one ix l.other
          (fresh_new names owner c (Value v) n) refl al;
      changes = value_changed (cells names owner) (cells (slice_set names c x) owner2) index c x c v true a one
          (inr (refl, (refl, (z, λ e q. n (e, q))))) al;
    }

pub value_gone : (names : List (Option CellName)) (owner owner2 : List ℕ) (index index2 : List (Option ℕ)) (c : ℕ)
    (v : Definition) → AreCells names owner index → cell_at names c ≡ Some (Value v)
    → ((n k : ℕ) → Links (cells names owner) n k v → ⊥) → owner2 ≡ slice_set owner c 0
    → index2 ≡ slice_set index c None → ValueMoved (cells names owner) (cells (slice_set names c None) owner2)
    index2 v false
value_gone names owner owner2 index index2 c v a e u eo ei =
    let h = named_in names c (Value v) e in
    let one = one_owned names owner owner2 c None 0 h a.size eo in
    let ix = indexed_set index index2 c None (omega (arith, a.within)) ei in
    let al = unused_alone names owner c v e u in
    record {
      kept_cells = kept names (slice_set names c None) owner owner2 index index2 c None 0 a one ix
          (not_first names owner index c (Value v) a e) (fresh_none names c) refl al;
      changes = value_changed (cells names owner) (cells (slice_set names c None) owner2) index c None 0 v false a
          one (inl (refl, (refl, e))) al;
    }

was_free : (names : List (Option CellName)) (owner : List ℕ) (c n k : ℕ) → cell_at names c ≡ None
    → (Has (cells names owner) (Operand n k) → ⊥) → WasOperand names c n k
was_free names owner c n k z f = record {
  no_value = λ v q. let w : Some (Value v) ≡ None = sym q ∙ z in let y : ⊥ = cc in y;
  same = λ m j q. let w : Some (Operand m j) ≡ None = sym q ∙ z in absurd (let y : ⊥ = cc in y);
  only = λ e q. absurd (f (e, q));
}

was_it : (names : List (Option CellName)) (owner : List ℕ) (index : List (Option ℕ)) (c n k : ℕ)
    → AreCells names owner index → cell_at names c ≡ Some (Operand n k) → WasOperand names c n k
was_it names owner index c n k a z = record {
  no_value = λ v q. value_no_operand v n k (sym q ∙ z);
  same = λ m j q. operand_is n m k j (sym z ∙ q);
  only = λ e q. a.apart e c (Operand n k) q z;
}

pub operand_added : (names : List (Option CellName)) (owner owner2 : List ℕ) (index index2 : List (Option ℕ))
    (c h n k : ℕ) (v : Definition) → AreCells names owner index → IsLoose owner c
    → (Has (cells names owner) (Operand n k) → ⊥) → cell_at names h ≡ Some (Value v)
    → owner2 ≡ slice_set (slice_set owner c c) c h → index2 ≡ slice_set index c (Some (cell_number (Operand n k)))
    → OperandMoved (cells names owner) (cells (slice_set names c (Some (Operand n k))) owner2) index2 n k (Some v)
operand_added names owner owner2 index index2 c h n k v a l f eh eo ei =
    let z = loose_none names owner index c a l in
    let x : Option CellName = Some (Operand n k) in
    let one = one_moved names owner owner2 c x h (omega (arith, l.within, a.size)) a.size eo in
    let ix = indexed_set index index2 c x (omega (arith, l.within, a.size, a.within)) ei in
    let nh : h ≡ c → ⊥ = λ q. (let w : Some (Value v) ≡ None = sym eh ∙ ap (cell_at names) q ∙ z in let y : ⊥ = cc
    in y) in
    let there : cell_at (slice_set names c x) h ≡ Some (Value v) = one.names_other h nh ∙ eh in
    record {
      kept_cells = kept names (slice_set names c x) owner owner2 index index2 c x h a one ix l.other
          (fresh_new names owner c (Operand n k) f) (v, there) (loose_alone names owner index c a z);
      changes = operand_changed (cells names owner) (cells (slice_set names c x) owner2) c x h n k (Some v) one
          (inr (refl, (v, (refl, there)))) (was_free names owner c n k z f);
    }

pub operand_gone : (names : List (Option CellName)) (owner owner2 : List ℕ) (index index2 : List (Option ℕ))
    (c n k : ℕ) → AreCells names owner index → cell_at names c ≡ Some (Operand n k)
    → owner2 ≡ slice_set (slice_set owner c c) c 0 → index2 ≡ slice_set index c None
    → OperandMoved (cells names owner) (cells (slice_set names c None) owner2) index2 n k None
operand_gone names owner owner2 index index2 c n k a e eo ei =
    let h = named_in names c (Operand n k) e in
    let one = one_moved names owner owner2 c None 0 h a.size eo in
    let ix = indexed_set index index2 c None (omega (arith, a.within)) ei in
    record {
      kept_cells = kept names (slice_set names c None) owner owner2 index index2 c None 0 a one ix
          (not_first names owner index c (Operand n k) a e) (fresh_none names c) refl
          (operand_alone names owner index c n k a e);
      changes = operand_changed (cells names owner) (cells (slice_set names c None) owner2) c None 0 n k None one
          (inl (refl, refl)) (was_it names owner index c n k a e);
    }

one_kept : (names : List (Option CellName)) (owner owner2 : List ℕ) (c : ℕ) (x : CellName) (o : ℕ)
    → cell_at names c ≡ Some x → length owner ≡ length names → owner2 ≡ slice_set (slice_set owner c c) c o
    → OneCell names names owner owner2 c (Some x) o
one_kept names owner owner2 c x o e s q =
    let h = named_in names c x e in
    let one = one_moved names owner owner2 c (Some x) o h s q in
    record {
      c_in = h;
      len = refl;
      owners = one.owners;
      name = e;
      names_other = λ f n. refl;
      own = one.own;
      own_other = one.own_other;
    }

pub operand_set : (names : List (Option CellName)) (owner owner2 : List ℕ) (index : List (Option ℕ)) (c h n k : ℕ)
    (v : Definition) → AreCells names owner index → cell_at names c ≡ Some (Operand n k)
    → cell_at names h ≡ Some (Value v) → owner2 ≡ slice_set (slice_set owner c c) c h
    → OperandMoved (cells names owner) (cells names owner2) index n k (Some v)
operand_set names owner owner2 index c h n k v a e eh eo =
    let x : Option CellName = Some (Operand n k) in
    let one = one_kept names owner owner2 c (Operand n k) h e a.size eo in
    let ix : Indexed index index c x = record {
      len = refl;
      at = a.indexed c ∙ ap number_of e;
      other =
          λ f q. refl;
    } in
    record {
      kept_cells = kept names names owner owner2 index index c x h a one ix
          (not_first names owner index c (Operand n k) a e) (fresh_same names owner index c (Operand n k) a e) (
            v,
            eh,
          ) (operand_alone names owner index c n k a e);
      changes = operand_changed (cells names owner) (cells names owner2) c x h n k (Some v) one
          (inr (refl, (v, (refl, eh)))) (was_it names owner index c n k a e);
    }

-- ---- the same, of the value that contracts see

pub named_at : (a v : Cells) (c : ℕ) (x : CellName) → a ≡ v → cell_at v.names c ≡ Some x
    → cell_at a.names c ≡ Some x
named_at a v c x e q = ap (λ (w : Cells). cell_at w.names c) e ∙ q

has_at : (a v : Cells) (x : CellName) → a ≡ v → (Has v x → ⊥) → Has a x → ⊥
has_at a v x e f h = f (rw (← e) h)

pub links_in : (a v : Cells) (n k : ℕ) (x : Definition) → a ≡ v → Links a n k x → Links v n k x
links_in a v n k x e l = rw (← e) l

room_at : (a v : Cells) → a ≡ v → 0 < room v → 1 < empties a.names
room_at a v e h = let q : room a ≡ room v = ap room e in omega arith

pub define_view : (names : List (Option CellName)) (owner owner2 : List ℕ) (index index2 : List (Option ℕ)) (c : ℕ)
    (x : Definition) (v : Cells) → AreCells names owner index → cells names owner ≡ v → IsLoose owner c
    → (Has v (Value x) → ⊥) → owner2 ≡ slice_set owner c c
    → index2 ≡ slice_set index c (Some (cell_number (Value x)))
    → ValueMoved v (cells (slice_set names c (Some (Value x))) owner2) index2 x true
define_view names owner owner2 index index2 c x v a e l n eo ei =
    rw (← e) (value_defined names owner owner2 index index2 c x a l (has_at (cells names owner) v (Value x) e n) eo
    ei)

pub undefine_view : (names : List (Option CellName)) (owner owner2 : List ℕ) (index index2 : List (Option ℕ))
    (c : ℕ) (x : Definition) (v : Cells) → AreCells names owner index → cells names owner ≡ v
    → cell_at v.names c ≡ Some (Value x) → ((n k : ℕ) → Links v n k x → ⊥) → owner2 ≡ slice_set owner c 0
    → index2 ≡ slice_set index c None → ValueMoved v (cells (slice_set names c None) owner2) index2 x false
undefine_view names owner owner2 index index2 c x v a e q u eo ei =
    rw (← e) (value_gone names owner owner2 index index2 c x a (named_at (cells names owner) v c (Value x) e q)
    (λ n k l. u n k (links_in (cells names owner) v n k x e l)) eo ei)

pub add_view : (names : List (Option CellName)) (owner owner2 : List ℕ) (index index2 : List (Option ℕ))
    (c h n k : ℕ) (x : Definition) (v : Cells) → AreCells names owner index → cells names owner ≡ v
    → IsLoose owner c → (Has v (Operand n k) → ⊥) → cell_at v.names h ≡ Some (Value x)
    → owner2 ≡ slice_set (slice_set owner c c) c h → index2 ≡ slice_set index c (Some (cell_number (Operand n k)))
    → OperandMoved v (cells (slice_set names c (Some (Operand n k))) owner2) index2 n k (Some x)
add_view names owner owner2 index index2 c h n k x v a e l f q eo ei =
    rw (← e) (operand_added names owner owner2 index index2 c h n k x a l
    (has_at (cells names owner) v (Operand n k) e f) (named_at (cells names owner) v h (Value x) e q) eo ei)

pub remove_view : (names : List (Option CellName)) (owner owner2 : List ℕ) (index index2 : List (Option ℕ))
    (c n k : ℕ) (v : Cells) → AreCells names owner index → cells names owner ≡ v
    → cell_at v.names c ≡ Some (Operand n k) → owner2 ≡ slice_set (slice_set owner c c) c 0
    → index2 ≡ slice_set index c None → OperandMoved v (cells (slice_set names c None) owner2) index2 n k None
remove_view names owner owner2 index index2 c n k v a e q eo ei =
    rw (← e) (operand_gone names owner owner2 index index2 c n k a
    (named_at (cells names owner) v c (Operand n k) e q) eo ei)

pub set_view : (names : List (Option CellName)) (owner owner2 : List ℕ) (index : List (Option ℕ)) (c h n k : ℕ)
    (x : Definition) (v : Cells) → AreCells names owner index → cells names owner ≡ v
    → cell_at v.names c ≡ Some (Operand n k) → cell_at v.names h ≡ Some (Value x)
    → owner2 ≡ slice_set (slice_set owner c c) c h → OperandMoved v (cells names owner2) index n k (Some x)
set_view names owner owner2 index c h n k x v a e q w eo =
    rw (← e) (operand_set names owner owner2 index c h n k x a (named_at (cells names owner) v c (Operand n k) e q)
    (named_at (cells names owner) v h (Value x) e w) eo)

pub takes_view : (names : List (Option CellName)) (owner owner2 : List ℕ) (index : List (Option ℕ)) (c : ℕ)
    (x : CellName) (v : Cells) → AreCells names owner index → cells names owner ≡ v → IsLoose owner c → 0 < room v
    → Takes v (cells (slice_set names c (Some x)) owner2)
takes_view names owner owner2 index c x v a e l r =
    rw (← e) (takes_of names owner owner2 c x (omega (arith, l.within, a.size))
    (loose_none names owner index c a l) (room_at (cells names owner) v e r))

pub gives_view : (names : List (Option CellName)) (owner owner2 : List ℕ) (index : List (Option ℕ)) (c : ℕ)
    (x : CellName) (v : Cells) → AreCells names owner index → cells names owner ≡ v → cell_at v.names c ≡ Some x
    → Takes (cells (slice_set names c None) owner2) v
gives_view names owner owner2 index c x v a e q =
    let z = named_at (cells names owner) v c x e q in
    rw (← e) (gives_of names owner owner2 c x (named_in names c x z) z (some_empty names a.first a.some))

pub loose_view : (names : List (Option CellName)) (owner : List ℕ) (index : List (Option ℕ)) (v : Cells)
    → AreCells names owner index → cells names owner ≡ v → 0 < room v → (c : ℕ) × IsLoose owner c
loose_view names owner index v a e r = loose_one names owner index a (room_at (cells names owner) v e r)

unused_owner : (names : List (Option CellName)) (owner : List ℕ) (index : List (Option ℕ)) (c e : ℕ)
    (x : Definition) → AreCells names owner index → cell_at names c ≡ Some (Value x)
    → ((n k : ℕ) → Links (cells names owner) n k x → ⊥) → e < length owner → slice_index owner e ≡ c
    → (y : Option CellName) → cell_at names e ≡ y → e ≡ c
unused_owner names owner index c e x a q u h w None z =
    absurd (not_first names owner index c (Value x) a q (sym w ∙ a.free e (omega (arith, a.size)) z))
unused_owner names owner index c e x a q u h w (Some (Value y)) z = sym (a.heads e y z) ∙ w
unused_owner names owner index c e x a q u h w (Some (Operand n k)) z =
    absurd (u n k (record { c = e; h = c; operand = z; value = q; owner = w }))

pub unused_view : (names : List (Option CellName)) (owner : List ℕ) (index : List (Option ℕ)) (c : ℕ)
    (x : Definition) (v : Cells) → AreCells names owner index → cells names owner ≡ v
    → cell_at v.names c ≡ Some (Value x) → ((n k : ℕ) → Links v n k x → ⊥) → (e : ℕ) → e < length owner
    → slice_index owner e ≡ c → e ≡ c
unused_view names owner index c x v a q z u e h w =
    unused_owner names owner index c e x a (named_at (cells names owner) v c (Value x) q z)
    (λ n k l. u n k (links_in (cells names owner) v n k x q l)) h w (cell_at names e) refl
