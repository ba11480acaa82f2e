-- What cells stand for after one of them has changed.
use Rattle.std.proofs.Common.{◌≡◌, ℕ, List, sym, ◌∙◌, ap, refl, Bool, true, false, ◌==◌, ◌⊎◌, inl, inr}
use Rattle.std.specs.Prelude.{Option, Some, None}
use Rattle.std.proofs.lemmas.Bool.{cases_eq, cases_Bool, eq-eqb, ne_eqb}
use Rattle.xf_uses.specs.declared.cell.Definition.{Definition}
use Rattle.xf_uses.specs.declared.cell.Definition.TheVariants.{Result, Argument}
use Rattle.xf_uses.specs.declared.cell.CellName.{CellName}
use Rattle.xf_uses.specs.declared.cell.CellName.TheVariants.{Operand, Value}
use Rattle.xf_uses.specs.Cells.{Cells, cell_at, AreCells}
use Rattle.xf_uses.specs.Uses.{Has, Links, Operands, Values, with_operand, with_value, same_value, ChangesOperand}
use Rattle.xf_uses.specs.Uses.{ChangesValue}
use Rattle.xf_uses.proofs.CellLemmas.{OneCell, Alone}

-- ---- one operand, one value

with_same : (n k : ℕ) (y : Option Definition) (u : Operands) → with_operand n k y u n k ≡ y
with_same n k y u = rw (eq-eqb n n refl, eq-eqb k k refl) refl

with_other : (n k : ℕ) (y : Option Definition) (u : Operands) (m j : ℕ) → ((m ≡ n) × (j ≡ k) → ⊥)
    → with_operand n k y u m j ≡ u m j
with_other n k y u m j ne = elim (cases_eq n m) [
  | inl p ↦ elim (cases_eq k j) [
    | inl q ↦ absurd (ne (sym p, sym q))
    | inr q ↦ rw (ne_eqb k j q) (elim (cases_Bool (n == m)) [ inl w ↦ rw w refl | inr w ↦ rw w refl ])
  ]
  | inr p ↦ rw (ne_eqb n m p) refl
]

same_refl : (v : Definition) → same_value v v ≡ true
same_refl (Result o i) = rw (eq-eqb o o refl, eq-eqb i i refl) refl
same_refl (Argument o r i) = rw (eq-eqb o o refl, eq-eqb r r refl, eq-eqb i i refl) refl

with_value_same : (v : Definition) (b : Bool) (d : Values) → with_value v b d v ≡ b
with_value_same v b d = rw (same_refl v) refl

unlike_results : (o i p j : ℕ) → (Result o i ≡ Result p j → ⊥) → same_value (Result o i) (Result p j) ≡ false
unlike_results o i p j ne = elim (cases_eq o p) [
  | inl q ↦ elim (cases_eq i j) [
    | inl w ↦ absurd (ne cc)
    | inr w ↦ rw (ne_eqb i j w) (elim (cases_Bool (o == p)) [ inl z ↦ rw z refl | inr z ↦ rw z refl ])
  ]
  | inr q ↦ rw (ne_eqb o p q) refl
]

unlike_arguments : (o r i p s j : ℕ) → (Argument o r i ≡ Argument p s j → ⊥)
    → same_value (Argument o r i) (Argument p s j) ≡ false
unlike_arguments o r i p s j ne = elim (cases_eq o p) [
  | inl q ↦ elim (cases_eq r s) [
    | inl y ↦ elim (cases_eq i j) [
      | inl w ↦ absurd (ne cc)
      | inr w ↦ rw (eq-eqb o p q, eq-eqb r s y, ne_eqb i j w) refl
    ]
    | inr y ↦ rw (eq-eqb o p q, ne_eqb r s y) refl
  ]
  | inr q ↦ rw (ne_eqb o p q) refl
]

unlike : (v w : Definition) → (v ≡ w → ⊥) → same_value v w ≡ false
unlike (Result o i) (Result p j) ne = unlike_results o i p j ne
unlike (Result o i) (Argument p s j) ne = refl
unlike (Argument o r i) (Result p j) ne = refl
unlike (Argument o r i) (Argument p s j) ne = unlike_arguments o r i p s j ne

with_value_other : (v w : Definition) (b : Bool) (d : Values) → (v ≡ w → ⊥) → with_value v b d w ≡ d w
with_value_other v w b d ne = rw (unlike v w ne) refl

same_results : (o i p j : ℕ) → (Result o i ≡ Result p j) ⊎ (Result o i ≡ Result p j → ⊥)
same_results o i p j = elim (cases_eq o p) [
  | inl q ↦ elim (cases_eq i j) [ inl w ↦ inl cc | inr w ↦ inr (λ e. w (let z : i ≡ j = cc in z)) ]
  | inr q ↦ inr (λ e. q (let z : o ≡ p = cc in z))
]

same_arguments : (o r i p s j : ℕ) → (Argument o r i ≡ Argument p s j) ⊎ (Argument o r i ≡ Argument p s j → ⊥)
same_arguments o r i p s j = elim (cases_eq o p) [
  | inl q ↦ elim (cases_eq r s) [
    | inl y ↦ elim (cases_eq i j) [ inl w ↦ inl cc | inr w ↦ inr (λ e. w (let z : i ≡ j = cc in z)) ]
    | inr y ↦ inr (λ e. y (let z : r ≡ s = cc in z))
  ]
  | inr q ↦ inr (λ e. q (let z : o ≡ p = cc in z))
]

pub value_cases : (v w : Definition) → (v ≡ w) ⊎ (v ≡ w → ⊥)
value_cases (Result o i) (Result p j) = same_results o i p j
value_cases (Result o i) (Argument p s j) = inr (λ e. cc)
value_cases (Argument o r i) (Result p j) = inr (λ e. cc)
value_cases (Argument o r i) (Argument p s j) = same_arguments o r i p s j

place_cases : (m n j k : ℕ) → ((m ≡ n) × (j ≡ k)) ⊎ ((m ≡ n) × (j ≡ k) → ⊥)
place_cases m n j k = elim (cases_eq m n) [
  | inl p ↦ elim (cases_eq j k) [ inl q ↦ inl (p, q) | inr q ↦ inr (λ z. q z.1) ]
  | inr p ↦ inr (λ z. p z.0)
]

-- ---- names of cells

pub some_same : (x y : CellName) → Some x ≡ Some y → x ≡ y
some_same x y e = cc

pub value_is : (v w : Definition) → Some (Value v) ≡ Some (Value w) → v ≡ w
value_is v w e = cc

pub operand_is : (n m k j : ℕ) → Some (Operand n k) ≡ Some (Operand m j) → (m ≡ n) × (j ≡ k)
operand_is n m k j e = (cc, cc)

pub value_no_operand : (v : Definition) (n k : ℕ) → Some (Value v) ≡ Some (Operand n k) → ⊥
value_no_operand v n k e = cc

none_no_cell : (x : CellName) → None ≡ Some x → ⊥
none_no_cell x e = cc

some_value : (v w : Definition) → Some v ≡ Some w → v ≡ w
some_value v w e = cc

none_no_value : (v : Definition) → None ≡ Some v → ⊥
none_no_value v e = cc

-- ---- an operand's cell

-- what the changed cell stands for, with the value at the operand
abbrev pub OperandCell : List (Option CellName) → Option CellName → ℕ → ℕ → ℕ → Option Definition → Type 0
OperandCell names2 x o n k y = ((x ≡ None) × (y ≡ None)) ⊎ ((x ≡ Some (Operand n k))
    × ((v : Definition) × ((y ≡ Some v) × (cell_at names2 o ≡ Some (Value v)))))

-- the cell stood for nothing or for that operand, and no other cell for it
pub record WasOperand (names : List (Option CellName)) (c n k : ℕ) : Type 0 where
  pub no_value : (v : Definition) → cell_at names c ≡ Some (Value v) → ⊥
  pub same : (m j : ℕ) → cell_at names c ≡ Some (Operand m j) → (m ≡ n) × (j ≡ k)
  pub only : (e : ℕ) → cell_at names e ≡ Some (Operand n k) → e ≡ c

operand_linked : (a b : Cells) (c : ℕ) (x : Option CellName) (o n k : ℕ) (y : Option Definition)
    → OneCell a.names b.names a.owner b.owner c x o → OperandCell b.names x o n k y → (w : Definition) → y ≡ Some w
    → Links b n k w
operand_linked a b c x o n k y one kind w e = elim kind [
  | inl p ↦ absurd (none_no_value w (sym p.1 ∙ e))
  | inr p ↦ record {
    c = c;
    h = o;
    operand = one.name ∙ p.0;
    value = p.1.1.1
        ∙ ap (λ z. Some (Value z)) (some_value p.1.0 w (sym p.1.1.0 ∙ e));
    owner = one.own;
  }
]

still_linked : (a b : Cells) (c : ℕ) (x : Option CellName) (o m j : ℕ) (w : Definition)
    → OneCell a.names b.names a.owner b.owner c x o → (t : Links a m j w) → (t.c ≡ c → ⊥) → (t.h ≡ c → ⊥)
    → Links b m j w
still_linked a b c x o m j w one t nc nh =
    record {
      c = t.c;
      h = t.h;
      operand = one.names_other t.c nc ∙ t.operand;
      value = one.names_other t.h nh
          ∙ t.value;
      owner = one.own_other t.c nc ∙ t.owner;
    }

links_at : (a : Cells) (n m k j : ℕ) (v : Definition) → (m ≡ n) × (j ≡ k) → Links a n k v → Links a m j v
links_at a n m k j v q t = rw (q.0, q.1) t

with_at : (n k : ℕ) (y : Option Definition) (u : Operands) (m j : ℕ) → (m ≡ n) × (j ≡ k)
    → with_operand n k y u m j ≡ y
with_at n k y u m j q = rw (q.0, q.1) (with_same n k y u)

has_operand : (a b : Cells) (c : ℕ) (x : Option CellName) (o n k : ℕ) (y : Option Definition)
    → OneCell a.names b.names a.owner b.owner c x o → OperandCell b.names x o n k y → WasOperand a.names c n k
    → (e : ℕ) → cell_at b.names e ≡ Some (Operand n k) → (v : Definition) × (y ≡ Some v)
has_operand a b c x o n k y one kind was e q = elim kind [
  | inr p ↦ (p.1.0, p.1.1.0)
  | inl p ↦ elim (cases_eq e c) [
    | inl i ↦ absurd (none_no_cell (Operand n k) (sym p.0 ∙ sym one.name ∙ ap (cell_at b.names) (sym i) ∙ q))
    | inr i ↦ absurd (i (was.only e (sym (one.names_other e i) ∙ q)))
  ]
]

not_named : (a b : Cells) (c : ℕ) (x : Option CellName) (o n k : ℕ) (y : Option Definition)
    → OneCell a.names b.names a.owner b.owner c x o → OperandCell b.names x o n k y → (z : CellName)
    → (Operand n k ≡ z → ⊥) → (e : ℕ) → cell_at b.names e ≡ Some z → e ≡ c → ⊥
not_named a b c x o n k y one kind z ne e q i =
    let w : x ≡ Some z = sym one.name ∙ ap (cell_at b.names) (sym i) ∙ q in
    elim kind [
      | inl p ↦ none_no_cell z (sym p.0 ∙ w)
      | inr p ↦ ne (some_same (Operand n k) z (sym p.0 ∙ w))
    ]

pub operand_changed : (a b : Cells) (c : ℕ) (x : Option CellName) (o n k : ℕ) (y : Option Definition)
    → OneCell a.names b.names a.owner b.owner c x o → OperandCell b.names x o n k y → WasOperand a.names c n k
    → ChangesOperand a b n k y
operand_changed a b c x o n k y one kind was u d s = record {
  linked = λ m j w q. elim (place_cases m n j k) [
    | inl i ↦ links_at b n m k j w i (operand_linked a b c x o n k y one kind w (sym (with_at n k y u m j i) ∙ q))
    | inr i ↦
        let t = s.linked m j w (sym (with_other n k y u m j i) ∙ q) in
        still_linked a b c x o m j w one t
        (λ e. i (was.same m j (ap (cell_at a.names) (sym e) ∙ t.operand)))
        (λ e. was.no_value w (ap (cell_at a.names) (sym e) ∙ t.value))
  ];
  operands = λ m j h. elim (place_cases m n j k) [
    | inl i ↦
        let t = has_operand a b c x o n k y one kind was h.0 (rw (i.0, i.1) at h.1) in
        (t.0, with_at n k y u m j i ∙ t.1)
    | inr i ↦
        let ne = not_named a b c x o n k y one kind (Operand m j) (λ e. i (operand_is n m k j (ap Some e))) h.0 h.1
        in
        let t = s.operands m j (h.0, sym (one.names_other h.0 ne) ∙ h.1) in
        (t.0, with_other n k y u m j i ∙ t.1)
  ];
  defined = λ v q.
      let h = s.defined v q in
      (h.0, one.names_other h.0 (λ e. was.no_value v (ap (cell_at a.names) (sym e) ∙ h.1)) ∙ h.1);
  values = λ v h.
      let ne = not_named a b c x o n k y one kind (Value v) (λ e. value_no_operand v n k (ap Some (sym e))) h.0 h.1
      in
      s.values v (h.0, sym (one.names_other h.0 ne) ∙ h.1);
}

-- ---- a value's cell

-- what the cell stood for and stands for, with whether the value is defined
abbrev pub ValueCell : List (Option CellName) → ℕ → Option CellName → Definition → Bool → Type 0
ValueCell names c x v b =
    ((x ≡ None) × ((b ≡ false) × (cell_at names c ≡ Some (Value v))))
    ⊎ ((x ≡ Some (Value v)) × ((b ≡ true) × ((cell_at names c ≡ None)
    × ((e : ℕ) → cell_at names e ≡ Some (Value v) → ⊥))))

was_no_operand : (names : List (Option CellName)) (c : ℕ) (x : Option CellName) (v : Definition) (b : Bool)
    → ValueCell names c x v b → (n k : ℕ) → cell_at names c ≡ Some (Operand n k) → ⊥
was_no_operand names c x v b kind n k e = elim kind [
  | inl p ↦ value_no_operand v n k (sym p.1.1 ∙ e)
  | inr p ↦ none_no_cell (Operand n k) (sym p.1.1.0 ∙ e)
]

is_no_operand : (names : List (Option CellName)) (c : ℕ) (x : Option CellName) (v : Definition) (b : Bool)
    → ValueCell names c x v b → (n k : ℕ) → x ≡ Some (Operand n k) → ⊥
is_no_operand names c x v b kind n k e = elim kind [
  | inl p ↦ none_no_cell (Operand n k) (sym p.0 ∙ e)
  | inr p ↦ value_no_operand v n k (sym p.0 ∙ e)
]

has_new : (a b : Cells) (c : ℕ) (x : Option CellName) (o : ℕ) (v : Definition) (t : Bool)
    → OneCell a.names b.names a.owner b.owner c x o → ValueCell a.names c x v t → t ≡ true → Has b (Value v)
has_new a b c x o v t one kind e = elim kind [
  | inl p ↦ absurd (let z : false ≡ true = sym p.1.0 ∙ e in cc)
  | inr p ↦ (c, one.name ∙ p.0)
]

has_old : (a b : Cells) (c : ℕ) (x : Option CellName) (o : ℕ) (v w : Definition) (t : Bool)
    → OneCell a.names b.names a.owner b.owner c x o → ValueCell a.names c x v t → (v ≡ w → ⊥) → Has a (Value w)
    → Has b (Value w)
has_old a b c x o v w t one kind ne h = (
  h.0,
  one.names_other h.0 (λ e. elim kind [
    | inl p ↦ ne (value_is v w (sym p.1.1 ∙ ap (cell_at a.names) (sym e) ∙ h.1))
    | inr p ↦ none_no_cell (Value w) (sym p.1.1.0 ∙ ap (cell_at a.names) (sym e) ∙ h.1)
  ]) ∙ h.1,
)

had_other : (a b : Cells) (c : ℕ) (x : Option CellName) (o : ℕ) (v w : Definition) (t : Bool)
    → OneCell a.names b.names a.owner b.owner c x o → ValueCell a.names c x v t → (v ≡ w → ⊥) → Has b (Value w)
    → Has a (Value w)
had_other a b c x o v w t one kind ne h = (
  h.0,
  sym (one.names_other h.0 (λ e.
      let q : x ≡ Some (Value w) = sym one.name ∙ ap (cell_at b.names) (sym e) ∙ h.1 in
      elim kind [
        | inl p ↦ none_no_cell (Value w) (sym p.0 ∙ q)
        | inr p ↦ ne (value_is v w (sym p.0 ∙ q))
      ])) ∙ h.1,
)

-- that value is there after the change only where it is defined
is_there : (a b : Cells) (index : List (Option ℕ)) (c : ℕ) (x : Option CellName) (o : ℕ) (v : Definition)
    (t : Bool) → AreCells a.names a.owner index → OneCell a.names b.names a.owner b.owner c x o
    → ValueCell a.names c x v t → Has b (Value v) → t ≡ true
is_there a b index c x o v t cells one kind h = elim kind [
  | inr p ↦ p.1.0
  | inl p ↦ elim (cases_eq h.0 c) [
    | inl e ↦ absurd (none_no_cell (Value v) (sym p.0 ∙ sym one.name ∙ ap (cell_at b.names) (sym e) ∙ h.1))
    | inr e ↦ absurd (e (cells.apart h.0 c (Value v) (sym (one.names_other h.0 e) ∙ h.1) p.1.1))
  ]
]

pub value_changed : (a b : Cells) (index : List (Option ℕ)) (c : ℕ) (x : Option CellName) (o : ℕ) (v : Definition)
    (t : Bool) → AreCells a.names a.owner index → OneCell a.names b.names a.owner b.owner c x o
    → ValueCell a.names c x v t → Alone a.names a.owner c → ChangesValue a b v t
value_changed a b index c x o v t cells one kind al u d s = record {
  linked = λ m j w q.
      let l = s.linked m j w q in
      let nc : l.c ≡ c → ⊥ = λ e. was_no_operand a.names c x v t kind m j (ap (cell_at a.names) (sym e)
      ∙ l.operand) in
      still_linked a b c x o m j w one l nc (λ e. al l.c m j nc l.operand (l.owner ∙ e));
  operands = λ m j h.
      let ne : h.0 ≡ c → ⊥ = λ e. is_no_operand a.names c x v t kind m j (sym one.name
      ∙ ap (cell_at b.names) (sym e) ∙ h.1) in
      s.operands m j (h.0, sym (one.names_other h.0 ne) ∙ h.1);
  defined = λ w q. elim (value_cases v w) [
    | inl i ↦ rw (← i) (has_new a b c x o v t one kind (sym (with_value_same v t d) ∙ ap (with_value v t d) i ∙ q))
    | inr i ↦ has_old a b c x o v w t one kind i (s.defined w (sym (with_value_other v w t d i) ∙ q))
  ];
  values = λ w h. elim (value_cases v w) [
    | inl i ↦ ap (with_value v t d) (sym i) ∙ with_value_same v t d
        ∙ is_there a b index c x o v t cells one kind (rw (← i) at h)
    | inr i ↦ with_value_other v w t d i ∙ s.values w (had_other a b c x o v w t one kind i h)
  ];
}
