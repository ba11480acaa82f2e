-- The printed nested lists are even, and have the numbers in order.
use Rattle.std.proofs.Common.{◌≡◌, ℕ, zero, suc, ◌-◌, ◌*◌, ◌/◌, List, [], ◌∷◌, length, Some, refl, sym, ap, subst, ◌∙◌, arith}
use Rattle.std.specs.Prelude.{map, take, drop}
use Rattle.std.proofs.Math.Nat.{suc-mul, mul-div_cancel_left}
use Rattle.std.proofs.lemmas.List.{map-append, length-map, length-take, length-drop, take-append-drop}
use Rattle.xf_type.specs.declared.payload_type.Dim.TheVariants.{Fixed}
use Rattle.xf_type.specs.declared.payload_type.Width.{Width}
use Rattle.xf_dense.specs.Laws.{Accepts, PrintedListsAreEven, PrintedListsAreRead}
use Rattle.xf_dense.specs.Nests.{LiteralToken, Nest, HasShape, AllHaveShape, count, leaves, nests_leaves, nest_tokens}
use Rattle.xf_dense.specs.Printed.{literal_of, first_number, row_nests, nest_of, element_count}
use Rattle.xf_dense.proofs.Reaching.{nest_is_read}

-- what holds of an item of as many numbers as it has elements
abbrev Prints : (ℕ → LiteralToken) → (List ℕ → Nest) → ℕ → List ℕ → Type 0
Prints f item size extents = (ns : List ℕ) → length ns ≡ size
    → HasShape (item ns) extents × (leaves (item ns) ≡ map f ns)

count_rows : (item : List ℕ → Nest) (rows size : ℕ) (ns : List ℕ) → count (row_nests item rows size ns) ≡ suc rows
count_rows item zero size ns = refl
count_rows item (suc rows) size ns = ap suc (count_rows item rows size (drop size ns))

rows_print : (f : ℕ → LiteralToken) (item : List ℕ → Nest) (rows size : ℕ) (extents ns : List ℕ)
    → Prints f item size extents → length ns ≡ suc rows * size
    → AllHaveShape (row_nests item rows size ns) extents × (nests_leaves (row_nests item rows size ns) ≡ map f ns)
rows_print f item zero size extents ns p e = p ns (omega (arith, e))
rows_print f item (suc rows) size extents ns p e =
    let m = suc-mul (suc rows) size in
    let a = p (take size ns) (length-take size ns ∙ omega (arith, e, m)) in
    let b = rows_print f item rows size extents (drop size ns) p (length-drop size ns ∙ omega (arith, e, m)) in
    ((a.0, b.0), rw (a.1, b.1) (sym (map-append f (take size ns) (drop size ns)) ∙ ap (map f) (take-append-drop size ns)))

one_number : (width : Width) (ns : List ℕ) → length ns ≡ 1
    → literal_of width (first_number ns) ∷ [] ≡ map (literal_of width) ns
one_number width [] e = absurd (omega (arith, e))
one_number width (n ∷ []) e = refl
one_number width (n ∷ (m ∷ ns)) e = absurd (omega (arith, e))

pub printed_even : PrintedListsAreEven
printed_even width [] ns ok e = (tt, one_number width ns e)
printed_even width (zero ∷ extents) ns ok e = absurd (omega (arith, ok.0))
printed_even width (suc rows ∷ extents) ns ok e =
    let item = nest_of width (map Fixed extents) in
    let size = element_count extents in
    let q : length ns / suc rows ≡ size = ap (λ k. k / suc rows) e ∙ mul-div_cancel_left size (omega arith) in
    let r = rows_print (literal_of width) item rows size extents ns
    (λ ms f. printed_even width extents ms ok.1 f) e in
    let d : suc rows - 1 ≡ rows = omega arith in
    rw (q, d) ((count_rows item rows size ns, r.0), r.1)

pub printed_read : PrintedListsAreRead
printed_read width n extents ns ok e room =
    let t = nest_of width (map Fixed (n ∷ extents)) ns in
    let p = printed_even width (n ∷ extents) ns ok e in
    subst (λ ls. Accepts (nest_tokens t) (record { literals = ls; extents = Some (n ∷ extents) })) p.1
    (nest_is_read t (n ∷ extents) p.0 (rw p.1 (omega (arith, room, length-map ns (literal_of width)))))
