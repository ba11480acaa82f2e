-- Extents that are noted one after another agree exactly where they all do.
use Rattle.std.proofs.Common.{◌≡◌, ℕ, zero, suc, ◌+◌, ◌<◌, ◌≤◌, ◌&&◌, ◌||◌, List, [], ◌∷◌, ◌++◌, length, drop, get_or}
use Rattle.std.proofs.Common.{Option, Some, None, Bool, true, false, not, inl, inr, refl, sym, ap, subst, ◌∙◌}
use Rattle.std.proofs.Common.{append_assoc, add-one, drop-cons, arith}
use Rattle.std.specs.Prelude.{◌==◌, min, nat_le}
use Rattle.std.specs.Map.{lookup}
use Rattle.std.specs.BTreeMap.{BTreeMap, IsEmpty, get, is_at}
use Rattle.std.specs.Ordering.{nat_cmp}
use Rattle.std.proofs.lemmas.Bool.Decides.{nat_tests}
use Rattle.std.proofs.lemmas.Bool.{cases_Bool, eqb-true}
use Rattle.std.proofs.lemmas.List.{drop_all, append-nil}
use denote.Ref.{Bor}
use Rattle.xf_type.specs.declared.payload_type.PayloadType.{PayloadType}
use Rattle.xf_type.specs.declared.payload_type.Dim.{Dim}
use Rattle.xf_type.specs.declared.payload_type.Dim.TheVariants.{Fixed, Dynamic}
use Rattle.xf_type.specs.declared.attribute.AffineMap.{AffineMap}
use Rattle.xf_ir.specs.declared.kind.NamedKind.TheVariants.{Fill}
use Rattle.xf_ir.specs.Lists.{every}
use Rattle.xf_ir.specs.RuleLinalg.{named_maps, counted, to_dims, by_dims, extents, may_agree, extents_agree}
use Rattle.xf_ir.specs.RuleLinalg.{dims_or_none}
use Rattle.xf_rules_shape.specs.Extents.{Known, fits_extent, fits_known, learned, learned_extent, agree_known, dims_at}
use Rattle.xf_rules_shape.specs.Extents.{extents_by_three}
use Rattle.xf_rules.specs.OperandTypes.{operand_type, operand_types}
use Rattle.xf_rules.proofs.Ascending.{and_again}
use Rattle.xf_rules_shape.proofs.DimSets.{flipped}

-- whether two extents may be of one dimension
abbrev agrees : ℕ × Dim → ℕ × Dim → Bool
agrees x y = not (y.0 == x.0) || may_agree x.1 y.1

or_true : (a : Bool) → (a || true) ≡ true
or_true true = refl
or_true false = refl

and_true : (a : Bool) → (a && true) ≡ a
and_true true = refl
and_true false = refl

and_same : (a : Bool) → (a && a) ≡ a
and_same true = refl
and_same false = refl

-- of one dimension
fits_both : (k : Option ℕ) (e : ℕ) (f : Dim) → fits_extent k (Fixed e) ≡ true
    → fits_extent (Some e) f ≡ (fits_extent k f && may_agree (Fixed e) f)
fits_both None e (Fixed f) h = refl
fits_both None e Dynamic h = refl
fits_both (Some k) e (Fixed f) h =
    (let same : k ≡ e = eqb-true k e h in sym (and_same (e == f)) ∙ ap (λ n. (n == f) && (e == f)) (sym same))
fits_both (Some k) e Dynamic h = refl

learned_fits : (known : Known) (d : ℕ) (e : Dim) (q : ℕ) (f : Dim) → fits_extent (known d) e ≡ true
    → fits_extent (learned_extent known d e q) f ≡ (fits_extent (known q) f && (not (q == d) || may_agree e f))
learned_fits known d Dynamic q f h = rw (or_true (not (q == d))) (sym (and_true (fits_extent (known q) f)))
learned_fits known d (Fixed e) q f h =
    elim (cases_Bool (d == q)) [
      | inl t ↦ (
          let same : d ≡ q = eqb-true d q t in
          let u : (q == d) ≡ true = flipped q d ∙ t in
          rw (t, u) (subst (λ z. fits_extent (Some e) f
          ≡ (fits_extent (known z) f && may_agree (Fixed e) f)) same (fits_both (known d) e f h)))
      | inr n ↦ (let u : (q == d) ≡ false = flipped q d ∙ n in rw (n, u) (sym (and_true (fits_extent (known q) f))))
    ]

fits_learned : (known : Known) (x y : ℕ × Dim) → fits_known known x ≡ true
    → fits_known (learned known x) y ≡ (fits_known known y && agrees x y)
fits_learned known x y h = learned_fits known x.0 x.1 y.0 y.1 h

mixed : (a b c d : Bool) → ((a && b) && (c && d)) ≡ ((a && c) && (b && d))
mixed true true c d = refl
mixed true false true d = refl
mixed true false false d = refl
mixed false b c d = refl

every_both : {A : Type 0} (p q r : A → Bool) (xs : List A) → ((x : A) → p x ≡ (q x && r x))
    → every p xs ≡ (every q xs && every r xs)
every_both p q r [] h = refl
every_both p q r (x ∷ xs) h =
    ap (λ b. b && every p xs) (h x) ∙ ap (λ b. (q x && r x) && b) (every_both p q r xs h)
    ∙ mixed (q x) (r x) (every q xs) (every r xs)

by_parts : (known : Known) (xs : List (ℕ × Dim))
    → agree_known known xs ≡ (every (fits_known known) xs && extents_agree xs)
by_parts known [] = refl
by_parts known (x ∷ xs) =
    elim (cases_Bool (fits_known known x)) [
      | inl t ↦ rw t (
          by_parts (learned known x) xs
          ∙ ap (λ b. b && extents_agree xs)
          (every_both (fits_known (learned known x)) (fits_known known) (agrees x) xs (λ y. fits_learned known x y t))
          ∙ and_again (every (fits_known known) xs) (every (agrees x) xs) (extents_agree xs))
      | inr n ↦ rw n refl
    ]

nothing_known : (xs : List (ℕ × Dim)) → every (fits_known (λ q. None)) xs ≡ true
nothing_known [] = refl
nothing_known (x ∷ xs) = nothing_known xs

pub agree_by_known : (xs : List (ℕ × Dim)) → agree_known (λ q. None) xs ≡ extents_agree xs
agree_by_known xs = by_parts (λ q. None) xs ∙ ap (λ b. b && extents_agree xs) (nothing_known xs)

empty_known : (m : BTreeMap ℕ ℕ) → IsEmpty m → get nat_cmp m ≡ (λ q. None)
empty_known m e = ap (λ es. λ q. lookup (is_at (nat_cmp q)) es) e

pub agree_from_none : (m : BTreeMap ℕ ℕ) (xs : List (ℕ × Dim)) → IsEmpty m
    → agree_known (get nat_cmp m) xs ≡ extents_agree xs
agree_from_none m xs e = ap (λ k. agree_known k xs) (empty_known m e) ∙ agree_by_known xs

next_pair : (xs : List (ℕ × Dim)) (i : ℕ) → i < length xs → drop i xs ≡ get_or xs i (0, Fixed 0) ∷ drop (i + 1) xs
next_pair xs i h = rw (add-one, drop-cons xs i (0, Fixed 0)) refl

pub disagrees : (known : Known) (xs : List (ℕ × Dim)) (i : ℕ) (fit whole : Bool) → i < length xs
    → fit ≡ fits_known known (get_or xs i (0, Fixed 0)) → fit ≡ false → agree_known known (drop i xs) ≡ whole
    → false ≡ whole
disagrees known xs i fit whole h p q w =
    let x = get_or xs i (0, Fixed 0) in
    let e : drop i xs ≡ x ∷ drop (i + 1) xs = next_pair xs i h in
    let f : fits_known known x ≡ false = sym p ∙ q in
    sym (ap (λ b. b && agree_known (learned known x) (drop (i + 1) xs)) f) ∙ ap (agree_known known) (sym e) ∙ w

pub agrees_on : (known next : Known) (xs : List (ℕ × Dim)) (i : ℕ) (fit whole : Bool) → i < length xs
    → fit ≡ fits_known known (get_or xs i (0, Fixed 0)) → fit ≡ true → next ≡ learned known (get_or xs i (0, Fixed 0)) →
    agree_known known (drop i xs) ≡ whole → agree_known next (drop (i + 1) xs) ≡ whole
agrees_on known next xs i fit whole h p q l w =
    let x = get_or xs i (0, Fixed 0) in
    let e : drop i xs ≡ x ∷ drop (i + 1) xs = next_pair xs i h in
    let f : fits_known known x ≡ true = sym p ∙ q in
    ap (λ (k : Known). agree_known k (drop (i + 1) xs)) l
    ∙ sym (ap (λ b. b && agree_known (learned known x) (drop (i + 1) xs)) f) ∙ ap (agree_known known) (sym e) ∙ w

-- ---- what is left of lists

pub all_there : {A : Type 0} (xs ys whole : List A) → ys ≡ [] → xs ++ ys ≡ whole → xs ≡ whole
all_there xs ys whole e w = sym (append-nil xs) ∙ ap (λ zs. xs ++ zs) (sym e) ∙ w

no_dims : (ds : List ℕ) → by_dims ds [] ≡ []
no_dims [] = refl
no_dims (d ∷ ds) = refl

no_types : (maps : List AffineMap) → extents maps [] ≡ []
no_types [] = refl
no_types (map ∷ maps) = refl

pub no_pairs_left : (ds : List ℕ) (es : List Dim) (i : ℕ) → min (length ds) (length es) ≤ i
    → by_dims (drop i ds) (drop i es) ≡ []
no_pairs_left ds es i h =
    elim (cases_Bool (nat_le (length ds) i)) [
      | inl t ↦ (let k : length ds ≤ i = grind (arith, nat_tests) in rw (drop_all i ds k) refl)
      | inr t ↦ (let k : length es ≤ i = grind (arith, nat_tests) in rw (drop_all i es k) (no_dims (drop i ds)))
    ]

pub no_operands_left : (maps : List AffineMap) (os : List (Option (Bor PayloadType))) (i : ℕ)
    → min (length maps) (length os) ≤ i → extents (drop i maps) (operand_types (drop i os)) ≡ []
no_operands_left maps os i h =
    elim (cases_Bool (nat_le (length maps) i)) [
      | inl t ↦ (let k : length maps ≤ i = grind (arith, nat_tests) in rw (drop_all i maps k) refl)
      | inr t ↦ (let k : length os ≤ i = grind (arith, nat_tests) in rw (drop_all i os k) (no_types (drop i maps)))
    ]

-- ---- the dimensions of one operand

pub dims_here : (os : List (Option (Bor PayloadType))) (n : ℕ) (o : Option (Bor PayloadType)) → n < length os
    → dims_or_none (operand_type (get_or os n o)) ≡ dims_at (operand_types os) n
dims_here [] n o h = absurd (omega arith)
dims_here (x ∷ os) zero o h = refl
dims_here (x ∷ os) (suc n) o h = dims_here os n o (omega arith)

pub dims_beyond : (os : List (Option (Bor PayloadType))) (n : ℕ) → length os ≤ n → dims_at (operand_types os) n ≡ []
dims_beyond [] n h = refl
dims_beyond (x ∷ os) zero h = absurd (omega arith)
dims_beyond (x ∷ os) (suc n) h = dims_beyond os n (omega arith)

-- ---- operations with a name

pub three_maps : (a b c : List ℕ) (n : ℕ) (os : List (Option PayloadType))
    → extents_by_three a b c os ≡ extents (to_dims n a ∷ (to_dims n b ∷ (to_dims n c ∷ []))) os
three_maps a b c n [] = rw (no_dims a, no_dims b, no_dims c) refl
three_maps a b c n (o ∷ []) = rw (no_dims b, no_dims c) (simp append-nil)
three_maps a b c n (o ∷ (p ∷ [])) = rw (no_dims c) (simp append-nil)
three_maps a b c n (o ∷ (p ∷ (r ∷ os))) = simp (append_assoc, append-nil)

apart : (d : ℕ) (e : Dim) (from k : ℕ) (es : List Dim) → d < from
    → every (agrees (d, e)) (by_dims (counted from k) es) ≡ true
apart d e from zero es h = refl
apart d e from (suc k) [] h = refl
apart d e from (suc k) (f ∷ es) h =
    (let n : (from == d) ≡ false = grind (arith, nat_tests) in rw n (apart d e (from + 1) k es (omega arith)))

counted_agree : (from k : ℕ) (es : List Dim) → extents_agree (by_dims (counted from k) es) ≡ true
counted_agree from zero es = refl
counted_agree from (suc k) [] = refl
counted_agree from (suc k) (e ∷ es) = rw (apart from e (from + 1) k es (omega arith)) (counted_agree (from + 1) k es)

pub fill_agrees : (r : ℕ) (os : List (Option PayloadType)) → true ≡ extents_agree (extents (named_maps Fill r) os)
fill_agrees r [] = refl
fill_agrees r (o ∷ []) = refl
fill_agrees r (o ∷ (p ∷ os)) =
    sym (ap extents_agree (append-nil (by_dims (counted 0 r) (dims_or_none p))) ∙ counted_agree 0 r (dims_or_none p))
