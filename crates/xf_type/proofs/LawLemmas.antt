-- The laws of the table of the integers, operation by operation.
use Rattle.std.proofs.Common.{◌≡◌, ℕ, ◌+◌, ◌-◌, ◌*◌, ◌%◌, ◌^◌, ◌<◌, min, max, refl, ap, sym, ◌∙◌, arith, ℤ, pos, negsuc}
use Rattle.std.proofs.Common.{bit_and, bit_or, bit_xor}
use Rattle.std.proofs.Math.Nat.{add_comm, mul_comm, add_assoc, mul_assoc, mod-add-mod, add-mod-mod}
use Rattle.std.proofs.lemmas.Nat.{and_comm, or_comm, xor_comm, and_assoc, mul-mod_first, mul-mod_second, or_lt, xor_lt}
use Rattle.std.proofs.lemmas.Nat.Bits.{same_from_bits, bit_at_or}
use Rattle.std.proofs.lemmas.Int.{ints, clamps}
use Rattle.std.proofs.lemmas.Grind.{common_steps}
use Rattle.std.specs.Int.Bits.{xor_assoc, and_lt}
use Rattle.std.specs.Int.{int_min, int_max}
use Rattle.xf_type.specs.declared.payload_type.Width.{Width}
use Rattle.xf_type.specs.declared.payload_type.Elem.TheVariants.{Num, NoNumber}
use Rattle.xf_type.specs.declared.kind.BinKind.{BinKind}
use Rattle.xf_type.specs.declared.kind.BinKind.TheVariants as bin
use Rattle.xf_type.specs.declared.kind.Combiner.{Combiner}
use Rattle.xf_type.specs.declared.kind.Combiner.TheVariants.{Addi, Muli, Andi, Ori, Xori, Minsi, Maxsi, Minui, Maxui}
use Rattle.xf_type.specs.declared.payload_type.Width.TheVariants.{I1, I8, I16, I32, I64, Index}
use Rattle.xf_type.specs.declared.kind.ConvKind.TheVariants.{Extsi, Extui, Trunci, IndexCast, IndexCastui}
use Rattle.xf_type.specs.Laws.{WrappedFits, SignedValueFits, WrappedReturns, SignedValueReturns, BinaryFits}
use Rattle.xf_type.specs.Laws.{ComparedFits, ConvertedFits, SelectedFits, CombinedFits, CombinedCommutes}
use Rattle.xf_type.specs.Laws.{CombinedAssociates, Returns, ExtensionReturns, IndexCastReturns}
use Rattle.xf_type.specs.Integers.{bits_of, wrapped, signed_value, FitsWidth, binary_of, kind_of, combined}

-- ---- the two readings of a number

two_halves : (w : Width) → 2 ^ bits_of w ≡ 2 ^ (bits_of w - 1) + 2 ^ (bits_of w - 1)
two_halves I1 = refl
two_halves I8 = refl
two_halves I16 = refl
two_halves I32 = refl
two_halves I64 = refl
two_halves Index = refl

pub wrapped_below : WrappedFits
wrapped_below w (pos n) = grind (arith, common_steps)
wrapped_below w (negsuc n) = grind (arith, common_steps)

pub signed_value_fits : SignedValueFits
signed_value_fits w n h = grind (arith, ints, two_halves w)

pub signed_value-wrapped : WrappedReturns
signed_value-wrapped w (pos n) h = grind (arith, ints, common_steps, two_halves w, h.0, h.1)
signed_value-wrapped w (negsuc n) h = grind (arith, ints, common_steps, two_halves w, h.0, h.1)

pub wrapped-signed_value : SignedValueReturns
wrapped-signed_value w n h = grind (arith, ints, common_steps, two_halves w)

-- ---- results fit

pub number_fits : (k : BinKind) (w : Width) (a b : ℕ) → a < 2 ^ bits_of w → b < 2 ^ bits_of w
    → FitsWidth w (binary_of k w a b)
number_fits bin.Addi w a b p q = wrapped_below w (pos (a + b))
number_fits bin.Subi w a b p q = wrapped_below w _
number_fits bin.Muli w a b p q = wrapped_below w (pos (a * b))
number_fits bin.Andi w a b p q = and_lt _ a b p q
number_fits bin.Ori w a b p q = or_lt _ a b p q
number_fits bin.Xori w a b p q = xor_lt _ a b p q
number_fits bin.Shli w a b p q = grind (arith, common_steps)
number_fits bin.Shrui w a b p q = grind (arith, common_steps)
number_fits bin.Shrsi w a b p q = grind (arith, wrapped_below)
number_fits bin.Minsi w a b p q = wrapped_below w _
number_fits bin.Maxsi w a b p q = wrapped_below w _
number_fits bin.Minui w a b p q = grind arith
number_fits bin.Maxui w a b p q = grind arith

pub binary_fits : BinaryFits
binary_fits k w (Num a) (Num b) p q = number_fits k w a b p q
binary_fits k w (Num a) NoNumber p q = tt
binary_fits k w NoNumber b p q = tt

pub compared_fits : ComparedFits
compared_fits k w (Num a) (Num b) = grind arith
compared_fits k w (Num a) NoNumber = tt
compared_fits k w NoNumber b = tt

pub converted_fits : ConvertedFits
converted_fits k from to (Num a) = grind (arith, wrapped_below)
converted_fits k from to NoNumber = tt

pub selected_fits : SelectedFits
selected_fits w (Num c) a b p q = grind arith
selected_fits w NoNumber a b p q = tt

pub combined_fits : CombinedFits
combined_fits c w a b p q = binary_fits (kind_of c) w a b p q

-- ---- the order of a reduction is free

-- what two numbers combine to
value : Combiner → Width → ℕ → ℕ → ℕ
value Addi w a b = (a + b) % 2 ^ bits_of w
value Muli w a b = (a * b) % 2 ^ bits_of w
value Andi w a b = bit_and a b
value Ori w a b = bit_or a b
value Xori w a b = bit_xor a b
value Minsi w a b = wrapped w (int_min (signed_value w a) (signed_value w b))
value Maxsi w a b = wrapped w (int_max (signed_value w a) (signed_value w b))
value Minui w a b = min a b
value Maxui w a b = max a b

combined_is : (c : Combiner) (w : Width) (a b : ℕ) → combined c w (Num a) (Num b) ≡ Num (value c w a b)
unfolding value
combined_is Addi w a b = refl
combined_is Muli w a b = refl
combined_is Andi w a b = refl
combined_is Ori w a b = refl
combined_is Xori w a b = refl
combined_is Minsi w a b = refl
combined_is Maxsi w a b = refl
combined_is Minui w a b = refl
combined_is Maxui w a b = refl

int_min_comm : (x y : ℤ) → int_min x y ≡ int_min y x
int_min_comm x y = omega (arith, ints, clamps)

int_max_comm : (x y : ℤ) → int_max x y ≡ int_max y x
int_max_comm x y = omega (arith, ints, clamps)

value_comm : (c : Combiner) (w : Width) (a b : ℕ) → value c w a b ≡ value c w b a
unfolding value
value_comm Addi w a b = ap (λ n. n % 2 ^ bits_of w) (add_comm a b)
value_comm Muli w a b = ap (λ n. n % 2 ^ bits_of w) (mul_comm a b)
value_comm Andi w a b = and_comm a b
value_comm Ori w a b = or_comm a b
value_comm Xori w a b = xor_comm a b
value_comm Minsi w a b = ap (wrapped w) (int_min_comm (signed_value w a) (signed_value w b))
value_comm Maxsi w a b = ap (wrapped w) (int_max_comm (signed_value w a) (signed_value w b))
value_comm Minui w a b = omega arith
value_comm Maxui w a b = omega arith

pub combined_comm : CombinedCommutes
combined_comm c w (Num a) (Num b) = combined_is c w a b ∙ ap Num (value_comm c w a b) ∙ sym (combined_is c w b a)
combined_comm c w (Num a) NoNumber = refl
combined_comm c w NoNumber (Num b) = refl
combined_comm c w NoNumber NoNumber = refl

int_min_assoc : (x y z : ℤ) → int_min (int_min x y) z ≡ int_min x (int_min y z)
int_min_assoc x y z = omega (arith, ints, clamps)

int_max_assoc : (x y z : ℤ) → int_max (int_max x y) z ≡ int_max x (int_max y z)
int_max_assoc x y z = omega (arith, ints, clamps)

or_assoc : (a b c : ℕ) → bit_or (bit_or a b) c ≡ bit_or a (bit_or b c)
or_assoc a b c = same_from_bits _ _ (λ i. grind (arith, bit_at_or))

-- the least and the greatest of two signed values are signed values of the width
signed_value-min : (w : Width) (a b : ℕ)
    → a < 2 ^ bits_of w → b < 2 ^ bits_of w → signed_value w (wrapped w (int_min (signed_value w a) (signed_value w b)))
    ≡ int_min (signed_value w a) (signed_value w b)
signed_value-min w a b p q = grind (arith, ints, common_steps)

signed_value-max : (w : Width) (a b : ℕ)
    → a < 2 ^ bits_of w → b < 2 ^ bits_of w → signed_value w (wrapped w (int_max (signed_value w a) (signed_value w b)))
    ≡ int_max (signed_value w a) (signed_value w b)
signed_value-max w a b p q = grind (arith, ints, common_steps)

value_assoc : (c : Combiner) (w : Width) (a b d : ℕ) → a < 2 ^ bits_of w → b < 2 ^ bits_of w → d < 2 ^ bits_of w
    → value c w (value c w a b) d ≡ value c w a (value c w b d)
unfolding value
value_assoc Addi w a b d p q r =
    mod-add-mod (a + b) _ d ∙ ap (λ n. n % 2 ^ bits_of w) (add_assoc a b d) ∙ sym (add-mod-mod a (b + d) _)
value_assoc Muli w a b d p q r =
    mul-mod_first (a * b) d _ ∙ ap (λ n. n % 2 ^ bits_of w) (mul_assoc a b d) ∙ sym (mul-mod_second a (b * d) _)
value_assoc Andi w a b d p q r = and_assoc d a b
value_assoc Ori w a b d p q r = or_assoc a b d
value_assoc Xori w a b d p q r = xor_assoc a b d
value_assoc Minsi w a b d p q r =
    ap (wrapped w)
    (ap (λ z. int_min z (signed_value w d)) (signed_value-min w a b p q)
    ∙ int_min_assoc (signed_value w a) (signed_value w b) (signed_value w d)
    ∙ ap (int_min (signed_value w a)) (sym (signed_value-min w b d q r)))
value_assoc Maxsi w a b d p q r =
    ap (wrapped w)
    (ap (λ z. int_max z (signed_value w d)) (signed_value-max w a b p q)
    ∙ int_max_assoc (signed_value w a) (signed_value w b) (signed_value w d)
    ∙ ap (int_max (signed_value w a)) (sym (signed_value-max w b d q r)))
value_assoc Minui w a b d p q r = omega arith
value_assoc Maxui w a b d p q r = omega arith

pub combined_assoc : CombinedAssociates
combined_assoc c w (Num a) (Num b) (Num d) p q r =
    rw (combined_is c w a b, combined_is c w b d, combined_is c w (value c w a b) d, combined_is c w a (value c w b d))
    (ap Num (value_assoc c w a b d p q r))
combined_assoc c w (Num a) (Num b) NoNumber p q r = rw (combined_is c w a b) refl
combined_assoc c w (Num a) NoNumber z p q r = refl
combined_assoc c w NoNumber y z p q r = refl

-- ---- conversions there and back

signed_extension : Returns Extsi Trunci
signed_extension from to (Num a) le p = grind (arith, ints, common_steps, two_halves from, two_halves to)
signed_extension from to NoNumber le p = refl

zero_extension : Returns Extui Trunci
zero_extension from to (Num a) le p = grind (arith, ints, common_steps)
zero_extension from to NoNumber le p = refl

signed_index_cast : Returns IndexCast IndexCast
signed_index_cast from to (Num a) le p = grind (arith, ints, common_steps, two_halves from, two_halves to)
signed_index_cast from to NoNumber le p = refl

zero_index_cast : Returns IndexCastui IndexCastui
zero_index_cast from to (Num a) le p = grind (arith, ints, common_steps)
zero_index_cast from to NoNumber le p = refl

pub extension_returns : ExtensionReturns
extension_returns = (signed_extension, zero_extension)

pub index_cast_returns : IndexCastReturns
index_cast_returns = (signed_index_cast, zero_index_cast)
