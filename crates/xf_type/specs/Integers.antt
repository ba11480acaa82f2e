-- The arithmetic of machine integers: one table over numbers that do not wrap.
-- It follows MLIR's `arith` dialect (mlir.llvm.org/docs/Dialects/ArithOps). An element that is no number stands for
-- what MLIR calls poison. A signed number is an integer, where `negsuc n` is -(n + 1).
use Rattle.std.specs.Prelude.{ℕ, ◌+◌, ◌-◌, ◌*◌, ◌/◌, ◌%◌, ◌^◌, ◌<◌, min, max, Bool, true}
use Rattle.std.specs.Prelude.{false, if◌then◌else◌, nat_lt, nat_le, ◌==◌, not, ℤ, pos, negsuc}
use Rattle.std.specs.Prelude.{◌-ℤ◌, int_lt, int_le, bit_and, bit_or, bit_xor}
use Rattle.std.specs.Int.{int_min, int_max, int_div_euclid}
use Rattle.xf_type.specs.declared.payload_type.Width.{Width}
use Rattle.xf_type.specs.declared.payload_type.Width.TheVariants.{I1, I8, I16, I32, I64, Index}
use Rattle.xf_type.specs.declared.payload_type.Elem.{Elem}
use Rattle.xf_type.specs.declared.payload_type.Elem.TheVariants.{Num, NoNumber}
use Rattle.xf_type.specs.declared.kind.BinKind.{BinKind}
use Rattle.xf_type.specs.declared.kind.BinKind.TheVariants as bin
use Rattle.xf_type.specs.declared.kind.CmpKind.{CmpKind}
use Rattle.xf_type.specs.declared.kind.CmpKind.TheVariants as cmp
use Rattle.xf_type.specs.declared.kind.ConvKind.{ConvKind}
use Rattle.xf_type.specs.declared.kind.ConvKind.TheVariants as conv
use Rattle.xf_type.specs.declared.kind.Combiner.{Combiner}
use Rattle.xf_type.specs.declared.kind.Combiner.TheVariants as by

-- ---- widths

abbrev pub bits_of : Width → ℕ
bits_of I1 = 1
bits_of I8 = 8
bits_of I16 = 16
bits_of I32 = 32
bits_of I64 = 64
bits_of Index = 64

-- a number of the width, or no number
abbrev pub FitsWidth : Width → Elem → Type 0
FitsWidth w (Num n) = n < 2 ^ bits_of w
FitsWidth w NoNumber = Unit {0}

-- an integer modulo 2 ^ bits
abbrev pub wrapped : Width → ℤ → ℕ
wrapped w (pos n) = n % 2 ^ bits_of w
wrapped w (negsuc n) = 2 ^ bits_of w - 1 - n % 2 ^ bits_of w

-- a number of the width read in two's complement
abbrev pub signed_value : Width → ℕ → ℤ
signed_value w n = if nat_lt n (2 ^ (bits_of w - 1)) then pos n else (pos n -ℤ pos (2 ^ bits_of w))

-- ---- operations on two numbers

-- a shift by as many places as there are bits, or more, gives no number
abbrev pub shift : Bool → (ℕ → ℕ) → ℕ → Elem
shift true f places = Num (f places)
shift false f places = NoNumber

abbrev pub shift_within : Width → (ℕ → ℕ) → ℕ → Elem
shift_within w f places = shift (nat_lt places (bits_of w)) f places

abbrev pub binary_of : BinKind → Width → ℕ → ℕ → Elem
binary_of bin.Addi w a b = Num (wrapped w (pos (a + b)))
binary_of bin.Subi w a b = Num (wrapped w (pos a -ℤ pos b))
binary_of bin.Muli w a b = Num (wrapped w (pos (a * b)))
binary_of bin.Andi w a b = Num (bit_and a b)
binary_of bin.Ori w a b = Num (bit_or a b)
binary_of bin.Xori w a b = Num (bit_xor a b)
binary_of bin.Shli w a b = shift_within w (λ k. wrapped w (pos (a * 2 ^ k))) b
binary_of bin.Shrui w a b = shift_within w (λ k. a / 2 ^ k) b
binary_of bin.Shrsi w a b = shift_within w (λ k. wrapped w (int_div_euclid (signed_value w a) (pos (2 ^ k)))) b
binary_of bin.Minsi w a b = Num (wrapped w (int_min (signed_value w a) (signed_value w b)))
binary_of bin.Maxsi w a b = Num (wrapped w (int_max (signed_value w a) (signed_value w b)))
binary_of bin.Minui w a b = Num (min a b)
binary_of bin.Maxui w a b = Num (max a b)

abbrev pub holds : CmpKind → Width → ℕ → ℕ → Bool
holds cmp.Eq w a b = a == b
holds cmp.Ne w a b = not (a == b)
holds cmp.Slt w a b = int_lt (signed_value w a) (signed_value w b)
holds cmp.Sle w a b = int_le (signed_value w a) (signed_value w b)
holds cmp.Sgt w a b = int_lt (signed_value w b) (signed_value w a)
holds cmp.Sge w a b = int_le (signed_value w b) (signed_value w a)
holds cmp.Ult w a b = nat_lt a b
holds cmp.Ule w a b = nat_le a b
holds cmp.Ugt w a b = nat_lt b a
holds cmp.Uge w a b = nat_le b a

abbrev pub converted_of : ConvKind → Width → Width → ℕ → ℕ
converted_of conv.Extsi from to a = wrapped to (signed_value from a)
converted_of conv.Extui from to a = wrapped to (pos a)
converted_of conv.Trunci from to a = wrapped to (pos a)
converted_of conv.IndexCast from to a = wrapped to (signed_value from a)
converted_of conv.IndexCastui from to a = wrapped to (pos a)

-- ---- the same on elements: no number gives no number

abbrev pub of_two : (ℕ → ℕ → Elem) → Elem → Elem → Elem
of_two f (Num a) (Num b) = f a b
of_two f (Num a) NoNumber = NoNumber
of_two f NoNumber b = NoNumber

abbrev pub binary : BinKind → Width → Elem → Elem → Elem
binary k w a b = of_two (binary_of k w) a b

-- 1 where the comparison holds, else 0
abbrev pub compared : CmpKind → Width → Elem → Elem → Elem
compared k w a b = of_two (λ a b. Num (if holds k w a b then 1 else 0)) a b

abbrev pub converted : ConvKind → Width → Width → Elem → Elem
converted k from to (Num a) = Num (converted_of k from to a)
converted k from to NoNumber = NoNumber

-- the condition has the width I1; the element that is not chosen is not looked at
abbrev pub selected : Elem → Elem → Elem → Elem
selected (Num c) a b = if c == 0 then b else a
selected NoNumber a b = NoNumber

-- ---- the operations of reductions

abbrev pub kind_of : Combiner → BinKind
kind_of by.Addi = bin.Addi
kind_of by.Muli = bin.Muli
kind_of by.Andi = bin.Andi
kind_of by.Ori = bin.Ori
kind_of by.Xori = bin.Xori
kind_of by.Minsi = bin.Minsi
kind_of by.Maxsi = bin.Maxsi
kind_of by.Minui = bin.Minui
kind_of by.Maxui = bin.Maxui

abbrev pub combined : Combiner → Width → Elem → Elem → Elem
combined c w a b = binary (kind_of c) w a b
