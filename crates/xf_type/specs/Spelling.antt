-- How widths, and the words of the arith dialect, are spelt (MLIR: builtin types, arith), and the list of each.
use Rattle.std.specs.Prelude.{ℕ, List, [], ◌∷◌, codes}
use Rattle.xf_type.specs.declared.payload_type.Width.{Width}
use Rattle.xf_type.specs.declared.payload_type.Width.TheVariants.{I1, I8, I16, I32, I64, Index}
use Rattle.xf_type.specs.declared.kind.CmpKind.{CmpKind}
use Rattle.xf_type.specs.declared.kind.CmpKind.TheVariants.{Eq, Ne, Slt, Sle, Sgt, Sge, Ult, Ule, Ugt, Uge}
use Rattle.xf_type.specs.declared.kind.BinKind.{BinKind}
use Rattle.xf_type.specs.declared.kind.BinKind.TheVariants as bin
use Rattle.xf_type.specs.declared.kind.ConvKind.{ConvKind}
use Rattle.xf_type.specs.declared.kind.ConvKind.TheVariants.{Extsi, Extui, Trunci, IndexCast, IndexCastui}

-- ---- widths

abbrev pub width_spelling : Width → List ℕ
width_spelling I1 = codes "i1"
width_spelling I8 = codes "i8"
width_spelling I16 = codes "i16"
width_spelling I32 = codes "i32"
width_spelling I64 = codes "i64"
width_spelling Index = codes "index"

abbrev pub all_widths : List Width
all_widths = I1 ∷ (I8 ∷ (I16 ∷ (I32 ∷ (I64 ∷ (Index ∷ [])))))

-- ---- the words of comparisons

abbrev pub predicate_spelling : CmpKind → List ℕ
predicate_spelling Eq = codes "eq"
predicate_spelling Ne = codes "ne"
predicate_spelling Slt = codes "slt"
predicate_spelling Sle = codes "sle"
predicate_spelling Sgt = codes "sgt"
predicate_spelling Sge = codes "sge"
predicate_spelling Ult = codes "ult"
predicate_spelling Ule = codes "ule"
predicate_spelling Ugt = codes "ugt"
predicate_spelling Uge = codes "uge"

abbrev pub all_predicates : List CmpKind
all_predicates = Eq ∷ (Ne ∷ (Slt ∷ (Sle ∷ (Sgt ∷ (Sge ∷ (Ult ∷ (Ule ∷ (Ugt ∷ (Uge ∷ [])))))))))

-- ---- the names of operations on two numbers, and of conversions

abbrev pub binary_spelling : BinKind → List ℕ
binary_spelling bin.Addi = codes "arith.addi"
binary_spelling bin.Subi = codes "arith.subi"
binary_spelling bin.Muli = codes "arith.muli"
binary_spelling bin.Andi = codes "arith.andi"
binary_spelling bin.Ori = codes "arith.ori"
binary_spelling bin.Xori = codes "arith.xori"
binary_spelling bin.Shli = codes "arith.shli"
binary_spelling bin.Shrui = codes "arith.shrui"
binary_spelling bin.Shrsi = codes "arith.shrsi"
binary_spelling bin.Minsi = codes "arith.minsi"
binary_spelling bin.Maxsi = codes "arith.maxsi"
binary_spelling bin.Minui = codes "arith.minui"
binary_spelling bin.Maxui = codes "arith.maxui"

abbrev pub all_binaries : List BinKind
all_binaries =
    bin.Addi ∷ (bin.Subi ∷ (bin.Muli ∷ (bin.Andi ∷ (bin.Ori ∷ (bin.Xori ∷ (bin.Shli ∷ (bin.Shrui ∷ (bin.Shrsi
    ∷ (bin.Minsi ∷ (bin.Maxsi ∷ (bin.Minui ∷ (bin.Maxui ∷ []))))))))))))

abbrev pub conversion_spelling : ConvKind → List ℕ
conversion_spelling Extsi = codes "arith.extsi"
conversion_spelling Extui = codes "arith.extui"
conversion_spelling Trunci = codes "arith.trunci"
conversion_spelling IndexCast = codes "arith.index_cast"
conversion_spelling IndexCastui = codes "arith.index_castui"

abbrev pub all_conversions : List ConvKind
all_conversions = Extsi ∷ (Extui ∷ (Trunci ∷ (IndexCast ∷ (IndexCastui ∷ []))))
