-- The rows that the words of kinds begin.
use Rattle.std.proofs.Common.{◌≡◌, refl}
use Rattle.xf_type.specs.declared.kind.BinKind.{BinKind}
use Rattle.xf_type.specs.declared.kind.BinKind.TheVariants.{Addi}
use Rattle.xf_type.specs.declared.kind.ConvKind.{ConvKind}
use Rattle.xf_type.specs.declared.kind.ConvKind.TheVariants.{Extsi}
use Rattle.xf_type.specs.declared.payload_type.Width.{Width}
use Rattle.xf_type.specs.Spelling.{binary_spelling, conversion_spelling}
use Rattle.xf_format.specs.declared.row.Row.TheVariants as row
use Rattle.xf_format.specs.Rows.{words}
use Rattle.xf_format.specs.Words.{lookup, the_row}
use Rattle.xf_ir.specs.declared.kind.Kind.{Kind}
use Rattle.xf_ir.specs.declared.kind.Kind.TheVariants as kind
use Rattle.xf_ir.specs.declared.kind.NamedKind.{NamedKind}
use Rattle.xf_ir.specs.declared.kind.NamedKind.TheVariants.{Matmul}
use Rattle.xf_ir.specs.Spelling.{named_spelling}
use Rattle.xf_print.specs.Lines.{op_row}

binary_row : (k : BinKind) → row.Binary k ≡ the_row (lookup words (binary_spelling k))
binary_row Addi = refl
binary_row k = refl

conversion_row : (k : ConvKind) → row.Convert k ≡ the_row (lookup words (conversion_spelling k))
conversion_row Extsi = refl
conversion_row k = refl

named_row : (k : NamedKind) → row.Named k ≡ the_row (lookup words (named_spelling k))
named_row Matmul = refl
named_row k = refl

-- ---- by kinds

pub binary_kind : (k : Kind) (b : BinKind) (w : Width) → k ≡ kind.Binary b w → row.Binary b ≡ op_row k
unfolding op_row
binary_kind k b w e = rw e (binary_row b)

pub conversion_kind : (k : Kind) (c : ConvKind) (from to : Width) → k ≡ kind.Convert c from to
    → row.Convert c ≡ op_row k
unfolding op_row
conversion_kind k c from to e = rw e (conversion_row c)

pub named_kind : (k : Kind) (n : NamedKind) → k ≡ kind.Named n → row.Named n ≡ op_row k
unfolding op_row
named_kind k n e = rw e (named_row n)
