-- Whether the lists of a tree are short, as a test.
use Rattle.std.specs.Prelude.{ℕ, ◌^◌, List, length, Some, Bool, true, ◌&&◌, nat_lt}
use Rattle.xf_type.specs.declared.attribute.AttrValue.{AttrValue}
use Rattle.xf_type.specs.declared.attribute.AttrValue.TheVariants as attr
use Rattle.xf_type.specs.declared.payload_type.PayloadType.{PayloadType}
use Rattle.xf_ir.specs.declared.kind.Attr.{Attr}
use Rattle.xf_ir.specs.declared.kind.Kind.{Kind}
use Rattle.xf_ir.specs.declared.kind.Kind.TheVariants as kind
use Rattle.xf_ir.specs.Bounds.{regions_length}
use Rattle.xf_ir.specs.Kinds.{returned_types}
use Rattle.xf_ir.specs.Lists.{every}
use Rattle.xf_ir.specs.Spots.{ops_length}
use Rattle.xf_ir.specs.Tree.{Ops, no_ops, op, Regions, no_regions, region, Tree}

abbrev pub is_few : ℕ → Bool
is_few count = nat_lt count (2 ^ 32)

abbrev pub is_short_text : AttrValue → Bool
is_short_text attr.Unit = true
is_short_text (attr.Int width bits) = true
is_short_text (attr.Text bytes) = is_few (length bytes)

abbrev pub is_short_attr : Attr → Bool
is_short_attr d = is_few (length d.name) && is_short_text d.value

abbrev pub has_short_symbol : Kind → Bool
has_short_symbol (kind.Module (Some symbol)) = is_few (length symbol)
has_short_symbol (kind.Func symbol private results) = is_few (length symbol)
has_short_symbol (kind.Call callee) = is_few (length callee)
has_short_symbol k = true

abbrev pub is_short_block : List PayloadType → Ops → Bool
is_short_block args ops = is_few (length args) && is_few (ops_length ops)

abbrev pub are_short_blocks : Regions → Bool
are_short_blocks no_regions = true
are_short_blocks (region args ops rest) = is_short_block args ops && are_short_blocks rest

abbrev pub has_short_attrs : Tree → Bool
has_short_attrs t = is_few (length t.attrs) && every is_short_attr t.attrs

abbrev pub has_few_values : Tree → Bool
has_few_values t = is_few (length t.operands) && is_few (length t.results)

abbrev pub has_short_regions : Tree → Bool
has_short_regions t = is_few (regions_length t.regions) && are_short_blocks t.regions

abbrev pub has_short_kind : Kind → Bool
has_short_kind k = has_short_symbol k && is_few (length (returned_types k))

abbrev pub has_short_lists : Tree → Bool
has_short_lists t = has_short_attrs t && (has_few_values t && (has_short_regions t && has_short_kind t.kind))

abbrev mutual
  pub are_short : Ops → Bool
  are_short no_ops = true
  are_short (op n k ds os ts rs rest) =
      has_short_lists (record { name = n; kind = k; attrs = ds; operands = os; results = ts; regions = rs })
      && (hold_short rs && are_short rest)

  pub hold_short : Regions → Bool
  hold_short no_regions = true
  hold_short (region args ops rest) = are_short ops && hold_short rest
