-- What passes the test of short lists has short lists.
use Rattle.std.proofs.Common.{◌≡◌, ℕ, ◌^◌, ◌<◌, Bool, true, List, [], ◌∷◌, length, Some, None, refl, ap, sym, ◌∙◌}
use Rattle.std.proofs.Common.{arith}
use Rattle.std.specs.Prelude.{◌&&◌, nat_lt, IsTrue}
use Rattle.std.proofs.lemmas.Bool.{and_parts, ltb-true}
use Rattle.xf_type.specs.declared.attribute.AttrValue.{AttrValue}
use Rattle.xf_type.specs.declared.attribute.AttrValue.TheVariants as attr
use Rattle.xf_type.specs.declared.payload_type.PayloadType.{PayloadType}
use Rattle.xf_ir.specs.declared.kind.Attr.{Attr}
use Rattle.xf_ir.specs.declared.kind.Kind.{Kind}
use Rattle.xf_ir.specs.declared.kind.Kind.TheVariants as kind
use Rattle.xf_ir.specs.Bounds.{HasShortText, IsShortAttr, HasShortSymbol, regions_length, blocks_of, HasShortLists}
use Rattle.xf_ir.specs.Bounds.{OpsShort, RegionsShort, TreeIsShort}
use Rattle.xf_ir.specs.Kinds.{returned_types}
use Rattle.xf_ir.specs.Lists.{Each, every}
use Rattle.xf_ir.specs.RuleBlocks.{block_args}
use Rattle.xf_ir.specs.Spots.{ops_length}
use Rattle.xf_ir.specs.Tree.{Ops, no_ops, op, Regions, no_regions, region, Tree, Body}
use Rattle.xf_ir.specs.View.{ops_of, regions_of}
use Rattle.xf_ir.proofs.Found.{tree}
use Rattle.xf_ir.proofs.ShortLists.{long_regions, long_ops}
use Rattle.xf_tests.specs.Short.{is_few, is_short_text, is_short_attr, has_short_symbol, is_short_block}
use Rattle.xf_tests.specs.Short.{are_short_blocks, has_short_lists, are_short, hold_short}

-- ---- lists as the code has them

pub as_many_ops : (ts : List Tree) → nat_lt (length ts) 4294967296 ≡ nat_lt (ops_length (ops_of ts)) (2 ^ 32)
as_many_ops ts = ap (λ n. nat_lt n 4294967296) (sym (long_ops ts))

pub as_many_regions : (bs : List Body)
    → nat_lt (length bs) 4294967296 ≡ nat_lt (regions_length (regions_of bs)) (2 ^ 32)
as_many_regions bs = ap (λ n. nat_lt n 4294967296) (sym (long_regions bs))

-- ---- the lists of an operation

few : (n : ℕ) → is_few n ≡ true → n < 2 ^ 32
few n e = ltb-true n (2 ^ 32) e

text_is_short : (v : AttrValue) → is_short_text v ≡ true → HasShortText v
text_is_short attr.Unit e = tt
text_is_short (attr.Int width bits) e = tt
text_is_short (attr.Text bytes) e = few (length bytes) e

attrs_are_short : (ds : List Attr) → every is_short_attr ds ≡ true → Each IsShortAttr ds
attrs_are_short [] e = tt
attrs_are_short (d ∷ ds) e =
    let p = and_parts (is_short_attr d) (every is_short_attr ds) e in
    let q = and_parts (is_few (length d.name)) (is_short_text d.value) p.0 in
    ((few (length d.name) q.0, text_is_short d.value q.1), attrs_are_short ds p.1)

symbol_is_short : (k : Kind) → has_short_symbol k ≡ true → HasShortSymbol k
symbol_is_short (kind.Module None) e = tt
symbol_is_short (kind.Module (Some symbol)) e = few (length symbol) e
symbol_is_short (kind.Func symbol private results) e = few (length symbol) e
symbol_is_short (kind.Call callee) e = few (length callee) e
symbol_is_short k e = tt

blocks_are_short : (rs : Regions)
    → are_short_blocks rs ≡ true → Each (λ (ts : List PayloadType). length ts < 2 ^ 32) (block_args rs)
    × Each (λ ops. ops_length ops < 2 ^ 32) (blocks_of rs)
blocks_are_short no_regions e = (tt, tt)
blocks_are_short (region args ops rest) e =
    let p = and_parts (is_short_block args ops) (are_short_blocks rest) e in
    let q = and_parts (is_few (length args)) (is_few (ops_length ops)) p.0 in
    let r = blocks_are_short rest p.1 in
    ((few (length args) q.0, r.0), (few (ops_length ops) q.1, r.1))

lists_are_short : (t : Tree) → has_short_lists t ≡ true → HasShortLists t
lists_are_short t e =
    let p = and_parts (is_few (length t.attrs) && every is_short_attr t.attrs) _ e in
    let a = and_parts (is_few (length t.attrs)) (every is_short_attr t.attrs) p.0 in
    let q = and_parts (is_few (length t.operands) && is_few (length t.results)) _ p.1 in
    let b = and_parts (is_few (length t.operands)) (is_few (length t.results)) q.0 in
    let r = and_parts (is_few (regions_length t.regions) && are_short_blocks t.regions) _ q.1 in
    let c = and_parts (is_few (regions_length t.regions)) (are_short_blocks t.regions) r.0 in
    let d = and_parts (has_short_symbol t.kind) (is_few (length (returned_types t.kind))) r.1 in
    let blocks = blocks_are_short t.regions c.1 in
    record {
      attributes = few (length t.attrs) a.0;
      names = attrs_are_short t.attrs a.1;
      operands = few (length t.operands) b.0;
      results = few (length t.results) b.1;
      regions = few (regions_length t.regions) c.0;
      arguments = blocks.0;
      blocks = blocks.1;
      symbol = symbol_is_short t.kind d.0;
      returned = few (length (returned_types t.kind)) d.1;
    }

-- ---- all lists

mutual
  ops_are_short : (ops : Ops) → are_short ops ≡ true → OpsShort ops
  ops_are_short no_ops e = tt
  ops_are_short (op n k ds os ts rs rest) e =
      let p = and_parts (has_short_lists (tree n k ds os ts rs)) (hold_short rs && are_short rest) e in
      let q = and_parts (hold_short rs) (are_short rest) p.1 in
      (lists_are_short (tree n k ds os ts rs) p.0, (regions_are_short rs q.0, ops_are_short rest q.1))

  regions_are_short : (rs : Regions) → hold_short rs ≡ true → RegionsShort rs
  regions_are_short no_regions e = tt
  regions_are_short (region args ops rest) e =
      let p = and_parts (are_short ops) (hold_short rest) e in
      (ops_are_short ops p.0, regions_are_short rest p.1)

pub tree_is_short : (b c : Bool) (t : Tree) → b ≡ has_short_lists t → c ≡ hold_short t.regions → IsTrue (b && c)
    → TreeIsShort t
tree_is_short b c t d e h =
    let both : (b && c) ≡ true = true_is (b && c) h in
    let p = and_parts b c both in
    record { lists = lists_are_short t (sym d ∙ p.0); inside = regions_are_short t.regions (sym e ∙ p.1) }
  where
    true_is : (x : Bool) → IsTrue x → x ≡ true
    true_is true i = refl
    true_is x i = absurd cc
