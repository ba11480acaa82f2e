-- Modules of the first form, as they are stored.
use Rattle.std.proofs.Common.{◌≡◌, ℕ, ◌^◌, ◌<◌, List, [], ◌∷◌, ◌++◌, length, Option, None, true, false, refl, sym, subst}
use Rattle.std.proofs.Common.{◌∙◌, arith}
use Rattle.std.specs.Prelude.{◌&&◌, map}
use Rattle.std.proofs.lemmas.Bool.{and_parts, false≢true}
use Rattle.xf_ir.specs.declared.kind.IteratorKind.{IteratorKind}
use Rattle.xf_ir.specs.Kinds.{is_generic}
use Rattle.xf_type.specs.declared.payload_type.PayloadType.{PayloadType}
use Rattle.xf_ir.specs.declared.name.OpName.{OpName}
use Rattle.xf_ir.specs.declared.name.ValueName.{ValueName}
use Rattle.xf_ir.specs.declared.kind.Attr.{Attr}
use Rattle.xf_ir.specs.declared.kind.Kind.{Kind}
use Rattle.xf_ir.specs.declared.kind.Kind.TheVariants as kind
use Rattle.xf_ir.specs.declared.op.Module.{Module}
use Rattle.xf_ir.specs.Calls.{Signatures, signatures}
use Rattle.xf_ir.specs.Lists.{Each, is_empty}
use Rattle.xf_ir.specs.Placed.{Typed, type_at, Holder, holder_of, Placed, place, ops_placed, regions_placed}
use Rattle.xf_ir.specs.Placed.{functions_placed, blocks_placed, placed, top, root_holder}
use Rattle.xf_ir.specs.Places.{inside, done}
use Rattle.xf_ir.specs.RuleTypes.{takes_gives, has_its_types}
use Rattle.xf_ir.specs.Tree.{Ops, no_ops, op, Regions, no_regions, region, Tree}
use Rattle.xf_type.specs.Equal.{same_types}
use Rattle.xf_ir.specs.Types.{have_types}
use Rattle.xf_ir.proofs.Lists.{each_both, each_map}
use Rattle.xf_printed.specs.Structured.{offsets_of, sizes_of, iterators_of}
use Rattle.xf_print_laws.specs.Stored.{AllBytes, IsShortIndex, HasShortProperties, IsStored}
use Rattle.xf_opt.specs.Form.{is_i32_at_most, is_step_kind, has_no_regions, is_step, are_steps}
use Rattle.xf_opt.specs.Form.{IsFirstForm}
use Rattle.xf_opt.proofs.FormParts.{empty, no_more, OneRegion, are_laid_out, parts}

-- ---- an operation of the function

-- a kind without offsets, sizes, maps and iterator types
record IsPlain (k : Kind) : Type 0 where
  offsets : offsets_of k ≡ []
  sizes : sizes_of k ≡ []
  iterators : iterators_of k ≡ []
  other : is_generic k ≡ false

plain_is_short : (t : Tree) → IsPlain t.kind → HasShortProperties t
plain_is_short t p = record {
  offsets = subst (Each IsShortIndex) (sym p.offsets) tt;
  sizes = subst (Each IsShortIndex) (sym p.sizes) tt;
  iterators = subst (λ (xs : List IteratorKind). length xs < 2 ^ 32) (sym p.iterators) (omega arith);
  types = λ e. absurd (false≢true (sym p.other ∙ e));
}

step_kind : (k : Kind) → is_step_kind k ≡ true → IsPlain k
step_kind kind.Return e = record { offsets = refl; sizes = refl; iterators = refl; other = refl }
step_kind (kind.Constant width bits) e =
    record { offsets = refl; sizes = refl; iterators = refl; other = refl }
step_kind (kind.Binary which width) e =
    record { offsets = refl; sizes = refl; iterators = refl; other = refl }
step_kind _ e = absurd cc

record StepParts (k : Kind) (ds : List Attr) (rs : Regions) : Type 0 where
  plain : IsPlain k
  bare : ds ≡ []
  leaf : rs ≡ no_regions

step_parts : (k : Kind) (ds : List Attr) (ts : List PayloadType) (rs : Regions) → is_step k ds ts rs ≡ true
    → StepParts k ds rs
step_parts k ds ts rs e =
    let p = and_parts (is_step_kind k) (is_empty ds && (is_i32_at_most ts && has_no_regions rs)) e in
    let q = and_parts (is_empty ds) (is_i32_at_most ts && has_no_regions rs) p.1 in
    let r = and_parts (is_i32_at_most ts) (has_no_regions rs) q.1 in
    record { plain = step_kind k p.0; bare = empty ds q.0; leaf = no_more rs r.1 }

-- ---- each operation where it stands

record IsSimple (p : Placed) : Type 0 where
  properties : HasShortProperties p.tree
  bytes : AllBytes p

steps_simple : (h : Holder) (env : Typed) (ops : Ops) → are_steps ops ≡ true → Each IsSimple (ops_placed h env ops)
steps_simple h env no_ops e = tt
steps_simple h env (op n k ds os ts rs rest) e =
    let p = and_parts (is_step k ds ts rs) (are_steps rest) e in
    let s = step_parts k ds ts rs p.0 in
    rw (s.bare, s.leaf) (
      record { properties = plain_is_short _ s.plain; bytes = tt },
      steps_simple h ((done n (length ts), ts) ∷ env) rest p.1,
    )

-- each has its types
abbrev AreTyped : Signatures → List Placed → Type 0
AreTyped sigs ps = Each (λ p. has_its_types sigs p ≡ true) ps

-- what takes nothing gives nothing
nothing_given : (os : List (Option PayloadType)) (ts : List PayloadType) → takes_gives [] [] os ts ≡ true → ts ≡ []
nothing_given os [] e = refl
nothing_given os (t ∷ ts) e = let p = (and_parts (have_types os []) (same_types (t ∷ ts) []) e).1 in absurd cc

function_placed : (h : Holder) (n : OpName) (symbol : List ℕ) (results : List PayloadType) (os : List ValueName)
    (args : List PayloadType) (ops : Ops) → are_steps ops ≡ true
    → Each IsSimple
    (functions_placed h (op n (kind.Func symbol false results) [] os [] (region args ops no_regions) no_ops))
function_placed h n symbol results os args ops s =
    let k = holder_of (kind.Func symbol false results) (map (type_at []) os) [] in
    let env : Typed = (inside n 0 (length args), args) ∷ [] in (
      record {
        properties = plain_is_short _
            (record { offsets = refl; sizes = refl; iterators = refl; other = refl });
        bytes = tt;
      },
      each_both IsSimple (ops_placed k env ops
          ++ []) [] (each_both IsSimple (ops_placed k env ops) [] (steps_simple k env ops s) tt) tt,
    )

blocks_placed_simply : (sigs : Signatures) (h : Holder) (n : OpName) (symbol : List ℕ) (results : List PayloadType)
    (os : List ValueName) (ts args : List PayloadType) (ops : Ops)
    → AreTyped sigs (blocks_placed h
    (region [] (op n (kind.Func symbol false results) [] os ts (region args ops no_regions) no_ops) no_regions))
    → are_steps ops ≡ true
    → Each IsSimple (blocks_placed h
    (region [] (op n (kind.Func symbol false results) [] os ts (region args ops no_regions) no_ops) no_regions))
blocks_placed_simply sigs h n symbol results os ts args ops typed s =
    let none = nothing_given (map (type_at []) os) ts typed.0 in
    let f : List PayloadType → Ops =
    λ us. op n (kind.Func symbol false results) [] os us (region args ops no_regions) no_ops in
    rw none (each_both IsSimple (functions_placed h (f [])) []
    (function_placed h n symbol results os args ops s) tt)

blocks_simple : (sigs : Signatures) (h : Holder) (rs : Regions) → OneRegion rs → AreTyped sigs (blocks_placed h rs)
    → Each IsSimple (blocks_placed h rs)
blocks_simple sigs h rs o typed =
    let f = o.function in
    let e = are_laid_out rs o in
    subst (λ (x : Regions). Each IsSimple (blocks_placed h x)) (sym e)
    (blocks_placed_simply sigs h f.name f.heads.symbol f.heads.results f.operands f.gives f.block.args f.block.ops
    (subst (λ (x : Regions). AreTyped sigs (blocks_placed h x)) e typed) f.block.steps)

module_plain : IsPlain (kind.Module None)
module_plain = record { offsets = refl; sizes = refl; iterators = refl; other = refl }

all_simple : (m : Module) → IsFirstForm m → Each IsSimple (placed m)
all_simple m f =
    let p = parts m f.shape in
    let typed : AreTyped (signatures m) (placed m) = f.valid.types in
    let symbol = p.symbol in
    let attributes = p.attributes in (
      record { properties = plain_is_short m.root (subst IsPlain (sym symbol) module_plain); bytes = rw attributes tt },
      blocks_simple (signatures m) (root_holder m.root) m.root.regions p.region typed.1,
    )

pub form_is_stored : (m : Module) → IsFirstForm m → IsStored m
form_is_stored m f = record {
  lists = f.lists;
  bytes = each_map IsSimple AllBytes (placed m) (λ p s. s.bytes) (all_simple m f);
  properties = each_map IsSimple (λ (p : Placed). HasShortProperties p.tree) (placed m) (λ p s. s.properties)
      (all_simple m f);
}
