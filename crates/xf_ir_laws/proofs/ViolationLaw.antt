-- A module is valid exactly where no operation breaks a rule.
use Rattle.std.proofs.Common.{◌≡◌, List, [], ◌∷◌, None, sym, subst}
use Rattle.std.specs.Prelude.{◌↔◌}
use Rattle.xf_ir.specs.declared.op.Module.{Module}
use Rattle.xf_ir.specs.Tree.{Regions, no_regions, region}
use Rattle.xf_ir.specs.Lists.{Each}
use Rattle.xf_ir.specs.Placed.{Holder, Placed, placed, root_holder, block_of, functions_of}
use Rattle.xf_ir.specs.Calls.{signatures, has_its_callee, has_short_chains}
use Rattle.xf_ir.specs.RuleBlocks.{has_its_regions, ends_its_blocks}
use Rattle.xf_ir.specs.RuleTypes.{has_its_types}
use Rattle.xf_ir.specs.RuleAttributes.{has_its_attributes, has_types_in_range}
use Rattle.xf_ir.specs.RuleLinalg.{has_its_maps, has_its_iterators, has_its_reduction, has_its_extents, fits_its_body}
use Rattle.xf_ir.specs.RuleSlices.{has_its_slices}
use Rattle.xf_ir.specs.Valid.{IsValid, FunctionsSee}
use Rattle.xf_ir.specs.Violations.{first_violation}
use Rattle.xf_ir.proofs.Lists.{each_map}
use Rattle.xf_ir.proofs.Root.{one_block}
use Rattle.xf_ir_laws.proofs.Obeys.{Passes, BlocksObey, blocks_obey, each_blocks}
use Rattle.xf_ir_laws.proofs.SeenTypes.{Known, functions_see, functions_known, root_seen, root_known}
use Rattle.xf_ir_laws.proofs.FirstBroken.{Local, no_violation, clean}

-- each operation keeps all local rules where each rule is kept by each
locals :
    (m : Module) (ps : List Placed) →
    Each (Passes has_its_regions) ps → Each (Passes ends_its_blocks) ps → Each Known ps
    → Each (Passes (has_its_types (signatures m))) ps →
    Each (Passes has_its_attributes) ps → Each (Passes (has_its_callee (signatures m))) ps
    → Each (Passes (has_short_chains (functions_of m))) ps →
    Each (Passes has_its_maps) ps → Each (Passes has_its_iterators) ps → Each (Passes has_its_reduction) ps
    → Each (Passes has_its_extents) ps →
    Each (Passes fits_its_body) ps → Each (Passes has_types_in_range) ps → Each (Passes has_its_slices) ps
    → Each (Local m) ps
locals m [] a b c d e f g h i j k l n o = tt
locals m (p ∷ ps) a b c d e f g h i j k l n o = (
  (a.0, (b.0, (c.0, (d.0, (e.0, (f.0, (g.0, (h.0, (i.0, (j.0, (k.0, (l.0, (n.0, (o.0, tt)))))))))))))),
  locals m ps a.1 b.1 c.1 d.1 e.1 f.1 g.1 h.1 i.1 j.1 k.1 l.1 n.1 o.1,
)

-- ---- visible operands

block_known : (h : Holder) (rs : Regions) → rs ≡ region [] (block_of rs) no_regions → FunctionsSee (block_of rs)
    → BlocksObey Known h rs
block_known h rs e s = subst (BlocksObey Known h) (sym e) (functions_known h (block_of rs) s, tt)

block_seen : (h : Holder) (rs : Regions) → rs ≡ region [] (block_of rs) no_regions → BlocksObey Known h rs
    → FunctionsSee (block_of rs)
block_seen h rs e k = (let b = subst (BlocksObey Known h) e k in functions_see h (block_of rs) b.0)

all_known : (m : Module) → IsValid m → Each Known (placed m)
all_known m v =
    let rs = m.root.regions in (
      root_known m.root.operands v.uses.root,
      each_blocks Known (root_holder m.root) rs (block_known
          (root_holder m.root) rs (one_block m.root.kind v.functions.root _ _ rs v.regions.0) v.uses.functions),
    )

-- ---- both ways

pub valid_clean : (m : Module) → IsValid m → first_violation m ≡ None
valid_clean m v =
    no_violation m v.names v.functions
    (locals m (placed m) v.regions v.blocks (all_known m v)
    v.types v.attributes v.callees v.chains v.maps v.iterators v.reductions v.extents v.bodies v.ranges v.slices)

pub clean_valid : (m : Module) → first_violation m ≡ None → IsValid m
clean_valid m h =
    let c = clean m h in
    let all = placed m in
    let L = Local m in
    let regions = each_map L (Passes has_its_regions) all (λ p l. l.0) c.local in
    let known = each_map L Known all (λ p l. l.1.1.0) c.local in
    let rs = m.root.regions in
    record {
      names = c.names;
      functions = c.functions;
      regions = regions;
      blocks = each_map L (Passes ends_its_blocks) all (λ p l. l.1.0) c.local;
      uses = record {
        root = root_seen m.root.operands known.0;
        functions = block_seen (root_holder m.root) rs (one_block m.root.kind c.functions.root _ _ rs regions.0)
            (blocks_obey Known (root_holder m.root) rs known.1);
      };
      types = each_map L (Passes (has_its_types (signatures m))) all (λ p l. l.1.1.1.0) c.local;
      attributes = each_map L (Passes has_its_attributes) all (λ p l. l.1.1.1.1.0) c.local;
      callees = each_map L (Passes (has_its_callee (signatures m))) all (λ p l. l.1.1.1.1.1.0) c.local;
      chains = each_map L (Passes (has_short_chains (functions_of m))) all (λ p l. l.1.1.1.1.1.1.0) c.local;
      maps = each_map L (Passes has_its_maps) all (λ p l. l.1.1.1.1.1.1.1.0) c.local;
      iterators = each_map L (Passes has_its_iterators) all (λ p l. l.1.1.1.1.1.1.1.1.0) c.local;
      reductions = each_map L (Passes has_its_reduction) all (λ p l. l.1.1.1.1.1.1.1.1.1.0) c.local;
      extents = each_map L (Passes has_its_extents) all (λ p l. l.1.1.1.1.1.1.1.1.1.1.0) c.local;
      bodies = each_map L (Passes fits_its_body) all (λ p l. l.1.1.1.1.1.1.1.1.1.1.1.0) c.local;
      ranges = each_map L (Passes has_types_in_range) all (λ p l. l.1.1.1.1.1.1.1.1.1.1.1.1.0) c.local;
      slices = each_map L (Passes has_its_slices) all (λ p l. l.1.1.1.1.1.1.1.1.1.1.1.1.1.0) c.local;
    }

pub valid_has_no_violation : (m : Module) → IsValid m ↔ (first_violation m ≡ None)
valid_has_no_violation m = (valid_clean m, clean_valid m)
