-- The walk judges what is placed.
use Rattle.std.proofs.Common.{◌≡◌, ℕ, suc, List, [], ◌∷◌, ◌++◌, length, Bool, true, eqb, refl, sym, ap, ◌∙◌, add-one}
use Rattle.std.specs.Prelude.{map, not, ◌&&◌, ◌||◌, nat_lt}
use Rattle.std.specs.FinSet as set
use Rattle.std.specs.Ordering.{nat_cmp}
use Rattle.xf_ir.specs.declared.name.OpName.{OpName}
use Rattle.xf_ir.specs.declared.kind.Kind.{Kind}
use Rattle.xf_ir.specs.declared.op.Module.{Module}
use Rattle.xf_ir.specs.Tree.{Ops, no_ops, op, Regions, no_regions, region}
use Rattle.xf_ir.specs.Lists.{is_among}
use Rattle.xf_ir.specs.Calls.{Signatures, signatures, chains_end, callee_ends, chain_ends}
use Rattle.xf_ir.specs.Places.{done, inside}
use Rattle.xf_ir.specs.Placed.{Typed, type_at, Holder, holder_of, Placed, place, ops_placed, regions_placed}
use Rattle.xf_ir.specs.Placed.{functions_placed, blocks_placed, top, root_holder, functions_of}
use Rattle.xf_ir.specs.declared.rule.Rule.TheVariants as rule
use Rattle.xf_ir.specs.Violations.{Kept, is_new_name, local_rules, rules_kept, first_false, broken_or, first_broken}
use Rattle.xf_ir.specs.Violations.{first_violation, holds_functions}
use Rattle.xf_ir.specs.Calls.{has_its_callee}
use Rattle.xf_ir.specs.RuleTypes.{has_its_types}
use Rattle.xf_ir.specs.RuleAttributes.{has_its_attributes}
use Rattle.xf_verify.specs.declared.facts.Facts.{Facts}
use Rattle.xf_verify.specs.Chains.{signatures_in, ends_in}
use Rattle.xf_verify.specs.Judged.{ops_stand, regions_stand, functions_stand, blocks_stand, stands, shape_rules}
use Rattle.xf_verify.specs.Judged.{linalg_rules, range_rules, rules_of, rules_behind, Names, is_new, first_behind}
use Rattle.xf_verify.proofs.Naming.{inserted}
use Rattle.xf_verify.proofs.Truths.{eqb_sym}

-- ---- the same operations

mutual
  ops_same : (h : Holder) (env : Typed) (ops : Ops) → ops_placed h env ops ≡ ops_stand h (type_at env) ops
  ops_same h env no_ops = refl
  ops_same h env (op n k ds os ts rs rest) =
      ap (λ (ps : List Placed). place h env
      (record { name = n; kind = k; attrs = ds; operands = os; results = ts; regions = rs }) rest ∷ ps)
      (ap (λ ps. ps ++ ops_placed h ((done n (length ts), ts) ∷ env) rest)
      (regions_same (holder_of k (map (type_at env) os) ts) env n 0 rs)
      ∙ ap (λ ps. regions_stand (holder_of k (map (type_at env) os) ts) (type_at env) n 0 rs
      ++ ps) (ops_same h ((done n (length ts), ts) ∷ env) rest))

  regions_same : (h : Holder) (env : Typed) (n : OpName) (i : ℕ) (rs : Regions)
      → regions_placed h env n i rs ≡ regions_stand h (type_at env) n i rs
  regions_same h env n i no_regions = refl
  regions_same h env n i (region args ops rest) =
      ap (λ ps. ps ++ regions_placed h env n (suc i) rest) (ops_same h ((inside n i (length args), args) ∷ env) ops)
      ∙ ap (λ ps. ops_stand h (type_at ((inside n i (length args), args) ∷ env)) ops
      ++ ps) (regions_same h env n (suc i) rest ∙ ap (λ k. regions_stand h (type_at env) n k rest) (sym (add-one i)))

functions_same : (h : Holder) (fs : Ops) → functions_placed h fs ≡ functions_stand h (type_at []) fs
functions_same h no_ops = refl
functions_same h (op n k ds os ts rs rest) =
    ap (λ (ps : List Placed).
    place h [] (record { name = n; kind = k; attrs = ds; operands = os; results = ts; regions = rs }) rest ∷ ps)
    (ap (λ ps. ps ++ functions_placed h rest) (regions_same (holder_of k (map (type_at []) os) ts) [] n 0 rs)
    ∙ ap (λ ps. regions_stand (holder_of k (map (type_at []) os) ts) (type_at []) n 0 rs ++ ps) (functions_same h rest))

pub blocks_same : (h : Holder) (rs : Regions) → blocks_placed h rs ≡ blocks_stand h (type_at []) rs
blocks_same h no_regions = refl
blocks_same h (region args ops rest) =
    ap (λ ps. ps ++ blocks_placed h rest) (functions_same h ops)
    ∙ ap (λ ps. functions_stand h (type_at []) ops ++ ps) (blocks_same h rest)

-- ---- the same rules

-- what is known of a module
pub record IsOf (m : Module) (f : Facts) : Type 0 where
  pub next : f.next ≡ m.next
  pub signatures_are : signatures_in f.calls ≡ signatures m
  pub ends_are : ends_in f.calls ≡ chains_end (functions_of m) 31

chain_kept : (m : Module) (f : Facts) → IsOf m f → (k : Kind)
    → callee_ends (ends_in f.calls) k ≡ chain_ends (functions_of m) k
chain_kept m f o k = ap (λ e. callee_ends e k) o.ends_are

abbrev rules_with : Signatures → Bool → Placed → List Kept
rules_with sigs ends p =
    shape_rules p
    ++ (((rule.Types, has_its_types sigs p) ∷ ((rule.Attributes, has_its_attributes p)
    ∷ ((rule.Callees, has_its_callee sigs p) ∷ ((rule.Chains, ends) ∷ []))))
    ++ (linalg_rules p ++ range_rules p))

rules_by : (s t : Signatures) → s ≡ t → (b c : Bool) → b ≡ c → (p : Placed) → rules_with s b p ≡ rules_with t c p
rules_by s t e b c h p = ap (λ x. rules_with x b p) e ∙ ap (λ x. rules_with t x p) h

pub local_same : (m : Module) (f : Facts) → IsOf m f → (p : Placed) → rules_of f p ≡ local_rules m p
local_same m f o p =
    rules_by (signatures_in f.calls) (signatures m) o.signatures_are (callee_ends (ends_in f.calls) p.tree.kind)
    (chain_ends (functions_of m) p.tree.kind) (chain_kept m f o p.tree.kind) p

-- ---- the same names

abbrev names_from : List OpName → Names
names_from [] = set.empty
names_from (n ∷ ns) = set.insert (names_from ns) n.0

among_same : (ns : List OpName) (n : OpName) → set.contains (names_from ns) n.0 ≡ is_among n ns
among_same [] n = set.contains-empty nat_cmp n.0
among_same (m ∷ ns) n = inserted (names_from ns) m.0 n.0
    ∙ ap (λ b. b || set.contains (names_from ns) n.0) (eqb_sym n.0 m.0) ∙ ap (λ b. eqb m.0 n.0 || b) (among_same ns n)

new_same : (m : Module) (f : Facts) → IsOf m f → (ns : List OpName) (n : OpName)
    → is_new f (names_from ns) n ≡ is_new_name m.next ns n
new_same m f o ns n =
    ap (λ b. not b && nat_lt n.0 f.next) (among_same ns n) ∙ ap (λ k. not (is_among n ns) && nat_lt n.0 k) o.next

-- ---- the same violation

abbrev rules_from : Bool → Bool → List Kept → List Kept
rules_from new functions more = (rule.Names, new) ∷ ((rule.Functions, functions) ∷ more)

behind_same : (m : Module) (f : Facts) → IsOf m f → (x : OpName) (ns : List OpName) (ps : List Placed)
    → first_broken m (x ∷ ns) ps ≡ first_behind f (names_from (x ∷ ns)) ps
behind_same m f o x ns [] = refl
behind_same m f o x ns (p ∷ ps) = sym (
    ap (λ bs. broken_or (first_false bs) p.tree.name (first_behind f (names_from (p.tree.name ∷ (x ∷ ns))) ps)) rules
    ∙ ap (broken_or (first_false (rules_kept m (x ∷ ns) p)) p.tree.name)
    (sym (behind_same m f o p.tree.name (x ∷ ns) ps)))
  where
    rules : rules_behind f (names_from (x ∷ ns)) p ≡ rules_kept m (x ∷ ns) p
    rules =
        ap (λ (b : Bool). rules_from b true (rules_of f p)) (new_same m f o (x ∷ ns) p.tree.name)
        ∙ ap (rules_from (is_new_name m.next (x ∷ ns) p.tree.name) true) (local_same m f o p)

-- where the root's name and its functions are right, the walk finds the first violation
pub walk_finds : (m : Module) (f : Facts) → IsOf m f → holds_functions m ≡ true → (names : Names) → names ≡ set.empty →
    first_behind f names (stands top (type_at []) m.root no_ops
    ∷ blocks_stand (root_holder m.root) (type_at []) m.root.regions) ≡ first_violation m
walk_finds m f o h names e =
    ap (λ x. first_behind f x (stands top (type_at []) m.root no_ops
    ∷ blocks_stand (root_holder m.root) (type_at []) m.root.regions)) e
    ∙ ap (λ bs. broken_or (first_false bs) m.root.name (first_behind f (names_from (m.root.name ∷ []))
    (blocks_stand (root_holder m.root) (type_at []) m.root.regions))) rules
    ∙ ap (broken_or (first_false (rules_kept m [] (place top [] m.root no_ops))) m.root.name)
    (ap (first_behind f (names_from (m.root.name ∷ []))) (sym (blocks_same (root_holder m.root) m.root.regions))
    ∙ sym (behind_same m f o m.root.name [] (blocks_placed (root_holder m.root) m.root.regions)))
  where
    rules : rules_behind f (names_from []) (place top [] m.root no_ops) ≡ rules_kept m [] (place top [] m.root no_ops)
    rules =
        ap (λ (b : Bool). rules_from b true (rules_of f (place top [] m.root no_ops))) (new_same m f o [] m.root.name)
        ∙ ap (λ (b : Bool).
        rules_from (is_new_name m.next [] m.root.name) b (rules_of f (place top [] m.root no_ops))) (sym h)
        ∙ ap (rules_from (is_new_name m.next [] m.root.name) (holds_functions m))
        (local_same m f o (place top [] m.root no_ops))
