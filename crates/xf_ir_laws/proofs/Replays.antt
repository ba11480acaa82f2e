-- Edits one after another, and back.
use Rattle.std.proofs.Common.{◌≡◌, ℕ, ◌≤◌, List, [], ◌∷◌, ◌++◌, refl, sym, ap, ◌∙◌, subst, arith}
use Rattle.xf_ir.specs.declared.edit.Edit.{Edit}
use Rattle.xf_ir.specs.declared.edit.Edit.TheVariants.{Insert, Erase, ReplaceUses, Replace, Restore, Move, SetAttr}
use Rattle.xf_ir.specs.declared.op.Module.{Module}
use Rattle.xf_ir.specs.Tree.{Tree}
use Rattle.xf_ir.specs.Walk.{tree_names}
use Rattle.xf_ir.specs.Valid.{IsNamedOnce, SeesItsUses}
use Rattle.xf_ir.specs.Spots.{tree_put}
use Rattle.xf_ir.specs.Changes.{tree_changed, tree_attributed}
use Rattle.xf_ir.specs.Attributes.{attr_set}
use Rattle.xf_ir.specs.Edits.{tree_erased, tree_moved, edited, inverse_of, replayed, inverses_of, FitsEdit, FitEdits}
use Rattle.xf_ir_laws.proofs.NextAbove.{next_grows}
use Rattle.xf_ir_laws.proofs.InverseLaws.{leads_back}
use Rattle.xf_ir_laws.proofs.InverseFits.{named_at, sees_at, next_stays, inverse_fits}

-- ---- first some and then the others

pub replayed_parts : (m : Module) (es fs : List Edit) → replayed m (es ++ fs) ≡ replayed (replayed m es) fs
replayed_parts m [] fs = refl
replayed_parts m (e ∷ es) fs = replayed_parts (edited m e) es fs

fit_parts : (m : Module) (es fs : List Edit) → FitEdits m es → FitEdits (replayed m es) fs → FitEdits m (es ++ fs)
fit_parts m [] fs h k = k
fit_parts m (e ∷ es) fs h k = (h.0, fit_parts (edited m e) es fs h.1 k)

-- ---- after an edit that fits

named_after : (m : Module) (e : Edit) → FitsEdit m e → IsNamedOnce (edited m e)
named_after m (Insert tree at) f = f.names
named_after m (Erase name) f = f.names
named_after m (ReplaceUses changes) f = f.names
named_after m (Replace name by changes) f = f.names
named_after m (Restore tree at by changes) f = f.names
named_after m (Move name to) f = f.names
named_after m (SetAttr name key value) f = f.names

sees_after : (m : Module) (e : Edit) → FitsEdit m e → SeesItsUses (edited m e)
sees_after m (Insert tree at) f = f.uses
sees_after m (Erase name) f = f.uses
sees_after m (ReplaceUses changes) f = f.uses
sees_after m (Replace name by changes) f = f.uses
sees_after m (Restore tree at by changes) f = f.uses
sees_after m (Move name to) f = f.uses
sees_after m (SetAttr name key value) f = f.uses

-- ---- a module of the same tree with a higher next name

same_root : (m m' : Module) (e : Edit) → m.root ≡ m'.root → (edited m e).root ≡ (edited m' e).root
same_root m m' (Insert tree at) r = ap (tree_put at tree) r
same_root m m' (Erase name) r = ap (tree_erased name) r
same_root m m' (ReplaceUses changes) r = ap (tree_changed changes) r
same_root m m' (Replace name by changes) r = ap (λ t. tree_erased name (tree_changed changes t)) r
same_root m m' (Restore tree at by changes) r = ap (λ t. tree_changed changes (tree_put at tree t)) r
same_root m m' (Move name to) r = ap (tree_moved name to) r
same_root m m' (SetAttr name key value) r = ap (tree_attributed name (attr_set key value)) r

module _ (root : Tree) (a b : ℕ) (grows : a ≤ b) where
  abbrev low : Module
  low = record { root = root; next = a }

  abbrev high : Module
  high = record { root = root; next = b }

  higher : (e : Edit) → (edited low e).next ≤ (edited high e).next
  higher (Insert tree at) = next_grows a b (tree_names tree) grows
  higher (Erase name) = grows
  higher (ReplaceUses changes) = grows
  higher (Replace name by changes) = grows
  higher (Restore tree at by changes) = grows
  higher (Move name to) = grows
  higher (SetAttr name key value) = grows

  named : (e : Edit) → FitsEdit low e → IsNamedOnce (edited high e)
  named e f = named_at (edited low e) (edited high e) (same_root high low e refl) (higher e) (named_after low e f)

  sees : (e : Edit) → FitsEdit low e → SeesItsUses (edited high e)
  sees e f = sees_at (edited low e) (edited high e) (same_root high low e refl) (sees_after low e f)

  raised : (e : Edit) → FitsEdit low e → FitsEdit high e
  raised (Insert tree at) f =
      record { fresh = f.fresh; spot = f.spot; names = named (Insert tree at) f; uses = sees (Insert tree at) f }
  raised (Erase name) f =
      record { tree = f.tree; inside = f.inside; names = named (Erase name) f; uses = sees (Erase name) f }
  raised (ReplaceUses changes) f =
      record { places = f.places; names = named (ReplaceUses changes) f; uses = sees (ReplaceUses changes) f }
  raised (Replace name by changes) f = record {
    tree = f.tree;
    inside = f.inside;
    values = f.values;
    places = f.places;
    replaced = f.replaced;
    names = named (Replace name by changes) f;
    uses = sees (Replace name by changes) f;
  }
  raised (Restore tree at by changes) f = record {
    fresh = f.fresh;
    spot = f.spot;
    values = f.values;
    places = f.places;
    restored = f.restored;
    names = named (Restore tree at by changes) f;
    uses = sees (Restore tree at by changes) f;
  }
  raised (Move name to) f = record {
    tree = f.tree;
    inside = f.inside;
    spot = f.spot;
    names = named (Move name to) f;
    uses = sees (Move name to) f;
  }
  raised (SetAttr name key value) f = record {
    tree = f.tree;
    found = f.found;
    sorted = f.sorted;
    names = named (SetAttr name key value) f;
    uses = sees (SetAttr name key value) f;
  }

-- what fits a module fits another of the same tree whose next name is no lower
fits_higher : (m m' : Module) (e : Edit) → m.root ≡ m'.root → m.next ≤ m'.next → FitsEdit m e → FitsEdit m' e
fits_higher m m' e r n f =
    let f' : FitsEdit (record { root = m'.root; next = m.next }) e =
    subst (λ t. FitsEdit (record { root = t; next = m.next }) e) r f in
    raised m'.root m.next m'.next n e f'

-- ---- back

-- after the inverses, each of which fits, the tree is the first one, and the next name has not fallen
pub record LeadBack (m : Module) (es : List Edit) : Type 0 where
  pub fit : FitEdits (replayed m es) (inverses_of m es)
  pub root : (replayed (replayed m es) (inverses_of m es)).root ≡ m.root
  pub next : m.next ≤ (replayed (replayed m es) (inverses_of m es)).next

pub lead_back : (m : Module) (es : List Edit) → IsNamedOnce m → SeesItsUses m → FitEdits m es → LeadBack m es
lead_back m [] v u h = record { fit = tt; root = refl; next = omega arith }
lead_back m (e ∷ es) v u h =
    let now = edited m e in
    let rest = lead_back now es (named_after m e h.0) (sees_after m e h.0) h.1 in
    let last = replayed now es in
    let back = replayed last (inverses_of now es) in
    let inverse = inverse_of m e in
    let fits : FitsEdit back inverse =
    fits_higher now back inverse (sym rest.root) rest.next (inverse_fits m e v u h.0) in
    let q = replayed_parts last (inverses_of now es) (inverse ∷ []) in
    let n = next_stays m e h.0 in
    let k = next_stays back inverse fits in record {
      fit = fit_parts last (inverses_of now es) (inverse ∷ []) rest.fit (fits, tt);
      root = ap (λ (x : Module). x.root) q ∙ same_root back now inverse rest.root ∙ leads_back m e v h.0;
      next = subst (λ (x : Module). m.next ≤ x.next) (sym q) (omega (arith, n, rest.next, k));
    }
