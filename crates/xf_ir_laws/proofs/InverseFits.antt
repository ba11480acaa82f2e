-- The inverse of an edit fits the edited module.
use Rattle.std.proofs.Common.{◌≡◌, ℕ, ◌<◌, ◌≤◌, List, [], Option, Some, true, false, eqb, sym, ap, ◌∙◌, subst, arith}
use Rattle.std.specs.Prelude.{map}
use Rattle.xf_type.specs.declared.attribute.AttrValue.{AttrValue}
use Rattle.xf_ir.specs.declared.name.OpName.{OpName}
use Rattle.xf_ir.specs.declared.name.ValueName.{ValueName}
use Rattle.xf_ir.specs.declared.change.Change.{Change}
use Rattle.xf_ir.specs.declared.spot.Spot.{Spot}
use Rattle.xf_ir.specs.declared.spot.Located.{Located}
use Rattle.xf_ir.specs.declared.edit.Edit.{Edit}
use Rattle.xf_ir.specs.declared.edit.Edit.TheVariants.{Insert, Erase, ReplaceUses, Replace, Restore, Move, SetAttr}
use Rattle.xf_ir.specs.declared.op.Module.{Module}
use Rattle.xf_ir.specs.Tree.{Tree}
use Rattle.xf_ir.specs.Walk.{tree_names, regions_find, tree_find}
use Rattle.xf_ir.specs.Lists.{Each, Once, is_among}
use Rattle.xf_ir.specs.Places.{AllSeen}
use Rattle.xf_ir.specs.Valid.{IsNamedOnce, SeesItsUses, FunctionsSee, block_of}
use Rattle.xf_ir.specs.Spots.{tree_locate, tree_at_spot, spot_at, spot_or, tree_put, IsSpot}
use Rattle.xf_ir.specs.Changes.{tree_changed, turned, tree_attributed, FitsChanges}
use Rattle.xf_ir.specs.Attributes.{IsSortedByName, attr_set, attr_at}
use Rattle.xf_ir.specs.Defined.{is_defined_in}
use Rattle.xf_ir.specs.Edits.{edited, inverse_of, put_back, restore, next_above, IsReplaced, FitsValues, FitsInsert}
use Rattle.xf_ir.specs.Edits.{FitsErase, FitsReplaceUses, FitsReplace, FitsRestore, FitsMove, FitsSetAttr, FitsEdit}
use Rattle.xf_ir.proofs.Lists.{at_cases, each_map, each_part}
use Rattle.xf_ir.proofs.Found.{found_name_regions, found_named_regions}
use Rattle.xf_ir.proofs.SpotLemmas.{located_tree}
use Rattle.xf_ir_laws.proofs.PutBack.{erased_back, regions_located}
use Rattle.xf_ir_laws.proofs.MovedBack.{put_found_tree, moved_found, moved_left}
use Rattle.xf_ir_laws.proofs.SortedAttributes.{sorted_set}
use Rattle.xf_ir_laws.proofs.AttributedTrees.{find_attributed}
use Rattle.xf_ir_laws.proofs.ChangeLemmas.{on_found, tree_names_changed}
use Rattle.xf_ir_laws.proofs.ChangedPlaces.{each_mapped, each_two, find_changed, changes_turn}
use Rattle.xf_ir_laws.proofs.DefinedLemmas.{defined_changed, defined_put, defined_left}
use Rattle.xf_ir_laws.proofs.GoneTrees.{found_part, all_gone, spot_left}
use Rattle.xf_ir_laws.proofs.NextAbove.{next_same, next_rises}
use Rattle.xf_ir_laws.proofs.InverseLaws.{leads_back}

-- ---- names and uses of a module with the same tree

pub named_at : (m m' : Module) → m'.root ≡ m.root → m.next ≤ m'.next → IsNamedOnce m → IsNamedOnce m'
named_at m m' r n v = record {
  once = subst (λ (t : Tree). Once (tree_names t)) (sym r) v.once;
  below = subst (λ (t : Tree). Each (λ (x : OpName). x.0 < m'.next) (tree_names t)) (sym r)
      (each_map (λ (x : OpName). x.0 < m.next) (λ (x : OpName). x.0 < m'.next) (tree_names m.root) (λ x h. omega (
        arith,
        h,
        n,
      )) v.below);
}

pub sees_at : (m m' : Module) → m'.root ≡ m.root → SeesItsUses m → SeesItsUses m'
sees_at m m' r u = record {
  root = subst (λ (t : Tree). AllSeen [] t.operands) (sym r) u.root;
  functions = subst (λ (t : Tree). FunctionsSee (block_of t.regions)) (sym r) u.functions;
}

-- an operation that is found is found with its spot
located : (n : OpName) (root t : Tree) → regions_find n root.regions ≡ Some t
    → (x : Located) × ((tree_locate n root ≡ Some x) × (x.tree ≡ t))
located n root t h =
    let x = regions_located root.regions n root.name 0 (found_name_regions n t root.regions h) in
    let q : Some x.0.tree ≡ Some t = ap tree_at_spot (sym x.1) ∙ located_tree n root.name 0 root.regions ∙ h in
    (x.0, (x.1, cc))

-- ---- the next name does not fall

-- an edit that fits lowers it not
pub next_stays : (m : Module) (e : Edit) → FitsEdit m e → m.next ≤ (edited m e).next
next_stays m (Insert tree at) f =
    let p =
    found_part tree.name (tree_put at tree m.root).regions tree (put_found_tree at tree m.root f.spot f.fresh.0) in
    next_rises m.next (tree_names tree)
    (each_part (λ (x : OpName). x.0 < next_above m.next (tree_names tree)) p f.names.below.1)
next_stays m (Erase name) f = omega arith
next_stays m (ReplaceUses changes) f = omega arith
next_stays m (Replace name by changes) f = omega arith
next_stays m (Restore tree at by changes) f = omega arith
next_stays m (Move name to) f = omega arith
next_stays m (SetAttr name key value) f = omega arith

-- nor does its inverse
back_stays : (m : Module) (e : Edit) → IsNamedOnce m → FitsEdit m e
    → m.next ≤ (edited (edited m e) (inverse_of m e)).next
back_stays m (Insert tree at) v f = next_stays m (Insert tree at) f
back_stays m (Erase name) v f =
    let x = located name m.root f.tree f.inside in
    let p = found_part name m.root.regions f.tree f.inside in
    let s = subst (λ (t : Tree). next_above m.next (tree_names t) ≡ m.next) (sym x.1.1)
    (next_same m.next (tree_names f.tree) (each_part (λ (n : OpName). n.0 < m.next) p v.below.1)) in
    subst (λ o. m.next ≤ (edited (edited m (Erase name)) (put_back name o)).next) (sym x.1.0) (omega (arith, s))
back_stays m (ReplaceUses changes) v f = omega arith
back_stays m (Replace name by changes) v f =
    let after = tree_changed changes m.root in
    let found = find_changed changes name m.root.regions ∙ ap (on_found (tree_changed changes)) f.inside in
    let x = located name after (tree_changed changes f.tree) found in
    subst (λ o. m.next ≤ (edited (edited m (Replace name by changes)) (restore name by changes o)).next)
    (sym x.1.0) (omega arith)
back_stays m (Restore tree at by changes) v f = omega arith
back_stays m (Move name to) v f = omega arith
back_stays m (SetAttr name key value) v f = omega arith

-- so that after the inverse names occur once and each use is of a visible value
names_back : (m : Module) (e : Edit) → IsNamedOnce m → FitsEdit m e → IsNamedOnce (edited (edited m e) (inverse_of m e))
names_back m e v f = named_at m (edited (edited m e) (inverse_of m e)) (leads_back m e v f) (back_stays m e v f) v

uses_back : (m : Module) (e : Edit) → IsNamedOnce m → SeesItsUses m → FitsEdit m e
    → SeesItsUses (edited (edited m e) (inverse_of m e))
uses_back m e v u f = sees_at m (edited (edited m e) (inverse_of m e)) (leads_back m e v f) u

-- ---- each edit

module _ (m : Module) (v : IsNamedOnce m) (u : SeesItsUses m) where
  insert_back : (tree : Tree) (at : Spot) → FitsInsert m tree at → FitsErase (edited m (Insert tree at)) tree.name
  insert_back tree at f = record {
    tree = tree;
    inside = put_found_tree at tree m.root f.spot f.fresh.0;
    names = names_back m (Insert tree at) v f;
    uses = uses_back m (Insert tree at) v u f;
  }

  erase_back : (name : OpName) → FitsErase m name
      → FitsEdit (edited m (Erase name)) (put_back name (tree_locate name m.root))
  erase_back name f =
      let now = edited m (Erase name) in
      let x = located name m.root f.tree f.inside in
      subst (λ o. IsNamedOnce (edited now (put_back name o)) → SeesItsUses (edited now (put_back name o))
      → FitsEdit now (put_back name o)) (sym x.1.0)
      (λ n s. record {
        fresh = subst (λ (t : Tree). Each (λ k. is_among k (tree_names now.root) ≡ false) (tree_names t)) (sym x.1.1)
            (all_gone name m.root f.tree v.once f.inside);
        spot = spot_left name m.root x.0 v.once (found_name_regions name f.tree m.root.regions f.inside) x.1.0;
        names = n;
        uses = s;
      })
      (names_back m (Erase name) v f) (uses_back m (Erase name) v u f)

  uses_turned : (changes : List Change) → FitsReplaceUses m changes
      → FitsReplaceUses (edited m (ReplaceUses changes)) (map turned changes)
  uses_turned changes f = record {
    places = changes_turn changes m.root f.places;
    names = names_back m (ReplaceUses changes) v f;
    uses = uses_back m (ReplaceUses changes) v u f;
  }

  replace_back : (name : OpName) (by : List ValueName) (changes : List Change)
      → FitsReplace m name by changes → FitsEdit (edited m (Replace name by changes))
      (restore name by changes (tree_locate name (tree_changed changes m.root)))
  replace_back name by changes f =
      let now = edited m (Replace name by changes) in
      let after = tree_changed changes m.root in
      let gone = tree_changed changes f.tree in
      let once : Once (tree_names after) = subst Once (sym (tree_names_changed changes m.root)) v.once in
      let found : regions_find name after.regions ≡ Some gone = find_changed changes name m.root.regions
      ∙ ap (on_found (tree_changed changes)) f.inside in
      let x = located name after gone found in
      let values : FitsValues now.root gone by = record {
        count = f.values.count;
        defined = each_two (λ w. is_defined_in m.root w ≡ true) (λ w. is_defined_in f.tree w
            ≡ false) (λ w. is_defined_in now.root w ≡ true) by
            (λ w d g. defined_left name after gone w once found (defined_changed changes f.tree w
            ∙ g) (defined_changed changes m.root w ∙ d)) f.values.defined f.values.outside;
        outside = each_map (λ w. is_defined_in f.tree w ≡ false) (λ w. is_defined_in gone w
            ≡ false) by (λ w g. defined_changed changes f.tree w ∙ g) f.values.outside;
      } in
      let named : x.0.tree.name ≡ name = ap (λ (t : Tree). t.name) x.1.1
      ∙ found_named_regions name f.tree m.root.regions f.inside in
      subst (λ o. IsNamedOnce (edited now (restore name by changes o))
      → SeesItsUses (edited now (restore name by changes o))
      → FitsEdit now (restore name by changes o)) (sym x.1.0)
      (λ n s. record {
        fresh = subst (λ (t : Tree). Each (λ k. is_among k (tree_names now.root) ≡ false) (tree_names t)) (sym x.1.1)
            (all_gone name after gone once found);
        spot = spot_left name after x.0 once (found_name_regions name gone after.regions found) x.1.0;
        values = subst (λ (t : Tree). FitsValues now.root t by) (sym x.1.1) values;
        places = subst (λ t. FitsChanges t (map turned changes)) (sym (erased_back after name x.0 once x.1.0))
            (changes_turn changes m.root f.places);
        restored = each_mapped (λ (c : Change). IsReplaced x.0.tree.name by c.«new» c.old) turned changes
            (subst (λ k. Each (λ (c : Change). IsReplaced k by c.old c.«new») changes) (sym named) f.replaced);
        names = n;
        uses = s;
      })
      (names_back m (Replace name by changes) v f) (uses_back m (Replace name by changes) v u f)

  restore_back : (tree : Tree) (at : Spot) (by : List ValueName) (changes : List Change)
      → FitsRestore m tree at by changes
      → FitsReplace (edited m (Restore tree at by changes)) tree.name by (map turned changes)
  restore_back tree at by changes f =
      let put = tree_put at tree m.root in
      let after = tree_changed changes put in record {
        tree = tree_changed changes tree;
        inside = find_changed changes tree.name put.regions
            ∙ ap (on_found (tree_changed changes)) (put_found_tree at tree m.root f.spot f.fresh.0);
        values = record {
          count = f.values.count;
          defined = each_map (λ w. is_defined_in m.root w ≡ true) (λ w. is_defined_in after w
              ≡ true) by (λ w d. defined_changed changes put w ∙ defined_put at tree m.root w d) f.values.defined;
          outside = each_map (λ w. is_defined_in tree w ≡ false) (λ w. is_defined_in (tree_changed changes tree) w
              ≡ false) by (λ w g. defined_changed changes tree w ∙ g) f.values.outside;
        };
        places = changes_turn changes put f.places;
        replaced = each_mapped (λ (c : Change). IsReplaced tree.name by c.old c.«new») turned changes f.restored;
        names = names_back m (Restore tree at by changes) v f;
        uses = uses_back m (Restore tree at by changes) v u f;
      }

  move_back : (name : OpName) (to : Spot) → FitsMove m name to
      → FitsEdit (edited m (Move name to)) (Move name (spot_or to (spot_at (tree_locate name m.root))))
  move_back name to f =
      let now = edited m (Move name to) in
      let x = located name m.root f.tree f.inside in
      let spot = spot_left name m.root x.0 v.once (found_name_regions name f.tree m.root.regions f.inside) x.1.0 in
      subst (λ o. IsNamedOnce (edited now (Move name (spot_or to (spot_at o))))
      → SeesItsUses (edited now (Move name (spot_or to (spot_at o))))
      → FitsEdit now (Move name (spot_or to (spot_at o)))) (sym x.1.0)
      (λ n s. record {
        tree = f.tree;
        inside = moved_found name to m.root f.tree v.once f.inside f.spot;
        spot = subst (IsSpot x.0.spot) (sym (moved_left name to m.root f.tree v.once f.inside f.spot)) spot;
        names = n;
        uses = s;
      })
      (names_back m (Move name to) v f) (uses_back m (Move name to) v u f)

  set_back : (name : OpName) (key : List ℕ) (value : Option AttrValue) → FitsSetAttr m name key value
      → FitsSetAttr (edited m (SetAttr name key value)) name key (attr_at key (tree_find name m.root))
  set_back name key value f =
      let set = attr_set key value in
      record {
        tree = tree_attributed name set f.tree;
        found = find_attributed name set name m.root ∙ ap (on_found (tree_attributed name set)) f.found;
        sorted = at_cases (eqb f.tree.name.0 name.0) (set f.tree.attrs) f.tree.attrs IsSortedByName
            (λ _. sorted_set key value f.tree.attrs f.sorted) (λ _. f.sorted);
        names = names_back m (SetAttr name key value) v f;
        uses = uses_back m (SetAttr name key value) v u f;
      }

pub inverse_fits : (m : Module) (e : Edit) → IsNamedOnce m → SeesItsUses m → FitsEdit m e
    → FitsEdit (edited m e) (inverse_of m e)
inverse_fits m (Insert tree at) v u f = insert_back m v u tree at f
inverse_fits m (Erase name) v u f = erase_back m v u name f
inverse_fits m (ReplaceUses changes) v u f = uses_turned m v u changes f
inverse_fits m (Replace name by changes) v u f = replace_back m v u name by changes f
inverse_fits m (Restore tree at by changes) v u f = restore_back m v u tree at by changes f
inverse_fits m (Move name to) v u f = move_back m v u name to f
inverse_fits m (SetAttr name key value) v u f = set_back m v u name key value f
