-- The inverse of an edit leads back.
use Rattle.std.proofs.Common.{◌≡◌, true, sym, ap, ◌∙◌, subst}
use Rattle.std.specs.Prelude.{map}
use Rattle.xf_ir.specs.declared.edit.Edit.{Edit}
use Rattle.xf_ir.specs.declared.edit.Edit.TheVariants.{Insert, Erase, ReplaceUses, Replace, Restore, Move, SetAttr}
use Rattle.xf_ir.specs.declared.op.Module.{Module}
use Rattle.xf_ir.specs.Valid.{IsNamedOnce}
use Rattle.xf_ir.specs.Lists.{Once, is_among}
use Rattle.xf_ir.specs.Spots.{tree_put}
use Rattle.xf_ir.specs.Attributes.{attr_of, attr_set, attr_at}
use Rattle.xf_ir.specs.Changes.{tree_changed, turned, tree_attributed}
use Rattle.xf_ir.specs.Edits.{tree_erased, edited, inverse_of, FitsEdit}
use Rattle.xf_ir.proofs.Found.{found_name_regions}
use Rattle.xf_ir_laws.proofs.PutBack.{put_erased, erased_back, regions_located}
use Rattle.xf_ir_laws.proofs.MovedBack.{moved_back}
use Rattle.xf_ir_laws.proofs.SortedAttributes.{set_back}
use Rattle.xf_ir_laws.proofs.AttributedTrees.{tree_attributed_back}
use Rattle.xf_ir_laws.proofs.ChangeLemmas.{tree_names_changed, names_changed_regions, tree_changed_back}

pub leads_back : (m : Module) (e : Edit) → IsNamedOnce m → FitsEdit m e
    → (edited (edited m e) (inverse_of m e)).root ≡ m.root
leads_back m (Insert tree at) v f = put_erased at tree m.root f.fresh.0
leads_back m (Erase name) v f =
    let x =
    regions_located m.root.regions name m.root.name 0 (found_name_regions name f.tree m.root.regions f.inside) in
    rw x.1 (erased_back m.root name x.0 v.once x.1)
leads_back m (ReplaceUses changes) v f = tree_changed_back changes m.root v.once f.places.old
leads_back m (Replace name by changes) v f =
    let after = tree_changed changes m.root in
    let has = subst (λ ns. is_among name ns ≡ true) (sym (names_changed_regions changes m.root.regions))
    (found_name_regions name f.tree m.root.regions f.inside) in
    let x = regions_located after.regions name after.name 0 has in
    let once = subst Once (sym (tree_names_changed changes m.root)) v.once in
    rw x.1 (ap (tree_changed (map turned changes)) (erased_back after name x.0 once x.1)
    ∙ tree_changed_back changes m.root v.once f.places.old)
leads_back m (Restore tree at by changes) v f =
    let put = tree_put at tree m.root in
    let once = subst Once (tree_names_changed changes put) f.names.once in
    ap (tree_erased tree.name) (tree_changed_back changes put once f.places.old) ∙ put_erased at tree m.root f.fresh.0
leads_back m (Move name to) v f =
    let x =
    regions_located m.root.regions name m.root.name 0 (found_name_regions name f.tree m.root.regions f.inside) in
    rw x.1 (moved_back name to m.root f.tree v.once f.inside f.spot x.0 x.1)
leads_back m (SetAttr name key value) v f =
    let back = tree_attributed_back name (attr_set key value) (attr_set key (attr_of key f.tree.attrs))
    m.root f.tree v.once f.found (set_back key value f.tree.attrs f.sorted) in
    subst (λ o. tree_attributed name (attr_set key (attr_at key o)) (tree_attributed name (attr_set key value) m.root)
    ≡ m.root) (sym f.found) back
