-- Scopes that grow, and are taken back.
use Rattle.std.proofs.Common.{◌≡◌, ℕ, ◌≤◌, Bool, true, false, List, [], ◌∷◌, ◌++◌, length, take, drop, Option, Some}
use Rattle.std.proofs.Common.{refl, sym, ap, ◌∙◌, append_assoc}
use Rattle.std.proofs.lemmas.List.{drop-append-le}
use Rattle.std.proofs.Math.Seq.{drop-append_seam, take-append_seam}
use Rattle.std.proofs.lemmas.Slice.Eq.{bytes_eq-Decides}
use Rattle.std.specs.Prelude.{if◌then◌else◌}
use Rattle.std.specs.BTreeMap.{UpdatesBy}
use Rattle.std.specs.Cmp.Lexicographic.{slice_cmp}
use Rattle.std.specs.Ordering.{nat_cmp}
use Rattle.std.specs.Str.{bytes_eq}
use Rattle.std.proofs.lemmas.Map.Text.{btree_map_updates_str}
use Rattle.xf_read.specs.declared.scope.Hidden.{Hidden}
use Rattle.xf_read.specs.declared.scope.Named.{Named}
use Rattle.xf_read.specs.declared.scope.VisibleNames.{VisibleNames as Visible}
use Rattle.xf_read.specs.Scopes.{Meanings, beside, with_name}
use Rattle.xf_read.specs.Visible.{names_in, set_name, put_back, before, Grows}
use Rattle.xf_read.specs.Walks.{Same}

-- what an update of the map does to the names
pub updated : (name : List ℕ) (s t : Visible) (w : Option Named)
    → UpdatesBy (λ x y. slice_cmp nat_cmp x.now y.now) (λ k. slice_cmp nat_cmp name k.now) s.visible t.visible w
    → names_in t ≡ set_name name w (names_in s)
updated name s t w u = λ i q. btree_map_updates_str name s.visible t.visible w u q i

pub before_append : (cs ds : List Hidden) (scope : Meanings) → before (cs ++ ds) scope ≡ before cs (before ds scope)
before_append [] ds scope = refl
before_append (d ∷ cs) ds scope = ap (put_back d) (before_append cs ds scope)

-- a change of a name is taken back
undone_at : (name q : List ℕ) (x : Named) (scope : Meanings) (b : Bool) → bytes_eq name q ≡ b
    → (if b then scope name else (if b then Some (beside (scope name) x) else scope q)) ≡ scope q
undone_at name q x scope true e = ap scope ((bytes_eq-Decides name q).0 e)
undone_at name q x scope false e = refl

undone : (name : List ℕ) (x : Named) (scope : Meanings) (c : Hidden) → c.name.now ≡ name → c.before ≡ scope name
    → put_back c (with_name name x scope) ≡ scope
undone name x scope c p e = λ i q. let at : put_back c (with_name name x scope) q ≡ scope q =
    rw (p, e) (undone_at name q x scope (bytes_eq name q) refl) in at i

pub entered : (s t : Visible) (name : List ℕ) (x : Named) (c : Hidden) → t.changes.items ≡ s.changes.items ++ c ∷ []
    → c.name.now ≡ name → c.before ≡ names_in s name → names_in t ≡ with_name name x (names_in s) → Grows s t
entered s t name x c changes p e names = record {
  more = c ∷ [];
  changes = changes;
  names = ap (put_back c) names
      ∙ undone name x (names_in s) c p e;
}

-- ---- scopes that grow

pub grows_on : (s t u : Visible) → Grows s t → Grows t u → Grows s u
grows_on s t u g h = record {
  more = g.more ++ h.more;
  changes = h.changes ∙ ap (λ cs. cs ++ h.more) g.changes ∙ append_assoc s.changes.items g.more h.more;
  names = before_append g.more h.more (names_in u) ∙ ap (before g.more) h.names ∙ g.names;
}

pub grows_from : (s t u : Visible) → Same s t → Grows t u → Grows s u
grows_from s t u e g = record {
  more = g.more;
  changes = g.changes ∙ ap (λ cs. cs ++ g.more) e.changes;
  names = g.names ∙ e.names;
}

-- the last change is taken back
pub one_back : (h : ℕ) (cs ds : List Hidden) (c : Hidden) (f g total : Meanings) → ds ≡ cs ++ c ∷ [] → h ≤ length cs
    → g ≡ put_back c f → before (drop h ds) f ≡ total → before (drop h cs) g ≡ total
one_back h cs ds c f g total e le p more =
    rw p (sym (before_append (drop h cs) (c ∷ []) f) ∙ sym (ap (λ xs. before xs f) (drop-append-le h cs (c ∷ []) le))
    ∙ sym (ap (λ xs. before (drop h xs) f) e) ∙ more)

-- ---- scopes that are the same

pub same_on : (s t u : Visible) → Same s t → Same t u → Same s u
same_on s t u g h = record { names = h.names ∙ g.names; changes = h.changes ∙ g.changes }

-- a scope that grew, and then is taken back to as many changes as there were
pub back : (s t u v : Visible) (h : ℕ) → Grows s t → Same t u → h ≡ length s.changes.items
    → names_in v ≡ before (drop h u.changes.items) (names_in u) → v.changes.items ≡ take h u.changes.items → Same s v
back s t u v h g e k names changes =
    let all : u.changes.items ≡ s.changes.items ++ g.more = e.changes ∙ g.changes in
    record {
      names = names ∙ ap (λ cs. before cs (names_in u)) (rw (k, all) (drop-append_seam s.changes.items g.more))
          ∙ ap (before g.more) e.names ∙ g.names;
      changes = changes ∙ rw (k, all) (take-append_seam s.changes.items g.more);
    }
