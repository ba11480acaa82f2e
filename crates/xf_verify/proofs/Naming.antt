-- The names before an operation, and the operations whose values are visible.
use Rattle.std.proofs.Common.{◌≡◌, ℕ, List, [], ◌∷◌, ◌++◌, Bool, true, false, eqb, Option, None, refl, sym, ap, ◌∙◌}
use Rattle.std.specs.Prelude.{if◌then◌else◌, is_some, ◌||◌, ◌&&◌}
use Rattle.std.specs.Cmp.{nat_cmp_total, unsigned_tied}
use Rattle.std.specs.FinSet as set
use Rattle.std.proofs.lemmas.Bool.{eqb-true, eq-eqb, or_right}
use Rattle.xf_ir.specs.Tree.{Tree}
use Rattle.xf_ir.specs.Lists.{some}
use Rattle.xf_ir.specs.Placed.{Placed}
use Rattle.xf_verify.specs.declared.scope.Definition.{Definition}
use Rattle.xf_verify.specs.Visible.{Definitions, no_definitions, with_definition, without, has_types}
use Rattle.xf_verify.specs.Judged.{Names, names_behind}
use Rattle.xf_verify.proofs.Truths.{is_none_from}

-- each operation whose values are visible was named
abbrev pub Named : Definitions → Names → Type 0
Named ds names = (q : ℕ) → is_some (ds q) ≡ true → set.contains names q ≡ true

pub inserted : (s : Names) (k q : ℕ) → set.contains (set.insert s k) q ≡ (eqb q k || set.contains s q)
inserted s k q = set.contains-insert nat_cmp_total s k q ∙ ap (λ b. b || set.contains s q) (unsigned_tied q k)

pub kept : (s : Names) (k q : ℕ) → set.contains s q ≡ true → set.contains (set.insert s k) q ≡ true
kept s k q h = inserted s k q ∙ or_right (eqb q k) (set.contains s q) h

pub own_inserted : (s : Names) (k : ℕ) → set.contains (set.insert s k) k ≡ true
own_inserted s k = inserted s k k ∙ ap (λ b. b || set.contains s k) (eq-eqb k k refl)

pub kept_behind : (s : Names) (ps : List Placed) (q : ℕ) → set.contains s q ≡ true
    → set.contains (names_behind s ps) q ≡ true
kept_behind s [] q h = h
kept_behind s (p ∷ ps) q h = kept_behind (set.insert s p.tree.name.0) ps q (kept s p.tree.name.0 q h)

pub names_both : (s : Names) (ps qs : List Placed) → names_behind s (ps ++ qs) ≡ names_behind (names_behind s ps) qs
names_both s [] qs = refl
names_both s (p ∷ ps) qs = names_both (set.insert s p.tree.name.0) ps qs

-- a name that is new names no operation whose values are visible
pub new_undefined : (ds : Definitions) (names : Names) (n : ℕ) → Named ds names
    → set.contains names n ≡ false → ds n ≡ None
new_undefined ds names n h e = is_none_from (ds n) (λ s. sym e ∙ h n s)

pub named_kept : (ds : Definitions) (names : Names) (k : ℕ) → Named ds names → Named ds (set.insert names k)
named_kept ds names k h = λ q s. kept names k q (h q s)

pub none_named : (names : Names) → Named no_definitions names
none_named names = λ q s. absurd (cc)

entered_at : (b : Bool) (ds : Definitions) (names : Names) (n q : ℕ) (d : Option Definition) → Named ds names
    → set.contains names n ≡ true → eqb q n ≡ b → is_some (if b then d else ds q) ≡ true → set.contains names q ≡ true
entered_at true ds names n q d h e p s = ap (set.contains names) (eqb-true q n p) ∙ e
entered_at false ds names n q d h e p s = h q s

pub entered_named : (ds : Definitions) (names : Names) (n : ℕ) (d : Option Definition) → Named ds names
    → set.contains names n ≡ true → Named (with_definition n d ds) names
entered_named ds names n d h e = λ q s. entered_at (eqb q n) ds names n q d h e refl s

without_at : (b : Bool) (x : Option Definition) → is_some (if b then None else x) ≡ true → is_some x ≡ true
without_at true x h = absurd (cc)
without_at false x h = h

pub without_named : (ts : List Tree) (ds : Definitions) (names : Names) → Named ds names → Named (without ts ds) names
without_named ts ds names h = λ q s. h q (without_at (some (λ (t : Tree). has_types t.results && eqb q t.name.0) ts)
    (ds q) s)

pub left_named : (b : Bool) (ds : Definitions) (names : Names) (n : ℕ) → Named ds names
    → Named (if b then with_definition n None ds else ds) names
left_named true ds names n h = λ q s. h q (without_at (eqb q n) (ds q) s)
left_named false ds names n h = h
