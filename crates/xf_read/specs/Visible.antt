-- The names of a scope in the code, and how changes of it are taken back.
use Rattle.std.specs.Prelude.{◌≡◌, ℕ, List, [], ◌∷◌, ◌++◌, Option, if◌then◌else◌}
use Rattle.std.specs.BTreeMap.{get_by}
use Rattle.std.specs.Cmp.Lexicographic.{slice_cmp}
use Rattle.std.specs.Ordering.{nat_cmp}
use Rattle.std.specs.Str.{bytes_eq}
use Rattle.xf_read.specs.declared.scope.Hidden.{Hidden}
use Rattle.xf_read.specs.declared.scope.Named.{Named}
use Rattle.xf_read.specs.declared.scope.VisibleNames.{VisibleNames as Visible}
use Rattle.xf_read.specs.Scopes.{Meanings}

abbrev pub names_in : Visible → Meanings
names_in s name = get_by (λ k. slice_cmp nat_cmp name k.now) s.visible

-- the names where one stands for this
abbrev pub set_name : List ℕ → Option Named → Meanings → Meanings
set_name name x scope other = if bytes_eq name other then x else scope other

-- the names before one change
abbrev pub put_back : Hidden → Meanings → Meanings
put_back c = set_name c.name.now c.before

-- the names before some changes, the newest of which is the last
abbrev pub before : List Hidden → Meanings → Meanings
before [] scope = scope
before (c ∷ cs) scope = put_back c (before cs scope)

-- changes led from one scope to the other
pub record Grows (old new : Visible) : Type 0 where
  pub more : List Hidden
  pub changes : new.changes.items ≡ old.changes.items ++ more
  pub names : before more (names_in new) ≡ names_in old
