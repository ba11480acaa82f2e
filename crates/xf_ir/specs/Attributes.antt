-- Discardable attributes by name, in the order of the bytes of their names (MLIR language reference: attributes).
use Rattle.std.specs.Prelude.{◌≡◌, ℕ, ◌+◌, List, [], ◌∷◌, Option, Some, None, Bool, true}
use Rattle.std.specs.Prelude.{false, ◌==◌, ◌&&◌, ◌||◌, nat_lt, if◌then◌else◌}
use Rattle.xf_type.specs.declared.attribute.AttrValue.{AttrValue}
use Rattle.xf_ir.specs.declared.kind.Attr.{Attr}
use Rattle.xf_ir.specs.Tree.{Tree}
use Rattle.xf_ir.specs.Lists.{Each, same_bytes}

-- whether bytes come before others: at the first place where they differ the smaller byte does, and a front of others
-- does
abbrev pub bytes_before : List ℕ → List ℕ → Bool
bytes_before [] [] = false
bytes_before [] (y ∷ ys) = true
bytes_before (x ∷ xs) [] = false
bytes_before (x ∷ xs) (y ∷ ys) = nat_lt x y || ((x == y) && bytes_before xs ys)

-- each attribute's name comes before those of all later ones, so each name stands once
abbrev pub IsSortedByName : List Attr → Type 0
IsSortedByName [] = Unit {0}
IsSortedByName (d ∷ ds) = Each (λ (e : Attr). bytes_before d.name e.name ≡ true) ds × IsSortedByName ds

-- the value of the first attribute of a name
abbrev pub attr_of : List ℕ → List Attr → Option AttrValue
attr_of key [] = None
attr_of key (d ∷ ds) = if same_bytes d.name key then Some d.value else attr_of key ds

-- without the attributes of a name
abbrev pub without_attr : List ℕ → List Attr → List Attr
without_attr key [] = []
without_attr key (d ∷ ds) = if same_bytes d.name key then without_attr key ds else d ∷ without_attr key ds

-- with an attribute before the first whose name does not come before its own
abbrev pub placed : Attr → List Attr → List Attr
placed d [] = d ∷ []
placed d (e ∷ es) = if bytes_before e.name d.name then e ∷ placed d es else d ∷ (e ∷ es)

-- how many attributes at the front have names that come before a name
abbrev pub names_before : List ℕ → List Attr → ℕ
names_before key [] = 0
names_before key (e ∷ es) = if bytes_before e.name key then names_before key es + 1 else 0

-- with an attribute of a name at its place, and no other of that name
abbrev pub with_attr : List ℕ → AttrValue → List Attr → List Attr
with_attr key v ds = placed (record { name = key; value = v }) (without_attr key ds)

-- with that value at a name, or without the name
abbrev pub attr_set : List ℕ → Option AttrValue → List Attr → List Attr
attr_set key None ds = without_attr key ds
attr_set key (Some v) ds = with_attr key v ds

-- the value at a name of an operation, where there is one
abbrev pub attr_at : List ℕ → Option Tree → Option AttrValue
attr_at key None = None
attr_at key (Some t) = attr_of key t.attrs
