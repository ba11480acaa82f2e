-- Attributes kept in a map by their names.
use Rattle.std.specs.Prelude.{ℕ, List, [], ◌∷◌, map, Option, Some, None, Bool, ◌||◌, if◌then◌else◌, is_some}
use Rattle.std.specs.BTreeMap.{BTreeMap, get_by}
use Rattle.std.specs.Cmp.Lexicographic.{slice_cmp}
use Rattle.std.specs.Ordering.{nat_cmp}
use Rattle.std.specs.Str.{bytes_eq}
use denote.Ref.{Bor}
use Rattle.xf_type.specs.declared.attribute.AttrValue.{AttrValue}
use Rattle.xf_lex.specs.declared.token.Token.{Token}
use Rattle.xf_ir.specs.declared.kind.Attr.{Attr}
use Rattle.xf_format.specs.declared.parts.AttrEntry.{AttrEntry}
use Rattle.xf_format.specs.Parts.{text_at}

abbrev pub attr_in : Bor (List ℕ) × AttrValue → Attr
attr_in e = record { name = e.0.now; value = e.1 }

-- the attributes of a map, in its order
abbrev pub attrs_in : List (Bor (List ℕ) × AttrValue) → List Attr
attrs_in es = map attr_in es

-- whether a map has a name
abbrev pub names_of : BTreeMap (Bor (List ℕ)) AttrValue → List ℕ → Bool
names_of m name = is_some (get_by (λ k. slice_cmp nat_cmp name k.now) m)

-- ---- names that stand twice

abbrev pub also : List ℕ → (List ℕ → Bool) → List ℕ → Bool
also name names other = bytes_eq name other || names other

-- the first attribute that has a name of one before it, or one of these
abbrev pub entries_twice : List Token → (List ℕ → Bool) → List AttrEntry → Option ℕ
entries_twice all names [] = None
entries_twice all names (e ∷ es) =
    if names (text_at all e.name) then Some e.name else entries_twice all (also (text_at all e.name) names) es
