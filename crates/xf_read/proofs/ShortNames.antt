-- Names and strings of what is read are short.
use Rattle.std.proofs.Common.{◌≡◌, ℕ, ◌<◌, ◌^◌, true, List, [], ◌∷◌, length, Option, Some, None, Ordering, Less, Equal}
use Rattle.std.proofs.Common.{Greater, refl, arith}
use Rattle.std.specs.Prelude.{All, drop, map}
use Rattle.std.specs.Cmp.Lexicographic.{slice_cmp}
use Rattle.std.specs.Ordering.{nat_cmp, match_ordering}
use Rattle.std.proofs.lemmas.Bool.{leb-true}
use Rattle.std.proofs.lemmas.List.Elements.{All-head, All-tail}
use Rattle.xf_type.specs.Limits.{most_entries}
use Rattle.xf_lex.specs.declared.token.Token.{Token}
use Rattle.xf_lex.specs.declared.token.TokenKind.TheVariants as token_kind
use Rattle.xf_grammar.specs.Tokens.{Terminal, terminal, terminal_at}
use Rattle.xf_format.specs.declared.parts.AttrEntry.{AttrEntry}
use Rattle.xf_format.specs.declared.parts.EntryValue.{EntryValue}
use Rattle.xf_format.specs.declared.parts.EntryValue.TheVariants as value
use Rattle.xf_format.specs.declared.parts.Parts.{Parts}
use Rattle.xf_format.specs.declared.row.Row.{Row}
use Rattle.xf_format.specs.declared.row.Row.TheVariants as row
use Rattle.xf_format.specs.Tests.{is_symbol, is_name, is_string}
use Rattle.xf_format.specs.Parts.{text_of, value_said, entry_said, Said, said, LiteralSaid, truth, number, elements}
use Rattle.xf_format.specs.Strings.{decoded}
use Rattle.xf_read_base.specs.Structured.{no_aliases}
use Rattle.xf_read_base.specs.Values.{attr_value, attr_said, with_attr, with_said, constant_said, kind_said}
use Rattle.xf_ir.specs.declared.kind.Attr.{Attr}
use Rattle.xf_ir.specs.Lists.{Each}
use Rattle.xf_ir.specs.Bounds.{HasShortText, IsShortAttr, HasShortSymbol}
use Rattle.xf_format.proofs.OfKind.{SymbolOf, ValueOf, EntryOf, Inside}

-- ---- tokens

symbol_token : (x : Terminal) → is_symbol x ≡ true → length (drop 1 (text_of x)) < 2 ^ 32
symbol_token (terminal token_kind.Symbol bs) e = let le = leb-true (length (drop 1 bs)) most_entries e in omega
    (arith, le)
symbol_token x e = absurd cc

name_token : (x : Terminal) → is_name x ≡ true → length (text_of x) < 2 ^ 32
name_token (terminal token_kind.Word bs) e = let le = leb-true (length bs) most_entries e in omega (arith, le)
name_token x e = absurd cc

string_token : (x : Terminal) → is_string x ≡ true → length (decoded (text_of x)) < 2 ^ 32
string_token (terminal token_kind.Text bs) e = let le = leb-true (length (decoded bs)) most_entries e in omega
    (arith, le)
string_token x e = absurd cc

-- ---- attributes

value_short : (all : List Token) (v : EntryValue) → ValueOf all v → HasShortText (attr_value (value_said all v))
value_short all value.Unit w = tt
value_short all (value.Truth b) w = tt
value_short all (value.Integer negative at width) w = tt
value_short all (value.Text at) w = string_token (terminal_at all at) w

entry_short : (all : List Token) (e : AttrEntry) → EntryOf all e → IsShortAttr (attr_said (entry_said all e))
entry_short all e w = (name_token (terminal_at all e.name) w.0, value_short all e.value w.1)

pub by_order : {A : Type 0} (P : A → Type 0) (o : Ordering) (x y z : A) → P x → P y → P z → P (match_ordering o x y z)
by_order P Less x y z p q r = p
by_order P Equal x y z p q r = q
by_order P Greater x y z p q r = r

one_short : (a : Attr) (xs : List Attr) → IsShortAttr a → Each IsShortAttr xs → Each IsShortAttr (with_attr a xs)
one_short a [] s w = (s, tt)
one_short a (b ∷ bs) s w = by_order (Each IsShortAttr) (slice_cmp nat_cmp a.name b.name) _ _ _ (s, w)
    ((w.0.0, s.1), w.1) (w.0, one_short a bs s w.1)

pub entries_short : (all : List Token) (es : List AttrEntry) (xs : List Attr) → All (EntryOf all) es
    → Each IsShortAttr xs → Each IsShortAttr (with_said (map (entry_said all) es) xs)
entries_short all [] xs w s = s
entries_short all (e ∷ es) xs w s = entries_short all es (with_attr (attr_said (entry_said all e)) xs)
    (All-tail (EntryOf all) e es w) (one_short (attr_said (entry_said all e)) xs
    (entry_short all e (All-head (EntryOf all) e es w)) s)

-- ---- symbols

constant_short : (t : Said) (l : Option LiteralSaid) → HasShortSymbol (constant_said t.types t.dense l)
constant_short t None = tt
constant_short t (Some (truth b)) = tt
constant_short t (Some (number negative digits)) = tt
constant_short t (Some elements) = tt

kind_short : (all : List Token) (r : Row) (p : Parts) (s : Option ℕ) → p.symbol ≡ s → SymbolOf all s
    → HasShortSymbol (kind_said no_aliases r (said all p))
kind_short all row.Module p None e w = rw e tt
kind_short all row.Module p (Some at) e w = rw e (symbol_token (terminal_at all at) w)
kind_short all row.Function p None e w = rw e (omega arith)
kind_short all row.Function p (Some at) e w = rw e (symbol_token (terminal_at all at) w)
kind_short all row.Call p None e w = rw e (omega arith)
kind_short all row.Call p (Some at) e w = rw e (symbol_token (terminal_at all at) w)
kind_short all row.Constant p s e w = constant_short (said all p) (said all p).literal
kind_short all r p s e w = tt

pub symbol_short : (all : List Token) (r : Row) (p : Parts) → Inside all p → HasShortSymbol (kind_said no_aliases r (said all p))
symbol_short all r p w = kind_short all r p p.symbol refl w.symbol
