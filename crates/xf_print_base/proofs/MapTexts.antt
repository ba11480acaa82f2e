-- What the rules of maps and iterator types write, as bytes.
use Rattle.std.proofs.Common.{◌≡◌, ℕ, zero, suc, ◌+◌, ◌-◌, ◌<◌, List, [], ◌∷◌, ◌++◌, Bool, true, false, length, take}
use Rattle.std.proofs.Common.{drop, codes, refl, ap, subst, sym, ◌∙◌}
use Rattle.std.proofs.Common.{append_assoc, append-nil, arith}
use Rattle.xf_grammar.specs.Grammar.{Fill, Spaced, begun, blank, gap_of, listed, none, written}
use Rattle.xf_grammar.specs.Layout.{gap_text, text}
use Rattle.xf_grammar.specs.Tokens.{close_paren}
use Rattle.xf_dense.specs.Nests.{close_bracket}
use Rattle.xf_type.specs.declared.attribute.AffineMap.{AffineMap}
use Rattle.xf_format.specs.declared.expected.Expected.{Expected}
use Rattle.xf_format.specs.declared.expected.Expected.TheVariants as due
use Rattle.xf_format.specs.declared.list.Item.{Item}
use Rattle.xf_format.specs.declared.list.Item.TheVariants as item
use Rattle.xf_format.specs.Rules.{dimension_rule, given_rule, item_rule, iterator_rule, kind_rule, language}
use Rattle.xf_format.specs.Rules.{map_form_rule}
use Rattle.xf_format.specs.Rules.{map_rule, maps_rule, until_rule}
use Rattle.xf_ir.specs.declared.kind.IteratorKind.{IteratorKind}
use Rattle.xf_ir.specs.declared.kind.IteratorKind.TheVariants.{Parallel, Reduction}
use Rattle.xf_printed.specs.Items.{more_fill, rule_text, some_fill, until_fill}
use Rattle.xf_printed.specs.Structured.{dimension_fill, dimensions, iterator_fill, map_fill, map_form_fill}
use Rattle.xf_printed.specs.Words.{dimension_text}
use Rattle.xf_print_base.proofs.Texts.{begins, items_go, list_begins, list_text, more_text, text_append, until_text}

-- ---- dimensions

pub dimension_begun : (gap : Bool) (k : ℕ)
    → gap_text (gap_of gap) ++ dimension_text k
    ≡ text (begun (gap_of gap) (written language dimension_rule (dimension_fill k)))
unfolding dimension_rule
dimension_begun gap k = sym (append-nil (gap_text (gap_of gap) ++ dimension_text k))

dimension_first : (k : ℕ)
    → begun none (written language dimension_rule (dimension_fill k))
    ≡ written language dimension_rule (dimension_fill k)
unfolding dimension_rule
dimension_first k = refl

pub given_begun : (gap : Bool) (k : ℕ)
    → gap_text (gap_of gap) ++ dimension_text k
    ≡ text (begun (gap_of gap) (written language given_rule (dimension_fill k)))
unfolding given_rule
given_begun gap k = sym (append-nil (gap_text (gap_of gap) ++ dimension_text k))

given_first : (k : ℕ)
    → begun none (written language given_rule (dimension_fill k)) ≡ written language given_rule (dimension_fill k)
unfolding given_rule
given_first k = refl

-- the first of those that a map gives
pub given_begin : (ks : List ℕ) (k : ℕ) (line old : List ℕ) → ks ≡ k ∷ drop 1 ks
    → line ≡ old ++ (gap_text none ++ dimension_text k)
    → line ++ more_text given_rule dimension_fill (take (length ks - 1) (drop 1 ks))
    ≡ old ++ list_text given_rule dimension_fill ks
given_begin ks k line old at e =
    list_begins given_rule dimension_fill ks k line old at (given_first k)
    (e ∙ ap (λ x. old ++ x) (given_begun false k))

pub no_dimensions : (n : ℕ) → n ≡ 0 → rule_text (listed dimension_rule) (some_fill dimension_fill (dimensions 0 n)) ≡ []
no_dimensions n e = rw e refl

-- the first of n, and the one with number k
pub dimensions_begin : (n : ℕ) (line old : List ℕ) → 0 < n → line ≡ old ++ (gap_text none ++ dimension_text 0)
    → line ++ more_text dimension_rule dimension_fill (dimensions 1 (n - 1))
    ≡ old ++ list_text dimension_rule dimension_fill (dimensions 0 n)
dimensions_begin zero line old lt e = absurd (omega (arith, lt))
dimensions_begin (suc n) line old lt e =
    let d : suc n - 1 ≡ n = omega arith in
    rw d (begins dimension_rule dimension_fill 0 (dimensions 1 n) line old (dimension_first 0)
    (e ∙ ap (λ x. old ++ x) (dimension_begun false 0)))

pub dimensions_go : (n k : ℕ) (line comma line' all : List ℕ) → k < n
    → line ++ more_text dimension_rule dimension_fill (dimensions k (n - k)) ≡ all
    → comma ≡ line ++ 44 ∷ [] → line' ≡ comma ++ (gap_text blank ++ dimension_text k)
    → line' ++ more_text dimension_rule dimension_fill (dimensions (k + 1) (n - (k + 1))) ≡ all
dimensions_go n k line comma line' all lt e c f =
    let d : n - k ≡ suc (n - suc k) = omega (arith, lt) in
    let q : suc k ≡ k + 1 = omega arith in
    let r = subst (λ x. line ++ more_text dimension_rule dimension_fill (dimensions k x) ≡ all) d e in
    rw (← q) (items_go (written language dimension_rule) (dimension_fill k)
    (more_fill dimension_fill (dimensions (suc k) (n - suc k))) line comma line' all _ r c f
    (dimension_begun true k))

-- ---- maps

-- items in parentheses, and what stands behind them
enclosed : {A : Type 0} (d : Expected) (i : Item) (fill : A → Fill) (xs : List A) (rest : List Spaced)
    → text (written language (until_rule close_paren d i) (until_fill close_paren fill xs) ++ rest)
    ≡ list_text (item_rule i) fill xs ++ (41 ∷ text rest)
enclosed d i fill xs rest =
    text_append (written language (until_rule close_paren d i) (until_fill close_paren fill xs)) rest
    ∙ (ap (λ x. x ++ text rest) (until_text close_paren d i fill xs)
    ∙ append_assoc (list_text (item_rule i) fill xs) (codes ")") (text rest))

form_text : (m : AffineMap) → rule_text map_form_rule (map_form_fill m)
    ≡ codes "<(" ++ (list_text dimension_rule dimension_fill (dimensions 0 m.dims) ++ (codes ") -> ("
    ++ (list_text given_rule dimension_fill m.results ++ codes ")>")))
unfolding map_form_rule kind_rule
form_text m =
    let dims : List ℕ = list_text dimension_rule dimension_fill (dimensions 0 m.dims) in
    ap (λ x. codes "<(" ++ x)
    (enclosed due.Other item.Dimension dimension_fill (dimensions 0 m.dims) _
    ∙ ap (λ x. dims ++ (codes ") -> (" ++ x)) (enclosed due.AfterMapResult item.Given dimension_fill m.results _))

pub map_text : (gap : Bool) (m : AffineMap)
    → text (begun (gap_of gap) (written language map_rule (map_fill m)))
    ≡ gap_text (gap_of gap) ++ (codes "affine_map<(" ++ (list_text dimension_rule dimension_fill (dimensions 0 m.dims)
    ++ (codes ") -> (" ++ (list_text given_rule dimension_fill m.results ++ codes ")>"))))
unfolding map_rule
map_text gap m =
    let form : List Spaced = written language map_form_rule (map_form_fill m) in
    ap (λ x. (gap_text (gap_of gap) ++ codes "affine_map") ++ x) (ap text (append-nil form) ∙ form_text m)
    ∙ append_assoc (gap_text (gap_of gap)) (codes "affine_map") _

pub map_first : (m : AffineMap)
    → begun none (written language map_rule (map_fill m)) ≡ written language map_rule (map_fill m)
unfolding map_rule
map_first m = refl

pub maps_text : (ms : List AffineMap)
    → rule_text maps_rule (until_fill close_bracket map_fill ms)
    ≡ rule_text (listed map_rule) (some_fill map_fill ms) ++ codes "]"
unfolding maps_rule kind_rule
maps_text [] = refl
maps_text (m ∷ ms) = text_append (written language (listed map_rule) (some_fill map_fill (m ∷ ms))) _

-- ---- iterator types

pub iterator_first : (k : IteratorKind)
    → begun none (written language iterator_rule (iterator_fill k)) ≡ written language iterator_rule (iterator_fill k)
unfolding iterator_rule
iterator_first Parallel = refl
iterator_first Reduction = refl
