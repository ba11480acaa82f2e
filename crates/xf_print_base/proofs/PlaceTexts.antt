-- What the rules of slices write, as bytes.
use Rattle.std.proofs.Common.{◌≡◌, ℕ, ◌-◌, List, [], ◌∷◌, ◌++◌, length, take, drop, Bool, Option, Some}
use Rattle.std.proofs.Common.{None, refl, ap, subst, sym, ◌∙◌, ◌+◌}
use Rattle.std.specs.Prelude.{ℤ, pos, negsuc}
use Rattle.std.specs.Fmt.{signed_decimal}
use Rattle.std.proofs.Common.{append-nil, append_assoc}
use Rattle.xf_grammar.specs.Grammar.{begun, blank, gap_of, none, written}
use Rattle.xf_grammar.specs.Layout.{gap_text, text}
use Rattle.xf_format.specs.declared.row.Side.{Side}
use Rattle.xf_format.specs.Rules.{language, place_rule, stride_rule, use_rule}
use Rattle.xf_ir.specs.declared.kind.SliceIndex.{SliceIndex}
use Rattle.xf_ir.specs.declared.kind.SliceIndex.TheVariants.{Fixed, Dynamic}
use Rattle.xf_ir.specs.declared.name.ValueName.{ValueName}
use Rattle.xf_printed.specs.Items.{more_fill, operand_fill, rule_text}
use Rattle.xf_printed.specs.Names.{Names}
use Rattle.xf_printed.specs.Structured.{PlacePrinted, number, value, place_fill, places_printed, stride_fill}
use Rattle.xf_print_base.specs.Places.{behind_place, place_printed}
use Rattle.xf_print_base.proofs.Texts.{begins, items_go, list_text, more_text, rest_of}

number_text : (s : Side) (gap : Bool) (names : Names) (n : ℤ)
    → text (begun (gap_of gap) (written language (place_rule s) (place_fill names (number n))))
    ≡ gap_text (gap_of gap) ++ signed_decimal n
unfolding place_rule
number_text s gap names (pos n) = simp append-nil
number_text s gap names (negsuc n) = simp (append_assoc, append-nil)

pub value_text : (s : Side) (gap : Bool) (names : Names) (v : Option ValueName)
    → text (begun (gap_of gap) (written language (place_rule s) (place_fill names (value v))))
    ≡ rule_text (use_rule gap) (operand_fill names v)
unfolding place_rule use_rule
value_text s gap names None = refl
value_text s gap names (Some v) = refl

-- a number, behind a gap
pub number_goes : (s : Side) (gap : Bool) (names : Names) (p : SliceIndex) (n : ℤ) (vs : List ValueName)
    (line begin done : List ℕ) → p ≡ Fixed n → begin ≡ line ++ gap_text (gap_of gap) → done ≡ begin ++ signed_decimal n
    → done ≡ line ++ text (begun (gap_of gap) (written language (place_rule s) (place_fill names (place_printed p vs))))
number_goes s gap names p n vs line begin done is e f =
    rw (f, e, is) (append_assoc line (gap_text (gap_of gap)) (signed_decimal n)
    ∙ ap (λ x. line ++ x) (sym (number_text s gap names n)))

-- ---- lists of them

place_first : (s : Side) (names : Names) (p : PlacePrinted)
    → begun none (written language (place_rule s) (place_fill names p))
    ≡ written language (place_rule s) (place_fill names p)
unfolding place_rule use_rule
place_first s names (number (pos n)) = refl
place_first s names (number (negsuc n)) = refl
place_first s names (value None) = refl
place_first s names (value (Some v)) = refl

places_cons : (i : SliceIndex) (is : List SliceIndex) (vs : List ValueName)
    → places_printed (i ∷ is) vs ≡ place_printed i vs ∷ places_printed is (behind_place i vs)
places_cons (Fixed n) is vs = refl
places_cons Dynamic is vs = refl

-- the first of them
pub places_begin : (s : Side) (names : Names) (ps : List SliceIndex) (p : SliceIndex) (vs left : List ValueName)
    (line old : List ℕ) → ps ≡ p ∷ drop 1 ps → left ≡ behind_place p vs
    → line ≡ old ++ text (begun none (written language (place_rule s) (place_fill names (place_printed p vs))))
    → line ++ more_text (place_rule s) (place_fill names) (places_printed (take (length ps - 1) (drop 1 ps)) left)
    ≡ old ++ list_text (place_rule s) (place_fill names) (places_printed ps vs)
places_begin s names ps p vs left line old at l e =
    let rest : List PlacePrinted = places_printed (drop 1 ps) (behind_place p vs) in
    let all : places_printed ps vs ≡ place_printed p vs ∷ rest = ap (λ x. places_printed x vs) at
    ∙ places_cons p (drop 1 ps) vs in
    rw (rest_of ps p at, l, all) (begins (place_rule s) (place_fill names) (place_printed p vs) rest line old
    (place_first s names (place_printed p vs)) e)

-- and one more
pub places_go : (s : Side) (names : Names) (ps : List SliceIndex) (i : ℕ) (p : SliceIndex) (left left' : List ValueName)
    (line comma line' all item : List ℕ) → drop i ps ≡ p ∷ drop (i + 1) ps → left' ≡ behind_place p left
    → line ++ more_text (place_rule s) (place_fill names) (places_printed (drop i ps) left) ≡ all
    → comma ≡ line ++ 44 ∷ [] → line' ≡ comma ++ item
    → item ≡ text (begun blank (written language (place_rule s) (place_fill names (place_printed p left))))
    → line' ++ more_text (place_rule s) (place_fill names) (places_printed (drop (i + 1) ps) left') ≡ all
places_go s names ps i p left left' line comma line' all item at l e c f g =
    let rest : List PlacePrinted = places_printed (drop (i + 1) ps) (behind_place p left) in
    let here : places_printed (drop i ps) left ≡ place_printed p left ∷ rest = ap (λ x. places_printed x left) at
    ∙ places_cons p (drop (i + 1) ps) left in
    let q = subst (λ x. line ++ more_text (place_rule s) (place_fill names) x ≡ all) here e in
    rw l (items_go (written language (place_rule s)) (place_fill names (place_printed p left))
    (more_fill (place_fill names) rest) line comma line' all item q c f g)

-- ---- strides

pub stride_first : (p : SliceIndex)
    → begun none (written language stride_rule (stride_fill p)) ≡ written language stride_rule (stride_fill p)
unfolding stride_rule
stride_first p = refl
