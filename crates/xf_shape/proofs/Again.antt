-- What a tensor type's text means, and that it is one token.
use Rattle.std.proofs.Common.{◌≡◌, ◌<◌, ◌-◌, ◌^◌, ℕ, suc, List, [], ◌∷◌, ◌++◌, length, take}
use Rattle.std.proofs.Common.{Some, None, Bool, true, false, refl, sym, ap, ◌∙◌, arith, append_assoc, length-append}
use Rattle.std.specs.Prelude.{◌==◌, ◌||◌, nat_lt, min, codes}
use Rattle.std.specs.Fmt.{decimal}
use Rattle.std.specs.List.{list_all, flat_map}
use Rattle.std.proofs.lemmas.Bool.Decides.{nat_tests}
use Rattle.std.proofs.lemmas.Fmt.{decimal_is_IsNumeral}
use Rattle.std.proofs.lemmas.List.{take_at, drop_at}
use Rattle.xf_type.specs.Bytes.{is_digit, is_word_byte}
use Rattle.xf_type.specs.Spelling.{width_spelling}
use Rattle.xf_type.specs.declared.payload_type.Dim.{Dim}
use Rattle.xf_type.specs.declared.payload_type.Dim.TheVariants.{Fixed, Dynamic}
use Rattle.xf_type.specs.declared.payload_type.Shape.{Shape}
use Rattle.xf_type.specs.declared.payload_type.Width.{Width}
use Rattle.xf_type.specs.declared.payload_type.Width.TheVariants.{I1, I8, I16, I32, I64, Index}
use Rattle.xf_lex.specs.declared.token.TokenKind.TheVariants as kind
use Rattle.xf_lex.specs.declared.lexeme.Lexeme.TheVariants as front
use Rattle.xf_lex.specs.Bytes.{is_shape_byte}
use Rattle.xf_lex.specs.Lexemes.{token_at}
use Rattle.xf_lex.proofs.Stays.{AllPass, run_all, Digits, decimal_digits}
use Rattle.xf_shape.specs.Laws.{IsStoredDim, AreStored, ShapesAreReadAgain, ShapesStay, ShapesAreAscii}
use Rattle.xf_shape.specs.Shapes.{DimsFirst, extent_of, dim_first, dims_first, inside_marks, with_width}
use Rattle.xf_shape.specs.Widths.{lookup, widths}
use Rattle.xf_shape.specs.Written.{dim_text, shape_text}
use Rattle.xf_shape.proofs.Dimensions.{dim_is, dims_are, and_dims, dims_stop, dims_turn}
use Rattle.xf_shape.proofs.Passing.{pass_more, pass_both, all_pass}

-- ---- dimensions

pub least : (n : ℕ) → n < 2 ^ 32 → min n (2 ^ 32 - 1) ≡ n
least n lt = grind (arith, nat_tests)

extent_is : (n : ℕ) → n < 2 ^ 32 → extent_of (decimal n) ≡ n
extent_is n lt = let e = (decimal_is_IsNumeral n (omega (arith, lt))).1 in rw e (least n lt)

digit_no_query : (b : ℕ) → is_digit b ≡ true → (b == 63) ≡ false
digit_no_query b e = grind (arith, nat_tests)

-- digits and an x are a dimension
digits_again : (ds rest : List ℕ) → Digits ds
    → dim_first (ds ++ 120 ∷ rest) ≡ Some (dim_is (Fixed (extent_of ds)) rest)
digits_again [] rest d = absurd (let z = d.some in omega arith)
digits_again (b ∷ ds) rest d =
    let e = d.all.0 in
    let q = digit_no_query b e in
    let r = run_all is_digit ds (120 ∷ rest) d.all.1 refl in
    let t = take_at ds (120 ∷ rest) (length ds) refl in
    let u = drop_at ds (120 ∷ rest) (length ds) refl in
    rw (q, e, r, t, u) refl

dim_again : (d : Dim) (rest : List ℕ) → IsStoredDim d → Some (dim_is d rest) ≡ dim_first (dim_text d ++ rest)
dim_again Dynamic rest h = refl
dim_again (Fixed n) rest h =
    let e = extent_is n h in
    let a = append_assoc (decimal n) (codes "x") rest in
    let again = digits_again (decimal n) rest (decimal_digits n (omega (arith, h))) in
    sym (ap dim_first a ∙ again ∙ ap (λ k. Some (dim_is (Fixed k) rest)) e)

dims_again : (ds : List Dim) (rest : List ℕ) → AreStored ds → None ≡ dim_first rest
    → dims_first (flat_map dim_text ds ++ rest) ≡ dims_are ds rest
dims_again [] rest h e = dims_stop rest e
dims_again (d ∷ ds) rest h e =
    let more = flat_map dim_text ds ++ rest in
    ap dims_first (append_assoc (dim_text d) (flat_map dim_text ds) rest)
    ∙ dims_turn (dim_text d ++ more) d more (dim_again d more h.0)
    ∙ ap (and_dims d) (dims_again ds rest h.1 e)

-- ---- widths

no_dim : (w : Width) → None ≡ dim_first (width_spelling w)
no_dim I1 = refl
no_dim I8 = refl
no_dim I16 = refl
no_dim I32 = refl
no_dim I64 = refl
no_dim Index = refl

width_again : (w : Width) → lookup widths (width_spelling w) ≡ Some w
width_again I1 = refl
width_again I8 = refl
width_again I16 = refl
width_again I32 = refl
width_again I64 = refl
width_again Index = refl

-- ---- shapes

-- what stands between the marks
abbrev inside : Shape → List ℕ
inside s = flat_map dim_text s.dims ++ width_spelling s.elem

marked : (s : Shape) → shape_text s ≡ 60 ∷ (inside s ++ 62 ∷ [])
marked s =
    let a = append_assoc (flat_map dim_text s.dims) (width_spelling s.elem) (62 ∷ []) in
    ap (λ (bs : List ℕ). 60 ∷ bs) (sym a)

within_marks : (bs : List ℕ) → inside_marks (60 ∷ (bs ++ 62 ∷ [])) ≡ bs
within_marks bs =
    let l = length-append bs (62 ∷ []) in
    let e : suc (length (bs ++ 62 ∷ [])) - 2 ≡ length bs = omega (arith, l) in
    ap (λ n. take n (bs ++ 62 ∷ [])) e ∙ take_at bs (62 ∷ []) (length bs) refl

pub shapes_are_read_again : ShapesAreReadAgain
shapes_are_read_again s h =
    let i : inside_marks (shape_text s) ≡ inside s = ap inside_marks (marked s) ∙ within_marks (inside s) in
    let d = dims_again s.dims (width_spelling s.elem) h (no_dim s.elem) in
    let e = width_again s.elem in
    ap (λ bs. with_width (dims_first bs).dims (lookup widths (dims_first bs).rest)) i
    ∙ ap (λ (y : DimsFirst). with_width y.dims (lookup widths y.rest)) d
    ∙ ap (with_width s.dims) e

-- ---- one token, of ASCII

-- a byte of the text of a tensor type between its marks
abbrev is_written : ℕ → Bool
is_written b = is_word_byte b || (b == 63)

in_shape : (b : ℕ) → is_written b ≡ true → is_shape_byte b ≡ true
in_shape b e = grind (arith, nat_tests)

is_ascii : (b : ℕ) → is_written b ≡ true → nat_lt b 128 ≡ true
is_ascii b e = grind (arith, nat_tests)

digit_written : (b : ℕ) → is_digit b ≡ true → is_written b ≡ true
digit_written b e = grind (arith, nat_tests)

dim_written : (d : Dim) → IsStoredDim d → AllPass is_written (dim_text d)
dim_written Dynamic h = (refl, (refl, tt))
dim_written (Fixed n) h =
    let d = decimal_digits n (omega (arith, h)) in
    let digits = pass_more is_digit is_written digit_written (decimal n) d.all in
    pass_both is_written (decimal n) (codes "x") digits (refl, tt)

dims_written : (ds : List Dim) → AreStored ds → AllPass is_written (flat_map dim_text ds)
dims_written [] h = tt
dims_written (d ∷ ds) h =
    pass_both is_written (dim_text d) (flat_map dim_text ds) (dim_written d h.0) (dims_written ds h.1)

width_written : (w : Width) → AllPass is_written (width_spelling w)
width_written I1 = (refl, (refl, tt))
width_written I8 = (refl, (refl, tt))
width_written I16 = (refl, (refl, (refl, tt)))
width_written I32 = (refl, (refl, (refl, tt)))
width_written I64 = (refl, (refl, (refl, tt)))
width_written Index = (refl, (refl, (refl, (refl, (refl, tt)))))

inside_written : (s : Shape) → AreStored s.dims → AllPass is_written (inside s)
inside_written s h =
    let dims = dims_written s.dims h in
    pass_both is_written (flat_map dim_text s.dims) (width_spelling s.elem) dims (width_written s.elem)

marked_token : (bs rest : List ℕ) → AllPass is_shape_byte bs
    → token_at true (60 ∷ (bs ++ 62 ∷ rest)) ≡ front.Token kind.Shape (suc (suc (length bs)))
marked_token bs rest all =
    let r = run_all is_shape_byte bs (62 ∷ rest) all refl in
    let u = drop_at bs (62 ∷ rest) (length bs) refl in
    rw (r, u) refl

pub shapes_stay : ShapesStay
shapes_stay s rest h =
    let bs = inside s in
    let all = pass_more is_written is_shape_byte in_shape bs (inside_written s h) in
    let a = ap (λ (xs : List ℕ). 60 ∷ xs) (append_assoc bs (62 ∷ []) rest) in
    let text : shape_text s ++ rest ≡ 60 ∷ (bs ++ 62 ∷ rest) = ap (λ xs. xs ++ rest) (marked s) ∙ a in
    let l = length-append bs (62 ∷ []) in
    let size : length (shape_text s) ≡ suc (suc (length bs)) = ap length (marked s) ∙ omega (arith, l) in
    record {
      no_gap = refl;
      longest = ap (token_at true) text ∙ marked_token bs rest all ∙ ap (front.Token kind.Shape) (sym size);
    }

pub shapes_are_ascii : ShapesAreAscii
shapes_are_ascii s h =
    let bs = inside s in
    let is_low : ℕ → Bool = λ b. nat_lt b 128 in
    let low = pass_more is_written is_low is_ascii bs (inside_written s h) in
    let all = pass_both is_low bs (62 ∷ []) low (refl, tt) in
    ap (list_all is_low) (marked s) ∙ all_pass is_low (60 ∷ (bs ++ 62 ∷ [])) (refl, all)
