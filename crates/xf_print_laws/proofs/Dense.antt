-- The body of a dense constant: the machine of bodies takes in an operation what it takes alone, the printed bodies
-- are taken, and their tokens are ones that the lexer reads as themselves.
use Rattle.std.proofs.Common.{◌≡◌, ◌⊎◌, ℕ, suc, ◌*◌, ◌<◌, ◌≤◌, Bool, true, false, List, [], ◌∷◌, ◌++◌, length}
use Rattle.std.proofs.Common.{Option, Some, None, refl, sym, ap, subst, ◌∙◌, arith, inl, inr, zero}
use Rattle.std.specs.Prelude.{map, not, ◌&&◌, ◌==◌, nat_le, codes, ℤ, pos, negsuc}
use Rattle.std.specs.List.{list_any, list_all}
use Rattle.std.proofs.lemmas.Bool.{or_cases, eqb-true, leb-true}
use Rattle.std.proofs.lemmas.Bool.Decides.{nat_tests}
use Rattle.std.proofs.lemmas.List.{length-map}
use Rattle.xf_type.specs.declared.payload_type.Dim.{Dim}
use Rattle.xf_type.specs.declared.payload_type.Dim.TheVariants.{Fixed, Dynamic}
use Rattle.xf_type.specs.declared.payload_type.Shape.{Shape}
use Rattle.xf_type.specs.declared.payload_type.Width.{Width}
use Rattle.xf_type.specs.declared.payload_type.Width.TheVariants.{I1}
use Rattle.xf_type.specs.Integers.{signed_value}
use Rattle.xf_type.specs.Limits.{most_entries}
use Rattle.xf_grammar.specs.Apart.{Lexemes}
use Rattle.xf_grammar.specs.Tokens.{Terminal, the_end, terminal}
use Rattle.xf_grammar.specs.Grammar.{Step, ends, fails, goes, run_fits, run_tells, stops, step_fits, step_tells}
use Rattle.xf_grammar.specs.Grammar.{step_next, is_end, is_token, may_close}
use Rattle.xf_grammar.proofs.Basics.{and_is, both_true}
use Rattle.xf_dense.specs.declared.expected.Due.{Due}
use Rattle.xf_dense.specs.Actions.{Action as BodyAction, SaidBody, no_body_said}
use Rattle.xf_dense.specs.Actions as dense
use Rattle.xf_dense.specs.Fits.{fits_by, extents_fit, is_empty, may_be_empty, may_be, says_truth}
use Rattle.xf_dense.specs.Laws.{Accepts, nest_said}
use Rattle.xf_dense.specs.Machine as body
use Rattle.xf_dense.specs.Machine.{start}
use Rattle.xf_dense.specs.Nests.{LiteralToken, truth, Nest, Nests, leaf, list, last, next, literal_tokens}
use Rattle.xf_dense.specs.Nests.{nest_tokens, nests_tokens, leaves, nests_leaves}
use Rattle.xf_dense.specs.Printed.{literal_of, nest_of, element_count as count_of, AllPositive, signed_literal}
use Rattle.xf_dense.proofs.PrintedNests.{printed_even}
use Rattle.xf_dense.proofs.Reaching.{nest_is_read}
use Rattle.xf_format.specs.Actions.{Saying}
use Rattle.xf_format.specs.Parts.{Said, says_body}
use Rattle.xf_format.specs.Rules.{language}
use Rattle.xf_format.specs.Tests.{State, lifted, due_if}
use Rattle.xf_ir.specs.Lists.{Each, every, is_empty as no_items}
use Rattle.xf_ir.specs.RuleAttributes.{dense_fits, element_count, numbers_of, fits_bits}
use Rattle.xf_ir.specs.Types.{is_dynamic}
use Rattle.xf_ir.proofs.Lists.{each_left, each_right}
use Rattle.xf_printed.specs.Structured.{body_printed as body_tokens}
use Rattle.xf_print_laws.specs.SaidPrinted.{body_printed, extents_of}
use Rattle.xf_print_laws.proofs.LayoutTokens.{word_lexes, mark_lexes}
use Rattle.xf_print_laws.proofs.Signed.{roomy, Roomy}

-- ---- the machine in an operation

-- what a body says, in an operation that says so much
abbrev pub told : Said → dense.Saying → Saying
told d b = record { held = b.held; said = says_body b.said d }

next_same : (m : State) (s : Step BodyAction Due State) → step_next m (lifted s) ≡ step_next m s
next_same m ends = refl
next_same m (fails d) = refl
next_same m (goes gap keep n k) = refl

ends_same : (s : Step BodyAction Due State) → is_end (lifted s) ≡ is_end s
ends_same ends = refl
ends_same (fails d) = refl
ends_same (goes gap keep n k) = refl

closes_same : (d : Option Due) → may_close (due_if d) ≡ may_close d
closes_same None = refl
closes_same (Some d) = refl

stops_same : (m : State) (y : Terminal) → stops language m y ≡ stops body.language m y
stops_same m the_end = closes_same (body.close m)
stops_same m (terminal k bytes) = ends_same (body.step m (terminal k bytes))

module _ (d : Said) where
  fits_same : (s : Step BodyAction Due State) (x : Terminal) (b : dense.Saying)
      → step_fits language (lifted s) x (told d b) ≡ step_fits body.language s x b
  fits_same ends x b = refl
  fits_same (fails e) x b = refl
  fits_same (goes gap keep n None) x b = refl
  fits_same (goes gap true n (Some k)) x b = refl
  fits_same (goes gap false n (Some k)) x b = refl

  tells_same : (s : Step BodyAction Due State) (x : Terminal) (b : dense.Saying)
      → step_tells language (lifted s) x (told d b) ≡ told d (step_tells body.language s x b)
  tells_same ends x b = refl
  tells_same (fails e) x b = refl
  tells_same (goes gap true n None) x b = refl
  tells_same (goes gap false n None) x b = refl
  tells_same (goes gap true n (Some k)) x b = refl
  tells_same (goes gap false n (Some k)) x b = refl

  pub run_fits_same : (xs : List Terminal) (m : State) (y : Terminal) (b : dense.Saying)
      → run_fits language m xs y (told d b) ≡ run_fits body.language m xs y b
  run_fits_same [] m y b = stops_same m y
  run_fits_same (x ∷ xs) m y b =
      let s = body.step m x in
      let n = next_same m s in
      let f = fits_same s x b in
      let t = tells_same s x b in
      let later = run_fits_same xs (step_next m s) y (step_tells body.language s x b) in
      λ i. is_token x && (f i
      && (ap (λ p. run_fits language p xs y (step_tells language (lifted s) x (told d b))) n
      ∙ (ap (λ c. run_fits language (step_next m s) xs y c) t ∙ later)) i)

  pub run_tells_same : (xs : List Terminal) (m : State) (b : dense.Saying)
      → run_tells language m xs (told d b) ≡ told d (run_tells body.language m xs b)
  run_tells_same [] m b = refl
  run_tells_same (x ∷ xs) m b =
      let s = body.step m x in
      let n = next_same m s in
      let t = tells_same s x b in
      let later = run_tells_same xs (step_next m s) (step_tells body.language s x b) in
      ap (λ p. run_tells language p xs (step_tells language (lifted s) x (told d b))) n
      ∙ (ap (λ c. run_tells language (step_next m s) xs c) t ∙ later)

-- ---- the tokens of a body are lexemes

both_lex : (xs ys : List Terminal) → Lexemes xs → Lexemes ys → Lexemes (xs ++ ys)
both_lex [] ys p q = q
both_lex (x ∷ xs) ys p q = (p.0, both_lex xs ys p.1 q)

abbrev LiteralLexes : LiteralToken → Type 0
LiteralLexes x = Lexemes (literal_tokens x)

truth_lexes : (b : Bool) → LiteralLexes (truth b)
truth_lexes true = (word_lexes (codes "true") refl, tt)
truth_lexes false = (word_lexes (codes "false") refl, tt)

signed_lexes : (w : Width) (z : ℤ) → Roomy w z → LiteralLexes (signed_literal z)
signed_lexes w (pos n) r = (r.lex, tt)
signed_lexes w (negsuc n) r = (mark_lexes 45 refl, (r.lex, tt))

literal_lexes : (w : Width) (n : ℕ) → fits_bits w n ≡ true → LiteralLexes (literal_of w n)
literal_lexes I1 n f = truth_lexes (not (n == 0))
literal_lexes w n f = signed_lexes w (signed_value w n) (roomy w n f)

mutual
  nest_lexes : (t : Nest) → Each LiteralLexes (leaves t) → Lexemes (nest_tokens t)
  nest_lexes (leaf x) h = h.0
  nest_lexes (list items) h =
      (mark_lexes 91 refl, both_lex (nests_tokens items) _ (nests_lex items h) (mark_lexes 93 refl, tt))

  nests_lex : (ts : Nests) → Each LiteralLexes (nests_leaves ts) → Lexemes (nests_tokens ts)
  nests_lex (last t) h = nest_lexes t h
  nests_lex (next t ts) h =
      both_lex (nest_tokens t) _ (nest_lexes t (each_left LiteralLexes (leaves t) (nests_leaves ts) h))
      (mark_lexes 44 refl, nests_lex ts (each_right LiteralLexes (leaves t) (nests_leaves ts) h))

literals_lex : (w : Width) (ns : List ℕ) → every (fits_bits w) ns ≡ true → Each LiteralLexes (map (literal_of w) ns)
literals_lex w [] e = tt
literals_lex w (n ∷ ns) e =
    let p = both_true (fits_bits w n) _ e in (literal_lexes w n p.0, literals_lex w ns p.1)

-- ---- fixed shapes

abbrev AllFixed : List Dim → Type 0
AllFixed ds = every (λ d. not (is_dynamic d)) ds ≡ true

all_fixed : (ds : List Dim) → AllFixed ds → map Fixed (extents_of ds) ≡ ds
all_fixed [] e = refl
all_fixed (Fixed n ∷ ds) e = ap (λ xs. Fixed n ∷ xs) (all_fixed ds e)
all_fixed (Dynamic ∷ ds) e = absurd cc

same_count : (ds : List Dim) → AllFixed ds → count_of (extents_of ds) ≡ element_count ds
same_count [] e = refl
same_count (Fixed n ∷ ds) e = ap (λ c. n * c) (same_count ds e)
same_count (Dynamic ∷ ds) e = absurd cc

above_zero : (n : ℕ) → (suc n == 0) ≡ false
above_zero n = grind (arith, nat_tests)

-- no elements, or some
some_zero : (ds : List Dim) → AllFixed ds → element_count ds ≡ 0 → list_any may_be_empty ds ≡ true
some_zero [] e z = absurd (omega (arith, z))
some_zero (Fixed zero ∷ ds) e z = refl
some_zero (Fixed (suc n) ∷ ds) e z =
    let a = above_zero n in rw a (some_zero ds e (product_zero n (element_count ds) z))
  where
    product_zero : (n c : ℕ) → suc n * c ≡ 0 → c ≡ 0
    product_zero n zero z = refl
    product_zero n (suc c) z = absurd (grind (arith, z))
some_zero (Dynamic ∷ ds) e z = absurd cc

positive : (ds : List Dim) → AllFixed ds → 0 < element_count ds
    → AllPositive (extents_of ds) × (list_any is_empty ds ≡ false)
positive [] e p = (tt, refl)
positive (Fixed zero ∷ ds) e p = absurd (omega (arith, p))
positive (Fixed (suc n) ∷ ds) e p =
    let r = positive ds e (factor n (element_count ds) p) in
    let a = above_zero n in
    ((omega arith, r.0), rw a r.1)
  where
    factor : (n c : ℕ) → 0 < suc n * c → 0 < c
    factor n zero z = absurd (grind (arith, z))
    factor n (suc c) z = omega arith
positive (Dynamic ∷ ds) e p = absurd cc

own_extents : (ds : List Dim) → AllFixed ds → extents_fit ds (extents_of ds) ≡ true
own_extents [] e = refl
own_extents (Fixed n ∷ ds) e = and_is _ _ (grind arith) (own_extents ds e)
own_extents (Dynamic ∷ ds) e = absurd cc

-- truth values are those of i1
no_truth : (z : ℤ) → says_truth (signed_literal z) ≡ false
no_truth (pos n) = refl
no_truth (negsuc n) = refl

truth_fits : (w : Width) (n : ℕ) → may_be w (says_truth (literal_of w n)) ≡ true
truth_fits I1 n = refl
truth_fits w n = ap not (no_truth (signed_value w n))

truths_fit : (w : Width) (ns : List ℕ) → list_all (may_be w) (map says_truth (map (literal_of w) ns)) ≡ true
truths_fit w [] = refl
truths_fit w (n ∷ ns) = and_is _ _ (truth_fits w n) (truths_fit w ns)

-- ---- printed bodies

-- what is printed for the numbers of a shape: it is taken before a >, as what it says, which fits the shape, in tokens
-- that the lexer reads
pub record BodyGoes (shape : Shape) (ns : List ℕ) : Type 0 where
  pub accepts : Accepts (body_tokens shape ns) (body_printed shape ns)
  pub fits : fits_by (body_printed shape ns).extents (map says_truth (body_printed shape ns).literals) shape ≡ true
  pub lex : Lexemes (body_tokens shape ns)

-- how many numbers there are
counted_numbers : (c : ℕ) (ns : List ℕ) → numbers_of c ns ≡ true
    → ((c ≡ 0) × (no_items ns ≡ true)) ⊎ ((0 < c) × ((length ns ≡ 1) ⊎ (length ns ≡ c)))
counted_numbers zero ns e = inl (refl, e)
counted_numbers (suc c) ns e = let a = above_zero c in inr (
  omega arith,
  elim (or_cases (length ns == 1) _ (rw a at e)) [
    | inl one ↦ inl (eqb-true (length ns) 1 one)
    | inr all ↦ inr (eqb-true (length ns) (suc c) (both_true (length ns == suc c) _ all).0)
  ],
)

module _ (shape : Shape) where
  none_goes : AllFixed shape.dims → element_count shape.dims ≡ 0 → BodyGoes shape []
  none_goes f z = record {
    accepts = (refl, refl);
    fits = and_is _ _ (some_zero shape.dims f z) refl;
    lex = tt;
  }

  one_goes : (n : ℕ) → AllFixed shape.dims → 0 < element_count shape.dims → fits_bits shape.elem n ≡ true
      → BodyGoes shape (n ∷ [])
  one_goes n f p b =
      let e = (positive shape.dims f p).1 in
      record {
        accepts = nest_is_read (leaf (literal_of shape.elem n)) [] tt (omega arith);
        fits = and_is _ _ (ap not e) (truths_fit shape.elem (n ∷ []));
        lex = literal_lexes shape.elem n b;
      }

  -- nested lists have a level at least
  levels : (n m : ℕ) (ns : List ℕ) (ds : List Dim) → length (n ∷ m ∷ ns) ≡ element_count ds
      → nest_said (nest_of shape.elem (map Fixed (extents_of ds)) (n ∷ m ∷ ns)) (extents_of ds)
      ≡ record {
        literals = leaves (nest_of shape.elem (map Fixed (extents_of ds)) (n ∷ m ∷ ns));
        extents = Some (extents_of ds);
      }
  levels n m ns [] e = absurd (omega (arith, e))
  levels n m ns (Fixed k ∷ ds) e = refl
  levels n m ns (Dynamic ∷ ds) e = levels n m ns ds e

  many_go : (n m : ℕ) (ns : List ℕ) → AllFixed shape.dims → 0 < element_count shape.dims
      → length (n ∷ m ∷ ns) ≡ element_count shape.dims → length (n ∷ m ∷ ns) ≤ most_entries
      → every (fits_bits shape.elem) (n ∷ m ∷ ns) ≡ true → BodyGoes shape (n ∷ m ∷ ns)
  many_go n m ns f p c few b =
      let all = n ∷ m ∷ ns in
      let extents = extents_of shape.dims in
      let dims = all_fixed shape.dims f in
      let t = nest_of shape.elem (map Fixed extents) all in
      let even = printed_even shape.elem extents all (positive shape.dims f p).0 (c ∙ sym (same_count shape.dims f)) in
      let count : length (leaves t) ≡ length all = ap length even.1 ∙ length-map all (literal_of shape.elem) in
      let read = nest_is_read t extents even.0 (omega (arith, count, few)) in
      let says : nest_said t extents ≡ body_printed shape all = levels n m ns shape.dims c
      ∙ ap (λ ls. let b : SaidBody = record { literals = ls; extents = Some extents } in b) even.1 in
      let same : nest_tokens t ≡ body_tokens shape all = ap (λ ds. nest_tokens (nest_of shape.elem ds all)) dims in
      record {
        accepts = subst (λ xs. Accepts xs (body_printed shape all)) same (subst (Accepts (nest_tokens t)) says read);
        fits = and_is _ _ (own_extents shape.dims f) (truths_fit shape.elem all);
        lex = subst Lexemes same (nest_lexes t (subst (Each LiteralLexes) (sym even.1)
            (literals_lex shape.elem all b)));
      }

  pub body_goes : (ns : List ℕ) → dense_fits shape ns ≡ true → BodyGoes shape ns
  body_goes ns e =
      let f = both_true (every (λ d. not (is_dynamic d)) shape.dims) _ e in
      let c = both_true (nat_le (element_count shape.dims) 1048576) _ f.1 in
      let n = both_true (numbers_of (element_count shape.dims) ns) _ c.1 in
      let few = leb-true (element_count shape.dims) 1048576 c.0 in
      by ns f.0 few n.1 (counted_numbers (element_count shape.dims) ns n.0)
    where
      by : (ns : List ℕ) → AllFixed shape.dims → element_count shape.dims ≤ 1048576
          → every (fits_bits shape.elem) ns ≡ true
          → ((element_count shape.dims ≡ 0) × (no_items ns ≡ true))
          ⊎ ((0 < element_count shape.dims) × ((length ns ≡ 1) ⊎ (length ns ≡ element_count shape.dims)))
          → BodyGoes shape ns
      by [] f few b (inl z) = none_goes f z.0
      by [] f few b (inr p) = absurd (elim p.1 [ inl o ↦ omega (arith, o) | inr o ↦ omega (arith, o, p.0) ])
      by (n ∷ []) f few b (inl z) = absurd (let q = z.1 in cc)
      by (n ∷ []) f few b (inr p) = one_goes n f p.0 (both_true (fits_bits shape.elem n) _ b).0
      by (n ∷ m ∷ ns) f few b (inl z) = absurd (let q = z.1 in cc)
      by (n ∷ m ∷ ns) f few b (inr p) = elim p.1 [
        | inl o ↦ absurd (omega (arith, o))
        | inr o ↦ many_go n m ns f p.0 o (omega (arith, o, few)) b
      ]
