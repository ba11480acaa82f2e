-- A token that the lexer reads as itself where nothing else stands is read so before whatever does not go on with it.
use Rattle.std.proofs.Common.{◌≡◌, inl, inr, ℕ, suc, ◌<◌, ◌≤◌, ◌^◌, Bool, true, false, List, [], ◌∷◌, ◌++◌, length}
use Rattle.std.proofs.Common.{take, drop, refl, sym, ap, subst, ◌∙◌, arith}
use Rattle.std.specs.Prelude.{◌&&◌, ◌||◌, ◌==◌, not, nat_lt}
use Rattle.std.specs.Str.Parse.{digits_value}
use Rattle.std.proofs.lemmas.Bool.{eqb-true}
use Rattle.std.proofs.lemmas.Bool.Decides.{nat_tests}
use Rattle.std.proofs.lemmas.List.{length-take, take-append-le, drop-append-le, take_at, take_all}
use Rattle.xf_type.specs.Bytes.{is_digit, is_letter, is_word_byte}
use Rattle.xf_lex.specs.declared.token.TokenKind.{TokenKind}
use Rattle.xf_lex.specs.declared.token.TokenKind.TheVariants as kind
use Rattle.xf_lex.specs.declared.lexeme.Lexeme.TheVariants as front
use Rattle.xf_lex.specs.Bytes.{is_name_start, is_name_byte, is_shape_byte, is_blank, is_mark, run, starts}
use Rattle.xf_lex.specs.Lexemes.{quoted_in, escaped_in, string_of, integer_of, named_at, token_at}
use Rattle.xf_lex.proofs.Stays.{Stops}
use Rattle.xf_grammar.specs.Apart.{goes_on, first_byte, in_mode}
use Rattle.xf_grammar.proofs.Basics.{true_or_false}

same_kind : {j k : TokenKind} {m n : ℕ} → front.Token j m ≡ front.Token k n → j ≡ k
same_kind e = cc

same_size : {j k : TokenKind} {m n : ℕ} → front.Token j m ≡ front.Token k n → m ≡ n
same_size e = cc

-- ---- how far a run of bytes goes

run_short : (p : ℕ → Bool) (bs : List ℕ) → run p bs ≤ length bs
run_short p [] = omega arith
run_short p (b ∷ bs) = let r = run_short p bs in
    elim (true_or_false (p b)) [ inl e ↦ rw e (omega arith) | inr e ↦ rw e (omega arith) ]

-- a run that ends before the end is the same before more
run_inside : (p : ℕ → Bool) (bs rest : List ℕ) → run p bs < length bs → run p (bs ++ rest) ≡ run p bs
run_inside p [] rest h = absurd (omega arith)
run_inside p (b ∷ bs) rest h = elim (true_or_false (p b)) [
  | inl e ↦ (let lt : run p bs < length bs = (let g = rw e at h in omega arith) in
      rw e (ap suc (run_inside p bs rest lt)))
  | inr e ↦ rw e refl
]

-- and a whole one, before what does not go on
run_whole : (p : ℕ → Bool) (bs rest : List ℕ) → run p bs ≡ length bs → Stops p rest → run p (bs ++ rest) ≡ length bs
run_whole p [] [] h stops = refl
run_whole p [] (c ∷ rest) h stops = rw stops refl
run_whole p (b ∷ bs) rest h stops = elim (true_or_false (p b)) [
  | inl e ↦ (let whole : run p bs ≡ length bs = (let g = rw e at h in omega arith) in
      rw e (ap suc (run_whole p bs rest whole stops)))
  | inr e ↦ absurd (let g = rw e at h in omega arith)
]

quoted_inside : (escaped : Bool) (bs rest : List ℕ) → quoted_in escaped bs < length bs
    → quoted_in escaped (bs ++ rest) ≡ quoted_in escaped bs
quoted_inside escaped [] rest h = absurd (omega arith)
quoted_inside escaped (b ∷ bs) rest h = elim (true_or_false ((b == 10) || (not escaped && (b == 34)))) [
  | inl e ↦ rw e refl
  | inr e ↦ (let lt : quoted_in (not escaped && (b == 92)) bs < length bs = (let g = rw e at h in omega arith) in
      rw e (ap suc (quoted_inside (not escaped && (b == 92)) bs rest lt)))
]

starts_more : (x : ℕ) (bs rest : List ℕ) → starts x bs ≡ true → starts x (bs ++ rest) ≡ true
starts_more x [] rest e = absurd cc
starts_more x (b ∷ bs) rest e = e

stops_more : (p q : ℕ → Bool) (rest : List ℕ) → ((b : ℕ) → p b ≡ false → q b ≡ false) → Stops p rest → Stops q rest
stops_more p q [] f h = tt
stops_more p q (b ∷ bs) f h = f b h

neither : (a b : Bool) → (a || b) ≡ false → (a ≡ false) × (b ≡ false)
neither true b e = absurd cc
neither false b e = (refl, e)

no_digit_behind_name : (rest : List ℕ) → Stops is_name_byte rest → Stops is_digit rest
no_digit_behind_name rest h = stops_more is_name_byte is_digit rest (λ b e. (neither _ _ e).1) h

no_digit_behind_word : (rest : List ℕ) → Stops is_word_byte rest → Stops is_digit rest
no_digit_behind_word rest h =
    stops_more is_word_byte is_digit rest
    (λ b e. (neither _ _ (neither _ _ e).0).1) h

-- ---- the cases of the lexer

abbrev pub Begins : TokenKind → ℕ → Type 0
Begins kind.Word b = is_letter b ≡ true
Begins kind.Integer b = is_digit b ≡ true
Begins k b = b ≡ first_byte k

-- the lexer reads these bytes as one token of a kind
abbrev Reads : Bool → TokenKind → ℕ → List ℕ → Type 0
Reads after k b bs = token_at after (b ∷ bs) ≡ front.Token k (suc (length bs))

-- and before whatever does not go on with it
abbrev pub Longest : TokenKind → ℕ → List ℕ → Type 0
Longest k b bs =
    (after : Bool) (rest : List ℕ) → in_mode after k ≡ true → Stops (goes_on k) rest
    → token_at after (b ∷ (bs ++ rest)) ≡ front.Token k (suc (length bs))

-- a token of these bytes is read before whatever does not go on with it
pub record Alone (k : TokenKind) (b : ℕ) (bs : List ℕ) : Type 0 where
  pub begins : Begins k b
  pub no_blank : is_blank b ≡ false
  pub no_slash : (b == 47) ≡ false
  pub longest : Longest k b bs

alone_by : {j k : TokenKind} (b : ℕ) (bs : List ℕ) → j ≡ k → Begins j b → is_blank b ≡ false → (b == 47) ≡ false
    → Longest j b bs → Alone k b bs
alone_by b bs e begin blank slash l =
    subst (λ k. Alone k b bs) e (record { begins = begin; no_blank = blank; no_slash = slash; longest = l })

word_alone : (k : TokenKind) (b : ℕ) (bs : List ℕ) → is_letter b ≡ true
    → front.Token kind.Word (suc (run is_word_byte bs)) ≡ front.Token k (suc (length bs)) → Alone k b bs
word_alone k b bs e h =
    let size : run is_word_byte bs ≡ length bs = (let s = same_size h in omega arith) in
    alone_by b bs (same_kind h) e (grind (arith, nat_tests)) (grind (arith, nat_tests))
    (λ after rest m stops. let r = run_whole is_word_byte bs rest size stops in rw (e, r) refl)

integer_alone : (k : TokenKind) (b : ℕ) (bs : List ℕ) → is_letter b ≡ false → is_digit b ≡ true
    → integer_of (b ∷ take (run is_digit bs) bs) ≡ front.Token k (suc (length bs)) → Alone k b bs
integer_alone k b bs n d h =
    let n_digits = run is_digit bs in
    elim (true_or_false (nat_lt (digits_value 10 (b ∷ take n_digits bs)) (2 ^ 64))) [
      | inl e ↦ (
          let g = rw e at h in
          let size : n_digits ≡ length bs =
          (let s = same_size g in let r = run_short is_digit bs in let t = length-take n_digits bs in omega arith) in
          let all : take n_digits bs ≡ bs = take_all n_digits bs (omega arith) in
          let small : nat_lt (digits_value 10 (b ∷ bs)) (2 ^ 64) ≡ true =
          ap (λ ds. nat_lt (digits_value 10 (b ∷ ds)) (2 ^ 64)) (sym all) ∙ e in
          alone_by b bs (same_kind g) d (grind (arith, nat_tests)) (grind (arith, nat_tests)) (λ after rest m stops.
          let r = run_whole is_digit bs rest size stops in
          let t = take_at bs rest (length bs) refl in
          rw (n, d, r, t, small) refl))
      | inr e ↦ absurd (let g = rw e at h in cc)
    ]

-- what a string that is read shows
record Quoted (k : TokenKind) (bytes : List ℕ) (closed : Bool) (n : ℕ) : Type 0 where
  text : kind.Text ≡ k
  is_closed : closed ≡ true
  size : suc (suc (length bytes)) ≡ n
  read : string_of bytes true ≡ front.Token kind.Text n

quoted : (k : TokenKind) (bytes : List ℕ) (closed : Bool) (n : ℕ) → string_of bytes closed ≡ front.Token k n
    → Quoted k bytes closed n
quoted k bytes false n h = absurd cc
quoted k bytes true n h = elim (true_or_false (nat_lt (escaped_in false bytes) (length bytes))) [
  | inl e ↦ absurd (let g = rw e at h in cc)
  | inr e ↦ (
      let g = rw e at h in
      let same = same_kind g in
      record { text = same; is_closed = refl; size = same_size g; read = h ∙ ap (λ k. front.Token k n) (sym same) })
]

string_alone : (k : TokenKind) (bs : List ℕ)
    → string_of (take (quoted_in false bs) bs)
    (starts 34 (drop (quoted_in false bs) bs)) ≡ front.Token k (suc (length bs)) → Alone k 34 bs
string_alone k bs h =
    let n = quoted_in false bs in
    let q = quoted k (take n bs) (starts 34 (drop n bs)) (suc (length bs)) h in
    let inside : n < length bs = (let s = q.size in let t = length-take n bs in omega arith) in
    alone_by 34 bs q.text refl refl refl (λ after rest m stops.
    let r = quoted_inside false bs rest inside in
    let t = take-append-le n bs rest (omega arith) in
    let d = drop-append-le n bs rest (omega arith) in
    let s = starts_more 34 (drop n bs) rest q.is_closed in
    rw (r, t, d, s) q.read)

shape_alone : (k : TokenKind) (bs : List ℕ) → Reads true k 60 bs → Alone k 60 bs
shape_alone k bs h = let n = run is_shape_byte bs in elim (true_or_false (starts 62 (drop n bs))) [
  | inl e ↦ (
      let g = rw e at h in
      let z : suc (suc n) ≡ suc (length bs) = same_size g in
      let inside : n < length bs = omega arith in
      alone_by 60 bs (same_kind g) refl refl refl (λ after rest m stops.
      let r = run_inside is_shape_byte bs rest inside in
      let d = drop-append-le n bs rest (omega arith) in
      let s = starts_more 62 (drop n bs) rest e in
      rw (m, r, d, s, z) refl))
  | inr e ↦ absurd (let g = rw e at h in cc)
]

value_alone : (k : TokenKind) (bs : List ℕ) → Reads false k 37 bs → Alone k 37 bs
value_alone k [] h = absurd cc
value_alone k (c ∷ bs) h = elim (true_or_false (is_digit c)) [
  | inl e ↦ (
      let g = rw e at h in
      let size : run is_digit bs ≡ length bs = (let s = same_size g in omega arith) in
      alone_by 37 (c ∷ bs) (same_kind g) refl refl refl (λ after rest m stops.
      let r = run_whole is_digit bs rest size (no_digit_behind_name rest stops) in
      rw (e, r) refl))
  | inr d ↦ elim (true_or_false (is_name_start c)) [
    | inl e ↦ (
        let g = rw (d, e) at h in
        let size : run is_name_byte bs ≡ length bs = (let s = same_size g in omega arith) in
        alone_by 37 (c ∷ bs) (same_kind g) refl refl refl (λ after rest m stops.
        let r = run_whole is_name_byte bs rest size stops in
        rw (d, e, r) refl))
    | inr e ↦ absurd (let g = rw (d, e) at h in cc)
  ]
]

-- a word behind a byte of its own
record Named (j k : TokenKind) (bs : List ℕ) : Type 0 where
  kind_is : j ≡ k
  longest : (rest : List ℕ) → Stops is_word_byte rest → named_at j (bs ++ rest) ≡ front.Token j (suc (length bs))

named : (j k : TokenKind) (bs : List ℕ) → named_at j bs ≡ front.Token k (suc (length bs)) → Named j k bs
named j k [] h = absurd cc
named j k (c ∷ bs) h = elim (true_or_false (is_letter c)) [
  | inl e ↦ (
      let g = rw e at h in
      let size : run is_word_byte bs ≡ length bs = (let s = same_size g in omega arith) in
      record {
        kind_is = same_kind g;
        longest = λ rest stops. let r = run_whole is_word_byte bs rest size stops in rw (e, r) refl;
      })
  | inr e ↦ absurd (let g = rw e at h in cc)
]

symbol_alone : (k : TokenKind) (bs : List ℕ) → named_at kind.Symbol bs ≡ front.Token k (suc (length bs)) → Alone k 64 bs
symbol_alone k bs h =
    let n = named kind.Symbol k bs h in
    alone_by 64 bs n.kind_is refl refl refl (λ after rest m stops. n.longest rest stops)

block_alone : (k : TokenKind) (bs : List ℕ) → named_at kind.BlockName bs ≡ front.Token k (suc (length bs))
    → Alone k 94 bs
block_alone k bs h =
    let n = named kind.BlockName k bs h in
    alone_by 94 bs n.kind_is refl refl refl (λ after rest m stops. n.longest rest stops)

dialect_alone : (k : TokenKind) (bs : List ℕ) → named_at kind.DialectType bs ≡ front.Token k (suc (length bs))
    → Alone k 33 bs
dialect_alone k bs h =
    let n = named kind.DialectType k bs h in
    alone_by 33 bs n.kind_is refl refl refl (λ after rest m stops. n.longest rest stops)

hash_alone : (k : TokenKind) (bs : List ℕ) → Reads false k 35 bs → Alone k 35 bs
hash_alone k [] h = absurd cc
hash_alone k (c ∷ bs) h = elim (true_or_false (is_digit c)) [
  | inl e ↦ (
      let g = rw e at h in
      let size : run is_digit bs ≡ length bs = (let s = same_size g in omega arith) in
      alone_by 35 (c ∷ bs) (same_kind g) refl refl refl (λ after rest m stops.
      let r = run_whole is_digit bs rest size (no_digit_behind_word rest stops) in
      rw (e, r) refl))
  | inr d ↦ (
      let g : named_at kind.Hash (c ∷ bs) ≡ front.Token k (suc (length (c ∷ bs))) = rw d at h in
      let n = named kind.Hash k (c ∷ bs) g in
      alone_by 35 (c ∷ bs) n.kind_is refl refl refl (λ after rest m stops. rw d (n.longest rest stops)))
]

-- - before anything but >
minus_alone : (k : TokenKind) (bs : List ℕ) → Reads false k 45 bs → Alone k 45 bs
minus_alone k [] h = alone_by 45 [] (same_kind h) refl refl refl (λ after rest m stops. no_arrow after rest stops)
  where
    no_arrow : (after : Bool) (rest : List ℕ) → Stops (goes_on (kind.Mark 45)) rest
        → token_at after (45 ∷ rest) ≡ front.Token (kind.Mark 45) 1
    no_arrow after [] stops = refl
    no_arrow after (b ∷ rest) stops =
        elim (true_or_false (b == 62)) [ inl e ↦ absurd (let g = rw e at stops in cc) | inr e ↦ rw e refl ]
minus_alone k (c ∷ bs) h = elim (true_or_false (c == 62)) [
  | inl e ↦ (
      let g = rw e at h in
      let size : 2 ≡ suc (length (c ∷ bs)) = same_size g in
      alone_by 45 (c ∷ bs) (same_kind g) refl refl refl (λ after rest m stops. rw (e, sym size) refl))
  | inr e ↦ absurd (let g = rw e at h in let s = same_size g in omega arith)
]

-- < where no shape begins
less_alone : (k : TokenKind) (bs : List ℕ) → Reads false k 60 bs → Alone k 60 bs
less_alone k [] h = alone_by 60 [] (same_kind h) refl refl refl (λ after rest m stops. no_shape after rest m)
  where
    no_shape : (after : Bool) (rest : List ℕ) → in_mode after (kind.Mark 60) ≡ true
        → token_at after (60 ∷ rest) ≡ front.Token (kind.Mark 60) 1
    no_shape true rest m = absurd cc
    no_shape false rest m = refl
less_alone k (c ∷ bs) h = absurd (let s = same_size h in omega arith)

mark_alone : (k : TokenKind) (b : ℕ) (bs : List ℕ) → is_mark b ≡ true → (b == 60) ≡ false
    → ((after : Bool) (bs : List ℕ) → token_at after (b ∷ bs) ≡ front.Token (kind.Mark b) 1)
    → front.Token (kind.Mark b) 1 ≡ front.Token k (suc (length bs)) → Alone k b bs
mark_alone k b [] e n t h =
    alone_by b [] (same_kind h) refl (grind (arith, nat_tests)) (grind (arith, nat_tests))
    (λ after rest m stops. t after rest)
mark_alone k b (c ∷ bs) e n t h = absurd (let s = same_size h in omega arith)

-- ---- all cases

-- where no other token may begin: marks of one byte
sign_alone : (k : TokenKind) (b : ℕ) (bs : List ℕ) (a : Bool) → is_letter b ≡ false → is_digit b ≡ false
    → (b == 34) ≡ false → (b == 60) ≡ false → (b == 37) ≡ false → (b == 64) ≡ false → (b == 94) ≡ false
    → (b == 33) ≡ false → (b == 35) ≡ false → (b == 45) ≡ false → Reads a k b bs → Alone k b bs
sign_alone k b bs a l d q s v sy bl di ha mi h = elim (true_or_false _) [
  | inl e ↦
      mark_alone k b bs e s (λ after bs. rw (e, l, d, q, s, v, sy, bl, di, ha, mi) refl)
      (rw (e, l, d, q, s, v, sy, bl, di, ha, mi) at h)
  | inr e ↦ absurd (let g = rw (e, l, d, q, s, v, sy, bl, di, ha, mi) at h in cc)
]

less_or_shape : (a : Bool) (k : TokenKind) (bs : List ℕ) → Reads a k 60 bs → Alone k 60 bs
less_or_shape true k bs h = shape_alone k bs h
less_or_shape false k bs h = less_alone k bs h

pub alone : (a : Bool) (k : TokenKind) (b : ℕ) (bs : List ℕ) → token_at a (b ∷ bs) ≡ front.Token k (suc (length bs))
    → Alone k b bs
alone a k b bs h = elim (true_or_false _) [
  | inl e ↦ word_alone k b bs e (rw e at h)
  | inr l ↦ elim (true_or_false _) [
    | inl e ↦ integer_alone k b bs l e (rw (l, e) at h)
    | inr d ↦
        at_byte 34 (string_alone k bs) (λ q.
        at_byte 60 (less_or_shape a k bs) (λ s.
        at_byte 37 (value_alone k bs) (λ v.
        at_byte 64 (symbol_alone k bs) (λ sy.
        at_byte 94 (block_alone k bs) (λ bl.
        at_byte 33 (dialect_alone k bs) (λ di.
        at_byte 35 (hash_alone k bs) (λ ha.
        at_byte 45 (minus_alone k bs) (λ mi. sign_alone k b bs a l d q s v sy bl di ha mi h))))))))
  ]
]
  where
    -- it is this byte, or another one
    at_byte : (c : ℕ) → (token_at a (c ∷ bs) ≡ front.Token k (suc (length bs)) → Alone k c bs)
        → ((b == c) ≡ false → Alone k b bs) → Alone k b bs
    at_byte c it other = elim (true_or_false _) [
      | inl e ↦ subst (λ b. Reads a k b bs → Alone k b bs) (sym (eqb-true b c e)) it h
      | inr e ↦ other e
    ]

-- ---- what does not go on

-- all letters go on with the same tokens, and so do all digits
letter_goes : (j : TokenKind) (b : ℕ) → is_letter b ≡ true → goes_on j 97 ≡ false → goes_on j b ≡ false
letter_goes kind.Integer b e n = grind (arith, nat_tests)
letter_goes kind.Text b e n = refl
letter_goes kind.Shape b e n = refl
letter_goes kind.Arrow b e n = refl
letter_goes (kind.Mark c) b e n = let z : (b == 62) ≡ false = grind (arith, nat_tests) in rw z refl
letter_goes j b e n = absurd cc

digit_goes : (j : TokenKind) (b : ℕ) → is_digit b ≡ true → goes_on j 48 ≡ false → goes_on j b ≡ false
digit_goes kind.Text b e n = refl
digit_goes kind.Shape b e n = refl
digit_goes kind.Arrow b e n = refl
digit_goes (kind.Mark c) b e n = let z : (b == 62) ≡ false = grind (arith, nat_tests) in rw z refl
digit_goes j b e n = absurd cc

pub first_goes : (j k : TokenKind) (b : ℕ) → Begins k b → goes_on j (first_byte k) ≡ false → goes_on j b ≡ false
first_goes j kind.Word b e n = letter_goes j b e n
first_goes j kind.Integer b e n = digit_goes j b e n
first_goes j k b e n = ap (goes_on j) e ∙ n

-- a blank and a line feed go on with no token
pub gap_goes : (j : TokenKind) (b : ℕ) → is_blank b ≡ true → goes_on j b ≡ false
gap_goes kind.Value b e = grind (arith, nat_tests)
gap_goes kind.Integer b e = grind (arith, nat_tests)
gap_goes kind.Text b e = refl
gap_goes kind.Shape b e = refl
gap_goes kind.Arrow b e = refl
gap_goes (kind.Mark c) b e = let z : (b == 62) ≡ false = grind (arith, nat_tests) in rw z refl
gap_goes k b e = grind (arith, nat_tests)
