-- Tokens that stand apart are a text that is laid out of them.
use Rattle.std.proofs.Common.{◌≡◌, ℕ, zero, suc, ◌*◌, Bool, true, false, List, [], ◌∷◌, ◌++◌, length, refl, sym, ap}
use Rattle.std.proofs.Common.{subst, ◌∙◌, arith, append_assoc}
use Rattle.std.specs.Prelude.{map, replicate}
use Rattle.std.specs.Str.{IsAscii, IsUtf8}
use Rattle.std.specs.List.{list_all}
use Rattle.std.proofs.lemmas.Bool.{ltb-true}
use Rattle.std.proofs.lemmas.Bool.Decides.{nat_tests}
use Rattle.std.proofs.lemmas.Str.{IsUtf8-append, IsUtf8-nil, IsUtf8-from_ascii}
use Rattle.xf_lex.specs.declared.token.TokenKind.{TokenKind}
use Rattle.xf_lex.specs.declared.token.TokenKind.TheVariants as kind
use Rattle.xf_lex.specs.declared.lexeme.Lexeme.TheVariants as front
use Rattle.xf_lex.specs.Bytes.{is_blank}
use Rattle.xf_lex.specs.Lexemes.{token_at}
use Rattle.xf_lex.specs.Lexes.{is_tensor}
use Rattle.xf_lex.specs.Layout.{Plain, SpacedToken, AllBlank, layout, Stays, AllStay}
use Rattle.xf_lex.proofs.Stays.{Stops}
use Rattle.xf_grammar.specs.Tokens.{Terminal, the_end, terminal, telling, same_kind}
use Rattle.xf_grammar.specs.Grammar.{Gap, none, blank, line, Spaced, tokens_of}
use Rattle.xf_grammar.specs.Layout.{gap_text, token_text, terminal_plain, terminals_plain, text}
use Rattle.xf_grammar.specs.Apart.{goes_on, first_byte, in_mode, IsLexeme, Lexemes, is_low, Before, a_gap, a_token}
use Rattle.xf_grammar.specs.Apart.{before, may_stand, stands, is_gap, apart, IsLaidOut}
use Rattle.xf_grammar.proofs.Alone.{alone, first_goes, gap_goes}
use Rattle.xf_grammar.proofs.Basics.{both_true, and_is, not_true}

-- ---- bytes below 128

low_is_ascii : (bs : List ℕ) → list_all is_low bs ≡ true → IsAscii bs
low_is_ascii [] h i = omega arith
low_is_ascii (b ∷ bs) h zero = ltb-true b 128 (both_true _ _ h).0
low_is_ascii (b ∷ bs) h (suc i) = low_is_ascii bs (both_true _ _ h).1 i

pub low_utf8 : (bs : List ℕ) → list_all is_low bs ≡ true → IsUtf8 bs
low_utf8 bs h = IsUtf8-from_ascii bs (low_is_ascii bs h)

blank_low : (b : ℕ) → is_blank b ≡ true → is_low b ≡ true
blank_low b e = grind (arith, nat_tests)

-- a token whose bytes are known
pub known_token : (k : TokenKind) (bytes : List ℕ)
    → let text = token_text (terminal k bytes) in token_at (same_kind k kind.Shape) text ≡ front.Token k (length text)
    → telling k text ≡ bytes → list_all is_low text ≡ true → IsLexeme (terminal k bytes)
known_token k bytes a t l = record { alone = a; told = t; utf8 = low_utf8 _ l }

-- ---- pieces

abbrev kind_of : Terminal → TokenKind
kind_of the_end = kind.Word
kind_of (terminal k bytes) = k

abbrev plain_of : Terminal → Plain
plain_of x = record { kind = kind_of x; bytes = token_text x }

abbrev laid : Spaced → SpacedToken
laid p = record { blanks = gap_text p.gap; token = plain_of p.token }

-- whether the lexer is in the mode that a place tells
abbrev After : Before → Bool → Type 0
After a_gap a = Unit {0}
After (a_token k tensor) a = tensor ≡ a

-- ---- one token

mode_is : (b : Before) (a gap : Bool) (k : TokenKind) → may_stand b gap k ≡ true → After b a → in_mode a k ≡ true
mode_is a_gap true gap k h f = (both_true _ _ h).0
mode_is a_gap false gap k h f = (both_true _ _ h).1
mode_is (a_token j t) a gap k h f = subst (λ a. in_mode a k ≡ true) f (both_true _ _ h).0

stays : (after a : Bool) (k : TokenKind) (cs rest : List ℕ) → token_at a cs ≡ front.Token k (length cs)
    → in_mode after k ≡ true → Stops (goes_on k) rest → Stays after (record { kind = k; bytes = cs }) rest
stays after a k [] rest h m s = absurd cc
stays after a k (b ∷ bs) rest h m s =
    let x = alone a k b bs h in
    let n = x.no_blank in
    let o = x.no_slash in
    record { no_gap = rw (n, o) refl; longest = x.longest after rest m s }

stays_there : (b : Before) (a gap : Bool) (x : Terminal) (rest : List ℕ) → stands b gap (before x) ≡ true → After b a
    → IsLexeme x → Stops (goes_on (kind_of x)) rest → Stays a (plain_of x) rest
stays_there b a gap the_end rest h f l s = absurd l
stays_there b a gap (terminal k bytes) rest h f l s = stays a _ k _ rest l.alone (mode_is b a gap k h f) s

-- ---- what is behind it does not go on

begins : (j k : TokenKind) (a : Bool) (cs rest : List ℕ) → token_at a cs ≡ front.Token k (length cs)
    → goes_on j (first_byte k) ≡ false → Stops (goes_on j) (cs ++ rest)
begins j k a [] rest h n = absurd cc
begins j k a (b ∷ bs) rest h n = first_goes j k b (alone a k b bs h).begins n

ended_by : (j : TokenKind) (t : Bool) (g : Gap) (x : Terminal) (rest : List ℕ)
    → stands (a_token j t) (is_gap g) (before x) ≡ true → IsLexeme x
    → Stops (goes_on j) (gap_text g ++ (token_text x ++ rest))
ended_by j t g the_end rest h l = absurd l
ended_by j t none (terminal k bytes) rest h l = begins j k _ _ rest l.alone (not_true _ (both_true _ _ h).1)
ended_by j t blank (terminal k bytes) rest h l = gap_goes j 32 refl
ended_by j t (line n) (terminal k bytes) rest h l = gap_goes j 10 refl

ended_blank : (j : TokenKind) (tail : List ℕ) → AllBlank tail → Stops (goes_on j) tail
ended_blank j [] h = tt
ended_blank j (b ∷ tail) h = gap_goes j b h.0

ended : (x : Terminal) (ps : List Spaced) (tail : List ℕ) → IsLexeme x → apart (before x) ps ≡ true
    → Lexemes (tokens_of ps) → AllBlank tail → Stops (goes_on (kind_of x)) (layout (map laid ps) tail)
ended the_end ps tail l h f w = absurd l
ended (terminal k bytes) [] tail l h f w = ended_blank k tail w
ended (terminal k bytes) (p ∷ ps) tail l h f w = ended_by k _ p.gap p.token _ (both_true _ _ h).0 f.0

-- ---- all tokens

tensor_same : (k : TokenKind) (bytes : List ℕ) → is_tensor k bytes ≡ is_tensor k (token_text (terminal k bytes))
tensor_same kind.Word bytes = refl
tensor_same k bytes = refl

after_is : (x : Terminal) → After (before x) (is_tensor (kind_of x) (token_text x))
after_is the_end = tt
after_is (terminal k bytes) = tensor_same k bytes

blanks : (n : ℕ) → AllBlank (replicate n 32)
blanks zero = tt
blanks (suc n) = (refl, blanks n)

gap_blank : (g : Gap) → AllBlank (gap_text g)
gap_blank none = tt
gap_blank blank = (refl, tt)
gap_blank (line n) = (refl, blanks (2 * n))

all_stay : (b : Before) (a : Bool) (ps : List Spaced) (tail : List ℕ) → apart b ps ≡ true → After b a
    → Lexemes (tokens_of ps) → AllBlank tail → AllStay a (map laid ps) tail
all_stay b a [] tail h f l w = w
all_stay b a (p ∷ ps) tail h f l w =
    let e = both_true _ _ h in (
      gap_blank p.gap,
      stays_there b a (is_gap p.gap) p.token (layout (map laid ps) tail) e.0 f l.0
          (ended p.token ps tail l.0 e.1 l.1 w),
      all_stay (before p.token) (is_tensor (kind_of p.token) (token_text p.token)) ps tail e.1 (after_is p.token) l.1 w,
    )

laid_text : (ps : List Spaced) (tail : List ℕ) → layout (map laid ps) tail ≡ text ps ++ tail
laid_text [] tail = refl
laid_text (p ∷ ps) tail =
    ap (λ x. gap_text p.gap ++ (token_text p.token ++ x)) (laid_text ps tail)
    ∙ sym (append_assoc (gap_text p.gap ++ token_text p.token) (text ps) tail
    ∙ append_assoc (gap_text p.gap) (token_text p.token) (text ps ++ tail))

blanks_utf8 : (bs : List ℕ) → AllBlank bs → list_all is_low bs ≡ true
blanks_utf8 [] h = refl
blanks_utf8 (b ∷ bs) h = let l : is_low b ≡ true = blank_low b h.0 in and_is _ _ l (blanks_utf8 bs h.1)

gap_utf8 : (g : Gap) → IsUtf8 (gap_text g)
gap_utf8 g = low_utf8 _ (blanks_utf8 _ (gap_blank g))

token_utf8 : (x : Terminal) → IsLexeme x → IsUtf8 (token_text x)
token_utf8 the_end l = absurd l
token_utf8 (terminal k bytes) l = l.utf8

text_utf8 : (ps : List Spaced) → Lexemes (tokens_of ps) → IsUtf8 (text ps)
text_utf8 [] l = IsUtf8-nil
text_utf8 (p ∷ ps) l =
    IsUtf8-append (gap_text p.gap ++ token_text p.token) (text ps)
    (IsUtf8-append (gap_text p.gap) (token_text p.token) (gap_utf8 p.gap) (token_utf8 p.token l.0)) (text_utf8 ps l.1)

told_again : (x : Terminal) → IsLexeme x → terminal_plain (plain_of x) ≡ x
told_again the_end l = absurd l
told_again (terminal k bytes) l = ap (terminal k) l.told

tokens_again : (ps : List Spaced) → Lexemes (tokens_of ps)
    → terminals_plain (map (λ w. w.token) (map laid ps)) ≡ tokens_of ps
tokens_again [] l = refl
tokens_again (p ∷ ps) l = let a = told_again p.token l.0 in let b = tokens_again ps l.1 in
    ap (λ x. x ∷ terminals_plain (map (λ w. w.token) (map laid ps))) a ∙ ap (λ xs. p.token ∷ xs) b

pub laid_out : (ps : List Spaced) (tail : List ℕ) → apart a_gap ps ≡ true → Lexemes (tokens_of ps) → AllBlank tail
    → IsUtf8 tail → IsLaidOut (text ps ++ tail) (tokens_of ps)
laid_out ps tail h l w u =
    let t = laid_text ps tail in
    let utf8 = subst IsUtf8 (sym t) (IsUtf8-append (text ps) tail (text_utf8 ps l) u) in
    (map laid ps, (tail, (t, (all_stay a_gap false ps tail h tt l w, (utf8, tokens_again ps l)))))
