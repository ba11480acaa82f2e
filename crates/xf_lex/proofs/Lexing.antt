-- The tokens up to a position, and that a text has one list of tokens or one first fault.
use Rattle.std.proofs.Common.{◌≡◌, ℕ, ◌<◌, ◌≤◌, Bool, List, [], ◌∷◌, ◌++◌, length, take, drop, refl, sym, ap, subst}
use Rattle.std.proofs.Common.{◌∙◌, inl, inr, arith}
use Rattle.std.specs.Prelude.{◌⊎◌}
use Rattle.std.specs.Str.Lossy.{utf8_valid_len}
use Rattle.std.proofs.lemmas.Str.{utf8_valid_len-IsUtf8}
use Rattle.xf_span.specs.declared.place.Place.{Place}
use Rattle.xf_span.specs.declared.code.Code.{Code}
use Rattle.xf_span.specs.declared.code.Code.TheVariants.{L4}
use Rattle.xf_span.specs.declared.fault.Fault.{Fault}
use Rattle.xf_span.specs.Fault.{fault_at}
use Rattle.xf_lex.specs.declared.token.TokenKind.{TokenKind}
use Rattle.xf_lex.specs.declared.token.Token.{Token}
use Rattle.xf_lex.specs.declared.lexeme.Lexeme.TheVariants as front
use Rattle.xf_lex.specs.Bytes.{gap}
use Rattle.xf_lex.specs.Lexemes.{token_at}
use Rattle.xf_span.specs.Place.{place_after, first_place}
use Rattle.xf_lex.specs.Lexes.{Position, start, text_at, front_of, is_tensor, IsFirst, behind, Tokens, bytes_before}
use Rattle.xf_lex.specs.Lexes.{place_inside, BreaksAt, IsIllFormed}
use Rattle.xf_lex.specs.Laws.{OneReading, OneFault, NeverBoth}

-- ---- one more token

push : (ts : List Token) (p q : Position) (t : Token) → Tokens p ts q → IsFirst q t
    → Tokens p (ts ++ t ∷ []) (behind q t)
push [] p q t h f = (subst (λ x. IsFirst x t) (sym h) f, ap (λ x. behind x t) h)
push (u ∷ ts) p q t h f = (h.0, push ts (behind p u) q t h.1 f)

pub position_is : (a b : Bool) (p q : Place) (r s : List ℕ) → a ≡ b → p ≡ q → r ≡ s
    → let x : Position = record { after_tensor = a; place = p; rest = r } in
    let y : Position = record { after_tensor = b; place = q; rest = s } in x ≡ y
position_is a b p q r s e f g = cc

-- the same by the parts that the loop has
pub turn : (ts : List Token) (p q : Position) (t : Token) (blanks text word after : List ℕ) (n : ℕ) (tensor : Bool)
    (next : Place) → Tokens p ts q
    → blanks ≡ take (gap q.rest) q.rest → text ≡ text_at q.rest → t.place ≡ place_after q.place blanks
    → token_at q.after_tensor text ≡ front.Token t.kind n
    → t.bytes ≡ word → word ≡ take n text → length word ≡ n → after ≡ drop n text → tensor ≡ is_tensor t.kind word
    → next ≡ place_after t.place word
    → Tokens p (ts ++ t ∷ []) (record { after_tensor = tensor; place = next; rest = after })
turn ts p q t blanks text word after n tensor next h bl at pl found by front_part len back ten nx =
    let size : length t.bytes ≡ n = ap length by ∙ len in
    let first : IsFirst q t = record {
      longest = ap (token_at q.after_tensor) (sym at) ∙ found ∙ ap (λ k. front.Token t.kind k) (sym size);
      bytes = by ∙ front_part ∙ ap (λ x. take n x) at ∙ ap (λ k. take k (text_at q.rest)) (sym size);
      place = pl ∙ ap (place_after q.place) bl;
    } in
    let left : drop (length t.bytes) (text_at q.rest) ≡ after =
    ap (λ k. drop k (text_at q.rest)) size ∙ ap (drop n) (sym at) ∙ sym back in
    let placed : place_after t.place t.bytes ≡ next = ap (place_after t.place) by ∙ sym nx in
    let word_is : is_tensor t.kind t.bytes ≡ tensor = ap (is_tensor t.kind) by ∙ sym ten in
    subst (λ x. Tokens p (ts ++ t ∷ []) x) (position_is _ _ _ _ _ _ word_is placed left) (push ts p q t h first)

-- ---- one answer

same_parts : (k k' : TokenKind) (b b' : List ℕ) (p p' : Place) → k ≡ k' → b ≡ b' → p ≡ p'
    → let t : Token = record { kind = k; bytes = b; place = p } in
    let u : Token = record { kind = k'; bytes = b'; place = p' } in t ≡ u
same_parts k k' b b' p p' e f g = cc

token_is : (t u : Token) → t.kind ≡ u.kind → t.bytes ≡ u.bytes → t.place ≡ u.place → t ≡ u
token_is t u e f g = same_parts t.kind u.kind t.bytes u.bytes t.place u.place e f g

same_kind : {k k' : TokenKind} {n n' : ℕ} → front.Token k n ≡ front.Token k' n' → k ≡ k'
same_kind e = cc

same_length : {k k' : TokenKind} {n n' : ℕ} → front.Token k n ≡ front.Token k' n' → n ≡ n'
same_length e = cc

first_is : (p : Position) (t u : Token) → IsFirst p t → IsFirst p u → t ≡ u
first_is p t u f g =
    let e = sym f.longest ∙ g.longest in
    let n = same_length e in
    token_is t u (same_kind e) (f.bytes ∙ ap (λ n. take n (text_at p.rest)) n ∙ sym g.bytes) (f.place ∙ sym g.place)

-- no token stands first behind a position
HasNone : Position → Type 0
HasNone p = (k : TokenKind) (n : ℕ) → front_of p ≡ front.Token k n → ⊥

none_at_end : (p : Position) → front_of p ≡ front.End → HasNone p
unfolding HasNone
none_at_end p e k n h = cc

none_at_fault : (p : Position) (code : Code) (inside : ℕ) → front_of p ≡ front.Fault code inside → HasNone p
unfolding HasNone
none_at_fault p code inside e k n h = cc

none_first : (p q : Position) (t : Token) → p ≡ q → HasNone q → IsFirst p t → ⊥
unfolding HasNone
none_first p q t e none f = none t.kind (length t.bytes) (ap front_of (sym e) ∙ f.longest)

-- two readings that cannot go on
pub record SameEnd (ts us : List Token) (q r : Position) : Type 0 where
  pub tokens : ts ≡ us
  pub last : q ≡ r

same_end : (ts us : List Token) (p q r : Position) → Tokens p ts q → HasNone q → Tokens p us r → HasNone r
    → SameEnd ts us q r
same_end [] [] p q r h none g never = record { tokens = refl; last = sym h ∙ g }
same_end [] (u ∷ us) p q r h none g never = absurd (none_first p q u h none g.0)
same_end (t ∷ ts) [] p q r h none g never = absurd (none_first p r t g never h.0)
same_end (t ∷ ts) (u ∷ us) p q r h none g never =
    let e = first_is p u t g.0 h.0 in
    let more = same_end ts us (behind p t) q r h.1 none (subst (λ x. Tokens (behind p x) us r) e g.1) never in
    let rest = more.tokens in
    record { tokens = cc; last = more.last }

pub one_reading : OneReading
one_reading bs ts us h g = (same_end ts us (start bs) h.last g.last h.read (none_at_end h.last h.ends) g.read
    (none_at_end g.last g.ends)).tokens

same_code : {c c' : Code} {n n' : ℕ} → front.Fault c n ≡ front.Fault c' n' → c ≡ c'
same_code e = cc

same_inside : {c c' : Code} {n n' : ℕ} → front.Fault c n ≡ front.Fault c' n' → n ≡ n'
same_inside e = cc

breaks_once : (bs : List ℕ) (f g : Fault) → BreaksAt bs f → BreaksAt bs g → f ≡ g
breaks_once bs f g x y =
    let e = (same_end x.before y.before (start bs) x.last y.last x.read (none_at_fault x.last x.code x.inside x.broken)
    y.read (none_at_fault y.last y.code y.inside y.broken)).last in
    let same = sym x.broken ∙ ap front_of e ∙ y.broken in
    let code = same_code same in
    let inside = same_inside same in
    let place : place_inside x.last x.inside ≡ place_inside y.last y.inside =
    ap (λ q. place_inside q x.inside) e ∙ ap (place_inside y.last) inside in
    x.fault ∙ ap (λ c. fault_at c (place_inside x.last x.inside)) code ∙ ap (fault_at y.code) place ∙ sym y.fault

not_both : (bs : List ℕ) (f g : Fault) → BreaksAt bs f → IsIllFormed bs g → ⊥
not_both bs f g x y = let late = y.first x.before x.last x.code x.inside x.read x.broken in let early = x.in_utf8 in
    omega arith

pub one_fault : OneFault
one_fault bs f g (inl x) (inl y) = breaks_once bs f g x y
one_fault bs f g (inl x) (inr y) = absurd (not_both bs f g x y)
one_fault bs f g (inr x) (inl y) = absurd (not_both bs g f y x)
one_fault bs f g (inr x) (inr y) = x.fault ∙ sym y.fault

pub never_both : NeverBoth
never_both bs ts f h (inl x) =
    let e = (same_end ts x.before (start bs) h.last x.last h.read (none_at_end h.last h.ends) x.read
    (none_at_fault x.last x.code x.inside x.broken)).last in
    let same = sym h.ends ∙ ap front_of e ∙ x.broken in
    absurd cc
never_both bs ts f h (inr y) = y.no_utf8 h.utf8

-- ---- bytes that are not UTF-8, as the loop finds them

-- tokens that end, or that do not go on behind bytes that are not UTF-8
pub record EndsLate (bs : List ℕ) (p : Position) : Type 0 where
  pub code : Code
  pub inside : ℕ
  pub broken : front_of p ≡ front.Fault code inside
  pub late : utf8_valid_len bs ≤ bytes_before bs p inside

no_earlier : (bs : List ℕ) (ts : List Token) (last : Position) → Tokens (start bs) ts last
    → (front_of last ≡ front.End) ⊎ EndsLate bs last → (before : List Token) (q : Position) (code : Code) (inside : ℕ)
    → Tokens (start bs) before q → front_of q ≡ front.Fault code inside → utf8_valid_len bs ≤ bytes_before bs q inside
no_earlier bs ts last h (inl e) before q code inside g broken =
    let last_is = (same_end ts before (start bs) last q h (none_at_end last e) g
    (none_at_fault q code inside broken)).last in
    let same = sym e ∙ ap front_of last_is ∙ broken in
    absurd cc
no_earlier bs ts last h (inr x) before q code inside g broken =
    let last_is = (same_end ts before (start bs) last q h (none_at_fault last x.code x.inside x.broken) g
    (none_at_fault q code inside broken)).last in
    let n = same_inside (sym x.broken ∙ ap front_of last_is ∙ broken) in
    let moved : bytes_before bs last x.inside ≡ bytes_before bs q inside =
    ap (λ p. bytes_before bs p x.inside) last_is ∙ ap (bytes_before bs q) n in
    subst (λ k. utf8_valid_len bs ≤ k) moved x.late

pub ill_formed : (bs : List ℕ) (ts : List Token) (last : Position) (f : Fault) → Tokens (start bs) ts last
    → (front_of last ≡ front.End) ⊎ EndsLate bs last → utf8_valid_len bs < length bs
    → f ≡ fault_at L4 (place_after first_place (take (utf8_valid_len bs) bs)) → IsIllFormed bs f
ill_formed bs ts last f h ends short is = record {
  no_utf8 = λ utf8. let whole = utf8_valid_len-IsUtf8 bs utf8 in omega arith;
  first = no_earlier bs ts last h ends;
  fault = is;
}
