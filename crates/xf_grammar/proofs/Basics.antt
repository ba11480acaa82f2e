-- Tokens that stand, tests and answers.
use Rattle.std.proofs.Common.{◌≡◌, ◌⊎◌, inl, inr, ℕ, zero, suc, ◌+◌, ◌<◌, ◌≤◌, Bool, true, false, cond, List, [], ◌∷◌}
use Rattle.std.proofs.Common.{◌++◌, length, Option, Some, None, Ok, Err, refl, sym, ap, subst, ◌∙◌, arith}
use Rattle.std.specs.Prelude.{not, ◌&&◌, ◌==◌}
use Rattle.std.proofs.lemmas.Bool.Decides.{nat_tests}
use Rattle.xf_lex.specs.declared.token.TokenKind.{TokenKind}
use Rattle.xf_lex.specs.declared.token.TokenKind.TheVariants as kind
use Rattle.xf_lex.specs.declared.token.Token.{Token}
use Rattle.xf_grammar.specs.Tokens.{Terminal, the_end, terminal, terminal_of, terminal_at, telling, same_kind, is_kind}
use Rattle.xf_grammar.specs.Tokens.{comma}
use Rattle.xf_grammar.specs.Reading.{Out, ◌>>=◌, one_too_many}
use Rattle.xf_grammar.specs.Grammar.{Gap, Spaced, tokens_of, begun, first_seen, is_token, AllStand}

-- ---- tests

pub true_or_false : (b : Bool) → (b ≡ true) ⊎ (b ≡ false)
true_or_false true = inl refl
true_or_false false = inr refl

pub both_true : (a b : Bool) → (a && b) ≡ true → (a ≡ true) × (b ≡ true)
both_true true b e = (refl, e)
both_true false b e = absurd cc

pub five_true : (a b c d e : Bool) → (a && (b && (c && (d && e)))) ≡ true
    → (a ≡ true) × (b ≡ true) × (c ≡ true) × (d ≡ true) × (e ≡ true)
five_true a b c d e h =
    let x = both_true a _ h in
    let y = both_true b _ x.1 in
    let z = both_true c _ y.1 in
    let v = both_true d e z.1 in
    (x.0, y.0, z.0, v.0, v.1)

pub six_true : (a b c d e f : Bool) → (a && (b && (c && (d && (e && f))))) ≡ true
    → (a ≡ true) × (b ≡ true) × (c ≡ true) × (d ≡ true) × (e ≡ true) × (f ≡ true)
six_true a b c d e f h =
    let x = both_true a _ h in
    let y = five_true b c d e f x.1 in
    (x.0, y.0, y.1, y.2, y.3, y.4)

pub and_is : (a b : Bool) → a ≡ true → b ≡ true → (a && b) ≡ true
and_is true b e f = f
and_is false b e f = absurd cc

pub not_true : (a : Bool) → not a ≡ true → a ≡ false
not_true true e = absurd cc
not_true false e = refl

pub not_false : (a : Bool) → a ≡ false → not a ≡ true
not_false true e = absurd cc
not_false false e = refl

pub on_true : {A D : Type 0} (b : Bool) (r s : Out A D) → b ≡ true → cond b r s ≡ r
on_true true r s e = refl
on_true false r s e = absurd cc

pub on_false : {A D : Type 0} (b : Bool) (r s : Out A D) → b ≡ false → cond b r s ≡ s
on_false true r s e = absurd cc
on_false false r s e = refl

-- ---- tokens that stand

-- behind the last token stands the end
pub past : (all : List Token) (at : ℕ) → length all ≤ at → terminal_at all at ≡ the_end
past [] zero le = refl
past [] (suc n) le = refl
past (t ∷ ts) zero le = absurd (omega arith)
past (t ∷ ts) (suc n) le = past ts n (omega arith)

pub split : (a b : List Spaced) (all : List Token) (at next : ℕ) → AllStand all at (tokens_of (a ++ b)) next
    → (m : ℕ) × (AllStand all at (tokens_of a) m × AllStand all m (tokens_of b) next)
split [] b all at next s = (at, (refl, s))
split (p ∷ a) b all at next s = let r = split a b all _ next s.1 in (r.0, ((s.0, r.1.0), r.1.1))

pub join : (a b : List Spaced) (all : List Token) (at m next : ℕ) → AllStand all at (tokens_of a) m
    → AllStand all m (tokens_of b) next → AllStand all at (tokens_of (a ++ b)) next
join [] b all at m next s r = subst (λ n. AllStand all n (tokens_of b) next) (sym s) r
join (p ∷ a) b all at m next s r = (s.0, join a b all _ m next s.1 r)

pub first_is : (ps : List Terminal) (all : List Token) (at next : ℕ) (y : Terminal) → AllStand all at ps next
    → terminal_at all next ≡ y → terminal_at all at ≡ first_seen ps y
first_is [] all at next y s e = ap (terminal_at all) s ∙ e
first_is (p ∷ ps) all at next y s e = s.0

pub ends_at : (ps : List Terminal) (all : List Token) (at next : ℕ) → AllStand all at ps next → next ≡ at + length ps
ends_at [] all at next s = omega (arith, s)
ends_at (p ∷ ps) all at next s = let e = ends_at ps all _ next s.1 in omega (arith, e)

-- what stands before a token is no token
pub same_tokens : (g : Gap) (ps : List Spaced) → tokens_of (begun g ps) ≡ tokens_of ps
same_tokens g [] = refl
same_tokens g (p ∷ ps) = refl

pub token_or_end : (x : Terminal) → (x ≡ the_end) ⊎ (is_token x ≡ true)
token_or_end the_end = inl refl
token_or_end (terminal k bs) = inr refl

-- where a token stands, the text has not ended
pub before_end : (all : List Token) (at : ℕ) → is_token (terminal_at all at) ≡ true → at < length all
before_end [] zero e = absurd cc
before_end [] (suc n) e = absurd cc
before_end (t ∷ ts) zero e = omega arith
before_end (t ∷ ts) (suc n) e = let r = before_end ts n e in omega (arith, r)

pub within : (all : List Token) (at : ℕ) (x : Terminal) → terminal_at all at ≡ x → is_token x ≡ true → length all ≤ at
    → ⊥
within all at x e t le = let lt = before_end all at (ap is_token e ∙ t) in omega (arith, lt, le)

mark_kind : (b : ℕ) (k : TokenKind) (bs : List ℕ) → same_kind k (kind.Mark b) ≡ true
    → terminal k (telling k bs) ≡ terminal (kind.Mark b) []
mark_kind b (kind.Mark c) bs e = let q : c ≡ b = grind (arith, nat_tests) in ap (λ d. terminal (kind.Mark d) []) q
mark_kind b k bs e = absurd cc

mark_token : (b : ℕ) (o : Option Token) → is_kind (kind.Mark b) (terminal_of o) ≡ true
    → terminal_of o ≡ terminal (kind.Mark b) []
mark_token b None e = absurd cc
mark_token b (Some t) e = mark_kind b t.kind t.bytes e

-- a mark that stands is told by its kind
pub mark_is : (b : ℕ) (all : List Token) (at : ℕ) → is_kind (kind.Mark b) (terminal_at all at) ≡ true
    → terminal_at all at ≡ terminal (kind.Mark b) []
mark_is b all at e = mark_token b _ e

pub comma_is : (all : List Token) (at : ℕ) → is_kind comma (terminal_at all at) ≡ true
    → terminal_at all at ≡ terminal comma []
comma_is all at e = mark_is 44 all at e

-- ---- answers

pub bind_ok : {A B D : Type 0} (r : Out A D) (f : A × ℕ → Out B D) (y : B × ℕ) → (r >>= f) ≡ Ok y
    → (x : A × ℕ) × ((r ≡ Ok x) × (f x ≡ Ok y))
bind_ok (Ok x) f y e = (x, (refl, e))
bind_ok (Err d) f y e = absurd cc

pub either : {A D : Type 0} (b : Bool) (r s : Out A D) (y : A × ℕ) → cond b r s ≡ Ok y
    → ((b ≡ true) × (r ≡ Ok y)) ⊎ ((b ≡ false) × (s ≡ Ok y))
either true r s y e = inl (refl, e)
either false r s y e = inr (refl, e)

pub same_answer : {A D : Type 0} (x y : A × ℕ) (o : Out A D) → o ≡ Ok x → o ≡ Ok y → x ≡ y
same_answer x y (Ok z) p q = let a : z ≡ x = cc in let b : z ≡ y = cc in sym a ∙ b
same_answer x y (Err d) p q = absurd cc

pub ok_is : {A D : Type 0} {x y : A × ℕ} → let o : Out A D = Ok x in o ≡ Ok y → x ≡ y
ok_is {x = x} {y = y} e = same_answer x y (Ok x) refl e

pub answer_is : {A D : Type 0} (h h' : A) (n n' : ℕ) → let o : Out A D = Ok (h, n) in o ≡ Ok (h', n')
    → (h ≡ h') × (n ≡ n')
answer_is h h' n n' e = let p = same_answer (h, n) _ _ refl e in (ap (λ x. x.0) p, ap (λ x. x.1) p)

-- one item too many is a fault
pub not_too_many : {A D : Type 0} (at : ℕ) (full : D) (o : Out A D) (y : A × ℕ) → one_too_many at full o ≡ Ok y → ⊥
not_too_many at full (Ok x) y e = absurd cc
not_too_many {A} {D} at full (Err d) y e =
    elim (either {A = A} {D = D} (d.0 == at) _ _ y e)
    [ inl w ↦ absurd (let v = w.1 in cc) | inr w ↦ absurd (let v = w.1 in cc) ]
