-- What is read stands there.
use Rattle.std.proofs.Common.{◌≡◌, ◌⊎◌, inl, inr, ℕ, Bool, true, false, ◌&&◌, List, [], ◌∷◌, ◌++◌, Option, Some, None}
use Rattle.std.proofs.Common.{refl, ap, subst, ◌∙◌, arith}
use Rattle.std.specs.Prelude.{if◌then◌else◌, ◌==◌}
use Rattle.std.specs.Str.{bytes_eq}
use Rattle.std.proofs.lemmas.Slice.Eq.{bytes_eq-Decides}
use Rattle.xf_lex.specs.declared.token.TokenKind.{TokenKind}
use Rattle.xf_lex.specs.declared.token.TokenKind.TheVariants as kind
use Rattle.xf_lex.specs.Layout.{Plain}
use Rattle.xf_text.specs.Tokens.{Name, token}
use Rattle.xf_text.specs.Reading.{◌>>=◌, same_kind, same_token, behind, behind_all, bytes_front, at_end}

pub some_is : {A : Type 0} (a b : A) → Some a ≡ Some b → a ≡ b
some_is a b e = cc

same_parts : (k k' : TokenKind) (b b' : List ℕ) → k ≡ k' → b ≡ b'
    → let t : Plain = record { kind = k; bytes = b } in let u : Plain = record { kind = k'; bytes = b' } in t ≡ u
same_parts k k' b b' p q = cc

token_is : (t u : Plain) → t.kind ≡ u.kind → t.bytes ≡ u.bytes → t ≡ u
token_is t u p q = same_parts t.kind u.kind t.bytes u.bytes p q

-- ---- readings in a row

-- where a reading gives something, its first part did
pub bind_some : {A B : Type 0} (o : Option A) (f : A → Option B) (y : B) → (o >>= f) ≡ Some y
    → (x : A) × (o ≡ Some x) × (f x ≡ Some y)
bind_some None f y e = absurd cc
bind_some (Some x) f y e = (x, refl, e)

pub either : {A : Type 0} (b : Bool) (x y : Option A) (z : A) → (if b then x else y) ≡ Some z
    → (x ≡ Some z) ⊎ (y ≡ Some z)
either true x y z e = inl e
either false x y z e = inr e

-- ---- tests of bytes and tokens

both : (a b : Bool) → (a && b) ≡ true → (a ≡ true) × (b ≡ true)
both true b e = (refl, e)
both false b e = absurd cc

eq_same : (a b : ℕ) → (a == b) ≡ true → a ≡ b
eq_same a b e = grind arith

pub bytes_same : (xs ys : List ℕ) → bytes_eq xs ys ≡ true → xs ≡ ys
bytes_same xs ys e = (bytes_eq-Decides xs ys).0 e

kind_same : (k j : TokenKind) → same_kind k j ≡ true → k ≡ j
kind_same kind.Word kind.Word e = refl
kind_same kind.Value kind.Value e = refl
kind_same kind.Symbol kind.Symbol e = refl
kind_same kind.BlockName kind.BlockName e = refl
kind_same kind.Hash kind.Hash e = refl
kind_same kind.DialectType kind.DialectType e = refl
kind_same kind.Integer kind.Integer e = refl
kind_same kind.Text kind.Text e = refl
kind_same kind.Shape kind.Shape e = refl
kind_same kind.Arrow kind.Arrow e = refl
kind_same (kind.Mark a) (kind.Mark b) e = ap kind.Mark (eq_same a b e)
kind_same k j e = absurd cc

behind_by : (b : Bool) (t w : Plain) (ts rest : List Plain) → same_token t w ≡ b
    → (if b then Some ts else None) ≡ Some rest → t ∷ ts ≡ w ∷ rest
behind_by true t w ts rest s e =
    let h = both (same_kind t.kind w.kind) (bytes_eq t.bytes w.bytes) s in
    let p : t ≡ w = token_is t w (kind_same t.kind w.kind h.0) (bytes_same t.bytes w.bytes h.1) in
    let q : ts ≡ rest = some_is ts rest e in
    cc
behind_by false t w ts rest s e = absurd cc

pub behind_found : (w : Plain) (ts rest : List Plain) → behind w ts ≡ Some rest → ts ≡ w ∷ rest
behind_found w [] rest e = absurd cc
behind_found w (t ∷ ts) rest e = behind_by (same_token t w) t w ts rest refl e

pub all_found : (ws ts rest : List Plain) → behind_all ws ts ≡ Some rest → ts ≡ ws ++ rest
all_found [] ts rest e = some_is ts rest e
all_found (w ∷ ws) ts rest e = let a = bind_some (behind w ts) (behind_all ws) rest e in behind_found w ts a.0 a.1
    ∙ ap (λ r. w ∷ r) (all_found ws a.0 rest a.2)

bytes_by : (b : Bool) (k : TokenKind) (t : Plain) (ts : List Plain) (x : Name × List Plain) → same_kind t.kind k ≡ b
    → (if b then Some (t.bytes, ts) else None) ≡ Some x → t ∷ ts ≡ token k x.0 ∷ x.1
bytes_by true k t ts x s e =
    let q : (t.bytes, ts) ≡ x = some_is _ _ e in
    let p : t ≡ token k t.bytes = token_is t (token k t.bytes) (kind_same t.kind k s) refl in
    subst (λ (y : Name × List Plain). t ∷ ts ≡ token k y.0 ∷ y.1) q (ap (λ u. u ∷ ts) p)
bytes_by false k t ts x s e = absurd cc

pub bytes_found : (k : TokenKind) (ts : List Plain) (x : Name × List Plain) → bytes_front k ts ≡ Some x
    → ts ≡ token k x.0 ∷ x.1
bytes_found k [] x e = absurd cc
bytes_found k (t ∷ ts) x e = bytes_by (same_kind t.kind k) k t ts x refl e

pub at_end_is : {A : Type 0} (a x : A) (ts : List Plain) → at_end a ts ≡ Some x → (ts ≡ []) × (a ≡ x)
at_end_is a x [] e = (refl, some_is a x e)
at_end_is a x (t ∷ ts) e = absurd cc
