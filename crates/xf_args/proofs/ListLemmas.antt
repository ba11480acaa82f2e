-- Arguments, one after another.
use Rattle.std.proofs.Common.{◌≡◌, ℕ, suc, ◌+◌, List, [], ◌∷◌, ◌++◌, length, Option, Some, None, refl, sym, ap}
use Rattle.std.proofs.Common.{subst, ◌∙◌, Result, Ok, Err, IfOk, true, false, ◌≤◌, ◌-◌, arith, ◌≢◌}
use Rattle.std.specs.Prelude.{◌==◌}
use Rattle.std.proofs.lemmas.Bool.{eq-eqb, ne_eqb}
use Rattle.xf_span.specs.declared.fault.Fault.{Fault}
use Rattle.xf_span.specs.declared.fault.TextFault.{TextFault}
use Rattle.xf_span.specs.declared.fault.TextFault.TheVariants as text_fault
use Rattle.xf_lex.specs.declared.token.Token.{Token}
use Rattle.xf_lex.specs.Lexes.{Lexes, IsRefused}
use Rattle.xf_lex.proofs.Lexing.{one_reading, never_both}
use Rattle.xf_grammar.specs.Tokens.{looks, comma}
use Rattle.xf_sem.specs.declared.value.Value.{Value}
use Rattle.xf_sem.specs.Tensors.{before_all}
use Rattle.xf_args.specs.Arguments.{argument_at, arguments_from, arguments_of, behind_all, Lists}

pub none_behind : (vs : List Value) → behind_all vs None ≡ None
none_behind vs = refl

pub behind_one : (vs : List Value) (v : Value) (o : Option (List Value))
    → behind_all (vs ++ v ∷ []) o ≡ behind_all vs (before_all v o)
behind_one vs v None = refl
behind_one vs v (Some ws) = ap Some (append_one vs v ws)
  where
    append_one : (xs : List Value) (x : Value) (ys : List Value) → (xs ++ x ∷ []) ++ ys ≡ xs ++ x ∷ ys
    append_one [] x ys = refl
    append_one (z ∷ xs) x ys = ap (λ zs. z ∷ zs) (append_one xs x ys)

-- ---- a turn, with one more to come

pub turn_none : (n m : ℕ) (all : List Token) (vs : List Value) (at : ℕ) → n ≡ suc m → argument_at all at ≡ None
    → behind_all vs (arguments_from n all at) ≡ None
turn_none n m all vs at e h = subst (λ k. behind_all vs (arguments_from k all at) ≡ None) (sym e) (rw h refl)

pub turn_end : (n m : ℕ) (all : List Token) (vs : List Value) (at : ℕ) (x : Value × ℕ) → n ≡ suc m
    → argument_at all at ≡ Some x → x.1 ≡ length all
    → behind_all vs (arguments_from n all at) ≡ Some (vs ++ x.0 ∷ [])
turn_end n m all vs at x e h q =
    subst (λ k. behind_all vs (arguments_from k all at) ≡ Some (vs ++ x.0 ∷ [])) (sym e)
    (rw h rw (eq-eqb x.1 (length all) q) refl)

pub turn_stop : (n m : ℕ) (all : List Token) (vs : List Value) (at : ℕ) (x : Value × ℕ) → n ≡ suc m
    → argument_at all at ≡ Some x → x.1 ≢ length all → looks all x.1 comma ≡ false
    → behind_all vs (arguments_from n all at) ≡ None
turn_stop n m all vs at x e h q k =
    subst (λ z. behind_all vs (arguments_from z all at) ≡ None) (sym e) (rw h rw (ne_eqb x.1 (length all) q) rw k refl)

pub turn_on : (n m : ℕ) (all : List Token) (vs : List Value) (at : ℕ) (x : Value × ℕ) → n ≡ suc m
    → argument_at all at ≡ Some x → x.1 ≢ length all → looks all x.1 comma ≡ true
    → behind_all (vs ++ x.0 ∷ []) (arguments_from m all (x.1 + 1)) ≡ behind_all vs (arguments_from n all at)
turn_on n m all vs at x e h q k =
    subst (λ z. behind_all (vs ++ x.0 ∷ []) (arguments_from m all (x.1 + 1)) ≡ behind_all vs (arguments_from z all at))
    (sym e) (rw h rw (ne_eqb x.1 (length all) q) rw k (behind_one vs x.0 (arguments_from m all (x.1 + 1))))

pub turn_on_to : (n m : ℕ) (ws : List Value) (all : List Token) (vs : List Value) (at : ℕ) (x : Value × ℕ)
    → ws ≡ vs ++ x.0 ∷ [] → n ≡ suc m → argument_at all at ≡ Some x → x.1 ≢ length all → looks all x.1 comma ≡ true
    → behind_all ws (arguments_from m all (x.1 + 1)) ≡ behind_all vs (arguments_from n all at)
turn_on_to n m ws all vs at x p e h q k =
    ap (λ us. behind_all us (arguments_from m all (x.1 + 1))) p ∙ turn_on n m all vs at x e h q k

pub some_tokens : (all : List Token) → (length all == 0) ≡ false
    → arguments_of all ≡ arguments_from (length all) all 0
some_tokens [] h = cc
some_tokens (t ∷ ts) h = refl

pub one_more : (n t : ℕ) → t + 1 ≤ n → n - t ≡ suc (n - (t + 1))
one_more n t h = omega (arith, h)

-- ---- texts

pub lists_of : {E : Type 0} (bs : List ℕ) (ts us : List Token) (r : Result (Option (List Value)) E) → Lexes bs ts
    → us ≡ ts → IfOk r (λ o. o ≡ arguments_of us) → IfOk r (λ o. Lists bs o)
lists_of bs ts us (Ok (Some vs)) h q e = (ts, (h, sym (e ∙ ap arguments_of q)))
lists_of bs ts us (Ok None) h q e =
    λ ws l. ap arguments_of (one_reading bs ws ts l h) ∙ sym (e ∙ ap arguments_of q)
lists_of bs ts us (Err x) h q e = tt

pub lists_none : (bs : List ℕ) (e : TextFault) (f : Fault) → e ≡ text_fault.At f → IsRefused bs e → Lists bs None
lists_none bs e f q h = λ ts l. elim (never_both bs ts f l (subst (IsRefused bs) q h)) [ ]
