-- What is read as a script is one, and each script is read.
use Rattle.std.proofs.Common.{◌≡◌, ◌⊎◌, inl, inr, ℕ, Bool, true, false, List, [], ◌∷◌, ◌++◌, Option, Some, None, refl}
use Rattle.std.proofs.Common.{sym, ap, subst, ◌∙◌}
use Rattle.std.specs.Prelude.{codes, if◌then◌else◌}
use Rattle.std.specs.Option.{is_some}
use Rattle.std.specs.Str.{bytes_eq}
use Rattle.std.specs.Prelude.{map}
use Rattle.std.proofs.lemmas.Slice.Eq.{bytes_eq-Decides}
use Rattle.xf_lex.specs.declared.token.TokenKind.TheVariants as kind
use Rattle.xf_lex.specs.Layout.{Plain}
use Rattle.xf_text.specs.Script.{any_op, yield_tokens, script_tokens, IsScript}
use Rattle.xf_text.specs.Reading.{◌>>=◌, Gives, behind, behind_all, begins, bytes_front, at_end, sequence_front}
use Rattle.xf_text.specs.Reading.{step_front, yield_front, script_front, script_read}
use Rattle.xf_text.specs.Tokens.{Name, token, word, value, mark, colon}
use Rattle.xf_lex.specs.declared.token.Token.{Token}
use Rattle.xf_lex.specs.Layout.{plain}
use Rattle.xf_lex.specs.Lexes.{Lexes}
use Rattle.xf_lex.proofs.Lexing.{one_reading}
use Rattle.xf_text.proofs.Found.{some_is, bind_some, either, bytes_same, behind_found, all_found, bytes_found}
use Rattle.xf_text.proofs.Found.{at_end_is}

sequence_found : (ts : List Plain) (x : Name × List Plain) → sequence_front ts ≡ Some x
    → ts ≡ word (codes "module") ∷ word (codes "attributes") ∷ mark 123 ∷ word (codes "transform.with_named_sequence")
    ∷ mark 125 ∷ mark 123
    ∷ word (codes "transform.named_sequence") ∷ token kind.Symbol (codes "@__transform_main") ∷ mark 40 ∷ value x.0
    ∷ colon ∷ any_op ∷ mark 41 ∷ mark 123 ∷ x.1
unfolding sequence_front
sequence_found ts x e =
    let outer : List Plain = word (codes "module") ∷ word (codes "attributes") ∷ mark 123
    ∷ word (codes "transform.with_named_sequence") ∷ mark 125 ∷ mark 123 ∷ [] in
    let inner : List Plain =
    word (codes "transform.named_sequence") ∷ token kind.Symbol (codes "@__transform_main") ∷ mark 40 ∷ [] in
    let typed : List Plain = colon ∷ any_op ∷ mark 41 ∷ mark 123 ∷ [] in
    let a = bind_some (behind_all outer ts) (λ body. behind_all inner body >>= λ params.
    bytes_front kind.Value params >>= λ n. behind_all typed n.1 >>= λ after. Some (n.0, after)) x e in
    let b = bind_some (behind_all inner a.0)
    (λ params. bytes_front kind.Value params >>= λ n. behind_all typed n.1 >>= λ after. Some (n.0, after)) x a.2 in
    let d = bind_some (bytes_front kind.Value b.0) (λ n. behind_all typed n.1 >>= λ after. Some (n.0, after)) x b.2 in
    let g = bind_some (behind_all typed d.0.1) (λ after. Some (d.0.0, after)) x d.2 in
    let q : (d.0.0, g.0) ≡ x = some_is (d.0.0, g.0) x g.2 in
    let P : Name × List Plain → Type 0 = λ y. ts ≡ outer ++ (inner ++ (value y.0 ∷ (typed ++ y.1))) in
    subst P q (all_found outer ts a.0 a.1 ∙ ap (λ r. outer ++ r) (all_found inner a.0 b.0 b.1 ∙ ap (λ r. inner
    ++ r) (bytes_found kind.Value b.0 d.0 d.1 ∙ ap (λ r. value d.0.0 ∷ r) (all_found typed d.0.1 g.0 g.1))))

step_found : (ts : List Plain) (x : Name × List Plain) → step_front ts ≡ Some x
    → ts ≡ word (codes "transform.apply_dce") ∷ word (codes "to") ∷ value x.0 ∷ colon ∷ any_op ∷ x.1
unfolding step_front
step_found ts x e =
    let front : List Plain = word (codes "transform.apply_dce") ∷ word (codes "to") ∷ [] in
    let typed : List Plain = colon ∷ any_op ∷ [] in
    let a = bind_some (behind_all front ts)
    (λ rest. bytes_front kind.Value rest >>= λ n. behind_all typed n.1 >>= λ after. Some (n.0, after)) x e in
    let b = bind_some (bytes_front kind.Value a.0) (λ n. behind_all typed n.1 >>= λ after. Some (n.0, after)) x a.2 in
    let d = bind_some (behind_all typed b.0.1) (λ after. Some (b.0.0, after)) x b.2 in
    let q : (b.0.0, d.0) ≡ x = some_is (b.0.0, d.0) x d.2 in
    let P : Name × List Plain → Type 0 = λ y. ts ≡ front ++ (value y.0 ∷ (typed ++ y.1)) in
    subst P q (all_found front ts a.0 a.1 ∙ ap (λ r. front ++ r) (bytes_found kind.Value a.0 b.0 b.1
    ∙ ap (λ r. value b.0.0 ∷ r) (all_found typed b.0.1 d.0 d.1)))

yield_found : (ts rest : List Plain) → yield_front ts ≡ Some rest → (yields : Bool) × (ts ≡ yield_tokens yields ++ rest)
unfolding yield_front
yield_found ts rest e = by
    (either (begins (word (codes "transform.yield")) ts) (behind (word (codes "transform.yield")) ts) (Some ts) rest e)
  where
    by : (behind (word (codes "transform.yield")) ts ≡ Some rest) ⊎ (Some ts ≡ Some rest)
        → (yields : Bool) × (ts ≡ yield_tokens yields ++ rest)
    by (inl h) = (true, behind_found (word (codes "transform.yield")) ts rest h)
    by (inr h) = (false, some_is ts rest h)

-- both names are the same, and the rest is read
same_then : (b : Bool) (a n : Name) (o : Option (List Plain)) (rest : List Plain) → bytes_eq a n ≡ b
    → (if b then o else None) ≡ Some rest → (a ≡ n) × (o ≡ Some rest)
same_then true a n o rest s e = (bytes_same a n s, e)
same_then false a n o rest s e = absurd cc

-- what is read as a script is one
script_found : (ts : List Plain) (n : Name) → script_read ts ≡ Some n → (yields : Bool) × (ts ≡ script_tokens n yields)
unfolding script_read script_front
script_found ts n e =
    let z = bind_some (script_front ts) (λ name. at_end name.0 name.1) n e in
    let a = bind_some (sequence_front ts) (λ argument. step_front argument.1 >>= λ target.
    (if bytes_eq argument.0 target.0 then yield_front target.1 else None) >>= λ rest.
    behind_all (mark 125 ∷ mark 125 ∷ []) rest >>= λ after. Some (argument.0, after)) z.0 z.1 in
    let b = bind_some (step_front a.0.1) (λ target. (if bytes_eq a.0.0 target.0 then yield_front target.1 else None)
    >>= λ rest. behind_all (mark 125 ∷ mark 125 ∷ []) rest >>= λ after. Some (a.0.0, after)) z.0 a.2 in
    let d = bind_some (if bytes_eq a.0.0 b.0.0 then yield_front b.0.1
    else None) (λ rest. behind_all (mark 125 ∷ mark 125 ∷ []) rest >>= λ after. Some (a.0.0, after)) z.0 b.2 in
    let g = bind_some (behind_all (mark 125 ∷ mark 125 ∷ []) d.0) (λ after. Some (a.0.0, after)) z.0 d.2 in
    let q : (a.0.0, g.0) ≡ z.0 = some_is (a.0.0, g.0) z.0 g.2 in
    let names = same_then (bytes_eq a.0.0 b.0.0) a.0.0 b.0.0 (yield_front b.0.1) d.0 refl d.1 in
    let y = yield_found b.0.1 d.0 names.1 in
    let h = at_end_is z.0.0 n z.0.1 z.2 in
    let name : a.0.0 ≡ n = ap (λ (x : Name × List Plain). x.0) q ∙ h.1 in
    let last : g.0 ≡ [] = ap (λ (x : Name × List Plain). x.1) q ∙ h.0 in (
      y.0,
      script_joined ts a.0.1 b.0.1 d.0 g.0 a.0.0 b.0.0 n y.0 (sequence_found ts a.0 a.1)
          (step_found a.0.1 b.0 b.1) y.1 (all_found (mark 125 ∷ mark 125 ∷ []) d.0 g.0 g.1) names.0 name last,
    )
  where
    script_joined : (ts a b d g : List Plain) (argument target n : Name) (yields : Bool)
        → ts ≡ word (codes "module") ∷ word (codes "attributes") ∷ mark 123
        ∷ word (codes "transform.with_named_sequence") ∷ mark 125 ∷ mark 123 ∷ word (codes "transform.named_sequence")
        ∷ token kind.Symbol (codes "@__transform_main") ∷ mark 40 ∷ value argument ∷ colon ∷ any_op ∷ mark 41
        ∷ mark 123 ∷ a
        → a ≡ word (codes "transform.apply_dce") ∷ word (codes "to") ∷ value target ∷ colon ∷ any_op ∷ b
        → b ≡ yield_tokens yields ++ d → d ≡ mark 125 ∷ mark 125 ∷ g → argument ≡ target → argument ≡ n → g ≡ []
        → ts ≡ script_tokens n yields
    script_joined ts a b d g argument target n yields p q r s same name last =
        rw (p, q, r, s, last, sym same, name) refl

bytes_self : (xs : List ℕ) → bytes_eq xs xs ≡ true
bytes_self xs = (bytes_eq-Decides xs xs).1 refl

-- each script is read
script_again : (n : Name) (yields : Bool) → script_read (script_tokens n yields) ≡ Some n
unfolding script_read script_front sequence_front step_front yield_front
script_again n true = rw (bytes_self n) refl
script_again n false = rw (bytes_self n) refl

script_is : (bytes : List ℕ) (ts : List Token) (n : Name) → Lexes bytes ts → script_read (map plain ts) ≡ Some n
    → IsScript bytes
script_is bytes ts n l e =
    let s = script_found (map plain ts) n e in record { argument = n; yields = s.0; tokens = ts; lexes = l; are = s.1 }

script_not : (bytes : List ℕ) (ts : List Token) → Lexes bytes ts → script_read (map plain ts) ≡ None
    → IsScript bytes → ⊥
script_not bytes ts l e s =
    let same : ts ≡ s.tokens = one_reading bytes ts s.tokens l s.lexes in
    let again = ap (λ (x : List Token). script_read (map plain x)) same ∙ ap script_read s.are
    ∙ script_again s.argument s.yields in
    absurd cc

-- what the reader's answer says of the text
pub taken_is : {A : Type 0} (view : A → Name) (answer : Option A) (bytes : List ℕ) (ts : List Token) → Lexes bytes ts
    → Gives view answer (script_read (map plain ts)) → is_some answer ≡ true → IsScript bytes
taken_is view None bytes ts l g e = absurd cc
taken_is view (Some x) bytes ts l g e = script_is bytes ts (view x) l g

pub refused_is_not : {A : Type 0} (view : A → Name) (answer : Option A) (bytes : List ℕ) (ts : List Token)
    → Lexes bytes ts → Gives view answer (script_read (map plain ts)) → is_some answer ≡ false → IsScript bytes → ⊥
refused_is_not view None bytes ts l g e s = script_not bytes ts l g s
refused_is_not view (Some x) bytes ts l g e s = absurd cc
