-- What the entries of a stack define, one entry more.
use Rattle.std.proofs.Common.{◌≡◌, ℕ, ◌+◌, ◌-◌, ◌<◌, ◌≤◌, List, [], ◌∷◌, ◌++◌, length, get_or, take, refl, ap, sym}
use Rattle.std.proofs.Common.{◌∙◌, arith, Some, None}
use Rattle.std.proofs.lemmas.List.{take_more}
use Rattle.xf_ir.specs.declared.name.ValueName.{ValueName}
use Rattle.xf_sem.specs.Meaning.{Env, item, item_or, extend, nowhere}
use Rattle.xf_eval_values.specs.declared.stack.Entry.{Entry}
use Rattle.xf_eval_values.specs.Stack.{numbering, env_from, env_of}

pub env_from-push : (env : Env) (es : List Entry) (e : Entry)
    → env_from env (es ++ e ∷ []) ≡ extend (numbering e) e.values (env_from env es)
env_from-push env [] e = refl
env_from-push env (d ∷ es) e = env_from-push (extend (numbering d) d.values env) es e

pub env_of-more : (es : List Entry) (i : ℕ) (e : Entry) (v : ValueName) → i < length es → e ≡ get_or es i e
    → env_of (take (i + 1) es) v ≡ item_or (numbering e v) e.values (env_of (take i es) v)
env_of-more es i e v h p =
    ap (λ l. env_of l v) (take_more es i e h ∙ ap (λ x. take i es ++ x ∷ []) (sym p))
    ∙ ap (λ f. f v) (env_from-push nowhere (take i es) e)

one_less : (n : ℕ) → 0 < n → (n - 1) + 1 ≡ n
one_less n h = omega arith

-- the last entry of those that are left, where it does not define a value and where it does
pub less_entries : (es : List Entry) (at : ℕ) (e : Entry) (v : ValueName) → 0 < at → at ≤ length es
    → e ≡ get_or es (at - 1) e → env_of (take at es) v ≡ env_of es v
    → item_or (numbering e v) e.values (env_of (take (at - 1) es) v) ≡ env_of es v
less_entries es at e v h k p q =
    sym (env_of-more es (at - 1) e v (omega arith) p)
    ∙ ap (λ n. env_of (take n es) v) (one_less at h) ∙ q

pub entry_without : (es : List Entry) (at : ℕ) (e : Entry) (v : ValueName) → 0 < at → at ≤ length es
    → e ≡ get_or es (at - 1) e → env_of (take at es) v ≡ env_of es v → numbering e v ≡ None
    → env_of (take (at - 1) es) v ≡ env_of es v
entry_without es at e v h k p q n =
    ap (λ o. item_or o e.values (env_of (take (at - 1) es) v)) (sym n) ∙ less_entries es at e v h k p q

pub entry_with : (es : List Entry) (at : ℕ) (e : Entry) (v : ValueName) (i : ℕ) → 0 < at → at ≤ length es
    → e ≡ get_or es (at - 1) e → env_of (take at es) v ≡ env_of es v → Some i ≡ numbering e v
    → item e.values i ≡ env_of es v
entry_with es at e v i h k p q n =
    ap (λ o. item_or o e.values (env_of (take (at - 1) es) v)) n ∙ less_entries es at e v h k p q
