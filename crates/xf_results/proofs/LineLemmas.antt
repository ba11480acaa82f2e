-- Lines, one after another.
use Rattle.std.proofs.Common.{◌≡◌, ℕ, ◌+◌, ◌<◌, ◌≤◌, List, [], ◌∷◌, ◌++◌, length, drop, get_or, sym, ap, ◌∙◌}
use Rattle.std.proofs.lemmas.List.{drop_more, drop_all}
use Rattle.xf_sem.specs.declared.value.Value.{Value}
use Rattle.xf_results.specs.Results.{result_line, results_text}

pub next_line : (vs : List Value) (i : ℕ) (v : Value) → i < length vs → v ≡ get_or vs i v
    → results_text (drop i vs) ≡ result_line v ++ results_text (drop (i + 1) vs)
next_line vs i v lt is =
    ap results_text (drop_more vs i v lt ∙ ap (λ w. w ∷ drop (i + 1) vs) (sym is))

pub no_line : (vs : List Value) (i : ℕ) → length vs ≤ i → results_text (drop i vs) ≡ []
no_line vs i le = ap results_text (drop_all i vs le)
