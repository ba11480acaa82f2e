-- What stands first where a digit does.
use Rattle.std.proofs.Common.{◌≡◌, ℕ, ◌+◌, ◌-◌, ◌≤◌, Bool, true, false, List, [], ◌∷◌, length, take, drop, get_or, ap}
use Rattle.std.proofs.Common.{◌∙◌, add-one, arith}
use Rattle.std.proofs.lemmas.List.{take_all}
use Rattle.xf_type.specs.Bytes.{is_digit, is_letter}
use Rattle.xf_lex.specs.Bytes.{run}
use Rattle.xf_lex.specs.Lexemes.{integer_of, token_at}

pub digit_front : (after_tensor : Bool) (bs : List ℕ) (n : ℕ) → 1 ≤ length bs → is_letter (get_or bs 0 0) ≡ false
    → is_digit (get_or bs 0 0) ≡ true → n ≡ run is_digit (take (length bs - 1) (drop 1 bs))
    → integer_of (take (n + 1) bs) ≡ token_at after_tensor bs
digit_front after_tensor [] n le letter digit e = absurd (omega arith)
digit_front after_tensor (b ∷ bs) n le letter digit e =
    let counted : n ≡ run is_digit bs = e ∙ ap (run is_digit) (take_all (length (b ∷ bs) - 1) bs (omega arith)) in
    rw (letter, digit) (ap (λ k. integer_of (take k (b ∷ bs))) (add-one n)
    ∙ ap (λ k. integer_of (b ∷ take k bs)) counted)
