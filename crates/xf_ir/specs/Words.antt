-- Words: what symbols and names of attributes are made of (MLIR language reference: bare-id).
use Rattle.std.specs.Prelude.{◌≡◌, ℕ, List, [], ◌∷◌, Bool, true, false, ◌&&◌}
use Rattle.xf_type.specs.Bytes.{is_letter, is_word_byte}
use Rattle.xf_ir.specs.Lists.{Each, every}

-- a letter or _, and then letters, digits, _, $ and .
abbrev pub IsWord : List ℕ → Type 0
IsWord [] = ⊥
IsWord (b ∷ bs) = (is_letter b ≡ true) × Each (λ c. is_word_byte c ≡ true) bs

abbrev pub is_word : List ℕ → Bool
is_word [] = false
is_word (b ∷ bs) = is_letter b && every is_word_byte bs
