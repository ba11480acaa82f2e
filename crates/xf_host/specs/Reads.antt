use Rattle.std.specs.Prelude.{◌≡◌, ◌≤◌, ℕ, List, ◌++◌, length, take}

-- new is old followed by a prefix of the text
abbrev pub AppendsPrefix : List ℕ → List ℕ → List ℕ → Type 0
AppendsPrefix text old new = (n : ℕ) × (new ≡ old ++ take n text)

-- new is old followed by at most max bytes
pub record AppendsAtMost (max : ℕ) (old new : List ℕ) : Type 0 where
  pub text : List ℕ
  pub fits : length text ≤ max
  pub is : new ≡ old ++ text
