-- Facts on each item of a list, and lists without repeats.
use Rattle.std.specs.Prelude.{◌≡◌, ℕ, List, [], ◌∷◌, Option, Some, None, Bool, true, false, ◌==◌, ◌&&◌, ◌||◌, not}
use Rattle.xf_ir.specs.declared.name.OpName.{OpName}

-- each item has the property
abbrev pub Each : {A : Type 0} → (A → Type 0) → List A → Type 0
Each P [] = Unit {0}
Each P (x ∷ xs) = P x × Each P xs

abbrev pub same_name : OpName → OpName → Bool
same_name a b = a.0 == b.0

-- whether a name is one of these
abbrev pub is_among : OpName → List OpName → Bool
is_among n [] = false
is_among n (m ∷ ms) = same_name m n || is_among n ms

-- whether each item passes
abbrev pub every : {A : Type 0} → (A → Bool) → List A → Bool
every p [] = true
every p (x ∷ xs) = p x && every p xs

-- whether some item passes
abbrev pub some : {A : Type 0} → (A → Bool) → List A → Bool
some p [] = false
some p (x ∷ xs) = p x || some p xs

abbrev pub is_empty : {A : Type 0} → List A → Bool
is_empty [] = true
is_empty (x ∷ xs) = false

-- whether what is there passes
abbrev pub option_passes : {A : Type 0} → (A → Bool) → Option A → Bool
option_passes p None = true
option_passes p (Some x) = p x

-- with an item before others, where there is one
abbrev pub item_before : {A : Type 0} → Option A → List A → List A
item_before None more = more
item_before (Some x) more = x ∷ more

-- what stands behind the first item
abbrev pub behind_first : {A : Type 0} → List A → List A
behind_first [] = []
behind_first (x ∷ xs) = xs

-- no name stands twice
abbrev pub Once : List OpName → Type 0
Once [] = Unit {0}
Once (n ∷ ns) = (is_among n ns ≡ false) × Once ns

-- whether two lists of bytes are equal
abbrev pub same_bytes : List ℕ → List ℕ → Bool
same_bytes [] [] = true
same_bytes [] (y ∷ ys) = false
same_bytes (x ∷ xs) [] = false
same_bytes (x ∷ xs) (y ∷ ys) = (x == y) && same_bytes xs ys

-- whether there is a text, and it is this one
abbrev pub is_text : List ℕ → Option (List ℕ) → Bool
is_text s None = false
is_text s (Some t) = same_bytes t s

-- whether a text is one of these
abbrev pub is_text_among : List ℕ → List (List ℕ) → Bool
is_text_among s [] = false
is_text_among s (t ∷ ts) = same_bytes t s || is_text_among s ts

-- no text stands twice
abbrev pub TextsOnce : List (List ℕ) → Type 0
TextsOnce [] = Unit {0}
TextsOnce (s ∷ ss) = (is_text_among s ss ≡ false) × TextsOnce ss

abbrev pub texts_once : List (List ℕ) → Bool
texts_once [] = true
texts_once (s ∷ ss) = not (is_text_among s ss) && texts_once ss
