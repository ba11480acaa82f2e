-- Groups of numbers, each with a head. Seen as the list that has at each number the head of its group.
use Rattle.std.specs.Prelude.{◌≡◌, ℕ, zero, suc, ◌<◌, ◌⊎◌, List, [], ◌∷◌, ◌++◌, length, slice_index}
use Rattle.xf_rings.specs.Ring.{Path}

abbrev pub In : ℕ → List ℕ → Type 0
In c [] = ⊥
In c (x ∷ xs) = (c ≡ x) ⊎ In c xs

abbrev pub Lacks : ℕ → List ℕ → Type 0
Lacks b [] = Unit {0}
Lacks b (x ∷ xs) = (x ≡ b → ⊥) × Lacks b xs

abbrev pub AllOnce : List ℕ → Type 0
AllOnce [] = Unit {0}
AllOnce (x ∷ xs) = Lacks x xs × AllOnce xs

abbrev pub AllOf : List ℕ → ℕ → ℕ → List ℕ → Type 0
AllOf owner size d [] = Unit {0}
AllOf owner size d (x ∷ xs) = ((x < size) × ((slice_index owner x ≡ d) × (x ≡ d → ⊥))) × AllOf owner size d xs

-- the numbers below a size, each at its own place
abbrev pub upto : ℕ → List ℕ
upto zero = []
upto (suc n) = upto n ++ n ∷ []

-- the members of d, as the ring has them
pub record IsRow (next owner : List ℕ) (d : ℕ) (xs : List ℕ) : Type 0 where
  pub path : Path next d xs d
  pub own : AllOf owner (length owner) d xs
  pub all : (c : ℕ) → c < length owner → slice_index owner c ≡ d → (c ≡ d → ⊥) → In c xs
  pub once : AllOnce xs

pub record AreGroups (next owner : List ℕ) : Type 0 where
  pub size : length next ≡ length owner
  pub flat : (c : ℕ) → c < length owner → (slice_index owner c < length owner)
      × (slice_index owner (slice_index owner c) ≡ slice_index owner c)
  pub rows : (d : ℕ) → d < length owner → slice_index owner d ≡ d → (xs : List ℕ) × IsRow next owner d xs

-- these are the members of d, each once
pub record AreMembers (owner : List ℕ) (d : ℕ) (xs : List ℕ) : Type 0 where
  pub own : AllOf owner (length owner) d xs
  pub all : (c : ℕ) → c < length owner → slice_index owner c ≡ d → (c ≡ d → ⊥) → In c xs
  pub once : AllOnce xs

-- what is left of a walk
pub record IsLeft (next : List ℕ) (from to : ℕ) (xs : List ℕ) : Type 0 where
  pub path : Path next from xs to
  pub lacks : Lacks to xs
  pub short : length xs < length next
  pub from_in : from < length next
