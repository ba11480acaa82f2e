-- Dense constants, one element after another.
use Rattle.std.specs.Prelude.{◌≡◌, ℕ, ◌<◌, List, [], ◌∷◌, Option, Some, None, true, false, map, get_or}
use Rattle.xf_type.specs.declared.payload_type.Width.{Width}
use Rattle.xf_type.specs.declared.payload_type.Elem.{Elem}
use Rattle.xf_type.specs.declared.payload_type.Elem.TheVariants.{Num, NoNumber}
use Rattle.xf_points.specs.Points.{counted}
use Rattle.xf_sem.specs.Values.{fits_width}

abbrev pub number_elem : Option ℕ → Elem
number_elem None = NoNumber
number_elem (Some n) = Num n

-- the element with this number: the number of all, or the next of the list
abbrev pub dense_elem : List ℕ → ℕ → Elem
dense_elem (n ∷ []) k = Num n
dense_elem ns k = get_or (map (λ n. Num n) ns) k NoNumber

-- the first elements, so many
abbrev pub dense_list : List ℕ → ℕ → List Elem
dense_list ns count = map (dense_elem ns) (counted 0 count)

-- whether the first elements, so many, are of the width
abbrev pub AllFit : Width → List ℕ → ℕ → Type 0
AllFit w ns count = (k : ℕ) → k < count → fits_width w (dense_elem ns k) ≡ true

-- one of the first elements, so many, that is not of the width
abbrev pub SomeUnfit : Width → List ℕ → ℕ → Type 0
SomeUnfit w ns count = (k : ℕ) × ((k < count) × (fits_width w (dense_elem ns k) ≡ false))
