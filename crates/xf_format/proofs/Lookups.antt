-- Words that are looked up in one table and then in another.
use Rattle.std.proofs.Common.{◌≡◌, ℕ, Bool, true, false, List, [], ◌∷◌, ◌++◌, Option, Some, None, refl, sym, ◌∙◌}
use Rattle.std.specs.Prelude.{if◌then◌else◌}
use Rattle.std.specs.Str.{bytes_eq}
use Rattle.xf_format.specs.Words.{Table, lookup}

-- what two looks find, one behind the other
abbrev or_else : {A : Type 0} → Option A → Option A → Option A
or_else (Some a) o = Some a
or_else None o = o

chosen : {A : Type 0} (b : Bool) (a : A) (p q : Option A)
    → let l : Option A = (if b then Some a else or_else p q) in l ≡ or_else (if b then Some a else p) q
chosen true a p q = refl
chosen false a p q = refl

joined : {A : Type 0} (t u : Table A) (w : List ℕ) → lookup (t ++ u) w ≡ or_else (lookup t w) (lookup u w)
joined [] u w = refl
joined (e ∷ t) u w = rw (joined t u w) (chosen (bytes_eq w e.0) e.1 (lookup t w) (lookup u w))

pub found_here : {A : Type 0} (t u : Table A) (w : List ℕ) (a : A) → Some a ≡ lookup t w → Some a ≡ lookup (t ++ u) w
found_here t u w a e = sym (joined t u w ∙ rw (sym e) refl)

pub found_there : {A : Type 0} (t u : Table A) (w : List ℕ) (o : Option A) → None ≡ lookup t w → o ≡ lookup u w
    → o ≡ lookup (t ++ u) w
found_there t u w o n e = sym (joined t u w ∙ rw (sym n) (sym e))
