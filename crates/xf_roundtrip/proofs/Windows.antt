-- What is printed of windows, maps and dense constants is said again.
use Rattle.std.proofs.Common.{◌≡◌, ℕ, true, List, [], ◌∷◌, refl, ap, ◌∙◌}
use Rattle.std.specs.Prelude.{map}
use Rattle.xf_type.specs.declared.attribute.AffineMap.{AffineMap}
use Rattle.xf_type.specs.declared.payload_type.Shape.{Shape}
use Rattle.xf_format.specs.Parts.{written_map}
use Rattle.xf_ir.specs.declared.kind.SliceIndex.{SliceIndex}
use Rattle.xf_ir.specs.declared.kind.SliceIndex.TheVariants.{Fixed, Dynamic}
use Rattle.xf_ir.specs.Lists.{Each, every}
use Rattle.xf_ir.specs.RuleAttributes.{fits_bits, numbers_of}
use Rattle.xf_read_base.specs.Elements.{numbers_meant, shortened}
use Rattle.xf_read_base.specs.Structured.{Aliases, window_meant, maps_meant}
use Rattle.xf_print_laws.specs.SaidPrinted.{index_printed, body_printed}
use Rattle.xf_print_laws.specs.Stored.{IsShortIndex}
use Rattle.xf_roundtrip.proofs.Elements.{elements_again, shortened_is}
use Rattle.xf_roundtrip.proofs.Literals.{signed_again}

pub window_again : (is : List SliceIndex) → Each IsShortIndex is → window_meant (map index_printed is) ≡ is
window_again [] e = refl
window_again (Fixed n ∷ is) e =
    ap (λ m. Fixed m ∷ window_meant (map index_printed is)) (signed_again n e.0)
    ∙ ap (λ js. Fixed n ∷ js) (window_again is e.1)
window_again (Dynamic ∷ is) e = ap (λ js. Dynamic ∷ js) (window_again is e.1)

pub maps_again : (aliases : Aliases) (ms : List AffineMap) → maps_meant aliases (map written_map ms) ≡ ms
maps_again aliases [] = refl
maps_again aliases (m ∷ ms) = ap (λ ns. m ∷ ns) (maps_again aliases ms)

pub numbers_again : (s : Shape) (count : ℕ) (ns : List ℕ) → numbers_of count ns ≡ true
    → every (fits_bits s.elem) ns ≡ true → numbers_meant s.elem (body_printed s ns) ≡ ns
numbers_again s count [] e f = refl
numbers_again s count (n ∷ []) e f = ap shortened (elements_again s.elem (n ∷ []) f)
numbers_again s count (n ∷ (m ∷ ns)) e f =
    ap shortened (elements_again s.elem (n ∷ (m ∷ ns)) f) ∙ shortened_is count (n ∷ (m ∷ ns)) e
