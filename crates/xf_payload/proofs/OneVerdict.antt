-- A file holds one valid module or has one fault, and not both.
use Rattle.std.proofs.Common.{◌≡◌, inl, inr, ℕ, suc, ◌<◌, List, length, Some, None, Ok, sym, ap, subst, ◌∙◌, arith}
use Rattle.xf_span.specs.declared.place.Place.{Place}
use Rattle.xf_span.specs.declared.fault.Fault.{Fault}
use Rattle.xf_lex.specs.declared.token.Token.{Token}
use Rattle.xf_lex.proofs.Lexing.{one_reading}
use Rattle.xf_grammar.specs.Reading.{Out}
use Rattle.xf_ir.specs.declared.op.Module.{Module}
use Rattle.xf_ir.specs.Valid.{IsValid}
use Rattle.xf_ir.specs.Violations.{Violation, first_violation}
use Rattle.xf_ir_laws.proofs.ViolationLaw.{valid_has_no_violation}
use Rattle.xf_format.specs.declared.expected.Expected.{Expected}
use Rattle.xf_syntax.specs.declared.tree.File.{File}
use Rattle.xf_syntax.specs.Laws.{IsText}
use Rattle.xf_read.specs.Meant.{places_of}
use Rattle.xf_read.specs.Spells.{HasPlaces}
use Rattle.xf_syntax.specs.File.{file_at}
use Rattle.xf_read.proofs.Meanings.{spells_one, misspells_one, spells_or_not}
use Rattle.xf_payload.specs.Payload.{BreaksARule, rule_fault}
use Rattle.xf_payload.specs.Laws.{HoldsOne, HasOneFault, HoldsOrNot}

-- ---- places

enough : (all : List Token) → length all < suc (length all)
enough all = omega arith

ok_same : (r : Out File Expected) (x y : File × ℕ) → r ≡ Ok x → r ≡ Ok y → x ≡ y
ok_same r x y p q = cc

one_file : (all : List Token) (f g : File) → IsText all f → IsText all g → f ≡ g
one_file all f g a b = ap (λ (x : File × ℕ). x.0) (ok_same (file_at (suc (length all)) all) (f, length all) (
  g,
  length all,
) (a (suc (length all)) (enough all)) (b (suc (length all)) (enough all)))

places_one : (bytes : List ℕ) (ps qs : List Place) → HasPlaces bytes ps → HasPlaces bytes qs → ps ≡ qs
places_one bytes ps qs x y =
    let t : y.tokens ≡ x.tokens = one_reading bytes y.tokens x.tokens y.lexes x.lexes in
    let it : IsText x.tokens y.file = subst (λ ts. IsText ts y.file) t y.is_text in
    let f : y.file ≡ x.file = one_file x.tokens y.file x.file it x.is_text in
    x.are ∙ sym (y.are ∙ (ap (λ ts. places_of ts y.file) t ∙ ap (places_of x.tokens) f))

-- ---- rules

no_violation : (m : Module) (v : Violation) → IsValid m → first_violation m ≡ Some v → ⊥
no_violation m v valid e = let none : first_violation m ≡ None = (valid_has_no_violation m).0 valid in cc

violations_same : (m : Module) (v w : Violation) → first_violation m ≡ Some v → first_violation m ≡ Some w → v ≡ w
violations_same m v w e q = cc

breaks_same : (file : List ℕ) (f g : Fault) → BreaksARule file f → BreaksARule file g → f ≡ g
breaks_same file f g x y =
    let m : x.before ≡ y.before = spells_one file x.before y.before x.spells y.spells in
    let v : x.violation ≡ y.violation = violations_same y.before x.violation y.violation
    (subst (λ n. first_violation n ≡ Some x.violation) m x.breaks) y.breaks in
    let p : x.places ≡ y.places = places_one file x.places y.places x.has_places y.has_places in
    x.is ∙ (ap (λ ps. rule_fault ps x.violation) p ∙ (ap (rule_fault y.places) v ∙ sym y.is))

-- ---- one verdict

pub holds_one : HoldsOne
holds_one file m n x y = spells_one file m n x.spells y.spells

pub has_one_fault : HasOneFault
has_one_fault file f g (inl x) (inl y) = x.is ∙ sym y.is
has_one_fault file f g (inl x) (inr (inl y)) = absurd (let a = x.passes in let b = y.fits in omega arith)
has_one_fault file f g (inl x) (inr (inr y)) = absurd (let a = x.passes in let b = y.fits in omega arith)
has_one_fault file f g (inr (inl x)) (inl y) = absurd (let a = x.fits in let b = y.passes in omega arith)
has_one_fault file f g (inr (inl x)) (inr (inl y)) = misspells_one file f g x.misspells y.misspells
has_one_fault file f g (inr (inl x)) (inr (inr y)) = absurd (spells_or_not file y.before f y.spells x.misspells)
has_one_fault file f g (inr (inr x)) (inl y) = absurd (let a = x.fits in let b = y.passes in omega arith)
has_one_fault file f g (inr (inr x)) (inr (inl y)) = absurd (spells_or_not file x.before g x.spells y.misspells)
has_one_fault file f g (inr (inr x)) (inr (inr y)) = breaks_same file f g x y

pub holds_or_not : HoldsOrNot
holds_or_not file m f x (inl y) = let a = x.fits in let b = y.passes in omega arith
holds_or_not file m f x (inr (inl y)) = spells_or_not file m f x.spells y.misspells
holds_or_not file m f x (inr (inr y)) =
    no_violation y.before y.violation (subst IsValid (spells_one file m y.before x.spells y.spells) x.valid) y.breaks
