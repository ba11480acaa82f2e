-- What is read at a point.
use Rattle.std.proofs.Common.{◌≡◌, ◌≢◌, ℕ, suc, List, [], ◌∷◌, length, get_or, refl, sym, ap, ◌∙◌, arith}
use Rattle.xf_type.specs.declared.payload_type.Width.{Width}
use Rattle.xf_type.specs.declared.payload_type.Elem.{Elem}
use Rattle.xf_type.specs.declared.payload_type.Elem.TheVariants.{NoNumber}
use Rattle.xf_points.specs.Points.{Point, at}
use Rattle.xf_points.specs.Operands.{reads}
use Rattle.xf_sem.specs.declared.value.Value.{Value}
use Rattle.xf_sem.specs.Tensors.{items_of}
use Rattle.xf_sem.specs.Structured.{operands, fill_body, product_body}

pub reads_length : (maps : List (List ℕ)) (ins : List Value) (p : Point) → length maps ≡ length ins
    → length (reads (operands maps ins) p) ≡ length ins
reads_length [] [] p h = refl
reads_length [] (v ∷ vs) p h = cc
reads_length (ks ∷ maps) [] p h = cc
reads_length (ks ∷ maps) (v ∷ vs) p h = ap suc (reads_length maps vs p (omega arith))

fill_none : (p : Point) (xs : List Elem) (a : Elem) → length xs ≢ 1 → NoNumber ≡ fill_body p xs a
fill_none p [] a h = refl
fill_none p (x ∷ []) a h = absurd (h refl)
fill_none p (x ∷ (y ∷ xs)) a h = refl

product_none : (w : Width) (p : Point) (xs : List Elem) (a : Elem) → length xs ≢ 2 → NoNumber ≡ product_body w p xs a
product_none w p [] a h = refl
product_none w p (x ∷ []) a h = refl
product_none w p (x ∷ (y ∷ [])) a h = absurd (h refl)
product_none w p (x ∷ (y ∷ (z ∷ xs))) a h = refl

pub not_filled : (maps : List (List ℕ)) (ins : List Value) (p : Point) (a : Elem) → length maps ≡ length ins
    → length ins ≢ 1 → NoNumber ≡ fill_body p (reads (operands maps ins) p) a
not_filled maps ins p a h n =
    fill_none p (reads (operands maps ins) p) a (λ e. n (sym (reads_length maps ins p h) ∙ e))

pub not_multiplied : (w : Width) (maps : List (List ℕ)) (ins : List Value) (p : Point) (a : Elem)
    → length maps ≡ length ins → length ins ≢ 2 → NoNumber ≡ product_body w p (reads (operands maps ins) p) a
not_multiplied w maps ins p a h n =
    product_none w p (reads (operands maps ins) p) a (λ e. n (sym (reads_length maps ins p h) ∙ e))

pub one_read : (maps : List (List ℕ)) (ins : List Value) (p : Point) (m : List ℕ) (v : Value)
    → length maps ≡ length ins → length ins ≡ 1 → m ≡ get_or maps 0 m → v ≡ get_or ins 0 v
    → reads (operands maps ins) p ≡ items_of v (at m p) ∷ []
one_read [] ins p m v h k e q = absurd (omega arith)
one_read (ks ∷ maps) [] p m v h k e q = absurd (omega arith)
one_read (ks ∷ []) (u ∷ []) p m v h k e q = cc
one_read (ks ∷ []) (u ∷ (u' ∷ us)) p m v h k e q = absurd (omega arith)
one_read (ks ∷ (ks' ∷ maps)) (u ∷ us) p m v h k e q = absurd (omega arith)

pub two_read : (maps : List (List ℕ)) (ins : List Value) (p : Point) (m m' : List ℕ) (v v' : Value)
    → length maps ≡ length ins → length ins ≡ 2 → m ≡ get_or maps 0 m → v ≡ get_or ins 0 v
    → m' ≡ get_or maps 1 m' → v' ≡ get_or ins 1 v'
    → reads (operands maps ins) p ≡ items_of v (at m p) ∷ (items_of v' (at m' p) ∷ [])
two_read [] ins p m m' v v' h k e q e' q' = absurd (omega arith)
two_read (ks ∷ maps) [] p m m' v v' h k e q e' q' = absurd (omega arith)
two_read (ks ∷ []) (u ∷ us) p m m' v v' h k e q e' q' = absurd (omega arith)
two_read (ks ∷ (ks' ∷ maps)) (u ∷ []) p m m' v v' h k e q e' q' = absurd (omega arith)
two_read (ks ∷ (ks' ∷ [])) (u ∷ (u' ∷ [])) p m m' v v' h k e q e' q' = cc
two_read (ks ∷ (ks' ∷ (ks'' ∷ maps))) (u ∷ (u' ∷ us)) p m m' v v' h k e q e' q' = absurd (omega arith)
two_read (ks ∷ (ks' ∷ [])) (u ∷ (u' ∷ (u'' ∷ us))) p m m' v v' h k e q e' q' = absurd (omega arith)
