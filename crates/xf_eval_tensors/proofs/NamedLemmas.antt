-- What an operation with a name makes is of the width of its out, and what it gives is what is made.
use Rattle.std.proofs.Common.{◌≡◌, ℕ, ◌+◌, List, [], ◌∷◌, length, Option, Some, None, Result, Ok, Err, refl, sym, ap, ◌∙◌, subst, pos}
use Rattle.std.specs.Prelude.{map}
use Rattle.xf_type.specs.declared.payload_type.PayloadType.{PayloadType}
use Rattle.xf_type.specs.declared.payload_type.Width.{Width}
use Rattle.xf_type.specs.declared.payload_type.Elem.{Elem}
use Rattle.xf_type.specs.declared.payload_type.Elem.TheVariants.{Num, NoNumber}
use Rattle.xf_type.specs.declared.kind.BinKind.TheVariants as bin
use Rattle.xf_type.specs.Integers.{FitsWidth, binary}
use Rattle.xf_type.proofs.LawLemmas.{wrapped_below}
use Rattle.xf_ir.specs.declared.name.OpName.{OpName}
use Rattle.xf_ir.specs.declared.kind.NamedKind.{NamedKind}
use Rattle.xf_ir.specs.declared.kind.NamedKind.TheVariants.{Matmul, BatchMatmul, Matvec, Dot, Fill}
use Rattle.xf_ir.specs.declared.kind.Kind.TheVariants.{Named}
use Rattle.xf_ir.specs.Lists.{Each}
use Rattle.xf_ir.specs.RuleLinalg.{named_maps}
use Rattle.xf_points.specs.Points as points
use Rattle.xf_points.specs.Points.{Point, at, product}
use Rattle.xf_points.specs.Operands.{reads, step_of, structured}
use Rattle.xf_points.proofs.Sets.{folded_fits}
use Rattle.xf_points.proofs.Tensors.{length_listed}
use Rattle.xf_sem.specs.declared.value.Value.{Value}
use Rattle.xf_sem.specs.declared.value.Value.TheVariants.{Tensor}
use Rattle.xf_sem.specs.Values.{IsValue}
use Rattle.xf_sem.specs.Tensors.{width_of, shape_of, items_of}
use Rattle.xf_sem.specs.Structured.{operands, body_of, fill_body, product_body, given, extents_of, named_frame, named_given}
use Rattle.xf_sem.specs.Structured.{front, last_or, out_of, dims_of_first, points_of}
use Rattle.xf_sem.proofs.Products.{items_fit}
use Rattle.xf_eval_values.specs.declared.held.Tensor.{Tensor as Parts}
use Rattle.xf_eval_values.specs.declared.stop.Stop.{Stop}
use Rattle.xf_eval_values.specs.declared.stop.Stop.TheVariants.{Undefined}
use Rattle.xf_eval_values.specs.Held.{tensor_of, as_value}
use Rattle.xf_eval_values.specs.Given.{given_run, IsAdmitted}
use Rattle.xf_eval_values.specs.Meets.{Meets}
use Rattle.xf_eval_values.proofs.GivenLemmas.{undefined_meets, refused_meets, admitted_meets}
use Rattle.xf_eval_points.specs.Frames.{maps_seen, agreed, made}
use Rattle.xf_eval_points.proofs.ShapeLemmas.{value_is, extents_are, given_made, given_none, given_scalar, agreed_extents_are}
use Rattle.xf_eval_tensors.specs.Named.{made_over, KeepsWidth}

-- ---- widths

added_fits : (w : Width) (a b : Elem) → FitsWidth w (binary bin.Addi w a b)
added_fits w (Num a) (Num b) = wrapped_below w (pos (a + b))
added_fits w (Num a) NoNumber = tt
added_fits w NoNumber b = tt

product_fits : (w : Width) (p : Point) (read : List Elem) (a : Elem) → FitsWidth w (product_body w p read a)
product_fits w p (x ∷ (y ∷ [])) a = added_fits w a (binary bin.Muli w x y)
product_fits w p [] a = tt
product_fits w p (x ∷ []) a = tt
product_fits w p (x ∷ (y ∷ (z ∷ read))) a = tt

read_fits : (w : Width) (maps : List (List ℕ)) (ins : List Value) (p : Point)
    → Each (λ v. IsValue v × (width_of v ≡ w)) ins → Each (FitsWidth w) (reads (operands maps ins) p)
read_fits w [] ins p h = tt
read_fits w (ks ∷ maps) [] p h = tt
read_fits w (ks ∷ maps) (v ∷ ins) p h =
    (subst (λ u. FitsWidth u (items_of v (at ks p))) h.0.1 (items_fit v (at ks p) h.0.0), read_fits w maps ins p h.1)

filled_fits : (w : Width) (p : Point) (read : List Elem) (a : Elem) → Each (FitsWidth w) read
    → FitsWidth w (fill_body p read a)
filled_fits w p (x ∷ []) a h = h.0
filled_fits w p [] a h = tt
filled_fits w p (x ∷ (y ∷ read)) a h = tt

body_fits : (which : NamedKind) (w : Width) (maps : List (List ℕ)) (ins : List Value) (p : Point) (a : Elem)
    → KeepsWidth which w ins → FitsWidth w (body_of which w p (reads (operands maps ins) p) a)
body_fits Fill w maps ins p a h = filled_fits w p (reads (operands maps ins) p) a (read_fits w maps ins p h)
body_fits Matmul w maps ins p a h = product_fits w p (reads (operands maps ins) p) a
body_fits BatchMatmul w maps ins p a h = product_fits w p (reads (operands maps ins) p) a
body_fits Matvec w maps ins p a h = product_fits w p (reads (operands maps ins) p) a
body_fits Dot w maps ins p a h = product_fits w p (reads (operands maps ins) p) a

every_point : (ps : List Point) → points.Each (λ p. Unit {0}) ps
every_point [] = tt
every_point (p ∷ ps) = (tt, every_point ps)

each_mapped : (w : Width) (f : Point → Elem) (ps : List Point) → ((p : Point) → FitsWidth w (f p))
    → Each (FitsWidth w) (map f ps)
each_mapped w f [] h = tt
each_mapped w f (p ∷ ps) h = (h p, each_mapped w f ps h)

pub made_fits : (which : NamedKind) (es : List ℕ) (maps : List (List ℕ)) (ins : List Value) (out : List ℕ) (t : Parts)
    → IsValue (as_value t) → KeepsWidth which t.width ins
    → Each (FitsWidth t.width) (made (body_of which t.width) es maps ins out t)
made_fits which es maps ins out t v k =
    each_mapped t.width (structured es out (body_of which t.width) (operands maps ins) (items_of (as_value t)))
    (points.points t.shape)
    (λ j. folded_fits (λ p. Unit {0}) (FitsWidth t.width) _ (step_of (body_of which t.width) (operands maps ins))
    (points.points es) _ (every_point (points.points es)) (λ p a _ _. body_fits which t.width maps ins p a k)
    (items_fit (as_value t) j v))

pub made_length : (which : NamedKind) (es : List ℕ) (maps : List (List ℕ)) (ins : List Value) (out : List ℕ) (t : Parts)
    → length (made (body_of which t.width) es maps ins out t) ≡ product t.shape
made_length which es maps ins out t =
    length_listed t.shape (structured es out (body_of which t.width) (operands maps ins) (items_of (as_value t)))

pub made_value : (which : NamedKind) (es : List ℕ) (maps : List (List ℕ)) (ins : List Value) (out : List ℕ) (t : Parts)
    (shape : List ℕ) (elems : List Elem) → IsValue (as_value t) → KeepsWidth which t.width ins → shape ≡ t.shape
    → elems ≡ made (body_of which t.width) es maps ins out t → IsValue (Tensor t.width shape elems)
made_value which es maps ins out t shape elems v k s e =
    subst (λ xs. IsValue (Tensor t.width shape xs)) (sym e)
    (subst (λ z. IsValue (Tensor t.width z (made (body_of which t.width) es maps ins out t))) (sym s)
    (v.0, (made_length which es maps ins out t, made_fits which es maps ins out t v k)))

pub made_refused : (which : NamedKind) (es : List ℕ) (maps : List (List ℕ)) (ins : List Value) (out : List ℕ) (t : Parts)
    (n : OpName) (ts : List PayloadType) (b b' : ℕ) (stop : Stop) (shape : List ℕ)
    → IsValue (as_value t) → KeepsWidth which t.width ins → shape ≡ t.shape
    → IsAdmitted n ts t.width shape (product es) b b' (Err stop)
    → Meets (given_run n ts (product es) (Some (made_over which es maps ins out t))) b b' (Err stop)
made_refused which es maps ins out t n ts b b' stop shape v k s a =
    refused_meets n ts t.width t.shape (made (body_of which t.width) es maps ins out t) (product es) b b'
    (Some (made_over which es maps ins out t)) stop (made_length which es maps ins out t)
    (made_fits which es maps ins out t v k) refl
    (subst (λ z. IsAdmitted n ts t.width z (product es) b b' (Err stop)) s a)

pub made_admitted : (which : NamedKind) (es : List ℕ) (maps : List (List ℕ)) (ins : List Value) (out : List ℕ) (t : Parts)
    (n : OpName) (ts : List PayloadType) (b b' count : ℕ) (shape shape' : List ℕ) (elems : List Elem) (h : Value)
    → IsValue (as_value t) → KeepsWidth which t.width ins → shape ≡ t.shape
    → IsAdmitted n ts t.width shape (product es) b b' (Ok count)
    → shape' ≡ t.shape → elems ≡ made (body_of which t.width) es maps ins out t → h ≡ Tensor t.width shape' elems
    → Meets (given_run n ts (product es) (Some (made_over which es maps ins out t))) b b' (Ok (h ∷ []))
made_admitted which es maps ins out t n ts b b' count shape shape' elems h v k s a s' e q =
    admitted_meets n ts t.width t.shape (made (body_of which t.width) es maps ins out t) (product es) b b' count
    (Some (made_over which es maps ins out t)) h (made_length which es maps ins out t)
    (made_fits which es maps ins out t v k) refl
    (subst (λ z. IsAdmitted n ts t.width z (product es) b b' (Ok count)) s a)
    (q ∙ ap (λ z. Tensor t.width z elems) s' ∙ ap (Tensor t.width t.shape) e)

-- ---- what is given

abbrev pub maps_over : NamedKind → Parts → List (List ℕ)
maps_over which t = maps_seen (named_maps which (length t.shape))

abbrev pub agreed_over : NamedKind → Parts → List Value → Option (List ℕ)
agreed_over which t vs = agreed (dims_of_first (named_maps which (length t.shape))) (maps_over which t) vs

given_over : (which : NamedKind) (vs : List Value) (t : Parts) → tensor_of (out_of vs) ≡ Some t
    → named_given which vs ≡ given (named_frame which (length t.shape)) (body_of which t.width) (front vs) (out_of vs)
given_over which vs t h =
    let e = value_is (out_of vs) t h in
    ap (λ v. given (named_frame which (length (shape_of v))) (body_of which (width_of v)) (front vs) (out_of vs)) e

points_over : (which : NamedKind) (vs : List Value) (t : Parts) (es : List ℕ) → tensor_of (out_of vs) ≡ Some t
    → Some es ≡ agreed_over which t vs → points_of (Named which) vs ≡ product es
points_over which vs t es h a =
    let ms = named_maps which (length t.shape) in
    ap (λ v. product (extents_of (named_frame which (length (shape_of v))) (front vs) (out_of vs))) (value_is (out_of vs) t h)
    ∙ ap product (extents_are (dims_of_first ms) ms vs t h
    ∙ sym (agreed_extents_are (dims_of_first ms) (maps_seen ms) vs es a))

pub named_meets : (which : NamedKind) (vs : List Value) (t : Parts) (es : List ℕ) (n : OpName) (ts : List PayloadType)
    (b b' : ℕ) (r : Result (List Value) Stop) → tensor_of (out_of vs) ≡ Some t → Some es ≡ agreed_over which t vs
    → Meets (given_run n ts (product es)
    (Some (made_over which es (front (maps_over which t)) (front vs) (last_or [] (maps_over which t)) t))) b b' r
    → Meets (given_run n ts (points_of (Named which) vs) (named_given which vs)) b b' r
named_meets which vs t es n ts b b' r h a m =
    let ms = named_maps which (length t.shape) in
    let g = given_over which vs t h ∙ given_made (dims_of_first ms) ms (body_of which t.width) vs t es h a in
    subst (λ k. Meets (given_run n ts k (named_given which vs)) b b' r) (sym (points_over which vs t es h a))
    (subst (λ o. Meets (given_run n ts (product es) o) b b' r) (sym g) m)

pub named_undefined : (which : NamedKind) (vs : List Value) (t : Parts) (n : OpName) (ts : List PayloadType) (b : ℕ)
    → tensor_of (out_of vs) ≡ Some t → None ≡ agreed_over which t vs
    → Meets (given_run n ts (points_of (Named which) vs) (named_given which vs)) b b (Err (Undefined n))
named_undefined which vs t n ts b h a =
    let ms = named_maps which (length t.shape) in
    undefined_meets n ts (points_of (Named which) vs) (named_given which vs) b
    (given_over which vs t h ∙ given_none (dims_of_first ms) ms (body_of which t.width) vs t h a)

pub named_scalar : (which : NamedKind) (vs : List Value) (n : OpName) (ts : List PayloadType) (b : ℕ)
    → tensor_of (out_of vs) ≡ None
    → Meets (given_run n ts (points_of (Named which) vs) (named_given which vs)) b b (Err (Undefined n))
named_scalar which vs n ts b h =
    undefined_meets n ts (points_of (Named which) vs) (named_given which vs) b
    (given_scalar (named_frame which (length (shape_of (out_of vs)))) (body_of which (width_of (out_of vs))) vs h)
