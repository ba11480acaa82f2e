-- Elements at indices that lie in a tensor.
use Rattle.std.proofs.Common.{◌≡◌, ℕ, List, ◌∷◌, Bool, true, false, Option, Some, None, refl, sym, ap, ◌∙◌}
use Rattle.xf_type.specs.declared.payload_type.Elem.TheVariants.{NoNumber}
use Rattle.xf_points.specs.Points.{Point, element}
use Rattle.xf_sem.specs.declared.value.Value.{Value}
use Rattle.xf_sem.specs.declared.value.Value.TheVariants.{Scalar, Tensor}
use Rattle.xf_sem.specs.Tensors.{on_some, only_if, indices_of, is_in, extracted}
use Rattle.xf_eval_values.specs.declared.held.Tensor.{Tensor as Parts}
use Rattle.xf_eval_values.specs.Held.{tensor_of, as_value}
use Rattle.xf_eval_tensors.specs.Indices.{point_in}
use Rattle.xf_eval_tensors.proofs.IndexLemmas.{point_is}

pub in_twice : {A : Type 0} (o : Option (List ℕ)) (g : Point → Bool) (h : Point → A)
    → on_some o (λ p. only_if (g p) (h p)) ≡ on_some (on_some o (λ p. only_if (g p) p)) (λ p. Some (h p))
in_twice None g h = refl
in_twice (Some p) g h = by (g p)
  where
    by : (b : Bool) → only_if b (h p) ≡ on_some (only_if b p) (λ p. Some (h p))
    by true = refl
    by false = refl

pub tensor_value : (v : Value) (t : Parts) → Some t ≡ tensor_of v → as_value t ≡ v
tensor_value (Scalar w e) t h = cc
tensor_value (Tensor w sh es) t h = let q : t ≡ record { width = w; shape = sh; elems = es } = cc in ap as_value q

by_parts : (t : Parts) (vs : List Value) → extracted (as_value t ∷ vs)
    ≡ on_some (point_in t.shape vs) (λ p. Some (Scalar t.width (element NoNumber t.shape t.elems p)))
by_parts t vs =
    in_twice (indices_of vs) (λ p. is_in p t.shape) (λ p. Scalar t.width (element NoNumber t.shape t.elems p))
    ∙ ap (λ o. on_some o (λ p. Some (Scalar t.width (element NoNumber t.shape t.elems p)))) (point_is t.shape vs)

pub extracted_out : (v : Value) (t : Parts) (vs : List Value) → Some t ≡ tensor_of v → None ≡ point_in t.shape vs
    → None ≡ extracted (v ∷ vs)
extracted_out v t vs e h =
    ap (λ o. on_some o (λ p. Some (Scalar t.width (element NoNumber t.shape t.elems p)))) h ∙ sym (by_parts t vs)
    ∙ ap (λ x. extracted (x ∷ vs)) (tensor_value v t e)

pub extracted_in : (v : Value) (t : Parts) (vs : List Value) (p : Point) → Some t ≡ tensor_of v
    → Some p ≡ point_in t.shape vs → Some (Scalar t.width (element NoNumber t.shape t.elems p)) ≡ extracted (v ∷ vs)
extracted_in v t vs p e h =
    ap (λ o. on_some o (λ p. Some (Scalar t.width (element NoNumber t.shape t.elems p)))) h ∙ sym (by_parts t vs)
    ∙ ap (λ x. extracted (x ∷ vs)) (tensor_value v t e)
