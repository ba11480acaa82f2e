-- Casts, by the parts of a tensor.
use Rattle.std.proofs.Common.{◌≡◌, [], ◌∷◌, Bool, Some, None, refl, sym, ap, ◌∙◌}
use Rattle.xf_type.specs.declared.payload_type.PayloadType.{PayloadType}
use Rattle.xf_type.specs.declared.payload_type.PayloadType.TheVariants as type_of
use Rattle.xf_sem.specs.declared.value.Value.{Value}
use Rattle.xf_sem.specs.declared.value.Value.TheVariants.{Scalar, Tensor}
use Rattle.xf_sem.specs.Tensors.{only_if, cast_given}
use Rattle.xf_eval_values.specs.declared.held.Tensor.{Tensor as Parts}
use Rattle.xf_eval_values.specs.Held.{tensor_of, as_value, fits_tensor}
use Rattle.xf_eval_tensors.proofs.ElementLemmas.{tensor_value}

by_type : (wanted : PayloadType) (t : Parts) → only_if (fits_tensor t.width t.shape wanted) (as_value t)
    ≡ cast_given (wanted ∷ []) (as_value t ∷ [])
by_type (type_of.Scalar w) t = refl
by_type (type_of.Tensor s) t = refl

pub cast_is : (wanted : PayloadType) (v : Value) (t : Parts) (b : Bool) → Some t ≡ tensor_of v
    → fits_tensor t.width t.shape wanted ≡ b → only_if b v ≡ cast_given (wanted ∷ []) (v ∷ [])
cast_is wanted v t b e f =
    ap (λ x. only_if x v) (sym f) ∙ ap (only_if (fits_tensor t.width t.shape wanted)) (sym (tensor_value v t e))
    ∙ by_type wanted t ∙ ap (λ x. cast_given (wanted ∷ []) (x ∷ [])) (tensor_value v t e)

pub cast_scalar : (wanted : PayloadType) (v : Value) → None ≡ tensor_of v → None ≡ cast_given (wanted ∷ []) (v ∷ [])
cast_scalar (type_of.Scalar w) (Scalar u a) e = refl
cast_scalar (type_of.Tensor s) (Scalar u a) e = refl
cast_scalar wanted (Tensor u sh es) e = cc
