-- Operations with a name over an out that is a tensor.
use Rattle.std.specs.Prelude.{◌≡◌, ℕ, List}
use Rattle.xf_type.specs.declared.payload_type.Width.{Width}
use Rattle.xf_ir.specs.declared.kind.NamedKind.{NamedKind}
use Rattle.xf_ir.specs.declared.kind.NamedKind.TheVariants.{Fill}
use Rattle.xf_ir.specs.Lists.{Each}
use Rattle.xf_sem.specs.declared.value.Value.{Value}
use Rattle.xf_sem.specs.declared.value.Value.TheVariants.{Tensor}
use Rattle.xf_sem.specs.Values.{IsValue}
use Rattle.xf_sem.specs.Tensors.{width_of}
use Rattle.xf_sem.specs.Structured.{body_of}
use Rattle.xf_eval_values.specs.declared.held.Tensor.{Tensor as Parts}
use Rattle.xf_eval_points.specs.Frames.{made}

-- the tensor that is made over an out
abbrev pub made_over : NamedKind → List ℕ → List (List ℕ) → List Value → List ℕ → Parts → Value
made_over which es maps ins out t = Tensor t.width t.shape (made (body_of which t.width) es maps ins out t)

-- a fill reads values of the width; products wrap
abbrev pub KeepsWidth : NamedKind → Width → List Value → Type 0
KeepsWidth Fill w vs = Each (λ v. IsValue v × (width_of v ≡ w)) vs
KeepsWidth _ w vs = Unit {0}
