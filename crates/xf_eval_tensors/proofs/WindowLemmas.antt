-- There is no box of a slice where offsets or sizes are not as many as extents.
use Rattle.std.proofs.Common.{◌≡◌, ◌≢◌, ℕ, suc, List, [], ◌∷◌, Option, Some, None}
use Rattle.std.proofs.Common.{length, refl, ap}
use Rattle.xf_sem.specs.Tensors.{on_some, before_all}
use Rattle.xf_eval_points.specs.declared.span.Span.{Span}
use Rattle.xf_eval_tensors.specs.Slices.{span_in, spans_in}

none_behind : (o : Option Span) (q : Option (List Span)) → None ≡ q → None ≡ on_some o (λ s. before_all s q)
none_behind None q h = refl
none_behind (Some s) q h = ap (before_all s) h

pub offsets_differ : (os zs es : List ℕ) → length os ≢ length es → None ≡ spans_in os zs es
offsets_differ [] [] [] h = absurd (h refl)
offsets_differ [] [] (n ∷ es) h = refl
offsets_differ [] (z ∷ zs) es h = refl
offsets_differ (o ∷ os) [] es h = refl
offsets_differ (o ∷ os) (z ∷ zs) [] h = refl
offsets_differ (o ∷ os) (z ∷ zs) (n ∷ es) h =
    none_behind (span_in o z n) (spans_in os zs es) (offsets_differ os zs es (λ e. h (ap suc e)))

pub sizes_differ : (os zs es : List ℕ) → length zs ≢ length es → None ≡ spans_in os zs es
sizes_differ [] [] [] h = absurd (h refl)
sizes_differ [] [] (n ∷ es) h = refl
sizes_differ [] (z ∷ zs) es h = refl
sizes_differ (o ∷ os) [] es h = refl
sizes_differ (o ∷ os) (z ∷ zs) [] h = refl
sizes_differ (o ∷ os) (z ∷ zs) (n ∷ es) h =
    none_behind (span_in o z n) (spans_in os zs es) (sizes_differ os zs es (λ e. h (ap suc e)))
