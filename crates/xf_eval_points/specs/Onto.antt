-- The box of the points that lead to an index of an out.
use Rattle.std.specs.Prelude.{ℕ, ◌+◌, List, [], ◌∷◌, map, min, max, get_or, length, if◌then◌else◌, ◌==◌}
use Rattle.xf_points.specs.Points.{Point, counted}
use Rattle.xf_eval_points.specs.declared.span.Span.{Span}

abbrev pub narrowed : ℕ → Span → Span
narrowed i s = record { from = max s.from i; to = min s.to (i + 1) }

-- the numbers of a dimension among some, that each place of the map that has it allows
abbrev pub span_from : ℕ → Span → List ℕ → Point → Span
span_from d s [] js = s
span_from d s (k ∷ ks) [] = s
span_from d s (k ∷ ks) (j ∷ js) = span_from d (if k == d then narrowed j s else s) ks js

abbrev pub span_onto : ℕ → ℕ → List ℕ → Point → Span
span_onto d extent out j = span_from d (record { from = 0; to = extent }) out j

abbrev pub spans_onto : List ℕ → Point → List ℕ → List Span
spans_onto out j es = map (λ d. span_onto d (get_or es d 0) out j) (counted 0 (length es))

abbrev pub whole_spans : List ℕ → List Span
whole_spans es = map (λ e. record { from = 0; to = e }) es
