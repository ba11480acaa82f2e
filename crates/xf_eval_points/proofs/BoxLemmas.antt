-- What the points of a box do, and the indices of a tensor.
use Rattle.std.proofs.Common.{◌≡◌, ℕ, ◌+◌, ◌<◌, List, [], ◌∷◌, ◌++◌, Bool, true, false, length, refl, sym, ap, ◌∙◌, arith, subst}
use Rattle.std.specs.Prelude.{filter, cond, map, if◌then◌else◌, ◌^◌}
use Rattle.xf_ir.specs.Lists as lists
use Rattle.xf_points.specs.Points.{Point, Each, Below, points, at}
use Rattle.xf_points.specs.Folds.{Points, Step, both, everywhere, folded, onto, result}
use Rattle.xf_eval_points.specs.declared.span.Span.{Span}
use Rattle.xf_eval_points.specs.Spans.{spread, rest_from, later, first_of}
use Rattle.xf_eval_points.specs.Onto.{spans_onto, whole_spans}
use Rattle.xf_eval_points.proofs.OntoLemmas.{points_in_box, whole_spread}
use Rattle.xf_points.proofs.Sets.{points_below}

folded_one : {A : Type 0} (f : Step A) (b : Bool) (p : Point) (qs : List Point) (x : A)
    → folded everywhere f (cond b (p ∷ qs) qs) x ≡ folded everywhere f qs (if b then f p x else x)
folded_one f true p qs x = refl
folded_one f false p qs x = refl

folded_filter : {A : Type 0} (s : Points) (f : Step A) (ps : List Point) (x : A)
    → folded everywhere f (filter s ps) x ≡ folded (both everywhere s) f ps x
folded_filter s f [] x = refl
folded_filter s f (p ∷ ps) x =
    folded_one f (s p) p (filter s ps) x ∙ folded_filter s f ps (if s p then f p x else x)

-- the element of a result at an index is what the points of its box do
pub result_by_box : {A : Type 0} (es out : List ℕ) (step : Step A) (x : Point → A) (j : Point) → Below j (at out es)
    → folded everywhere step (spread (spans_onto out j es)) (x j) ≡ result es out step x j
result_by_box es out step x j b =
    ap (λ ps. folded everywhere step ps (x j)) (sym (points_in_box out es j b))
    ∙ folded_filter (onto out j) step (points es) (x j)

pub small_index : (j shape : List ℕ) → lists.Each (λ size. size < 2 ^ 31) shape → Below j shape
    → lists.Each (λ i. i < 4294967295) j
small_index [] [] h b = tt
small_index [] (n ∷ shape) h b = absurd b
small_index (i ∷ j) [] h b = absurd b
small_index (i ∷ j) (n ∷ shape) h b = (omega (arith, h.0, b.0), small_index j shape h.1 b.1)

pub all_below : (shape : List ℕ) (ps : List Point) → ps ≡ points shape → Each (λ j. Below j shape) ps
all_below shape ps e = subst (Each (λ j. Below j shape)) (sym e) (points_below shape)
