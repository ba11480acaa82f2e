-- Which bodies stand for the elements of a tensor type.
use Rattle.std.specs.Prelude.{ℕ, List, [], ◌∷◌, map, Option, Some, None, Bool, true, false, not, ◌==◌, ◌&&◌}
use Rattle.std.specs.List.{list_any, list_all}
use Rattle.xf_type.specs.declared.payload_type.Dim.{Dim}
use Rattle.xf_type.specs.declared.payload_type.Dim.TheVariants.{Fixed, Dynamic}
use Rattle.xf_type.specs.declared.payload_type.Shape.{Shape}
use Rattle.xf_type.specs.declared.payload_type.Width.{Width}
use Rattle.xf_type.specs.declared.payload_type.Width.TheVariants.{I1}
use Rattle.xf_dense.specs.declared.body.Body.{Body}
use Rattle.xf_dense.specs.declared.body.Literal.{Literal}
use Rattle.xf_dense.specs.declared.body.Literal.TheVariants.{Truth, Integer}
use Rattle.xf_dense.specs.Nests.{LiteralToken, truth, integer}

-- ? fits any extent
abbrev pub extent_fits : Dim → ℕ → Bool
extent_fits (Fixed n) extent = n == extent
extent_fits Dynamic extent = true

-- as many dimensions as extents, each of which fits
abbrev pub extents_fit : List Dim → List ℕ → Bool
extents_fit [] [] = true
extents_fit (d ∷ ds) (extent ∷ extents) = extent_fits d extent && extents_fit ds extents
extents_fit ds extents = false

-- a dimension that leaves no element, and one that may
abbrev pub is_empty : Dim → Bool
is_empty (Fixed n) = n == 0
is_empty Dynamic = false

abbrev pub may_be_empty : Dim → Bool
may_be_empty (Fixed n) = n == 0
may_be_empty Dynamic = true

-- nested lists have the extents; nothing stands where there may be no element, and one literal where there may be
-- some
abbrev pub form_fits : {A : Type 0} → Option (List ℕ) → List A → List Dim → Bool
form_fits (Some extents) ls ds = extents_fit ds extents
form_fits None [] ds = list_any may_be_empty ds
form_fits None (l ∷ ls) ds = not (list_any is_empty ds)

-- which literals are true or false
abbrev pub is_truth : Literal → Bool
is_truth (Truth b) = true
is_truth (Integer negative token) = false

abbrev pub says_truth : LiteralToken → Bool
says_truth (truth b) = true
says_truth (integer negative digits) = false

-- these are numbers of i1 alone
abbrev pub may_be : Width → Bool → Bool
may_be I1 b = true
may_be width b = not b

abbrev pub fits_by : Option (List ℕ) → List Bool → Shape → Bool
fits_by extents truths s = form_fits extents truths s.dims && list_all (may_be s.elem) truths

abbrev pub fits_shape : Body → Shape → Bool
fits_shape b s = fits_by b.extents (map is_truth b.literals) s
