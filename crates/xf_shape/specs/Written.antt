-- How tensor types are written (MLIR: the builtin types, RankedTensorType).
use Rattle.std.specs.Prelude.{ℕ, List, ◌++◌, codes}
use Rattle.std.specs.Fmt.{decimal}
use Rattle.std.specs.List.{flat_map}
use Rattle.xf_type.specs.Spelling.{width_spelling}
use Rattle.xf_type.specs.declared.payload_type.Dim.{Dim}
use Rattle.xf_type.specs.declared.payload_type.Dim.TheVariants.{Fixed, Dynamic}
use Rattle.xf_type.specs.declared.payload_type.Shape.{Shape}

-- a dimension and the x behind it
abbrev pub dim_text : Dim → List ℕ
dim_text (Fixed extent) = decimal extent ++ codes "x"
dim_text Dynamic = codes "?x"

-- what stands between < and >, with them
abbrev pub shape_text : Shape → List ℕ
shape_text s = codes "<" ++ (flat_map dim_text s.dims ++ (width_spelling s.elem ++ codes ">"))
