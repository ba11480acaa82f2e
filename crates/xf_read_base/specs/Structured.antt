-- What the windows of slices and the maps of linalg.generic mean (MLIR: static_offsets and static_sizes of
-- tensor.extract_slice; affine maps and their aliases).
use Rattle.std.specs.Prelude.{ℕ, List, [], ◌∷◌, map, if◌then◌else◌}
use Rattle.std.specs.Str.{bytes_eq}
use Rattle.xf_type.specs.declared.attribute.AffineMap.{AffineMap}
use Rattle.xf_grammar.specs.Tokens.{number_of}
use Rattle.xf_format.specs.Parts.{PlaceSaid, place_number, place_value, MapSaid, written_map, alias_of, no_map}
use Rattle.xf_ir.specs.declared.kind.SliceIndex.{SliceIndex}
use Rattle.xf_ir.specs.declared.kind.SliceIndex.TheVariants.{Fixed, Dynamic}
use Rattle.xf_read_base.specs.declared.alias.Alias.{Alias}
use Rattle.xf_read_base.specs.Numbers.{signed}

-- ---- windows

-- an offset or a size: a number with its sign, or an operand
abbrev pub place_meant : PlaceSaid → SliceIndex
place_meant (place_number negative digits) = Fixed (signed negative (number_of digits))
place_meant place_value = Dynamic

abbrev pub window_meant : List PlaceSaid → List SliceIndex
window_meant ps = map place_meant ps

-- ---- maps

-- the map that a name stands for, which begins with #
abbrev pub Aliases : Type 0
Aliases = List ℕ → AffineMap

-- that of the first alias of this name; of none, the map without dimensions
abbrev pub aliases_in : List Alias → Aliases
aliases_in [] name = no_map
aliases_in (a ∷ more) name = if bytes_eq a.name name then a.map else aliases_in more name

abbrev pub no_aliases : Aliases
no_aliases = aliases_in []

-- a map is itself where it is written, and else what its alias stands for
abbrev pub map_meant : Aliases → MapSaid → AffineMap
map_meant aliases (written_map m) = m
map_meant aliases (alias_of name) = aliases name

abbrev pub maps_meant : Aliases → List MapSaid → List AffineMap
maps_meant aliases ms = map (map_meant aliases) ms
