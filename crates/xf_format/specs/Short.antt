-- The bound on the lists of the parts of a head.
use Rattle.std.specs.Prelude.{◌<◌, ◌^◌, length}
use Rattle.xf_format.specs.declared.parts.Parts.{Parts}

-- no list of the parts of a head has 2 ^ 32 entries
pub record HasShortParts (p : Parts) : Type 0 where
  pub entries : length p.entries < 2 ^ 32
  pub args : length p.args < 2 ^ 32
  pub uses : length p.uses < 2 ^ 32
  pub types : length p.types < 2 ^ 32
  pub results : length p.results < 2 ^ 32
  pub literals : length p.dense.literals < 2 ^ 32
  pub offsets : length p.offsets < 2 ^ 32
  pub sizes : length p.sizes < 2 ^ 32
  pub maps : length p.maps < 2 ^ 32
  pub iterators : length p.iterators < 2 ^ 32
