-- Modules whose printed form says them again: valid ones, whose lists are as short as those of texts.
use Rattle.xf_ir.specs.declared.op.Module.{Module}
use Rattle.xf_ir.specs.Bounds.{ListsAreShort}
use Rattle.xf_ir.specs.Lists.{Each}
use Rattle.xf_ir.specs.Placed.{Placed, placed, functions_of}
use Rattle.xf_ir.specs.Valid.{IsValid}
use Rattle.xf_print_laws.specs.Naming.{FunctionsNumber}
use Rattle.xf_print_laws.specs.Stored.{AllBytes, HasShortProperties}

pub record IsPrintable (m : Module) : Type 0 where
  pub valid : IsValid m
  pub bytes : Each AllBytes (placed m)
  pub lists : ListsAreShort m
  pub properties : Each (λ (p : Placed). HasShortProperties p.tree) (placed m)
  pub numbers : FunctionsNumber (functions_of m)
