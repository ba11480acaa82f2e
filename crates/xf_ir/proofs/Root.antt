-- The one block of a module.
use Rattle.std.proofs.Common.{◌≡◌, List, [], ◌∷◌, Option, true, refl}
use Rattle.xf_type.specs.declared.payload_type.PayloadType.{PayloadType}
use Rattle.xf_ir.specs.declared.kind.Kind.{Kind}
use Rattle.xf_ir.specs.declared.kind.Kind.TheVariants as kind
use Rattle.xf_ir.specs.Tree.{Regions, no_regions, region}
use Rattle.xf_ir.specs.RuleBlocks.{block_args, blocks_fit}
use Rattle.xf_ir.specs.Valid.{IsModule, block_of}

pub one_block : (k : Kind) → IsModule k → (os : List (Option PayloadType)) (ts : List PayloadType) (rs : Regions)
    → blocks_fit k os ts (block_args rs) ≡ true → rs ≡ region [] (block_of rs) no_regions
one_block (kind.Module symbol) i os ts no_regions h = absurd (cc)
one_block (kind.Module symbol) i os ts (region [] ops no_regions) h = refl
one_block (kind.Module symbol) i os ts (region [] ops (region args' ops' rest)) h = absurd (cc)
one_block (kind.Module symbol) i os ts (region (t ∷ more) ops rest) h = absurd (cc)
one_block _ i os ts rs h = absurd (cc)
