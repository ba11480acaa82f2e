use Rattle.std.proofs.Common.{◌≡◌, drop, map}
use Rattle.xf_type.specs.Spelling.{conversion_spelling}
use Rattle.xf_format.specs.declared.row.Row.TheVariants as row
use Rattle.xf_format.specs.Arith.{conversions}
use Rattle.xf_format.specs.Words.{lookup}
use Rattle.xf_format.proofs.arith.conversion_of.Given as goal

-- the word is none of those before
abbrev pub invariant-loop-kind : goal.invariant-loop-kind
invariant-loop-kind l = lookup (map (λ k. (conversion_spelling k, row.Convert k)) (drop l.kind-index l.all))
    l.word ≡ lookup conversions l.word
