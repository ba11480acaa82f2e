use Rattle.std.proofs.Common.{◌≡◌, drop}
use Rattle.xf_type.specs.Spelling.{predicate_spelling}
use Rattle.xf_format.specs.Words.{lookup, spelt, predicates}
use Rattle.xf_format.proofs.word.predicate_of.Given as goal

-- the word is none of those before
abbrev pub invariant-loop-kind : goal.invariant-loop-kind
invariant-loop-kind l = lookup (spelt predicate_spelling (drop l.kind-index l.all)) l.word ≡ lookup predicates l.word
