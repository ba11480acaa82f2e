use Rattle.std.proofs.Common.{◌≡◌, map, drop, false}
use Rattle.xf_ir.specs.Walk.{first_of}
use Rattle.xf_read_base.specs.Attributes.{attrs_in, names_of}
use Rattle.xf_read_base.specs.Attributes.{entries_twice}
use Rattle.xf_format.specs.Parts.{entry_said}
use Rattle.xf_read_base.specs.Values.{with_said, attrs_said}
use Rattle.xf_read_base.proofs.entries.attributes.Given as goal

abbrev pub invariant-loop-entry : goal.invariant-loop-entry
invariant-loop-entry l = record {
  attrs : with_said (map (entry_said l.tokens) (drop l.entry-index l.entries)) (attrs_in l.values.entries) ≡ attrs_said (map (entry_said l.tokens) l.entries);
  twice : first_of l.twice (entries_twice l.tokens (names_of l.values) (drop l.entry-index l.entries)) ≡ entries_twice l.tokens (λ name. false) l.entries;
}
