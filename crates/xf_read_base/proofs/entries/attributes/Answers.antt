use Rattle.std.proofs.Common.{false, ap, ◌∙◌}
use Rattle.std.specs.Prelude.{is_some, map}
use Rattle.xf_format.specs.declared.parts.AttrEntry.{AttrEntry}
use Rattle.xf_format.specs.declared.parts.EntryValue.TheVariants.{Unit as NoValue}
use Rattle.xf_read_base.specs.Attributes.{entries_twice}
use Rattle.xf_format.specs.Parts.{entry_said}
use Rattle.xf_read_base.specs.Values.{attrs_said}
use Rattle.xf_read_base.proofs.Sorting.{attrs_more, twice_more}
use Rattle.xf_read_base.proofs.entries.attributes.Goals as goal

abbrev no_entry : AttrEntry
no_entry = record { name = 0; value = NoValue }

pub loop-entry-preserved : goal.loop-entry-preserved
loop-entry-preserved c = record {
  attrs = attrs_more c.args.tokens.now c.args.entries.now c.loop-entry.entry-index no_entry c.loop-entry.values.entries c.insert.new.self.entries c.text.result c.in_ok-value.value (attrs_said (map (entry_said c.args.tokens.now) c.args.entries.now))
      c.loop-entry-test.true c.text.ensures c.in_ok-value.ensures c.in_ok-before.ensures.entries c.loop-entry.invariant.attrs;
  twice = twice_more c.args.tokens.now c.args.entries.now c.loop-entry.entry-index no_entry c.loop-entry.values c.insert.new.self c.text.result.now c.in_ok-value.value c.loop-entry.twice c.first_twice-twice.result
      (entries_twice c.args.tokens.now (λ name. false) c.args.entries.now) c.is_some.result c.loop-entry-test.true c.text.ensures c.in_ok-before.ensures.updates (c.is_some.ensures ∙ ap is_some c.in_ok-before.ensures.old) c.first_twice-twice.ensures c.loop-entry.invariant.twice;
}
