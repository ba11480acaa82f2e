use Rattle.std.proofs.Common.{map, false, None, Some, sym, ap, ◌∙◌}
use Rattle.std.specs.Prelude.{if◌then◌else◌}
use Rattle.std.specs.Option.{option_or}
use Rattle.std.proofs.lemmas.List.{length-map}
use Rattle.xf_format.specs.Columns.{argument_types, types_taken}
use Rattle.xf_format.specs.Parts.{said, use_said, entry_said}
use Rattle.xf_read_base.specs.Attributes.{entries_twice}
use Rattle.xf_read_base.specs.Values.{attrs_said}
use Rattle.xf_read.specs.Names.{earlier, alias_in, undefined_in, uses_fit}
use Rattle.xf_read.specs.Scopes.{use_value}
use Rattle.xf_read.specs.Visible.{names_in}
use Rattle.xf_read.proofs.head.head_of.Goals as goal

pub returns : goal.returns
returns c =
    let all = c.args.tokens.now in
    let s = names_in c.args.scope.now in
    let p = c.args.parts.now in
    let used = c.in_ok-used.ensures in
    let uses = c.as_slice-2.ensures in
    let entries = c.as_slice.ensures in
    let fit = used.fit ∙ ap (λ us. uses_fit s (said all p) 0 (map (use_said all) us)) uses in
    let undefined = used.undefined ∙ ap (undefined_in all s) uses in
    let maps = c.alias_in.ensures ∙ ap alias_in c.as_slice-3.ensures in
    let twice = c.in_ok-attrs.ensures.twice ∙ ap (entries_twice all (λ name. false)) entries in
    record {
      kind = c.in_ok-kind_of.ensures;
      attrs = c.in_ok-attrs.ensures.attrs ∙ ap (λ es. attrs_said (map (entry_said all) es)) entries;
      operands = used.values ∙ ap (λ us. map (use_value s) (map (use_said all) us)) uses;
      results = c.in_ok-results.ensures;
      args = c.in_ok-args.ensures
          ∙ ap (λ n. types_taken (argument_types p.row) n p.types p.results) (sym (length-map p.uses (use_said all)));
      undefined = c.or.ensures ∙ (λ i. option_or (maps i) (undefined i));
      twice = c.earlier.ensures ∙ (λ i. earlier (twice i) (c.names_twice.ensures i));
      mismatch = c.token_unless.ensures ∙ ap (λ b. if b then None else Some c.args.first) (c.agrees.ensures all s fit);
    }
