use Rattle.std.proofs.Common.{refl, arith, length, sym, ◌∙◌}
use Rattle.xf_grammar.specs.Grammar.{read}
use Rattle.xf_format.specs.Actions.{free}
use Rattle.xf_format.specs.Rules.{language, map_rule}
use Rattle.xf_format.proofs.Turns.{list_turn}
use Rattle.xf_format.proofs.maps.map_list_at.Goals as goal

pub list-init : goal.list-init
list-init c = record {
  rest = (length c.args.tokens.now, omega arith, rw c.in_ok-at.ensures.gives refl);
  begin = c.in_ok-at.ensures.within.0;
  within = c.in_ok-at.ensures.within.1;
}

pub list-preserved : goal.list-preserved
list-preserved c =
    let e = sym c.looks.ensures.value ∙ c.list-test.true in
    let t = list_turn c.list.invariant.rest.0 c.args.tokens.now
    (read language (length c.args.tokens.now) map_rule c.args.tokens.now) (free c.list.parts)
    (free c.map_at-in-list.new.parts) c.list.at c.in_ok-at-2.at
    c.list.invariant.rest.1 (c.looks.ensures.within c.list-test.true) e c.in_ok-at-2.ensures.gives
    c.in_ok-at-2.ensures.within.0 in
    record {
      rest = (t.0, t.1.0, t.1.1 ∙ c.list.invariant.rest.2);
      begin = omega (arith, c.list.invariant.begin, c.in_ok-at-2.ensures.within.0);
      within = c.in_ok-at-2.ensures.within.1;
    }
