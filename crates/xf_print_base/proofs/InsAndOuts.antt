-- What the rules of the operands of linalg write, as bytes.
use Rattle.std.proofs.Common.{◌≡◌, ℕ, ◌≤◌, Option, List, [], ◌∷◌, ◌++◌, length, true, false, codes, refl, ap, ◌∙◌}
use Rattle.std.proofs.Common.{arith}
use Rattle.std.proofs.lemmas.Grind.{common_steps}
use Rattle.std.specs.Prelude.{option_and_then}
use Rattle.xf_grammar.specs.Grammar.{listed, written}
use Rattle.xf_format.specs.Rules.{ins_rule, kind_rule, language, outs_rule, some_ins_rule, type_rule, typed_rule}
use Rattle.xf_format.specs.Rules.{use_rule, word_rule}
use Rattle.xf_ir.specs.declared.name.ValueName.{ValueName}
use Rattle.xf_printed.specs.Items.{ins_fill, operand_fill, outs_fill, rule_text, some_fill, type_or_none}
use Rattle.xf_printed.specs.Items.{typed_uses_fill, value_fill, value_type_fill}
use Rattle.xf_printed.specs.Names.{Names, type_of}
use Rattle.xf_printed.specs.Structured.{some_ins_fill}
use Rattle.xf_print_base.proofs.Texts.{text_append}

pub typed_text : (names : Names) (os : List ValueName)
    → rule_text typed_rule (typed_uses_fill names os)
    ≡ rule_text (listed (use_rule false)) (some_fill (value_fill names) os) ++ (codes " :" ++ (rule_text
    (listed (type_rule true)) (some_fill (value_type_fill names) os) ++ codes ")"))
unfolding typed_rule kind_rule
typed_text names os =
    let uses : List ℕ = rule_text (listed (use_rule false)) (some_fill (value_fill names) os) in
    text_append (written language (listed (use_rule false)) (some_fill (value_fill names) os)) _
    ∙ ap (λ x. uses ++ (codes " :" ++ x))
    (text_append (written language (listed (type_rule true)) (some_fill (value_type_fill names) os)) _)

pub ins_text : (names : Names) (os : List ValueName)
    → rule_text ins_rule (ins_fill names os) ≡ codes " ins(" ++ rule_text typed_rule (typed_uses_fill names os)
unfolding ins_rule word_rule kind_rule
ins_text names os = refl

pub no_ins : (names : Names) (os : List ValueName) → length os ≡ 0
    → rule_text some_ins_rule (some_ins_fill names os) ≡ []
unfolding some_ins_rule
no_ins names [] e = refl
no_ins names (v ∷ vs) e = absurd (omega (arith, e))

pub some_ins_text : (names : Names) (os : List ValueName) → 1 ≤ length os
    → rule_text some_ins_rule (some_ins_fill names os) ≡ rule_text ins_rule (ins_fill names os)
unfolding some_ins_rule ins_rule word_rule kind_rule
some_ins_text names [] lt = absurd (omega (arith, lt))
some_ins_text names (v ∷ vs) lt = refl

pub outs_text : (names : Names) (o : Option ValueName)
    → rule_text outs_rule (outs_fill names o)
    ≡ codes " outs(" ++ (rule_text (use_rule false) (operand_fill names o) ++ (codes " :" ++ (rule_text
    (type_rule true) (type_or_none (option_and_then (type_of names) o)) ++ codes ")")))
unfolding outs_rule kind_rule
outs_text names o =
    let name : List ℕ = rule_text (use_rule false) (operand_fill names o) in
    ap (λ x. codes " outs(" ++ x)
    (text_append (written language (use_rule false) (operand_fill names o)) _
    ∙ ap (λ x. name ++ (codes " :" ++ x))
    (text_append (written language (type_rule true) (type_or_none (option_and_then (type_of names) o))) _))

-- ---- what the check tries at a call that writes nothing or something

pub ruleset some_ins = (common_steps, no_ins, some_ins_text)
