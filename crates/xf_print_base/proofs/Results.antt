-- What the rules of results write, as bytes.
use Rattle.std.proofs.Common.{◌≡◌, ◌≢◌, true, false, ℕ, suc, ◌≤◌, List, [], ◌∷◌, ◌++◌, length, drop, get_or, codes}
use Rattle.std.proofs.Common.{refl, ap, sym, ◌∙◌, arith}
use Rattle.std.proofs.lemmas.Grind.{common_steps}
use Rattle.xf_lex.specs.declared.token.TokenKind.TheVariants as token
use Rattle.xf_grammar.specs.Tokens.{terminal, close_paren}
use Rattle.xf_grammar.specs.Grammar.{Fill, Spaced, blank, listed, spaced, written}
use Rattle.xf_type.specs.declared.payload_type.PayloadType.{PayloadType}
use Rattle.xf_format.specs.declared.expected.Expected.{Expected}
use Rattle.xf_format.specs.declared.expected.Expected.TheVariants as due
use Rattle.xf_format.specs.declared.list.Item.TheVariants as item
use Rattle.xf_format.specs.Rules.{language, call_results_rule, function_results_rule, if_results_rule, iter_args_rule}
use Rattle.xf_format.specs.Rules.{kind_rule, listed_results_rule, pair_rule, result_rule, result_types_rule, until_rule}
use Rattle.xf_ir.specs.declared.name.ValueName.{ValueName}
use Rattle.xf_printed.specs.Items.{call_results_fill, function_results_fill, if_results_fill, iter_args_fill}
use Rattle.xf_printed.specs.Items.{listed_results_fill, pair_fill, pairs, result_types_fill, rule_text, some_fill}
use Rattle.xf_printed.specs.Items.{type_fill, until_fill}
use Rattle.xf_printed.specs.Names.{Names}
use Rattle.xf_print_base.proofs.Texts.{text_append, until_text}

-- types in parentheses
pub listed_text : (ts : List PayloadType)
    → rule_text listed_results_rule (listed_results_fill ts)
    ≡ codes " (" ++ (rule_text (listed (result_rule false)) (some_fill type_fill ts) ++ codes ")")
unfolding listed_results_rule kind_rule
listed_text ts = ap (λ x. codes " (" ++ x) (until_text close_paren due.Other item.Result type_fill ts)

pub single : (ts : List PayloadType) (t : PayloadType) → length ts ≡ 1 → t ≡ get_or ts 0 t → ts ≡ t ∷ []
single [] t e is = absurd (omega (arith, e))
single (u ∷ []) t e is = ap (λ x. x ∷ []) (sym is)
single (u ∷ (v ∷ vs)) t e is = absurd (omega (arith, e))

-- one type, and none or several, whatever is due behind the first
pub one_type : (d : Expected) (ts : List PayloadType) (t : PayloadType) → ts ≡ t ∷ []
    → rule_text (result_types_rule d) (result_types_fill ts) ≡ rule_text (result_rule true) (type_fill t)
unfolding result_types_rule
one_type d ts t e = rw e refl

pub other_types : (d : Expected) (ts : List PayloadType) → length ts ≢ 1
    → rule_text (result_types_rule d) (result_types_fill ts) ≡ rule_text listed_results_rule (listed_results_fill ts)
unfolding result_types_rule
other_types d [] n =
    ap (λ x. codes " (" ++ x) (until_text close_paren d item.Result type_fill []) ∙ sym (listed_text [])
other_types d (t ∷ []) n = absurd (n refl)
other_types d (t ∷ (u ∷ us)) n =
    ap (λ x. codes " (" ++ x) (until_text close_paren d item.Result type_fill (t ∷ (u ∷ us)))
    ∙ sym (listed_text (t ∷ (u ∷ us)))

any_due : (d e : Expected) (ts : List PayloadType)
    → rule_text (result_types_rule d) (result_types_fill ts) ≡ rule_text (result_types_rule e) (result_types_fill ts)
any_due d e [] = other_types d [] (λ q. omega (arith, q)) ∙ sym (other_types e [] (λ q. omega (arith, q)))
any_due d e (t ∷ []) = one_type d (t ∷ []) t refl ∙ sym (one_type e (t ∷ []) t refl)
any_due d e (t ∷ (u ∷ us)) =
    other_types d (t ∷ (u ∷ us)) (λ q. omega (arith, q)) ∙ sym (other_types e (t ∷ (u ∷ us)) (λ q. omega (arith, q)))

-- behind an arrow
pub call_results_text : (ts : List PayloadType)
    → rule_text call_results_rule (call_results_fill ts)
    ≡ codes " ->" ++ rule_text (result_types_rule due.Other) (result_types_fill ts)
unfolding call_results_rule kind_rule
call_results_text ts = refl

pub no_function_results : (ts : List PayloadType) → length ts ≡ 0
    → rule_text function_results_rule (function_results_fill ts) ≡ []
unfolding function_results_rule
no_function_results [] e = refl
no_function_results (t ∷ ts) e = absurd (omega (arith, e))

pub function_results_text : (ts : List PayloadType) → 1 ≤ length ts
    → rule_text function_results_rule (function_results_fill ts) ≡ rule_text call_results_rule (call_results_fill ts)
unfolding function_results_rule
function_results_text [] lt = absurd (omega (arith, lt))
function_results_text (t ∷ ts) lt =
    ap (λ x. codes " ->" ++ x) (any_due due.AfterResult due.Other (t ∷ ts)) ∙ sym (call_results_text (t ∷ ts))

pub no_if_results : (ts : List PayloadType) → length ts ≡ 0 → rule_text if_results_rule (if_results_fill ts) ≡ []
unfolding if_results_rule
no_if_results [] e = refl
no_if_results (t ∷ ts) e = absurd (omega (arith, e))

pub if_results_text : (ts : List PayloadType) → 1 ≤ length ts
    → rule_text if_results_rule (if_results_fill ts)
    ≡ codes " ->" ++ rule_text listed_results_rule (listed_results_fill ts)
unfolding if_results_rule
if_results_text [] lt = absurd (omega (arith, lt))
if_results_text (t ∷ ts) lt = refl

-- ---- loops

pub no_iter_args : (names : Names) (first : ℕ) (os : List ValueName) (ts : List PayloadType) → length ts ≡ 0
    → rule_text iter_args_rule (iter_args_fill names first os ts) ≡ []
unfolding iter_args_rule
no_iter_args names first os [] e = refl
no_iter_args names first os (t ∷ ts) e = absurd (omega (arith, e))

pub iter_args_text : (names : Names) (first : ℕ) (os : List ValueName) (ts : List PayloadType) → 1 ≤ length ts
    → rule_text iter_args_rule (iter_args_fill names first os ts)
    ≡ codes " iter_args(" ++ ((rule_text (listed pair_rule)
    (some_fill (pair_fill names) (pairs (suc first) (drop 3 os))) ++ codes ")") ++ (codes " ->" ++ rule_text
    listed_results_rule (listed_results_fill ts)))
unfolding iter_args_rule kind_rule
iter_args_text names first os [] lt = absurd (omega (arith, lt))
iter_args_text names first os (t ∷ ts) lt =
    let pairs_filled : Fill = until_fill close_paren (pair_fill names) (pairs (suc first) (drop 3 os)) in
    let after : List Spaced = spaced blank (terminal token.Arrow []) ∷ written language listed_results_rule
    (listed_results_fill (t ∷ ts)) in
    ap (λ x. codes " iter_args(" ++ x)
    (text_append (written language (until_rule close_paren due.Other item.Pair) pairs_filled) after
    ∙ ap (λ x. x ++ (codes " ->" ++ rule_text listed_results_rule (listed_results_fill (t ∷ ts))))
    (until_text close_paren due.Other item.Pair (pair_fill names) (pairs (suc first) (drop 3 os))))

-- ---- what the check tries at a call that writes nothing or something

pub ruleset function_results = (common_steps, no_function_results, function_results_text)

pub ruleset if_results = (common_steps, no_if_results, if_results_text)

pub ruleset iter_args = (common_steps, no_iter_args, iter_args_text)
