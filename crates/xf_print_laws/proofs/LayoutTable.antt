-- No tokens of an operation run together, whatever its row: computed over the table.
use Rattle.std.proofs.Common.{false, refl}
use Rattle.std.specs.Prelude.{codes}
use Rattle.xf_lex.specs.declared.token.TokenKind.TheVariants as kind
use Rattle.xf_grammar.specs.Apart.{Classes, Classed, RowsApart, ShapeLexes}
use Rattle.xf_grammar.proofs.LaidOut.{known_token}
use Rattle.xf_format.specs.declared.row.Row.{Row}
use Rattle.xf_format.specs.declared.row.Row.TheVariants as row
use Rattle.xf_format.specs.Actions.{Action}
use Rattle.xf_format.specs.Format.{format}
use Rattle.xf_format.specs.Rules.{language, kind_rule, word_rule, symbol_rule, module_name_rule, function_name_rule}
use Rattle.xf_format.specs.Rules.{argument_rule, use_rule, width_rule, type_rule, result_rule, predicate_rule}
use Rattle.xf_format.specs.Rules.{block_name_rule, number_rule, literal_rule, entry_width_rule, entry_number_rule}
use Rattle.xf_format.specs.Rules.{entry_value_rule, entry_rule, param_rule, pair_rule, until_rule, dictionary_rule}
use Rattle.xf_format.specs.Rules.{attributes_rule, result_types_rule, call_results_rule, function_results_rule}
use Rattle.xf_format.specs.Rules.{listed_results_rule, if_results_rule, operands_rule, iter_args_rule, loop_width_rule}
use Rattle.xf_format.specs.Rules.{row_rule, defines_rule, head_rule}
use Rattle.xf_format.specs.Tests.{Test}
use Rattle.xf_format.specs.Tests.{State}
use Rattle.xf_format.specs.Rules.{tensor_rule, result_tensor_rule, typed_rule, ins_rule, outs_rule}
use Rattle.xf_format.specs.declared.row.Body.{Body}
use Rattle.xf_format.specs.declared.row.Body.TheVariants as body
use Rattle.xf_format.specs.Rows.{bodies}
use Rattle.xf_format.specs.Format.{regions_of}
use Rattle.xf_print_laws.proofs.Classes.{class, classed}
use Rattle.xf_print_laws.proofs.Runs.{scanned_at, scanned_apart}
use Rattle.xf_format.specs.Rules.{some_ins_rule, marked_rule, place_rule, stride_rule, iterator_rule, dimension_rule}
use Rattle.xf_format.specs.Rules.{given_rule, map_form_rule, map_rule, maps_rule, dense_rule, dense_type_rule}

-- what may stand behind the tokens of a body depends on the stage at which the machine begins
abbrev pub classes : Classes Action Test State
classes = record { class = class; never = λ k. false; scanned = λ m bs. scanned_at m.stage bs }

pub known_classes : Classed language classes
known_classes = record {
  classed = classed;
  never = λ k t e. absurd cc;
  scanned = scanned_apart;
}

-- ---- the rows

pub rows_apart : RowsApart format classes
unfolding kind_rule word_rule symbol_rule module_name_rule function_name_rule argument_rule use_rule width_rule
    type_rule result_rule predicate_rule block_name_rule number_rule literal_rule entry_width_rule entry_number_rule
    entry_value_rule entry_rule param_rule pair_rule until_rule dictionary_rule attributes_rule result_types_rule
    call_results_rule function_results_rule listed_results_rule if_results_rule operands_rule iter_args_rule
    loop_width_rule tensor_rule result_tensor_rule typed_rule ins_rule some_ins_rule outs_rule marked_rule place_rule
    stride_rule iterator_rule dimension_rule given_rule map_form_rule map_rule maps_rule dense_rule dense_type_rule
    row_rule defines_rule head_rule
rows_apart l row.Module = refl
rows_apart l r = refl

else_lexes : (b : Body) → ShapeLexes (regions_of b)
else_lexes body.None = tt
else_lexes b = known_token kind.Word (codes "else") refl refl refl

pub shapes_lex : (r : Row) → ShapeLexes (format.shape r)
shapes_lex r = else_lexes (bodies r)
