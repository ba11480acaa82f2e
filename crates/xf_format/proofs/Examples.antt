-- Heads of small texts.
use Rattle.std.proofs.Common.{◌≡◌, ℕ, List, [], ◌∷◌, Some, None, Ok, Err, true, refl}
use Rattle.std.specs.Prelude.{codes}
use Rattle.xf_lex.specs.declared.token.Token.{Token}
use Rattle.xf_lex.specs.declared.token.TokenKind.{TokenKind}
use Rattle.xf_lex.specs.declared.token.TokenKind.TheVariants as kind
use Rattle.xf_type.specs.declared.kind.BinKind.TheVariants as bin
use Rattle.xf_type.specs.declared.payload_type.PayloadType.TheVariants.{Scalar}
use Rattle.xf_type.specs.declared.payload_type.Width.TheVariants as width
use Rattle.xf_grammar.specs.Reading.{Out}
use Rattle.xf_format.specs.declared.expected.Expected.{Expected}
use Rattle.xf_format.specs.declared.expected.Expected.TheVariants as due
use Rattle.xf_format.specs.declared.parts.EntryValue.TheVariants as entry
use Rattle.xf_format.specs.declared.parts.Parts.{Parts}
use Rattle.xf_format.specs.declared.row.Level.TheVariants as level
use Rattle.xf_format.specs.declared.row.Row.{Row}
use Rattle.xf_format.specs.declared.row.Row.TheVariants as row
use Rattle.xf_format.specs.Actions.{Reading, free}
use Rattle.xf_format.specs.Format.{payload_head_at}
use Rattle.xf_format.specs.Parts.{no_parts, ref, use_of}
use Rattle.xf_format.specs.Rules.{argument_rule, call_results_rule, defines_rule, dictionary_rule, entry_number_rule}
use Rattle.xf_format.specs.Rules.{entry_rule, entry_value_rule, entry_width_rule, head_rule, iter_args_rule, kind_rule}
use Rattle.xf_format.specs.Rules.{loop_width_rule, result_rule, result_types_rule, row_rule, symbol_rule, until_rule}
use Rattle.xf_format.specs.Rules.{use_rule, width_rule, word_rule}

abbrev of : TokenKind → List ℕ → Token
of k bytes = record { kind = k; bytes = bytes; place = record { line = 1; col = 1 } }

abbrev word : List ℕ → Token
word bytes = of kind.Word bytes

abbrev value : List ℕ → Token
value bytes = of kind.Value bytes

abbrev mark : ℕ → Token
mark b = of (kind.Mark b) (b ∷ [])

abbrev number : List ℕ → Token
number digits = of kind.Integer digits

-- what is read of an operation, and the number of the token behind it
abbrev head : Parts → ℕ → Out (Row × Reading) Expected
head p next = Ok ((p.row, free p), next)

-- %0 = arith.addi %a, %b : i32
abbrev sum : List Token
sum = value (codes "%0") ∷ mark 61 ∷ word (codes "arith.addi") ∷ value (codes "%a") ∷ mark 44 ∷ value (codes "%b")
    ∷ mark 58 ∷ word (codes "i32") ∷ []

sum_is_read : let p = no_parts (row.Binary bin.Addi) in let q : Parts = record p {
  defines = ref 0 1 ∷ [];
  uses = use_of 3 None ∷ use_of 5 None ∷ [];
  types = Scalar width.I32 ∷ [];
} in payload_head_at sum level.Body 0 ≡ head q 8
unfolding head_rule defines_rule row_rule use_rule kind_rule dictionary_rule width_rule
sum_is_read = refl

-- scf.for %i = %a to %b step %c#1
abbrev loop : List Token
loop =
    word (codes "scf.for") ∷ value (codes "%i") ∷ mark 61 ∷ value (codes "%a") ∷ word (codes "to") ∷ value (codes "%b")
    ∷ word (codes "step") ∷ value (codes "%c") ∷ of kind.Hash (codes "#1") ∷ mark 123 ∷ []

-- a loop without a width has the width index
loop_is_read : let p = no_parts row.For in let q : Parts = record p {
  args = ref 1 1 ∷ [];
  uses = use_of 3 None ∷ use_of 5 None ∷ use_of 7 (Some 1) ∷ [];
  types = Scalar width.Index ∷ [];
} in payload_head_at loop level.Body 0 ≡ head q 9
unfolding head_rule row_rule argument_rule kind_rule use_rule word_rule iter_args_rule loop_width_rule
loop_is_read = refl

-- %0:2 = call @f() {n = -1 : i8} : () -> (i1, index)
abbrev call : List Token
call =
    value (codes "%0") ∷ mark 58 ∷ number (codes "2") ∷ mark 61 ∷ word (codes "call") ∷ of kind.Symbol (codes "@f")
    ∷ mark 40 ∷ mark 41
    ∷ mark 123 ∷ word (codes "n") ∷ mark 61 ∷ mark 45 ∷ number (codes "1") ∷ mark 58 ∷ word (codes "i8") ∷ mark 125
    ∷ mark 58 ∷ mark 40 ∷ mark 41 ∷ of kind.Arrow (codes "->") ∷ mark 40 ∷ word (codes "i1") ∷ mark 44
    ∷ word (codes "index") ∷ mark 41 ∷ []

call_is_read : let p = no_parts row.Call in let q : Parts = record p {
  symbol = Some 5;
  entries = (record { name = 9; value = entry.Integer true 12 width.I8 }) ∷ [];
  defines = ref 0 2 ∷ [];
  results = Scalar width.I1 ∷ Scalar width.Index ∷ [];
} in payload_head_at call level.Body 0 ≡ head q 25
unfolding head_rule defines_rule row_rule symbol_rule kind_rule until_rule dictionary_rule entry_rule entry_value_rule
    entry_number_rule entry_width_rule call_results_rule result_types_rule result_rule
call_is_read = refl

-- ---- refusals, at the first token that does not fit

abbrev refused : List Token → ℕ → Expected → Type 0
refused all i d = let o : Out (Row × Reading) Expected = Err (i, d) in payload_head_at all level.Body 0 ≡ o

-- arith.addi %a : i32
lacks_an_operand : refused (word (codes "arith.addi") ∷ value (codes "%a") ∷ mark 58 ∷ word (codes "i32")
    ∷ []) 2 due.Other
unfolding head_rule row_rule use_rule kind_rule
lacks_an_operand = refl

-- arith.addi %a, %b : f32
no_width : refused (word (codes "arith.addi") ∷ value (codes "%a") ∷ mark 44 ∷ value (codes "%b") ∷ mark 58
    ∷ word (codes "f32") ∷ []) 5 due.ArithWidth
unfolding head_rule row_rule use_rule kind_rule dictionary_rule width_rule
no_width = refl

-- arith.constant {n = 256 : i8} 5 : i32, whose attribute is too large
too_large : refused (word (codes "arith.constant") ∷ mark 123 ∷ word (codes "n") ∷ mark 61 ∷ number (codes "256")
    ∷ mark 58 ∷ word (codes "i8") ∷ []) 6 due.Other
unfolding head_rule row_rule dictionary_rule until_rule entry_rule entry_value_rule entry_number_rule entry_width_rule
too_large = refl

-- func.func stands in no body
no_function : refused (word (codes "func.func") ∷ []) 0 due.Operation
unfolding head_rule row_rule
no_function = refl

-- a text that ends too early is refused at its end
too_early : refused (word (codes "scf.if") ∷ []) 1 due.Other
unfolding head_rule row_rule use_rule
too_early = refl
