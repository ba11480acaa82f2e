-- The printed form of a valid module is laid out of tokens that the format of payloads writes.
use Rattle.std.proofs.Common.{◌≡◌, inl, ℕ, true, List, [], ◌∷◌, ◌++◌, Option, refl, sym, subst}
use Rattle.std.specs.Prelude.{map, codes}
use Rattle.std.proofs.lemmas.Bool.{and_parts}
use Rattle.xf_type.specs.declared.payload_type.PayloadType.{PayloadType}
use Rattle.xf_grammar.specs.Tokens.{Terminal, the_end, is_word}
use Rattle.xf_grammar.specs.Grammar.{line, Spaced, tokens_of, begun, written, first_seen}
use Rattle.xf_grammar.specs.Tree.{Blocks, no_blocks, a_block, docs_written}
use Rattle.xf_format.specs.declared.row.Level.TheVariants as level
use Rattle.xf_format.specs.Format.{format}
use Rattle.xf_format.specs.Rules.{language, head_rule, row_rule}
use Rattle.xf_ir.specs.declared.kind.Kind.{Kind}
use Rattle.xf_ir.specs.declared.kind.Kind.TheVariants as kind
use Rattle.xf_ir.specs.Calls.{Signatures, signatures}
use Rattle.xf_ir.specs.Kinds.{is_module}
use Rattle.xf_ir.specs.Placed.{type_at, functions_of}
use Rattle.xf_ir.specs.RuleTypes.{row_of}
use Rattle.xf_ir.specs.Types.{have_types}
use Rattle.xf_printed.specs.Fills.{head_fill}
use Rattle.xf_printed.specs.Names.{no_names}
use Rattle.xf_printed.specs.PrintedForm.{word_of, head_of, slots_of, header_of, tail_of, functions_docs, module_docs}
use Rattle.xf_print_laws.specs.SaidPrinted.{printed_said}
use Rattle.xf_print_laws.proofs.LayoutDocs.{printed_is_laid_out as laid_out}
use Rattle.xf_print_laws.proofs.Printed.{printed_fits, printed_says_heads, printed_has_few}
use Rattle.xf_syntax.specs.Written.{AreFilled, IsWritten}
use Rattle.xf_roundtrip.specs.PrintedLaws.{PrintedHasLayout}

begins_by : (sigs : Signatures) (k : Kind) (types : List (Option PayloadType)) (i : ℕ) (ts : List PayloadType)
    (rest : List Spaced) → is_module k ≡ true → row_of sigs [] k types ts ≡ true
    → is_word (codes "module") (first_seen (tokens_of
    (begun (line 0) (written language (head_rule level.File) (head_fill i ts (word_of k))) ++ rest)) the_end) ≡ true
unfolding head_rule row_rule
begins_by sigs (kind.Module symbol) types i [] rest e r = refl
begins_by sigs (kind.Module symbol) types i (t ∷ ts) rest e r =
    absurd (let z = (and_parts (have_types types []) _ r).1 in cc)
begins_by sigs k types i ts rest e r = absurd cc

pub printed_has_layout : PrintedHasLayout
printed_has_layout m v st within =
    let t = m.root in
    let l = laid_out m v st within in
    let xs : List Terminal = tokens_of (docs_written format level.File 0 (module_docs m)) in
    let filled : AreFilled 0 (module_docs m) xs (printed_said m) =
    record { tokens = refl; fit = printed_fits m v st within; says = printed_says_heads m v st within } in
    let block : Blocks = a_block (header_of no_names t) (functions_docs (functions_of m)) no_blocks in
    let types = map (type_at []) t.operands in
    let begins = begins_by (signatures m) t.kind types _ t.results _ v.functions.root v.types.0 in
    let written : IsWritten xs (printed_said m) = record {
      tokens = inl (begins, (head_of no_names t, (slots_of no_names t, (block, (tail_of no_names t, filled)))));
      number = printed_has_few m v st within;
    } in
    let r = l.1.1.1.1 in
    (l.0, (l.1.0, (l.1.1.0, (l.1.1.1.0, (r.0, subst (λ ys. IsWritten ys (printed_said m)) (sym r.1) written)))))
