-- What the slots of a row write, as bytes.
use Rattle.std.proofs.Common.{◌≡◌, ℕ, ◌+◌, List, ◌∷◌, [], ◌++◌, drop, true, codes, refl, ap, sym, ◌∙◌, append_assoc}
use Rattle.xf_format.specs.declared.row.FormatElement.{FormatElement}
use Rattle.xf_format.specs.Rules.{dense_rule, dense_type_rule, kind_rule, language, literal_rule, slot_rule}
use Rattle.xf_format.specs.Rules.{slots_rule, tensor_rule}
use Rattle.xf_dense.specs.Machine.{start}
use Rattle.xf_grammar.specs.Grammar.{run, scan, written}
use Rattle.xf_type.specs.declared.payload_type.Shape.{Shape}
use Rattle.xf_type.specs.declared.payload_type.Width.{Width}
use Rattle.xf_ir.specs.declared.kind.Kind.{Kind}
use Rattle.xf_ir.specs.declared.kind.Kind.TheVariants as kind
use Rattle.xf_ir.specs.Tree.{Tree}
use Rattle.xf_printed.specs.Fills.{literal_fill, rule_text, slot_fill, slots_fill, tensor_fill}
use Rattle.xf_printed.specs.Names.{Names}
use Rattle.xf_printed.specs.Structured.{body_printed}
use Rattle.xf_print.specs.Bodies.{body_text}
use Rattle.xf_print_base.proofs.Texts.{text_append}

-- of a kind that is no constant
pub no_literal : (k : Kind) → ((w : Width) (bits : ℕ) → k ≡ kind.Constant w bits → ⊥)
    → ((shape : Shape) (ns : List ℕ) → k ≡ kind.Dense shape ns → ⊥) → rule_text literal_rule (literal_fill k) ≡ []
unfolding literal_rule
no_literal (kind.Constant w bits) n m = absurd (n w bits refl)
no_literal (kind.Dense shape ns) n m = absurd (m shape ns refl)
no_literal k n m = refl

-- of a constant tensor
pub dense_text : (shape : Shape) (ns : List ℕ)
    → rule_text literal_rule (literal_fill (kind.Dense shape ns))
    ≡ codes " dense<" ++ (body_text shape ns ++ (codes "> :" ++ rule_text (tensor_rule true) (tensor_fill shape)))
unfolding literal_rule dense_rule dense_type_rule kind_rule tensor_rule body_text
dense_text shape ns =
    ap (λ x. codes " dense<" ++ x) (text_append (written language (scan start) (run (body_printed shape ns))) _)

-- one more slot
pub slots_go : (names : Names) (first : ℕ) (t : Tree) (ss : List FormatElement) (i : ℕ) (s : FormatElement)
    (line line' all : List ℕ) → drop i ss ≡ s ∷ drop (i + 1) ss
    → line ++ rule_text (slots_rule (drop i ss)) (slots_fill names first t (drop i ss)) ≡ all
    → line' ≡ line ++ rule_text (slot_rule s) (slot_fill names first t s)
    → line' ++ rule_text (slots_rule (drop (i + 1) ss)) (slots_fill names first t (drop (i + 1) ss)) ≡ all
slots_go names first t ss i s line line' all at e f =
    let rest : List FormatElement = drop (i + 1) ss in
    rw f (append_assoc line (rule_text (slot_rule s) (slot_fill names first t s))
    (rule_text (slots_rule rest) (slots_fill names first t rest))
    ∙ ap (λ x. line ++ x) (sym (text_append (written language (slot_rule s) (slot_fill names first t s))
    (written language (slots_rule rest) (slots_fill names first t rest))))
    ∙ rw at at e)
