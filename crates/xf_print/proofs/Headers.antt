-- The line before the operations of a block.
use Rattle.std.proofs.Common.{◌≡◌, ℕ, ◌-◌, ◌*◌, ◌≤◌, List, [], ◌∷◌, ◌++◌, codes, length, take, drop, refl, ap, sym, ◌∙◌}
use Rattle.std.proofs.Common.{arith}
use Rattle.std.specs.Prelude.{replicate}
use Rattle.std.proofs.lemmas.List.{take_all}
use Rattle.xf_format.specs.declared.row.FormatElement.{FormatElement}
use Rattle.xf_format.specs.declared.row.Row.{Row}
use Rattle.xf_format.specs.declared.row.Row.TheVariants as row
use Rattle.xf_format.specs.Rows.{header}
use Rattle.xf_format.specs.Rules.{block_name_rule}
use Rattle.xf_grammar.specs.Grammar.{Gap, line}
use Rattle.xf_grammar.specs.Layout.{gap_text}
use Rattle.xf_ir.specs.Tree.{Tree}
use Rattle.xf_printed.specs.Names.{Names}
use Rattle.xf_print.specs.Lines.{begun_text, fed, header_text, op_row, slots_text}

-- each header begins with the name of a block
begins_block : (g : Gap) (names : Names) (t : Tree) (r : Row) → 1 ≤ length (header r)
    → begun_text g names t (header r) ≡ (gap_text g ++ codes "^bb0") ++ slots_text names t (drop 1 (header r))
unfolding block_name_rule
begins_block g names t row.Generic lt = refl
begins_block g names t r lt = absurd (omega (arith, lt))

rest_of : (ss : List FormatElement) → take (length ss - 1) (drop 1 ss) ≡ drop 1 ss
rest_of [] = refl
rest_of (s ∷ ss) = take_all (length (s ∷ ss) - 1) ss (omega arith)

pub header_made : (names : Names) (margin : ℕ) (t : Tree) (ss : List FormatElement) (first second third fourth : List ℕ)
    → ss ≡ header (op_row t.kind) → 1 ≤ length ss
    → first ≡ replicate (2 * margin) 32 → second ≡ first ++ codes "^bb0"
    → third ≡ second ++ slots_text names t (take (length ss - 1) (drop 1 ss)) → fourth ≡ third ++ 10 ∷ []
    → fourth ≡ fed (header_text names margin t)
unfolding header_text
header_made names margin t ss first second third fourth e lt f g h k =
    let q : third ≡ (replicate (2 * margin) 32 ++ codes "^bb0") ++ slots_text names t
    (drop 1 (header (op_row t.kind))) = h ∙ rw (rest_of ss, g, f, e) refl in
    k ∙ ap (λ x. x ++ 10 ∷ []) q ∙ sym (ap fed (begins_block (line margin) names t (op_row t.kind) (rw e at lt)))

pub no_header : (names : Names) (margin : ℕ) (t : Tree) (ss : List FormatElement) → ss ≡ header (op_row t.kind)
    → length ss ≡ 0 → [] ≡ fed (header_text names margin t)
unfolding header_text
no_header names margin t ss e n = rw (← e) (ap fed (none ss n))
  where
    none : (ss : List FormatElement) → length ss ≡ 0 → [] ≡ begun_text (line margin) names t ss
    none [] n = refl
    none (s ∷ ss) n = absurd (omega (arith, n))
