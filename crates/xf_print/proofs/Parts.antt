-- Parts of the text of an operation, one behind the other, as lines.
use Rattle.std.proofs.Common.{◌≡◌, ℕ, ◌+◌, ◌*◌, Bool, true, List, [], ◌∷◌, ◌++◌, refl, ap, sym, append_assoc}
use Rattle.std.specs.Prelude.{replicate}
use Rattle.xf_ir.specs.declared.op.Module.{Module}
use Rattle.xf_ir.specs.Placed.{functions_of}
use Rattle.xf_ir.specs.Tree.{Ops, no_ops, Tree, cons}
use Rattle.xf_printed.specs.Names.{Names, no_names, with_ops}
use Rattle.xf_print.specs.Lines.{block_text, body_text, brace_text, closed, closing, end_line, end_text, fed}
use Rattle.xf_print.specs.Lines.{function_text, functions_text, header_text, op_row, opened_text, opening, ops_text}
use Rattle.xf_print.specs.Lines.{rest_text, tail_text, tree_text}
use Rattle.xf_print.proofs.Fed.{pushed, joined, header_starts, all_start, ops_one, functions_one}

pub opened_parts : (names : Names) (margin : ℕ) (t : Tree) (first : Bool) (before : List ℕ)
    → (before ++ opened_text names margin t first) ++ 10 ∷ []
    ≡ ((before ++ brace_text (op_row t.kind) first) ++ 10 ∷ []) ++ fed (header_text names margin t)
unfolding opened_text
opened_parts names margin t first before =
    pushed before (brace_text (op_row t.kind) first) (header_text names margin t) (header_starts names margin t)

pub block_parts : (names : Names) (margin inner : ℕ) (t : Tree) (first : Bool) (ops : Ops) (before : List ℕ)
    → inner ≡ margin + 1
    → (before ++ block_text names margin t first ops) ++ 10 ∷ []
    ≡ ((before ++ opened_text names margin t first) ++ 10 ∷ []) ++ fed (ops_text names inner ops)
unfolding block_text
block_parts names margin inner t first ops before e =
    rw e (pushed before (opened_text names margin t first) (ops_text names (margin + 1) ops)
    (all_start (ops_one names (margin + 1)) ops))

pub tree_parts : (names : Names) (margin : ℕ) (t : Tree) (before : List ℕ)
    → before ≡ replicate (2 * margin) 32 ++ opening names t
    → (before ++ rest_text names margin t true t.regions) ++ 10 ∷ [] ≡ fed (tree_text names margin t)
unfolding tree_text
tree_parts names margin t before e =
    rw e (ap (λ x. x ++ 10 ∷ []) (append_assoc (replicate (2 * margin) 32) (opening names t)
    (rest_text names margin t true t.regions)))

pub function_parts : (names older : Names) (t : Tree) → names ≡ with_ops older (cons t no_ops) → older ≡ no_names
    → fed (tree_text names 1 t) ≡ fed (function_text t)
unfolding function_text
function_parts names older t e f = rw (e, f) refl

pub end_parts : (names : Names) (t : Tree) (before : List ℕ) → before ≡ closed 0
    → (before ++ tail_text names t) ++ 10 ∷ [] ≡ end_line names t
unfolding end_line
end_parts names t before e = rw e refl

pub body_parts : (names : Names) (m : Module) (before : List ℕ)
    → before ++ body_text names m ≡ ((before ++ opened_text names 0 m.root true) ++ 10 ∷ []) ++ (fed
    (functions_text (functions_of m)) ++ end_line names m.root)
unfolding body_text end_text end_line closing
body_parts names m before =
    joined before (opened_text names 0 m.root true) (functions_text (functions_of m))
    ((closed 0 ++ tail_text names m.root) ++ 10 ∷ []) (all_start functions_one (functions_of m))

-- the functions, however they are named
pub functions_parts : (names : Names) (m : Module) (fs : Ops) → fs ≡ functions_of m
    → fed (functions_text (functions_of m)) ++ end_line names m.root ≡ fed (functions_text fs) ++ end_line names m.root
functions_parts names m fs e = ap (λ x. fed (functions_text x) ++ end_line names m.root) (sym e)
