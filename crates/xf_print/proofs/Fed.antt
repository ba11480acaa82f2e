-- Lines with their line feeds, of a text that begins each of them with one.
use Rattle.std.proofs.Common.{◌≡◌, ℕ, Bool, true, false, List, [], ◌∷◌, ◌++◌, refl, ap, sym, subst, ◌∙◌, append_assoc}
use Rattle.std.specs.Prelude.{if◌then◌else◌}
use Rattle.xf_grammar.specs.Grammar.{line, Spaced, begun}
use Rattle.xf_grammar.specs.Layout.{text}
use Rattle.xf_ir.specs.Tree.{Ops, no_ops, op, Tree, cons}
use Rattle.xf_printed.specs.Names.{Names}
use Rattle.xf_printed.specs.PrintedForm.{is_empty_yield}
use Rattle.xf_print.specs.Lines.{fed, function_text, functions_text, header_text, op_text, ops_text, tree_text}
use Rattle.xf_print.proofs.Docs.{first_op, first_function, no_function, no_op}

-- nothing, or a line feed first
abbrev pub Starts : List ℕ → Type 0
Starts [] = Unit {0}
Starts (b ∷ bs) = b ≡ 10

pub feed : (xs : List ℕ) → Starts xs → 10 ∷ fed xs ≡ xs ++ 10 ∷ []
feed [] s = refl
feed (b ∷ bs) s = ap (λ c. c ∷ (bs ++ 10 ∷ [])) (sym s)

pub both_fed : (xs ys : List ℕ) → Starts xs → Starts ys → fed (xs ++ ys) ≡ fed xs ++ fed ys
both_fed [] ys s t = refl
both_fed (b ∷ bs) ys s t =
    append_assoc bs ys (10 ∷ []) ∙ ap (λ z. bs ++ z) (sym (feed ys t)) ∙ sym (append_assoc bs (10 ∷ []) (fed ys))

starts_append : (xs ys : List ℕ) → Starts xs → Starts ys → Starts (xs ++ ys)
starts_append [] ys s t = t
starts_append (b ∷ bs) ys s t = s

-- behind a line so far, a text that starts with a line feed
pub pushed : (a b h : List ℕ) → Starts h → (a ++ (b ++ h)) ++ 10 ∷ [] ≡ ((a ++ b) ++ 10 ∷ []) ++ fed h
pushed a b h s =
    ap (λ x. x ++ 10 ∷ []) (sym (append_assoc a b h)) ∙ append_assoc (a ++ b) h (10 ∷ [])
    ∙ ap (λ z. (a ++ b) ++ z) (sym (feed h s))
    ∙ sym (append_assoc (a ++ b) (10 ∷ []) (fed h))

-- and one more line behind it
pub joined : (a b f e : List ℕ) → Starts f → a ++ (b ++ (f ++ 10 ∷ e)) ≡ ((a ++ b) ++ 10 ∷ []) ++ (fed f ++ e)
joined a b f e s =
    sym (append_assoc a b (f ++ 10 ∷ e))
    ∙ ap (λ z. (a ++ b) ++ z) (sym (append_assoc f (10 ∷ []) e) ∙ ap (λ z. z ++ e) (sym (feed f s)))
    ∙ sym (append_assoc (a ++ b) (10 ∷ []) (fed f ++ e))

-- ---- which texts start so

-- a text of operations, one behind the other
pub record OneByOne (all : Ops → List ℕ) (one : Tree → List ℕ) : Type 0 where
  pub none : all no_ops ≡ []
  pub more : (t : Tree) (rest : Ops) → all (cons t rest) ≡ one t ++ all rest
  pub starts : (t : Tree) → Starts (one t)

pub all_start : {all : Ops → List ℕ} {one : Tree → List ℕ} → OneByOne all one → (ops : Ops) → Starts (all ops)
all_start o no_ops = subst Starts (sym o.none) tt
all_start o (op n k ds os ts rs rest) =
    let t : Tree = record { name = n; kind = k; attrs = ds; operands = os; results = ts; regions = rs } in
    subst Starts (sym (o.more t rest)) (starts_append _ _ (o.starts t) (all_start o rest))

tree_starts : (names : Names) (margin : ℕ) (t : Tree) → Starts (tree_text names margin t)
unfolding tree_text
tree_starts names margin t = refl

none_or : (b : Bool) (xs : List ℕ) → Starts xs → Starts (if b then [] else xs)
none_or true xs s = tt
none_or false xs s = s

pub ops_one : (names : Names) (margin : ℕ) → OneByOne (ops_text names margin) (op_text names margin)
ops_one names margin = record {
  none = no_op names margin;
  more = first_op names margin;
  starts = λ t. none_or (is_empty_yield t.kind t.attrs t.operands) _ (tree_starts names margin t);
}

pub functions_one : OneByOne functions_text function_text
unfolding function_text
functions_one = record { none = no_function; more = first_function; starts = λ t. tree_starts _ 1 t }

begun_starts : (margin : ℕ) (ps : List Spaced) → Starts (text (begun (line margin) ps))
begun_starts margin [] = tt
begun_starts margin (p ∷ ps) = refl

pub header_starts : (names : Names) (margin : ℕ) (t : Tree) → Starts (header_text names margin t)
unfolding header_text
header_starts names margin t = begun_starts margin _
