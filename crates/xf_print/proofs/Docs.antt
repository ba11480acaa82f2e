-- The text of operations, one behind the other.
use Rattle.std.proofs.Common.{◌≡◌, ℕ, ◌+◌, Bool, true, false, List, [], ◌∷◌, ◌++◌, codes, refl, ap, sym, ◌∙◌}
use Rattle.std.proofs.Common.{append_assoc, append-nil}
use Rattle.std.specs.Prelude.{if◌then◌else◌}
use Rattle.xf_type.specs.declared.payload_type.PayloadType.{PayloadType}
use Rattle.xf_grammar.specs.Grammar.{Fill, Gap, none, line, Spaced, begun, written}
use Rattle.xf_grammar.specs.Layout.{gap_text, text}
use Rattle.xf_grammar.specs.Tree.{Docs, no_docs, doc, Blocks, no_blocks, a_block, between, blocks_written, docs_written}
use Rattle.xf_grammar.specs.Tree.{row_of as head_row_of}
use Rattle.xf_format.specs.declared.row.Body.{Body}
use Rattle.xf_format.specs.declared.row.Body.TheVariants as body
use Rattle.xf_format.specs.declared.row.Level.{Level}
use Rattle.xf_format.specs.declared.row.Level.TheVariants as level
use Rattle.xf_format.specs.declared.row.Row.{Row}
use Rattle.xf_format.specs.Format.{format, regions_of}
use Rattle.xf_format.specs.Rows.{behind, bodies, header, inside, slots, tail, words}
use Rattle.xf_format.specs.Rules.{defines_rule, head_rule, kind_rule, language, row_rule, slots_rule}
use Rattle.xf_format.specs.Words.{lookup, the_row}
use Rattle.xf_ir.specs.declared.op.Module.{Module}
use Rattle.xf_ir.specs.Placed.{functions_of}
use Rattle.xf_ir.specs.Tree.{Ops, no_ops, op, Regions, no_regions, region, Tree, cons}
use Rattle.xf_printed.specs.Fills.{head_fill, rule_text}
use Rattle.xf_printed.specs.Names.{Names, no_names, number_of, with_ops}
use Rattle.xf_printed.specs.PrintedForm.{functions_docs, head_of, header_of, is_empty_yield, ops_docs, printed_form}
use Rattle.xf_printed.specs.PrintedForm.{regions_blocks, slots_of, tail_of, word_of}
use Rattle.xf_print.specs.Lines.{block_text, blocks_text, body_text, brace_text, closing, end_text, function_text}
use Rattle.xf_print.specs.Lines.{functions_text, header_text, op_row, op_text, opened_text, opening, ops_text}
use Rattle.xf_print.specs.Lines.{rest_text, results_text, tail_text, tree_text}
use Rattle.xf_print_base.proofs.Texts.{text_append}

-- ---- heads

-- the row of an operation is that of its word
head_row : (l : Level) (number : ℕ) (ts : List PayloadType) (w : List ℕ)
    → head_row_of format l (head_fill number ts w) ≡ the_row (lookup words w)
unfolding head_rule row_rule defines_rule kind_rule
head_row l number [] w = refl
head_row l number (t ∷ []) w = refl
head_row l number (t ∷ (u ∷ us)) w = refl

-- a head behind another gap
head_line : (l : Level) (g : Gap) (number : ℕ) (ts : List PayloadType) (w : List ℕ)
    → text (begun g (written language (head_rule l) (head_fill number ts w)))
    ≡ gap_text g ++ (results_text number ts ++ w)
unfolding head_rule row_rule defines_rule kind_rule
head_line l g number [] w = simp append-nil
head_line l g number (t ∷ []) w = simp (append_assoc, append-nil)
head_line l g number (t ∷ (u ∷ us)) w = simp (append_assoc, append-nil)

-- a head that begins a text
head_begun : (l : Level) (g h : Gap) (number : ℕ) (ts : List PayloadType) (w : List ℕ) (rest : List Spaced)
    → begun g (begun h (written language (head_rule l) (head_fill number ts w)) ++ rest)
    ≡ begun g (written language (head_rule l) (head_fill number ts w)) ++ rest
unfolding head_rule row_rule defines_rule kind_rule
head_begun l g h number [] w rest = refl
head_begun l g h number (t ∷ []) w rest = refl
head_begun l g h number (t ∷ (u ∷ us)) w rest = refl

-- ---- one operation

-- what an operation of a row writes behind its head
abbrev behind_head : Level → ℕ → Fill → Blocks → Fill → Docs → Row → List Spaced
behind_head l margin s bs q rest r =
    written language (slots_rule (slots r)) s
    ++ (blocks_written format r margin true bs ++ (written language (slots_rule (tail r)) q ++ docs_written format
    (behind l) margin rest))

five : (a b c d e : List Spaced)
    → text (a ++ (b ++ (c ++ (d ++ e)))) ≡ text a ++ (text b ++ (text c ++ (text d ++ text e)))
five a b c d e = simp text_append

head_apart : (g h f a : List ℕ) → (g ++ h) ++ (f ++ a) ≡ g ++ ((h ++ f) ++ a)
head_apart g h f a = simp append_assoc

-- with its head, behind a gap; k is its row
whole_written : (l : Level) (g : Gap) (margin : ℕ) (number : ℕ) (ts : List PayloadType) (w : List ℕ) (s : Fill)
    (bs : Blocks) (q : Fill) (rest : Docs) (r : Row) → the_row (lookup words w) ≡ r
    → text (begun g (written language (head_rule l) (head_fill number ts w)) ++ behind_head l margin s bs q rest
    (head_row_of format l (head_fill number ts w)))
    ≡ gap_text g ++ (((results_text number ts ++ w) ++ rule_text (slots_rule (slots r)) s) ++ (text
    (blocks_written format r margin true bs) ++ (rule_text (slots_rule (tail r)) q ++ text
    (docs_written format (behind l) margin rest))))
whole_written l g margin number ts w s bs q rest r e =
    let head : List Spaced = begun g (written language (head_rule l) (head_fill number ts w)) in
    let after : List ℕ = text (blocks_written format r margin true bs) ++ (rule_text (slots_rule (tail r)) q ++ text
    (docs_written format (behind l) margin rest)) in
    ap (λ r. text (head ++ behind_head l margin s bs q rest r)) (head_row l number ts w ∙ e)
    ∙ five head (written language (slots_rule (slots r)) s) (blocks_written format r margin true bs)
    (written language (slots_rule (tail r)) q) (docs_written format (behind l) margin rest)
    ∙ ap (λ x. x ++ (rule_text (slots_rule (slots r)) s ++ after)) (head_line l g number ts w)
    ∙ head_apart (gap_text g) (results_text number ts ++ w) (rule_text (slots_rule (slots r)) s) after

whole_text : (l : Level) (g : Gap) (margin : ℕ) (names : Names) (t : Tree) (bs : Blocks) (rest : Docs)
    → text (begun g (written language (head_rule l) (head_of names t)) ++ behind_head l margin (slots_of names t) bs
    (tail_of names t) rest (head_row_of format l (head_of names t)))
    ≡ gap_text g ++ (opening names t ++ (text
    (blocks_written format (op_row t.kind) margin true bs) ++ (tail_text names t ++ text
    (docs_written format (behind l) margin rest))))
unfolding opening tail_text op_row
whole_text l g margin names t bs rest =
    whole_written l g margin (number_of (names.entry t.name.0)) t.results (word_of t.kind) _ bs _ rest
    (op_row t.kind) refl

-- an operation, and those behind it
tree_first : (l : Level) (margin : ℕ) (names : Names) (t : Tree) (rest : Docs)
    → text (docs_written format l margin (doc (head_of names t) (slots_of names t)
    (regions_blocks names (header_of names t) t.regions) (tail_of names t) rest))
    ≡ tree_text names margin t ++ text (docs_written format (behind l) margin rest)
unfolding tree_text rest_text blocks_text
tree_first l margin names t rest =
    whole_text l (line margin) margin names t (regions_blocks names (header_of names t) t.regions) rest
    ∙ rest_apart (gap_text (line margin)) (opening names t) (blocks_text names margin t true t.regions)
    (tail_text names t) (text (docs_written format (behind l) margin rest))
  where
    rest_apart : (g o b t d : List ℕ) → g ++ (o ++ (b ++ (t ++ d))) ≡ (g ++ (o ++ (b ++ t))) ++ d
    rest_apart g o b t d = simp append_assoc

-- ---- operations of a block, at whatever level

first_or_none : (b : Bool) (l : Level) (margin : ℕ) (names : Names) (t : Tree) (rest : Docs) (others : List ℕ)
    → ((l : Level) → text (docs_written format l margin rest) ≡ others)
    → let ds : Docs = (if b then rest else doc (head_of names t) (slots_of names t)
    (regions_blocks names (header_of names t) t.regions) (tail_of names t) rest) in
    let first : List ℕ = (if b then [] else tree_text names margin t) in
    text (docs_written format l margin ds) ≡ first ++ others
first_or_none true l margin names t rest others e = e l
first_or_none false l margin names t rest others e =
    tree_first l margin names t rest ∙ ap (λ x. tree_text names margin t ++ x) (e (behind l))

any_level : (l : Level) (margin : ℕ) (names : Names) (ops : Ops)
    → text (docs_written format l margin (ops_docs names ops)) ≡ ops_text names margin ops
unfolding ops_text
any_level l margin names no_ops = refl
any_level l margin names (op n k ds os ts rs rest) =
    let t : Tree = record { name = n; kind = k; attrs = ds; operands = os; results = ts; regions = rs } in
    first_or_none (is_empty_yield k ds os) l margin names t (ops_docs names rest) (ops_text names margin rest)
    (λ l. any_level l margin names rest)
    ∙ sym (first_or_none (is_empty_yield k ds os) level.Body margin names t (ops_docs names rest)
    (ops_text names margin rest) (λ l. any_level l margin names rest))

pub first_op : (names : Names) (margin : ℕ) (t : Tree) (rest : Ops)
    → ops_text names margin (cons t rest) ≡ op_text names margin t ++ ops_text names margin rest
unfolding ops_text
first_op names margin t rest =
    first_or_none (is_empty_yield t.kind t.attrs t.operands) level.Body margin names t (ops_docs names rest)
    (ops_text names margin rest) (λ l. any_level l margin names rest)

pub no_op : (names : Names) (margin : ℕ) → ops_text names margin no_ops ≡ []
unfolding ops_text
no_op names margin = refl

-- ---- blocks

-- what begins a block
brace_written : (r : Row) (first : Bool) → text (between (regions_of (bodies r)) first) ++ codes " {"
    ≡ brace_text r first
brace_written r true = between_first (bodies r)
  where
    between_first : (b : Body) → text (between (regions_of b) true) ++ codes " {" ≡ codes " {"
    between_first body.None = refl
    between_first body.One = refl
    between_first body.WithElse = refl
brace_written r false = refl

-- a block up to its end, whatever it holds
block_written : (margin : ℕ) (first : Bool) (h : Fill) (ds : Docs) (bs : Blocks) (r : Row)
    → text (blocks_written format r margin first (a_block h ds bs))
    ≡ ((brace_text r first ++ text (begun (line margin) (written language (slots_rule (header r)) h)))
    ++ text (docs_written format (inside r) (margin + 1) ds)) ++ (closing margin ++ text
    (blocks_written format r margin false bs))
unfolding closing
block_written margin first h ds bs r =
    let before : List Spaced = between (regions_of (bodies r)) first in
    let head : List Spaced = begun (line margin) (written language (slots_rule (header r)) h) in
    let inner : List Spaced = docs_written format (inside r) (margin + 1) ds in
    let after : List Spaced = blocks_written format r margin false bs in
    text_append before _
    ∙ ap (λ x. text before ++ (codes " {" ++ x)) (text_append head _ ∙ ap (λ x. text head ++ x) (text_append inner _))
    ∙ apart (text before) (text head) (text inner) (closing margin ++ text after)
    ∙ ap (λ x. ((x ++ text head) ++ text inner) ++ (closing margin ++ text after)) (brace_written r first)
  where
    apart : (a b c d : List ℕ) → a ++ (codes " {" ++ (b ++ (c ++ d))) ≡ (((a ++ codes " {") ++ b) ++ c) ++ d
    apart a b c d =
        sym (append_assoc ((a ++ codes " {") ++ b) c d ∙ append_assoc (a ++ codes " {") b (c ++ d)
        ∙ append_assoc a (codes " {") (b ++ (c ++ d)))

pub first_block : (names : Names) (margin : ℕ) (t : Tree) (first : Bool) (args : List PayloadType) (ops : Ops)
    (rest : Regions)
    → blocks_text names margin t first (region args ops rest)
    ≡ block_text names margin t first ops ++ (closing margin ++ blocks_text names margin t false rest)
unfolding blocks_text block_text opened_text header_text op_row
first_block names margin t first args ops rest =
    block_written margin first (header_of names t) (ops_docs names ops) (regions_blocks names (header_of names t) rest)
    (op_row t.kind)
    ∙ ap (λ x. (opened_text names margin t first ++ x) ++ (closing margin ++ blocks_text names margin t false rest))
    (any_level (inside (op_row t.kind)) (margin + 1) names ops)

-- a block, and what stands behind the blocks
pub rest_first : (names : Names) (margin : ℕ) (t : Tree) (first : Bool) (args : List PayloadType) (ops : Ops)
    (rest : Regions)
    → rest_text names margin t first (region args ops rest)
    ≡ block_text names margin t first ops ++ (closing margin ++ rest_text names margin t false rest)
unfolding rest_text
rest_first names margin t first args ops rest =
    ap (λ x. x ++ tail_text names t) (first_block names margin t first args ops rest)
    ∙ append_assoc (block_text names margin t first ops) (closing margin ++ blocks_text names margin t false rest)
    (tail_text names t)
    ∙ ap (λ x. block_text names margin t first ops ++ x)
    (append_assoc (closing margin) (blocks_text names margin t false rest) (tail_text names t))

pub no_rest : (names : Names) (margin : ℕ) (t : Tree) (first : Bool)
    → rest_text names margin t first no_regions ≡ tail_text names t
unfolding rest_text blocks_text
no_rest names margin t first = refl

-- ---- functions

any_functions : (l : Level) (fs : Ops) → text (docs_written format l 1 (functions_docs fs)) ≡ functions_text fs
unfolding functions_text
any_functions l no_ops = refl
any_functions l (op n k ds os ts rs rest) =
    let t : Tree = record { name = n; kind = k; attrs = ds; operands = os; results = ts; regions = rs } in
    let names : Names = with_ops no_names (cons t no_ops) in
    tree_first l 1 names t (functions_docs rest)
    ∙ ap (λ x. tree_text names 1 t ++ x) (any_functions (behind l) rest ∙ sym (any_functions level.Functions rest))
    ∙ sym (tree_first level.Functions 1 names t (functions_docs rest))

pub first_function : (t : Tree) (rest : Ops) → functions_text (cons t rest) ≡ function_text t ++ functions_text rest
unfolding functions_text function_text
first_function t rest = tree_first level.Functions 1 (with_ops no_names (cons t no_ops)) t (functions_docs rest)

pub no_function : functions_text no_ops ≡ []
unfolding functions_text
no_function = refl

-- ---- the module

pub form_text : (m : Module) → printed_form m ≡ opening no_names m.root ++ body_text no_names m
unfolding body_text opened_text end_text header_text op_row
form_text m =
    let t : Tree = m.root in
    let bs : Blocks = a_block (header_of no_names t) (functions_docs (functions_of m)) no_blocks in
    let tail : List ℕ = tail_text no_names t in
    ap (λ x. text x ++ (10 ∷ [])) (head_begun level.File none (line 0) (number_of (no_names.entry t.name.0)) t.results
    (word_of t.kind) _)
    ∙ ap (λ x. x ++ (10 ∷ [])) (whole_text level.File none 0 no_names t bs no_docs)
    ∙ ap (λ x. (opening no_names t ++ (x ++ (tail ++ []))) ++ (10 ∷ []))
    (block_written 0 true (header_of no_names t) (functions_docs (functions_of m)) no_blocks (op_row t.kind)
    ∙ ap (λ x. (opened_text no_names 0 t true ++ x) ++ (closing 0 ++ []))
    (any_functions (inside (op_row t.kind)) (functions_of m)))
    ∙ ending (opening no_names t) (opened_text no_names 0 t true) (functions_text (functions_of m)) tail (closing 0)
  where
    ending : (o a f q c : List ℕ) → (o ++ (((a ++ f) ++ (c ++ [])) ++ (q ++ []))) ++ (10 ∷ [])
        ≡ o ++ (a ++ (f ++ ((c ++ q) ++ codes "\n")))
    ending o a f q c = simp (append_assoc, append-nil)
