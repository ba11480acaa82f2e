-- Operations whose head, slots, bodies and tail fit one behind the other: those of a printed module fit the format, say
-- what they are, and are written in tokens that the lexer reads.
use Rattle.std.proofs.Common.{◌≡◌, ℕ, ◌+◌, ◌<◌, Bool, true, false, List, [], ◌∷◌, ◌++◌, refl, sym, ap, subst}
use Rattle.std.specs.Prelude.{not, nat_lt, codes, map, Option, ◌&&◌, ◌||◌, if◌then◌else◌}
use Rattle.std.proofs.lemmas.Bool.{lt-ltb, or_parts}
use Rattle.xf_type.specs.declared.payload_type.PayloadType.{PayloadType}
use Rattle.xf_grammar.specs.Tokens.{Terminal, the_end, terminal, is_word, close_brace}
use Rattle.xf_grammar.specs.Grammar.{Fill, line, written}
use Rattle.xf_grammar.specs.Tree.{Docs, no_docs, doc, Blocks, no_blocks, a_block, others_of, docs_written, follow}
use Rattle.xf_grammar.specs.Tree.{docs_fit, SaidNodes, no_nodes_said, node_said, SaidBodies, no_bodies_said, body_said}
use Rattle.xf_grammar.specs.Tree.{headers_say, blocks_written, begins, blocks_fit, docs_say, blocks_say}
use Rattle.xf_grammar.specs.Tree.{row_of as row_written}
use Rattle.xf_grammar.proofs.Basics.{and_is, both_true}
use Rattle.xf_format.specs.declared.row.Level.{Level}
use Rattle.xf_format.specs.declared.row.Level.TheVariants as level
use Rattle.xf_format.specs.declared.row.Row.{Row}
use Rattle.xf_format.specs.Format.{format, regions_of, most_open}
use Rattle.xf_format.specs.Parts.{Said, nothing_said}
use Rattle.xf_format.specs.Rows.{slots, header, tail, bodies, behind}
use Rattle.xf_format.specs.Rules.{language, slots_rule, head_rule}
use Rattle.xf_ir.specs.declared.kind.Attr.{Attr}
use Rattle.xf_ir.specs.declared.kind.Kind.{Kind}
use Rattle.xf_ir.specs.declared.kind.Kind.TheVariants as kind
use Rattle.xf_ir.specs.declared.name.OpName.{OpName}
use Rattle.xf_ir.specs.declared.name.ValueName.{ValueName}
use Rattle.xf_ir.specs.declared.op.Module.{Module}
use Rattle.xf_ir.specs.Kinds.{is_container, is_function, is_module, is_terminator}
use Rattle.xf_ir.specs.Limits.{OpsNest, RegionsNest}
use Rattle.xf_ir.specs.Placed.{functions_of}
use Rattle.xf_ir.specs.RuleBlocks.{is_end}
use Rattle.xf_ir.specs.Tree.{Ops, no_ops, op, Regions, no_regions, region, Tree}
use Rattle.xf_printed.specs.Names.{Names, no_names, number_of, type_of}
use Rattle.xf_printed.specs.PrintedForm.{is_empty_yield, word_of, head_of, slots_of, header_of, tail_of, ops_docs}
use Rattle.xf_printed.specs.PrintedForm.{regions_blocks, functions_docs, module_docs}
use Rattle.xf_print_laws.specs.SaidPrinted.{row_of, head_printed, ops_printed, regions_printed, functions_printed}
use Rattle.xf_print_laws.specs.SaidPrinted.{printed_said}
use Rattle.xf_print_laws.proofs.Goes.{Goes, seen_both, FewSaid}
use Rattle.xf_print_laws.proofs.Rows.{OpensAt, begun, head_goes, head_begins, goes_on, head_goes_on}
use Rattle.xf_print_laws.proofs.Needs.{tree, Fits, has_regions, OpsFit, RegionsFit, names_in, FunctionsFit, ModuleFits}
use Rattle.xf_print_laws.proofs.Rows.{after, headed, untailed, before_header, row_goes, header_goes, tail_goes}
use Rattle.xf_print_laws.proofs.Rows.{tail_seen, head_few}
use Rattle.xf_print_laws.proofs.Rows.{before_few}
use Rattle.xf_print_laws.proofs.Words.{word_row, same_row, body_opens}
use Rattle.xf_grammar.specs.Apart.{DocsLex, BlocksLex}
use Rattle.xf_format.specs.Actions.{Saying, free_said}
use Rattle.xf_ir.proofs.Lists.{at_cases}
use Rattle.xf_format.specs.declared.row.FormatElement.{FormatElement}
use Rattle.xf_print_laws.proofs.SlotTable.{filled}

-- operations fit before a token, and say so much; their tokens are ones that the lexer reads
pub record DocsGo (l : Level) (depth : ℕ) (ds : Docs) (y : Terminal) (ns : SaidNodes Said) : Type 0 where
  pub fit : docs_fit format l depth ds y ≡ true
  pub say : docs_say format l ds ≡ ns
  pub lex : DocsLex ds

-- so do the bodies of an operation of a row, behind what it says, and their headers lead to what is said then
abbrev BlocksGo : Row → ℕ → Blocks → Terminal → Said → Said → SaidBodies Said → Type 0
BlocksGo r depth bs y d e ss =
    (blocks_fit format r depth (others_of (regions_of (bodies r))) true bs y (free_said d) ≡ true)
    × ((headers_say format r bs (free_said d) ≡ free_said e) × ((blocks_say format r bs ≡ ss) × BlocksLex bs))

-- what stands behind a head, behind its slots, and behind its bodies
abbrev behind_bodies : Level → Row → Fill → Docs → Terminal → Terminal
behind_bodies l r q rest y =
    follow (written language (slots_rule (tail r)) q ++ docs_written format (behind l) 0 rest) y

abbrev behind_slots : Level → Row → Blocks → Fill → Docs → Terminal → Terminal
behind_slots l r bs q rest y =
    follow (blocks_written format r 0 true bs ++
    (written language (slots_rule (tail r)) q ++ docs_written format (behind l) 0 rest)) y

abbrev behind_head : Level → Row → Fill → Blocks → Fill → Docs → Terminal → Terminal
behind_head l r s bs q rest y =
    follow (written language (slots_rule (slots r)) s ++
    (blocks_written format r 0 true bs ++
    (written language (slots_rule (tail r)) q ++ docs_written format (behind l) 0 rest))) y

doc_goes : {l : Level} {depth : ℕ} {p s : Fill} {bs : Blocks} {q : Fill} {rest : Docs} {y : Terminal}
    {d0 d1 d2 d3 : Said} {ss : SaidBodies Said} {ns : SaidNodes Said} → FewSaid d1 → FewSaid d3
    → begins (written language (head_rule l) p) ≡ true
    → Goes (head_rule l) p (behind_head l d0.row s bs q rest y) nothing_said d0
    → Goes (slots_rule (slots d0.row)) s (behind_slots l d0.row bs q rest y) d0 d1
    → BlocksGo d0.row depth bs (behind_bodies l d0.row q rest y) d1 d2 ss
    → Goes (slots_rule (tail d0.row)) q (follow (docs_written format (behind l) 0 rest) y) d2 d3
    → DocsGo (behind l) depth rest y ns → DocsGo l depth (doc p s bs q rest) y (node_said d3 ss ns)
doc_goes {l} {p = p} {d0 = d0} few1 few b head slots_go blocks ending more =
    let e = head.say in
    let is : row_written format l p ≡ d0.row = ap (λ (t : Saying). t.said.row) e in
    let f = slots_go.say in
    let h = blocks.1.0 in
    record {
      fit = rw (is, e, f, h)
          (and_is _ _ b (and_is _ _ (head.fit (slots_go.few few1)) (and_is _ _ (slots_go.fit few1)
          (and_is _ _ blocks.0 (and_is _ _ (ending.fit few) more.fit)))));
      say = rw (is, e, f, h, ending.say, blocks.1.1.0, more.say) refl;
      lex = (head.lex, (slots_go.lex, (blocks.1.1.1, (ending.lex, more.lex))));
    }

docs_if : {l : Level} {depth : ℕ} {ds es : Docs} {y : Terminal} {ns ms : SaidNodes Said} (b : Bool)
    → DocsGo l depth ds y ns → DocsGo l depth es y ms → DocsGo l depth (if b then ds else es) y (if b then ns else ms)
docs_if true p q = p
docs_if false p q = q

-- ---- one operation

-- an operation with its bodies, before others
op_goes : {names : Names} {t : Tree} {rest : Ops} (w : Fits names t rest) (l : Level) {depth : ℕ} (bs : Fill → Blocks)
    (more : Docs) (y : Terminal) {ss : SaidBodies Said} {ns : SaidNodes Said} → OpensAt l t.results (row_of t.kind)
    → goes_on (follow (docs_written format (behind l) 0 more) y) ≡ true
    → behind_slots l (row_of t.kind) (bs (filled names t (header (row_of t.kind))))
    (filled names t (tail (row_of t.kind))) more y
    ≡ after t.kind (behind_bodies l (row_of t.kind) (filled names t (tail (row_of t.kind))) more y)
    → ((z : Terminal) → not (is_word (codes "else") z) ≡ true
    → BlocksGo (row_of t.kind) depth (bs (filled names t (header (row_of t.kind)))) z (before_header w)
    (headed t.kind (head_printed names t)) ss)
    → DocsGo (behind l) depth more y ns
    → DocsGo l depth (doc (head_of names t) (slots_of names t) (bs (header_of names t)) (tail_of names t) more) y
    (node_said (head_printed names t) ss ns)
op_goes {names} {t} w l {depth} bs more y {ss} {ns} o go a inside later =
    let i : ℕ = number_of (names.entry t.name.0) in
    let fill : List FormatElement → Fill = filled names t in
    let d : Said = head_printed names t in
    let r : Row = row_of t.kind in
    let Made : Row → List FormatElement → Type 0 = λ x h. DocsGo l depth
    (doc (head_of names t) (fill (slots x)) (bs (fill h)) (fill (tail x)) more) y (node_said d ss ns) in
    let next = both_true _ _ go in
    let seen = seen_both (written language (slots_rule (tail r)) (fill (tail r)))
    (docs_written format (behind l) 0 more) y in
    let none = subst (λ z. not (is_word (codes "else") z) ≡ true) (sym seen) (tail_seen w _ next.1) in
    subst (λ x. Made x (header x)) (sym (same_row t.kind))
    (doc_goes ((header_goes w y).few (before_few w)) (head_few w) (head_begins l i t.results (word_of t.kind))
    (head_goes l i t.results (word_of t.kind) r _ (word_row t.kind) o w.number w.few.results)
    (subst (λ x. Goes (slots_rule (slots r)) (fill (slots r)) x (begun r i t.results) (before_header w)) (sym a)
    (row_goes w _)) (inside _ none) (tail_goes w _ next.0) later)

-- ---- what stands behind it

-- the brace of a body, the one that closes a block behind its terminator, or what is behind the operation
module _ (names : Names) (l : Level) (h q : Fill) (more : Docs) (y : Terminal) where
  after_is : (k : Kind) (rs : Regions) → has_regions k rs ≡ true
      → (is_terminator k ≡ true → follow (docs_written format (behind l) 0 more) y ≡ terminal close_brace [])
      → behind_slots l (row_of k) (regions_blocks names h rs) q more y
      ≡ after k (behind_bodies l (row_of k) q more y)
  after_is kind.Return no_regions b e = e refl
  after_is kind.Yield no_regions b e = e refl
  after_is kind.LinalgYield no_regions b e = e refl
  after_is k no_regions b e = cc
  after_is (kind.Module symbol) (region args ops rs) b e = refl
  after_is (kind.Func symbol private results) (region args ops rs) b e = refl
  after_is (kind.For width) (region args ops rs) b e = refl
  after_is (kind.Generic maps iterators) (region args ops rs) b e = refl
  after_is kind.If (region args ops rs) b e = refl
  after_is k (region args ops rs) b e = absurd cc

-- ---- bodies, and the operations in them

opens_inside : (k : Kind) (ts : List PayloadType) → is_container k ≡ false → OpensAt level.Body ts (row_of k)
opens_inside k [] e = body_opens k e
opens_inside k (t ∷ ts) e = (refl, body_opens k e)

-- a block within the limit of nesting, with its header, before others
block_fits : (depth : ℕ) (ds : Docs) (first others : Bool) → depth < most_open → first ≡ true
    → docs_fit format level.Body (depth + 1) ds (terminal close_brace []) ≡ true → others ≡ true
    → (nat_lt depth most_open
    && (first && (docs_fit format level.Body (depth + 1) ds (terminal close_brace []) && others))) ≡ true
block_fits depth ds first others lt f e o = and_is _ _ (lt-ltb depth most_open lt) (and_is _ _ f (and_is _ _ e o))

alone : {ns ms : SaidNodes Said} → ns ≡ ms → body_said ns no_bodies_said ≡ body_said ms no_bodies_said
alone e = ap (λ ns. body_said ns no_bodies_said) e

module _ (names : Names) where
  abbrev rest_seen : Ops → Terminal
  rest_seen ops = follow (docs_written format level.Body 0 (ops_docs names ops)) (terminal close_brace [])

  ops_go_on : (ops : Ops) → OpsFit names ops → goes_on (rest_seen ops) ≡ true
  ops_go_on no_ops f = refl
  ops_go_on (op n k ds os ts rs rest) f =
      at_cases (is_empty_yield k ds os) (ops_docs names rest) _
      (λ ds. goes_on (follow (docs_written format level.Body 0 ds) (terminal close_brace [])) ≡ true)
      (λ e. ops_go_on rest f.1.1.1)
      (λ e. head_goes_on level.Body (line 0) (number_of (names.entry n.0)) ts (word_of k) (row_of k) _
      (terminal close_brace []) (word_row k))

  at_end : (b : Bool) (ops : Ops) → (not b || is_end ops) ≡ true → b ≡ true → rest_seen ops ≡ terminal close_brace []
  at_end false ops e b = absurd cc
  at_end true no_ops e b = refl
  at_end true (op n k ds os ts rs rest) e b = absurd cc

  mutual
    ops_go : (ops : Ops) (depth : ℕ) → OpsFit names ops → OpsNest depth ops
        → DocsGo level.Body depth (ops_docs names ops) (terminal close_brace []) (ops_printed names ops)
    ops_go no_ops depth f nest = record { fit = refl; say = refl; lex = tt }
    ops_go (op n k ds os ts rs rest) depth f nest =
        let w : Fits names (tree n k ds os ts rs) rest = f.1.0 in
        let later = ops_go rest depth f.1.1.1 nest.1 in
        docs_if (is_empty_yield k ds os) later
        (op_goes w level.Body (λ h. regions_blocks names h rs) (ops_docs names rest) (terminal close_brace [])
        (opens_inside k ts f.0) (ops_go_on rest f.1.1.1)
        (after_is names level.Body _ _ _ _ k rs w.regions (at_end (is_terminator k) rest w.last))
        (λ y. regions_go k (map (type_of names) os) rs depth y _ _ (header_goes w) (before_few w)
        (or_parts (is_module k) _ f.0).0 w.regions f.1.1.0 nest.0) later)

    regions_go : (k : Kind) (os : List (Option PayloadType)) (rs : Regions) (depth : ℕ) (y : Terminal) (d : Said)
        (h : Fill)
        → ((z : Terminal) → Goes (slots_rule (header (row_of k))) h z (untailed k os d) (headed k d))
        → FewSaid (headed k d) → is_module k ≡ false → has_regions k rs ≡ true → RegionsFit names rs
        → RegionsNest depth rs → not (is_word (codes "else") y) ≡ true
        → BlocksGo (row_of k) depth (regions_blocks names h rs) y (untailed k os d) (headed k d)
        (regions_printed names rs)
    regions_go (kind.Func symbol private results) os (region args ops no_regions) depth y d h hd few m b f nest e =
        let x = ops_go ops (depth + 1) f.0 nest.1.0 in (
          block_fits depth _ _ true nest.0 ((hd _).fit few) x.fit refl,
          ((hd y).say, (alone x.say, ((hd y).lex, (x.lex, tt)))),
        )
    regions_go (kind.For width) os (region args ops no_regions) depth y d h hd few m b f nest e =
        let x = ops_go ops (depth + 1) f.0 nest.1.0 in (
          block_fits depth _ _ true nest.0 ((hd _).fit few) x.fit refl,
          ((hd y).say, (alone x.say, ((hd y).lex, (x.lex, tt)))),
        )
    regions_go (kind.Generic maps iterators) os (region args ops no_regions) depth y d h hd few m b f nest e =
        let x = ops_go ops (depth + 1) f.0 nest.1.0 in (
          block_fits depth _ _ true nest.0 ((hd _).fit few) x.fit refl,
          ((hd y).say, (alone x.say, ((hd y).lex, (x.lex, tt)))),
        )
    regions_go kind.If os (region args ops no_regions) depth y d h hd few m b f nest e =
        let x = ops_go ops (depth + 1) f.0 nest.1.0 in (
          block_fits depth _ _ _ nest.0 ((hd _).fit few) x.fit e,
          ((hd y).say, (alone x.say, ((hd y).lex, (x.lex, tt)))),
        )
    regions_go kind.If os (region args ops (region args' ops' no_regions)) depth y d h hd few m b f nest e =
        let x = ops_go ops (depth + 1) f.0 nest.1.0 in
        let z = ops_go ops' (depth + 1) f.1.0 nest.1.1.1.0 in (
          block_fits depth _ _ _ nest.0 ((hd _).fit few) x.fit
              (block_fits depth _ _ true nest.1.1.0 ((hd _).fit few) z.fit refl),
          (
            (hd y).say,
            (
              λ j. body_said (x.say j) (body_said (z.say j) no_bodies_said),
              ((hd y).lex, (x.lex, ((hd y).lex, (z.lex, tt)))),
            ),
          ),
        )
    regions_go (kind.Generic maps iterators) os no_regions depth y d h hd few m b f nest e = absurd cc
    regions_go k os no_regions depth y d h hd few m b f nest e = (cc, (refl, (refl, tt)))
    regions_go k os (region args ops rs) depth y d h hd few m b f nest e = absurd cc

-- ---- functions and the module

opens_at : (k : Kind) (ts : List PayloadType) → is_function k ≡ true → ts ≡ [] → OpensAt level.Functions ts (row_of k)
opens_at (kind.Func symbol private results) [] i e = refl
opens_at k ts i e = absurd cc

function_alone : (k : Kind) → is_function k ≡ true → (is_module k ≡ false) × (is_terminator k ≡ false)
function_alone (kind.Func symbol private results) i = (refl, refl)
function_alone k i = absurd cc

functions_first : (fs : Ops) → FunctionsFit fs
    → goes_on (follow (docs_written format level.Functions 0 (functions_docs fs)) (terminal close_brace [])) ≡ true
functions_first no_ops f = refl
functions_first (op n k ds os ts rs rest) f =
    head_goes_on level.Functions (line 0) (number_of ((names_in n k ds os ts rs).entry n.0)) ts (word_of k)
    (row_of k) _ (terminal close_brace []) (word_row k)

functions_go : (fs : Ops) (depth : ℕ) → FunctionsFit fs → OpsNest depth fs
    → DocsGo level.Functions depth (functions_docs fs) (terminal close_brace []) (functions_printed fs)
functions_go no_ops depth f nest = record { fit = refl; say = refl; lex = tt }
functions_go (op n k ds os ts rs rest) depth f nest =
    let names : Names = names_in n k ds os ts rs in
    let w : Fits names (tree n k ds os ts rs) no_ops = f.1.1.0 in
    let is = function_alone k f.0 in
    op_goes w level.Functions (λ h. regions_blocks names h rs) (functions_docs rest) (terminal close_brace [])
    (opens_at k ts f.0 f.1.0) (functions_first rest f.1.1.1.1)
    (after_is names level.Functions _ _ _ _ k rs w.regions (λ e. absurd (let n = is.1 in cc)))
    (λ y. regions_go names k (map (type_of names) os) rs depth y _ _ (header_goes w) (before_few w) is.0 w.regions
    f.1.1.1.0 nest.0)
    (functions_go rest depth f.1.1.1.1 nest.1)

root_goes : (n : OpName) (k : Kind) (ds : List Attr) (os : List ValueName) (ts : List PayloadType) (rs : Regions)
    (fs : Ops) → is_module k ≡ true → ts ≡ [] → let t : Tree = tree n k ds os ts rs in Fits no_names t no_ops
    → FunctionsFit fs → OpsNest 1 fs
    → DocsGo level.File 0
    (doc (head_of no_names t) (slots_of no_names t) (a_block (header_of no_names t) (functions_docs fs) no_blocks)
    (tail_of no_names t) no_docs) the_end (node_said (head_printed no_names t)
    (body_said (functions_printed fs) no_bodies_said) no_nodes_said)
root_goes n (kind.Module symbol) ds os [] rs fs i none w f nest =
    let x = functions_go fs 1 f nest in
    op_goes w level.File (λ h. a_block h (functions_docs fs) no_blocks) no_docs the_end refl refl refl
    (λ z e. (and_is _ _ x.fit refl, (refl, (alone x.say, (tt, (x.lex, tt))))))
    (record { fit = refl; say = refl; lex = tt })
root_goes n k ds os ts rs fs i none w f nest = absurd cc

pub module_goes : (m : Module) → ModuleFits m → OpsNest 1 (functions_of m)
    → DocsGo level.File 0 (module_docs m) the_end (printed_said m)
module_goes m w nest =
    let t = m.root in root_goes t.name t.kind t.attrs t.operands t.results t.regions
    (functions_of m) w.is_root w.no_results w.root w.functions nest
