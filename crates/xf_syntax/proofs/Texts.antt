-- A text is read exactly where it is written.
use Rattle.std.proofs.Common.{◌≡◌, inl, inr, ℕ, suc, ◌+◌, ◌≤◌, Bool, true, false, List, length, Ok, refl, sym, ap}
use Rattle.std.proofs.Common.{subst, ◌∙◌, arith}
use Rattle.std.specs.Prelude.{codes}
use Rattle.xf_lex.specs.declared.token.Token.{Token}
use Rattle.xf_grammar.specs.Tokens.{Terminal, the_end, terminal_at, is_word, says}
use Rattle.xf_grammar.specs.Grammar.{tokens_of, first_seen, is_token, Fill, AllStand}
use Rattle.xf_grammar.specs.Tree.{Nodes, no_nodes, Tree, cons, closes, Docs, no_docs, doc, Blocks, docs_written}
use Rattle.xf_grammar.specs.Tree.{docs_fit, SaidNodes, nodes_said, docs_say, operations}
use Rattle.xf_grammar.proofs.Basics.{first_is, past}
use Rattle.xf_grammar.proofs.TreesAgain.{docs_again, doc_again}
use Rattle.xf_grammar.proofs.TreesFuel.{nodes_same, node_same}
use Rattle.xf_grammar.proofs.TreesFound.{AreWritten, DocsFound, docs_found, doc_found}
use Rattle.xf_format.specs.declared.expected.Expected.{Expected}
use Rattle.xf_format.specs.declared.expected.Expected.TheVariants as due
use Rattle.xf_format.specs.declared.parts.Parts.{Parts}
use Rattle.xf_format.specs.declared.row.Level.TheVariants as level
use Rattle.xf_format.specs.Actions.{Says}
use Rattle.xf_format.specs.Format.{format, most_operations}
use Rattle.xf_format.specs.Parts.{Said, said}
use Rattle.xf_format.proofs.Fitting.{fitting}
use Rattle.xf_syntax.specs.declared.tree.File.{File}
use Rattle.xf_syntax.specs.File.{payload_node_at, payload_nodes_at, whole, written_file, unwritten_file, file_at}
use Rattle.xf_syntax.specs.Laws.{IsText}
use Rattle.xf_syntax.specs.Written.{file_said, AreFilled, functions_say, IsWritten, TextsAreWritten, TextsReadAgain}
use Rattle.xf_syntax.proofs.Files.{file_read}

module _ (all : List Token) where
  -- ---- read, so written

  -- the tokens of a text and what they say
  abbrev Found : File × ℕ → Type 0
  Found x = (ps : List Terminal) × (AllStand all 0 ps x.1 × IsWritten ps (file_said all x.0))

  first_word : (ps : List Terminal) (next : ℕ) (b : Bool) → AllStand all 0 ps next → terminal_at all next ≡ the_end
      → says all 0 (codes "module") ≡ b → is_word (codes "module") (first_seen ps the_end) ≡ b
  first_word ps next b s e w =
      let f : terminal_at all 0 ≡ first_seen ps the_end = first_is ps all 0 next the_end s e in
      ap (is_word (codes "module")) (sym f) ∙ w

  -- what was read is so filled
  filled : (depth count : ℕ) (ns : Nodes Parts) (c next : ℕ) (ds : Docs) → terminal_at all next ≡ the_end
      → AreWritten format all (said all) level.File depth count 0 ns c next ds
      → AreFilled depth ds (tokens_of (docs_written format level.File 0 ds)) (nodes_said (said all) ns)
  filled depth count ns c next ds e w =
      record {
        tokens = refl;
        fit = subst (λ y. docs_fit format level.File depth ds y ≡ true) e w.fit;
        says = sym w.itself;
      }

  module_found : (t : Tree Parts) (c next : ℕ) (p s : Fill) (bs : Blocks) (q : Fill)
      → says all 0 (codes "module") ≡ true → terminal_at all next ≡ the_end
      → AreWritten format all (said all) level.File 0 0 0 (cons t no_nodes) c next (doc p s bs q no_docs)
      → Found (written_file t, next)
  module_found t c next p s bs q w e r =
      let ps = tokens_of (docs_written format level.File 0 (doc p s bs q no_docs)) in
      let n : c ≡ 0 + operations format (nodes_said (said all) (cons t no_nodes)) =
      r.sum ∙ ap (λ ns. 0 + operations format ns) (sym r.itself) in
      let m = r.limit (omega arith) in
      let f = filled 0 0 (cons t no_nodes) c next (doc p s bs q no_docs) e r in
      let is_so : IsWritten ps (file_said all (written_file t)) = record {
        tokens = inl (first_word ps next true r.stand e w, (p, (s, (bs, (q, f)))));
        number = omega (arith, n, m);
      } in
      (ps, (r.stand, is_so))

  functions_found : (fs : Nodes Parts) (c next : ℕ) → says all 0 (codes "module") ≡ false
      → terminal_at all next ≡ the_end → DocsFound format all (said all) level.File 1 1 0 fs c next
      → Found (unwritten_file fs next, next)
  functions_found fs c next w e r =
      let ps = tokens_of (docs_written format level.File 0 r.0) in
      let n : c ≡ 1 + operations format (nodes_said (said all) fs) =
      r.1.sum ∙ ap (λ ns. 1 + operations format ns) (sym r.1.itself) in
      let m = r.1.limit (omega arith) in
      let u : operations format (functions_say (nodes_said (said all) fs)) ≡ 1
      + ((operations format (nodes_said (said all) fs) + (0 + 0)) + 0) = refl in
      let f = filled 1 1 fs c next r.0 e r.1 in
      let is_so : IsWritten ps (file_said all (unwritten_file fs next)) = record {
        tokens = inr (first_word ps next false r.1.stand e w, (r.0, (nodes_said (said all) fs, (refl, f))));
        number = omega (arith, n, m, u);
      } in
      (ps, (r.1.stand, is_so))

  file_found : (f : ℕ) (x : File × ℕ) → file_at f all ≡ Ok x → Found x
  unfolding payload_node_at
  file_found f x e = elim (file_read f all x e) [
    | inl m ↦
        let r = doc_found format all (Says all) (said all) (fitting all) (length all) (omega arith) f level.File 0 0 0
        m.root m.count x.1 m.read (ap closes m.ended) in
        subst (λ k. Found (k, x.1)) m.same
        (module_found m.root m.count x.1 r.0 r.1.0 r.1.1.0 r.1.1.1.0 m.begins m.ended r.1.1.1.1)
    | inr m ↦
        let r = docs_found format all (Says all) (said all) (fitting all) (length all) (omega arith) f level.File 1 1 0
        m.nodes m.count x.1 m.read in
        subst (λ k. Found (k, x.1)) m.same (functions_found m.nodes m.count x.1 m.begins m.ended r)
  ]

  -- ---- written, so read

  whole_is : (d : Expected) (file : File) → whole all d file (length all) ≡ Ok (file, length all)
  whole_is d file = let e = past all (length all) (omega arith) in
      let b : is_token (terminal_at all (length all)) ≡ false = ap is_token e in rw b refl

  says_is : (ps : List Terminal) (b : Bool) → AllStand all 0 ps (length all)
      → is_word (codes "module") (first_seen ps the_end) ≡ b → says all 0 (codes "module") ≡ b
  says_is ps b s w =
      let f : terminal_at all 0 ≡ first_seen ps the_end =
      first_is ps all 0 (length all) the_end s (past all (length all) (omega arith)) in
      ap (is_word (codes "module")) f ∙ w

  module_is : (f : ℕ) (t : Tree Parts) (c : ℕ) → says all 0 (codes "module") ≡ true
      → payload_node_at f all level.File 0 0 0 ≡ Ok ((t, c), length all)
      → file_at f all ≡ Ok (written_file t, length all)
  module_is f t c w e = rw (w, e) (whole_is due.Other (written_file t))

  functions_is : (f : ℕ) (fs : Nodes Parts) (c : ℕ) → says all 0 (codes "module") ≡ false
      → payload_nodes_at f all level.File 1 1 0 ≡ Ok ((fs, c), length all)
      → file_at f all ≡ Ok (unwritten_file fs (length all), length all)
  functions_is f fs c w e = rw (w, e) (whole_is due.Function (unwritten_file fs (length all)))

  -- operations so filled stand, fit and are few enough
  stands : (depth : ℕ) (ds : Docs) (ps : List Terminal) (ns : SaidNodes Said) → AreFilled depth ds ps ns
      → AllStand all 0 ps (length all) → AllStand all 0 (tokens_of (docs_written format level.File 0 ds)) (length all)
  stands depth ds ps ns w s = subst (λ ts. AllStand all 0 ts (length all)) (sym w.tokens) s

  fits_end : (depth : ℕ) (ds : Docs) (ps : List Terminal) (ns : SaidNodes Said) → AreFilled depth ds ps ns
      → docs_fit format level.File depth ds (terminal_at all (length all)) ≡ true
  fits_end depth ds ps ns w =
      subst (λ y. docs_fit format level.File depth ds y ≡ true) (sym (past all (length all) (omega arith))) w.fit

  few : (depth count : ℕ) (ds : Docs) (ps : List Terminal) (ns : SaidNodes Said) → AreFilled depth ds ps ns
      → count + operations format ns ≤ most_operations
      → count + operations format (docs_say format level.File ds) ≤ most_operations
  few depth count ds ps ns w le = subst (λ n. count + operations format n ≤ most_operations) (sym w.says) le

  -- what is read of a text that says so much
  abbrev Again : SaidNodes Said → Type 0
  Again ns = (file : File) × (IsText all file × (file_said all file ≡ ns))

  module_again : (ps : List Terminal) (ns : SaidNodes Said) (p s : Fill) (bs : Blocks) (q : Fill)
      → AllStand all 0 ps (length all) → is_word (codes "module") (first_seen ps the_end) ≡ true
      → AreFilled 0 (doc p s bs q no_docs) ps ns → operations format ns ≤ most_operations → Again ns
  unfolding payload_node_at
  module_again ps ns p s bs q st m w le =
      let n : ℕ = suc (length all) in
      let ds : Docs = doc p s bs q no_docs in
      let r = doc_again format all (Says all) (said all) (fitting all) (length all) (omega arith) n level.File 0 0 0
      (length all) 0 p s bs q (omega arith) (omega arith)
      (stands 0 ds ps ns w st) (fits_end 0 ds ps ns w) (few 0 0 ds ps ns w (omega (arith, le))) in
      let is_so : IsText all (written_file r.0) = λ f room.
      let same = node_same format all (Says all) (said all) (fitting all) (length all) (length all) (omega arith)
      (omega arith) f n level.File 0 0 0 (omega arith) (omega (arith, room)) (omega arith) in
      module_is f r.0 _ (says_is ps true st m) (same ∙ r.1.0) in
      (written_file r.0, (is_so, r.1.1 ∙ w.says))

  functions_again : (ps : List Terminal) (fs : SaidNodes Said) (ds : Docs) → AllStand all 0 ps (length all)
      → is_word (codes "module") (first_seen ps the_end) ≡ false → AreFilled 1 ds ps fs
      → 1 + operations format fs ≤ most_operations → Again (functions_say fs)
  functions_again ps fs ds st m w le =
      let n : ℕ = suc (length all) in
      let r = docs_again format all (Says all) (said all) (fitting all) (length all) (omega arith) n level.File 1 1 0
      (length all) 0 ds (omega arith) (omega arith)
      (stands 1 ds ps fs w st) (fits_end 1 ds ps fs w) (few 1 1 ds ps fs w le) in
      let is_so : IsText all (unwritten_file r.0 (length all)) = λ f room.
      let same = nodes_same format all (Says all) (said all) (fitting all) (length all) (length all) (omega arith)
      (omega arith) f n level.File 1 1 0 (omega arith) (omega (arith, room)) (omega arith) in
      functions_is f r.0 _ (says_is ps false st m) (same ∙ r.1.0) in
      (unwritten_file r.0 (length all), (is_so, ap functions_say (r.1.1 ∙ w.says)))

pub texts_are_written : TextsAreWritten
texts_are_written all file text =
    file_found all (suc (length all)) (file, length all) (text (suc (length all)) (omega arith))

pub texts_read_again : TextsReadAgain
texts_read_again all ps ns st w = elim w.tokens [
  | inl m ↦ module_again all ps ns m.1.0 m.1.1.0 m.1.1.1.0 m.1.1.1.1.0 st m.0 m.1.1.1.1.1 w.number
  | inr m ↦
      let e = m.1.1.1.0 in
      let u : operations format (functions_say m.1.1.0) ≡ 1 + ((operations format m.1.1.0 + (0 + 0)) + 0) = refl in
      let o = ap (operations format) e in
      let le = w.number in
      subst (Again all) (sym e) (functions_again all ps m.1.1.0 m.1.0 st m.0 m.1.1.1.1 (omega (arith, u, o, le)))
]
