-- What each operation of a text has: short lists, tokens of their kinds, and no more bodies and open regions than a
-- text may have.
use Rattle.std.proofs.Common.{◌≡◌, inl, inr, ℕ, suc, ◌<◌, ◌≤◌, List, length, Ok, refl, sym, subst, arith}
use Rattle.std.specs.Prelude.{codes}
use Rattle.xf_lex.specs.declared.token.Token.{Token}
use Rattle.xf_grammar.specs.Holding.{NodesHave, BodiesHave}
use Rattle.xf_grammar.specs.Tokens.{the_end, is_word}
use Rattle.xf_grammar.specs.Tree.{Nodes, no_nodes, node, Bodies, no_bodies, body, others_of, no_docs, doc}
use Rattle.xf_grammar.proofs.TreesKept.{TreeKeeps, tree_keeps, both_keep, not_end, nodes_kept, node_kept}
use Rattle.xf_grammar.proofs.TreesNest.{NodesNest, docs_nest}
use Rattle.xf_format.specs.declared.parts.Parts.{Parts}
use Rattle.xf_format.specs.declared.row.Level.TheVariants as level
use Rattle.xf_format.specs.declared.row.Body.{Body}
use Rattle.xf_format.specs.declared.row.Body.TheVariants as bodies
use Rattle.xf_format.specs.declared.row.Row.TheVariants as row
use Rattle.xf_format.specs.Actions.{Reading}
use Rattle.xf_format.specs.Format.{format, most_open, regions_of}
use Rattle.xf_format.specs.Rows.{bodies as bodies_by}
use Rattle.xf_format.specs.Short.{HasShortParts}
use Rattle.xf_format.proofs.Short.{keeps_short, none_short}
use Rattle.xf_format.proofs.OfKind.{Inside, HasKinds, trees_of_kinds}
use Rattle.xf_syntax.specs.declared.tree.File.{File}
use Rattle.xf_syntax.specs.File.{payload_node_at, file_at}
use Rattle.xf_syntax.specs.Laws.{IsText}
use Rattle.xf_syntax.specs.Written.{file_said, AreFilled}
use Rattle.xf_syntax.proofs.Texts.{texts_are_written}
use Rattle.xf_syntax.proofs.Files.{file_read}

-- ---- what reading keeps

mutual
  nodes_on : (Q : Parts → Type 0) (m n : ℕ) (ns : Nodes Parts) → m ≤ n → NodesHave m Q ns → NodesHave n Q ns
  nodes_on Q m n no_nodes le w = tt
  nodes_on Q m n (node first p bs rest) le w = let lt = w.0 in
      (omega (arith, le, lt), (w.1.0, (bodies_on Q m n bs le w.1.1.0, nodes_on Q m n rest le w.1.1.1)))

  bodies_on : (Q : Parts → Type 0) (m n : ℕ) (bs : Bodies Parts) → m ≤ n → BodiesHave m Q bs → BodiesHave n Q bs
  bodies_on Q m n no_bodies le w = tt
  bodies_on Q m n (body ns close rest) le w = let lt = w.1.0 in
      (nodes_on Q m n ns le w.0, (omega (arith, le, lt), bodies_on Q m n rest le w.1.1))

-- the module of a text, written or not; the end of a text may close it
abbrev RootHas : List Token → (Parts → Type 0) → File → Type 0
RootHas all Q f = NodesHave (suc (length all)) Q (node f.root.first f.root.parts f.root.bodies no_nodes)

file_kept : (all : List Token) (W : ℕ → Reading → Type 0) (Q : Parts → Type 0) → TreeKeeps format all W Q
    → (f : ℕ) (x : File × ℕ) → file_at f all ≡ Ok x → RootHas all Q x.0
unfolding payload_node_at
file_kept all W Q c f x e = elim (file_read f all x e) [
  | inl m ↦
      let k = node_kept format all W Q c (length all) f level.File 0 0 0
      (not_end (is_word (codes "module")) all 0 refl m.begins) m.root m.count x.1 m.read in
      let t = m.root in
      subst (RootHas all Q) m.same (nodes_on Q (length all) (suc (length all)) (node t.first t.parts t.bodies no_nodes)
      (omega arith) (k.1.1.0, (k.1.1.1.0, (k.1.1.1.1, tt))))
  | inr m ↦
      let k = nodes_kept format all W Q c (length all) f level.File 1 1 0 (omega arith) m.nodes m.count x.1 m.read in
      let end = k.1.0 in
      subst (RootHas all Q) m.same (
        omega arith,
        (
          c.parts 0 format.empty (omega arith) (c.start 0),
          ((nodes_on Q (length all) (suc (length all)) m.nodes (omega arith) k.1.1, (omega (arith, end), tt)), tt),
        ),
      )
]

-- short lists, and tokens of their kinds
abbrev pub Kept : List Token → Parts → Type 0
Kept all p = HasShortParts p × Inside all p

trees_short : (all : List Token) → TreeKeeps format all (λ n h. HasShortParts h.parts) HasShortParts
trees_short all = tree_keeps format all (λ n h. HasShortParts h.parts) HasShortParts (keeps_short all)
    (λ at. none_short row.Module) (λ at h le s. s)

pub text_kept : (all : List Token) (file : File) → IsText all file
    → NodesHave (suc (length all)) (Kept all) (node file.root.first file.root.parts file.root.bodies no_nodes)
text_kept all file text =
    file_kept all _ (Kept all) (both_keep format all (λ n h. HasShortParts h.parts) (HasKinds all) HasShortParts
    (Inside all) (trees_short all) (trees_of_kinds all))
    (suc (length all)) (file, length all) (text (suc (length all)) (omega arith))

-- ---- nesting

two_bodies : (b : Body) → others_of (regions_of b) < 2
two_bodies bodies.None = omega arith
two_bodies bodies.One = omega arith
two_bodies bodies.WithElse = omega arith

pub text_nests : (all : List Token) (file : File) → IsText all file → NodesNest most_open 2 0 (file_said all file)
text_nests all file text =
    let w = (texts_are_written all file text).1.1.tokens in
    elim w [
      | inl m ↦
          let d = doc m.1.0 m.1.1.0 m.1.1.1.0 m.1.1.1.1.0 no_docs in
          let f : AreFilled 0 d _ (file_said all file) = m.1.1.1.1.1 in
          subst (NodesNest most_open 2 0) f.says (docs_nest format 2 (λ r. two_bodies (bodies_by r)) level.File 0 d
          the_end f.fit)
      | inr m ↦
          let f : AreFilled 1 m.1.0 _ m.1.1.0 = m.1.1.1.1 in
          let inner = subst (NodesNest most_open 2 1) f.says
          (docs_nest format 2 (λ r. two_bodies (bodies_by r)) level.File 1 m.1.0 the_end f.fit) in
          subst (NodesNest most_open 2 0) (sym m.1.1.1.0) (omega arith, ((omega arith, (inner, tt)), tt))
    ]
