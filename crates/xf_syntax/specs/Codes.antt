-- Codes of trees, by those of what is kept of an operation.
use Rattle.std.specs.Prelude.{ℕ}
use Rattle.std.specs.Coded.{Coded, code_by, coded×, coded_ℕ}
use Rattle.std.proofs.Common.{◌≡◌, refl}
use base.Stored.{Gv, gnil, gcons}
use Rattle.xf_grammar.specs.Tree.{Nodes, no_nodes, node, Bodies, no_bodies, body, Tree, Block, tree, block}
use Rattle.xf_format.specs.contracts.parts.Parts as parts_type
use Rattle.xf_format.specs.declared.parts.Parts.{Parts}

abbrev pub first_code : {P : Type 0} → Coded P → Coded (ℕ × P)
first_code c = coded× coded_ℕ c

abbrev mutual
  pub nodes_code : {P : Type 0} → Coded P → Nodes P → Gv
  nodes_code c no_nodes = gnil
  nodes_code c (node first p bs rest) =
      gcons ((first_code c).code (first, p)) (gcons (bodies_code c bs) (nodes_code c rest))

  pub bodies_code : {P : Type 0} → Coded P → Bodies P → Gv
  bodies_code c no_bodies = gnil
  bodies_code c (body ns close rest) = gcons (coded_ℕ.code close) (gcons (nodes_code c ns) (bodies_code c rest))

same_node : {P : Type 0} (h h' : ℕ × P) (bs bs' : Bodies P) (rest rest' : Nodes P) → h ≡ h' → bs ≡ bs' → rest ≡ rest'
    → node h.0 h.1 bs rest ≡ node h'.0 h'.1 bs' rest'
same_node h h' bs bs' rest rest' p q r = cc

mutual
  pub nodes_inj : {P : Type 0} (c : Coded P) (x y : Nodes P) → nodes_code c x ≡ nodes_code c y → x ≡ y
  nodes_inj c no_nodes no_nodes e = refl
  nodes_inj c no_nodes (node first p bs rest) e = cc
  nodes_inj c (node first p bs rest) no_nodes e = cc
  nodes_inj c (node first p bs rest) (node first' p' bs' rest') e =
      let h : (first_code c).code (first, p) ≡ (first_code c).code (first', p') = cc in
      same_node _ _ bs bs' rest rest' ((first_code c).inj _ _ h)
      (bodies_inj c bs bs' (cc)) (nodes_inj c rest rest' (cc))

  pub bodies_inj : {P : Type 0} (c : Coded P) (x y : Bodies P) → bodies_code c x ≡ bodies_code c y → x ≡ y
  bodies_inj c no_bodies no_bodies e = refl
  bodies_inj c no_bodies (body ns close rest) e = cc
  bodies_inj c (body ns close rest) no_bodies e = cc
  bodies_inj c (body ns close rest) (body ns' close' rest') e =
      let h : coded_ℕ.code close ≡ coded_ℕ.code close' = cc in
      let a = coded_ℕ.inj close close' h in
      let b = nodes_inj c ns ns' (cc) in
      let d = bodies_inj c rest rest' (cc) in
      cc

abbrev pub tree_code : {P : Type 0} → Coded P → Coded (Tree P)
tree_code {P} c =
    code_by ((ℕ × P) × Bodies P) (coded× (first_code c) (record { code = bodies_code c; inj = bodies_inj c }))
    (λ t. ((t.first, t.parts), t.bodies)) (λ p. tree p.0.0 p.0.1 p.1) (λ _. refl)

abbrev pub block_code : {P : Type 0} → Coded P → Coded (Block P)
block_code {P} c =
    code_by (ℕ × Nodes P) (coded× coded_ℕ (record { code = nodes_code c; inj = nodes_inj c }))
    (λ b. (b.close, b.nodes)) (λ p. block p.1 p.0) (λ _. refl)

-- ---- trees of payloads

abbrev pub PayloadTree : Type 0
PayloadTree = Tree Parts

abbrev pub PayloadBlock : Type 0
PayloadBlock = Block Parts

abbrev pub payload_tree_code : Coded PayloadTree
payload_tree_code = tree_code parts_type.the_row.coded

abbrev pub payload_block_code : Coded PayloadBlock
payload_block_code = block_code parts_type.the_row.coded
