-- What was read of an operation, and what it says: its row, its terminators, its headers.
use Rattle.std.proofs.Common.{◌≡◌, Bool, List, refl, sym, ap, ◌∙◌}
use Rattle.std.specs.Prelude.{not, ◌&&◌}
use Rattle.xf_lex.specs.declared.token.Token.{Token}
use Rattle.xf_grammar.specs.Grammar.{Fill}
use Rattle.xf_grammar.specs.Tree.{Format, Nodes, no_nodes, node, ends_in, lacks, Blocks, no_blocks, a_block}
use Rattle.xf_grammar.specs.Tree.{headers_say, tail_says, SaidNodes, nodes_said, said_ends_in, Fitting}

pub same_end : {R P S : Type 0} (row : P → R) (row' : S → R) (said : P → S) → ((p : P) → row' (said p) ≡ row p)
    → (ends : R → Bool) (ns : Nodes P) → said_ends_in row' ends (nodes_said said ns) ≡ ends_in row ends ns
same_end row row' said e ends no_nodes = refl
same_end row row' said e ends (node first p bs no_nodes) = ap ends (e p)
same_end row row' said e ends (node first p bs (node first' p' bs' rest)) =
    same_end row row' said e ends (node first' p' bs' rest)

-- whether a block lacks its terminator, by what it says
abbrev pub lacks_said : {A T K D X M R V P S : Type 0} → Format A T K D X M R V P S → S → SaidNodes S → Bool
lacks_said F u ns = F.ends_open_said u && not (said_ends_in F.row_said F.is_terminator ns)

module _ {A T K D X M R V P S : Type 0} (F : Format A T K D X M R V P S) (all : List Token) (Says : A → T → Type 0)
    (said : P → S) (w : Fitting F all Says said) where
  -- which row was read
  pub same_row : (h : A) (t : T) → Says h t → F.row (F.parts h) ≡ F.row_said (F.says t)
  same_row h t q = sym (w.row_kept (F.parts h)) ∙ ap F.row_said (w.kept h t q)

  -- whether the terminator may be left out
  pub same_open : (h : A) (t : T) → Says h t → F.ends_open (F.parts h) ≡ F.ends_open_said (F.says t)
  same_open h t q = sym (w.open_kept (F.parts h)) ∙ ap F.ends_open_said (w.kept h t q)

  pub lacks_is : (h : A) (t : T) (u : S) (ns : Nodes P) (ss : SaidNodes S) → Says h t
      → F.ends_open_said u ≡ F.ends_open_said (F.says t) → nodes_said said ns ≡ ss
      → lacks F (F.parts h) ns ≡ lacks_said F u ss
  lacks_is h t u ns ss q o e =
      let a : F.ends_open (F.parts h) ≡ F.ends_open_said u = same_open h t q ∙ sym o in
      let b : ends_in F.row F.is_terminator ns ≡ said_ends_in F.row_said F.is_terminator ss =
      sym (same_end F.row F.row_said said w.row_kept F.is_terminator ns)
      ∙ ap (said_ends_in F.row_said F.is_terminator) e in
      ap (λ c. c && not (ends_in F.row F.is_terminator ns)) a ∙ ap (λ c. F.ends_open_said u && not c) b

  -- headers leave the row, and whether the terminator may be left out
  pub headers_leave : (r : R) (bs : Blocks) (t : T) → F.row_said (F.says t) ≡ r
      → (F.row_said (F.says (headers_say F r bs t)) ≡ r)
      × (F.ends_open_said (F.says (headers_say F r bs t)) ≡ F.ends_open_said (F.says t))
  headers_leave r no_blocks t e = (e, refl)
  headers_leave r (a_block h ds rest) t e =
      let z = headers_leave r rest _ (w.header_row r h t e) in
      (z.0, z.1 ∙ w.header_open r h t e)

  pub tail_leaves : (r : R) (bs : Blocks) (q : Fill) (t : T) → F.row_said (F.says t) ≡ r
      → F.ends_open_said (F.says (tail_says F r bs q t)) ≡ F.ends_open_said (F.says t)
  tail_leaves r bs q t e =
      let z = headers_leave r bs t e in
      w.tail_open r q (headers_say F r bs t) z.0 ∙ z.1
