-- The ways in which a text is read: a module, or functions alone, up to the end.
use Rattle.std.proofs.Common.{◌≡◌, ◌⊎◌, inl, inr, ℕ, true, false, List, Ok, refl, sym, ap, subst, ◌∙◌}
use Rattle.std.specs.Prelude.{codes}
use Rattle.xf_lex.specs.declared.token.Token.{Token}
use Rattle.xf_grammar.specs.Grammar.{is_token}
use Rattle.xf_grammar.specs.Tokens.{Terminal, the_end, terminal, terminal_at, says}
use Rattle.xf_grammar.specs.Tree.{Nodes, Tree}
use Rattle.xf_grammar.proofs.Basics.{bind_ok, either, ok_is}
use Rattle.xf_format.specs.declared.expected.Expected.{Expected}
use Rattle.xf_format.specs.declared.expected.Expected.TheVariants as due
use Rattle.xf_format.specs.declared.parts.Parts.{Parts}
use Rattle.xf_format.specs.declared.row.Level.TheVariants as level
use Rattle.xf_syntax.specs.declared.tree.File.{File}
use Rattle.xf_syntax.specs.File.{payload_node_at, payload_nodes_at, whole, written_file, unwritten_file, file_at}

pub record ModuleRead (f : ℕ) (all : List Token) (x : File × ℕ) : Type 0 where
  pub root : Tree Parts
  pub count : ℕ
  pub read : payload_node_at f all level.File 0 0 0 ≡ Ok ((root, count), x.1)
  pub begins : says all 0 (codes "module") ≡ true
  pub ended : terminal_at all x.1 ≡ the_end
  pub same : written_file root ≡ x.0

pub record FunctionsRead (f : ℕ) (all : List Token) (x : File × ℕ) : Type 0 where
  pub nodes : Nodes Parts
  pub count : ℕ
  pub read : payload_nodes_at f all level.File 1 1 0 ≡ Ok ((nodes, count), x.1)
  pub begins : says all 0 (codes "module") ≡ false
  pub ended : terminal_at all x.1 ≡ the_end
  pub same : unwritten_file nodes x.1 ≡ x.0

end_seen : (x : Terminal) → is_token x ≡ false → x ≡ the_end
end_seen the_end e = refl
end_seen (terminal k bytes) e = absurd cc

whole_read : (all : List Token) (d : Expected) (file : File) (at : ℕ) (x : File × ℕ) → whole all d file at ≡ Ok x
    → (terminal_at all at ≡ the_end) × ((file ≡ x.0) × (at ≡ x.1))
whole_read all d file at x e = elim (either (is_token (terminal_at all at)) _ _ _ e) [
  | inl w ↦ absurd (let v = w.1 in cc)
  | inr w ↦ let s = ok_is w.1 in
      (end_seen (terminal_at all at) w.0, (ap (λ y. y.0) s, ap (λ y. y.1) s))
]

pub file_read : (f : ℕ) (all : List Token) (x : File × ℕ) → file_at f all ≡ Ok x
    → ModuleRead f all x ⊎ FunctionsRead f all x
file_read f all x e = elim (either (says all 0 (codes "module")) _ _ _ e) [
  | inl w ↦
      let n = bind_ok _ _ _ w.1 in
      let z = whole_read all due.Other (written_file n.0.0.0) n.0.1 x n.1.1 in
      inl (record {
        root = n.0.0.0;
        count = n.0.0.1;
        read = n.1.0 ∙ ap (λ i. Ok ((n.0.0.0, n.0.0.1), i)) z.1.1;
        begins = w.0;
        ended = subst (λ i. terminal_at all i ≡ the_end) z.1.1 z.0;
        same = z.1.0;
      })
  | inr w ↦
      let n = bind_ok _ _ _ w.1 in
      let z = whole_read all due.Function (unwritten_file n.0.0.0 n.0.1) n.0.1 x n.1.1 in
      inr (record {
        nodes = n.0.0.0;
        count = n.0.0.1;
        read = n.1.0 ∙ ap (λ i. Ok ((n.0.0.0, n.0.0.1), i)) z.1.1;
        begins = w.0;
        ended = subst (λ i. terminal_at all i ≡ the_end) z.1.1 z.0;
        same = ap (unwritten_file n.0.0.0) (sym z.1.1) ∙ z.1.0;
      })
]
