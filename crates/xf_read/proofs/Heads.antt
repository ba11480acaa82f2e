-- An operation from its head and its regions.
use Rattle.std.proofs.Common.{◌≡◌, ℕ, ◌+◌, Option, false, ap, ◌∙◌, List}
use Rattle.xf_lex.specs.declared.token.Token.{Token}
use Rattle.xf_format.specs.declared.parts.Parts.{Parts}
use Rattle.xf_ir.specs.Tree.{Regions}
use Rattle.xf_read.specs.declared.head.MeantHead.{MeantHead}
use Rattle.xf_format.specs.Parts.{said}
use Rattle.xf_syntax.specs.Telling.{bodies_said}
use Rattle.xf_read.specs.Meant.{regions_said, tree_said}
use Rattle.xf_read_base.specs.Attributes.{entries_twice}
use Rattle.xf_read.specs.Names.{op_name, earlier, with_faults, twice_fault, args_twice, names_twice, inside}
use Rattle.xf_read.specs.Names.{head_faults}
use Rattle.xf_read.specs.Scopes.{Meanings}
use Rattle.xf_grammar.specs.Tree.{Tree}
use Rattle.xf_read.specs.Types.{argument_types}
use Rattle.xf_read.specs.Walks.{IsHead, head_tree}
use Rattle.xf_read.proofs.Earlier.{earlier_none, earlier_regrouped, same_faults}

pub head_tree_is : (all : List Token) (n : ℕ) (s : Meanings) (t : Tree Parts) (h : MeantHead) (rs : Regions)
    → IsHead all s t.first t.parts h
    → rs ≡ regions_said (n + 1) (said all t.parts) (inside n (said all t.parts) s) (bodies_said all t.bodies)
    → head_tree n h rs ≡ tree_said n s (said all t.parts) (bodies_said all t.bodies)
head_tree_is all n s t h rs is e = λ i. record {
  name = op_name n;
  kind = is.kind i;
  attrs = is.attrs i;
  operands =
      is.operands i;
  results = is.results i;
  regions = e i;
}

-- the faults of a head, with those of its arguments
pub head_faults_are : (all : List Token) (n first : ℕ) (p : Parts) (s : Meanings) (h : MeantHead) (t : Option ℕ)
    → IsHead all s first p h
    → t ≡ args_twice all n 0 (argument_types (said all p)) p.args s
    → with_faults h.faults (twice_fault t) ≡ head_faults all n first p s
head_faults_are all n first p s h t is e =
    let a : Option ℕ = entries_twice all (λ name. false) p.entries in
    let b : Option ℕ = names_twice all p s in
    same_faults (with_faults h.faults (twice_fault t)) (head_faults all n first p s)
    (earlier_none h.faults.undefined ∙ is.undefined)
    (ap (λ x. earlier x t) is.twice ∙ earlier_regrouped a b t ∙ ap (λ x. earlier a (earlier b x)) e)
    (earlier_none h.faults.mismatch ∙ is.mismatch)
