use Rattle.std.proofs.Common.{◌≡◌, Bool, true, List, [], ◌∷◌, length, eqb, inl, inr, refl, sym, ap, ◌∙◌, arith}
use Rattle.std.proofs.lemmas.Bool.{cases_Bool, eqb-true}
use Rattle.std.specs.Prelude.{not, ◌&&◌, ◌||◌}
use Rattle.xf_ir.specs.Tree.{Tree}
use Rattle.xf_ir.specs.View.{ops_of, regions_of}
use Rattle.xf_ir.specs.Kinds.{is_terminator, ends_for}
use Rattle.xf_ir.specs.RuleBlocks.{is_end, blocks_end, stands_at_end}
use Rattle.xf_verify.proofs.local.ends_its_blocks.Goals as goal

-- nothing stands behind the last
last_is : (ts : List Tree) → eqb (length ts) 0 ≡ is_end (ops_of ts)
last_is [] = refl
last_is (t ∷ ts) = elim (cases_Bool (eqb (length (t ∷ ts)) 0)) [
  | inl e ↦
      absurd (let z = eqb-true (length (t ∷ ts)) 0 e in omega arith)
  | inr f ↦ f
]

pub returns-then-blocks_end : goal.returns-then-blocks_end
returns-then-blocks_end c =
    let holder = c.args.stand.now.holder.kind.now in
    let op = c.args.stand.now.op.now in
    let after = c.args.stand.now.after.now in
    let blocks : true ≡ blocks_end op.kind op.regions = sym c.if-blocks_end.true
    ∙ c.blocks_end.ensures ∙ ap (λ bs. blocks_end c.op.inside.kind (regions_of bs)) c.deref.ensures.value
    ∙ ap (λ (t : Tree). blocks_end t.kind t.regions) c.op.view_is in
    let last = c.is_empty.ensures ∙ last_is after in
    c.stands_at_end.ensures
    ∙ ap (λ (t : Tree). not (is_terminator t.kind) || (c.is_empty.result && ends_for holder t.kind)) c.op.view_is
    ∙ ap (λ (b : Bool). not (is_terminator op.kind) || (b && ends_for holder op.kind)) last
    ∙ ap (λ (b : Bool). b && stands_at_end holder op.kind (ops_of after)) blocks
