-- Steps of erasing an operation from its last child on.
use Rattle.std.proofs.Common.{◌≡◌, ℕ, sym, ◌∙◌, ap, refl, true, false, eqb, inl, inr}
use Rattle.std.proofs.lemmas.Bool.{cases_Bool}
use Rattle.xf_ir.specs.declared.name.OpName.{OpName}
use Rattle.xf_ir.specs.Tree.{Ops, no_ops, op, Regions, no_regions, region, Tree, cons}
use Rattle.xf_arena_tree.specs.Names.{ops_has}
use Rattle.xf_arena_tree.specs.Without.{tree_without, ops_without}
use Rattle.std.specs.Prelude.{List, Option, Some, None, slice_set}
use Rattle.std.proofs.lemmas.List.{get_or-set_other}
use Rattle.xf_arena_bed.specs.Value.{seat_at}
use Rattle.xf_arena_tree.specs.Names.{regions_has}
use Rattle.xf_arena_tree.specs.Without.{regions_without}
use Rattle.xf_arena_tree.proofs.WithoutLemmas.{ops_subset, none2, none3}

pub step_low : (u v : Tree) (k : OpName) (n : ℕ) → v ≡ tree_without k u → eqb u.name.0 n ≡ false
    → eqb v.name.0 n ≡ false
step_low u v k n e h = rw e h

pub has_before : (u v : Tree) (k n : OpName) → v ≡ tree_without k u → eqb u.name.0 k.0 ≡ false
    → ops_has n (cons v no_ops) ≡ true → ops_has n (cons u no_ops) ≡ true
has_before u v k n e low h =
    elim (cases_Bool (ops_has n (cons u no_ops))) [
      | inl a ↦ a
      | inr a ↦
          let q : ops_has n (cons (tree_without k u) no_ops) ≡ false = rw low at (ops_subset n k (cons u no_ops) a) in
          let w : ops_has n (cons (tree_without k u) no_ops) ≡ true = rw e at h in
          let z : true ≡ false = sym w ∙ q in cc
    ]

mutual
  pub gone : (o : OpName) (ops : Ops) → ops_has o (ops_without o ops) ≡ false
  gone o no_ops = refl
  gone o (op n k ds os ts rs rest) =
      elim (cases_Bool (eqb n.0 o.0)) [
        | inl t ↦ rw t (gone o rest)
        | inr f ↦ rw f (none3 (eqb n.0 o.0) (regions_has o (regions_without o rs)) (ops_has o (ops_without o rest)) f
            (regions_gone o rs) (gone o rest))
      ]

  pub regions_gone : (o : OpName) (rs : Regions) → regions_has o (regions_without o rs) ≡ false
  regions_gone o no_regions = refl
  regions_gone o (region args ops rest) =
      none2 (ops_has o (ops_without o ops)) (regions_has o (regions_without o rest)) (gone o ops) (regions_gone o rest)

some_same : (n o : OpName) → Some n ≡ Some o → n ≡ o
some_same n o e = cc

pub seats_stay : (u v : Tree) (seats seats2 : List (Option OpName)) (slot : ℕ) (o : OpName) (s : ℕ) (n : OpName)
    → v ≡ tree_without o u → eqb u.name.0 o.0 ≡ false → seats2 ≡ slice_set seats slot None
    → seat_at seats slot ≡ Some o → seat_at seats s ≡ Some n → ops_has n (cons v no_ops) ≡ true
    → seat_at seats2 s ≡ Some n
seats_stay u v seats seats2 slot o s n e low es at_slot at_s h =
    let gone_o : ops_has o (cons (tree_without o u) no_ops) ≡ false = rw low at (gone o (cons u no_ops)) in
    let h2 : ops_has n (cons (tree_without o u) no_ops) ≡ true = rw e at h in
    let ne : s ≡ slot → ⊥ = λ i.
    let q : n ≡ o = some_same n o (sym at_s ∙ ap (seat_at seats) i ∙ at_slot) in
    let w : true ≡ false = sym h2 ∙ ap (λ (x : OpName). ops_has x (cons (tree_without o u) no_ops)) q ∙ gone_o in cc in
    ap (λ l. seat_at l s) es ∙ get_or-set_other seats slot s None None ne ∙ at_s
