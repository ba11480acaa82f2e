-- What the rule of regions says of an operation's regions, by the facts of its kind.
use Rattle.std.proofs.Common.{◌≡◌, inl, inr, ℕ, suc, true, List, [], ◌∷◌, Option, refl, sym, ◌∙◌}
use Rattle.std.proofs.lemmas.Bool.{and_parts}
use Rattle.xf_type.specs.declared.payload_type.PayloadType.{PayloadType}
use Rattle.xf_grammar.proofs.Basics.{not_true}
use Rattle.xf_ir.specs.declared.kind.Kind.{Kind}
use Rattle.xf_ir.specs.declared.kind.Kind.TheVariants as kind
use Rattle.xf_ir.specs.Tree.{Regions, no_regions, region}
use Rattle.xf_ir.specs.Kinds.{has_body, has_else}
use Rattle.xf_ir.specs.Lists.{is_empty}
use Rattle.xf_ir.specs.Calls.{first_args}
use Rattle.xf_ir.specs.RuleBlocks.{block_args, args_fit, else_fits, blocks_fit}
use Rattle.xf_roundtrip.proofs.Names.{IsFirst}

empty_is : {A : Type 0} (xs : List A) → is_empty xs ≡ true → xs ≡ []
empty_is [] e = refl
empty_is (x ∷ xs) e = absurd cc

-- ---- the arguments of each region

-- the arguments of each block, where only the first has any
abbrev pub ArgsSo : ℕ → List PayloadType → Regions → Type 0
ArgsSo i first no_regions = Unit {0}
ArgsSo i first (region args ops rest) = (args ≡ first) × (IsFirst i first × ArgsSo (suc i) first rest)

none_so : (args : List PayloadType) (rest : Regions) → is_empty (block_args rest) ≡ true → ArgsSo 2 args rest
none_so args no_regions e = tt
none_so args (region xs ops rest) e = absurd cc

else_bare : (k : Kind) (os : List (Option PayloadType)) (ts args : List PayloadType) → has_else k ≡ true
    → args_fit k os ts args ≡ true → args ≡ []
else_bare kind.If os ts args h e = empty_is args e
else_bare k os ts args h e = absurd cc

module _ (k : Kind) (os : List (Option PayloadType)) (ts : List PayloadType) where
  -- what the rule says of a first region
  first_fits : (args : List PayloadType) (rest : Regions) → blocks_fit k os ts (args ∷ block_args rest) ≡ true
      → (args_fit k os ts args ≡ true) × (else_fits k ts (block_args rest) ≡ true)
  first_fits args rest e = and_parts (args_fit k os ts args) _ (and_parts (has_body k) _ e).1

  -- a kind whose regions have no arguments has none
  pub no_args : (rs : Regions) → ((args : List PayloadType) → args_fit k os ts args ≡ is_empty args)
      → blocks_fit k os ts (block_args rs) ≡ true → first_args rs ≡ []
  no_args no_regions f e = refl
  no_args (region args ops rest) f e = empty_is args (sym (f args) ∙ (first_fits args rest e).0)

  -- those of another kind fit where there is a region
  pub args_of : (rs : Regions) → has_body k ≡ true → blocks_fit k os ts (block_args rs) ≡ true
      → args_fit k os ts (first_args rs) ≡ true
  args_of no_regions b e = absurd (let p = not_true (has_body k) e in cc)
  args_of (region args ops rest) b e = (first_fits args rest e).0

  else_so : (args : List PayloadType) (rest : Regions) → args_fit k os ts args ≡ true
      → else_fits k ts (block_args rest) ≡ true → ArgsSo 1 args rest
  else_so args no_regions a e = tt
  else_so args (region xs ops rest) a e =
      let p = and_parts (has_else k) _ e in
      let q = and_parts (is_empty xs) _ p.1 in
      let bare = else_bare k os ts args p.0 a in
      (empty_is xs q.0 ∙ sym bare, (inr bare, none_so args rest q.1))

  pub args_so : (rs : Regions) → blocks_fit k os ts (block_args rs) ≡ true → ArgsSo 0 (first_args rs) rs
  args_so no_regions e = tt
  args_so (region args ops rest) e =
      let f = first_fits args rest e in
      (refl, (inl refl, else_so args rest f.0 f.1))
