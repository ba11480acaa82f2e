-- Blocks of operations of func and arith alone are defined.
use Rattle.std.proofs.Common.{◌≡◌, ◌⊎◌, inl, inr, ℕ, List, [], ◌∷◌, ◌++◌, Option, Some, None, Bool, true}
use Rattle.std.proofs.Common.{false}
use Rattle.std.proofs.Common.{refl, sym, ap, ◌∙◌, subst}
use Rattle.std.proofs.lemmas.Bool.{and_parts}
use Rattle.std.specs.Prelude.{map, length, ◌+◌, not, if◌then◌else◌}
use Rattle.xf_type.specs.declared.payload_type.PayloadType.{PayloadType}
use Rattle.xf_type.specs.declared.payload_type.PayloadType.TheVariants as type_of
use Rattle.xf_type.specs.declared.payload_type.Shape.{Shape}
use Rattle.xf_type.specs.declared.payload_type.Dim.{Dim}
use Rattle.xf_type.specs.declared.payload_type.Dim.TheVariants.{Fixed, Dynamic}
use Rattle.xf_type.specs.declared.payload_type.Width.{Width}
use Rattle.xf_type.specs.declared.payload_type.Width.TheVariants.{I1}
use Rattle.xf_type.specs.declared.payload_type.Elem.{Elem}
use Rattle.xf_type.specs.declared.payload_type.Elem.TheVariants.{Num}
use Rattle.xf_type.specs.Integers.{selected}
use Rattle.xf_type.proofs.EqualTypes.{width_itself, types_are}
use Rattle.xf_ir.specs.declared.name.OpName.{OpName}
use Rattle.xf_ir.specs.declared.name.ValueName.{ValueName}
use Rattle.xf_ir.specs.declared.kind.Kind.{Kind}
use Rattle.xf_ir.specs.declared.kind.Kind.TheVariants as kind
use Rattle.xf_ir.specs.declared.kind.Attr.{Attr}
use Rattle.xf_ir.specs.Tree.{Ops, no_ops, op, Regions}
use Rattle.xf_ir.specs.Calls.{Signature, Signatures, callee_before, ops_callees}
use Rattle.xf_ir.specs.Calls.{regions_callees, agrees, callee_agrees}
use Rattle.xf_ir.specs.Kinds.{callee_of, is_arith, is_terminator, is_return}
use Rattle.xf_ir.specs.Lists as lists
use Rattle.xf_ir.specs.Lists.{Each, same_bytes}
use Rattle.xf_ir.specs.Places.{results_of, done}
use Rattle.xf_ir.specs.Types.{has_type, have_types, is_dynamic}
use Rattle.xf_ir.specs.Placed.{Typed, type_at, holder_of, ops_placed, regions_placed}
use Rattle.xf_ir.specs.RuleAttributes.{dense_fits}
use Rattle.xf_ir.specs.RuleBlocks.{block_args, block_ends}
use Rattle.xf_ir.specs.RuleTypes.{row_of, are_inputs}
use Rattle.xf_ir.proofs.Lists.{each_right}
use Rattle.xf_sem.specs.declared.value.Value.{Value}
use Rattle.xf_sem.specs.declared.value.Value.TheVariants.{Scalar, Tensor}
use Rattle.xf_sem.specs.Values.{IsValue, FitsType, FitTypes}
use Rattle.xf_sem.specs.Actions.{results, calls, answered, on_one, on_two, on_choice}
use Rattle.xf_sem.specs.Tensors.{filled, known_size, tensor, dense_items, dense_given}
use Rattle.xf_sem.specs.Meaning.{Env, extend, gives, Run, finish, undefined, charge, and_then, Bodies, Calls}
use Rattle.xf_sem.specs.Meaning.{where_fit, elements, acts, performed, does, step}
use Rattle.xf_sem.specs.Meaning.{ops_run, bodies_of}
use Rattle.xf_sem.specs.Fitting.{FitsAction, FitOperands}
use Rattle.xf_sem.specs.Defined.{is_plain, are_plain}
use Rattle.xf_sem.proofs.Fits.{fitting_is_tested}
use Rattle.xf_sem.proofs.Points.{and_then_gives}
use Rattle.xf_sem.proofs.Products.{gives_when}
use Rattle.xf_sem.proofs.FittingRows.{types_fit}
use Rattle.xf_sem.proofs.Fitting.{Obeys, Passes, row_fits, expected, taken_types}
use Rattle.xf_sem.proofs.Surroundings.{fits_more}

-- ---- environments that fit

abbrev pub EnvFits : Typed → Env → Type 0
EnvFits tys e = (v : ValueName) (t : PayloadType) → type_at tys v ≡ Some t → IsValue (e v) × FitsType (e v) t

-- operands whose types are known fit them
pub operands_fit : (tys : Typed) (e : Env) (os : List ValueName) (wanted : List PayloadType) → EnvFits tys e
    → have_types (map (type_at tys) os) wanted ≡ true → FitOperands (map e os) (map (type_at tys) os)
operands_fit tys e [] wanted f h = tt
operands_fit tys e (v ∷ vs) [] f h = cc
operands_fit tys e (v ∷ vs) (t ∷ ts) f h =
    one (type_at tys v) refl h (λ g. operands_fit tys e vs ts f g)
  where
    one : (o : Option PayloadType) → type_at tys v ≡ o → have_types (o ∷ map (type_at tys) vs) (t ∷ ts) ≡ true
        → (have_types (map (type_at tys) vs) ts ≡ true → FitOperands (map e vs) (map (type_at tys) vs))
        → FitOperands (e v ∷ map e vs) (o ∷ map (type_at tys) vs)
    one None q h more = cc
    one (Some u) q h more =
        (f v u q, more (and_parts (has_type (Some u) t) (have_types (map (type_at tys) vs) ts) h).1)

-- ---- operations of arith are defined

abbrev GivesResults : Kind → ℕ → List PayloadType → List Value → Type 0
GivesResults k count ts vs = (ws : List Value) × (acts k count ts vs ≡ results ws)

one_given : (w : Width) (g : Elem → Value) (vs : List Value) → FitTypes vs (type_of.Scalar w ∷ [])
    → (ws : List Value) × (on_one w g vs ≡ results ws)
one_given w g [] h = elim h [ ]
one_given w g (Scalar u a ∷ []) h =
    (g a ∷ [], subst (λ z. on_one w g (Scalar z a ∷ []) ≡ results (g a ∷ [])) (sym h.0.1) (rw (width_itself w) refl))
one_given w g (Scalar u a ∷ (v ∷ vs)) h = elim h.1 [ ]
one_given w g (Tensor u shape elems ∷ vs) h = elim h.0.1 [ ]

two_given : (w : Width) (g : Elem → Elem → Value) (vs : List Value)
    → FitTypes vs (type_of.Scalar w ∷ (type_of.Scalar w ∷ [])) → (ws : List Value) × (on_two w g vs ≡ results ws)
two_given w g [] h = elim h [ ]
two_given w g (Tensor u shape elems ∷ vs) h = elim h.0.1 [ ]
two_given w g (Scalar l a ∷ []) h = elim h.1 [ ]
two_given w g (Scalar l a ∷ (Tensor r shape elems ∷ vs)) h = elim h.1.0.1 [ ]
two_given w g (Scalar l a ∷ (Scalar r b ∷ (v ∷ vs))) h = elim h.1.1 [ ]
two_given w g (Scalar l a ∷ (Scalar r b ∷ [])) h = (
  g a b ∷ [],
  subst (λ z. on_two w g (Scalar z a ∷ (Scalar r b ∷ [])) ≡ results (g a b ∷ [])) (sym h.0.1)
      (subst (λ z. on_two w g (Scalar w a ∷ (Scalar z b ∷ [])) ≡ results (g a b ∷ [])) (sym h.1.0.1)
      (rw (width_itself w) refl)),
)

choice_given : (w : Width) (vs : List Value)
    → FitTypes vs (type_of.Scalar I1 ∷ (type_of.Scalar w ∷ (type_of.Scalar w ∷ [])))
    → (ws : List Value) × (on_choice w vs ≡ results ws)
choice_given w [] h = elim h [ ]
choice_given w (Tensor u shape elems ∷ vs) h = elim h.0.1 [ ]
choice_given w (Scalar o c ∷ []) h = elim h.1 [ ]
choice_given w (Scalar o c ∷ (Tensor l shape elems ∷ vs)) h = elim h.1.0.1 [ ]
choice_given w (Scalar o c ∷ (Scalar l a ∷ [])) h = elim h.1.1 [ ]
choice_given w (Scalar o c ∷ (Scalar l a ∷ (Tensor r shape elems ∷ vs))) h = elim h.1.1.0.1 [ ]
choice_given w (Scalar o c ∷ (Scalar l a ∷ (Scalar r b ∷ (v ∷ vs)))) h = elim h.1.1.1 [ ]
choice_given w (Scalar o c ∷ (Scalar l a ∷ (Scalar r b ∷ []))) h = (
  Scalar w (selected c a b) ∷ [],
  subst (λ z. on_choice w (Scalar z c ∷ (Scalar l a ∷ (Scalar r b ∷ [])))
      ≡ results (Scalar w (selected c a b) ∷ []))
      (sym h.0.1)
      (subst
      (λ z. on_choice w (Scalar I1 c ∷ (Scalar z a ∷ (Scalar r b ∷ [])))
      ≡ results (Scalar w (selected c a b) ∷ []))
      (sym h.1.0.1)
      (subst
      (λ z. on_choice w (Scalar I1 c ∷ (Scalar w a ∷ (Scalar z b ∷ [])))
      ≡ results (Scalar w (selected c a b) ∷ []))
      (sym h.1.1.0.1) (rw (width_itself w) refl))),
)

-- fixed dimensions are all sizes
fixed_filled : (ds : List Dim) → lists.every (λ d. not (is_dynamic d)) ds ≡ true
    → (shape : List ℕ) × (filled (map known_size ds) [] ≡ Some shape)
fixed_filled [] h = ([], refl)
fixed_filled (Fixed n ∷ ds) h = let p = fixed_filled ds h in (n ∷ p.0, rw p.1 refl)
fixed_filled (Dynamic ∷ ds) h = cc

dense_defined : (s : Shape) (ns : List ℕ) → dense_fits s ns ≡ true
    → (ws : List Value) × (answered (dense_given s ns) ≡ results ws)
dense_defined s ns h =
    let fixed = and_parts (lists.every (λ d. not (is_dynamic d)) s.dims) _ h in
    let p = fixed_filled s.dims fixed.0 in
    (tensor s.elem p.0 (dense_items p.0 ns) ∷ [], rw p.1 refl)

arith_defined : (sigs : Signatures) (hgives : List PayloadType) (k : Kind) (os : List (Option PayloadType))
    (ts : List PayloadType) (args : List (List PayloadType)) (vs : List Value) (count : ℕ) → is_arith k ≡ true
    → Obeys sigs hgives k os ts args → FitOperands vs os → GivesResults k count ts vs
arith_defined sigs hgives (kind.Constant w bits) os ts args vs count h o f = (Scalar w (Num bits) ∷ [], refl)
arith_defined sigs hgives (kind.Dense s ns) os ts args vs count h o f = dense_defined s ns o.attributes
arith_defined sigs hgives (kind.Binary which w) os ts args vs count h o f =
    two_given w _ vs (types_fit vs os _ f (taken_types _ (type_of.Scalar w ∷ []) os ts o.types))
arith_defined sigs hgives (kind.Compare which w) os ts args vs count h o f =
    two_given w _ vs (types_fit vs os _ f (taken_types _ (type_of.Scalar I1 ∷ []) os ts o.types))
arith_defined sigs hgives (kind.Select w) os ts args vs count h o f =
    choice_given w vs (types_fit vs os _ f (taken_types _ (type_of.Scalar w ∷ []) os ts o.types))
arith_defined sigs hgives (kind.Convert which from to) os ts args vs count h o f =
    one_given from _ vs (types_fit vs os _ f (taken_types _ (type_of.Scalar to ∷ []) os ts o.types))
arith_defined sigs hgives _ os ts args vs count h o f = cc

-- the row of an operation of arith says the types of its operands
arith_wanted : (sigs : Signatures) (hgives : List PayloadType) (k : Kind) (os : List (Option PayloadType))
    (ts : List PayloadType) → is_arith k ≡ true → row_of sigs hgives k os ts ≡ true
    → (wanted : List PayloadType) × (have_types os wanted ≡ true)
arith_wanted sigs hgives (kind.Constant w bits) os ts h r = ([], taken_types [] (type_of.Scalar w ∷ []) os ts r)
arith_wanted sigs hgives (kind.Dense s ns) os ts h r = ([], taken_types [] (type_of.Tensor s ∷ []) os ts r)
arith_wanted sigs hgives (kind.Binary which w) os ts h r =
    (type_of.Scalar w ∷ (type_of.Scalar w ∷ []), taken_types _ (type_of.Scalar w ∷ []) os ts r)
arith_wanted sigs hgives (kind.Compare which w) os ts h r =
    (type_of.Scalar w ∷ (type_of.Scalar w ∷ []), taken_types _ (type_of.Scalar I1 ∷ []) os ts r)
arith_wanted sigs hgives (kind.Select w) os ts h r = (
  type_of.Scalar I1 ∷ (type_of.Scalar w ∷ (type_of.Scalar w ∷ [])),
  taken_types _ (type_of.Scalar w ∷ []) os ts r,
)
arith_wanted sigs hgives (kind.Convert which from to) os ts h r =
    (type_of.Scalar from ∷ [], taken_types _ (type_of.Scalar to ∷ []) os ts r)
arith_wanted sigs hgives _ os ts h r = cc

-- it has no regions to look at, and ends no block
arith_counts : (k : Kind) (i j : ℕ) (ts : List PayloadType) (vs : List Value) → is_arith k ≡ true
    → acts k i ts vs ≡ acts k j ts vs
arith_counts (kind.Constant w bits) i j ts vs h = refl
arith_counts (kind.Dense s ns) i j ts vs h = refl
arith_counts (kind.Binary which w) i j ts vs h = refl
arith_counts (kind.Compare which w) i j ts vs h = refl
arith_counts (kind.Select w) i j ts vs h = refl
arith_counts (kind.Convert which from to) i j ts vs h = refl
arith_counts _ i j ts vs h = cc

arith_goes : (k : Kind) → is_arith k ≡ true → is_terminator k ≡ false
arith_goes kind.Return h = cc
arith_goes kind.Yield h = cc
arith_goes kind.LinalgYield h = cc
arith_goes _ h = refl

return_ends : (k : Kind) → is_return k ≡ true → is_terminator k ≡ true
return_ends kind.Return h = refl
return_ends _ h = cc

plain_is : (k : Kind) → is_plain k ≡ true
    → (is_arith k ≡ true) ⊎ (((callee : List ℕ) × (k ≡ kind.Call callee)) ⊎ (k ≡ kind.Return))
plain_is (kind.Call callee) h = inr (inl (callee, refl))
plain_is kind.Return h = inr (inr refl)
plain_is _ h = inl h

-- ---- what is called

abbrev pub CalleeDefined : Signatures → Calls → List ℕ → Type 0
CalleeDefined sigs c s =
    (caller : OpName) (sg : Signature) (vs : List Value) → sigs s ≡ Some sg → FitTypes vs sg.inputs
    → (ws : List Value) × (((c caller s vs).answer ≡ gives ws) × FitTypes ws sg.results)

-- ---- an operation

abbrev Does : Calls → OpName → Kind → List PayloadType → Bodies → List Value → Type 0
Does c n k ts bs vs = (ws : List Value) × (((does c n k ts bs vs).answer ≡ gives ws) × FitTypes ws ts)

arith_does : (sigs : Signatures) (hgives : List PayloadType) (c : Calls) (n : OpName) (k : Kind)
    (ts : List PayloadType)
    (bs : Bodies) (os : List (Option PayloadType)) (args : List (List PayloadType)) (vs : List Value)
    → is_arith k ≡ true → Obeys sigs hgives k os ts args → FitOperands vs os → Does c n k ts bs vs
arith_does sigs hgives c n k ts bs os args vs h o f =
    let a = arith_defined sigs hgives k os ts args vs bs.count h o f in
    let there : acts k (length args) ts vs ≡ results a.0 = arith_counts k (length args) bs.count ts vs h ∙ a.1 in
    let fit : FitTypes a.0 ts =
    subst (FitsAction (expected sigs k os ts args)) there (row_fits sigs hgives k os ts args vs o f) in
    (a.0, (gives_when c n k ts bs vs a.0 a.1 ((fitting_is_tested a.0 ts).1 fit), fit))

call_does : (sigs : Signatures) (c : Calls) (n : OpName) (callee : List ℕ) (ts : List PayloadType) (bs : Bodies)
    (vs : List Value) (sg : Signature) → CalleeDefined sigs c callee → sigs callee ≡ Some sg → FitTypes vs sg.inputs
    → ts ≡ sg.results → Does c n (kind.Call callee) ts bs vs
call_does sigs c n callee ts bs vs sg d q f e =
    let w = d n sg vs q f in
    let fit : FitTypes w.0 ts = subst (FitTypes w.0) (sym e) w.1.1 in
    let called_is : (performed c n bs (calls callee vs results)).answer ≡ gives w.0 =
    and_then_gives (c n callee vs) w.0 (λ ws. performed c n bs (results ws)) w.1.0 in (
      w.0,
      (
        and_then_gives (performed c n bs (calls callee vs results)) w.0
            (λ us. where_fit n ts us (charge (0 + elements us) (finish us))) called_is
            ∙ ap (λ b. (if b then charge (0 + elements w.0) (finish w.0) else undefined n).answer)
            ((fitting_is_tested w.0 ts).1 fit),
        fit,
      ),
    )

module _ (sigs : Signatures) (c : Calls) (symbol : List ℕ) (private : Bool) (returns : List PayloadType) where
  -- an operation of the block that is no return
  operation_does : (n : OpName) (k : Kind) (os : List ValueName) (ts : List PayloadType) (rs : Regions) (tys : Typed)
      (e : Env) → is_plain k ≡ true
      → Obeys sigs returns k (map (type_at tys) os) ts (block_args rs) → EnvFits tys e
      → Each (CalleeDefined sigs c) (callee_before k [])
      → (k ≡ kind.Return) ⊎ ((is_terminator k ≡ false) × Does c n k ts (bodies_of c n 0 rs e) (map e os))
  operation_does n k os ts rs tys e p o f d =
      elim (plain_is k p) [
        | inl a ↦ inr (arith_goes k a, arith_case a)
        | inr (inl q) ↦ inr (ap is_terminator q.1, call_case q.0 q.1)
        | inr (inr r) ↦ inl r
      ]
    where
      arith_case : is_arith k ≡ true → Does c n k ts (bodies_of c n 0 rs e) (map e os)
      arith_case a =
          let w = arith_wanted sigs returns k (map (type_at tys) os) ts a o.types in
          arith_does sigs returns c n k ts (bodies_of c n 0 rs e) (map (type_at tys) os) (block_args rs) (map e os) a o
          (operands_fit tys e os w.0 f w.1)

      signed : (callee : List ℕ) (s : Option Signature) → sigs callee ≡ s → agrees s ts ≡ true
          → are_inputs s (map (type_at tys) os) ≡ true → CalleeDefined sigs c callee
          → Does c n (kind.Call callee) ts (bodies_of c n 0 rs e) (map e os)
      signed callee None q g h d = cc
      signed callee (Some sg) q g h d =
          let fit = operands_fit tys e os sg.inputs f h in
          call_does sigs c n callee ts (bodies_of c n 0 rs e) (map e os) sg d q
          (types_fit (map e os) (map (type_at tys) os) sg.inputs fit h) (types_are ts sg.results g)

      call_case : (callee : List ℕ) → k ≡ kind.Call callee → Does c n k ts (bodies_of c n 0 rs e) (map e os)
      call_case callee q =
          let agree : agrees (sigs callee) ts ≡ true = subst (λ j. callee_agrees sigs j ts ≡ true) q o.callee in
          let inputs : are_inputs (sigs callee) (map (type_at tys) os) ≡ true =
          subst (λ j. row_of sigs returns j (map (type_at tys) os) ts ≡ true) q o.types in
          let known = subst (λ j. Each (CalleeDefined sigs c) (callee_before j [])) q d in
          subst (λ j. Does c n j ts (bodies_of c n 0 rs e) (map e os)) (sym q)
          (signed callee (sigs callee) refl agree inputs known.0)

  later_ends : (n : OpName) (k : Kind) (ds : List Attr) (os : List ValueName) (ts : List PayloadType) (rs : Regions)
      (rest : Ops) → is_terminator k ≡ false
      → block_ends (kind.Func symbol private returns) (op n k ds os ts rs rest) ≡ true
      → block_ends (kind.Func symbol private returns) rest ≡ true
  later_ends n k ds os ts rs no_ops h b = let z = return_ends k b in cc
  later_ends n k ds os ts rs (op n' k' ds' os' ts' rs' rest') h b = b

  callees_here : (k : Kind) (xs ys : List (List ℕ)) → Each (CalleeDefined sigs c) (callee_before k (xs ++ ys))
      → Each (CalleeDefined sigs c) (callee_before k []) × Each (CalleeDefined sigs c) ys
  callees_here k xs ys h = split (callee_of k) h
    where
      split : (o : Option (List ℕ)) → Each (CalleeDefined sigs c) (lists.item_before o (xs ++ ys))
          → Each (CalleeDefined sigs c) (lists.item_before o []) × Each (CalleeDefined sigs c) ys
      split None h = (tt, each_right (CalleeDefined sigs c) xs ys h)
      split (Some s) h = ((h.0, tt), each_right (CalleeDefined sigs c) xs ys h.1)

  pub block_defined : (ops : Ops) (tys : Typed) (e : Env) (holder : OpName)
      → Each (Passes sigs) (ops_placed (record { kind = kind.Func symbol private returns; gives = returns }) tys ops)
      → are_plain ops ≡ true → block_ends (kind.Func symbol private returns) ops ≡ true → EnvFits tys e
      → Each (CalleeDefined sigs c) (ops_callees ops)
      → (ws : List Value) × (((ops_run c holder ops e).answer ≡ gives ws) × FitTypes ws returns)
  block_defined no_ops tys e holder a p b f d = cc
  block_defined (op n k ds os ts rs rest) tys e holder a p b f d =
      let plain = and_parts (is_plain k) (are_plain rest) p in
      let called = callees_here k (regions_callees rs) (ops_callees rest) d in
      let later = each_right (Passes sigs) (regions_placed (holder_of k (map (type_at tys) os) ts) tys n 0 rs) _ a.1 in
      let go : List Value
      → Run (List Value) = (λ vs. ops_run c holder rest (extend (results_of n (length ts)) vs e)) in
      elim (operation_does n k os ts rs tys e plain.0 a.0 f called.0) [
        | inl r ↦ returned_here n k os ts rs tys e go r a.0 f
        | inr w ↦
            let t = block_defined rest ((done n (length ts), ts) ∷ tys)
            (extend (results_of n (length ts)) w.1.0 e) holder
            later plain.1 (later_ends n k ds os ts rs rest w.0 b) (fits_more (done n (length ts)) ts tys w.1.0 e
            w.1.1.1 f) called.1 in
            (t.0, (goes_on n k os ts rs e go w.1.0 w.0 w.1.1.0 ∙ t.1.0, t.1.1))
      ]
    where
      returned_here : (n : OpName) (k : Kind) (os : List ValueName) (ts : List PayloadType) (rs : Regions)
          (tys : Typed)
          (e : Env) (go : List Value → Run (List Value)) → k ≡ kind.Return
          → Obeys sigs returns k (map (type_at tys) os) ts (block_args rs) → EnvFits tys e
          → (ws : List Value)
          × (((step c n k ts (bodies_of c n 0 rs e) (map e os) go).answer ≡ gives ws) × FitTypes ws returns)
      returned_here n k os ts rs tys e go r o f =
          let row : row_of sigs returns kind.Return (map (type_at tys) os) ts ≡ true =
          subst (λ j. row_of sigs returns j (map (type_at tys) os) ts ≡ true) r o.types in
          let wanted = taken_types returns [] (map (type_at tys) os) ts row in
          let fit = operands_fit tys e os returns f wanted in (
            map e os,
            (
              ap (λ j. (step c n j ts (bodies_of c n 0 rs e) (map e os) go).answer) r,
              types_fit (map e os) (map (type_at tys) os) returns fit wanted,
            ),
          )

      goes_on : (n : OpName) (k : Kind) (os : List ValueName) (ts : List PayloadType) (rs : Regions) (e : Env)
          (go : List Value → Run (List Value)) (ws : List Value) → is_terminator k ≡ false
          → (does c n k ts (bodies_of c n 0 rs e) (map e os)).answer ≡ gives ws
          → (step c n k ts (bodies_of c n 0 rs e) (map e os) go).answer ≡ (go ws).answer
      goes_on n k os ts rs e go ws h g =
          let d = does c n k ts (bodies_of c n 0 rs e) (map e os) in
          ap (λ b. (charge 1 (if b then finish (map e os) else and_then d go)).answer) h ∙ and_then_gives d ws go g
