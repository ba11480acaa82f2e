-- The body of a reduction joins the element of the out with what does not depend on it.
use Rattle.std.proofs.Common.{◌≡◌, ◌⊎◌, ℕ, zero, suc, List, [], ◌∷◌, Option, Some, None, Bool, true, false, refl, sym}
use Rattle.std.proofs.Common.{ap, ◌∙◌, subst, inl, inr, arith}
use Rattle.std.proofs.lemmas.Bool.{and_parts, or_parts, or_cases, eqb-true}
use Rattle.std.specs.Prelude.{length, map, ◌==◌, ◌&&◌, not, nat_lt, if◌then◌else◌}
use Rattle.xf_type.specs.declared.payload_type.PayloadType.{PayloadType}
use Rattle.xf_type.specs.declared.payload_type.Width.{Width}
use Rattle.xf_type.specs.declared.payload_type.Elem.{Elem}
use Rattle.xf_type.specs.declared.payload_type.Elem.TheVariants.{NoNumber}
use Rattle.xf_type.specs.declared.kind.BinKind.{BinKind}
use Rattle.xf_type.specs.declared.kind.BinKind.TheVariants as bin
use Rattle.xf_type.specs.declared.kind.Combiner.{Combiner}
use Rattle.xf_type.specs.declared.kind.Combiner.TheVariants as by
use Rattle.xf_type.specs.Integers.{FitsWidth, binary, kind_of, combined}
use Rattle.xf_type.proofs.LawLemmas.{combined_comm}
use Rattle.xf_ir.specs.declared.name.OpName.{OpName}
use Rattle.xf_ir.specs.declared.name.ValueName.{ValueName}
use Rattle.xf_ir.specs.declared.name.ValueName.TheVariants.{Result, Arg, Free}
use Rattle.xf_ir.specs.declared.kind.Kind.{Kind}
use Rattle.xf_ir.specs.declared.kind.Kind.TheVariants as kind
use Rattle.xf_ir.specs.Kinds.{is_arith}
use Rattle.xf_ir.specs.Tree.{Ops, no_ops, op, Tree}
use Rattle.xf_ir.specs.Walk.{ops_find}
use Rattle.xf_ir.specs.Uses.{same_value, use_count, ops_operands}
use Rattle.xf_ir.specs.Places.{below, results_of, Seen, sees, AllSeen}
use Rattle.xf_ir.specs.RuleLinalg.{is_combiner, only_value, yielded, definer, depends, dependents, all_dependents}
use Rattle.xf_ir.specs.RuleLinalg.{is_apart, joins_out, combines}
use Rattle.xf_sem.specs.declared.value.Value.{Value}
use Rattle.xf_sem.specs.declared.value.Value.TheVariants.{Scalar, Tensor}
use Rattle.xf_sem.specs.Values.{IsValue, FitTypes, fit_types}
use Rattle.xf_sem.specs.Actions.{is_undefined, on_two}
use Rattle.xf_sem.specs.Meaning.{Env, item, gives, no_body, Calls, does, ops_run}
use Rattle.xf_sem.proofs.Fits.{fit_types_says}
use Rattle.xf_structured.specs.Bodies.{Like, Straight, last_operands, seen_at_end, only, DifferInOut, MayReduce}
use Rattle.xf_structured.specs.Bodies.{Reduces, BodyReduces, BodyIsTotal}
use Rattle.xf_structured.proofs.Arith.{TwoScalars, two_scalars, does_undefined, gave}
use Rattle.xf_sem.proofs.Products.{on_two_is}
use Rattle.xf_structured.proofs.Bodies.{final, Near, near_run}

-- ---- names

abbrev named : ℕ → OpName
named n = record { 0 = n }

name_is : (a b : OpName) → (a.0 == b.0) ≡ true → a ≡ b
name_is a b h = ap named (eqb-true a.0 b.0 h)

value_is : (v w : ValueName) → same_value v w ≡ true → v ≡ w
value_is (Result o num) (Result o' num') h =
    let p = and_parts (o.0 == o'.0) (num == num') h in
    let a = name_is o o' p.0 in
    let b = eqb-true num num' p.1 in cc
value_is (Arg o r num) (Arg o' r' num') h =
    let p = and_parts (o.0 == o'.0) ((r == r') && (num == num')) h in
    let q = and_parts (r == r') (num == num') p.1 in
    let a = name_is o o' p.0 in
    let b = eqb-true r r' q.0 in
    let c = eqb-true num num' q.1 in cc
value_is (Free num) (Free num') h = (let a = eqb-true num num' h in cc)
value_is _ _ h = cc

-- ---- what the rule finds

yielded_is : (ops : Ops) → yielded ops ≡ only_value (last_operands ops)
yielded_is no_ops = refl
yielded_is (op n k ds os ts rs no_ops) = refl
yielded_is (op n k ds os ts rs (op n' k' ds' os' ts' rs' rest')) = yielded_is (op n' k' ds' os' ts' rs' rest')

pub Found : ValueName → Ops → Type 0
Found out ops =
    (o : OpName)
    × ((num : ℕ)
    × ((t : Tree)
    × ((last_operands ops ≡ Result o num ∷ [])
    × ((ops_find o ops ≡ Some t) × ((is_combiner t.kind ≡ true) × (joins_out out ops t.operands ≡ true))))))

found : (out : ValueName) (ops : Ops) → combines out ops (definer ops (yielded ops)) ≡ true → Found out ops
unfolding Found
found out ops h =
    cases (last_operands ops) refl (ap (λ y. combines out ops (definer ops y)) (sym (yielded_is ops)) ∙ h)
  where
    at_op : (o : OpName) (num : ℕ) → last_operands ops ≡ Result o num ∷ [] → (x : Option Tree) → ops_find o ops ≡ x
        → combines out ops x ≡ true
        → (o : OpName)
        × ((num : ℕ)
        × ((t : Tree)
        × ((last_operands ops ≡ Result o num ∷ [])
        × ((ops_find o ops ≡ Some t) × ((is_combiner t.kind ≡ true) × (joins_out out ops t.operands ≡ true))))))
    at_op o num l None e c = cc
    at_op o num l (Some t) e c =
        (let p = and_parts (is_combiner t.kind) (joins_out out ops t.operands) c in (o, (num, (t, (l, (e, p))))))

    cases : (os : List ValueName) → last_operands ops ≡ os → combines out ops (definer ops (only_value os)) ≡ true
        → (o : OpName)
        × ((num : ℕ)
        × ((t : Tree)
        × ((last_operands ops ≡ Result o num ∷ [])
        × ((ops_find o ops ≡ Some t) × ((is_combiner t.kind ≡ true) × (joins_out out ops t.operands ≡ true))))))
    cases [] e c = cc
    cases (Result o num ∷ []) e c = at_op o num e (ops_find o ops) refl c
    cases (Arg o r num ∷ []) e c = cc
    cases (Free num ∷ []) e c = cc
    cases (v ∷ (w ∷ vs)) e c = cc

combiner_of : (k : Kind) → is_combiner k ≡ true → (c : Combiner) × ((w : Width) × (k ≡ kind.Binary (kind_of c) w))
combiner_of (kind.Binary bin.Addi w) h = (by.Addi, (w, refl))
combiner_of (kind.Binary bin.Muli w) h = (by.Muli, (w, refl))
combiner_of (kind.Binary bin.Andi w) h = (by.Andi, (w, refl))
combiner_of (kind.Binary bin.Ori w) h = (by.Ori, (w, refl))
combiner_of (kind.Binary bin.Xori w) h = (by.Xori, (w, refl))
combiner_of (kind.Binary bin.Minsi w) h = (by.Minsi, (w, refl))
combiner_of (kind.Binary bin.Maxsi w) h = (by.Maxsi, (w, refl))
combiner_of (kind.Binary bin.Minui w) h = (by.Minui, (w, refl))
combiner_of (kind.Binary bin.Maxui w) h = (by.Maxui, (w, refl))
combiner_of _ h = cc

-- the operands: the out and what is apart from it, in either order
Joined : ValueName → Ops → List ValueName → Type 0
Joined out ops os = (e : ValueName) × (((os ≡ out ∷ (e ∷ [])) ⊎ (os ≡ e ∷ (out ∷ []))) × (is_apart out ops e ≡ true))

joined : (out : ValueName) (ops : Ops) (os : List ValueName) → joins_out out ops os ≡ true → Joined out ops os
unfolding Joined
joined out ops (a ∷ (b ∷ [])) h =
    cases (or_cases (same_value a out && is_apart out ops b) (same_value b out && is_apart out ops a) h)
  where
    cases : ((same_value a out && is_apart out ops b) ≡ true) ⊎ ((same_value b out && is_apart out ops a) ≡ true)
        → (e : ValueName)
        × (((a ∷ (b ∷ []) ≡ out ∷ (e ∷ [])) ⊎ (a ∷ (b ∷ []) ≡ e ∷ (out ∷ []))) × (is_apart out ops e ≡ true))
    cases (inl p) =
        (let q = and_parts (same_value a out) (is_apart out ops b) p in
        (b, (inl (ap (λ z. z ∷ (b ∷ [])) (value_is a out q.0)), q.1)))
    cases (inr p) =
        (let q = and_parts (same_value b out) (is_apart out ops a) p in
        (a, (inr (ap (λ z. a ∷ (z ∷ [])) (value_is b out q.0)), q.1)))
joined out ops _ h = cc

apart_is : (b : Bool) → not b ≡ true → b ≡ false
apart_is true h = cc
apart_is false h = refl

-- the names that depend, as the last walk over the body finds them
last_walk : (out : ValueName) (ops body : Ops) (ns : List OpName) → Straight ops → (ms : List OpName)
    × (all_dependents out ops body ns ≡ dependents out body ms)
last_walk out no_ops body ns s = elim s [ ]
last_walk out (op n k ds os ts rs no_ops) body ns s = (ns, refl)
last_walk out (op n k ds os ts rs (op n' k' ds' os' ts' rs' rest')) body ns s =
    last_walk out (op n' k' ds' os' ts' rs' rest') body (dependents out body ns) s.1.1

not_own : (out : ValueName) (ns : List OpName) (v : ValueName) → depends out ns v ≡ false → same_value out v ≡ false
not_own out ns (Result o num) h = (or_parts (same_value out (Result o num)) _ h).0
not_own out ns (Arg o r num) h = h
not_own out ns (Free num) h = h

-- ---- what the joining operation gave

two_gave : (c : Calls) (n : OpName) (k : BinKind) (w : Width) (ts : List PayloadType) (x y : Value) (vs : List Value)
    → (does c n (kind.Binary k w) ts (no_body n) (x ∷ (y ∷ []))).answer ≡ gives vs
    → (a : Elem)
    × ((b : Elem)
    × ((x ≡ Scalar w a)
    × ((y ≡ Scalar w b)
    × ((vs ≡ Scalar w (binary k w a b) ∷ []) × (fit_types (Scalar w (binary k w a b) ∷ []) ts ≡ true)))))
two_gave c n k w ts x y vs h = cases (two_scalars w (λ a b. Scalar w (binary k w a b)) (x ∷ (y ∷ [])))
  where
    cases : TwoScalars w (x ∷ (y ∷ [])) ⊎ (on_two w (λ a b. Scalar w (binary k w a b)) (x ∷ (y ∷ [])) ≡ is_undefined)
        → (a : Elem)
        × ((b : Elem)
        × ((x ≡ Scalar w a)
        × ((y ≡ Scalar w b)
        × ((vs ≡ Scalar w (binary k w a b) ∷ []) × (fit_types (Scalar w (binary k w a b) ∷ []) ts ≡ true)))))
    cases (inl s) =
        let e = gave c n (kind.Binary k w) ts (no_body n) (x ∷ (y ∷ [])) (Scalar w (binary k w s.0 s.1.0) ∷ []) vs
        (ap (on_two w (λ a b. Scalar w (binary k w a b))) s.1.1
        ∙ on_two_is w (λ a b. Scalar w (binary k w a b)) s.0 s.1.0) h in
        let q = s.1.1 in
        (s.0, (s.1.0, (cc, (cc, (sym e.1, e.0)))))
    cases (inr s) = (let e = does_undefined c n (kind.Binary k w) ts (no_body n) (x ∷ (y ∷ [])) s in cc)

-- the one result
first_number : (n : OpName) (x : Value) (ts : List PayloadType) (o : OpName) (num : ℕ) → FitTypes (x ∷ []) ts
    → results_of n (length ts) (Result o num) ≡ Some num → item (x ∷ []) num ≡ x
first_number n x ts o zero f h = refl
first_number n x [] o (suc num) f h = elim f [ ]
first_number n x (t ∷ (u ∷ ts)) o (suc num) f h = elim f.1 [ ]
first_number n x (t ∷ []) o (suc num) f h = cases (o.0 == n.0) h
  where
    past : (m : ℕ) → nat_lt (suc m) 1 ≡ false
    past m = grind arith

    cases : (b : Bool) → (if b then below (suc num) 1 else None) ≡ Some (suc num) → item (x ∷ []) (suc num) ≡ x
    cases true e =
        (let p = past num in let q : below (suc num) 1 ≡ None = ap (λ b. if b then Some (suc num) else None) p in cc)
    cases false e = cc

-- ---- the law

scalar_parts : (w w' : Width) (a a' : Elem) → Scalar w a ≡ Scalar w' a' → (w ≡ w') × (a ≡ a')
scalar_parts w w' a a' h = (cc, cc)

-- both runs of the joining operation, the out first or second
both_gave : (c : Calls) (n : OpName) (comb : Combiner) (width w : Width) (ts : List PayloadType) (first : Bool)
    (f f' : Env) (out y : ValueName) (a a' : Elem) (vs vs' : List Value)
    → f out ≡ Scalar w a → f' out ≡ Scalar w a' → f y ≡ f' y
    → (does c n (kind.Binary (kind_of comb) width) ts (no_body n)
    (map f (if first then out ∷ (y ∷ []) else y ∷ (out ∷ [])))).answer ≡ gives vs
    → (does c n (kind.Binary (kind_of comb) width) ts (no_body n)
    (map f' (if first then out ∷ (y ∷ []) else y ∷ (out ∷ [])))).answer ≡ gives vs'
    → (b : Elem)
    × ((f' y ≡ Scalar w b)
    × (((vs ≡ Scalar w (combined comb w a b) ∷ []) × (vs' ≡ Scalar w (combined comb w a' b) ∷ []))
    × (FitTypes vs ts × FitTypes vs' ts)))
both_gave c n comb width w ts true f f' out y a a' vs vs' p q r g g' =
    let s = two_gave c n (kind_of comb) width ts (f out) (f y) vs g in
    let s' = two_gave c n (kind_of comb) width ts (f' out) (f' y) vs' g' in
    let u = scalar_parts w width a s.0 (sym p ∙ s.1.1.0) in
    let u' = scalar_parts w width a' s'.0 (sym q ∙ s'.1.1.0) in
    let b = s.1.0 in
    let same : Scalar width s'.1.0 ≡ Scalar width b = sym s'.1.1.1.0 ∙ sym r ∙ s.1.1.1.0 in
    let v = (scalar_parts width width s'.1.0 b same).1 in
    let t : vs ≡ Scalar width (binary (kind_of comb) width s.0 b) ∷ [] = s.1.1.1.1.0 in
    let t' : vs' ≡ Scalar width (binary (kind_of comb) width s'.0 s'.1.0) ∷ [] = s'.1.1.1.1.0 in
    let i = fit_types_says (Scalar width (binary (kind_of comb) width s.0 b) ∷ []) ts s.1.1.1.1.1 in
    let i' = fit_types_says (Scalar width (binary (kind_of comb) width s'.0 s'.1.0) ∷ []) ts s'.1.1.1.1.1 in (
      b,
      (
        sym r ∙ s.1.1.1.0 ∙ ap (λ z. Scalar z b) (sym u.0),
        (
          (
            t ∙ ap (λ z. Scalar z (binary (kind_of comb) z s.0 b) ∷ []) (sym u.0)
                ∙ ap (λ z. Scalar w (binary (kind_of comb) w z b) ∷ []) (sym u.1),
            t' ∙ ap (λ z. Scalar z (binary (kind_of comb) z s'.0 s'.1.0) ∷ []) (sym u.0)
                ∙ ap (λ z. Scalar w (binary (kind_of comb) w z s'.1.0) ∷ []) (sym u'.1)
                ∙ ap (λ z. Scalar w (binary (kind_of comb) w a' z) ∷ []) v,
          ),
          (subst (λ z. FitTypes z ts) (sym t) i, subst (λ z. FitTypes z ts) (sym t') i'),
        ),
      ),
    )
both_gave c n comb width w ts false f f' out y a a' vs vs' p q r g g' =
    let s = two_gave c n (kind_of comb) width ts (f y) (f out) vs g in
    let s' = two_gave c n (kind_of comb) width ts (f' y) (f' out) vs' g' in
    let u = scalar_parts w width a s.1.0 (sym p ∙ s.1.1.1.0) in
    let u' = scalar_parts w width a' s'.1.0 (sym q ∙ s'.1.1.1.0) in
    let b = s.0 in
    let same : Scalar width s'.0 ≡ Scalar width b = sym s'.1.1.0 ∙ sym r ∙ s.1.1.0 in
    let v = (scalar_parts width width s'.0 b same).1 in
    let t : vs ≡ Scalar width (binary (kind_of comb) width b s.1.0) ∷ [] = s.1.1.1.1.0 in
    let t' : vs' ≡ Scalar width (binary (kind_of comb) width s'.0 s'.1.0) ∷ [] = s'.1.1.1.1.0 in
    let i = fit_types_says (Scalar width (binary (kind_of comb) width b s.1.0) ∷ []) ts s.1.1.1.1.1 in
    let i' = fit_types_says (Scalar width (binary (kind_of comb) width s'.0 s'.1.0) ∷ []) ts s'.1.1.1.1.1 in (
      b,
      (
        sym r ∙ s.1.1.0 ∙ ap (λ z. Scalar z b) (sym u.0),
        (
          (
            t ∙ ap (λ z. Scalar z (binary (kind_of comb) z b s.1.0) ∷ []) (sym u.0)
                ∙ ap (λ z. Scalar w (binary (kind_of comb) w b z) ∷ []) (sym u.1)
                ∙ ap (λ z. Scalar w z ∷ []) (combined_comm comb w b a),
            t' ∙ ap (λ z. Scalar z (binary (kind_of comb) z s'.0 s'.1.0) ∷ []) (sym u.0)
                ∙ ap (λ z. Scalar w (binary (kind_of comb) w s'.0 z) ∷ []) (sym u'.1)
                ∙ ap (λ z. Scalar w (binary (kind_of comb) w z a') ∷ []) v
                ∙ ap (λ z. Scalar w z ∷ []) (combined_comm comb w b a'),
          ),
          (subst (λ z. FitTypes z ts) (sym t) i, subst (λ z. FitTypes z ts) (sym t') i'),
        ),
      ),
    )

which : (os : List ValueName) (out e : ValueName) → (os ≡ out ∷ (e ∷ [])) ⊎ (os ≡ e ∷ (out ∷ [])) → (first : Bool)
    × (os ≡ (if first then out ∷ (e ∷ []) else e ∷ (out ∷ [])))
which os out e (inl h) = (true, h)
which os out e (inr h) = (false, h)

seen_one : (ss : List Seen) (first : Bool) (out e : ValueName)
    → AllSeen ss (if first then out ∷ (e ∷ []) else e ∷ (out ∷ [])) → sees ss e ≡ true
seen_one ss true out e h = h.1.0
seen_one ss false out e h = h.0

abbrev pub elem_of : Value → Elem
elem_of (Scalar w a) = a
elem_of (Tensor w s es) = NoNumber

-- what the body brings: the operation that joins, and the value that is joined to the out
pub record Brings (out : ValueName) (ops : Ops) : Type 0 where
  pub by : Combiner
  pub brought : ValueName

brings_of : (out : ValueName) (ops : Ops) → Found out ops → Brings out ops
unfolding Found Joined
brings_of out ops f =
    record {
      by = (combiner_of f.1.1.0.kind f.1.1.1.1.1.0).0;
      brought =
          (joined out ops f.1.1.0.operands f.1.1.1.1.1.1).0;
    }

pub found_in : (ss : List Seen) (out : ValueName) (ops : Ops) → MayReduce ss out ops → Found out ops
found_in ss out ops may =
    found out ops
    (and_parts (combines out ops (definer ops (yielded ops)))
    (use_count out (ops_operands ops) == 1) may.reduces).0

one_run : (c : Calls) (holder : OpName) (ops : Ops) (ss : List Seen) (out : ValueName) (w : Width) (a a' : Elem)
    (e e' : Env) (xs : List Value) (may : MayReduce ss out ops) → DifferInOut ss out w a a' e e'
    → (ops_run c holder ops e).answer ≡ gives xs
    → (b : Elem)
    × ((final c ops e (brings_of out ops (found_in ss out ops may)).brought ≡ Scalar w b)
    × (FitsWidth w b
    × ((xs ≡ Scalar w (combined (brings_of out ops (found_in ss out ops may)).by w a b) ∷ [])
    × ((ops_run c holder ops e').answer
    ≡ gives (Scalar w (combined (brings_of out ops (found_in ss out ops may)).by w a' b) ∷ [])))))
unfolding Found Joined brings_of found_in
one_run c holder ops ss out w a a' e e' xs may d run =
    let straight = may.straight in
    let f = found_in ss out ops may in
    let o = f.0 in
    let num = f.1.0 in
    let t = f.1.1.0 in
    let lasts : last_operands ops ≡ Result o num ∷ [] = f.1.1.1.0 in
    let at_op = f.1.1.1.1.0 in
    let comb = combiner_of t.kind f.1.1.1.1.1.0 in
    let j = joined out ops t.operands f.1.1.1.1.1.1 in
    let y = j.0 in
    let arith : is_arith t.kind ≡ true = ap is_arith comb.1.1 in
    let ms = last_walk out ops ops [] straight in
    let near : Near ss out ms.0 e e' = record
    { like = d.like; value = d.value; same = λ v s u. d.same v s (not_own out ms.0 v u) } in
    let ended = near_run ops out c holder xs ss ms.0 e e' straight may.scoped near run in
    let ran = ended.ran o t at_op arith in
    let order = which t.operands out y j.1.0 in
    let y_seen = seen_one (seen_at_end ops ss) order.0 out y (subst (AllSeen (seen_at_end ops ss)) order.1 ran.0) in
    let y_apart : depends out (dependents out ops ms.0) y ≡ false = ap (λ ns. depends out ns y) (sym ms.1)
    ∙ apart_is _ j.1.1 in
    let y_same = ended.near.same y y_seen y_apart in
    let g = ran.1.0 in
    let g' = ran.1.1 in
    let two = both_gave c t.name comb.0 comb.1.0 w t.results order.0 ended.last ended.last' out y a a' g.values
    g'.values
    (ended.stays out may.seen ∙ d.old) (ended.stays' out may.seen ∙ d.new) y_same
    (subst (λ k.
    (does c t.name k t.results (no_body t.name)
    (map ended.last (if order.0 then out ∷ (y ∷ []) else y ∷ (out ∷ [])))).answer ≡ gives g.values) comb.1.1
    (subst (λ os. (does c t.name t.kind t.results (no_body t.name) (map ended.last os)).answer
    ≡ gives g.values) order.1 g.gave))
    (subst (λ k.
    (does c t.name k t.results (no_body t.name)
    (map ended.last' (if order.0 then out ∷ (y ∷ []) else y ∷ (out ∷ [])))).answer ≡ gives g'.values) comb.1.1
    (subst (λ os. (does c t.name t.kind t.results (no_body t.name) (map ended.last' os)).answer
    ≡ gives g'.values) order.1 g'.gave)) in
    let b = two.0 in
    let number = may.known o t num at_op
    (subst (λ os. sees (seen_at_end ops ss) (only os) ≡ true) lasts may.visible) in
    let x : ended.last (Result o num) ≡ Scalar w (combined comb.0 w a b) =
    g.held (Result o num) num number ∙ ap (λ vs. item vs num) two.1.1.0.0
    ∙ first_number t.name (Scalar w (combined comb.0 w a b)) t.results o num
    (subst (λ vs. FitTypes vs t.results) two.1.1.0.0 two.1.1.1.0) number in
    let x' : ended.last' (Result o num) ≡ Scalar w (combined comb.0 w a' b) =
    g'.held (Result o num) num number ∙ ap (λ vs. item vs num) two.1.1.0.1
    ∙ first_number t.name (Scalar w (combined comb.0 w a' b)) t.results o num
    (subst (λ vs. FitTypes vs t.results) two.1.1.0.1 two.1.1.1.1) number in
    let at_brought : final c ops e y ≡ Scalar w b = ap (λ (g : Env). g y) (sym ended.is_final) ∙ y_same ∙ two.1.0 in (
      b,
      (
        at_brought,
        (
          subst IsValue two.1.0 (ended.near.value y y_seen),
          (
            ended.given ∙ ap (map ended.last) lasts ∙ ap (λ z. z ∷ []) x,
            ended.given'
                ∙ ap (λ os. gives (map ended.last' os)) lasts ∙ ap (λ z. gives (z ∷ [])) x',
          ),
        ),
      ),
    )

pub body_reduces : BodyReduces
body_reduces ops ss out may = ((brings_of out ops (found_in ss out ops may)).by, reduces)
  where
    reduces : (c : Calls) (holder : OpName) (w : Width) (a : Elem) (e : Env) (xs : List Value)
        → DifferInOut ss out w a a e e → (ops_run c holder ops e).answer ≡ gives xs
        → Reduces (brings_of out ops (found_in ss out ops may)).by c holder ops ss out w a e xs
    reduces c holder w a e xs self run =
        let here = one_run c holder ops ss out w a a e e xs may self run in
        record {
          brings = here.0;
          fits = here.1.1.0;
          gave = here.1.1.1.0;
          always = λ a' e' d.
              let there = one_run c holder ops ss out w a a' e e' xs may d run in
              let same : there.0 ≡ here.0 = ap elem_of (sym there.1.0 ∙ here.1.0) in
              there.1.1.1.1
              ∙ ap (λ b. gives
              (Scalar w (combined (brings_of out ops (found_in ss out ops may)).by w a' b) ∷ [])) same;
        }

-- a body that gives an element for one element of the out gives one for each
pub body_is_total : BodyIsTotal
body_is_total c holder ops ss out w u a a' x e e' v straight scoped lasts visible d run =
    let near : Near ss out [] e e' = record
    { like = d.like; value = d.value; same = λ v s t. d.same v s (not_own out [] v t) } in
    let ended = near_run ops out c holder (Scalar u x ∷ []) ss [] e e' straight scoped near run in
    let first : Scalar u x ≡ ended.last v = (let g = ended.given ∙ ap (map ended.last) lasts in cc) in
    let like : Like (Scalar u x) (ended.last' v) = subst (λ z. Like z (ended.last' v)) (sym first)
    (ended.near.like v visible) in
    shown (ended.last' v) like (ended.near.value v visible)
    (ended.given' ∙ ap (λ os. gives (map ended.last' os)) lasts)
  where
    shown : (z : Value) → Like (Scalar u x) z → IsValue z → (ops_run c holder ops e').answer ≡ gives (z ∷ [])
        → (x' : Elem) × (((ops_run c holder ops e').answer ≡ gives (Scalar u x' ∷ [])) × FitsWidth u x')
    shown (Scalar u' x') l f g =
        (x', (g ∙ ap (λ t. gives (Scalar t x' ∷ [])) (sym l), subst (λ t. FitsWidth t x') (sym l) f))
    shown (Tensor u' s' es') l f g = elim l [ ]
