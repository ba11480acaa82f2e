-- An arith operation on values that are alike but for their elements.
use Rattle.std.proofs.Common.{◌≡◌, ◌⊎◌, ℕ, List, [], ◌∷◌, Bool, true, false, refl, sym, ap, ◌∙◌, subst, inl, inr}
use Rattle.std.specs.Prelude.{◌+◌, ◌&&◌, if◌then◌else◌}
use Rattle.xf_type.specs.declared.payload_type.PayloadType.{PayloadType}
use Rattle.xf_type.specs.declared.payload_type.PayloadType.TheVariants as type_of
use Rattle.xf_type.specs.declared.payload_type.Width.{Width}
use Rattle.xf_type.specs.declared.payload_type.Width.TheVariants.{I1}
use Rattle.xf_type.specs.declared.payload_type.Elem.{Elem}
use Rattle.xf_type.specs.Integers.{FitsWidth, binary, compared, converted, selected}
use Rattle.xf_type.proofs.EqualTypes.{width_itself, width_is}
use Rattle.xf_type.proofs.LawLemmas.{binary_fits, compared_fits, converted_fits, selected_fits}
use Rattle.xf_ir.specs.declared.name.OpName.{OpName}
use Rattle.xf_ir.specs.declared.kind.Kind.{Kind}
use Rattle.xf_ir.specs.declared.kind.Kind.TheVariants as kind
use Rattle.xf_ir.specs.Kinds.{is_arith}
use Rattle.xf_ir.specs.Lists.{Each}
use Rattle.xf_sem.specs.declared.value.Value.{Value}
use Rattle.xf_sem.specs.declared.value.Value.TheVariants.{Scalar, Tensor}
use Rattle.xf_type.specs.Equal.{same_width}
use Rattle.xf_sem.specs.Values.{IsValue, FitTypes, fit_types}
use Rattle.xf_sem.specs.Actions.{results, is_undefined, on_one, on_two, on_choice}
use Rattle.xf_sem.specs.Structured.{points_of}
use Rattle.xf_sem.specs.Meaning.{acts, gives, fails, finish, undefined, charge, and_then, where_fit, elements, does}
use Rattle.xf_sem.specs.Meaning.{Calls, Bodies, performed}
use Rattle.xf_structured.specs.Bodies.{Like}
use Rattle.xf_sem.proofs.Fits.{fit_types_says, fitting_is_tested}
use Rattle.xf_sem.proofs.Leads.{given_fits}
use Rattle.xf_sem.proofs.Products.{does_results, gives_when, on_two_is}

abbrev pub AllLike : List Value → List Value → Type 0
AllLike [] [] = Unit {0}
AllLike [] (v' ∷ vs') = ⊥
AllLike (v ∷ vs) [] = ⊥
AllLike (v ∷ vs) (v' ∷ vs') = Like v v' × AllLike vs vs'

pub like_self : (v : Value) → Like v v
like_self (Scalar w a) = refl
like_self (Tensor w s es) = (refl, refl)

all_like_self : (vs : List Value) → AllLike vs vs
all_like_self [] = tt
all_like_self (v ∷ vs) = (like_self v, all_like_self vs)

-- ---- what an operation gives that has results

pub does_undefined : (c : Calls) (n : OpName) (k : Kind) (ts : List PayloadType) (bs : Bodies) (vs : List Value)
    → acts k bs.count ts vs ≡ is_undefined → (does c n k ts bs vs).answer ≡ fails n
does_undefined c n k ts bs vs h =
    ap (λ a. (and_then (performed c n bs a)
    (λ us. where_fit n ts us (charge (points_of k vs + elements us) (finish us)))).answer) h

fit_parts : (b : Bool) (u : ℕ) (n : OpName) (ws us : List Value)
    → (if b then charge u (finish ws) else undefined n).answer ≡ gives us → (b ≡ true) × (ws ≡ us)
fit_parts true u n ws us h = (refl, cc)
fit_parts false u n ws us h = cc

pub gave : (c : Calls) (n : OpName) (k : Kind) (ts : List PayloadType) (bs : Bodies) (vs ws us : List Value)
    → acts k bs.count ts vs ≡ results ws → (does c n k ts bs vs).answer ≡ gives us → (fit_types ws ts ≡ true)
    × (ws ≡ us)
gave c n k ts bs vs ws us h g =
    fit_parts (fit_types ws ts) (points_of k vs + elements ws) n ws us (sym (does_results c n k ts bs vs ws h) ∙ g)

-- a scalar fits where another of its width does
fits_too : (w : Width) (x x' : Elem) (ts : List PayloadType) → FitTypes (Scalar w x ∷ []) ts → FitsWidth w x'
    → FitTypes (Scalar w x' ∷ []) ts
fits_too w x x' [] h f = elim h [ ]
fits_too w x x' (type_of.Scalar wanted ∷ []) h f = ((f, h.0.1), tt)
fits_too w x x' (type_of.Tensor wanted ∷ []) h f = elim h.0.1 [ ]
fits_too w x x' (type_of.Scalar wanted ∷ (t ∷ ts)) h f = elim h.1 [ ]
fits_too w x x' (type_of.Tensor wanted ∷ (t ∷ ts)) h f = elim h.1 [ ]

each_value : (ws : List Value) (ts : List PayloadType) → FitTypes ws ts → Each IsValue ws
each_value [] [] h = tt
each_value [] (t ∷ ts) h = elim h [ ]
each_value (w ∷ ws) [] h = elim h [ ]
each_value (w ∷ ws) (t ∷ ts) h = (h.0.0, each_value ws ts h.1)

-- ---- operands that are scalars of the widths

abbrev pub TwoScalars : Width → List Value → Type 0
TwoScalars w vs = (a : Elem) × ((b : Elem) × (vs ≡ Scalar w a ∷ (Scalar w b ∷ [])))

pub two_scalars : (w : Width) (f : Elem → Elem → Value) (vs : List Value) → TwoScalars w vs
    ⊎ (on_two w f vs ≡ is_undefined)
two_scalars w f (Scalar l a ∷ (Scalar r b ∷ [])) = cases (same_width l w) (same_width r w) refl refl
  where
    cases : (x y : Bool) → same_width l w ≡ x → same_width r w ≡ y
        → ((a' : Elem) × ((b' : Elem) × (Scalar l a ∷ (Scalar r b ∷ []) ≡ Scalar w a' ∷ (Scalar w b' ∷ []))))
        ⊎ ((if x && y then results (f a b ∷ []) else is_undefined) ≡ is_undefined)
    cases true true p q = inl (a, (b, (let u = width_is l w p in let v = width_is r w q in cc)))
    cases true false p q = inr refl
    cases false y p q = inr refl
two_scalars w f _ = inr refl

like_two : (w : Width) (a b : Elem) (vs' : List Value) → AllLike (Scalar w a ∷ (Scalar w b ∷ [])) vs'
    → Each IsValue vs' → (a' : Elem)
    × ((b' : Elem) × ((vs' ≡ Scalar w a' ∷ (Scalar w b' ∷ [])) × (FitsWidth w a' × FitsWidth w b')))
like_two w a b (Scalar l a' ∷ (Scalar r b' ∷ [])) h f = (
  a',
  (
    b',
    (
      (let u = h.0 in let v = h.1.0 in cc),
      (subst (λ z. FitsWidth z a') (sym h.0) f.0, subst (λ z. FitsWidth z b') (sym h.1.0) f.1.0),
    ),
  ),
)
like_two w a b [] h f = elim h [ ]
like_two w a b (Scalar l a' ∷ []) h f = elim h.1 [ ]
like_two w a b (Tensor l s es ∷ vs') h f = elim h.0 [ ]
like_two w a b (Scalar l a' ∷ (Tensor r s es ∷ vs')) h f = elim h.1.0 [ ]
like_two w a b (Scalar l a' ∷ (Scalar r b' ∷ (v ∷ vs'))) h f = elim h.1.1 [ ]

-- ---- results that are alike

abbrev pub LikeResult : Calls → OpName → Kind → List PayloadType → Bodies → List Value → List Value → Type 0
LikeResult c n k ts bs vs' ws =
    (ws' : List Value) × (((does c n k ts bs vs').answer ≡ gives ws') × (AllLike ws ws' × Each IsValue ws'))

scalar_like : (c : Calls) (n : OpName) (k : Kind) (ts : List PayloadType) (bs : Bodies) (vs vs' ws : List Value)
    (u : Width) (x x' : Elem)
    → acts k bs.count ts vs ≡ results (Scalar u x ∷ []) → acts k bs.count ts vs' ≡ results (Scalar u x' ∷ [])
    → FitsWidth u x' → (does c n k ts bs vs).answer ≡ gives ws → LikeResult c n k ts bs vs' ws
scalar_like c n k ts bs vs vs' ws u x x' p q f g =
    let a = gave c n k ts bs vs (Scalar u x ∷ []) ws p g in
    let t = (fitting_is_tested (Scalar u x' ∷ []) ts).1
    (fits_too u x x' ts (fit_types_says (Scalar u x ∷ []) ts a.0) f) in (
      Scalar u x' ∷ [],
      (
        gives_when c n k ts bs vs' (Scalar u x' ∷ []) q t,
        (subst (λ zs. AllLike zs (Scalar u x' ∷ [])) a.1 (refl, tt), (f, tt)),
      ),
    )

two_like : (c : Calls) (n : OpName) (k : Kind) (ts : List PayloadType) (bs : Bodies) (vs vs' ws : List Value)
    (w u : Width) (g : Elem → Elem → Elem)
    → ((zs : List Value) → acts k bs.count ts zs ≡ on_two w (λ a b. Scalar u (g a b)) zs)
    → ((a b : Elem) → FitsWidth w a → FitsWidth w b → FitsWidth u (g a b))
    → AllLike vs vs' → Each IsValue vs' → (does c n k ts bs vs).answer ≡ gives ws → LikeResult c n k ts bs vs' ws
two_like c n k ts bs vs vs' ws w u g is fits like values h = cases (two_scalars w (λ a b. Scalar u (g a b)) vs)
  where
    cases : ((a : Elem) × ((b : Elem) × (vs ≡ Scalar w a ∷ (Scalar w b ∷ []))))
        ⊎ (on_two w (λ a b. Scalar u (g a b)) vs ≡ is_undefined) → LikeResult c n k ts bs vs' ws
    cases (inl s) =
        let t = like_two w s.0 s.1.0 vs' (subst (λ z. AllLike z vs') s.1.1 like) values in
        scalar_like c n k ts bs vs vs' ws u (g s.0 s.1.0) (g t.0 t.1.0)
        (is vs ∙ ap (on_two w (λ a b. Scalar u (g a b))) s.1.1 ∙ on_two_is w (λ a b. Scalar u (g a b)) s.0 s.1.0)
        (is vs' ∙ ap (on_two w (λ a b. Scalar u (g a b))) t.1.1.0 ∙ on_two_is w (λ a b. Scalar u (g a b)) t.0 t.1.0)
        (fits t.0 t.1.0 t.1.1.1.0 t.1.1.1.1) h
    cases (inr s) = (let e = does_undefined c n k ts bs vs (is vs ∙ s) in cc)

one_like : (c : Calls) (n : OpName) (k : Kind) (ts : List PayloadType) (bs : Bodies) (vs vs' ws : List Value)
    (w u : Width) (g : Elem → Elem)
    → ((zs : List Value) → acts k bs.count ts zs ≡ on_one w (λ a. Scalar u (g a)) zs)
    → ((a : Elem) → FitsWidth w a → FitsWidth u (g a))
    → AllLike vs vs' → Each IsValue vs' → (does c n k ts bs vs).answer ≡ gives ws → LikeResult c n k ts bs vs' ws
one_like c n k ts bs (Scalar l a ∷ []) (Scalar l' a' ∷ []) ws w u g is fits like values h = cases (same_width l w) refl
  where
    cases : (x : Bool) → same_width l w ≡ x → LikeResult c n k ts bs (Scalar l' a' ∷ []) ws
    cases true p =
        let q : same_width l' w ≡ true = ap (λ z. same_width z w) (sym like.0) ∙ p in
        let e : l' ≡ w = width_is l' w q in
        scalar_like c n k ts bs (Scalar l a ∷ []) (Scalar l' a' ∷ []) ws u (g a) (g a')
        (is (Scalar l a ∷ []) ∙ ap (λ x. if x then results (Scalar u (g a) ∷ []) else is_undefined) p)
        (is (Scalar l' a' ∷ []) ∙ ap (λ x. if x then results (Scalar u (g a') ∷ []) else is_undefined) q)
        (fits a' (subst (λ z. FitsWidth z a') e values.0)) h
    cases false p =
        (let e = does_undefined c n k ts bs (Scalar l a ∷ [])
        (is (Scalar l a ∷ []) ∙ ap (λ x. if x then results (Scalar u (g a) ∷ []) else is_undefined) p) in cc)
one_like c n k ts bs (Scalar l a ∷ []) [] ws w u g is fits like values h = elim like [ ]
one_like c n k ts bs (Scalar l a ∷ []) (Tensor l' s' es' ∷ vs') ws w u g is fits like values h = elim like.0 [ ]
one_like c n k ts bs (Scalar l a ∷ []) (Scalar l' a' ∷ (v' ∷ vs')) ws w u g is fits like values h = elim like.1 [ ]
one_like c n k ts bs [] vs' ws w u g is fits like values h = (let e = does_undefined c n k ts bs [] (is []) in cc)
one_like c n k ts bs (Tensor l s es ∷ vs) vs' ws w u g is fits like values h =
    (let e = does_undefined c n k ts bs (Tensor l s es ∷ vs) (is (Tensor l s es ∷ vs)) in cc)
one_like c n k ts bs (Scalar l a ∷ (v ∷ vs)) vs' ws w u g is fits like values h =
    (let e = does_undefined c n k ts bs (Scalar l a ∷ (v ∷ vs)) (is (Scalar l a ∷ (v ∷ vs))) in cc)

abbrev ThreeScalars : Width → List Value → Type 0
ThreeScalars w vs = (x : Elem) × ((a : Elem) × ((b : Elem) × (vs ≡ Scalar I1 x ∷ (Scalar w a ∷ (Scalar w b ∷ [])))))

three_scalars : (w : Width) (vs : List Value) → ThreeScalars w vs ⊎ (on_choice w vs ≡ is_undefined)
three_scalars w (Scalar o x ∷ (Scalar l a ∷ (Scalar r b ∷ []))) =
    cases (same_width o I1) (same_width l w) (same_width r w) refl refl refl
  where
    cases : (i j k : Bool) → same_width o I1 ≡ i → same_width l w ≡ j → same_width r w ≡ k
        → ((x' : Elem)
        × ((a' : Elem)
        × ((b' : Elem)
        × (Scalar o x ∷ (Scalar l a ∷ (Scalar r b ∷ [])) ≡ Scalar I1 x' ∷ (Scalar w a' ∷ (Scalar w b' ∷ []))))))
        ⊎ ((if i && (j && k) then results (Scalar w (selected x a b) ∷ []) else is_undefined) ≡ is_undefined)
    cases true true true p q s =
        inl (x, (a, (b, (let u = width_is o I1 p in let v = width_is l w q in let t = width_is r w s in cc))))
    cases true true false p q s = inr refl
    cases true false k p q s = inr refl
    cases false j k p q s = inr refl
three_scalars w _ = inr refl

like_three : (w : Width) (x a b : Elem) (vs' : List Value)
    → AllLike (Scalar I1 x ∷ (Scalar w a ∷ (Scalar w b ∷ []))) vs' → Each IsValue vs'
    → (x' : Elem)
    × ((a' : Elem)
    × ((b' : Elem) × ((vs' ≡ Scalar I1 x' ∷ (Scalar w a' ∷ (Scalar w b' ∷ []))) × (FitsWidth w a' × FitsWidth w b'))))
like_three w x a b [] h f = elim h [ ]
like_three w x a b (Tensor l s es ∷ vs') h f = elim h.0 [ ]
like_three w x a b (Scalar o x' ∷ vs') h f =
    let t = like_two w a b vs' h.1 f.1 in
    (x', (t.0, (t.1.0, ((let u = h.0 in let v = t.1.1.0 in cc), t.1.1.1))))

choice_like : (c : Calls) (n : OpName) (ts : List PayloadType) (bs : Bodies) (vs vs' ws : List Value) (w : Width)
    → AllLike vs vs' → Each IsValue vs' → (does c n (kind.Select w) ts bs vs).answer ≡ gives ws
    → LikeResult c n (kind.Select w) ts bs vs' ws
choice_like c n ts bs vs vs' ws w like values h = cases (three_scalars w vs)
  where
    at_three : (x a b : Elem) → on_choice w (Scalar I1 x ∷ (Scalar w a ∷ (Scalar w b ∷ [])))
        ≡ results (Scalar w (selected x a b) ∷ [])
    at_three x a b = rw (width_itself w) refl

    cases : ((x : Elem) × ((a : Elem) × ((b : Elem) × (vs ≡ Scalar I1 x ∷ (Scalar w a ∷ (Scalar w b ∷ []))))))
        ⊎ (on_choice w vs ≡ is_undefined) → LikeResult c n (kind.Select w) ts bs vs' ws
    cases (inl s) =
        let t = like_three w s.0 s.1.0 s.1.1.0 vs' (subst (λ z. AllLike z vs') s.1.1.1 like) values in
        scalar_like c n (kind.Select w) ts bs vs vs' ws w (selected s.0 s.1.0 s.1.1.0) (selected t.0 t.1.0 t.1.1.0)
        (ap (on_choice w) s.1.1.1 ∙ at_three s.0 s.1.0 s.1.1.0)
        (ap (on_choice w) t.1.1.1.0 ∙ at_three t.0 t.1.0 t.1.1.0)
        (selected_fits w t.0 t.1.0 t.1.1.0 t.1.1.1.1.0 t.1.1.1.1.1) h
    cases (inr s) = (let e = does_undefined c n (kind.Select w) ts bs vs s in cc)

-- an arith operation that is defined is so on operands that are alike, with results that are alike
pub arith_like : (k : Kind) (c : Calls) (n : OpName) (ts : List PayloadType) (bs : Bodies) (vs vs' ws : List Value)
    → is_arith k ≡ true → AllLike vs vs' → Each IsValue vs' → (does c n k ts bs vs).answer ≡ gives ws
    → LikeResult c n k ts bs vs' ws
arith_like (kind.Constant width bits) c n ts bs vs vs' ws a l v h = (
  ws,
  (
    h,
    (
      all_like_self ws,
      each_value ws ts
          (fit_types_says ws ts (given_fits c n (kind.Constant width bits) ts bs vs ws h)),
    ),
  ),
)
arith_like (kind.Dense shape numbers) c n ts bs vs vs' ws a l v h = (
  ws,
  (
    h,
    (
      all_like_self ws,
      each_value ws ts
          (fit_types_says ws ts (given_fits c n (kind.Dense shape numbers) ts bs vs ws h)),
    ),
  ),
)
arith_like (kind.Binary which width) c n ts bs vs vs' ws a l v h =
    two_like c n (kind.Binary which width) ts bs vs vs' ws width width (binary which width) (λ zs. refl)
    (binary_fits which width) l v h
arith_like (kind.Compare which width) c n ts bs vs vs' ws a l v h =
    two_like c n (kind.Compare which width) ts bs vs vs' ws width I1 (compared which width) (λ zs. refl)
    (λ a b p q. compared_fits which width a b) l v h
arith_like (kind.Select width) c n ts bs vs vs' ws a l v h = choice_like c n ts bs vs vs' ws width l v h
arith_like (kind.Convert which from to) c n ts bs vs vs' ws a l v h =
    one_like c n (kind.Convert which from to) ts bs vs vs' ws from to (converted which from to) (λ zs. refl)
    (λ a p. converted_fits which from to a) l v h
arith_like _ c n ts bs vs vs' ws a l v h = cc
