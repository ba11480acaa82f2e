-- A product of linalg gives what its generic gives.
use Rattle.std.proofs.Common.{◌≡◌, ℕ, zero, suc, List, [], ◌∷◌, Bool, true, false, refl, sym, ap, ◌∙◌, subst, arith}
use Rattle.std.specs.Prelude.{◌==◌, get_or, if◌then◌else◌, ◌+◌}
use Rattle.xf_type.specs.declared.payload_type.PayloadType.{PayloadType}
use Rattle.xf_type.specs.declared.payload_type.PayloadType.TheVariants as type_of
use Rattle.xf_type.specs.declared.payload_type.Width.{Width}
use Rattle.xf_type.specs.declared.payload_type.Elem.{Elem}
use Rattle.xf_type.specs.declared.payload_type.Elem.TheVariants.{NoNumber}
use Rattle.xf_type.specs.declared.kind.BinKind.{BinKind}
use Rattle.xf_type.specs.declared.kind.BinKind.TheVariants as bin
use Rattle.xf_type.specs.declared.kind.Combiner.TheVariants as by
use Rattle.xf_type.specs.Integers.{FitsWidth, binary}
use Rattle.xf_type.proofs.LawLemmas.{binary_fits, combined_fits}
use Rattle.xf_type.proofs.EqualTypes.{width_itself}
use Rattle.xf_ir.specs.declared.name.OpName.{OpName}
use Rattle.xf_ir.specs.declared.name.ValueName.{ValueName}
use Rattle.xf_ir.specs.declared.name.ValueName.TheVariants.{Result, Arg}
use Rattle.xf_ir.specs.declared.kind.Kind.{Kind}
use Rattle.xf_ir.specs.declared.kind.Kind.TheVariants as kind
use Rattle.xf_ir.specs.declared.kind.NamedKind.TheVariants.{Matmul, BatchMatmul, Matvec, Dot, Fill}
use Rattle.xf_ir.specs.Lists as lists
use Rattle.xf_ir.specs.Tree.{Ops, no_ops, op, no_regions}
use Rattle.xf_ir.specs.Places.{results_of, args_of}
use Rattle.xf_points.specs.Points as points
use Rattle.xf_points.specs.Points.{Point}
use Rattle.xf_sem.specs.declared.value.Value.{Value}
use Rattle.xf_sem.specs.declared.value.Value.TheVariants.{Scalar, Tensor}
use Rattle.xf_sem.specs.Values.{IsValue, fit_types}
use Rattle.xf_sem.specs.Actions.{results, on_two, answered}
use Rattle.xf_sem.specs.Tensors.{width_of, items_of}
use Rattle.xf_sem.specs.Structured.{Frame, product_body, points_of, on_points, given}
use Rattle.xf_sem.specs.Meaning.{Env, extend, gives, Run, finish, undefined, charge, and_then, where_fit}
use Rattle.xf_sem.specs.Meaning.{elements}
use Rattle.xf_sem.specs.Meaning.{Bodies, Calls, no_body, acts, performed, does, ops_run, bodies_of}
use Rattle.xf_sem.specs.StructuredLaws.{product_block, ProductBlockGives, HasWidth, NamedIsGeneric}
use Rattle.xf_sem.proofs.Fits.{fitting_is_tested}
use Rattle.xf_sem.proofs.Points.{and_then_gives, points_give}

-- ---- an operation that has results

pub does_results : (c : Calls) (n : OpName) (k : Kind) (ts : List PayloadType) (bs : Bodies) (vs ws : List Value)
    → acts k bs.count ts vs ≡ results ws
    → (does c n k ts bs vs).answer ≡ (where_fit n ts ws (charge (points_of k vs + elements ws) (finish ws))).answer
does_results c n k ts bs vs ws h =
    ap (λ a.
    (and_then (performed c n bs a)
    (λ us. where_fit n ts us (charge (points_of k vs + elements us) (finish us)))).answer)
    h

pub gives_when : (c : Calls) (n : OpName) (k : Kind) (ts : List PayloadType) (bs : Bodies) (vs ws : List Value)
    → acts k bs.count ts vs ≡ results ws → fit_types ws ts ≡ true → (does c n k ts bs vs).answer ≡ gives ws
gives_when c n k ts bs vs ws h f =
    does_results c n k ts bs vs ws h
    ∙ ap (λ b. (if b then charge (points_of k vs + elements ws) (finish ws) else undefined n).answer) f

pub on_two_is : (w : Width) (f : Elem → Elem → Value) (a b : Elem)
    → on_two w f (Scalar w a ∷ (Scalar w b ∷ [])) ≡ results (f a b ∷ [])
on_two_is w f a b = rw (width_itself w) refl

-- ---- the block

self : (n : ℕ) → (n == n) ≡ true
self n = grind arith

-- one binary operation, and then the rest
binary_then : (k : BinKind) (w : Width) (c : Calls) (holder n : OpName) (v1 v2 : ValueName) (rest : Ops)
    (e : Env) (x y : Elem) (xs : List Value) → e v1 ≡ Scalar w x → e v2 ≡ Scalar w y → FitsWidth w x → FitsWidth w y
    → (ops_run c holder rest (extend (results_of n 1) (Scalar w (binary k w x y) ∷ []) e)).answer ≡ gives xs
    → (ops_run c holder (op n (kind.Binary k w) [] (v1 ∷ (v2 ∷ [])) (type_of.Scalar w ∷ []) no_regions rest) e).answer
    ≡ gives xs
binary_then k w c holder n v1 v2 rest e x y xs p q f g h =
    let r = Scalar w (binary k w x y) in
    let ts = type_of.Scalar w ∷ [] in
    let fit = (fitting_is_tested (r ∷ []) ts).1 ((binary_fits k w x y f g, refl), tt) in
    let one : (does c n (kind.Binary k w) ts (no_body n) (Scalar w x ∷ (Scalar w y ∷ []))).answer ≡ gives (r ∷ []) =
    gives_when c n (kind.Binary k w) ts (no_body n) (Scalar w x ∷ (Scalar w y ∷ [])) (r ∷ [])
    (on_two_is w (λ a b. Scalar w (binary k w a b)) x y) fit in
    let two : (does c n (kind.Binary k w) ts (no_body n) (e v1 ∷ (e v2 ∷ []))).answer
    ≡ gives (r ∷ []) = rw (p, q) one in
    and_then_gives (does c n (kind.Binary k w) ts (no_body n) (e v1 ∷ (e v2 ∷ []))) (r ∷ [])
    (λ vs. ops_run c holder rest (extend (results_of n 1) vs e)) two ∙ h

fitting_run : (b : Bool) (n : OpName) (r : Run (List Value)) (xs : List Value) → b ≡ true → r.answer ≡ gives xs
    → (if b then r else undefined n).answer ≡ gives xs
fitting_run true n r xs h g = g
fitting_run false n r xs h g = cc

pub product_block_gives : ProductBlockGives
product_block_gives w holder product sum yield c e x y a f g h =
    let ends = op yield kind.LinalgYield [] (Result sum 0 ∷ []) [] no_regions no_ops in
    let adds = op sum (kind.Binary bin.Addi w) [] (Arg holder 0 2 ∷ (Result product 0 ∷ [])) (type_of.Scalar w ∷ [])
    no_regions ends in
    let vs = Scalar w x ∷ (Scalar w y ∷ (Scalar w a ∷ [])) in
    let ts = type_of.Scalar w ∷ (type_of.Scalar w ∷ (type_of.Scalar w ∷ [])) in
    let e1 : Env = extend (args_of holder 0 3) vs e in
    let m = binary bin.Muli w x y in
    let e2 : Env = extend (results_of product 1) (Scalar w m ∷ []) e1 in
    let s = binary bin.Addi w a m in
    let e3 : Env = extend (results_of sum 1) (Scalar w s ∷ []) e2 in
    let arg0 : e1 (Arg holder 0 0) ≡ Scalar w x = rw (self holder.0) refl in
    let arg1 : e1 (Arg holder 0 1) ≡ Scalar w y = rw (self holder.0) refl in
    let arg2 : e2 (Arg holder 0 2) ≡ Scalar w a = rw (self holder.0) refl in
    let made : e2 (Result product 0) ≡ Scalar w m = rw (self product.0) refl in
    let last : e3 (Result sum 0) ≡ Scalar w s = rw (self sum.0) refl in
    let fm = binary_fits bin.Muli w x y f g in
    fitting_run (fit_types vs ts) holder _ _ ((fitting_is_tested vs ts).1 ((f, refl), ((g, refl), ((h, refl), tt))))
    (binary_then bin.Muli w c holder product (Arg holder 0 0) (Arg holder 0 1) adds e1 x y _ arg0 arg1 f g
    (binary_then bin.Addi w c holder sum (Arg holder 0 2) (Result product 0) ends e2 a m _ arg2 made h fm
    (ap (λ v. gives (v ∷ [])) last)))

-- ---- both ways

pub get_fits : (w : Width) (xs : List Elem) (k : ℕ) → lists.Each (FitsWidth w) xs → FitsWidth w (get_or xs k NoNumber)
get_fits w [] k h = tt
get_fits w (x ∷ xs) zero h = h.0
get_fits w (x ∷ xs) (suc k) h = get_fits w xs k h.1

pub items_fit : (v : Value) (p : Point) → IsValue v → FitsWidth (width_of v) (items_of v p)
items_fit (Scalar w a) p h = h
items_fit (Tensor w shape elems) p h = get_fits w elems _ h.1.1

pub each_point : {A : Type 0} (P : A → Type 0) (xs : List A) → lists.Each P xs → points.Each P xs
each_point P [] h = tt
each_point P (x ∷ xs) h = (h.0, each_point P xs h.1)

-- a frame of two operands and the out
two_maps : (rank : ℕ) (left right out : List ℕ) (w : Width) (x y o : Value) (holder product sum yield : OpName)
    (c : Calls) (e : Env) → HasWidth w x → HasWidth w y → HasWidth w o
    → (let f : Frame = record { rank = rank; maps = left ∷ (right ∷ []); out = out } in
    let bodies = bodies_of c holder 0 (product_block w holder product sum yield) e in
    (performed c holder bodies (on_points f (x ∷ (y ∷ [])) o)).answer
    ≡ (performed c holder bodies (answered (given f (product_body (width_of o)) (x ∷ (y ∷ [])) o))).answer)
two_maps rank left right out w x y (Scalar own a) holder product sum yield c e hx hy ho = refl
two_maps rank left right out w x y (Tensor own shape elems) holder product sum yield c e hx hy ho =
    let f : Frame = record { rank = rank; maps = left ∷ (right ∷ []); out = out } in
    let bodies = bodies_of c holder 0 (product_block w holder product sum yield) e in
    let Left : Point → Elem = (λ p. items_of x (points.at left p)) in
    let Right : Point → Elem = (λ p. items_of y (points.at right p)) in
    let fx : (p : Point)
    → FitsWidth w (Left p) = (λ p. subst (λ u. FitsWidth u (Left p)) hx.width (items_fit x _ hx.value)) in
    let fy : (p : Point) → FitsWidth w (Right p) =
    (λ p. subst (λ u. FitsWidth u (Right p)) hy.width (items_fit y _ hy.value)) in
    let own_is : own ≡ w = ho.width in
    subst
    (λ u.
    (performed c holder bodies (on_points f (x ∷ (y ∷ [])) (Tensor u shape elems))).answer
    ≡ (performed c holder bodies (answered (given f (product_body u) (x ∷ (y ∷ [])) (Tensor u shape elems)))).answer)
    (sym own_is)
    (points_give f (product_body w) (x ∷ (y ∷ [])) w shape elems c holder bodies
    (each_point (FitsWidth w) elems (subst (λ u. lists.Each (FitsWidth u) elems) own_is ho.value.1.1))
    (record {
      fits = λ p a b h. combined_fits by.Addi w a _ h (binary_fits bin.Muli w _ _ (fx p) (fy p));
      makes = λ p a b h.
          subst
          (λ u. (bodies.block 0 (Scalar u (Left p) ∷ (Scalar (width_of y) (Right p) ∷ (Scalar w a ∷ [])))).answer
          ≡ gives (Scalar w (product_body w p (Left p ∷ (Right p ∷ [])) a) ∷ [])) (sym hx.width)
          (subst
          (λ u. (bodies.block 0 (Scalar w (Left p) ∷ (Scalar u (Right p) ∷ (Scalar w a ∷ [])))).answer
          ≡ gives (Scalar w (product_body w p (Left p ∷ (Right p ∷ [])) a) ∷ [])) (sym hy.width)
          (product_block_gives w holder product sum yield c e (Left p) (Right p) a (fx p) (fy p) h));
    }))

pub named_is_generic : NamedIsGeneric
named_is_generic Matmul w x y out holder product sum yield c e is hx hy ho =
    two_maps 3 (0 ∷ (2 ∷ [])) (2 ∷ (1 ∷ [])) (0 ∷ (1 ∷ [])) w x y out holder product sum yield c e hx hy ho
named_is_generic BatchMatmul w x y out holder product sum yield c e is hx hy ho =
    two_maps 4 (0 ∷ (1 ∷ (3 ∷ []))) (0 ∷ (3 ∷ (2 ∷ []))) (0 ∷ (1 ∷ (2 ∷ []))) w x y out holder product sum yield c e hx
    hy ho
named_is_generic Matvec w x y out holder product sum yield c e is hx hy ho =
    two_maps 2 (0 ∷ (1 ∷ [])) (1 ∷ []) (0 ∷ []) w x y out holder product sum yield c e hx hy ho
named_is_generic Dot w x y out holder product sum yield c e is hx hy ho =
    two_maps 1 (0 ∷ []) (0 ∷ []) [] w x y out holder product sum yield c e hx hy ho
named_is_generic Fill w x y out holder product sum yield c e is hx hy ho = cc
