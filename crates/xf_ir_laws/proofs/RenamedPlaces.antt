-- The operations of a module under other names stand where those of the module stand, with the same types.
use Rattle.std.proofs.Common.{◌≡◌, ℕ, suc, true, false, cond, eqb, List, [], ◌∷◌, ◌++◌, length, Option, None, inl, inr}
use Rattle.std.proofs.Common.{refl, sym, ap, subst, ◌∙◌, append-nil}
use Rattle.std.specs.Prelude.{◌&&◌, map, is_some}
use Rattle.std.proofs.lemmas.Bool.{cases_Bool, eq-eqb, or_cases, or_parts, or_from}
use Rattle.std.proofs.lemmas.List.{map-append}
use Rattle.xf_type.specs.declared.payload_type.PayloadType.{PayloadType}
use Rattle.xf_ir.specs.declared.name.OpName.{OpName}
use Rattle.xf_ir.specs.declared.name.ValueName.{ValueName}
use Rattle.xf_ir.specs.declared.name.ValueName.TheVariants.{Result, Arg, Free}
use Rattle.xf_ir.specs.Lists.{Each, Once, same_name, is_among}
use Rattle.xf_ir.specs.Placed.{Typed, type_or, type_at, Holder, holder_of, Placed, ops_placed, regions_placed}
use Rattle.xf_ir.specs.Placed.{functions_placed, blocks_placed}
use Rattle.xf_ir.specs.Places.{Seen, done, inside, below, numbering_of, sees, AllSeen}
use Rattle.xf_ir.specs.Tree.{Ops, no_ops, op, Regions, no_regions, region, Tree}
use Rattle.xf_ir.specs.Valid.{OpsSee, RegionsSee, FunctionsSee}
use Rattle.xf_ir.specs.Walk.{ops_names, regions_names}
use Rattle.xf_ir.proofs.Found.{tree}
use Rattle.xf_ir_laws.proofs.Kept.{placed_at}
use Rattle.xf_ir.proofs.Lists.{name_is, own_name, among_right, each_left, each_right, each_map}
use Rattle.xf_ir.specs.Renamed.{value_renamed, ops_renamed, regions_renamed, tree_renamed}

-- ---- no two names become one

-- different names among these stay different
abbrev pub StayApart : (OpName → OpName) → List OpName → Type 0
StayApart f ns = (a b : OpName) → is_among a ns ≡ true → is_among b ns ≡ true → f a ≡ f b → a ≡ b

among_more : (m : OpName) (ns : List OpName) (n : OpName) → is_among n ns ≡ true → is_among n (m ∷ ns) ≡ true
among_more m ns n h = among_right n (m ∷ []) ns h

-- a name that is not among others is not among them under other names
not_mapped : (f : OpName → OpName) (m : OpName) (ns : List OpName)
    → ((n : OpName) → is_among n ns ≡ true → f m ≡ f n → m ≡ n) → is_among m ns ≡ false
    → is_among (f m) (map f ns) ≡ false
not_mapped f m [] h o = refl
not_mapped f m (n ∷ ns) h o =
    let p = or_parts (same_name n m) (is_among m ns) o in
    let later = not_mapped f m ns (λ x k. h x (among_more n ns x k)) p.1 in
    let own : is_among n (n ∷ ns) ≡ true = rw (own_name n) refl in
    or_from (same_name (f n) (f m)) (is_among (f m) (map f ns))
    (elim (cases_Bool (same_name (f n) (f m))) [
      | inl t ↦ absurd (let e = h n own (sym (name_is (f n) (f m) t)) in
          let y = eq-eqb n.0 m.0 (ap (λ (x : OpName). x.0) (sym e)) in let z = p.0 in cc)
      | inr g ↦ g
    ]) later

-- names that occur once do so under other names
pub once_mapped : (f : OpName → OpName) (ns : List OpName) → StayApart f ns → Once ns → Once (map f ns)
once_mapped f [] h o = tt
once_mapped f (m ∷ ns) h o =
    let own : is_among m (m ∷ ns) ≡ true = rw (own_name m) refl in (
      not_mapped f m ns (λ n k. h m n own (among_more m ns n k)) o.0,
      once_mapped f ns (λ a b k l. h a b (among_more m ns a k) (among_more m ns b l)) o.1,
    )

pub same_test : (f : OpName → OpName) (ns : List OpName) (a b : OpName) → StayApart f ns → is_among a ns ≡ true
    → is_among b ns ≡ true → eqb (f a).0 (f b).0 ≡ eqb a.0 b.0
same_test f ns a b o h k =
    elim (cases_Bool (eqb a.0 b.0)) [
      | inl t ↦ eq-eqb (f a).0 (f b).0 (ap (λ x. (f x).0) (name_is a b t)) ∙ sym t
      | inr g ↦ elim (cases_Bool (eqb (f a).0 (f b).0)) [
        | inl t ↦ absurd (let e = o a b h k (name_is (f a) (f b) t) in let y = eq-eqb a.0 b.0 (ap (λ x. x.0) e) in cc)
        | inr t ↦ t ∙ sym g
      ]
    ]

-- each name is among its list
pub each_among : (ns : List OpName) → Each (λ n. is_among n ns ≡ true) ns
each_among [] = tt
each_among (m ∷ ns) =
    let e = own_name m in (
      rw e refl,
      each_map (λ n. is_among n ns ≡ true) (λ n. is_among n (m ∷ ns)
          ≡ true) ns (among_more m ns) (each_among ns),
    )

-- ---- names of trees

mutual
  pub ops_names_renamed : (f : OpName → OpName) (ops : Ops) → ops_names (ops_renamed f ops) ≡ map f (ops_names ops)
  ops_names_renamed f no_ops = refl
  ops_names_renamed f (op n k ds os ts rs rest) =
      let a = regions_names_renamed f rs in
      let b = ops_names_renamed f rest in
      ap (λ ns. f n ∷ ns) ((λ i. a i ++ b i) ∙ sym (map-append f (regions_names rs) (ops_names rest)))

  pub regions_names_renamed : (f : OpName → OpName) (rs : Regions)
      → regions_names (regions_renamed f rs) ≡ map f (regions_names rs)
  regions_names_renamed f no_regions = refl
  regions_names_renamed f (region args ops rest) =
      let a = ops_names_renamed f ops in
      let b = regions_names_renamed f rest in
      (λ i. a i ++ b i) ∙ sym (map-append f (ops_names ops) (regions_names rest))

-- ---- where operations stand

-- an operation where it stands, under other names
abbrev pub placed_renamed : (OpName → OpName) → Placed → Placed
placed_renamed f p = placed_at p.holder p.types (tree_renamed f p.tree) (ops_renamed f p.after)

-- a value of one of these operations
abbrev pub IsOf : List OpName → ValueName → Type 0
IsOf all (Result o num) = is_among o all ≡ true
IsOf all (Arg o r num) = is_among o all ≡ true
IsOf all (Free num) = Unit {0}

abbrev pub owner : Seen → OpName
owner (done n count) = n
owner (inside n i count) = n

-- each place is one of these operations'
abbrev pub Owned : List OpName → List Seen → Type 0
Owned all ss = Each (λ s. is_among (owner s) all ≡ true) ss

of_place : (all : List OpName) (s : Seen) (v : ValueName) → is_among (owner s) all ≡ true
    → is_some (numbering_of s v) ≡ true → IsOf all v
of_place all (done n count) (Result o num) h k =
    elim (cases_Bool (eqb o.0 n.0)) [
      | inl t ↦ subst (λ m. is_among m all ≡ true) (sym (name_is o n t)) h
      | inr f ↦ absurd (let z = rw f at k in cc)
    ]
of_place all (done n count) (Arg o r num) h k = absurd (cc)
of_place all (done n count) (Free num) h k = tt
of_place all (inside n i count) (Result o num) h k = absurd (cc)
of_place all (inside n i count) (Arg o r num) h k =
    elim (cases_Bool (eqb o.0 n.0)) [
      | inl t ↦ subst (λ m. is_among m all ≡ true) (sym (name_is o n t)) h
      | inr f ↦ absurd (let z = rw f at k in cc)
    ]
of_place all (inside n i count) (Free num) h k = tt

of_seen : (all : List OpName) (ss : List Seen) (v : ValueName) → Owned all ss → sees ss v ≡ true → IsOf all v
of_seen all [] v w h = absurd (cc)
of_seen all (s ∷ ss) v w h = elim (or_cases (is_some (numbering_of s v)) (sees ss v) h) [
  | inl t ↦ of_place all s v w.0 t
  | inr t ↦ of_seen all ss v w.1 t
]

-- visible values are those of operations that are known
pub all_of : (all : List OpName) (ss : List Seen) (vs : List ValueName) → Owned all ss → AllSeen ss vs
    → Each (IsOf all) vs
all_of all ss [] w h = tt
all_of all ss (v ∷ vs) w h = (of_seen all ss v w h.0, all_of all ss vs w h.1)

module _ (f : OpName → OpName) (all : List OpName) (stay : StayApart f all) where
  abbrev seen_renamed : Seen → Seen
  seen_renamed (done n count) = done (f n) count
  seen_renamed (inside n i count) = inside (f n) i count

  place_same : (s : Seen) (v : ValueName) → is_among (owner s) all ≡ true → IsOf all v
      → numbering_of (seen_renamed s) (value_renamed f v) ≡ numbering_of s v
  place_same (done n count) (Result o num) h k = ap (λ b. cond b (below num count) None) (same_test f all o n stay k h)
  place_same (done n count) (Arg o r num) h k = refl
  place_same (done n count) (Free num) h k = refl
  place_same (inside n i count) (Result o num) h k = refl
  place_same (inside n i count) (Arg o r num) h k =
      ap (λ b. cond (b && eqb r i) (below num count) None) (same_test f all o n stay k h)
  place_same (inside n i count) (Free num) h k = refl

  -- values have the same types under other names
  abbrev Same : Typed → Typed → Type 0
  Same env env' = (v : ValueName) → IsOf all v → type_at env' (value_renamed f v) ≡ type_at env v

  same_more : (env env' : Typed) (s : Seen) (ts : List PayloadType) → is_among (owner s) all ≡ true → Same env env'
      → Same ((s, ts) ∷ env) ((seen_renamed s, ts) ∷ env')
  same_more env env' s ts h same v k =
      let a = place_same s v h k in
      let b = same v k in
      λ i. type_or (a i) ts (b i)

  types_same : (env env' : Typed) (vs : List ValueName) → Same env env' → Each (IsOf all) vs
      → map (type_at env') (map (value_renamed f) vs) ≡ map (type_at env) vs
  types_same env env' [] same k = refl
  types_same env env' (v ∷ vs) same k =
      let a = same v k.0 in
      let b = types_same env env' vs same k.1 in
      λ i. a i ∷ b i

  -- one operation, with what it holds and what stands behind it
  one_again : (h : Holder) (types types' : List (Option PayloadType)) (t : Tree) (rest : Ops)
      (inner inner' later later' : List Placed)
      → types' ≡ types → inner' ≡ map (placed_renamed f) inner → later' ≡ map (placed_renamed f) later
      → placed_at h types' (tree_renamed f t) (ops_renamed f rest) ∷ (inner' ++ later')
      ≡ map (placed_renamed f) (placed_at h types t rest ∷ (inner ++ later))
  one_again h types types' t rest inner inner' later later' q a b =
      (λ i. placed_at h (q i) (tree_renamed f t) (ops_renamed f rest) ∷ (a i ++ b i))
      ∙ ap (λ ps. placed_renamed f (placed_at h types t rest) ∷ ps) (sym (map-append (placed_renamed f) inner later))

  mutual
    ops_again : (ss : List Seen) (h : Holder) (env env' : Typed) (ops : Ops)
        → Owned all ss → Same env env' → Each (λ n. is_among n all ≡ true) (ops_names ops) → OpsSee ss ops
        → ops_placed h env' (ops_renamed f ops) ≡ map (placed_renamed f) (ops_placed h env ops)
    ops_again ss h env env' no_ops w same e see = refl
    ops_again ss h env env' (op n k ds os ts rs rest) w same e see =
        let P : OpName → Type 0 = λ n. is_among n all ≡ true in
        let q = types_same env env' os same (all_of all ss os w see.0) in
        let e_in = each_left P (regions_names rs) (ops_names rest) e.1 in
        let e_behind = each_right P (regions_names rs) (ops_names rest) e.1 in
        let a = regions_again ss (holder_of k (map (type_at env) os) ts) env env' n 0 rs w same e.0 e_in see.1.0 in
        let a' = ap (λ types. regions_placed (holder_of k types ts) env' (f n) 0 (regions_renamed f rs)) q ∙ a in
        let b = ops_again (done n (length ts) ∷ ss) h ((done n (length ts), ts) ∷ env) ((done (f n) (length ts), ts)
        ∷ env') rest (e.0, w) (same_more env env' (done n (length ts)) ts e.0 same) e_behind see.1.1 in
        one_again h _ _ (tree n k ds os ts rs) rest _ _ _ _ q a' b

    regions_again : (ss : List Seen) (h : Holder) (env env' : Typed) (n : OpName) (i : ℕ) (rs : Regions)
        → Owned all ss → Same env env' → is_among n all ≡ true → Each (λ n. is_among n all ≡ true) (regions_names rs)
        → RegionsSee ss n i rs
        → regions_placed h env' (f n) i (regions_renamed f rs) ≡ map (placed_renamed f) (regions_placed h env n i rs)
    regions_again ss h env env' n i no_regions w same o e see = refl
    regions_again ss h env env' n i (region args ops rest) w same o e see =
        let P : OpName → Type 0 = λ n. is_among n all ≡ true in
        let e_in = each_left P (ops_names ops) (regions_names rest) e in
        let e_behind = each_right P (ops_names ops) (regions_names rest) e in
        let d = inside n i (length args) in
        let a = ops_again (d ∷ ss) h ((d, args) ∷ env) ((inside (f n) i (length args), args) ∷ env') ops (
          o,
          w,
        ) (same_more env env' d args o same) e_in see.0 in
        let b = regions_again ss h env env' n (suc i) rest w same o e_behind see.1 in
        (λ j. a j ++ b j) ∙ sym
        (map-append (placed_renamed f) (ops_placed h ((d, args) ∷ env) ops) (regions_placed h env n (suc i) rest))

  functions_again : (h : Holder) (fs : Ops) → Each (λ n. is_among n all ≡ true) (ops_names fs) → FunctionsSee fs
      → functions_placed h (ops_renamed f fs) ≡ map (placed_renamed f) (functions_placed h fs)
  functions_again h no_ops e see = refl
  functions_again h (op n k ds os ts rs rest) e see =
      let P : OpName → Type 0 = λ n. is_among n all ≡ true in
      let q = types_same [] [] os (λ v k. refl) (all_of all [] os tt see.0) in
      let e_in = each_left P (regions_names rs) (ops_names rest) e.1 in
      let e_behind = each_right P (regions_names rs) (ops_names rest) e.1 in
      let a = regions_again [] (holder_of k (map (type_at []) os) ts) [] [] n 0 rs tt (λ v k. refl) e.0 e_in see.1.0 in
      let a' = ap (λ types. regions_placed (holder_of k types ts) [] (f n) 0 (regions_renamed f rs)) q ∙ a in
      let b = functions_again h rest e_behind see.1.1 in
      one_again h _ _ (tree n k ds os ts rs) rest _ _ _ _ q a' b

  -- the functions of the one block of a module
  pub block_again : (h : Holder) (fs : Ops) → Each (λ n. is_among n all ≡ true) (ops_names fs) → FunctionsSee fs
      → blocks_placed h (regions_renamed f (region [] fs no_regions))
      ≡ map (placed_renamed f) (blocks_placed h (region [] fs no_regions))
  block_again h fs e see = append-nil (functions_placed h (ops_renamed f fs)) ∙ functions_again h fs e see
      ∙ ap (map (placed_renamed f)) (sym (append-nil (functions_placed h fs)))

pub no_types : (f : OpName → OpName) (vs : List ValueName)
    → map (type_at []) (map (value_renamed f) vs) ≡ map (type_at []) vs
no_types f [] = refl
no_types f (v ∷ vs) = ap (λ ts. None ∷ ts) (no_types f vs)
