-- The body of a reduction joins the element of the out with what does not depend on it.
use Rattle.std.proofs.Common.{◌≡◌, ℕ, zero, suc, List, [], ◌∷◌, Option, Some, None, Bool, true, false, refl, sym, ap}
use Rattle.std.proofs.Common.{◌∙◌, subst, arith}
use Rattle.std.proofs.lemmas.Bool.{or_parts, or_right}
use Rattle.std.specs.Prelude.{length, map, ◌==◌, ◌||◌, is_some, if◌then◌else◌}
use Rattle.xf_type.specs.declared.payload_type.PayloadType.{PayloadType}
use Rattle.xf_ir.specs.declared.name.OpName.{OpName}
use Rattle.xf_ir.specs.declared.name.ValueName.{ValueName}
use Rattle.xf_ir.specs.declared.name.ValueName.TheVariants.{Result, Arg, Free}
use Rattle.xf_ir.specs.declared.kind.Kind.{Kind}
use Rattle.xf_ir.specs.declared.kind.Kind.TheVariants as kind
use Rattle.xf_ir.specs.declared.kind.Attr.{Attr}
use Rattle.xf_ir.specs.Kinds.{is_arith, is_terminator}
use Rattle.xf_ir.specs.Lists.{Each, some, same_name, is_among}
use Rattle.xf_ir.specs.Tree.{Ops, no_ops, op, Regions, no_regions, Tree}
use Rattle.xf_ir.specs.Walk.{first_of, ops_find, regions_find}
use Rattle.xf_ir.specs.Uses.{same_value}
use Rattle.xf_ir.specs.Places.{Numbering, below, results_of, Seen, done, numbering_of, sees, AllSeen, IsFresh}
use Rattle.xf_ir.specs.Places.{OpsScoped}
use Rattle.xf_ir.specs.RuleLinalg.{depends, dependents}
use Rattle.xf_sem.specs.declared.value.Value.{Value}
use Rattle.xf_sem.specs.Values.{IsValue}
use Rattle.xf_sem.specs.Meaning.{Env, item, item_or, extend, Answer, gives, fails, Run, finish, and_then, no_body}
use Rattle.xf_sem.specs.Meaning.{Calls, does, ops_run, bodies_of}
use Rattle.xf_sem.proofs.Leads.{went}
use Rattle.xf_sem.proofs.Copying.{some_or}
use Rattle.xf_sem.proofs.Surroundings.{unmoved}
use Rattle.xf_sem.proofs.Points.{and_then_gives}
use Rattle.xf_structured.specs.Bodies.{HasRun, Like, Straight, last_operands, seen_at_end}
use Rattle.xf_structured.proofs.Arith.{AllLike, LikeResult, arith_like}

-- ---- two environments that are alike, and equal where nothing depends on the out

pub record Near (ss : List Seen) (out : ValueName) (ns : List OpName) (e e' : Env) : Type 0 where
  pub like : (v : ValueName) → sees ss v ≡ true → Like (e v) (e' v)
  pub value : (v : ValueName) → sees ss v ≡ true → IsValue (e' v)
  pub same : (v : ValueName) → sees ss v ≡ true → depends out ns v ≡ false → e v ≡ e' v

arith_goes : (k : Kind) → is_arith k ≡ true → is_terminator k ≡ false
arith_goes kind.Return h = cc
arith_goes kind.Yield h = cc
arith_goes kind.LinalgYield h = cc
arith_goes _ h = refl

all_like : (ss : List Seen) (out : ValueName) (ns : List OpName) (e e' : Env) (os : List ValueName)
    → Near ss out ns e e' → AllSeen ss os → AllLike (map e os) (map e' os)
all_like ss out ns e e' [] q h = tt
all_like ss out ns e e' (v ∷ os) q h = (q.like v h.0, all_like ss out ns e e' os q h.1)

all_values : (ss : List Seen) (out : ValueName) (ns : List OpName) (e e' : Env) (os : List ValueName)
    → Near ss out ns e e' → AllSeen ss os → Each IsValue (map e' os)
all_values ss out ns e e' [] q h = tt
all_values ss out ns e e' (v ∷ os) q h = (q.value v h.0, all_values ss out ns e e' os q h.1)

all_same : (ss : List Seen) (out : ValueName) (ns : List OpName) (e e' : Env) (os : List ValueName)
    → Near ss out ns e e' → AllSeen ss os → some (depends out ns) os ≡ false → map e os ≡ map e' os
all_same ss out ns e e' [] q h d = refl
all_same ss out ns e e' (v ∷ os) q h d =
    let p = or_parts (depends out ns v) (some (depends out ns) os) d in
    let a = q.same v h.0 p.0 in
    let b = all_same ss out ns e e' os q h.1 p.1 in cc

item_like : (ws ws' : List Value) (i : ℕ) → AllLike ws ws' → Like (item ws i) (item ws' i)
item_like [] [] i h = refl
item_like [] (w' ∷ ws') i h = elim h [ ]
item_like (w ∷ ws) [] i h = elim h [ ]
item_like (w ∷ ws) (w' ∷ ws') zero h = h.0
item_like (w ∷ ws) (w' ∷ ws') (suc i) h = item_like ws ws' i h.1

item_value : (ws : List Value) (i : ℕ) → Each IsValue ws → IsValue (item ws i)
item_value [] i h = tt
item_value (w ∷ ws) zero h = h.0
item_value (w ∷ ws) (suc i) h = item_value ws i h.1

-- ---- dependence

depends_less : (out : ValueName) (n : OpName) (ns : List OpName) (v : ValueName) → depends out (n ∷ ns) v ≡ false
    → depends out ns v ≡ false
depends_less out n ns (Result o num) h =
    let p = or_parts (same_value out (Result o num)) (is_among o (n ∷ ns)) h in
    let q = or_parts (same_name n o) (is_among o ns) p.1 in
    rw (p.0, q.1) refl
depends_less out n ns (Arg o r num) h = h
depends_less out n ns (Free num) h = h

depends_fewer : (b : Bool) (out : ValueName) (n : OpName) (ns : List OpName) (v : ValueName)
    → depends out (if b then n ∷ ns else ns) v ≡ false → depends out ns v ≡ false
depends_fewer true out n ns v h = depends_less out n ns v h
depends_fewer false out n ns v h = h

same_number : (a b : ℕ) → (a == b) ≡ true → (b == a) ≡ true
same_number a b h = grind arith

result_name : (n : OpName) (count : ℕ) (o : OpName) (num i : ℕ) → results_of n count (Result o num) ≡ Some i
    → (o.0 == n.0) ≡ true
result_name n count o num i h = cases (o.0 == n.0) refl h
  where
    cases : (b : Bool) → (o.0 == n.0) ≡ b → (if b then below num count else None) ≡ Some i → b ≡ true
    cases true e h = refl
    cases false e h = cc

-- the results of an operation that is among those that depend
own_depends : (out : ValueName) (n : OpName) (count : ℕ) (ns : List OpName) (v : ValueName) (i : ℕ)
    → results_of n count v ≡ Some i → depends out (n ∷ ns) v ≡ true
own_depends out n count ns (Result o num) i h =
    let a : same_name n o ≡ true = same_number o.0 n.0 (result_name n count o num i h) in
    or_right (same_value out (Result o num)) (same_name n o || is_among o ns) (rw a refl)
own_depends out n count ns (Arg o r num) i h = cc
own_depends out n count ns (Free num) i h = cc

near_extend : (ss : List Seen) (out : ValueName) (ns : List OpName) (e e' : Env) (n : OpName) (count : ℕ)
    (ws ws' : List Value) (b : Bool)
    → Near ss out ns e e' → AllLike ws ws' → Each IsValue ws' → (b ≡ false → ws ≡ ws')
    → Near (done n count ∷ ss) out (if b then n ∷ ns else ns) (extend (results_of n count) ws e)
    (extend (results_of n count) ws' e')
near_extend ss out ns e e' n count ws ws' b q l f s = record {
  like = λ v h. likes (results_of n count v) (sees ss v) v h (q.like v);
  value = λ v h. values (results_of n count v) (sees ss v) v h (q.value v);
  same =
      λ v h d. sames (results_of n count v) (sees ss v) v h (λ t. q.same v t (depends_fewer b out n ns v d))
      (λ i r. s (other b v i r d));
}
  where
    likes : (o : Option ℕ) (seen : Bool) (v : ValueName) → (is_some o || seen) ≡ true
        → (seen ≡ true → Like (e v) (e' v)) → Like (item_or o ws (e v)) (item_or o ws' (e' v))
    likes None seen v h g = g h
    likes (Some i) seen v h g = item_like ws ws' i l

    values : (o : Option ℕ) (seen : Bool) (v : ValueName) → (is_some o || seen) ≡ true
        → (seen ≡ true → IsValue (e' v)) → IsValue (item_or o ws' (e' v))
    values None seen v h g = g h
    values (Some i) seen v h g = item_value ws' i f

    sames : (o : Option ℕ) (seen : Bool) (v : ValueName) → (is_some o || seen) ≡ true → (seen ≡ true → e v ≡ e' v)
        → ((i : ℕ) → o ≡ Some i → ws ≡ ws') → item_or o ws (e v) ≡ item_or o ws' (e' v)
    sames None seen v h g k = g h
    sames (Some i) seen v h g k = ap (λ us. item us i) (k i refl)

    other : (b : Bool) (v : ValueName) (i : ℕ) → results_of n count v ≡ Some i
        → depends out (if b then n ∷ ns else ns) v ≡ false → b ≡ false
    other true v i r d = (let t = own_depends out n count ns v i r in cc)
    other false v i r d = refl

-- ---- the body, run in two such environments

-- the environment behind an operation that is defined
abbrev pub after : Answer (List Value) → Numbering → Env → Env
after (gives ws) p e = extend p ws e
after (fails n) p e = e

-- the environment at the last operation
abbrev pub final : Calls → Ops → Env → Env
final c no_ops e = e
final c (op n k ds os ts rs no_ops) e = e
final c (op n k ds os ts rs (op n' k' ds' os' ts' rs' rest')) e =
    final c (op n' k' ds' os' ts' rs' rest')
    (after (does c n k ts (no_body n) (map e os)).answer (results_of n (length ts)) e)

pub record Ended (c : Calls) (holder : OpName) (ss : List Seen) (out : ValueName) (ns : List OpName) (ops : Ops)
    (e e' : Env) (xs : List Value) : Type 0 where
  pub last : Env
  pub last' : Env
  pub is_final : last ≡ final c ops e
  pub given : xs ≡ map last (last_operands ops)
  pub given' : (ops_run c holder ops e').answer ≡ gives (map last' (last_operands ops))
  pub near : Near (seen_at_end ops ss) out (dependents out ops ns) last last'
  pub stays : (v : ValueName) → sees ss v ≡ true → last v ≡ e v
  pub stays' : (v : ValueName) → sees ss v ≡ true → last' v ≡ e' v
  pub ran : (o : OpName) (t : Tree) → ops_find o ops ≡ Some t → is_arith t.kind ≡ true
      → AllSeen (seen_at_end ops ss) t.operands × (HasRun c last t × HasRun c last' t)

if_ends : {A : Type 0} (b : Bool) (x y : Run A) (z : A) → b ≡ false → (if b then x else y).answer ≡ gives z → y.answer
    ≡ gives z
if_ends true x y z h g = cc
if_ends false x y z h g = g

into_ends : {A : Type 0} (b : Bool) (x y : Run A) (z : A) → b ≡ false → y.answer ≡ gives z
    → (if b then x else y).answer ≡ gives z
into_ends true x y z h g = cc
into_ends false x y z h g = g

all_stay : (ss : List Seen) (f e : Env) (os : List ValueName) → ((v : ValueName) → sees ss v ≡ true → f v ≡ e v)
    → AllSeen ss os → map f os ≡ map e os
all_stay ss f e [] g h = refl
all_stay ss f e (v ∷ os) g h = let a = g v h.0 in let b = all_stay ss f e os g h.1 in cc

more_seen : (d : Seen) (ss : List Seen) (v : ValueName) → sees ss v ≡ true → sees (d ∷ ss) v ≡ true
more_seen d ss v h = or_right (is_some (numbering_of d v)) (sees ss v) h

yield_gives : (c : Calls) (holder n : OpName) (k : Kind) (ds : List Attr) (os : List ValueName)
    (ts : List PayloadType) (rs : Regions) (e : Env) → k ≡ kind.LinalgYield
    → (ops_run c holder (op n k ds os ts rs no_ops) e).answer ≡ gives (map e os)
yield_gives c holder n k ds os ts rs e h = rw h refl

seen_end : (ops : Ops) (ss : List Seen) (v : ValueName) → sees ss v ≡ true → sees (seen_at_end ops ss) v ≡ true
seen_end no_ops ss v h = h
seen_end (op n k ds os ts rs no_ops) ss v h = h
seen_end (op n k ds os ts rs (op n' k' ds' os' ts' rs' rest')) ss v h =
    seen_end (op n' k' ds' os' ts' rs' rest') (done n (length ts) ∷ ss) v (more_seen (done n (length ts)) ss v h)

all_at_end : (ops : Ops) (ss : List Seen) (os : List ValueName) → AllSeen ss os → AllSeen (seen_at_end ops ss) os
all_at_end ops ss [] h = tt
all_at_end ops ss (v ∷ os) h = (seen_end ops ss v h.0, all_at_end ops ss os h.1)

all_more : (d : Seen) (ss : List Seen) (os : List ValueName) → AllSeen ss os → AllSeen (d ∷ ss) os
all_more d ss [] h = tt
all_more d ss (v ∷ os) h = (more_seen d ss v h.0, all_more d ss os h.1)

-- what is to be shown of operations
abbrev pub RunsNear : ValueName → Calls → OpName → List Value → Ops → Type 0
RunsNear out c holder xs ops =
    (ss : List Seen) (ns : List OpName) (e e' : Env) → Straight ops → OpsScoped ss ops → Near ss out ns e e'
    → (ops_run c holder ops e).answer ≡ gives xs → Ended c holder ss out ns ops e e' xs

-- behind the first of several operations
module _ (n : OpName) (k : Kind) (ds : List Attr) (os : List ValueName) (ts : List PayloadType) (rs : Regions)
    (n' : OpName) (k' : Kind) (ds' : List Attr) (os' : List ValueName) (ts' : List PayloadType) (rs' : Regions)
    (rest' : Ops)
    (ss : List Seen) (out : ValueName) (ns : List OpName) (c : Calls) (holder : OpName) (e e' : Env)
    (xs ws : List Value) where
  behind_first : LikeResult c n k ts (no_body n) (map e' os) ws → rs ≡ no_regions → is_arith k ≡ true → AllSeen ss os
      → IsFresh ss (results_of n (length ts)) → OpsScoped (done n (length ts) ∷ ss) (op n' k' ds' os' ts' rs' rest')
      → Near ss out ns e e' → (does c n k ts (no_body n) (map e os)).answer ≡ gives ws
      → Straight (op n' k' ds' os' ts' rs' rest')
      → (ops_run c holder (op n' k' ds' os' ts' rs' rest') (extend (results_of n (length ts)) ws e)).answer ≡ gives xs
      → RunsNear out c holder xs (op n' k' ds' os' ts' rs' rest')
      → Ended c holder ss out ns (op n k ds os ts rs (op n' k' ds' os' ts' rs' rest')) e e' xs
  behind_first l r s h fresh scoped q g straight run ih =
      let p = results_of n (length ts) in
      let ss1 = done n (length ts) ∷ ss in
      let b = some (depends out ns) os in
      let ws' = l.0 in
      let equal : b ≡ false → ws ≡ ws' = (λ d.
      let a = all_same ss out ns e e' os q h d in
      let m = ap (λ vs. (does c n k ts (no_body n) vs).answer) a in
      let t = l.1.0 in cc) in
      let i = ih ss1 (if b then n ∷ ns else ns) (extend p ws e) (extend p ws' e') straight scoped
      (near_extend ss out ns e e' n (length ts) ws ws' b q l.1.1.0 l.1.1.1 equal) run in
      let stays : (v : ValueName) → sees ss v ≡ true → i.last v
      ≡ e v = (λ v t. i.stays v (more_seen (done n (length ts)) ss v t) ∙ unmoved ss p ws e v fresh t) in
      let stays' : (v : ValueName) → sees ss v ≡ true → i.last' v
      ≡ e' v = (λ v t. i.stays' v (more_seen (done n (length ts)) ss v t) ∙ unmoved ss p ws' e' v fresh t) in
      let here : HasRun c i.last
      (record { name = n; kind = k; attrs = ds; operands = os; results = ts; regions = rs }) = record {
        values = ws;
        gave = ap (λ vs. (does c n k ts (no_body n) vs).answer) (all_stay ss i.last e os stays h) ∙ g;
        held = λ v j u. i.stays v (some_or (p v) (sees ss v) j u) ∙ (rw u refl);
      } in
      let here' : HasRun c i.last'
      (record { name = n; kind = k; attrs = ds; operands = os; results = ts; regions = rs }) = record {
        values = ws';
        gave = ap (λ vs. (does c n k ts (no_body n) vs).answer) (all_stay ss i.last' e' os stays' h) ∙ l.1.0;
        held = λ v j u. i.stays' v (some_or (p v) (sees ss v) j u) ∙ (rw u refl);
      } in
      record {
        last = i.last;
        last' = i.last';
        is_final = i.is_final ∙ ap (λ z. final c (op n' k' ds' os' ts' rs' rest') (after z p e)) (sym g);
        given = i.given;
        given' = into_ends (is_terminator k) (finish (map e' os)) _ _ (arith_goes k s)
            (subst (λ us.
            (and_then (does c n k ts (bodies_of c n 0 us e') (map e' os))
            (λ vs. ops_run c holder (op n' k' ds' os' ts' rs' rest') (extend p vs e'))).answer
            ≡ gives (map i.last' (last_operands (op n' k' ds' os' ts' rs' rest')))) (sym r)
            (and_then_gives (does c n k ts (no_body n) (map e' os)) ws'
            (λ vs. ops_run c holder (op n' k' ds' os' ts' rs' rest') (extend p vs e')) l.1.0 ∙ i.given'));
        near = i.near;
        stays = stays;
        stays' = stays';
        ran = λ o t f a. found (n.0 == o.0) o t
            (subst (λ us. first_of
            (if n.0 == o.0
            then Some (record { name = n; kind = k; attrs = ds; operands = os; results = ts; regions = rs })
            else regions_find o us) (ops_find o (op n' k' ds' os' ts' rs' rest'))
            ≡ Some t) r f) a i.last i.last'
            (all_at_end (op n' k' ds' os' ts' rs' rest') ss1 os
            (all_more (done n (length ts)) ss os h)) here here' (i.ran o t);
      }
    where
      found : (b : Bool) (o : OpName) (t : Tree)
          → first_of
          (if b then Some (record { name = n; kind = k; attrs = ds; operands = os; results = ts; regions = rs })
          else None) (ops_find o (op n' k' ds' os' ts' rs' rest')) ≡ Some t → is_arith t.kind ≡ true
          → (f f' : Env) → AllSeen (seen_at_end (op n' k' ds' os' ts' rs' rest') (done n (length ts) ∷ ss)) os
          → HasRun c f (record { name = n; kind = k; attrs = ds; operands = os; results = ts; regions = rs })
          → HasRun c f' (record { name = n; kind = k; attrs = ds; operands = os; results = ts; regions = rs })
          → (ops_find o (op n' k' ds' os' ts' rs' rest') ≡ Some t → is_arith t.kind ≡ true
          → AllSeen (seen_at_end (op n' k' ds' os' ts' rs' rest') (done n (length ts) ∷ ss)) t.operands
          × (HasRun c f t × HasRun c f' t))
          → AllSeen (seen_at_end (op n' k' ds' os' ts' rs' rest') (done n (length ts) ∷ ss)) t.operands
          × (HasRun c f t × HasRun c f' t)
      found true o t u a f f' x h h' later =
          (let m : record { name = n; kind = k; attrs = ds; operands = os; results = ts; regions = rs } ≡ t = cc in
          subst (λ (z : Tree). AllSeen
          (seen_at_end (op n' k' ds' os' ts' rs' rest') (done n (length ts) ∷ ss)) z.operands
          × (HasRun c f z × HasRun c f' z)) m (x, (h, h')))
      found false o t u a f f' x h h' later = later u a

one_more : (n : OpName) (k : Kind) (ds : List Attr) (os : List ValueName) (ts : List PayloadType) (rs : Regions)
    (rest : Ops) (out : ValueName) (c : Calls) (holder : OpName) (xs : List Value)
    → RunsNear out c holder xs rest → RunsNear out c holder xs (op n k ds os ts rs rest)
one_more n k ds os ts rs no_ops out c holder xs ih ss ns e e' s h q g = record {
  last = e;
  last' = e';
  is_final = refl;
  given = (let y = yield_gives c holder n k ds os ts rs e s.0 in cc);
  given' = yield_gives c holder n k ds os ts rs e' s.0;
  near =
      record {
        like = q.like;
        value = q.value;
        same = λ v t d. q.same v t
            (depends_fewer (some (depends out ns) os) out n ns v d);
      };
  stays = λ v t. refl;
  stays' = λ v t. refl;
  ran =
      λ o t f a. no_yield (n.0 == o.0) o t
      (subst (λ us. first_of
      (if n.0 == o.0
      then Some (record { name = n; kind = k; attrs = ds; operands = os; results = ts; regions = rs })
      else regions_find o us) None ≡ Some t) s.1 f) a;
}
  where
    no_yield : (b : Bool) (o : OpName) (t : Tree)
        → first_of
        (if b then Some (record { name = n; kind = k; attrs = ds; operands = os; results = ts; regions = rs })
        else None) None ≡ Some t → is_arith t.kind ≡ true → AllSeen ss t.operands × (HasRun c e t × HasRun c e' t)
    no_yield true o t f a =
        (let m : k ≡ t.kind = cc in
        let w : kind.LinalgYield ≡ t.kind = sym s.0 ∙ m in
        let u : is_arith kind.LinalgYield ≡ true = ap is_arith w ∙ a in cc)
    no_yield false o t f a = cc
one_more n k ds os ts rs (op n' k' ds' os' ts' rs' rest') out c holder xs ih ss ns e e' s h q g =
    let rest = op n' k' ds' os' ts' rs' rest' in
    let p = results_of n (length ts) in
    let g0 : (and_then (does c n k ts (bodies_of c n 0 rs e) (map e os))
    (λ vs. ops_run c holder rest (extend p vs e))).answer
    ≡ gives xs = if_ends (is_terminator k) (finish (map e os)) _ xs (arith_goes k s.0) g in
    let g1 : (and_then (does c n k ts (no_body n) (map e os)) (λ vs. ops_run c holder rest (extend p vs e))).answer
    ≡ gives xs =
    subst (λ us.
    (and_then (does c n k ts (bodies_of c n 0 us e) (map e os))
    (λ vs. ops_run c holder rest (extend p vs e))).answer ≡ gives xs) s.1.0 g0 in
    let a = does c n k ts (no_body n) (map e os) in
    let w = went a.units a.answer (λ vs. ops_run c holder rest (extend p vs e)) xs g1 in
    let l = arith_like k c n ts (no_body n) (map e os) (map e' os) w.0 s.0 (all_like ss out ns e e' os q h.0)
    (all_values ss out ns e e' os q h.0) w.1.0 in
    behind_first n k ds os ts rs n' k' ds' os' ts' rs' rest' ss out ns c holder e e' xs w.0 l s.1.0 s.0 h.0 h.1.0
    h.1.1.1 q w.1.0 s.1.1 w.1.1 ih

pub near_run : (ops : Ops) (out : ValueName) (c : Calls) (holder : OpName) (xs : List Value)
    → RunsNear out c holder xs ops
near_run no_ops out c holder xs = λ ss ns e e' s h q g. elim s [ ]
near_run (op n k ds os ts rs rest) out c holder xs =
    one_more n k ds os ts rs rest out c holder xs (near_run rest out c holder xs)
