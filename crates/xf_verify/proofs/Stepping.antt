-- The walk over the operations of a block, the regions of an operation and the functions of the root, one step on.
use Rattle.std.proofs.Common.{◌≡◌, ℕ, ◌+◌, ◌<◌, List, [], ◌∷◌, ◌++◌, length, get_or, take, drop, Option, None}
use Rattle.std.proofs.Common.{true, Bor, sym, ap, subst, ◌∙◌}
use Rattle.std.specs.Prelude.{Err, map}
use Rattle.std.specs.FinSet as set
use Rattle.std.proofs.lemmas.List.{at_drop_more, take_more}
use Rattle.xf_type.specs.declared.payload_type.PayloadType.{PayloadType}
use Rattle.xf_ir.specs.declared.name.OpName.{OpName}
use Rattle.xf_ir.specs.Tree.{Ops, no_ops, Regions, region, cons, Tree, Body}
use Rattle.xf_ir.specs.View.{ops_of, regions_of}
use Rattle.xf_ir.specs.Places.{results_of, args_of}
use Rattle.xf_ir.specs.Placed.{Holder, holder_of}
use Rattle.xf_ir.specs.Violations.{Violation}
use Rattle.xf_verify.specs.declared.fault.VerifyFault.{VerifyFault}
use Rattle.xf_verify.specs.declared.facts.Facts.{Facts}
use Rattle.xf_verify.specs.declared.scope.Definition.{Definition}
use Rattle.xf_verify.specs.declared.scope.Definition.TheVariants.{Results, Arguments}
use Rattle.xf_verify.specs.Visible.{Definitions, with_definition, without, definition_of, type_among}
use Rattle.xf_verify.specs.Judged.{Sees, sees_with, stands, all_stand, tree_stands, ops_stand, regions_stand}
use Rattle.xf_verify.specs.Judged.{functions_stand, blocks_stand, Names, Answers, first_behind, names_behind}
use Rattle.xf_verify.proofs.Defining.{results_enter, arguments_enter, left_more}
use Rattle.xf_verify.proofs.Naming.{own_inserted, kept_behind, names_both}
use Rattle.xf_verify.proofs.Walking.{stops, same_answer, goes_on}

-- ---- one operation

module _ (f : Facts) (h inner : Holder) (see next : Sees) (t : Tree) (after : Ops) (before names : Names) (hi : inner
    ≡ holder_of t.kind (map see t.operands) t.results) (si : next ≡ see) (ni : names ≡ set.insert before t.name.0)
  where
    abbrev own : Holder
    own = holder_of t.kind (map see t.operands) t.results

    inside_is : regions_stand inner next t.name 0 t.regions ≡ regions_stand own see t.name 0 t.regions
    inside_is = ap (λ x. regions_stand x next t.name 0 t.regions) hi
        ∙ ap (λ s. regions_stand own s t.name 0 t.regions) si

    pub tree_judged : first_behind f before (stands h see t after ∷ []) ≡ None
        → first_behind f before (tree_stands h see t after)
        ≡ first_behind f names (regions_stand inner next t.name 0 t.regions)
    tree_judged p =
        goes_on f before (stands h see t after ∷ []) (regions_stand own see t.name 0 t.regions) p
        ∙ ap (λ n. first_behind f n (regions_stand own see t.name 0 t.regions)) (sym ni)
        ∙ ap (first_behind f names) (sym inside_is)

    pub tree_named : names_behind names (regions_stand inner next t.name 0 t.regions)
        ≡ names_behind before (tree_stands h see t after)
    tree_named = ap (names_behind names) inside_is
        ∙ ap (λ n. names_behind n (regions_stand own see t.name 0 t.regions)) ni

    pub root_judged : first_behind f before (stands h see t no_ops ∷ []) ≡ None
        → first_behind f before (all_stand h see t) ≡ first_behind f names (blocks_stand inner next t.regions)
    root_judged p =
        goes_on f before (stands h see t no_ops ∷ []) (blocks_stand own see t.regions) p
        ∙ ap (λ n. first_behind f n (blocks_stand own see t.regions)) (sym ni)
        ∙ ap (first_behind f names) (sym (ap (λ x. blocks_stand x next t.regions) hi
        ∙ ap (λ s. blocks_stand own s t.regions) si))

-- its name is there behind it
pub own_there : (before : Names) (h : Holder) (see : Sees) (t : Tree) (after : Ops)
    → set.contains (names_behind before (tree_stands h see t after)) t.name.0 ≡ true
own_there before h see t after = kept_behind (set.insert before t.name.0) (regions_stand
    (holder_of t.kind (map see t.operands) t.results) see t.name 0 t.regions) t.name.0 (own_inserted before t.name.0)

-- ---- what is seen

pub see_results : (olds ds news : Definitions) (t : Tree) (b : Bor (List PayloadType))
    → ds ≡ olds → b.now ≡ t.results → olds t.name.0 ≡ None → news ≡ with_definition t.name.0
    (definition_of b.now (Results b)) ds
    → type_among news ≡ sees_with (results_of t.name (length t.results)) t.results (type_among olds)
see_results olds ds news t b same is new e =
    ap type_among (e ∙ ap (with_definition t.name.0 (definition_of b.now (Results b))) same)
    ∙ results_enter olds t.name b new
    ∙ ap (λ ts. sees_with (results_of t.name (length ts)) ts (type_among olds)) is

pub see_arguments : (ds news : Definitions) (n : OpName) (i : ℕ) (args : List PayloadType) (b : Bor (List PayloadType))
    → b.now ≡ args → ds n.0 ≡ None → news ≡ with_definition n.0 (definition_of b.now (Arguments i b)) ds
    → type_among news ≡ sees_with (args_of n i (length args)) args (type_among ds)
see_arguments ds news n i args b is new e =
    ap type_among e ∙ arguments_enter ds n b new i
    ∙ ap (λ ts. sees_with (args_of n i (length ts)) ts (type_among ds)) is

-- ---- operations of a block

module _ (f : Facts) (h : Holder) (ts : List Tree) (i : ℕ) (t : Tree) (is : t ≡ get_or ts i t) (lt : i < length ts)
  where
    abbrev rest : Ops
    rest = ops_of (drop (i + 1) ts)

    ops_first : {Y : Type 0} (F : Ops → Y) → F (ops_of (drop i ts)) ≡ F (cons t rest)
    ops_first F = at_drop_more (λ xs. F (ops_of xs)) ts i t lt ∙ ap (λ x. F (cons x rest)) (sym is)

    abbrev behind : Sees → Sees
    behind see = sees_with (results_of t.name (length t.results)) t.results see

    pub ops_stop : (A B : Type 0) (see : Sees) (names : Names) (e : VerifyFault) (total : Option Violation)
        → first_behind f names (ops_stand h see (ops_of (drop i ts))) ≡ total
        → Answers {A = A} (Err e) (first_behind f names (tree_stands h see t rest)) → Answers {A = B} (Err e) total
    ops_stop A B see names e total inv a =
        same_answer B B e (first_behind f names (ops_stand h see (cons t rest))) total (sym inv
        ∙ ops_first (λ o. first_behind f names (ops_stand h see o)))
        (stops A B f names (tree_stands h see t rest) (ops_stand h (behind see) rest) e a)

    pub ops_judged : (see after : Sees) (before names : Names) (total : Option Violation)
        → first_behind f before (tree_stands h see t rest) ≡ None
        → names ≡ names_behind before (tree_stands h see t rest) → after ≡ behind see
        → first_behind f before (ops_stand h see (ops_of (drop i ts))) ≡ total
        → first_behind f names (ops_stand h after rest) ≡ total
    ops_judged see after before names total p ni si inv =
        ap (λ n. first_behind f n (ops_stand h after rest)) ni
        ∙ ap (λ s. first_behind f (names_behind before (tree_stands h see t rest)) (ops_stand h s rest)) si
        ∙ sym (goes_on f before (tree_stands h see t rest) (ops_stand h (behind see) rest) p)
        ∙ sym (ops_first (λ o. first_behind f before (ops_stand h see o))) ∙ inv

    pub ops_named : (see after : Sees) (before names total : Names)
        → names ≡ names_behind before (tree_stands h see t rest)
        → after ≡ behind see → names_behind before (ops_stand h see (ops_of (drop i ts))) ≡ total
        → names_behind names (ops_stand h after rest) ≡ total
    ops_named see after before names total ni si inv =
        ap (λ n. names_behind n (ops_stand h after rest)) ni
        ∙ ap (λ s. names_behind (names_behind before (tree_stands h see t rest)) (ops_stand h s rest)) si
        ∙ sym (names_both before (tree_stands h see t rest) (ops_stand h (behind see) rest))
        ∙ sym (ops_first (λ o. names_behind before (ops_stand h see o))) ∙ inv

    pub functions_stop : (A B : Type 0) (see : Sees) (names : Names) (e : VerifyFault) (total : Option Violation)
        → first_behind f names (functions_stand h see (ops_of (drop i ts))) ≡ total
        → Answers {A = A} (Err e) (first_behind f names (tree_stands h see t rest)) → Answers {A = B} (Err e) total
    functions_stop A B see names e total inv a =
        same_answer B B e (first_behind f names (functions_stand h see (cons t rest))) total (sym inv
        ∙ ops_first (λ o. first_behind f names (functions_stand h see o)))
        (stops A B f names (tree_stands h see t rest) (functions_stand h see rest) e a)

    pub functions_judged : (see after : Sees) (before names : Names) (total : Option Violation)
        → first_behind f before (tree_stands h see t rest) ≡ None
        → names ≡ names_behind before (tree_stands h see t rest) → after ≡ see
        → first_behind f before (functions_stand h see (ops_of (drop i ts))) ≡ total
        → first_behind f names (functions_stand h after rest) ≡ total
    functions_judged see after before names total p ni si inv =
        ap (λ n. first_behind f n (functions_stand h after rest)) ni
        ∙ ap (λ s. first_behind f (names_behind before (tree_stands h see t rest)) (functions_stand h s rest)) si
        ∙ sym (goes_on f before (tree_stands h see t rest) (functions_stand h see rest) p)
        ∙ sym (ops_first (λ o. first_behind f before (functions_stand h see o))) ∙ inv

    pub functions_named : (see after : Sees) (before names total : Names)
        → names ≡ names_behind before (tree_stands h see t rest)
        → after ≡ see → names_behind before (functions_stand h see (ops_of (drop i ts))) ≡ total
        → names_behind names (functions_stand h after rest) ≡ total
    functions_named see after before names total ni si inv =
        ap (λ n. names_behind n (functions_stand h after rest)) ni
        ∙ ap (λ s. names_behind (names_behind before (tree_stands h see t rest)) (functions_stand h s rest)) si
        ∙ sym (names_both before (tree_stands h see t rest) (functions_stand h see rest))
        ∙ sym (ops_first (λ o. names_behind before (functions_stand h see o))) ∙ inv

    -- the scope without the operations so far
    pub scope_on : (d : Definition) (olds ds news total : Definitions) → ds ≡ olds → olds t.name.0 ≡ None
        → news ≡ with_definition t.name.0 (definition_of t.results d) ds → without (take i ts) olds ≡ total
        → without (take (i + 1) ts) news ≡ total
    scope_on d olds ds news total same new e inv =
        ap (λ xs. without xs news) taken
        ∙ ap (without (take i ts ++ t ∷ [])) (e ∙ ap (with_definition t.name.0 (definition_of t.results d)) same)
        ∙ left_more (take i ts) t d olds new ∙ inv
      where
        taken : take (i + 1) ts ≡ take i ts ++ t ∷ []
        taken = take_more ts i t lt ∙ ap (λ (x : Tree). take i ts ++ x ∷ []) (sym is)

-- ---- regions of an operation

module _ (f : Facts) (h : Holder) (n : OpName) (bs : List Body) (i : ℕ) (b : Body) (is : b
    ≡ get_or bs i b) (lt : i < length bs)
  where
    abbrev more : Regions
    more = regions_of (drop (i + 1) bs)

    regions_first : {Y : Type 0} (F : Regions → Y) → F (regions_of (drop i bs)) ≡ F (region b.args b.ops more)
    regions_first F =
        at_drop_more (λ xs. F (regions_of xs)) bs i b lt ∙ ap (λ (x : Body). F (region x.args x.ops more)) (sym is)

    abbrev within : Sees → Sees
    within see = sees_with (args_of n i (length b.args)) b.args see

    stand_same : (see inner : Sees) (os : Ops) → inner ≡ within see → os ≡ b.ops
        → ops_stand h inner os ≡ ops_stand h (within see) b.ops
    stand_same see inner os si oi = ap (λ s. ops_stand h s os) si ∙ ap (ops_stand h (within see)) oi

    pub regions_stop : (A B : Type 0) (see inner : Sees) (os : Ops) → inner ≡ within see
        → os ≡ b.ops → (names : Names) (e : VerifyFault) (total : Option Violation)
        → first_behind f names (regions_stand h see n i (regions_of (drop i bs))) ≡ total
        → Answers {A = A} (Err e) (first_behind f names (ops_stand h inner os)) → Answers {A = B} (Err e) total
    regions_stop A B see inner os si oi names e total inv a =
        same_answer B B e (first_behind f names (regions_stand h see n i (region b.args b.ops more))) total (sym inv
        ∙ regions_first (λ o. first_behind f names (regions_stand h see n i o)))
        (stops A B f names (ops_stand h (within see) b.ops) (regions_stand h see n (i + 1) more) e
        (subst (λ ps. Answers {A = A} (Err e) (first_behind f names ps)) (stand_same see inner os si oi) a))

    pub regions_judged : (see inner after : Sees) (os : Ops) → inner ≡ within see → os ≡ b.ops → after ≡ see
        → (before names : Names) (total : Option Violation) → first_behind f before (ops_stand h inner os) ≡ None
        → names ≡ names_behind before (ops_stand h inner os)
        → first_behind f before (regions_stand h see n i (regions_of (drop i bs))) ≡ total
        → first_behind f names (regions_stand h after n (i + 1) more) ≡ total
    regions_judged see inner after os si oi ai before names total p ni inv =
        ap (λ x. first_behind f x (regions_stand h after n (i + 1) more)) (ni
        ∙ ap (names_behind before) (stand_same see inner os si oi))
        ∙ ap (λ s. first_behind f (names_behind before (ops_stand h (within see) b.ops))
        (regions_stand h s n (i + 1) more)) ai
        ∙ sym (goes_on f before (ops_stand h (within see) b.ops) (regions_stand h see n (i + 1) more)
        (ap (first_behind f before) (sym (stand_same see inner os si oi)) ∙ p))
        ∙ sym (regions_first (λ o. first_behind f before (regions_stand h see n i o))) ∙ inv

    pub regions_named : (see inner after : Sees) (os : Ops) → inner ≡ within see → os ≡ b.ops → after ≡ see
        → (before names total : Names) → names ≡ names_behind before (ops_stand h inner os)
        → names_behind before (regions_stand h see n i (regions_of (drop i bs))) ≡ total
        → names_behind names (regions_stand h after n (i + 1) more) ≡ total
    regions_named see inner after os si oi ai before names total ni inv =
        ap (λ x. names_behind x (regions_stand h after n (i + 1) more)) (ni
        ∙ ap (names_behind before) (stand_same see inner os si oi))
        ∙ ap (λ s. names_behind (names_behind before (ops_stand h (within see) b.ops))
        (regions_stand h s n (i + 1) more)) ai
        ∙ sym (names_both before (ops_stand h (within see) b.ops) (regions_stand h see n (i + 1) more))
        ∙ sym (regions_first (λ o. names_behind before (regions_stand h see n i o))) ∙ inv

    -- ---- blocks of the root

    pub blocks_stop : (A B : Type 0) (see : Sees) (os : Ops)
        → os ≡ b.ops → (names : Names) (e : VerifyFault) (total : Option Violation)
        → first_behind f names (blocks_stand h see (regions_of (drop i bs))) ≡ total
        → Answers {A = A} (Err e) (first_behind f names (functions_stand h see os)) → Answers {A = B} (Err e) total
    blocks_stop A B see os oi names e total inv a =
        same_answer B B e (first_behind f names (blocks_stand h see (region b.args b.ops more))) total (sym inv
        ∙ regions_first (λ o. first_behind f names (blocks_stand h see o)))
        (stops A B f names (functions_stand h see b.ops) (blocks_stand h see more) e
        (subst (λ x. Answers {A = A} (Err e) (first_behind f names (functions_stand h see x))) oi a))

    pub blocks_judged : (see after : Sees) (os : Ops) → os ≡ b.ops → after ≡ see
        → (before names : Names) (total : Option Violation) → first_behind f before (functions_stand h see os) ≡ None
        → names ≡ names_behind before (functions_stand h see os)
        → first_behind f before (blocks_stand h see (regions_of (drop i bs))) ≡ total
        → first_behind f names (blocks_stand h after more) ≡ total
    blocks_judged see after os oi ai before names total p ni inv =
        ap (λ x. first_behind f x (blocks_stand h after more)) (ni
        ∙ ap (λ x. names_behind before (functions_stand h see x)) oi)
        ∙ ap (λ s. first_behind f (names_behind before (functions_stand h see b.ops)) (blocks_stand h s more)) ai
        ∙ sym (goes_on f before (functions_stand h see b.ops) (blocks_stand h see more)
        (ap (λ x. first_behind f before (functions_stand h see x)) (sym oi) ∙ p))
        ∙ sym (regions_first (λ o. first_behind f before (blocks_stand h see o))) ∙ inv
