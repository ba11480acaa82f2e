-- The walk over operations, one step on.
use Rattle.std.proofs.Common.{◌≡◌, ℕ, ◌+◌, List, [], ◌∷◌, ◌++◌, Option, None, Some, Bool, true, false, refl, sym, ap}
use Rattle.std.proofs.Common.{subst, ◌∙◌}
use Rattle.std.specs.Prelude.{Result, Ok, Err, OnOk, option_map, if◌then◌else◌}
use Rattle.std.specs.FinSet as set
use Rattle.xf_ir.specs.Walk.{first_of}
use Rattle.xf_ir.specs.Placed.{Placed}
use Rattle.xf_ir.specs.declared.rule.Rule.{Rule}
use Rattle.xf_ir.specs.Violations.{Violation, Kept, first_false, broken_or}
use Rattle.xf_verify.specs.declared.fault.VerifyFault.{VerifyFault}
use Rattle.xf_verify.specs.declared.fault.VerifyFault.TheVariants as fault
use Rattle.xf_verify.specs.declared.facts.Facts.{Facts}
use Rattle.xf_verify.specs.Answers.{fault_of}
use Rattle.xf_verify.specs.Judged.{Names, Answers, first_behind, names_behind, rules_behind}

-- ---- the first violation of operations, and then of others

broken_first : (o : Option Rule) (n : _) (a b : Option Violation)
    → broken_or o n (first_of a b) ≡ first_of (broken_or o n a) b
broken_first None n a b = refl
broken_first (Some r) n a b = refl

pub first_both : (f : Facts) (names : Names) (ps qs : List Placed)
    → first_behind f names (ps ++ qs) ≡ first_of (first_behind f names ps) (first_behind f (names_behind names ps) qs)
first_both f names [] qs = refl
first_both f names (p ∷ ps) qs =
    ap (broken_or (first_false (rules_behind f names p)) p.tree.name)
    (first_both f (set.insert names p.tree.name.0) ps qs)
    ∙ broken_first (first_false (rules_behind f names p)) p.tree.name
    (first_behind f (set.insert names p.tree.name.0) ps) _

-- a fault that stops at some operations stops at these before others
stopped : (A B : Type 0) (e : VerifyFault) (v w : Option Violation) → Answers {A = A} (Err e) v
    → Answers {A = B} (Err e) (first_of v w)
stopped A B (fault.Rule n name) None w h = absurd (cc)
stopped A B (fault.Rule n name) (Some v) w h = h
stopped A B fault.NoMemory v w h = tt

pub stops : (A B : Type 0) (f : Facts) (names : Names) (ps qs : List Placed) (e : VerifyFault)
    → Answers {A = A} (Err e) (first_behind f names ps) → Answers {A = B} (Err e) (first_behind f names (ps ++ qs))
stops A B f names ps qs e h =
    subst (Answers {A = B} (Err e)) (sym (first_both f names ps qs)) (stopped A B e (first_behind f names ps) _ h)

pub same_answer : (A B : Type 0) (e : VerifyFault) (v w : Option Violation) → w ≡ v → Answers {A = A} (Err e) v
    → Answers {A = B} (Err e) w
same_answer A B (fault.Rule n name) v w p h = ap (option_map fault_of) p ∙ h
same_answer A B fault.NoMemory v w p h = tt

-- what passes leaves what comes behind
pub goes_on : (f : Facts) (names : Names) (ps qs : List Placed) → first_behind f names ps ≡ None
    → first_behind f names (ps ++ qs) ≡ first_behind f (names_behind names ps) qs
goes_on f names ps qs h = first_both f names ps qs ∙ ap (λ v. first_of v (first_behind f (names_behind names ps) qs)) h

-- ---- the rules of one operation, in parts

stop_one : (b : Bool) (r k : Rule) (xs ys : Option Rule) → (Some r ≡ xs → Some r ≡ ys)
    → Some r ≡ (if b then xs else Some k) → Some r ≡ (if b then ys else Some k)
stop_one true r k xs ys f h = f h
stop_one false r k xs ys f h = h

-- the first broken rule is in the first part
pub stop_in : (r : Rule) (bs cs : List Kept) → Some r ≡ first_false bs → Some r ≡ first_false (bs ++ cs)
stop_in r [] cs h = absurd (cc)
stop_in r (x ∷ bs) cs h = stop_one x.1 r x.0 (first_false bs) (first_false (bs ++ cs)) (stop_in r bs cs) h

pass_one : (b : Bool) (k : Rule) (xs ys zs : Option Rule) → (xs ≡ None → ys ≡ zs) → (if b then xs else Some k) ≡ None
    → (if b then ys else Some k) ≡ zs
pass_one true k xs ys zs f h = f h
pass_one false k xs ys zs f h = absurd (cc)

-- the first part is kept
pub pass_on : (bs cs : List Kept) → first_false bs ≡ None → first_false (bs ++ cs) ≡ first_false cs
pass_on [] cs h = refl
pass_on (x ∷ bs) cs h = pass_one x.1 x.0 (first_false bs) (first_false (bs ++ cs)) (first_false cs) (pass_on bs cs) h

-- ---- answers

pub on_ok : {A E : Type 0} (r : Result A E) (P Q : Type 0) → (P → Q) → OnOk r P → OnOk r Q
on_ok (Ok x) P Q f h = f h
on_ok (Err e) P Q f h = tt

pub ok_is : {A : Type 0} (r : Result A VerifyFault) (v : Option Violation) (P : Type 0) → Answers {A = A} r v
    → (v ≡ None → P) → OnOk r P
ok_is (Ok x) v P h f = f h
ok_is (Err e) v P h f = tt
