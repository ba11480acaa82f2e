-- Values that become visible, and that no longer are.
use Rattle.std.proofs.Common.{◌≡◌, ℕ, suc, ◌-◌, ◌<◌, List, [], ◌∷◌, ◌++◌, length, Bool, true, false, eqb, Option, None}
use Rattle.std.proofs.Common.{Some, Bor, get_or, drop, ◌+◌, refl, sym, ap, subst, ◌∙◌, arith, append_assoc}
use Rattle.std.specs.Prelude.{if◌then◌else◌, nat_lt, slice_get, ◌||◌, ◌&&◌, map}
use Rattle.std.proofs.lemmas.Bool.{eqb-true, ltb-false}
use Rattle.std.proofs.lemmas.Option.{slice_get_past}
use Rattle.std.proofs.lemmas.List.{at_drop_more}
use Rattle.std.specs.Option.{option_copied}
use Rattle.xf_type.specs.declared.payload_type.PayloadType.{PayloadType}
use Rattle.xf_ir.specs.declared.name.OpName.{OpName}
use Rattle.xf_ir.specs.declared.name.ValueName.{ValueName}
use Rattle.xf_ir.specs.declared.name.ValueName.TheVariants.{Result, Arg, Free}
use Rattle.xf_ir.specs.Tree.{Tree}
use Rattle.xf_ir.specs.Lists.{some}
use Rattle.xf_ir.specs.Places.{below, results_of, args_of}
use Rattle.xf_ir.specs.Placed.{type_or, type_at}
use Rattle.xf_ir.specs.Types.{last_type}
use Rattle.xf_verify.specs.declared.scope.Definition.{Definition}
use Rattle.xf_verify.specs.declared.scope.Definition.TheVariants.{Results, Arguments}
use Rattle.xf_verify.specs.Visible.{Definitions, no_definitions, with_definition, without, result_type, argument_type}
use Rattle.xf_verify.specs.Visible.{type_among, has_types, definition_of}
use Rattle.xf_rules.specs.OperandTypes.{operand_type, operand_types}
use Rattle.xf_verify.specs.Judged.{Sees, sees_with}

pub same_definitions : (f g : Definitions) → ((q : ℕ) → f q ≡ g q) → f ≡ g
same_definitions f g h = λ i q. h q i

pub same_sees : (f g : Sees) → ((v : ValueName) → f v ≡ g v) → f ≡ g
same_sees f g h = λ i v. h v i

-- ---- the types that are seen

-- an item where it is there, and else what there is already
item_or : (ts : List PayloadType) (i : ℕ) (later : Option PayloadType) → later ≡ None
    → slice_get ts i ≡ type_or (below i (length ts)) ts later
item_or ts i later e = item_at ts i later e (nat_lt i (length ts)) refl
  where
    item_at : (ts : List PayloadType) (i : ℕ) (later : Option PayloadType) → later ≡ None → (b : Bool)
        → nat_lt i (length ts) ≡ b → slice_get ts i ≡ type_or (if b then Some i else None) ts later
    item_at ts i later e true h = refl
    item_at ts i later e false h = slice_get_past ts i (ltb-false i (length ts) h) ∙ sym e

at_own : (ds : Definitions) (n o : OpName) → ds n.0 ≡ None → eqb o.0 n.0 ≡ true → ds o.0 ≡ None
at_own ds n o e h = ap ds (eqb-true o.0 n.0 h) ∙ e

-- the types of values that become visible, of which there may be none
result_of : (xs : List PayloadType) (ts : Bor (List PayloadType)) (i : ℕ) → ts.now ≡ xs
    → result_type (definition_of xs (Results ts)) i ≡ slice_get xs i
result_of [] ts i e = refl
result_of (x ∷ xs) ts i e = ap (λ l. slice_get l i) e

no_argument : (xs : List PayloadType) (ts : Bor (List PayloadType)) (r i : ℕ)
    → argument_type (definition_of xs (Results ts)) r i ≡ None
no_argument [] ts r i = refl
no_argument (x ∷ xs) ts r i = refl

no_result : (s : ℕ) (xs : List PayloadType) (ts : Bor (List PayloadType)) (i : ℕ)
    → result_type (definition_of xs (Arguments s ts)) i ≡ None
no_result s [] ts i = refl
no_result s (x ∷ xs) ts i = refl

argument_of : (s : ℕ) (xs : List PayloadType) (ts : Bor (List PayloadType)) (r i : ℕ) (b : Bool) → ts.now ≡ xs
    → eqb r s ≡ b → argument_type (definition_of xs (Arguments s ts)) r i ≡ (if b then slice_get xs i else None)
argument_of s [] ts r i true e h = refl
argument_of s [] ts r i false e h = refl
argument_of s (x ∷ xs) ts r i b e h = (λ j. if h j then slice_get (e j) i else None)

module _ (ds : Definitions) (n : OpName) (ts : Bor (List PayloadType)) (new : ds n.0 ≡ None)
  where
    result_here : (o : OpName) (i : ℕ) (b : Bool) → eqb o.0 n.0 ≡ b →
        result_type (if b then definition_of ts.now (Results ts) else ds o.0) i
        ≡ type_or (if b then below i (length ts.now) else None) ts.now (result_type (ds o.0) i)
    result_here o i true h = result_of ts.now ts i refl
        ∙ item_or ts.now i (result_type (ds o.0) i) (ap (λ d. result_type d i) (at_own ds n o new h))
    result_here o i false h = refl

    argument_there : (o : OpName) (r i : ℕ) (b : Bool) → eqb o.0 n.0 ≡ b
        → argument_type (if b then definition_of ts.now (Results ts) else ds o.0) r i ≡ argument_type (ds o.0) r i
    argument_there o r i true h =
        no_argument ts.now ts r i ∙ sym (ap (λ d. argument_type d r i) (at_own ds n o new h))
    argument_there o r i false h = refl

    -- results of an operation become visible
    pub results_enter : type_among (with_definition n.0 (definition_of ts.now (Results ts)) ds)
        ≡ sees_with (results_of n (length ts.now)) ts.now (type_among ds)
    results_enter = same_sees _ _ (at_value)
      where
        at_value : (v : ValueName) → type_among (with_definition n.0 (definition_of ts.now (Results ts)) ds) v
            ≡ sees_with (results_of n (length ts.now)) ts.now (type_among ds) v
        at_value (Result o i) = result_here o i (eqb o.0 n.0) refl
        at_value (Arg o r i) = argument_there o r i (eqb o.0 n.0) refl
        at_value (Free i) = refl

    result_there : (s : ℕ) (o : OpName) (i : ℕ) (b : Bool) → eqb o.0 n.0 ≡ b
        → result_type (if b then definition_of ts.now (Arguments s ts) else ds o.0) i ≡ result_type (ds o.0) i
    result_there s o i true h = no_result s ts.now ts i ∙ sym (ap (λ d. result_type d i) (at_own ds n o new h))
    result_there s o i false h = refl

    argument_here : (s : ℕ) (o : OpName) (r i : ℕ) (b : Bool) → eqb o.0 n.0 ≡ b →
        argument_type (if b then definition_of ts.now (Arguments s ts) else ds o.0) r i
        ≡ type_or (if (b && eqb r s) then below i (length ts.now) else None) ts.now (argument_type (ds o.0) r i)
    argument_here s o r i true h = argument_of s ts.now ts r i (eqb r s) refl refl ∙ inside s o r i h (eqb r s)
      where
        inside : (s : ℕ) (o : OpName) (r i : ℕ) → eqb o.0 n.0 ≡ true → (c : Bool) →
            (if c then slice_get ts.now i else None)
            ≡ type_or (if c then below i (length ts.now) else None) ts.now (argument_type (ds o.0) r i)
        inside s o r i h true =
            item_or ts.now i (argument_type (ds o.0) r i) (ap (λ d. argument_type d r i) (at_own ds n o new h))
        inside s o r i h false = sym (ap (λ d. argument_type d r i) (at_own ds n o new h))
    argument_here s o r i false h = refl

    -- arguments of a block become visible
    pub arguments_enter : (s : ℕ) → type_among (with_definition n.0 (definition_of ts.now (Arguments s ts)) ds)
        ≡ sees_with (args_of n s (length ts.now)) ts.now (type_among ds)
    arguments_enter s = same_sees _ _ (at_value s)
      where
        at_value : (s : ℕ) (v : ValueName) → type_among (with_definition n.0 (definition_of ts.now (Arguments s ts))
            ds) v
            ≡ sees_with (args_of n s (length ts.now)) ts.now (type_among ds) v
        at_value s (Result o i) = result_there s o i (eqb o.0 n.0) refl
        at_value s (Arg o r i) = argument_here s o r i (eqb o.0 n.0) refl
        at_value s (Free i) = refl

-- nothing is seen where nothing is visible
pub nothing_seen : type_among no_definitions ≡ type_at []
nothing_seen = same_sees _ _ at_value
  where
    at_value : (v : ValueName) → type_among no_definitions v ≡ type_at [] v
    at_value (Result o i) = refl
    at_value (Arg o r i) = refl
    at_value (Free i) = refl

-- ---- what is no longer visible

some_both : {A : Type 0} (p : A → Bool) (xs ys : List A) → some p (xs ++ ys) ≡ (some p xs || some p ys)
some_both p [] ys = refl
some_both p (x ∷ xs) ys = at_first (p x) (some p xs) (some p ys) (some_both p xs ys)
  where
    at_first : (b d e : Bool) {c : Bool} → c ≡ (d || e) → (b || c) ≡ ((b || d) || e)
    at_first true d e h = refl
    at_first false d e h = h

-- an operation without values becomes visible by nothing
not_entered_at : (b : Bool) (q n : ℕ) (ds : Definitions) → ds n ≡ None → eqb q n ≡ b
    → ds q ≡ (if b then None else ds q)
not_entered_at true q n ds e h = ap ds (eqb-true q n h) ∙ e
not_entered_at false q n ds e h = refl

pub not_entered : (n : ℕ) (ds : Definitions) → ds n ≡ None → ds ≡ with_definition n None ds
not_entered n ds e = same_definitions _ _ (λ q. not_entered_at (eqb q n) q n ds e refl)

-- one operation more was left, and its values with it
left_at : (a b c : Bool) (q n : ℕ) (d : Definition) (ds : Definitions) → ds n ≡ None → eqb q n ≡ c
    → (if (b || ((a && c) || false)) then None else (if c then (if a then Some d else None) else ds q))
    ≡ (if b then None else ds q)
left_at a true c q n d ds e h = refl
left_at true false true q n d ds e h = sym (ap ds (eqb-true q n h) ∙ e)
left_at false false true q n d ds e h = sym (ap ds (eqb-true q n h) ∙ e)
left_at true false false q n d ds e h = refl
left_at false false false q n d ds e h = refl

pub left_more : (ts : List Tree) (t : Tree) (d : Definition) (ds : Definitions) → ds t.name.0 ≡ None
    → without (ts ++ t ∷ []) (with_definition t.name.0 (definition_of t.results d) ds) ≡ without ts ds
left_more ts t d ds e = same_definitions _ _ (λ q.
    ap (λ b. if b then None else with_definition t.name.0 (definition_of t.results d) ds q)
    (some_both (λ (x : Tree). has_types x.results && eqb q x.name.0) ts (t ∷ []))
    ∙ left_at (has_types t.results) (some (λ (x : Tree). has_types x.results && eqb q x.name.0) ts) (eqb q t.name.0) q
    t.name.0 d ds e refl)

first_left_at : (b c : Bool) (x : Option Definition)
    → (if (b || c) then None else x) ≡ (if c then None else (if b then None else x))
first_left_at true true x = refl
first_left_at true false x = refl
first_left_at false c x = refl

first_left_by : (a : Bool) (n : ℕ) (ts : List Tree) (ds : Definitions) (q : ℕ)
    → (if ((a && eqb q n) || some (λ (x : Tree). has_types x.results && eqb q x.name.0) ts) then None else ds q)
    ≡ without ts (if a then with_definition n None ds else ds) q
first_left_by true n ts ds q =
    first_left_at (eqb q n) (some (λ (x : Tree). has_types x.results && eqb q x.name.0) ts) (ds q)
first_left_by false n ts ds q = refl

-- the first of some operations is left, and then the others
pub first_left : (t : Tree) (ts : List Tree) (ds : Definitions)
    → without (t ∷ ts) ds ≡ without ts (if has_types t.results then with_definition t.name.0 None ds else ds)
first_left t ts ds = same_definitions _ _ (first_left_by (has_types t.results) t.name.0 ts ds)

-- an operation whose values were not visible is left
back_at : (b : Bool) (q n : ℕ) (d : Option Definition) (ds : Definitions) → ds n ≡ None → eqb q n ≡ b
    → (if b then None else (if b then d else ds q)) ≡ ds q
back_at true q n d ds e h = sym (ap ds (eqb-true q n h) ∙ e)
back_at false q n d ds e h = refl

pub entered_left : (b : Bool) (n : ℕ) (d : Definition) (ds : Definitions) → ds n ≡ None
    → (if b then with_definition n None (with_definition n (if b then Some d else None) ds)
    else with_definition n (if b then Some d else None) ds) ≡ ds
entered_left true n d ds e = same_definitions _ _ (λ q. back_at (eqb q n) q n (Some d) ds e refl)
entered_left false n d ds e = sym (not_entered n ds e)

pub leave_on : (ts : List Tree) (i : ℕ) (t : Tree) → t ≡ get_or ts i t → i < length ts → (ds es total : Definitions)
    → es ≡ (if has_types t.results then with_definition t.name.0 None ds else ds) → without (drop i ts) ds ≡ total
    → without (drop (i + 1) ts) es ≡ total
leave_on ts i t is lt ds es total e h =
    ap (without (drop (i + 1) ts)) e ∙ sym (first_left t (drop (i + 1) ts) ds)
    ∙ ap (λ x. without (x ∷ drop (i + 1) ts) ds) is ∙ sym (at_drop_more (λ xs. without xs ds) ts i t lt) ∙ h

-- ---- the types of operands

copied_is : (o : Option (Bor PayloadType)) → operand_type o ≡ option_copied o
copied_is None = refl
copied_is (Some t) = refl

types_push : (xs : List (Option (Bor PayloadType))) (x : Option (Bor PayloadType))
    → operand_types (xs ++ x ∷ []) ≡ operand_types xs ++ operand_type x ∷ []
types_push [] x = refl
types_push (y ∷ xs) x = ap (λ (os : List (Option PayloadType)). operand_type y ∷ os) (types_push xs x)

pub types_on : (see : Sees) (vs : List ValueName) (i : ℕ) (d : ValueName) → i < length vs
    → (xs ys : List (Option (Bor PayloadType))) (x : Option (Bor PayloadType)) (total : List (Option PayloadType)) →
    ys ≡ xs ++ x ∷ [] → option_copied x ≡ see (get_or vs i d) → operand_types xs ++ map see (drop i vs) ≡ total
    → operand_types ys ++ map see (drop (i + 1) vs) ≡ total
types_on see vs i d lt xs ys x total p e h =
    ap (λ zs. operand_types zs ++ map see (drop (i + 1) vs)) p
    ∙ ap (λ zs. zs ++ map see (drop (i + 1) vs)) (types_push xs x)
    ∙ append_assoc (operand_types xs) (operand_type x ∷ []) (map see (drop (i + 1) vs))
    ∙ ap (λ (o : Option PayloadType). operand_types xs ++ (o ∷ map see (drop (i + 1) vs))) (copied_is x ∙ e)
    ∙ sym (at_drop_more (λ us. operand_types xs ++ map see us) vs i d lt)
    ∙ h

-- the last type is that of the last operand
pub last_is : (xs : List (Option (Bor PayloadType))) (x : Option (Bor PayloadType))
    → Some x ≡ slice_get xs (length xs - 1) → last_type (operand_types xs) ≡ operand_type x
last_is [] x h = absurd (cc)
last_is (y ∷ []) x h = ap operand_type (let e : Some x ≡ Some y = h in cc)
last_is (y ∷ (z ∷ xs)) x h =
    let e : length (y ∷ (z ∷ xs)) - 1 ≡ suc (length (z ∷ xs) - 1) = omega arith in
    last_is (z ∷ xs) x (subst (λ k. Some x ≡ slice_get (y ∷ (z ∷ xs)) k) e h)
