-- The numbers of functions, what each calls, and how deep.
use Rattle.std.proofs.Common.{◌≡◌, ℕ, zero, suc, ◌+◌, ◌<◌, List, [], ◌∷◌, ◌++◌, length, get_or, drop, Option, None}
use Rattle.std.proofs.Common.{Some, Bool, true, false, refl, sym, ap, ◌∙◌, append_assoc, add-one}
use Rattle.std.specs.Prelude.{map, slice_get, if◌then◌else◌, ◌&&◌, unwrap_or, is_none, is_some, replicate}
use Rattle.std.proofs.lemmas.List.{at_drop_more}
use Rattle.std.proofs.lemmas.Option.{slice_get-map}
use Rattle.std.specs.Option.{option_map}
use Rattle.xf_ir.specs.Tree.{Tree}
use Rattle.xf_ir.specs.View.{ops_of}
use Rattle.xf_ir.specs.Lists.{every}
use Rattle.xf_ir.specs.Walk.{first_of}
use Rattle.xf_ir.specs.Calls.{has_symbol, function_of, callee_before, ops_callees, regions_callees, callees_of}
use Rattle.xf_ir.specs.Calls.{chains_end}
use Rattle.xf_verify.specs.Chains.{Numbers, with_number, number_from, pick, number_before, numbers_called, tree_calls}
use Rattle.xf_verify.specs.Chains.{ends_at, ends_there, ends_after}
use Rattle.std.specs.Str.{bytes_eq}
use Rattle.std.proofs.lemmas.Slice.Eq.{bytes_eq-Decides}
use Rattle.xf_ir.specs.Kinds.{callee_of}
use Rattle.xf_ir.specs.Lists.{same_bytes}
use Rattle.xf_verify.proofs.SymbolLemmas.{bytes_is}
use Rattle.xf_verify.proofs.KindLemmas.{item_first}

pub same_numbers : (f g : Numbers) → ((s : List ℕ) → f s ≡ g s) → f ≡ g
same_numbers f g h = λ i s. h s i

-- ---- numbers

first_then : (a : Option ℕ) (b : Bool) (i : ℕ) (c : Option ℕ)
    → first_of (first_of a (if b then Some i else None)) c ≡ first_of a (if b then Some i else c)
first_then None true i c = refl
first_then None false i c = refl
first_then (Some x) b i c = refl

pub numbers_more : (ts : List Tree) (i : ℕ) (t : Tree) → t ≡ get_or ts i t → i < length ts → (f g total : Numbers)
    → g ≡ with_number t.kind i f →
    ((s : List ℕ) → first_of (f s) (number_from i (drop i ts) s) ≡ total s) → (s : List ℕ)
    → first_of (g s) (number_from (i + 1) (drop (i + 1) ts) s) ≡ total s
numbers_more ts i t is lt f g total e h s =
    ap (λ (n : Numbers). first_of (n s) (number_from (i + 1) (drop (i + 1) ts) s)) e
    ∙ first_then (f s) (has_symbol s t.kind) i (number_from (i + 1) (drop (i + 1) ts) s)
    ∙ ap (λ x. first_of (f s) (number_from i (x ∷ drop (i + 1) ts) s)) is
    ∙ sym (at_drop_more (λ xs. first_of (f s) (number_from i xs s)) ts i t lt)
    ∙ h s

none_more : (a : Option ℕ) → first_of a None ≡ a
none_more None = refl
none_more (Some x) = refl

numbers_kept_at : (o : Option ℕ) (b : Bool) (i : ℕ) → (b ≡ true → is_some o ≡ true)
    → o ≡ first_of o (if b then Some i else None)
numbers_kept_at None true i h = absurd (let z = h refl in cc)
numbers_kept_at None false i h = refl
numbers_kept_at (Some x) b i h = refl

-- a symbol has a number already
pub number_kept : (symbol : List ℕ) (i : ℕ) (f : Numbers) → is_some (f symbol) ≡ true
    → f ≡ (λ s. first_of (f s) (if same_bytes symbol s then Some i else None))
number_kept symbol i f h = same_numbers f _ (λ s. numbers_kept_at (f s) (same_bytes symbol s) i
    (λ e. ap (λ x. is_some (f x)) (sym ((bytes_eq-Decides symbol s).0 (bytes_is symbol s ∙ e))) ∙ h))

numbers_new_at : (b : Bool) (o : Option ℕ) (i : ℕ) → (b ≡ true → is_some o ≡ false)
    → (if b then Some i else o) ≡ first_of o (if b then Some i else None)
numbers_new_at true None i h = refl
numbers_new_at true (Some x) i h = absurd (let z = h refl in cc)
numbers_new_at false None i h = refl
numbers_new_at false (Some x) i h = refl

-- a symbol gets a number
pub number_new : (symbol : List ℕ) (i : ℕ) (f g : Numbers)
    → is_some (f symbol) ≡ false → ((s : List ℕ) → g s ≡ (if bytes_eq symbol s then Some i else f s))
    → g ≡ (λ s. first_of (f s) (if same_bytes symbol s then Some i else None))
number_new symbol i f g h e = same_numbers g _ (λ s. e s ∙ ap (λ b. if b then Some i else f s) (bytes_is symbol s)
    ∙ numbers_new_at (same_bytes symbol s) (f s) i
    (λ p. ap (λ x. is_some (f x)) (sym ((bytes_eq-Decides symbol s).0 (bytes_is symbol s ∙ p))) ∙ h))

pub numbers_all : (f total : Numbers) (i : ℕ)
    → ((s : List ℕ) → first_of (f s) (number_from i [] s) ≡ total s) → f ≡ total
numbers_all f total i h = same_numbers f total (λ s. sym (none_more (f s)) ∙ h s)

-- ---- calls

called_before : (o : Option ℕ) (xs ys : List ℕ) → number_before o (xs ++ ys) ≡ number_before o xs ++ ys
called_before None xs ys = refl
called_before (Some i) xs ys = refl

pub called_both : (f : Numbers) (a b : List (List ℕ))
    → numbers_called f (a ++ b) ≡ numbers_called f a ++ numbers_called f b
called_both f [] b = refl
called_both f (s ∷ a) b =
    ap (number_before (f s)) (called_both f a b) ∙ called_before (f s) (numbers_called f a) (numbers_called f b)

pub calls_more : (f : Numbers) (ts : List Tree) (i : ℕ) (t : Tree) → t ≡ get_or ts i t → i < length ts
    → (rest : List (List ℕ)) (xs ys zs total : List ℕ) →
    ys ≡ xs ++ numbers_called f (callee_before t.kind []) → zs ≡ ys ++ numbers_called f (regions_callees t.regions) →
    xs ++ numbers_called f (ops_callees (ops_of (drop i ts)) ++ rest) ≡ total
    → zs ++ numbers_called f (ops_callees (ops_of (drop (i + 1) ts)) ++ rest) ≡ total
calls_more f ts i t is lt rest xs ys zs total p q h =
    ap (λ x. x ++ numbers_called f (ops_callees (ops_of (drop (i + 1) ts)) ++ rest)) (q
    ∙ ap (λ x. x ++ numbers_called f (regions_callees t.regions)) p)
    ∙ regrouped xs (callee_before t.kind []) (regions_callees t.regions) (ops_callees (ops_of (drop (i + 1) ts))) rest
    ∙ ap (λ x. xs ++ numbers_called f (x ++ rest))
    (sym (item_first (callee_of t.kind) (regions_callees t.regions ++ ops_callees (ops_of (drop (i + 1) ts)))))
    ∙ ap (λ x. xs ++ numbers_called f (ops_callees (ops_of (x ∷ drop (i + 1) ts)) ++ rest)) is
    ∙ sym (at_drop_more (λ us. xs ++ numbers_called f (ops_callees (ops_of us) ++ rest)) ts i t lt)
    ∙ h
  where
    regrouped : (xs : List ℕ) (b c o r : List (List ℕ)) → ((xs ++ numbers_called f b) ++ numbers_called f c)
        ++ numbers_called f (o ++ r) ≡ xs ++ numbers_called f ((b ++ (c ++ o)) ++ r)
    regrouped xs b c o r = simp (called_both, append_assoc)

-- ---- the function of a symbol

pick_on : {A : Type 0} (x : A) (xs : List A) (o : Option ℕ) → pick (x ∷ xs) (option_map (λ j. j + 1) o) ≡ pick xs o
pick_on x xs None = refl
pick_on x xs (Some i) = ap (slice_get (x ∷ xs)) (add-one i)

number_on : (i : ℕ) (ts : List Tree) (s : List ℕ)
    → number_from (i + 1) ts s ≡ option_map (λ j. j + 1) (number_from i ts s)
number_on i [] s = refl
number_on i (t ∷ ts) s =
    at_test (has_symbol s t.kind) (number_from (i + 1 + 1) ts s) (number_from (i + 1) ts s) (number_on (i + 1) ts s)
  where
    at_test : (b : Bool) (x y : Option ℕ) → x ≡ option_map (λ j. j + 1) y
        → (if b then Some (i + 1) else x) ≡ option_map (λ j. j + 1) (if b then Some i else y)
    at_test true x y h = refl
    at_test false x y h = h

pub picked : (ts : List Tree) (s : List ℕ) → pick ts (number_from 0 ts s) ≡ function_of s (ops_of ts)
picked [] s = refl
picked (t ∷ ts) s = at_test (has_symbol s t.kind) (number_from 1 ts s) (ap (pick (t ∷ ts)) (number_on 0 ts s)
    ∙ pick_on t ts (number_from 0 ts s) ∙ picked ts s)
  where
    at_test : (b : Bool) (o : Option ℕ) {x : Option Tree} → pick (t ∷ ts) o ≡ x
        → pick (t ∷ ts) (if b then Some 0 else o) ≡ (if b then Some t else x)
    at_test true o h = refl
    at_test false o h = h

-- ---- chains

pick_map : {A B : Type 0} (f : A → B) (xs : List A) (o : Option ℕ) → pick (map f xs) o ≡ option_map f (pick xs o)
pick_map f xs None = refl
pick_map f xs (Some i) = slice_get-map f xs i

-- the callees that are functions decide
all_called : (ends : List Bool) (f : Numbers) (chain : List ℕ → Bool) → ((s : List ℕ) → chain s ≡ ends_there ends (f s))
    → (ss : List (List ℕ)) → every chain ss ≡ every (ends_at ends) (numbers_called f ss)
all_called ends f chain h [] = refl
all_called ends f chain h (s ∷ ss) = ap (λ b. b && every chain ss) (h s)
    ∙ at_number (f s) (every chain ss) (numbers_called f ss) (all_called ends f chain h ss)
  where
    at_number : (o : Option ℕ) (b : Bool) (is : List ℕ) → b ≡ every (ends_at ends) is
        → (ends_there ends o && b) ≡ every (ends_at ends) (number_before o is)
    at_number None b is h = h
    at_number (Some i) b is h = ap (λ x. ends_at ends i && x) h

module _ (ts : List Tree)
  where
    abbrev numbers : Numbers
    numbers = number_from 0 ts

    abbrev calls : List (List ℕ)
    calls = map (tree_calls numbers) ts

    at_none : (o : Option Tree)
        → is_none o ≡ unwrap_or (option_map (λ (c : List ℕ). false) (option_map (tree_calls numbers) o)) true
    at_none None = refl
    at_none (Some t) = refl

    at_some : (k : ℕ) → ((s : List ℕ) → chains_end (ops_of ts) k s ≡ ends_there (ends_after k calls) (numbers s))
        → (o : Option Tree) →
        every (chains_end (ops_of ts) k) (callees_of o)
        ≡ unwrap_or (option_map (every (ends_at (ends_after k calls))) (option_map (tree_calls numbers) o)) true
    at_some k h None = refl
    at_some k h (Some t) =
        all_called (ends_after k calls) numbers (chains_end (ops_of ts) k) h (regions_callees t.regions)

    found : {B : Type 0} (g : List ℕ → B) (s : List ℕ)
        → pick (map g calls) (numbers s) ≡ option_map g (option_map (tree_calls numbers) (function_of s (ops_of ts)))
    found g s = pick_map g calls (numbers s) ∙ ap (option_map g) (pick_map (tree_calls numbers) ts (numbers s)
        ∙ ap (option_map (tree_calls numbers)) (picked ts s))

    -- the table says which chains end
    pub chains_are : (k : ℕ) (s : List ℕ) → chains_end (ops_of ts) k s ≡ ends_there (ends_after k calls) (numbers s)
    chains_are zero s = at_none (function_of s (ops_of ts)) ∙ ap (λ o. unwrap_or o true) (sym (found (λ c. false) s))
    chains_are (suc k) s = at_some k (chains_are k) (function_of s (ops_of ts))
        ∙ ap (λ o. unwrap_or o true) (sym (found (every (ends_at (ends_after k calls))) s))

-- at first each function is one too many
pub none_end : (calls : List (List ℕ)) → replicate (length calls) false ≡ ends_after 0 calls
none_end [] = refl
none_end (c ∷ calls) = ap (λ (bs : List Bool). false ∷ bs) (none_end calls)
