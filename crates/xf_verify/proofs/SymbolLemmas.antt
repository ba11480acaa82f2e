-- Symbols that are different.
use Rattle.std.proofs.Common.{◌≡◌, ℕ, List, [], ◌∷◌, ◌++◌, Bool, true, false, eqb, ◌+◌, ◌<◌, get_or, drop, length, refl}
use Rattle.std.proofs.Common.{sym, ap, ◌∙◌}
use Rattle.std.specs.Prelude.{not, ◌&&◌, ◌||◌}
use Rattle.std.specs.Str.{bytes_eq}
use Rattle.xf_ir.specs.Lists.{same_bytes, is_text_among, texts_once}
use Rattle.std.proofs.lemmas.List.{at_drop_more}
use Rattle.xf_ir.specs.Tree.{Ops, Body}
use Rattle.xf_ir.specs.Valid.{symbols_of, symbols_in}
use Rattle.xf_ir.specs.View.{regions_of}
use Rattle.xf_verify.proofs.Truths.{eqb_sym}
use Rattle.xf_verify.specs.Symbols.{Symbols, no_symbols, with_symbol, with_symbols, new_symbols}

pub bytes_same : (s t : List ℕ) → bytes_eq s t ≡ same_bytes t s
bytes_same [] [] = refl
bytes_same [] (y ∷ t) = refl
bytes_same (x ∷ s) [] = refl
bytes_same (x ∷ s) (y ∷ t) = ap (λ b. b && bytes_eq s t) (eqb_sym x y) ∙ ap (λ b. eqb y x && b) (bytes_same s t)

pub bytes_is : (s t : List ℕ) → bytes_eq s t ≡ same_bytes s t
bytes_is [] [] = refl
bytes_is [] (y ∷ t) = refl
bytes_is (x ∷ s) [] = refl
bytes_is (x ∷ s) (y ∷ t) = ap (λ b. eqb x y && b) (bytes_is s t)

pub same_symbols : (f g : Symbols) → ((s : List ℕ) → f s ≡ g s) → f ≡ g
same_symbols f g h = λ i s. h s i

pub new_both : (seen : Symbols) (ss ts : List (List ℕ))
    → new_symbols seen (ss ++ ts) ≡ (new_symbols seen ss && new_symbols (with_symbols ss seen) ts)
new_both seen [] ts = refl
new_both seen (s ∷ ss) ts = at_first (not (seen s)) (new_symbols (with_symbol s seen) ss)
    (new_symbols (with_symbols ss (with_symbol s seen)) ts) _ (new_both (with_symbol s seen) ss ts)
  where
    at_first : (b d e c : Bool) → c ≡ (d && e) → (b && c) ≡ ((b && d) && e)
    at_first true d e c h = h
    at_first false d e c h = refl

-- whether none of the symbols is there
abbrev none_there : Symbols → List (List ℕ) → Bool
none_there seen [] = true
none_there seen (s ∷ ss) = not (seen s) && none_there seen ss

none_with : (s : List ℕ) (seen : Symbols) (ss : List (List ℕ))
    → none_there (with_symbol s seen) ss ≡ (none_there seen ss && not (is_text_among s ss))
none_with s seen [] = refl
none_with s seen (t ∷ ss) = regroup (same_bytes t s) (bytes_eq s t) (bytes_same s t) (seen t) (none_there seen ss)
    (is_text_among s ss) _ (none_with s seen ss)
  where
    regroup : (a b : Bool) → b ≡ a → (c d e x : Bool) → x ≡ (d && not e)
        → (not (b || c) && x) ≡ ((not c && d) && not (a || e))
    regroup true true p true d e x h = refl
    regroup true true p false true e x h = refl
    regroup true true p false false e x h = refl
    regroup true false p c d e x h = absurd (cc)
    regroup false true p c d e x h = absurd (cc)
    regroup false false p true d e x h = refl
    regroup false false p false d e x h = h

apart_is : (seen : Symbols) (ss : List (List ℕ)) → new_symbols seen ss ≡ (none_there seen ss && texts_once ss)
apart_is seen [] = refl
apart_is seen (s ∷ ss) =
    regroup (not (seen s)) (none_there seen ss) (is_text_among s ss) (texts_once ss) _ (apart_is (with_symbol s seen) ss
    ∙ ap (λ b. b && texts_once ss) (none_with s seen ss))
  where
    regroup : (b c d e x : Bool) → x ≡ ((c && not d) && e) → (b && x) ≡ ((b && c) && (not d && e))
    regroup true true d e x h = h
    regroup true false d e x h = h
    regroup false c d e x h = refl

pub new_once : (ss : List (List ℕ)) → new_symbols no_symbols ss ≡ texts_once ss
new_once ss = apart_is no_symbols ss ∙ ap (λ b. b && texts_once ss) (all_new ss)
  where
    all_new : (ss : List (List ℕ)) → none_there no_symbols ss ≡ true
    all_new [] = refl
    all_new (s ∷ ss) = all_new ss

-- the symbols of one block, and of the others
pub blocks_on : (bs : List Body) (i : ℕ) (b : Body) → b ≡ get_or bs i b → i < length bs → (seen : Symbols) (os : Ops)
    → os ≡ b.ops →
    new_symbols seen (symbols_in (regions_of (drop i bs))) ≡ (new_symbols seen (symbols_of os)
    && new_symbols (with_symbols (symbols_of os) seen) (symbols_in (regions_of (drop (i + 1) bs))))
blocks_on bs i b is lt seen os e =
    at_drop_more (λ xs. new_symbols seen (symbols_in (regions_of xs))) bs i b lt
    ∙ ap (λ x. new_symbols seen (symbols_in (regions_of (x ∷ drop (i + 1) bs)))) (sym is)
    ∙ ap (λ x. new_symbols seen (symbols_of x ++ symbols_in (regions_of (drop (i + 1) bs)))) (sym e)
    ∙ new_both seen (symbols_of os) (symbols_in (regions_of (drop (i + 1) bs)))
