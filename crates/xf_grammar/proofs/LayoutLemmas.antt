-- The tokens of a text that is laid out stand where a grammar reads them.
use Rattle.std.proofs.Common.{◌≡◌, suc, ◌+◌, List, [], ◌∷◌, ◌++◌, length, Some, refl, ap, subst, arith, slice_get}
use Rattle.std.proofs.Common.{append_assoc, length-append}
use Rattle.std.specs.Prelude.{map}
use Rattle.xf_lex.specs.declared.token.Token.{Token}
use Rattle.xf_lex.specs.Layout.{Plain, plain}
use Rattle.xf_grammar.specs.Tokens.{terminal_of}
use Rattle.xf_grammar.specs.Grammar.{AllStand}
use Rattle.xf_grammar.specs.Layout.{terminals_plain}

get_behind : (front ts : List Token) (t : Token) → slice_get (front ++ t ∷ ts) (length front) ≡ Some t
get_behind [] ts t = refl
get_behind (u ∷ front) ts t = get_behind front ts t

stand_behind : (front ts : List Token)
    → AllStand (front ++ ts) (length front) (terminals_plain (map plain ts)) (length front + length ts)
stand_behind front [] = omega arith
stand_behind front (t ∷ ts) =
    let e : length (front ++ t ∷ []) ≡ length front + 1 = length-append front (t ∷ []) in
    let r = stand_behind (front ++ t ∷ []) ts in
    let r1 = subst (λ us. AllStand us (length (front ++ t ∷ [])) (terminals_plain (map plain ts))
    (length (front ++ t ∷ []) + length ts)) (append_assoc front (t ∷ []) ts) r in
    let r2 = subst (λ n. AllStand (front ++ t ∷ ts) n (terminals_plain (map plain ts)) (n + length ts)) e r1 in
    let n : length front + 1 + length ts ≡ length front + suc (length ts) = omega arith in (
      ap terminal_of (get_behind front ts t),
      subst (λ k. AllStand (front ++ t ∷ ts) (length front + 1) (terminals_plain (map plain ts)) k) n r2,
    )

-- all tokens of a text stand in it
pub laid_stand : (ts : List Token) (ps : List Plain) → map plain ts ≡ ps
    → AllStand ts 0 (terminals_plain ps) (length ts)
laid_stand ts ps e =
    let z : 0 + length ts ≡ length ts = omega arith in
    subst (λ qs. AllStand ts 0 (terminals_plain qs) (length ts)) e
    (subst (λ n. AllStand ts 0 (terminals_plain (map plain ts)) n) z (stand_behind [] ts))
