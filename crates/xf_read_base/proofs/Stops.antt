-- The place behind the last token.
use Rattle.std.proofs.Common.{◌≡◌, ℕ, zero, suc, ◌-◌, ◌≤◌, List, [], ◌∷◌, length, refl, sym, ap, ◌∙◌, arith, slice_index_or}
use Rattle.xf_span.specs.declared.place.Place.{Place}
use Rattle.xf_lex.specs.declared.token.Token.{Token}
use Rattle.xf_span.specs.Place.{first_place, place_after}
use Rattle.std.specs.Prelude.{slice_get}
use Rattle.xf_read_base.specs.Stops.{end_place, place_or_end, stop_place}

end_at : (q : Place) (ts : List Token) (n : ℕ) (t : Token) → length ts ≡ suc n → t ≡ slice_index_or ts n t → place_after t.place t.bytes ≡ end_place q ts
end_at q [] n t le e = absurd (omega arith)
end_at q (x ∷ []) zero t le e = ap (λ (u : Token). place_after u.place u.bytes) e
end_at q (x ∷ []) (suc n) t le e = absurd (omega arith)
end_at q (x ∷ y ∷ ts) zero t le e = absurd (omega arith)
end_at q (x ∷ y ∷ ts) (suc n) t le e = end_at (place_after x.place x.bytes) (y ∷ ts) n t (omega arith) e

behind_all : (ts all : List Token) (n : ℕ) → length ts ≤ n → place_or_end all (slice_get ts n) ≡ end_place first_place all
behind_all [] all n le = refl
behind_all (t ∷ ts) all zero le = absurd (omega arith)
behind_all (t ∷ ts) all (suc n) le = behind_all ts all n (omega arith)

pub stop_behind : (all : List Token) (at : ℕ) (t : Token) → length all ≤ at → 1 ≤ length all → t ≡ slice_index_or all (length all - 1) t → place_after t.place t.bytes ≡ stop_place all at
stop_behind all at t past le e = end_at first_place all (length all - 1) t (omega arith) e ∙ sym (behind_all all all at past)
