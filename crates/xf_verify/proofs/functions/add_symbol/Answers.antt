use Rattle.std.proofs.Common.{◌≡◌, Bool, true, false, cond, refl, ap, ◌∙◌}
use Rattle.std.specs.Prelude.{◌||◌}
use Rattle.std.specs.Str.{bytes_eq}
use Rattle.std.proofs.lemmas.Map.Text.{is_eq-slice_cmp}
use Rattle.xf_verify.specs.Symbols.{symbols_seen}
use Rattle.xf_verify.proofs.SymbolLemmas.{same_symbols}
use Rattle.xf_verify.proofs.functions.add_symbol.Goals as goal

cond_or : (b c : Bool) → cond b true c ≡ (b || c)
cond_or true c = refl
cond_or false c = refl

pub returns-in_ok-insert-in-Func-clause-symbols : goal.returns-in_ok-insert-in-Func-clause-symbols
returns-in_ok-insert-in-Func-clause-symbols c =
    let key = c.as_slice.result.now in
    let old = symbols_seen c.args.symbols.now in
    rw c.in-Func.is (same_symbols _ _ (λ s.
    c.in_ok-insert-in-Func.ensures.updates.0 (record { ref_ptr = (0, 0); now = s })
    ∙ ap (λ b. cond b true (old s)) (is_eq-slice_cmp key s)
    ∙ cond_or (bytes_eq key s) (old s)
    ∙ ap (λ k. bytes_eq k s || old s) c.as_slice.ensures))
