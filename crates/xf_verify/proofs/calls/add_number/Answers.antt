use Rattle.std.proofs.Common.{◌≡◌, Some, ℕ, List, true, false, sym, ap, ◌∙◌}
use Rattle.std.specs.Prelude.{is_some, if◌then◌else◌}
use Rattle.std.specs.Str.{bytes_eq}
use Rattle.std.proofs.lemmas.Map.Text.{btree_map_updates_str}
use Rattle.xf_verify.specs.Chains.{numbers_in}
use Rattle.xf_verify.proofs.ChainLemmas.{number_new, number_kept}
use Rattle.xf_verify.proofs.calls.add_number.Goals as goal

pub returns-in_ok-insert : goal.returns-in_ok-insert
returns-in_ok-insert c =
    let f = numbers_in c.args.numbers.now in
    let key = c.as_slice-symbol.ensures in
    let absent : is_some (f c.in-Func.symbol) ≡ false = ap (λ s. is_some (f s)) (sym key) ∙ sym c.contains_key.ensures
    ∙ c.if-not-contains_key.true in
    let new : (s : List ℕ)
    → numbers_in c.insert.new.self s ≡ (if bytes_eq c.in-Func.symbol s then Some c.args.number else f s) =
    (λ s. btree_map_updates_str c.as_slice-symbol.result.now c.args.numbers.now c.insert.new.self (Some c.args.number)
    c.in_ok-insert.ensures.updates s ∙ ap (λ k. if bytes_eq k s then Some c.args.number else f s) key) in
    rw c.in-Func.is (number_new c.in-Func.symbol c.args.number f (numbers_in c.insert.new.self) absent new)

pub returns-else-not-contains_key : goal.returns-else-not-contains_key
returns-else-not-contains_key c =
    let f = numbers_in c.args.numbers.now in
    let there : is_some (f c.in-Func.symbol) ≡ true = ap (λ s. is_some (f s)) (sym c.as_slice-symbol.ensures)
    ∙ sym c.contains_key.ensures ∙ c.if-not-contains_key.false in
    rw c.in-Func.is (number_kept c.in-Func.symbol c.args.number f there)
