use Rattle.std.proofs.Common.{◌≡◌, List, Bool, sym, ap, ◌∙◌}
use Rattle.std.specs.Prelude.{map}
use Rattle.xf_ir.specs.Tree.{Ops}
use Rattle.xf_ir.specs.Calls.{signature, function_of, chains_end}
use Rattle.xf_verify.specs.Chains.{Numbers, numbers_in, number_from, pick, ends_there, ends_after, tree_calls}
use Rattle.xf_verify.proofs.ChainLemmas.{picked, chains_are}
use Rattle.xf_verify.proofs.calls.CallGraph.new.Goals as goal

pub returns-clause-signatures : goal.returns-clause-signatures
returns-clause-signatures c =
    let ts = c.functions_of-functions.result.now in
    λ i s. (ap (λ (n : Numbers). signature (pick ts (n s))) c.in_ok-numbers.ensures ∙ ap signature (picked ts s)
    ∙ ap (λ (fs : Ops). signature (function_of s fs)) c.functions_of-functions.ensures) i

pub returns-clause-ends : goal.returns-clause-ends
returns-clause-ends c =
    let ts = c.functions_of-functions.result.now in
    let calls : c.deref.result.now ≡ map (tree_calls (number_from 0 ts)) ts = c.deref.ensures.value
    ∙ c.in_ok-calls.ensures ∙ ap (λ (n : Numbers). map (tree_calls n) ts) c.in_ok-numbers.ensures in
    let ends : c.in_ok-ends.ends.items ≡ ends_after 31 (map (tree_calls (number_from 0 ts)) ts) = c.in_ok-ends.ensures
    ∙ ap (ends_after 31) calls in
    λ i s. (ap (λ (es : List Bool). ends_there es (numbers_in c.in_ok-numbers.numbers s)) ends ∙ ap (λ (n : Numbers).
    ends_there (ends_after 31 (map (tree_calls (number_from 0 ts)) ts)) (n s)) c.in_ok-numbers.ensures
    ∙ sym (chains_are ts 31 s) ∙ ap (λ (fs : Ops). chains_end fs 31 s) c.functions_of-functions.ensures) i
