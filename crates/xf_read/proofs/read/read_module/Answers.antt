use Rattle.std.proofs.Common.{sym, subst, ◌∙◌, arith}
use Rattle.xf_lex.specs.Lexes.{Lexes}
use Rattle.xf_read.specs.Spells.{IsUnread}
use Rattle.xf_read.proofs.Counting.{few_operations}
use Rattle.xf_read.proofs.Meanings.{none_found, stopped_is_unread}
use Rattle.xf_read.proofs.read.read_module.Goals as goal

pub build-requires : goal.build-requires
build-requires c =
    let few = few_operations c.as_slice-tokens.result.now c.in-Ok.file c.in-Ok.ensures.exact in
    omega (arith, few)

pub returns-clause-spells : goal.returns-clause-spells
returns-clause-spells c =
    let ts = c.as_slice-tokens.result.now in
    let built = c.in_ok-built.ensures in
    let none = none_found ts c.in_ok-built.built.faults (sym c.first_fault.ensures ∙ c.in_default.is) in
    record {
      tokens = ts;
      file = c.in-Ok.file;
      lexes = subst (λ x. Lexes c.args.bytes.now x) (sym c.as_slice-tokens.ensures) c.in_ok-tokens.ensures.found;
      is_text = c.in-Ok.ensures.exact;
      no_fault = sym built.faults_are ∙ none;
      means = sym built.module_is;
    }

pub returns-in-Err-clause-fault : goal.returns-in-Err-clause-fault
returns-in-Err-clause-fault c =
    let ts = c.as_slice-tokens.result.now in
    let lexes : Lexes c.args.bytes.now ts = subst (λ x. Lexes c.args.bytes.now x) (sym c.as_slice-tokens.ensures)
    c.in_ok-tokens.ensures.found in
    subst (λ e. IsUnread c.args.bytes.now e) (sym c.unread.ensures)
    (stopped_is_unread c.args.bytes.now ts c.in-Err.fault lexes c.in-Err.ensures.exact c.in-Err.ensures.place)
