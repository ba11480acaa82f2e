-- Why a file of which a part is refused holds no payload.
use Rattle.std.proofs.Common.{◌≡◌, ◌≤◌, ℕ, List, length, Option, None, Some, inl, inr, refl, sym, ap, ◌∙◌}
use Rattle.std.specs.Prelude.{option_map}
use Rattle.xf_span.specs.declared.place.Place.{Place}
use Rattle.xf_span.specs.declared.fault.TextFault.{TextFault}
use Rattle.xf_span.specs.declared.fault.TextFault.TheVariants as text_fault
use Rattle.xf_ir.specs.declared.name.OpName.{OpName}
use Rattle.xf_ir.specs.declared.op.Module.{Module}
use Rattle.xf_ir.specs.declared.rule.Rule.{Rule}
use Rattle.xf_ir.specs.declared.rule.Rule.TheVariants as rule
use Rattle.xf_ir.specs.Rules.{number, numbered}
use Rattle.xf_ir.specs.Violations.{Violation, first_violation}
use Rattle.xf_verify.specs.declared.fault.VerifyFault.TheVariants as verify_fault
use Rattle.xf_verify.specs.Answers.{fault_of}
use Rattle.xf_read.specs.Spells.{Spells, HasPlaces, IsUnread}
use Rattle.xf_span.specs.Limit.{file_limit}
use Rattle.xf_payload.specs.Payload.{rule_fault, IsRefused, IsJudged}

-- its bytes spell no module
pub unread_refused : (file : List ℕ) (e : TextFault) → length file ≤ file_limit → IsUnread file e → IsRefused file e
unread_refused file (text_fault.At f) fits misspells = inr (inl (record { fits = fits; misspells = misspells }))
unread_refused file text_fault.NoMemory fits misspells = tt

-- its module breaks a rule
pub judged_refused : (file : List ℕ) (m : Module) (places : List Place) (e : TextFault) → length file ≤ file_limit
    → Spells file m → HasPlaces file places → IsJudged m places e → IsRefused file e
judged_refused file m places (text_fault.At f) fits s p j =
    inr (inr (record {
      fits = fits;
      before = m;
      places = places;
      spells = s;
      has_places = p;
      violation = j.0;
      breaks = j.1.0;
      is = j.1.1;
    }))
judged_refused file m places text_fault.NoMemory fits s p j = tt

-- ---- what the verifier tells

numbered_back : (r : Rule) → numbered (number r) ≡ r
numbered_back rule.Names = refl
numbered_back rule.Functions = refl
numbered_back rule.Regions = refl
numbered_back rule.Blocks = refl
numbered_back rule.Uses = refl
numbered_back rule.Types = refl
numbered_back rule.Attributes = refl
numbered_back rule.Callees = refl
numbered_back rule.Chains = refl
numbered_back rule.Maps = refl
numbered_back rule.Iterators = refl
numbered_back rule.Reductions = refl
numbered_back rule.Extents = refl
numbered_back rule.Bodies = refl
numbered_back rule.Ranges = refl
numbered_back rule.Slices = refl

-- the number that is told is that of the rule
told_from : (m : Module) (places : List Place) (n : ℕ) (op : OpName) (o : Option Violation) → first_violation m ≡ o
    → option_map fault_of o ≡ Some (verify_fault.Rule n op)
    → IsJudged m places (text_fault.At (rule_fault places (record { rule = numbered n; op = op })))
told_from m places n op None e h = absurd (cc)
told_from m places n op (Some v) e h =
    let number_is : number v.rule ≡ n = cc in
    let op_is : v.op ≡ op = cc in
    let rule_is : numbered n ≡ v.rule = ap numbered (sym number_is) ∙ numbered_back v.rule in (
      v,
      (
        e,
        ap (λ (r : Rule). rule_fault places (let x : Violation = record { rule = r; op = op } in x)) rule_is ∙ ap (λ
            (a : OpName). rule_fault places (let x : Violation = record { rule = v.rule; op = a } in x)) (sym op_is),
      ),
    )

pub verdict_told : (m : Module) (places : List Place) (n : ℕ) (op : OpName)
    → option_map fault_of (first_violation m) ≡ Some (verify_fault.Rule n op)
    → IsJudged m places (text_fault.At (rule_fault places (record { rule = numbered n; op = op })))
verdict_told m places n op h = told_from m places n op (first_violation m) refl h
