-- Uses that are looked up one by one.
use Rattle.std.proofs.Common.{◌≡◌, ℕ, ◌+◌, ◌&&◌, Bool, true, false, List, [], ◌∷◌, ◌++◌, map, Option, Some, None}
use Rattle.std.proofs.Common.{refl, sym, ◌∙◌, append_assoc, append-nil}
use Rattle.std.specs.Prelude.{if◌then◌else◌}
use Rattle.std.proofs.Math.Bool.{and_assoc}
use Rattle.std.specs.Option.{option_or}
use Rattle.xf_lex.specs.declared.token.Token.{Token}
use Rattle.xf_format.specs.declared.parts.Use.{Use}
use Rattle.xf_format.specs.Parts.{use_said, Said}
use Rattle.xf_ir.specs.declared.name.ValueName.{ValueName}
use Rattle.xf_read.specs.declared.uses.Used.{Used}
use Rattle.xf_read.specs.Names.{undefined_in, uses_fit}
use Rattle.xf_read.specs.Types.{stated_type, fits}
use Rattle.xf_read.specs.Scopes.{Meanings, use_means, use_value, use_type}

abbrev values_of : List Token → Meanings → List Use → List ValueName
values_of all scope us = map (use_value scope) (map (use_said all) us)

-- what was found, with what the uses that are left stand for, is what all uses stand for
pub record UsesLeft (all : List Token) (scope : Meanings) (t : Said) (us : List Use) (x : Used) (i : ℕ)
    (rest : List Use) : Type 0 where
  pub values : x.values ++ values_of all scope rest ≡ values_of all scope us
  pub undefined : option_or x.undefined (undefined_in all scope rest) ≡ undefined_in all scope us
  pub fit : (x.fit && uses_fit scope t i (map (use_said all) rest)) ≡ uses_fit scope t 0 (map (use_said all) us)

or_first : (a : Option ℕ) (b : Bool) (n : ℕ) (r : Option ℕ)
    → option_or (option_or a (if b then None else Some n)) r ≡ option_or a (if b then r else Some n)
or_first None true n r = refl
or_first None false n r = refl
or_first (Some i) b n r = refl

or_none : (a : Option ℕ) → a ≡ option_or a None
or_none None = refl
or_none (Some i) = refl

and_true : (a : Bool) → a ≡ (a && true)
and_true true = refl
and_true false = refl

module _ (all : List Token) (scope : Meanings) (t : Said) (us : List Use) (x : Used) (i : ℕ) where
  pub one_used : (u : Use) (rest : List Use) (y : Used) → UsesLeft all scope t us x i (u ∷ rest)
      → y.values ≡ x.values ++ use_value scope (use_said all u) ∷ []
      → y.undefined ≡ option_or x.undefined (if use_means scope (use_said all u) then None else Some u.token)
      → y.fit ≡ (x.fit && fits (stated_type t i) (use_type scope (use_said all u)))
      → UsesLeft all scope t us y (i + 1) rest
  one_used u rest y h e f g = record {
    values = rw e (append_assoc x.values (use_value scope (use_said all u) ∷ []) (values_of all scope rest) ∙ h.values);
    undefined =
        rw f (or_first x.undefined (use_means scope (use_said all u)) u.token (undefined_in all scope rest)
        ∙ h.undefined);
    fit = rw g (and_assoc x.fit _ _ ∙ h.fit);
  }

  pub all_used : UsesLeft all scope t us x i []
      → (x.values ≡ values_of all scope us) × ((x.undefined ≡ undefined_in all scope us)
      × (x.fit ≡ uses_fit scope t 0 (map (use_said all) us)))
  all_used h =
      (sym (append-nil x.values) ∙ h.values, (or_none x.undefined ∙ h.undefined, and_true x.fit ∙ h.fit))
