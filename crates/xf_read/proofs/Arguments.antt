-- Arguments that are entered one by one.
use Rattle.std.proofs.Common.{◌≡◌, ℕ, ◌+◌, List, ◌∷◌, map, Option, ◌∙◌}
use Rattle.std.specs.Prelude.{slice_get}
use Rattle.xf_type.specs.declared.payload_type.PayloadType.{PayloadType}
use Rattle.xf_lex.specs.declared.token.Token.{Token}
use Rattle.xf_format.specs.declared.parts.Ref.{Ref}
use Rattle.xf_format.specs.Parts.{text_at, arg_said}
use Rattle.xf_read.specs.declared.scope.VisibleNames.{VisibleNames as Visible}
use Rattle.xf_read.specs.Names.{earlier, argument_named, with_arguments, visible_at, args_twice}
use Rattle.xf_read.specs.Scopes.{with_name}
use Rattle.xf_read.specs.Visible.{names_in, Grows}
use Rattle.xf_read.proofs.Earlier.{earlier_regrouped}
use Rattle.xf_read.proofs.Scoping.{grows_on}

-- what was found and entered, with the arguments that are left, is what all of them give
pub record ArgsLeft (all : List Token) (n : ℕ) (ts : List PayloadType) (rs : List Ref) (start : Visible)
    (scope : Visible) (t : Option ℕ) (i : ℕ) (rest : List Ref) : Type 0 where
  pub twice : earlier t (args_twice all n i ts rest (names_in scope)) ≡ args_twice all n 0 ts rs (names_in start)
  pub names : with_arguments n i ts (map (arg_said all) rest) (names_in scope)
      ≡ with_arguments n 0 ts (map (arg_said all) rs) (names_in start)
  pub grows : Grows start scope

pub one_entered : (all : List Token) (n : ℕ) (ts : List PayloadType) (rs : List Ref) (start scope new : Visible)
    (t u : Option ℕ) (i : ℕ) (r : Ref) (rest : List Ref) → ArgsLeft all n ts rs start scope t i (r ∷ rest)
    → u ≡ earlier t (visible_at all (names_in scope) r.token)
    → names_in new ≡ with_name (text_at all r.token) (argument_named n i (slice_get ts i)) (names_in scope)
    → Grows scope new → ArgsLeft all n ts rs start new u (i + 1) rest
one_entered all n ts rs start scope new t u i r rest h e p g = record {
  twice = rw (e, p) (earlier_regrouped t (visible_at all (names_in scope) r.token) _ ∙ h.twice);
  names = rw p h.names;
  grows = grows_on start scope new h.grows g;
}
