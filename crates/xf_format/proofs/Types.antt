-- Where no width stands, a type is a tensor type.
use Rattle.std.proofs.Common.{◌≡◌, ℕ, Bool, List, None, refl}
use Rattle.xf_lex.specs.declared.token.Token.{Token}
use Rattle.xf_grammar.specs.Tokens.{word_at}
use Rattle.xf_format.specs.declared.parts.Parts.{Parts}
use Rattle.xf_format.specs.Actions.{Action}
use Rattle.xf_format.specs.Rules.{by, type_for, tensor_for}
use Rattle.xf_format.specs.Words.{lookup, widths}

pub no_width : (k : Action) (gap : Bool) (all : List Token) (p : Parts) (at : ℕ) → lookup widths (word_at all at) ≡ None
    → by (type_for k gap) all p at ≡ by (tensor_for k gap) all p at
no_width k gap all p at e = rw e refl
