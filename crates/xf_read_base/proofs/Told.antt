-- The head that is told of an operation of this reader.
use Rattle.std.proofs.Common.{◌≡◌, ℕ, false, List, Some, Ok, refl}
use Rattle.xf_lex.specs.declared.token.Token.{Token}
use Rattle.xf_format.specs.declared.row.Level.TheVariants as level
use Rattle.xf_format.specs.declared.row.Row.{Row}
use Rattle.xf_format.specs.Actions.{Reading}
use Rattle.xf_format.specs.Format.{payload_head_at}
use Rattle.xf_read_base.specs.declared.heads.Head.{Head}
use Rattle.xf_read_base.specs.Spelt.{head_of, head_spelt, is_other}
use Rattle.xf_read_base.specs.Structured.{no_aliases}

pub told : (all : List Token) (at : ℕ) (x : (Row × Reading) × ℕ) (h : Head) → is_other all at ≡ false
    → payload_head_at all level.Any at ≡ Ok x → h ≡ head_of no_aliases all x.0.1.parts x.1
    → head_spelt all at ≡ Ok (Some h)
told all at x h here is e = rw (here, is, e) refl
